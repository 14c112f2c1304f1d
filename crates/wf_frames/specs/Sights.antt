-- What a task sees when it evaluates.
--     names_in      the variables of some layers, innermost first
--     Sees          the facts of a scene are these
use Rattle.std.specs.Prelude.{◌≡◌, ℕ, not, nat_le, List, [], ◌∷◌, ◌++◌}
use Rattle.wf_eval.specs.Sight.{Sight}
use Rattle.wf_frames.specs.declared.facts.Facts.{Facts}
use Rattle.wf_frames.specs.declared.sighted.Seen.{Seen}
use Rattle.wf_model.specs.Config.{limits}
use Rattle.wf_model.specs.Local.{Scene}
use Rattle.wf_scope.specs.Layers.{Layer, chain}
use Rattle.wf_scope.specs.Store.{layers_of}
use Rattle.wf_scope.specs.declared.scopes.Scopes.{Scopes}
use Rattle.wf_value.specs.Data.{Data}
use Rattle.wf_value.specs.Pairs.{Text}

abbrev pub names_in : List Layer → List (Text × Data)
names_in [] = []
names_in (l ∷ ls) = l.vars ++ names_in ls

-- what is seen from a layer
abbrev pub sight_from : Scopes → ℕ → Facts → Sight
sight_from x number f = record { names = names_in (chain number (layers_of x)); env = f.env; id = f.id; base = f.base }

abbrev pub sight_of : Seen → Sight
sight_of s = sight_from s.scopes.now s.layer.number s.facts.now

-- the facts of a scene are these
pub record Sees (s : Scene) (f : Facts) : Type 0 where
  pub env : s.facts.env ≡ f.env
  pub id : s.facts.id ≡ f.id
  pub base : s.facts.base ≡ f.base
  pub now : s.now ≡ f.now
  pub last : s.last ≡ f.last
  -- whether the task may stand in a parallel step more
  pub deeper : f.deeper ≡ not (nat_le (limits s.facts.rules).nesting s.nesting)
