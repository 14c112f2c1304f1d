-- The layer of a branch.
use Rattle.std.proofs.Common.{◌≡◌, ℕ, List, refl, sym, ap, ◌∙◌}
use Rattle.std.specs.Prelude.{Option, Result}
use Rattle.wf_frames.proofs.Names.{closed_last, fresh_none}
use Rattle.wf_frames.specs.Forks.{opened_in}
use Rattle.wf_frames.specs.Turns.{bound_all}
use Rattle.wf_scope.specs.Layers.{Layer, closed, fresh, new_layer, opened}
use Rattle.wf_scope.specs.declared.fault.AssignFault.{AssignFault}
use Rattle.wf_value.specs.Data.{Data}
use Rattle.wf_value.specs.Pairs.{Text}

-- a new layer that goes again leaves all as it was
pub branch_again : (outer : Option ℕ) (d n : ℕ) (ls ms new last : List Layer) → n ≡ fresh ls → ms ≡ opened outer d ls → last ≡ closed n new → closed n new ≡ closed n ms → last ≡ ls
branch_again outer d n ls ms new last e m l c =
    l ∙ c ∙ ap (closed n) m ∙ ap (λ (k : ℕ). closed k (opened outer d ls)) e ∙ closed_last (fresh ls) (new_layer (fresh ls) outer d) refl ls (fresh_none ls)

-- its names, by the number that it has
pub branch_bound : (limit was n o : ℕ) (xs : List (Text × Data)) (ls ms : List Layer) (r : Result (List Layer) AssignFault) → limit ≡ was → n ≡ fresh ls → ms ≡ opened_in o ls → bound_all limit n xs ms ≡ r → bound_all was (fresh ls) xs (opened_in o ls) ≡ r
branch_bound limit was n o xs ls ms r l e m t =
    sym (ap (λ (k : ℕ). bound_all k n xs ms) l ∙ ap (λ (k : ℕ). bound_all was k xs ms) e ∙ ap (bound_all was (fresh ls) xs) m) ∙ t
