-- What stands first in a journal.
--     NoFirst    the first record begins no history
--     Accepts    the program of a source, if it is one
use Rattle.std.specs.Prelude.{◌≡◌, ℕ, List, ◌∷◌, Option, Some, None}
use Rattle.wf_ast.specs.Tree.{Program}
use Rattle.wf_events.specs.Reading.{meaning}
use Rattle.wf_deeds.specs.History.{first_standing}
use Rattle.wf_deeds.specs.Language.{Language}
use Rattle.wf_source.specs.Programs.{IsSourceOf, IsRefusalOf}
use Rattle.wf_status.specs.declared.Refusal.{Refusal}

-- the payloads have a first one, which is no start whose source is accepted, and its number is told
pub record NoFirst (L : Language) (n : ℕ) (payloads : List (List ℕ)) : Type 0 where
  pub number : n ≡ 0
  pub payload : List ℕ
  pub rest : List (List ℕ)
  pub next : payloads ≡ payload ∷ rest
  pub first : first_standing L (meaning payload) ≡ None

-- a source is this program, or it is refused
abbrev pub Accepts : List ℕ → Option Program → Type 0
Accepts bytes (Some p) = IsSourceOf bytes p
Accepts bytes None = (r : Refusal) × IsRefusalOf bytes r
