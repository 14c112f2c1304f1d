-- Where a decimal stands in some JSON.
use Rattle.std.specs.Prelude.{◌≡◌, ◌⊎◌, ℕ, zero, suc, List, [], ◌∷◌, None, Some}
use Rattle.serde_json.specs.Data as json
use Rattle.serde_json.specs.Find.{as_i64}
use Rattle.wf_value.specs.declared.path.PathPart.{PathPart}
use Rattle.wf_value.specs.declared.path.PathPart.TheVariants.{Key, Index}
use Rattle.wf_tree.specs.Json.{first_decimal}

-- a number that is no whole number of 64 bits stands at this path: of the JSON, of the item at an
-- index, of a member with a key
abbrev mutual
  pub IsDecimalAt : json.Data → List PathPart → Type 0
  IsDecimalAt (json.number n) [] = as_i64 n ≡ None
  IsDecimalAt (json.array js) (Index i ∷ p) = IsDecimalOfItem js i p
  IsDecimalAt (json.object ms) (Key k ∷ p) = IsDecimalOfMember ms k p
  IsDecimalAt _ _ = ⊥

  pub IsDecimalOfItem : json.Items → ℕ → List PathPart → Type 0
  IsDecimalOfItem json.no_items i p = ⊥
  IsDecimalOfItem (json.item j js) zero p = IsDecimalAt j p
  IsDecimalOfItem (json.item j js) (suc i) p = IsDecimalOfItem js i p

  pub IsDecimalOfMember : json.Members → List ℕ → List PathPart → Type 0
  IsDecimalOfMember json.no_members k p = ⊥
  IsDecimalOfMember (json.member l j ms) k p = ((k ≡ l) × IsDecimalAt j p) ⊎ IsDecimalOfMember ms k p

-- the path of the first decimal is the path of a decimal
abbrev pub PathsLead : Type 0
PathsLead = (j : json.Data) (p : List PathPart) → first_decimal j ≡ Some p → IsDecimalAt j p
