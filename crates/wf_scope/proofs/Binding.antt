-- What binding and assigning answer.
use Rattle.std.proofs.Common.{◌≡◌, ◌<◌, ◌≤◌, ℕ, Bool, List, Ok, Err, ap, ◌∙◌}
use Rattle.std.specs.Prelude.{if◌then◌else◌, nat_le}
use Rattle.std.proofs.lemmas.Bool.{le-leb, lt-leb}
use Rattle.wf_value.specs.Data.{Data, depth}
use Rattle.wf_value.specs.Pairs.{Text}
use Rattle.wf_scope.specs.Changes.{bound}
use Rattle.wf_scope.specs.Layers.{Layer, put_at, total_of}
use Rattle.wf_scope.specs.declared.fault.AssignFault.TheVariants as fault

module _ (limit n : ℕ) (x : Text) (v : Data) (ls : List Layer) where
  pub fits : total_of (put_at n x v ls) ≤ limit → depth v ≤ 100 → bound limit n x v ls ≡ Ok (put_at n x v ls)
  fits h d =
      ap (λ (b : Bool). if b then (if nat_le (depth v) 100 then Ok (put_at n x v ls) else Err fault.TooDeep) else Err fault.TooLarge) (le-leb (total_of (put_at n x v ls)) limit h)
      ∙ ap (λ (b : Bool). if b then Ok (put_at n x v ls) else Err fault.TooDeep) (le-leb (depth v) 100 d)

  pub exceeds : limit < total_of (put_at n x v ls) → bound limit n x v ls ≡ Err fault.TooLarge
  exceeds h = ap (λ (b : Bool). if b then (if nat_le (depth v) 100 then Ok (put_at n x v ls) else Err fault.TooDeep) else Err fault.TooLarge) (lt-leb (total_of (put_at n x v ls)) limit h)

  pub nests : total_of (put_at n x v ls) ≤ limit → 100 < depth v → bound limit n x v ls ≡ Err fault.TooDeep
  nests h d =
      ap (λ (b : Bool). if b then (if nat_le (depth v) 100 then Ok (put_at n x v ls) else Err fault.TooDeep) else Err fault.TooLarge) (le-leb (total_of (put_at n x v ls)) limit h)
      ∙ ap (λ (b : Bool). if b then Ok (put_at n x v ls) else Err fault.TooDeep) (lt-leb (depth v) 100 d)
