-- The pairs of an environment.
use Rattle.std.proofs.Common.{◌≡◌, ◌<◌, ℕ, List, [], ◌∷◌, None, length, refl, arith}
use Rattle.wf_ast.specs.Apply.{env_in}

-- where no pair is left, no key has a value
pub none_in : (pairs : List (List ℕ × List ℕ)) (key : List ℕ) → length pairs < 1 → env_in pairs key ≡ None
none_in [] key none = refl
none_in (p ∷ pairs) key none = absurd (omega (arith, none))
