-- What is seen from a layer.
use Rattle.std.proofs.Common.{◌≡◌, ◌<◌, inl, inr, ℕ, suc, true, List, [], ◌∷◌, Option, Some, None, is_some, refl, sym, ap, subst, ◌∙◌, arith}
use Rattle.std.proofs.lemmas.Bool.{and_parts, eqb-true, false≢true}
use Rattle.wf_value.specs.Data.{Data}
use Rattle.wf_value.specs.Maps.{value_at}
use Rattle.wf_value.specs.Pairs.{Text}
use Rattle.wf_scope.specs.Layers.{IsLive, Layer, all_stand, chain, chain_in, depth_in, find, holder_in, is_outside, look_in, stands, vars_at, vars_in}
use Rattle.wf_scope.proofs.Numbers.{found_cases}

-- ## The layer outside
found_stands : (n : ℕ) (ls rest : List Layer) (l : Layer) → all_stand ls rest ≡ true → find n rest ≡ Some l → stands l.outer l.depth ls ≡ true
found_stands n ls [] l h e = cc
found_stands n ls (x ∷ rest) l h e =
    let two = and_parts (stands x.outer x.depth ls) (all_stand ls rest) h in
    elim (found_cases n x rest l e) [
      | inl c ↦ subst (λ (y : Layer). stands y.outer y.depth ls ≡ true) c.1 two.0
      | inr c ↦ found_stands n ls rest l two.1 c.1
    ]

pub outside : (o d : ℕ) (ls : List Layer) → stands (Some o) d ls ≡ true → (y : Layer) × (find o ls ≡ Some y) × (d ≡ suc y.depth)
outside o d ls h = by (find o ls) refl h
  where
    by : (g : Option Layer) → find o ls ≡ g → is_outside d g ≡ true → (y : Layer) × (find o ls ≡ Some y) × (d ≡ suc y.depth)
    by None e t = absurd (false≢true t)
    by (Some y) e t = (y, e, eqb-true d (suc y.depth) t)

outer_of : (n o : ℕ) (ls : List Layer) (l : Layer) → all_stand ls ls ≡ true → find n ls ≡ Some l → l.outer ≡ Some o → (y : Layer) × (find o ls ≡ Some y) × (l.depth ≡ suc y.depth)
outer_of n o ls l h f e = outside o l.depth ls (ap (λ q. stands q l.depth ls) (sym e) ∙ found_stands n ls ls l h f)

-- it is live, and fewer stand around it
pub outer_live : (n o : ℕ) (ls : List Layer) (l : Layer) → all_stand ls ls ≡ true → find n ls ≡ Some l → l.outer ≡ Some o → IsLive o ls × (depth_in (find o ls) < depth_in (find n ls))
outer_live n o ls l h f e =
    let y = outer_of n o ls l h f e in
    (ap is_some y.1, omega (arith, y.2, ap depth_in y.1, ap depth_in f))

-- ## The chain
chain_here : (n : ℕ) (ls : List Layer) (l : Layer) → find n ls ≡ Some l → chain n ls ≡ l ∷ chain_in l.depth l.outer ls
chain_here n ls l f =
    ap (λ g. chain_in (suc (depth_in g)) (Some n) ls) f
    ∙ ap {B = List Layer} (λ g. elim g [ None ↦ [] | Some y ↦ y ∷ chain_in l.depth y.outer ls ]) f

pub chain_outer : (n o : ℕ) (ls : List Layer) (l : Layer) → all_stand ls ls ≡ true → find n ls ≡ Some l → l.outer ≡ Some o → chain n ls ≡ l ∷ chain o ls
chain_outer n o ls l h f e =
    let y = outer_of n o ls l h f e in
    chain_here n ls l f
    ∙ ap (λ q. l ∷ chain_in l.depth q ls) e
    ∙ ap (λ (m : ℕ). l ∷ chain_in m (Some o) ls) y.2
    ∙ sym (ap (λ g. l ∷ chain_in (suc (depth_in g)) (Some o) ls) y.1)

pub chain_last : (n : ℕ) (ls : List Layer) (l : Layer) → find n ls ≡ Some l → l.outer ≡ None → chain n ls ≡ l ∷ []
chain_last n ls l f e = chain_here n ls l f ∙ ap (λ q. l ∷ chain_in l.depth q ls) e

-- the layer itself has the name
pub look_here : (n : ℕ) (ls : List Layer) (l : Layer) (x : Text) (v : Data) → find n ls ≡ Some l → value_at x l.vars ≡ Some v → look_in x (chain n ls) ≡ Some v
look_here n ls l x v f e =
    ap (look_in x) (chain_here n ls l f) ∙ ap {B = Option Data} (λ g. elim g [ None ↦ look_in x (chain_in l.depth l.outer ls) | Some w ↦ Some w ]) e

pub holder_here : (n : ℕ) (ls : List Layer) (l : Layer) (x : Text) (v : Data) → find n ls ≡ Some l → value_at x l.vars ≡ Some v → holder_in x (chain n ls) ≡ Some l.number
holder_here n ls l x v f e =
    ap (holder_in x) (chain_here n ls l f) ∙ ap {B = Option ℕ} (λ g. elim g [ None ↦ holder_in x (chain_in l.depth l.outer ls) | Some w ↦ Some l.number ]) e

-- it hasn't
pub look_past : (ls rest : List Layer) (l : Layer) (x : Text) → ls ≡ l ∷ rest → value_at x l.vars ≡ None → look_in x ls ≡ look_in x rest
look_past ls rest l x c e = ap (look_in x) c ∙ ap {B = Option Data} (λ g. elim g [ None ↦ look_in x rest | Some w ↦ Some w ]) e

pub holder_past : (ls rest : List Layer) (l : Layer) (x : Text) → ls ≡ l ∷ rest → value_at x l.vars ≡ None → holder_in x ls ≡ holder_in x rest
holder_past ls rest l x c e = ap (holder_in x) c ∙ ap {B = Option ℕ} (λ g. elim g [ None ↦ holder_in x rest | Some w ↦ Some l.number ]) e

-- the variables of a layer that was found
pub vars_found : (n : ℕ) (ls : List Layer) (l : Layer) → find n ls ≡ Some l → vars_at n ls ≡ l.vars
vars_found n ls l f = ap vars_in f
