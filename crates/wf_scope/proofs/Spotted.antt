-- Where a variable of a layer stands.
use Rattle.std.proofs.Common.{subst, ◌≡◌, ◌<◌, ◌≤◌, ◌+◌, arith, length, Equal, ℕ, true, List, [], Ok, Option, Some, None, get_or, refl, sym, ap, ◌∙◌}
use Rattle.std.proofs.lemmas.Cmp.{nat_list_cmp_total, tied_itself}
use Rattle.wf_value.proofs.Searches.{found, holds_at}
use Rattle.wf_value.specs.Data.{Data, size}
use Rattle.wf_value.specs.Maps.{IsInOrder, key_cmp, place_of, value_at}
use Rattle.wf_value.specs.Pairs.{Text}
use Rattle.wf_value.specs.declared.Value.{Value}
use Rattle.wf_scope.specs.Layers.{IsLive, Layer, all_stand, chain, find, holder_in, put_at, total_of, variable_size, vars_at, vars_in}
use Rattle.wf_scope.specs.Spots.{IsSpot}
use Rattle.wf_scope.specs.Views.{views}
use Rattle.wf_scope.specs.declared.layer.Layer as declared
use Rattle.wf_scope.specs.declared.spot.Spot.{Spot}
use Rattle.wf_scope.proofs.Numbers.{live_found, number_found}
use Rattle.wf_scope.proofs.Seen.{chain_last, chain_outer, holder_here, holder_past, vars_found}
use Rattle.wf_scope.proofs.Totals.{counted_within, put_total}
use Rattle.wf_scope.proofs.Viewed.{order_found}

-- ## Where it stands
-- the name at a place that was tried
pub tried_there : (x : Text) (es : List (Text × Option Value)) (i : ℕ) (e : Text × Option Value) → IsInOrder es → i < length es → e ≡ get_or es i e → e.0 ≡ x → Ok i ≡ place_of x es
tried_there x es i e order within is same =
    let here : key_cmp (get_or es i e).0 x ≡ Equal = ap (λ (p : Text × Option Value). key_cmp p.0 x) (sym is) ∙ ap (λ (t : Text). key_cmp t x) same ∙ tied_itself nat_list_cmp_total x in
    sym (found x es i order within (holds_at x (λ p. key_cmp p.0 x ≡ Equal) es i e within here))

-- ## Whose variable it is
module _ (n : ℕ) (ls : List Layer) (x : Text) where
  -- the layer's own
  pub holder_held : (v : Data) → value_at x (vars_at n ls) ≡ Some v → holder_in x (chain n ls) ≡ Some n
  holder_held v at = by (find n ls) refl at
    where
      by : (o : Option Layer) → find n ls ≡ o → value_at x (vars_in o) ≡ Some v → holder_in x (chain n ls) ≡ Some n
      by None e h = cc
      by (Some l) e h = holder_here n ls l x v e h ∙ ap Some (number_found n ls l e)

  -- where none has it, the layer hasn't
  pub held_nowhere : holder_in x (chain n ls) ≡ None → value_at x (vars_at n ls) ≡ None
  held_nowhere none = by (value_at x (vars_at n ls)) refl
    where
      by : (o : Option Data) → value_at x (vars_at n ls) ≡ o → o ≡ None
      by None e = refl
      by (Some v) e = let both : Some n ≡ None = sym (holder_held v e) ∙ none in cc both

  -- that of a layer outside it, or none's
  pub holder_outside : (o : ℕ) (l : Layer) → all_stand ls ls ≡ true → find n ls ≡ Some l → l.outer ≡ Some o → value_at x (vars_at n ls) ≡ None → holder_in x (chain n ls) ≡ holder_in x (chain o ls)
  holder_outside o l stand here out at =
      holder_past (chain n ls) (chain o ls) l x (chain_outer n o ls l stand here out) (ap (value_at x) (sym (vars_found n ls l here)) ∙ at)

  pub holder_nowhere : (l : Layer) → find n ls ≡ Some l → l.outer ≡ None → value_at x (vars_at n ls) ≡ None → holder_in x (chain n ls) ≡ None
  holder_nowhere l here out at =
      holder_past (chain n ls) [] l x (chain_last n ls l here out) (ap (value_at x) (sym (vars_found n ls l here)) ∙ at)

-- ## What all count once a variable has a value at its spot
pub spot_total : (s : Spot) (x : Text) (v : Data) (xs : List declared.Layer) → IsSpot s x xs → IsLive s.number (views xs)
    → (s.counted ≤ total_of (views xs)) × (total_of (put_at s.number x v (views xs)) + s.counted ≡ total_of (views xs) + (2 + length x + size v))
spot_total s x v xs is live =
    let ls = views xs in
    let found = live_found s.number ls live in
    let vars = vars_found s.number ls found.0 found.1 in
    let there : variable_size x (value_at x (vars_at s.number ls)) ≡ variable_size x (value_at x found.0.vars) = ap (λ ps. variable_size x (value_at x ps)) vars in
    let put = put_total s.number x v ls found.0 found.1 (subst (λ ps. IsInOrder ps) vars (order_found xs s.number)) in
    (counted_within s.number x ls s.counted (total_of ls) live refl is.counted, omega (arith, is.counted, there, put))
