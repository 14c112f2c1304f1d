-- Lists and maps inside a value.
use Rattle.std.proofs.Common.{◌≡◌, ℕ, List, [], ◌∷◌, ℤ, pos, negsuc, Ok, refl, sym, ap, ◌∙◌, slice_get, subst, w64, to_z, of_z, FitsSigned, Bool, Option, Some, None, is_some, option_map, Result}
use Rattle.std.specs.List.{list_any}
use Rattle.std.proofs.lemmas.Int.{to_z-of_z}
use Rattle.wf_ast.specs.Eval.{found_in, at_index, whole}
use Rattle.wf_value.specs.Data.{Data, null, boolean, integer, text, bytes, list, map, Items, items_of, pairs_of}
use Rattle.wf_value.specs.Errors.{Answer, or_error}
use Rattle.wf_value.specs.Maps.{value_at}
use Rattle.wf_value.specs.Pairs.{items, pair_list, same}
use Rattle.wf_value.specs.Plain.{plain, plain_items}
use Rattle.wf_value.specs.declared.errors.Raise.{Raise}
use Rattle.wf_value.specs.declared.errors.Tag.TheVariants.{IndexError}
use Rattle.wf_value.specs.declared.value.Value.{Value}
use Rattle.wf_value.specs.declared.value.Value.TheVariants as value
use Rattle.wf_eval.specs.Answers.{Gives, GivesInt, item_of}

pub pairs_listed : (ps : List (List ℕ × Data)) → pair_list (pairs_of ps) ≡ ps
pairs_listed [] = refl
pairs_listed (p ∷ ps) = ap (λ l. p ∷ l) (pairs_listed ps)

pub items_listed : (vs : List Data) → items (items_of vs) ≡ vs
items_listed [] = refl
items_listed (v ∷ vs) = ap (λ l. v ∷ l) (items_listed vs)

-- ## Index
index_means : (ds : List Data) (i : ℤ) → at_index (list (items_of ds)) (integer i) ≡ item_of ds i
index_means ds (pos i) = ap (λ vs. or_error IndexError (slice_get vs i)) (items_listed ds)
index_means ds (negsuc i) = refl

at_whole : (ds : List Data) (i : ℤ) (d : Data) → GivesInt (Ok i) (whole d) → at_index (list (items_of ds)) d ≡ item_of ds i
at_whole ds i (integer n) h = index_means ds n ∙ ap (item_of ds) (sym h)
at_whole ds i d h = absurd h

pub indexed : (r : Result Value Raise) (v w : Value) (ds : List Data) (i : ℤ) (xs : List Value) → FitsSigned w64 i → v ≡ value.List ds → GivesInt (Ok i) (whole (plain w)) → plain_items xs ≡ ds → Gives r (item_of (plain_items xs) (to_z w64 (of_z w64 i))) → Gives r (at_index (plain v) (plain w))
indexed r v w ds i xs fits p q s h =
    subst (λ (d : Answer Data). Gives r d)
    (ap (item_of (plain_items xs)) (to_z-of_z w64 i fits) ∙ ap (λ l. item_of l i) s ∙ sym (at_whole ds i (plain w) q) ∙ ap (λ x. at_index (plain x) (plain w)) (sym p)) h

-- ## `in`
list_means : (v : Data) (ws : Items) → found_in v (list ws) ≡ Ok (boolean (list_any (same v) (items ws)))
list_means null ws = refl
list_means (boolean b) ws = refl
list_means (integer n) ws = refl
list_means (text t) ws = refl
list_means (bytes b) ws = refl
list_means (list vs) ws = refl
list_means (map ps) ws = refl

pub found : (v : Data) (w : Value) (ds : List Data) (xs : List Value) → w ≡ value.List ds → plain_items xs ≡ ds → found_in v (plain w) ≡ Ok (boolean (list_any (same v) (plain_items xs)))
found v w ds xs p s = ap (λ x. found_in v (plain x)) p ∙ list_means v (items_of ds) ∙ ap (λ l. Ok (boolean (list_any (same v) l))) (items_listed ds ∙ sym s)

told : (b : Bool) (d : Answer Data) → d ≡ Ok (boolean b) → Gives (Ok (value.Bool b)) d
told b d h = subst (λ (x : Answer Data). Gives (Ok (value.Bool b)) x) (sym h) refl

pub item_found : (b : Bool) (v : Data) (w : Value) (ds : List Data) (xs : List Value) → w ≡ value.List ds → plain_items xs ≡ ds → b ≡ list_any (same v) (plain_items xs) → Gives (Ok (value.Bool b)) (found_in v (plain w))
item_found b v w ds xs p s h = told b (found_in v (plain w)) (found v w ds xs p s ∙ ap (λ c. Ok (boolean c)) (sym h))

module _ {X : Type 0} where
  is_some_of : (f : X → Data) (o : Option X) → is_some (option_map f o) ≡ is_some o
  is_some_of f None = refl
  is_some_of f (Some x) = refl

  pub key_found : (b : Bool) (v w : Value) (k l : List ℕ) (ps : List (List ℕ × Data)) (f : X → Data) (o : Option X) → w ≡ value.Map ps → v ≡ value.Text k → l ≡ k → option_map f o ≡ value_at l ps → b ≡ is_some o → Gives (Ok (value.Bool b)) (found_in (plain v) (plain w))
  key_found b v w k l ps f o p q s g h =
      told b (found_in (plain v) (plain w))
      (ap (λ x. found_in (plain v) (plain x)) p ∙ ap (λ x. found_in (plain x) (map (pairs_of ps))) q ∙ ap (λ x. Ok (boolean (is_some (value_at k x)))) (pairs_listed ps)
      ∙ ap (λ x. Ok (boolean (is_some (value_at x ps)))) (sym s) ∙ ap (λ x. Ok (boolean (is_some x))) (sym g) ∙ ap (λ x. Ok (boolean x)) (is_some_of f o ∙ sym h))
