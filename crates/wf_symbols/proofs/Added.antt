-- Names that are added one after another.
use Rattle.std.proofs.Common.{◌≡◌, ℕ, ◌+◌, ◌<◌, ◌≤◌, Bool, true, false, ◌||◌, List, [], ◌∷◌, ◌++◌, length, drop, get_or, refl, sym, ap, ◌∙◌, subst}
use Rattle.std.proofs.lemmas.List.Folds.{list_any-append}
use Rattle.std.specs.Prelude.{bytes_eq}
use Rattle.wf_lemmas.proofs.Bools.{or_none, or_regrouped}
use Rattle.wf_lemmas.proofs.Lists.{item_at, drop_end}
use Rattle.wf_symbols.specs.Names.{Adds, names_of}
use Rattle.wf_symbols.specs.declared.names.Names.{Names}
use Rattle.wf_value.specs.HttpRequest.{is_among}
use Rattle.wf_value.specs.Pairs.{Text}

or_within : (p o : Bool) → (p || o) ≡ ((p || false) || o)
or_within true o = refl
or_within false o = refl

pub adds_none : (a : Names) → Adds a a []
adds_none a = record { has = λ x. refl }

pub adds_then : (a b c : Names) (xs ys : List Text) → Adds a b xs → Adds b c ys → Adds a c (xs ++ ys)
adds_then a b c xs ys h k = record {
  has = λ x.
      k.has x ∙ ap (λ o. is_among x ys || o) (h.has x) ∙ sym (or_regrouped (is_among x xs) (is_among x ys) (is_among x (names_of a))) ∙ ap (λ o. o || is_among x (names_of a)) (sym (list_any-append (bytes_eq x) xs ys));
}

pub adds_one : (a b : Names) (n m : Text) → m ≡ n → ((x : Text) → is_among x (names_of b) ≡ (bytes_eq x m || is_among x (names_of a))) → Adds a b (n ∷ [])
adds_one a b n m e h = record { has = λ x. h x ∙ ap (λ k. bytes_eq x k || is_among x (names_of a)) e ∙ or_within (bytes_eq x n) (is_among x (names_of a)) }

-- whatever adds the rest from here on adds all from the beginning
pub record AddsOn (initial : Names) (now : Names) (all : List Text) (rest : List Text) : Type 0 where
  pub on : (c : Names) → Adds now c rest → Adds initial c all

pub on_next : (initial now new : Names) (all xs ys : List Text) → AddsOn initial now all (xs ++ ys) → Adds now new xs → AddsOn initial new all ys
on_next initial now new all xs ys k h = record { on = λ c j. k.on c (adds_then now new c xs ys h j) }

-- the next of a list of items
pub item_next : {A : Type 0} (row : List A → List Text) (xs : List A) (i : ℕ) (x : A) (ns : List Text) (initial now new : Names) (all : List Text) → i < length xs → x ≡ get_or xs i x
    → row (x ∷ drop (i + 1) xs) ≡ ns ++ row (drop (i + 1) xs) → AddsOn initial now all (row (drop i xs)) → Adds now new ns → AddsOn initial new all (row (drop (i + 1) xs))
item_next row xs i x ns initial now new all lt is e k h =
    on_next initial now new all ns (row (drop (i + 1) xs)) (subst (λ l. AddsOn initial now all l) (ap row (item_at xs i x lt is) ∙ e) k) h

pub on_ends : (initial now : Names) (all : List Text) → AddsOn initial now all [] → Adds initial now all
on_ends initial now all k = k.on now (adds_none now)

pub items_end : {A : Type 0} (row : List A → List Text) (xs : List A) (i : ℕ) (initial now : Names) (all : List Text) → length xs ≤ i → row [] ≡ [] → AddsOn initial now all (row (drop i xs)) → Adds initial now all
items_end row xs i initial now all le e k = on_ends initial now all (subst (λ l. AddsOn initial now all l) (ap row (drop_end xs i le) ∙ e) k)

pub own_next : (x n m : Text) (rest old new : Bool) (all : Bool) → m ≡ n → ((bytes_eq x n || rest) || old) ≡ all → new ≡ (bytes_eq x m || old) → (rest || new) ≡ all
own_next x n m rest old new all e h k = ap (λ o. rest || o) (k ∙ ap (λ y. bytes_eq x y || old) e) ∙ sym (or_regrouped (bytes_eq x n) rest old) ∙ h

pub only_those : (empty now : Names) (xs : List Text) → names_of empty ≡ [] → Adds empty now xs → (x : Text) → is_among x (names_of now) ≡ is_among x xs
only_those empty now xs none h x = h.has x ∙ ap (λ l. is_among x xs || is_among x l) none ∙ or_none (is_among x xs)
