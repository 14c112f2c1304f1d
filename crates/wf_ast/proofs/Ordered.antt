-- The arguments of a call, name by name.
use Rattle.std.proofs.Common.{◌≡◌, ℕ, ◌+◌, ◌<◌, List, [], ◌∷◌, ◌++◌, Option, Some, None, length, map, drop, get_or, drop-cons, add-one, append_assoc, refl, sym, ap, ◌∙◌}
use Rattle.std.proofs.lemmas.List.{map-append}
use Rattle.wf_ast.specs.Func.{listed_args}
use Rattle.wf_value.specs.Data.{Data, pairs_of}
use Rattle.wf_value.specs.Maps.{value_at}
use Rattle.wf_value.specs.Pairs.{Text, pair_list}
use Rattle.wf_value.specs.Plain.{plain, plain_items}
use Rattle.wf_value.specs.declared.value.Value.{Value}

pairs_listed : (ps : List (Text × Data)) → pair_list (pairs_of ps) ≡ ps
pairs_listed [] = refl
pairs_listed (p ∷ ps) = ap (λ l. p ∷ l) (pairs_listed ps)

-- what an argument comes before
abbrev before : Option Data → List Data → List Data
before o vs = elim o [ None ↦ vs | Some v ↦ v ∷ vs ]

one_name : (x : Text) (xs : List Text) (args : List (Text × Data)) (o : Option Data) → value_at x args ≡ o → listed_args (x ∷ xs) (pairs_of args) ≡ before o (listed_args xs (pairs_of args))
one_name x xs args o h = ap (λ (q : Option Data). before q (listed_args xs (pairs_of args))) (ap (value_at x) (pairs_listed args) ∙ h)

-- the names of two lists, one behind the other
pub behind : (xs ys : List Text) (args : List (Text × Data)) → listed_args (xs ++ ys) (pairs_of args) ≡ listed_args xs (pairs_of args) ++ listed_args ys (pairs_of args)
behind [] ys args = refl
behind (x ∷ xs) ys args = by (value_at x args) refl (behind xs ys args)
  where
    by : (o : Option Data) → value_at x args ≡ o → listed_args (xs ++ ys) (pairs_of args) ≡ listed_args xs (pairs_of args) ++ listed_args ys (pairs_of args) → listed_args ((x ∷ xs) ++ ys) (pairs_of args) ≡ listed_args (x ∷ xs) (pairs_of args) ++ listed_args ys (pairs_of args)
    by None h later = one_name x (xs ++ ys) args None h ∙ later ∙ ap (λ vs. vs ++ listed_args ys (pairs_of args)) (sym (one_name x xs args None h))
    by (Some v) h later = one_name x (xs ++ ys) args (Some v) h ∙ ap (λ vs. v ∷ vs) later ∙ ap (λ vs. vs ++ listed_args ys (pairs_of args)) (sym (one_name x xs args (Some v) h))

-- ## One name of a list
module _ {A : Type 0} (f : A → Text) (names : List A) (args : List (Text × Data)) (all : List Data) where
  -- the values that stand there, and those of the names that are left, are all
  abbrev pub Adds : List Value → ℕ → Type 0
  Adds vs i = plain_items vs ++ listed_args (map f (drop i names)) (pairs_of args) ≡ all

  module _ (i : ℕ) (d : A) (within : i < length names) where
    next : drop i names ≡ get_or names i d ∷ drop (i + 1) names
    next = drop-cons names i d within ∙ ap (λ k. get_or names i d ∷ drop k names) (sym (add-one i))

    left : (o : Option Data) → value_at (f (get_or names i d)) args ≡ o → listed_args (map f (drop i names)) (pairs_of args) ≡ before o (listed_args (map f (drop (i + 1) names)) (pairs_of args))
    left o h = ap (λ ns. listed_args (map f ns) (pairs_of args)) next ∙ one_name (f (get_or names i d)) (map f (drop (i + 1) names)) args o h

    pub absent : (vs new : List Value) → new ≡ vs → value_at (f (get_or names i d)) args ≡ None → Adds vs i → Adds new (i + 1)
    absent vs new kept none h =
        let rest = listed_args (map f (drop (i + 1) names)) (pairs_of args) in
        ap (λ ws. plain_items ws ++ rest) kept ∙ ap (λ ws. plain_items vs ++ ws) (sym (left None none)) ∙ h

    pub given : (vs new : List Value) (v w : Value) → new ≡ vs ++ v ∷ [] → v ≡ w → value_at (f (get_or names i d)) args ≡ Some (plain w) → Adds vs i → Adds new (i + 1)
    given vs new v w added copied some h =
        let rest = listed_args (map f (drop (i + 1) names)) (pairs_of args) in
        ap (λ ws. plain_items ws ++ rest) added
        ∙ ap (λ ws. ws ++ rest) (map-append plain vs (v ∷ []))
        ∙ append_assoc (plain_items vs) (plain v ∷ []) rest
        ∙ ap (λ x. plain_items vs ++ plain x ∷ rest) copied
        ∙ ap (λ ws. plain_items vs ++ ws) (sym (left (Some (plain w)) some))
        ∙ h
