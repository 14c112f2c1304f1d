-- Numbers by names, as names are added.
use Rattle.std.proofs.Common.{◌≡◌, ℕ, ◌+◌, ◌<◌, ◌≤◌, Bool, true, false, cond, List, ◌∷◌, drop, length, map, slice_get, get_or, Option, option_map, None, Some, is_some, Result, Ok, Err, OnOk, refl, sym, ap, ◌∙◌, bytes_eq}
use Rattle.std.proofs.lemmas.List.{drop_all, drop_more}
use Rattle.std.proofs.lemmas.Option.{slice_get-map}
use Rattle.std.proofs.lemmas.Slice.Eq.{bytes_eq-Decides}
use Rattle.std.specs.Bool.{one_answer}
use Rattle.wf_value.specs.HttpUrl.{first_of_two}
use Rattle.wf_model.specs.NodeKinds.{View, node_view}
use Rattle.wf_table.specs.Named.{first_named, node_named, number_of, when_named}
use Rattle.wf_table.specs.declared.names.Names.{Names}
use Rattle.wf_model.specs.declared.node.Node.{Node}
use Rattle.wf_value.specs.Pairs.{Text}

either_way : (x y : Text) → bytes_eq x y ≡ bytes_eq y x
either_way x y =
    one_answer (bytes_eq x y) (bytes_eq y x) (bytes_eq-Decides x y)
    (λ is. sym ((bytes_eq-Decides y x).0 is), λ same. (bytes_eq-Decides y x).1 (sym same))

none_behind : (o : Option ℕ) → first_of_two o None ≡ o
none_behind None = refl
none_behind (Some n) = refl

has_one : (o : Option ℕ) (p : Option ℕ) → is_some o ≡ true → o ≡ first_of_two o p
has_one None p h = absurd (cc)
has_one (Some n) p h = refl

pub three : (a b c : Option ℕ) → first_of_two a (first_of_two b c) ≡ first_of_two (first_of_two a b) c
three None b c = refl
three (Some x) b c = refl

-- a name that has a number
pub keeps_number : (s : Names) (x name : Text) (n : ℕ) → is_some (number_of s name) ≡ true → number_of s x ≡ first_of_two (number_of s x) (when_named x name n)
keeps_number s x name n has = by (bytes_eq x name) refl
  where
    by : (b : Bool) → bytes_eq x name ≡ b → number_of s x ≡ first_of_two (number_of s x) (cond b (Some n) None)
    by true e = has_one (number_of s x) (Some n) (ap (λ y. is_some (number_of s y)) ((bytes_eq-Decides x name).0 e) ∙ has)
    by false e = sym (none_behind (number_of s x))

-- a name that has none
pub takes_number : (s t : Names) (l : Text) (x name : Text) (n : ℕ) → l ≡ name → number_of s name ≡ None → number_of t x ≡ cond (bytes_eq l x) (Some n) (number_of s x)
    → number_of t x ≡ first_of_two (number_of s x) (when_named x name n)
takes_number s t l x name n is none new = new ∙ ap (λ (b : Bool). cond b (Some n) (number_of s x)) (ap (λ y. bytes_eq y x) is ∙ either_way name x) ∙ by (bytes_eq x name) refl
  where
    by : (b : Bool) → bytes_eq x name ≡ b → cond b (Some n) (number_of s x) ≡ first_of_two (number_of s x) (cond b (Some n) None)
    by true e = ap (λ o. first_of_two o (Some n)) (sym (ap (number_of s) ((bytes_eq-Decides x name).0 e) ∙ none))
    by false e = sym (none_behind (number_of s x))

pub on_ok : {T E : Type 0} (P Q : Type 0) (r : Result T E) → OnOk r P → (P → Q) → OnOk r Q
on_ok P Q (Ok x) h f = f h
on_ok P Q (Err e) h f = tt

-- one number more
pub name_turn : (views : List View) (numbers : List ℕ) (i d : ℕ) (s t : Names) (x : Text) → i < length numbers
    → first_of_two (number_of s x) (first_named views x (drop i numbers)) ≡ first_named views x numbers
    → number_of t x ≡ first_of_two (number_of s x) (node_named x (get_or numbers i d) (slice_get views (get_or numbers i d)))
    → first_of_two (number_of t x) (first_named views x (drop (i + 1) numbers)) ≡ first_named views x numbers
name_turn views numbers i d s t x within so_far more =
    let n = get_or numbers i d in
    let next : drop i numbers ≡ n ∷ drop (i + 1) numbers = drop_more numbers i d within in
    ap (λ o. first_of_two o (first_named views x (drop (i + 1) numbers))) more
    ∙ sym (three (number_of s x) (node_named x n (slice_get views n)) (first_named views x (drop (i + 1) numbers)))
    ∙ ap (λ l. first_of_two (number_of s x) (first_named views x l)) (sym next)
    ∙ so_far

pub name_end : (views : List View) (numbers : List ℕ) (i : ℕ) (s : Names) (x : Text) → length numbers ≤ i
    → first_of_two (number_of s x) (first_named views x (drop i numbers)) ≡ first_named views x numbers → number_of s x ≡ first_named views x numbers
name_end views numbers i s x past so_far =
    sym (none_behind (number_of s x)) ∙ ap (λ l. first_of_two (number_of s x) (first_named views x l)) (sym (drop_all i numbers past)) ∙ so_far

pub name_start : (views : List View) (numbers : List ℕ) (s : Names) (x : Text) → number_of s x ≡ None → first_of_two (number_of s x) (first_named views x numbers) ≡ first_named views x numbers
name_start views numbers s x none = ap (λ o. first_of_two o (first_named views x numbers)) none

-- behind the last node there is no name
pub unnamed : (nodes : List Node) (n : ℕ) (x : Text) (o : Option ℕ) → slice_get nodes n ≡ None → o ≡ first_of_two o (node_named x n (slice_get (map node_view nodes) n))
unnamed nodes n x o past = sym (ap (λ v. first_of_two o (node_named x n v)) (slice_get-map node_view nodes n ∙ ap (option_map node_view) past) ∙ none_behind o)

-- a node's name
pub named_node : (nodes : List Node) (n : ℕ) (x : Text) (node : Node) → slice_get nodes n ≡ Some node → when_named x node.name n ≡ node_named x n (slice_get (map node_view nodes) n)
named_node nodes n x node is = sym (ap (node_named x n) (slice_get-map node_view nodes n ∙ ap (option_map node_view) is))
