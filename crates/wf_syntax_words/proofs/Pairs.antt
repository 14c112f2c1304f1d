-- What the code reads of a map.
use Rattle.std.proofs.Common.{◌≡◌, ◌==◌, arith, ℕ, ◌+◌, ◌<◌, Bool, true, false, ◌&&◌, cond, List, [], ◌∷◌, length, drop, get_or, map, Bor, Option, Some, None, refl, sym, ap, ◌∙◌}
use Rattle.std.proofs.lemmas.Bool.Decides.{nat_tests}
use Rattle.std.proofs.lemmas.List.{get_or_default}
use Rattle.std.proofs.lemmas.Map.Text.{is_eq-slice_cmp}
use Rattle.std.specs.Prelude.{bytes_eq, slice_get, is_some, option_map}
use Rattle.wf_lemmas.proofs.Options.{some_mapped}
use Rattle.wf_lemmas.proofs.Lists.{item_at}
use Rattle.wf_syntax_words.specs.Fields.{field, has, has_all, has_only, is_empty, single_of}
use Rattle.wf_tree.specs.Plain.{plain_pairs}
use Rattle.wf_syntax_words.specs.Fields.{count_of, first_fields}
use Rattle.wf_tree.specs.Trees as trees
use Rattle.wf_tree.specs.Trees.{Tree, Pairs, pairs_of}
use Rattle.wf_tree.specs.declared.tree.Tree.{Tree as Node}
use Rattle.wf_value.specs.Maps.{value_at}
use Rattle.wf_value.specs.Pairs.{Text}

pub value_at_is : (k : Text) (ps : List (Text × Tree)) → value_at k ps ≡ field k (pairs_of ps)
value_at_is k [] = refl
value_at_is k (p ∷ ps) =
    ap (λ b. cond b (Some p.1) (value_at k ps)) (is_eq-slice_cmp k p.0) ∙ ap (λ o. cond (bytes_eq k p.0) (Some p.1) o) (value_at_is k ps)

-- ## Keys that must be there
abbrev pub has_those : Pairs → List (Bor Text) → Bool
has_those fs ks = has_all (map (λ k. k.now) ks) fs

has_next : (fs : Pairs) (ks : List (Bor Text)) (i : ℕ) (d : Bor Text) (r : Bool) → i < length ks → r ≡ has (get_or ks i d).now fs
    → has_those fs (drop i ks) ≡ (r && has_those fs (drop (i + 1) ks))
has_next fs ks i d r lt is =
    let k : Bor Text = get_or ks i d in
    ap (has_those fs) (item_at ks i k lt (get_or_default ks i d k lt)) ∙ ap (λ b. b && has_those fs (drop (i + 1) ks)) (sym is)

pub lacks_one : (fs : Pairs) (ks : List (Bor Text)) (i : ℕ) (d : Bor Text) (r : Bool) → has_those fs ks ≡ has_those fs (drop i ks) → i < length ks → r ≡ has (get_or ks i d).now fs
    → r ≡ false → false ≡ has_those fs ks
lacks_one fs ks i d r before lt is none =
    sym (before ∙ has_next fs ks i d r lt is ∙ ap (λ b. b && has_those fs (drop (i + 1) ks)) none)

pub has_more : (fs : Pairs) (ks : List (Bor Text)) (i : ℕ) (d : Bor Text) (r : Bool) → has_those fs ks ≡ has_those fs (drop i ks) → i < length ks → r ≡ has (get_or ks i d).now fs
    → r ≡ true → has_those fs ks ≡ has_those fs (drop (i + 1) ks)
has_more fs ks i d r before lt is one =
    before ∙ has_next fs ks i d r lt is ∙ ap (λ b. b && has_those fs (drop (i + 1) ks)) one

-- ## Keys that may be there
abbrev pub Entry : Type 0
Entry = Text × Node

abbrev pub only_those : List Text → List Entry → Bool
only_those ks ps = has_only ks (pairs_of (plain_pairs ps))

-- ## Keys that are counted
abbrev pub count_those : Pairs → List (Bor Text) → ℕ
count_those fs ks = count_of fs (map (λ k. k.now) ks)

-- ## The first form of a table that is there
abbrev pub Row : Type 0
Row = Bor Text × Bor (List (Bor Text))

abbrev pub plain_row : Row → Text × List Text
plain_row r = (r.0.now, map (λ k. k.now) r.1.now)

abbrev pub first_row : Pairs → List Row → List Text
first_row fs rs = first_fields (map plain_row rs) fs

row_next : (fs : Pairs) (rs : List Row) (i : ℕ) (d : Row) (r : Bool) → i < length rs → r ≡ has (get_or rs i d).0.now fs
    → first_row fs (drop i rs) ≡ cond r (map (λ k. k.now) (get_or rs i d).1.now) (first_row fs (drop (i + 1) rs))
row_next fs rs i d r lt is =
    let k : Row = get_or rs i d in
    ap (first_row fs) (item_at rs i k lt (get_or_default rs i d k lt)) ∙ ap (λ b. cond b (map (λ k. k.now) k.1.now) (first_row fs (drop (i + 1) rs))) (sym is)

pub row_there : (fs : Pairs) (rs : List Row) (i : ℕ) (d : Row) (r : Bool) (all : List Text) → all ≡ first_row fs (drop i rs) → i < length rs → r ≡ has (get_or rs i d).0.now fs
    → r ≡ true → map (λ k. k.now) (get_or rs i d).1.now ≡ all
row_there fs rs i d r all before lt is one =
    sym (before ∙ row_next fs rs i d r lt is ∙ ap (λ b. cond b (map (λ k. k.now) (get_or rs i d).1.now) (first_row fs (drop (i + 1) rs))) one)

pub row_more : (fs : Pairs) (rs : List Row) (i : ℕ) (d : Row) (r : Bool) (all : List Text) → all ≡ first_row fs (drop i rs) → i < length rs → r ≡ has (get_or rs i d).0.now fs
    → r ≡ false → all ≡ first_row fs (drop (i + 1) rs)
row_more fs rs i d r all before lt is none =
    before ∙ row_next fs rs i d r lt is ∙ ap (λ b. cond b (map (λ k. k.now) (get_or rs i d).1.now) (first_row fs (drop (i + 1) rs))) none

-- ## A map of one pair

two_pairs_at : (ps : List (Text × Tree)) → is_some (slice_get ps 1) ≡ true → None ≡ single_of (trees.map (pairs_of ps))
two_pairs_at [] is = refl
two_pairs_at (p ∷ []) is = absurd (cc is)
two_pairs_at (p ∷ q ∷ ps) is = refl

one_pair_at : (ps : List (Text × Tree)) → is_some (slice_get ps 1) ≡ false → slice_get ps 0 ≡ single_of (trees.map (pairs_of ps))
one_pair_at [] is = refl
one_pair_at (p ∷ []) is = refl
one_pair_at (p ∷ q ∷ ps) is = absurd (cc is)

pub two_pairs : {A : Type 0} (f : A → Text × Tree) (ps : List (Text × Tree)) (o : Option A) (t : Tree) → t ≡ trees.map (pairs_of ps) → option_map f o ≡ slice_get ps 1 → is_some o ≡ true → None ≡ single_of t
two_pairs f ps o t is at some = two_pairs_at ps (ap is_some (sym at) ∙ some_mapped f o ∙ some) ∙ ap single_of (sym is)

pub one_pair : {A : Type 0} (f : A → Text × Tree) (ps : List (Text × Tree)) (o : Option A) (first : Option (Text × Tree)) (t : Tree) → t ≡ trees.map (pairs_of ps) → option_map f o ≡ slice_get ps 1 → is_some o ≡ false → first ≡ slice_get ps 0 → first ≡ single_of t
one_pair f ps o first t is at none is_first = is_first ∙ one_pair_at ps (ap is_some (sym at) ∙ some_mapped f o ∙ none) ∙ ap single_of (sym is)

-- ## No pairs
empty_at : (ps : List Entry) → (length ps == 0) ≡ is_empty (pairs_of (plain_pairs ps))
empty_at [] = refl
empty_at (p ∷ ps) = grind (arith, nat_tests)

pub empty_is : (ps : List Entry) (qs : List (Text × Tree)) → plain_pairs ps ≡ qs → (length ps == 0) ≡ is_empty (pairs_of qs)
empty_is ps qs same = empty_at ps ∙ ap (λ qs. is_empty (pairs_of qs)) same
