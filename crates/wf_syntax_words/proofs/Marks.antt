-- Words among words, and texts without their marks.
use Rattle.std.proofs.Common.{◌≡◌, ◌≢◌, ℕ, suc, ◌+◌, ◌-◌, ◌<◌, Bool, true, false, ◌&&◌, ◌||◌, List, [], ◌∷◌, ◌++◌, length, take, drop, get_or, map, Bor, if◌then◌else◌, refl, sym, ap, ◌∙◌, arith}
use Rattle.std.proofs.lemmas.Bool.{false≢true}
use Rattle.std.proofs.lemmas.List.{get_or_default, take-append-drop}
use Rattle.std.proofs.lemmas.Slice.Eq.{bytes_eq-Decides}
use Rattle.std.specs.Bool.{one_answer}
use Rattle.std.specs.Prelude.{bytes_eq}
use Rattle.wf_lemmas.proofs.Lists.{item_at}
use Rattle.wf_value.specs.HttpRequest.{is_among}
use Rattle.wf_syntax_words.specs.Names.{unmarked}
use Rattle.wf_value.specs.Pairs.{Text}

-- ## Words
pub same_either_way : (x y : Text) → bytes_eq x y ≡ bytes_eq y x
same_either_way x y =
    one_answer (bytes_eq x y) (bytes_eq y x) (bytes_eq-Decides x y)
    (λ is. sym ((bytes_eq-Decides y x).0 is), λ same. (bytes_eq-Decides y x).1 (sym same))

abbrev pub among_those : Text → List (Bor Text) → Bool
among_those text words = is_among text (map (λ w. w.now) words)

among_next : (text : Text) (words : List (Bor Text)) (i : ℕ) (d : Bor Text) (r : Bool) → i < length words → r ≡ bytes_eq (get_or words i d).now text
    → among_those text (drop i words) ≡ (r || among_those text (drop (i + 1) words))
among_next text words i d r lt is =
    let w : Bor Text = get_or words i d in
    ap (among_those text) (item_at words i w lt (get_or_default words i d w lt)) ∙ ap (λ b. b || among_those text (drop (i + 1) words)) (same_either_way text w.now ∙ sym is)

pub among_here : (text : Text) (words : List (Bor Text)) (i : ℕ) (d : Bor Text) (r : Bool) → among_those text words ≡ among_those text (drop i words) → i < length words → r ≡ bytes_eq (get_or words i d).now text
    → r ≡ true → true ≡ among_those text words
among_here text words i d r before lt is found =
    sym (before ∙ among_next text words i d r lt is ∙ ap (λ b. b || among_those text (drop (i + 1) words)) found)

pub among_later : (text : Text) (words : List (Bor Text)) (i : ℕ) (d : Bor Text) (r : Bool) → among_those text words ≡ among_those text (drop i words) → i < length words → r ≡ bytes_eq (get_or words i d).now text
    → r ≡ false → among_those text words ≡ among_those text (drop (i + 1) words)
among_later text words i d r before lt is other =
    before ∙ among_next text words i d r lt is ∙ ap (λ b. b || among_those text (drop (i + 1) words)) other

-- ## Marks
unless_both : (s more : Text) (a b : Bool) → b ≢ true → s ≡ (if a && b then more else s)
unless_both s more true true h = absurd (h refl)
unless_both s more false true h = refl
unless_both s more true false h = refl
unless_both s more false false h = refl

no_mark_at_end : (o : Text) → ((front : Text) → o ≢ front ++ 125 ∷ []) → bytes_eq (drop (length (36 ∷ 123 ∷ o) - 1) (36 ∷ 123 ∷ o)) (125 ∷ []) ≢ true
no_mark_at_end [] h = false≢true
no_mark_at_end (x ∷ o) h = λ is.
    let last : length (36 ∷ 123 ∷ x ∷ o) - 1 ≡ suc (suc (length o)) = omega arith in
    let mark : bytes_eq (drop (length o) (x ∷ o)) (125 ∷ []) ≡ true = ap (λ n. bytes_eq (drop n (36 ∷ 123 ∷ x ∷ o)) (125 ∷ [])) (sym last) ∙ is in
    h (take (length o) (x ∷ o)) (sym (take-append-drop (length o) (x ∷ o)) ∙ ap (λ l. take (length o) (x ∷ o) ++ l) ((bytes_eq-Decides (drop (length o) (x ∷ o)) (125 ∷ [])).0 mark))

pub still_marked : (s o : Text) → s ≡ 36 ∷ 123 ∷ o → ((front : Text) → o ≢ front ++ 125 ∷ []) → s ≡ unmarked s
still_marked s o is h =
    is ∙ unless_both (36 ∷ 123 ∷ o) (take (length (36 ∷ 123 ∷ o) - 3) o) true (bytes_eq (drop (length (36 ∷ 123 ∷ o) - 1) (36 ∷ 123 ∷ o)) (125 ∷ [])) (no_mark_at_end o h) ∙ ap unmarked (sym is)
