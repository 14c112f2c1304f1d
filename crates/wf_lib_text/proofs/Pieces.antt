-- The parts of a text, one place after the other.
use Rattle.std.proofs.Common.{◌≡◌, ◌<◌, ◌≤◌, ◌+◌, ◌-◌, ℕ, zero, suc, Bool, true, false, List, [], ◌∷◌, ◌++◌, length, take, drop, map, None, Some, refl, sym, ap, ◌∙◌, subst, arith, append_assoc, append-nil, take-append-drop, chars}
use Rattle.std.specs.Prelude.{pos}
use Rattle.std.specs.List.{flat_map}
use Rattle.std.specs.Str.Pattern.{FindsText, LacksTextAt}
use Rattle.std.proofs.lemmas.Bool.{false_from_ne_true}
use Rattle.std.proofs.lemmas.Bool.Decides.{Decides-eqb}
use Rattle.std.proofs.lemmas.Slice.Eq.{starts_is}
use Rattle.wf_value.specs.LibText.{joined_by, pieces, pieces_from, starts_of, starts_with, unless_empty}
use Rattle.wf_value.specs.Data.{Data, integer, item, items_of, list, text}
use Rattle.wf_value.specs.Errors.{sized}
use Rattle.wf_value.specs.Pairs.{Text, text_items}

-- ## Whether a part begins a text
begins : (part s rest : Text) → s ≡ part ++ rest → starts_with part s ≡ true
begins part s rest h = (starts_is Decides-eqb s part (starts_with part s) refl).1 rest h

lacks : (part s : Text) → LacksTextAt part s 0 → starts_with part s ≡ false
lacks part s h = false_from_ne_true (starts_with part s) (λ e. h (drop (length part) s) ((starts_is Decides-eqb s part (starts_with part s) refl).0 e))

-- ## One place
abbrev cut_if : Text → Text → Text → ℕ → Bool → List Text
cut_if part front s b true = front ∷ pieces_from part (length part - 1) [] s
cut_if part front s b false = pieces_from part 0 (front ++ b ∷ []) s

cut_by : (part front s : Text) (b : ℕ) (t : Bool) → starts_with part (b ∷ s) ≡ t → pieces_from part 0 front (b ∷ s) ≡ cut_if part front s b t
cut_by part front s b t h = ap (cut_if part front s b) h

skipped : (part front s : Text) (n : ℕ) → pieces_from part n front s ≡ pieces_from part 0 front (drop n s)
skipped part front s zero = refl
skipped part front [] (suc n) = refl
skipped part front (b ∷ s) (suc n) = skipped part front s n

no_place : (part front s : Text) → ((i : ℕ) → i ≤ length s → LacksTextAt part s i) → pieces_from part 0 front s ≡ (front ++ s) ∷ []
no_place part front [] h = ap (λ l. l ∷ []) (sym (append-nil front))
no_place part front (b ∷ s) h =
    cut_by part front s b false (lacks part (b ∷ s) (h 0 (omega arith)))
    ∙ no_place part (front ++ b ∷ []) s (λ i l. h (suc i) (omega (arith, l)))
    ∙ ap (λ l. l ∷ []) (append_assoc front (b ∷ []) s)

drop_front : (part s : Text) → drop (length part) (part ++ s) ≡ s
drop_front [] s = refl
drop_front (b ∷ part) s = drop_front part s

first_place : (c : ℕ) (part front before rest : Text) → ((i : ℕ) → i < length before → LacksTextAt (c ∷ part) (before ++ ((c ∷ part) ++ rest)) i) → pieces_from (c ∷ part) 0 front (before ++ ((c ∷ part) ++ rest)) ≡ (front ++ before) ∷ pieces (c ∷ part) rest
first_place c part front [] rest h =
    let behind : length (c ∷ part) - 1 ≡ length part = omega arith in
    cut_by (c ∷ part) front (part ++ rest) c true (begins (c ∷ part) ((c ∷ part) ++ rest) rest refl)
    ∙ ap (λ l. front ∷ l) (skipped (c ∷ part) [] (part ++ rest) (length (c ∷ part) - 1))
    ∙ ap (λ n. front ∷ pieces (c ∷ part) (drop n (part ++ rest))) behind
    ∙ ap (λ l. front ∷ pieces (c ∷ part) l) (drop_front part rest)
    ∙ ap (λ l. l ∷ pieces (c ∷ part) rest) (sym (append-nil front))
first_place c part front (b ∷ before) rest h =
    cut_by (c ∷ part) front (before ++ ((c ∷ part) ++ rest)) b false (lacks (c ∷ part) (b ∷ (before ++ ((c ∷ part) ++ rest))) (h 0 (omega arith)))
    ∙ first_place c part (front ++ b ∷ []) before rest (λ i l. h (suc i) (omega (arith, l)))
    ∙ ap (λ l. l ∷ pieces (c ∷ part) rest) (append_assoc front (b ∷ []) before)

-- where `split_once` found a place
pub cut_at : (part s front back : Text) (i j : ℕ) → 0 < length part → FindsText part s (Some (i, j)) → front ≡ take i s → back ≡ drop j s → length front ≡ i → pieces part s ≡ front ∷ pieces part back
cut_at [] s front back i j some h f b n = absurd (omega (arith, some))
cut_at (c ∷ part) s front back i j some h f b n =
    let whole : s ≡ front ++ ((c ∷ part) ++ back) = sym (take-append-drop i s) ∙ ap (λ l. take i s ++ l) h.1.split ∙ (λ k. sym f k ++ ((c ∷ part) ++ sym b k)) in
    ap (λ l. pieces (c ∷ part) l) whole
    ∙ first_place c part [] front back (λ k l. subst (λ (x : Text). LacksTextAt (c ∷ part) x k) whole (h.0 k (omega (arith, l, n))))

-- where it found none
pub cut_none : (part s : Text) → FindsText part s None → pieces part s ≡ s ∷ []
cut_none part s h = no_place part [] s h

-- there is a first part always
abbrev IsSome : List Text → Type 0
IsSome [] = ⊥
IsSome (p ∷ ps) = Unit {0}

some_if : (part front s : Text) (b : ℕ) (t : Bool) → IsSome (pieces_from part 0 (front ++ b ∷ []) s) → IsSome (cut_if part front s b t)
some_if part front s b true h = tt
some_if part front s b false h = h

some_from : (part front s : Text) (n : ℕ) → IsSome (pieces_from part n front s)
some_from part front [] zero = tt
some_from part front [] (suc n) = tt
some_from part front (b ∷ s) (suc n) = some_from part front s n
some_from part front (b ∷ s) zero = some_if part front s b (starts_with part (b ∷ s)) (some_from part (front ++ b ∷ []) s 0)

-- ## Lists of parts
parts_listed : (ps : List Text) → items_of (map text ps) ≡ text_items ps
parts_listed [] = refl
parts_listed (p ∷ ps) = ap (λ l. item (text p) l) (parts_listed ps)

pub parts_more : (a b : List Data) (part all rest front back t : Text) → a ++ map text (pieces part rest) ≡ map text (pieces part all) → pieces part rest ≡ front ∷ pieces part back → t ≡ front → b ≡ a ++ text t ∷ [] → b ++ map text (pieces part back) ≡ map text (pieces part all)
parts_more a b part all rest front back t h k v e =
    ap (λ l. l ++ map text (pieces part back)) (e ∙ ap (λ x. a ++ text x ∷ []) v)
    ∙ append_assoc a (text front ∷ []) (map text (pieces part back))
    ∙ ap (λ l. a ++ map text l) (sym k)
    ∙ h

pub parts_end : (a b : List Data) (part all rest t : Text) → a ++ map text (pieces part rest) ≡ map text (pieces part all) → pieces part rest ≡ rest ∷ [] → t ≡ rest → b ≡ a ++ text t ∷ [] → b ≡ map text (pieces part all)
parts_end a b part all rest t h k v e = e ∙ ap (λ x. a ++ text x ∷ []) v ∙ ap (λ l. a ++ map text l) (sym k) ∙ h

pub split_is : (part s : Text) (parts : List Data) → 0 < length part → parts ≡ map text (pieces part s) → sized (list (items_of parts)) ≡ unless_empty part (sized (list (text_items (pieces part s))))
split_is [] s parts some h = absurd (omega (arith, some))
split_is (c ∷ part) s parts some h = ap (λ l. sized (list (items_of l))) h ∙ ap (λ l. sized (list l)) (parts_listed (pieces (c ∷ part) s))

-- ## The parts with a text between them
joined_front : (between front : Text) (ps : List Text) → IsSome ps → joined_by between (front ∷ ps) ≡ front ++ (between ++ joined_by between ps)
joined_front between front [] h = absurd h
joined_front between front (q ∷ qs) h = ap (λ l. front ++ l) (append_assoc between q (flat_map (λ p. between ++ p) qs))

-- what a place adds, in front of what is left
pub joined_step : (part between rest front back : Text) → pieces part rest ≡ front ∷ pieces part back → joined_by between (pieces part rest) ≡ front ++ (between ++ joined_by between (pieces part back))
joined_step part between rest front back k =
    ap (λ l. joined_by between l) k ∙ joined_front between front (pieces part back) (some_from part [] back 0)

pub joined_last : (part between rest : Text) → pieces part rest ≡ rest ∷ [] → joined_by between (pieces part rest) ≡ rest
joined_last part between rest k = ap (λ l. joined_by between l) k ∙ append-nil rest

-- ## Where the parts begin
starts_front : (from n : ℕ) (front : Text) (ps : List Text) → IsSome ps → starts_of from n (front ∷ ps) ≡ integer (pos (from + length (chars front))) ∷ starts_of (from + length (chars front) + n) n ps
starts_front from n front [] h = absurd h
starts_front from n front (q ∷ qs) h = refl

pub starts_more : (a b whole : List Data) (part rest front back : Text) (from start next n : ℕ) (d : Data) → a ++ starts_of from n (pieces part rest) ≡ whole → pieces part rest ≡ front ∷ pieces part back → start ≡ from + length (chars front) → d ≡ integer (pos start) → b ≡ a ++ d ∷ [] → next ≡ start + n → b ++ starts_of next n (pieces part back) ≡ whole
starts_more a b whole part rest front back from start next n d h k s v e m =
    let after : next ≡ from + length (chars front) + n = m ∙ ap (λ x. x + n) s in
    let first : d ≡ integer (pos (from + length (chars front))) = v ∙ ap (λ x. integer (pos x)) s in
    ap (λ l. l ++ starts_of next n (pieces part back)) e
    ∙ append_assoc a (d ∷ []) (starts_of next n (pieces part back))
    ∙ (λ i. a ++ (first i ∷ starts_of (after i) n (pieces part back)))
    ∙ ap (λ l. a ++ l) (sym (starts_front from n front (pieces part back) (some_from part [] back 0)))
    ∙ ap (λ l. a ++ starts_of from n l) (sym k)
    ∙ h

pub starts_end : (a whole : List Data) (part rest : Text) (from n : ℕ) → a ++ starts_of from n (pieces part rest) ≡ whole → pieces part rest ≡ rest ∷ [] → a ≡ whole
starts_end a whole part rest from n h k = sym (append-nil a) ∙ ap (λ l. a ++ starts_of from n l) (sym k) ∙ h
