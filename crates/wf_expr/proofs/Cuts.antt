-- Where texts are cut.
use Rattle.std.proofs.Common.{◌≡◌, ◌<◌, ◌+◌, ◌==◌, ◌&&◌, ℕ, suc, Bool, true, false, not, List, [], ◌∷◌, ◌++◌, length, get_or, take, drop, Option, Some, None, option_map, MatchBool, IsCharBoundary, IsUtf8, if◌then◌else◌, refl, sym, ap, ◌∙◌, subst, arith, append_assoc, take-append-drop, length-take, length-drop, get_or-drop, drop-drop}
use Rattle.std.proofs.lemmas.Bool.{and_parts, eqb-true, false_from_ne_true, false≢true}
use Rattle.std.proofs.lemmas.Str.{IsCharBoundary-after_ascii, IsCharBoundary-before_ascii}
use Rattle.std.specs.List.{list_all}
use Rattle.std.specs.Str.Pattern.{FindsText, HasMatch, LacksTextAt}
use Rattle.wf_expr.specs.Pieces.{Piece, said, hole, unclosed, behind, closes, in_hole, into, pieces, say}
use Rattle.wf_expr.specs.Splits.{length_in, said_in}
use Rattle.wf_expr.specs.Texts.{has_expressions, is_said}
use Rattle.wf_expr.specs.declared.quoting.Quoting.{Quoting}
use Rattle.wf_expr.specs.declared.quoting.Quoting.TheVariants.{Bare, Quoted, Escaped}
use Rattle.wf_value.specs.Pairs.{Text}

-- ## The end of an expression
-- where it is at n, or nowhere
abbrev pub HoleIs : Quoting → Text → Option ℕ → Type 0
HoleIs q s None = in_hole q s ≡ unclosed s ∷ []
HoleIs q s (Some n) = (in_hole q s ≡ hole (take n s) ∷ pieces (drop (suc n) s)) × (n < length s) × (get_or s n 0 ≡ 125)

closes_brace : (q : Quoting) (b : ℕ) → closes q b ≡ true → b ≡ 125
closes_brace Bare b h = eqb-true b 125 h
closes_brace (Quoted c) b h = absurd (false≢true h)
closes_brace (Escaped c) b h = absurd (false≢true h)

in_hole_by : (q : Quoting) (b : ℕ) (s : Text) (c : Bool) → closes q b ≡ c → in_hole q (b ∷ s) ≡ (if c then hole [] ∷ pieces s else into b (in_hole (behind q b) s))
in_hole_by q b s c h = ap (λ x. if x then hole [] ∷ pieces s else into b (in_hole (behind q b) s)) h

hole_step : (q : Quoting) (b : ℕ) (s : Text) (o : Option ℕ) (c : Bool) → closes q b ≡ c → HoleIs (behind q b) s o → HoleIs q (b ∷ s) (if c then Some 0 else option_map suc o)
hole_step q b s o true h k = (in_hole_by q b s true h, omega arith, closes_brace q b h)
hole_step q b s None false h k = in_hole_by q b s false h ∙ ap (into b) k
hole_step q b s (Some n) false h k = (in_hole_by q b s false h ∙ ap (into b) k.0, omega (arith, k.1), k.2)

pub hole_is : (q : Quoting) (s : Text) → HoleIs q s (length_in q s)
hole_is q [] = refl
hole_is q (b ∷ s) = hole_step q b s (length_in (behind q b) s) (closes q b) refl (hole_is (behind q b) s)

pub open_hole : (s : Text) → None ≡ length_in Bare s → in_hole Bare s ≡ unclosed s ∷ []
open_hole s h = subst (HoleIs Bare s) (sym h) (hole_is Bare s)

pub closed_hole : (s : Text) (n : ℕ) → Some n ≡ length_in Bare s → HoleIs Bare s (Some n)
closed_hole s n h = subst (HoleIs Bare s) (sym h) (hole_is Bare s)

pub brace_boundary : (s : Text) (n : ℕ) → Some n ≡ length_in Bare s → IsCharBoundary s n
brace_boundary s n h = let k = closed_hole s n h in IsCharBoundary-before_ascii s n k.1 (omega (arith, k.2))

pub behind_boundary : (s closed : Text) (n : ℕ) → Some n ≡ length_in Bare s → closed ≡ drop n s → IsUtf8 closed → IsCharBoundary closed 1
behind_boundary s closed n h e u =
    let k = closed_hole s n h in
    let long : 0 < length closed = omega (arith, k.1, ap length e, length-drop n s) in
    let here : n + 0 ≡ n = omega arith in
    let byte : get_or closed 0 0 ≡ 125 = ap (λ l. get_or l 0 0) e ∙ get_or-drop n s 0 0 ∙ ap (λ i. get_or s i 0) here ∙ k.2 in
    let first : get_or closed 0 0 < 128 = omega (arith, byte) in
    IsCharBoundary-after_ascii closed 0 u long first

pub hole_cut : (s source closed back : Text) (n : ℕ) → Some n ≡ length_in Bare s → source ≡ take n s → closed ≡ drop n s → back ≡ drop 1 closed → (in_hole Bare s ≡ hole source ∷ pieces back) × (length back < length s)
hole_cut s source closed back n h e f g =
    let k = closed_hole s n h in
    let one : n + 1 ≡ suc n = omega arith in
    let b : back ≡ drop (suc n) s = g ∙ ap (drop 1) f ∙ drop-drop 1 n s ∙ ap (λ i. drop i s) one in
    (k.0 ∙ (λ i. hole (sym e i) ∷ pieces (sym b i)), omega (arith, k.1, ap length b, length-drop (suc n) s))

-- ## Where expressions begin
abbrev pub marks : Text
marks = 36 ∷ 123 ∷ []

-- nothing is said first
abbrev IsOpened : List Piece → Type 0
IsOpened [] = ⊥
IsOpened (said s ∷ ps) = ⊥
IsOpened (hole s ∷ ps) = Unit {0}
IsOpened (unclosed s ∷ ps) = Unit {0}

into_opened : (b : ℕ) (ps : List Piece) → IsOpened ps → IsOpened (into b ps)
into_opened b [] h = absurd h
into_opened b (said s ∷ ps) h = absurd h
into_opened b (hole s ∷ ps) h = tt
into_opened b (unclosed s ∷ ps) h = tt

opened_by : (c : Bool) (b : ℕ) (next more : List Piece) → IsOpened more → IsOpened (if c then hole [] ∷ next else into b more)
opened_by true b next more h = tt
opened_by false b next more h = into_opened b more h

opened : (q : Quoting) (s : Text) → IsOpened (in_hole q s)
opened q [] = tt
opened q (b ∷ s) = opened_by (closes q b) b (pieces s) (in_hole (behind q b) s) (opened (behind q b) s)

say_opened : (b : ℕ) (ps : List Piece) → IsOpened ps → say b ps ≡ said (b ∷ []) ∷ ps
say_opened b [] h = absurd h
say_opened b (said s ∷ ps) h = absurd h
say_opened b (hole s ∷ ps) h = refl
say_opened b (unclosed s ∷ ps) h = refl

not_here : (b c : ℕ) (s : Text) → (b ≡ 36 → c ≡ 123 → ⊥) → pieces (b ∷ c ∷ s) ≡ say b (pieces (c ∷ s))
not_here b c s h =
    let test : (b == 36 && c == 123) ≡ false = false_from_ne_true (b == 36 && c == 123) (λ e. let p = and_parts (b == 36) (c == 123) e in h (eqb-true b 36 p.0) (eqb-true c 123 p.1)) in
    ap (λ x. if x then in_hole Bare s else say b (pieces (c ∷ s))) test

pub no_opening : (s : Text) → FindsText marks s None → pieces s ≡ said_in s
no_opening [] h = refl
no_opening (b ∷ []) h = refl
no_opening (b ∷ c ∷ s) h =
    not_here b c s (λ e f. h 0 (omega arith) s (λ i. e i ∷ f i ∷ s)) ∙ ap (say b) (no_opening (c ∷ s) (λ i l. h (suc i) (omega (arith, l))))

first_opening : (front r : Text) → ((i : ℕ) → i < length front → LacksTextAt marks (front ++ 36 ∷ 123 ∷ r) i) → pieces (front ++ 36 ∷ 123 ∷ r) ≡ said_in front ++ in_hole Bare r
first_opening [] r h = refl
first_opening (b ∷ []) r h = not_here b 36 (123 ∷ r) (λ e f. omega (arith, f)) ∙ say_opened b (in_hole Bare r) (opened Bare r)
first_opening (b ∷ c ∷ front) r h =
    not_here b c (front ++ 36 ∷ 123 ∷ r) (λ e f. h 0 (omega arith) (front ++ 36 ∷ 123 ∷ r) (λ i. e i ∷ f i ∷ (front ++ 36 ∷ 123 ∷ r)))
    ∙ ap (say b) (first_opening (c ∷ front) r (λ i l. h (suc i) (omega (arith, l))))

pub cut_at : (s front back : Text) (i j : ℕ) → FindsText marks s (Some (i, j)) → front ≡ take i s → back ≡ drop j s → length front ≡ i → pieces s ≡ said_in front ++ in_hole Bare back
cut_at s front back i j h f b n =
    let whole : s ≡ front ++ 36 ∷ 123 ∷ back = sym (take-append-drop i s) ∙ ap (λ l. take i s ++ l) h.1.split ∙ (λ k. sym f k ++ (36 ∷ 123 ∷ sym b k)) in
    ap pieces whole ∙ first_opening front back (λ k l. subst (λ (x : Text). LacksTextAt marks x k) whole (h.0 k (omega (arith, l, n))))

-- ## One piece after the other
pub cut_more : (a b c : List Piece) (all rest front opening source back : Text) → a ++ pieces rest ≡ pieces all → pieces rest ≡ said_in front ++ in_hole Bare opening → in_hole Bare opening ≡ hole source ∷ pieces back → b ≡ a ++ said_in front → c ≡ b ++ hole source ∷ [] → c ++ pieces back ≡ pieces all
cut_more a b c all rest front opening source back h k m e f =
    ap (λ l. l ++ pieces back) f
    ∙ append_assoc b (hole source ∷ []) (pieces back)
    ∙ ap (λ l. l ++ hole source ∷ pieces back) e
    ∙ append_assoc a (said_in front) (hole source ∷ pieces back)
    ∙ ap (λ l. a ++ (said_in front ++ l)) (sym m)
    ∙ ap (λ l. a ++ l) (sym k)
    ∙ h

pub cut_open : (a b c : List Piece) (all rest front opening : Text) → a ++ pieces rest ≡ pieces all → pieces rest ≡ said_in front ++ in_hole Bare opening → in_hole Bare opening ≡ unclosed opening ∷ [] → b ≡ a ++ said_in front → c ≡ b ++ unclosed opening ∷ [] → c ≡ pieces all
cut_open a b c all rest front opening h k m e f =
    f
    ∙ ap (λ l. l ++ unclosed opening ∷ []) e
    ∙ append_assoc a (said_in front) (unclosed opening ∷ [])
    ∙ ap (λ l. a ++ (said_in front ++ l)) (sym m)
    ∙ ap (λ l. a ++ l) (sym k)
    ∙ h

pub cut_end : (a b : List Piece) (all rest : Text) → a ++ pieces rest ≡ pieces all → FindsText marks rest None → b ≡ a ++ said_in rest → b ≡ pieces all
cut_end a b all rest h k e = e ∙ ap (λ l. a ++ l) (sym (no_opening rest k)) ∙ h

-- ## Whether an expression begins
opened_any : (ps : List Piece) → IsOpened ps → list_all is_said ps ≡ false
opened_any [] h = absurd h
opened_any (said s ∷ ps) h = absurd h
opened_any (hole s ∷ ps) h = refl
opened_any (unclosed s ∷ ps) h = refl

front_any : (front : Text) (ps : List Piece) → IsOpened ps → list_all is_said (said_in front ++ ps) ≡ false
front_any [] ps h = opened_any ps h
front_any (b ∷ front) ps h = opened_any ps h

said_alone : (s : Text) → list_all is_said (said_in s) ≡ true
said_alone [] = refl
said_alone (b ∷ s) = refl

pub found : (s : Text) (r : Bool) → MatchBool r (HasMatch (FindsText marks) s) (FindsText marks s None) → r ≡ has_expressions s
found s true h =
    let n : length (take h.0 s) ≡ h.0 = omega (arith, h.3, h.4, length-take h.0 s) in
    let e = cut_at s (take h.0 s) (drop h.1 s) h.0 h.1 h.2 refl refl n in
    sym (ap (λ ps. not (list_all is_said ps)) e ∙ ap not (front_any (take h.0 s) (in_hole Bare (drop h.1 s)) (opened Bare (drop h.1 s))))
found s false h = sym (ap (λ ps. not (list_all is_said ps)) (no_opening s h) ∙ ap not (said_alone s))
