-- What the parts of a flow collection leave behind is no longer than what they were read from.
use Rattle.std.proofs.Common.{◌≡◌, ℕ, zero, suc, ◌<◌, ◌≤◌, List, [], ◌∷◌, length, drop, Bool, true, false, cond, not, ◌&&◌, ◌||◌, ◌==◌, Option, Some, None, refl, arith, length-drop}
use Rattle.wf_yaml_line.specs.Marks.{starts, behind_first, skip, is_blank, is_quote, is_flow_mark, skip_blanks, trimmed, ends_word, hash, colon, single_quote, double_quote, backslash}
use Rattle.wf_yaml_line.specs.Quoted.{Quoted, single, double, quoted, escape, escape_tail, with_escape, with_char}
use Rattle.wf_yaml_flow.specs.Flow.{flow_blanks, Word, no_word, word, quoted_word, expression_word, plain_word, starts_expression, may_start_flow, flow_word, behind_colon, is_property, behind_property, one_more, expression_length, plain_part}

-- a choice keeps what both choices have
pub chosen : {A : Type 0} (P : A → Type 0) (b : Bool) (x y : A) → P x → P y → P (cond b x y)
chosen P true x y h k = h
chosen P false x y h k = k

pub skip_short : (p : ℕ → Bool) (s : List ℕ) → length (skip p s) ≤ length s
skip_short p [] = omega arith
skip_short p (b ∷ r) = chosen (λ (t : List ℕ). length t ≤ length (b ∷ r)) (p b) (skip p r) (b ∷ r) (omega (arith, skip_short p r)) (omega arith)

pub first_short : (s : List ℕ) → length (behind_first s) ≤ length s
first_short [] = omega arith
first_short (b ∷ r) = omega arith

-- where a text starts with something, it is longer than what stands behind
pub first_shorter : (p : ℕ → Bool) (s : List ℕ) → starts p s ≡ true → suc (length (behind_first s)) ≡ length s
first_shorter p [] h = absurd (cc)
first_shorter p (b ∷ r) h = refl

pub blanks_short : (s : List ℕ) → length (flow_blanks s) ≤ length s
blanks_short s = chosen (λ (t : List ℕ). length t ≤ length s) (starts is_blank s && starts (λ b. b == hash) (skip_blanks s)) [] (skip_blanks s) (omega arith) (skip_short is_blank s)

pub property_short : (s : List ℕ) → length (behind_property s) ≤ length s
property_short s =
    let rest = skip (λ b. not (is_blank b || is_flow_mark b)) s in
    chosen (λ (t : List ℕ). length t ≤ length s) (starts is_property s) (flow_blanks rest) s (omega (arith, blanks_short rest, skip_short (λ b. not (is_blank b || is_flow_mark b)) s)) (omega arith)

-- ---- words

abbrev pub RestIn : ℕ → Option (List ℕ) → Type 0
RestIn m None = Unit {0}
RestIn m (Some r) = length r ≤ m

abbrev pub QuotedIn : ℕ → Quoted → Type 0
QuotedIn m q = RestIn m q.rest

longer_rest : (m n : ℕ) (o : Option (List ℕ)) → m ≤ n → RestIn m o → RestIn n o
longer_rest m n None h k = tt
longer_rest m n (Some r) h k = omega (arith, h, k)

with_escape_in : (m : ℕ) (o : Option ℕ) (q : Quoted) → QuotedIn m q → QuotedIn m (with_escape o q)
with_escape_in m None q h = h
with_escape_in m (Some b) q h = h

single_in : (flag : Bool) (s : List ℕ) → QuotedIn (length s) (single flag s)
single_in false [] = tt
single_in true [] = omega arith
single_in false (b ∷ r) = chosen (QuotedIn (length (b ∷ r))) (b == single_quote) (single true r) (with_char b (single false r))
    (longer_rest (length r) (length (b ∷ r)) (single true r).rest (omega arith) (single_in true r))
    (longer_rest (length r) (length (b ∷ r)) (single false r).rest (omega arith) (single_in false r))
single_in true (b ∷ r) = chosen (QuotedIn (length (b ∷ r))) (b == single_quote) (with_char single_quote (single false r)) (record { chars = []; rest = Some (b ∷ r); good = true })
    (longer_rest (length r) (length (b ∷ r)) (single false r).rest (omega arith) (single_in false r))
    (omega arith)

double_in : (escaped : Bool) (n : ℕ) (s : List ℕ) → QuotedIn (length s) (double escaped n s)
double_in escaped n [] = tt
double_in true n (b ∷ r) = longer_rest (length r) (length (b ∷ r)) (with_escape (escape b r) (double false (escape_tail b (escape b r)) r)).rest (omega arith)
    (with_escape_in (length r) (escape b r) (double false (escape_tail b (escape b r)) r) (double_in false (escape_tail b (escape b r)) r))
double_in false (suc n) (b ∷ r) = longer_rest (length r) (length (b ∷ r)) (double false n r).rest (omega arith) (double_in false n r)
double_in false zero (b ∷ r) = chosen (QuotedIn (length (b ∷ r))) (b == double_quote) (record { chars = []; rest = Some r; good = true }) (cond (b == backslash) (double true zero r) (with_char b (double false zero r)))
    (omega arith)
    (chosen (QuotedIn (length (b ∷ r))) (b == backslash) (double true zero r) (with_char b (double false zero r))
    (longer_rest (length r) (length (b ∷ r)) (double true zero r).rest (omega arith) (double_in true zero r))
    (longer_rest (length r) (length (b ∷ r)) (double false zero r).rest (omega arith) (double_in false zero r)))

quoted_in : (s : List ℕ) → QuotedIn (length s) (quoted s)
quoted_in [] = tt
quoted_in (b ∷ r) = chosen (QuotedIn (length (b ∷ r))) (b == single_quote) (single false r) (double false zero r)
    (longer_rest (length r) (length (b ∷ r)) (single false r).rest (omega arith) (single_in false r))
    (longer_rest (length r) (length (b ∷ r)) (double false zero r).rest (omega arith) (double_in false zero r))

abbrev pub WordIn : ℕ → Word → Type 0
WordIn m no_word = Unit {0}
WordIn m (word c q g rest) = length rest ≤ m

quoted_word_in : (m : ℕ) (s : List ℕ) (o : Option (List ℕ)) (good : Bool) → RestIn m o → WordIn m (quoted_word s o good)
quoted_word_in m s None good h = tt
quoted_word_in m s (Some r) good h = h

drop_short : (n : ℕ) (s : List ℕ) → length (drop n s) ≤ length s
drop_short n s = omega (arith, length-drop n s)

expression_in : (s : List ℕ) (o : Option ℕ) → WordIn (length s) (expression_word s o)
expression_in s None = tt
expression_in s (Some n) = drop_short n s

plain_in : (s part : List ℕ) (b : Bool) → WordIn (length s) (cond b no_word (word part false true (drop (length part) s)))
plain_in s part true = tt
plain_in s part false = drop_short (length part) s

pub word_in : (s : List ℕ) → WordIn (length s) (flow_word s)
word_in s =
    let m = length s in
    let in_quotes = quoted_word (quoted s).chars (quoted s).rest (quoted s).good in
    let expression = expression_word s (one_more (one_more (expression_length 0 false (behind_first (behind_first s))))) in
    let plain = plain_word s (trimmed (plain_part false s)) in
    chosen (WordIn m) (starts is_quote s) in_quotes (cond (starts_expression s) expression (cond (may_start_flow s) plain no_word))
    (quoted_word_in m (quoted s).chars (quoted s).rest (quoted s).good (quoted_in s))
    (chosen (WordIn m) (starts_expression s) expression (cond (may_start_flow s) plain no_word)
    (expression_in s (one_more (one_more (expression_length 0 false (behind_first (behind_first s))))))
    (chosen (WordIn m) (may_start_flow s) plain no_word (plain_in s (trimmed (plain_part false s)) _) tt))

-- what stands behind a `:` is shorter
abbrev pub BehindIn : ℕ → Option (List ℕ) → Type 0
BehindIn m None = Unit {0}
BehindIn m (Some r) = length r < m

colon_found : (t : List ℕ) (m : ℕ) (q : Bool) → length t ≤ m → BehindIn m (cond (starts (λ b. b == colon) t && q) (Some (behind_first t)) None)
colon_found [] m q h = tt
colon_found (b ∷ r) m q h = chosen (BehindIn m) ((b == colon) && q) (Some r) None (omega (arith, h)) tt

pub colon_in : (q : Bool) (s : List ℕ) → BehindIn (length s) (behind_colon q s)
colon_in q s = colon_found (skip_blanks s) (length s) (q || ends_word (behind_first (skip_blanks s))) (skip_short is_blank s)
