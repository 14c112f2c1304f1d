-- What quoted texts say, a character at a time.
use Rattle.std.proofs.Common.{◌≡◌, ◌<◌, ◌≤◌, ℕ, suc, Bool, true, false, List, [], ◌∷◌, ◌++◌, length, get_or, if◌then◌else◌, ◌==◌, ◌||◌, ⊎_elim, refl, sym, ap, ◌∙◌, arith, append_assoc, append-nil}
use Rattle.std.proofs.lemmas.Bool.{cases_lt, eq-eqb, ne_eqb, eqb-true, and_parts, true≢false}
use Rattle.std.proofs.lemmas.Str.{encode_ascii, char_from_byte, length-encode, len_utf8_bounds}
use Rattle.std.specs.Char.{encode_utf8}
use Rattle.wf_lemmas.proofs.Texts.{high_bytes}
use Rattle.wf_expr.specs.Symbols.{escaped, said, text_said}
use Rattle.wf_span.specs.Tokens.{is_token, is_quote, is_closed, is_escaped}
use Rattle.wf_span.specs.declared.token.TokenKind.TheVariants as token

-- ## Bytes that are no ASCII
abbrev AllHigh : List ℕ → Type 0
AllHigh [] = Unit {0}
AllHigh (b ∷ l) = (128 ≤ b) × AllHigh l

all_high : (l : List ℕ) → ((k : ℕ) → k < length l → 128 ≤ get_or l k 0) → AllHigh l
all_high [] h = tt
all_high (b ∷ l) h = (h 0 (omega arith), all_high l (λ k a. h (suc k) (omega arith)))

high_encoded : (c : ℕ) → 128 ≤ c → AllHigh (encode_utf8 c)
high_encoded c h = all_high (encode_utf8 c) (λ k l. high_bytes c h k l (cases_lt (get_or (encode_utf8 c) k 0) 128))

-- a byte that isn't the quote or a backslash says itself
own_byte : (q b : ℕ) (rest : List ℕ) → (b == 92) ≡ false → (b == q) ≡ false → said q false (b ∷ rest) ≡ b ∷ said q false rest
own_byte q b rest h k =
    ap (λ x. if x then said q true rest else if b == q then [] else b ∷ said q false rest) h
    ∙ ap (λ x. if x then [] else b ∷ said q false rest) k

high_said : (q : ℕ) → q < 128 → (l rest : List ℕ) → AllHigh l → said q false (l ++ rest) ≡ l ++ said q false rest
high_said q s [] rest h = refl
high_said q s (b ∷ l) rest h =
    own_byte q b (l ++ rest) (ne_eqb b 92 (λ e. omega (arith, h.0))) (ne_eqb b q (λ e. omega (arith, h.0)))
    ∙ ap (λ r. b ∷ r) (high_said q s l rest h.1)

-- ## A character
low_own : (q c : ℕ) (rest : List ℕ) → c < 128 → (c == 92) ≡ false → (c == q) ≡ false → said q false (encode_utf8 c ++ rest) ≡ encode_utf8 c ++ said q false rest
low_own q c rest m h k =
    let one = encode_ascii c m in
    ap (λ l. said q false (l ++ rest)) one ∙ own_byte q c rest h k ∙ ap (λ l. l ++ said q false rest) (sym one)

pub own_said : (q c : ℕ) (rest : List ℕ) → q < 128 → (c == 92) ≡ false → (c == q) ≡ false → said q false (encode_utf8 c ++ rest) ≡ encode_utf8 c ++ said q false rest
own_said q c rest s h k = ⊎_elim (λ m. low_own q c rest m h k) (λ m. high_said q s (encode_utf8 c) rest (high_encoded c m)) (cases_lt c 128)

same_number : (c n : ℕ) → (c == n) ≡ true → c ≡ n
same_number c n h = eqb-true c n h

pub quote_said : (q c : ℕ) (rest : List ℕ) → q < 128 → (c == 92) ≡ false → (c == q) ≡ true → said q false (encode_utf8 c ++ rest) ≡ []
quote_said q c rest s h k =
    let e : c ≡ q = same_number c q k in
    let m : c < 128 = omega arith in
    ap (λ l. said q false (l ++ rest)) (encode_ascii c m)
    ∙ ap (λ x. if x then said q true rest else if c == q then [] else c ∷ said q false rest) h
    ∙ ap (λ x. if x then [] else c ∷ said q false rest) k

low_choice : (c : ℕ) (x y z : Bool) → c < 128 → (if x then 10 else if y then 13 else if z then 9 else c) < 128
low_choice c true y z h = omega arith
low_choice c false true z h = omega arith
low_choice c false false true h = omega arith
low_choice c false false false h = h

escaped_low : (c : ℕ) → c < 128 → escaped c < 128
escaped_low c h = low_choice c (c == 110) (c == 114) (c == 116) h

escaped_high : (c : ℕ) → 128 ≤ c → escaped c ≡ c
escaped_high c h =
    ap (λ x. if x then 10 else if c == 114 then 13 else if c == 116 then 9 else c) (ne_eqb c 110 (λ e. omega (arith, h)))
    ∙ ap (λ x. if x then 13 else if c == 116 then 9 else c) (ne_eqb c 114 (λ e. omega (arith, h)))
    ∙ ap (λ x. if x then 9 else c) (ne_eqb c 116 (λ e. omega (arith, h)))

high_escape : (q : ℕ) → q < 128 → (l rest : List ℕ) → AllHigh l → 0 < length l → said q true (l ++ rest) ≡ l ++ said q false rest
high_escape q s [] rest h n = absurd (omega (arith, n))
high_escape q s (b ∷ l) rest h n = ap (λ x. x ∷ said q false (l ++ rest)) (escaped_high b h.0) ∙ ap (λ r. b ∷ r) (high_said q s l rest h.1)

some_bytes : (c : ℕ) → 0 < length (encode_utf8 c)
some_bytes c = let e = length-encode c in let b = (len_utf8_bounds c).0 in omega (arith, e, b)

low_escape : (q c : ℕ) (rest : List ℕ) → c < 128 → said q true (encode_utf8 c ++ rest) ≡ encode_utf8 (escaped c) ++ said q false rest
low_escape q c rest m =
    ap (λ l. said q true (l ++ rest)) (encode_ascii c m) ∙ ap (λ l. l ++ said q false rest) (sym (encode_ascii (escaped c) (escaped_low c m)))

high_char_escape : (q c : ℕ) (rest : List ℕ) → q < 128 → 128 ≤ c → said q true (encode_utf8 c ++ rest) ≡ encode_utf8 (escaped c) ++ said q false rest
high_char_escape q c rest s m =
    high_escape q s (encode_utf8 c) rest (high_encoded c m) (some_bytes c) ∙ ap (λ x. encode_utf8 x ++ said q false rest) (sym (escaped_high c m))

pub escape_said : (q c : ℕ) (rest : List ℕ) → q < 128 → said q true (encode_utf8 c ++ rest) ≡ encode_utf8 (escaped c) ++ said q false rest
escape_said q c rest s = ⊎_elim (λ m. low_escape q c rest m) (λ m. high_char_escape q c rest s m) (cases_lt c 128)

-- ## The first quote
no_quote : (b : ℕ) → 128 ≤ b → is_quote b ≡ false
no_quote b h = (λ i. ne_eqb b 34 (λ e. omega (arith, h)) i || ne_eqb b 39 (λ e. omega (arith, h)) i)

quote_low : (b : ℕ) → is_quote b ≡ true → b < 128
quote_low b h = ⊎_elim (λ m. m) (λ m. absurd (true≢false (sym h ∙ no_quote b m))) (cases_lt b 128)

pub first_quote : (text rest : List ℕ) (c : ℕ) → is_token token.Text text ≡ true → text ≡ encode_utf8 c ++ rest → (c < 128) × (text_said text ≡ said c false rest)
first_quote [] rest c h e = absurd (true≢false (sym h))
first_quote (b ∷ r) rest c h e =
    let low : b < 128 = quote_low b (and_parts (is_quote b) (is_closed is_escaped b r) h).0 in
    let same : c ≡ b = char_from_byte (b ∷ r) rest c e low (omega arith) in
    let small : c < 128 = omega arith in
    (small, ap text_said e ∙ ap (λ l. text_said (l ++ rest)) (encode_ascii c small))

-- ## Loops
pub said_more : (q : ℕ) (after next : Bool) (out new s rest all bytes : List ℕ) → out ++ said q after s ≡ all → said q after s ≡ bytes ++ said q next rest → new ≡ out ++ bytes → new ++ said q next rest ≡ all
said_more q after next out new s rest all bytes h k e = ap (λ l. l ++ said q next rest) e ∙ append_assoc out bytes (said q next rest) ∙ ap (λ l. out ++ l) (sym k) ∙ h

-- where no character is left, or the quote comes, all is said
pub said_end : (q : ℕ) (after : Bool) (out s all : List ℕ) → out ++ said q after s ≡ all → length s ≡ 0 → out ≡ all
said_end q after out [] all h e = sym (append-nil out) ∙ h
said_end q after out (b ∷ s) all h e = absurd (omega (arith, e))

pub said_closed : (q c : ℕ) (out s rest all : List ℕ) → q < 128 → (c ≡ 92 → ⊥) → c ≡ q → out ++ said q false s ≡ all → s ≡ encode_utf8 c ++ rest → out ≡ all
said_closed q c out s rest all m n k h e =
    sym (append-nil out) ∙ ap (λ l. out ++ l) (sym (ap (said q false) e ∙ quote_said q c rest m (ne_eqb c 92 n) (eq-eqb c q k))) ∙ h
