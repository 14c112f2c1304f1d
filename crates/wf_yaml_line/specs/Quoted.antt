-- Quoted scalars.
use Rattle.std.specs.Prelude.{ℕ, zero, suc, List, [], ◌∷◌, length, take, Bool, true, false, cond, ◌&&◌, ◌||◌, ◌==◌, nat_lt, nat_le, Option, Some, None}
use Rattle.wf_yaml_line.specs.Marks.{single_quote, double_quote, backslash}
use Rattle.wf_yaml_line.specs.Words.{all_digits, number_from}

-- what was read of a quoted scalar: its characters, what stands behind the closing quote, or None where
-- the quote is open, and whether each escape is good
pub record Quoted : Type 0 where
  pub chars : List ℕ
  pub rest : Option (List ℕ)
  pub good : Bool

-- with a character in front
abbrev pub with_char : ℕ → Quoted → Quoted
with_char b q = record { chars = b ∷ q.chars; rest = q.rest; good = q.good }

-- with an escape's character in front, or a bad escape
abbrev pub with_escape : Option ℕ → Quoted → Quoted
with_escape (Some b) q = record { chars = b ∷ q.chars; rest = q.rest; good = q.good }
with_escape None q = record { chars = q.chars; rest = q.rest; good = false }

-- The quote isn't closed.
abbrev pub open_quote : Quoted
open_quote = record { chars = []; rest = None; good = true }

-- The quote is closed, and the rest stands behind it.
abbrev pub closed : List ℕ → Quoted
closed r = record { chars = []; rest = Some r; good = true }

-- Behind the opening single quote. The flag says that a quote stands before, which closes unless another
-- follows.
abbrev pub single : Bool → List ℕ → Quoted
single false [] = open_quote
single true [] = closed []
single false (b ∷ r) = let go = single false r in cond (b == single_quote) (single true r) (with_char b go)
single true (b ∷ r) = let go = single false r in cond (b == single_quote) (with_char single_quote go) (closed (b ∷ r))

-- how many digits follow an escape's letter: `x`, `u`, `U`, and others
abbrev pub escape_width : ℕ → ℕ
escape_width b = cond (b == 120) 2 (cond (b == 117) 4 (cond (b == 85) 8 0))

-- the escapes of one letter: `\\ \" \/ \0 \a \b \t \n \v \f \r \e`
abbrev pub simple_escape : ℕ → Option ℕ
simple_escape b =
    cond (b == 92 || b == 34 || b == 47) (Some b)
    (cond (b == 48) (Some 0)
    (cond (b == 97) (Some 7)
    (cond (b == 98) (Some 8)
    (cond (b == 116) (Some 9)
    (cond (b == 110) (Some 10)
    (cond (b == 118) (Some 11)
    (cond (b == 102) (Some 12)
    (cond (b == 114) (Some 13)
    (cond (b == 101) (Some 27) None)))))))))

-- a number of a character: no surrogate, and at most 0x10FFFF
abbrev pub is_character : ℕ → Bool
is_character c = nat_lt c 0xD800 || (nat_le 0xE000 c && nat_lt c 0x11_0000)

-- the character that so many digits spell
abbrev pub hex_escape : ℕ → List ℕ → Option ℕ
hex_escape width r =
    cond (length (take width r) == width && all_digits 16 (take width r) && is_character (number_from 16 0 (take width r)))
    (Some (number_from 16 0 (take width r))) None

-- the character of an escape, of its letter and what follows it
abbrev pub escape : ℕ → List ℕ → Option ℕ
escape b r = cond (escape_width b == 0) (simple_escape b) (hex_escape (escape_width b) r)

-- how many characters behind the letter belong to a good escape
abbrev pub escape_tail : ℕ → Option ℕ → ℕ
escape_tail b (Some c) = escape_width b
escape_tail b None = 0

-- Behind the opening double quote. The number tells how many characters are still part of an escape, and the
-- flag that a backslash stands before.
abbrev pub double : Bool → ℕ → List ℕ → Quoted
double escaped n [] = open_quote
double true n (b ∷ r) = with_escape (escape b r) (double false (escape_tail b (escape b r)) r)
double false (suc n) (b ∷ r) = double false n r
double false zero (b ∷ r) =
    let go = double false zero r in
    let escaped = double true zero r in
    cond (b == double_quote) (closed r) (cond (b == backslash) escaped (with_char b go))

-- the quoted scalar at the start of a text
abbrev pub quoted : List ℕ → Quoted
quoted [] = open_quote
quoted (b ∷ r) =
    let in_single = single false r in
    let in_double = double false zero r in
    cond (b == single_quote) in_single in_double
