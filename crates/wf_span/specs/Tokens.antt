-- What a token of an expression is, and what the tokens of a source are.
use Rattle.std.specs.Prelude.{◌≡◌, ◌≤◌, ℕ, suc, ◌+◌, Bool, true, false, ◌&&◌, ◌||◌, not, List, [], ◌∷◌, ◌++◌, length, if◌then◌else◌, ◌==◌, nat_le, codes}
use Rattle.std.specs.List.{list_all, list_any}
use Rattle.wf_span.specs.declared.token.TokenKind.{TokenKind}
use Rattle.wf_span.specs.declared.token.TokenKind.TheVariants.{Name, Number, Text, Mark}
use Rattle.wf_span.specs.declared.token.LexFault.{LexFault}
use Rattle.wf_span.specs.declared.token.LexFault.TheVariants.{BadCharacter, OpenText, OutOfMemory}

-- ## Characters

-- a space or a tab
abbrev pub is_blank : ℕ → Bool
is_blank b = b == 32 || b == 9

abbrev pub is_digit : ℕ → Bool
is_digit b = nat_le 48 b && nat_le b 57

-- an ASCII letter or `_`
abbrev pub is_letter : ℕ → Bool
is_letter b = nat_le 65 b && nat_le b 90 || nat_le 97 b && nat_le b 122 || b == 95

abbrev pub is_name_byte : ℕ → Bool
is_name_byte b = is_letter b || is_digit b

-- `"` or `'`
abbrev pub is_quote : ℕ → Bool
is_quote b = b == 34 || b == 39

-- what may stand behind a backslash in a text: `\\ \" \' \n \r \t`
abbrev pub is_escaped : ℕ → Bool
is_escaped b = list_any (λ c. b == c) (codes "\\\"'nrt")

-- ## Tokens

-- a mark of one byte, and one of two
abbrev pub is_mark_byte : ℕ → Bool
is_mark_byte b = list_any (λ c. b == c) (codes "+-*/%<>.[](),")

abbrev pub is_mark_pair : ℕ → ℕ → Bool
is_mark_pair b c = c == 61 && list_any (λ d. b == d) (codes "=!<>") || b == 47 && c == 47

abbrev pub is_mark : List ℕ → Bool
is_mark [] = false
is_mark (b ∷ []) = is_mark_byte b
is_mark (b ∷ c ∷ []) = is_mark_pair b c
is_mark (b ∷ c ∷ d ∷ r) = false

-- What stands behind the quote that began a text: characters other than the quote, each backslash with one behind it that passes, and the quote at the end and nowhere else.
abbrev pub is_closed : (ℕ → Bool) → ℕ → List ℕ → Bool
is_closed passes quote [] = false
is_closed passes quote (b ∷ []) = b == quote
is_closed passes quote (b ∷ c ∷ r) = if b == 92 then passes c && is_closed passes quote r else not (b == quote) && is_closed passes quote (c ∷ r)

-- all characters pass
abbrev pub any : ℕ → Bool
any b = true

-- these bytes are a token of this kind
abbrev pub is_token : TokenKind → List ℕ → Bool
is_token k [] = false
is_token Name (b ∷ r) = is_letter b && list_all is_name_byte r
is_token Number (b ∷ r) = is_digit b && list_all is_digit r
is_token Text (b ∷ r) = is_quote b && is_closed is_escaped b r
is_token Mark (b ∷ r) = is_mark (b ∷ r)

-- a source begins with this token, and with no longer one
pub record IsLongest (source : List ℕ) (k : TokenKind) (text behind : List ℕ) : Type 0 where
  pub whole : source ≡ text ++ behind
  pub token : is_token k text ≡ true
  pub longest : (j : TokenKind) (other more : List ℕ) → source ≡ other ++ more → is_token j other ≡ true → length other ≤ length text

-- ## Faults

-- a source begins with a character other than a blank or a quote, and no token begins there
pub record IsNoToken (source : List ℕ) : Type 0 where
  pub first : ℕ
  pub more : List ℕ
  pub whole : source ≡ first ∷ more
  pub no_blank : is_blank first ≡ false
  pub no_quote : is_quote first ≡ false
  pub none : (k : TokenKind) (text behind : List ℕ) → source ≡ text ++ behind → is_token k text ≡ false

-- a source begins with a quote, and no text that it began is closed, whatever its escapes
pub record IsOpen (source : List ℕ) : Type 0 where
  pub quote : ℕ
  pub more : List ℕ
  pub whole : source ≡ quote ∷ more
  pub quoted : is_quote quote ≡ true
  pub unclosed : (text behind : List ℕ) → more ≡ text ++ behind → is_closed any quote text ≡ false

-- a source begins with a text that is closed, and this is the place of its first escape that there isn't: were the text closed before, it would be one
pub record IsBadEscape (source : List ℕ) (n : ℕ) : Type 0 where
  pub quote : ℕ
  pub before : List ℕ
  pub escaped : ℕ
  pub after : List ℕ
  pub behind : List ℕ
  pub whole : source ≡ quote ∷ (before ++ 92 ∷ escaped ∷ (after ++ behind))
  pub place : n ≡ suc (length before)
  pub fine_before : is_token Text (quote ∷ (before ++ quote ∷ [])) ≡ true
  pub bad : is_escaped escaped ≡ false
  pub closed : is_closed any quote after ≡ true

-- the fault that stands where a source goes on at a place
pub data FaultAt (at : ℕ) (source : List ℕ) : LexFault → Type 0 where
  no_token : IsNoToken source → FaultAt at source (BadCharacter at)
  bad_escape : (n : ℕ) → IsBadEscape source n → FaultAt at source (BadCharacter (at + n))
  open_text : IsOpen source → FaultAt at source (OpenText at)

-- ## The tokens of a source

-- a token without where it lies in memory
pub record PlacedToken : Type 0 where
  pub kind : TokenKind
  pub text : List ℕ
  pub at : ℕ

-- a source, which goes on at this place, is blanks, this token, the longest there, and the rest
pub record Leads (at : ℕ) (source : List ℕ) (t : PlacedToken) (behind : List ℕ) : Type 0 where
  pub blanks : List ℕ
  pub after_blanks : List ℕ
  pub whole : source ≡ blanks ++ after_blanks
  pub blank : list_all is_blank blanks ≡ true
  pub place : t.at ≡ at + length blanks
  pub longest : IsLongest after_blanks t.kind t.text behind

-- a source, which goes on at this place, is these tokens and nothing but blanks before, between and behind them
abbrev pub TokensFrom : ℕ → List ℕ → List PlacedToken → Type 0
TokensFrom at source [] = list_all is_blank source ≡ true
TokensFrom at source (t ∷ ts) = (behind : List ℕ) × Leads at source t behind × TokensFrom (t.at + length t.text) behind ts

-- the same, and behind these tokens and blanks stands this fault
abbrev pub FaultFrom : ℕ → List ℕ → List PlacedToken → LexFault → Type 0
FaultFrom at source [] fault = (blanks : List ℕ) × (rest : List ℕ) × (source ≡ blanks ++ rest) × (list_all is_blank blanks ≡ true) × FaultAt (at + length blanks) rest fault
FaultFrom at source (t ∷ ts) fault = (behind : List ℕ) × Leads at source t behind × FaultFrom (t.at + length t.text) behind ts fault

-- the first fault of a source, unless memory is missing
abbrev pub IsFirstFault : List ℕ → LexFault → Type 0
IsFirstFault source OutOfMemory = Unit {0}
IsFirstFault source (BadCharacter at) = (ts : List PlacedToken) × FaultFrom 0 source ts (BadCharacter at)
IsFirstFault source (OpenText at) = (ts : List PlacedToken) × FaultFrom 0 source ts (OpenText at)
