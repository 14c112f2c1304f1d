-- What is written on one line is read back: a line that is read is the list of its characters.
use Rattle.std.specs.Prelude.{◌≡◌, ◌<◌, ◌≤◌, ◌^◌, ℕ, ℤ, pos, negsuc, List, [], ◌∷◌, ◌++◌, Bool, true, false, None, Some, Ok, codes}
use Rattle.std.specs.Fmt.{signed_decimal}
use Rattle.std.specs.Str.{encode_utf8_all, IsUtf8}
use Rattle.wf_tree.specs.Trees.{Tree, null, boolean, integer, decimal, text, list, map, no_items, item, no_pairs, pair}
use Rattle.wf_yaml_line.specs.Marks.{ends_word}
use Rattle.wf_yaml_line.specs.Keys.{key_of}
use Rattle.wf_yaml_flow.specs.Line.{one_line}
use Rattle.wf_yaml_line.specs.Scalars.{is_delay}
use Rattle.wf_yaml_write.specs.Layout.{layout, written_text}

-- In each law the flag, the line's number and the depth are what `one_line` takes besides.

-- a text, of these characters
abbrev pub TextsComeBack : Type 0
TextsComeBack = (delay : Bool) (n d : ℕ) (s : List ℕ) → one_line delay n d (written_text s) ≡ Ok (text (encode_utf8_all s))

-- a key, of these characters, behind whose `:` a blank and more stands, or nothing: it has no fault
abbrev pub KeysComeBack : Type 0
KeysComeBack = (s rest : List ℕ) → ends_word rest ≡ true → key_of (written_text s ++ codes ":" ++ rest) ≡ Some (record { text = encode_utf8_all s; fault = None; rest = rest })

-- the characters of what is written are what is written of the characters
abbrev pub Utf8IsKept : Type 0
Utf8IsKept = (s : List ℕ) → written_text (encode_utf8_all s) ≡ encode_utf8_all (written_text s)

-- a whole number of 64 bits
abbrev pub Is64 : ℤ → Type 0
Is64 (pos n) = n < 2 ^ 63
Is64 (negsuc n) = n < 2 ^ 63

-- a whole number of 64 bits, as it is printed
abbrev pub NumbersComeBack : Type 0
NumbersComeBack = (delay : Bool) (n d : ℕ) (z : ℤ) → Is64 z → one_line delay n d (signed_decimal z) ≡ Ok (integer z)

-- a decimal of the form that a backoff may have, where it may stand
abbrev pub DecimalsComeBack : Type 0
DecimalsComeBack = (n d : ℕ) (s : List ℕ) → is_delay s ≡ true → one_line true n d s ≡ Ok (decimal (encode_utf8_all s))

-- the words, an empty list and an empty map
pub record WordsComeBack : Type 0 where
  pub null_word : (delay : Bool) (n d : ℕ) → one_line delay n d (codes "null") ≡ Ok null
  pub true_word : (delay : Bool) (n d : ℕ) → one_line delay n d (codes "true") ≡ Ok (boolean true)
  pub false_word : (delay : Bool) (n d : ℕ) → one_line delay n d (codes "false") ≡ Ok (boolean false)
  pub empty_list : (delay : Bool) (n d : ℕ) → d ≤ 100 → one_line delay n d (codes "[]") ≡ Ok (list no_items)
  pub empty_map : (delay : Bool) (n d : ℕ) → d ≤ 100 → one_line delay n d (codes "{}") ≡ Ok (map no_pairs)

-- what a source may have on one line, by itself or as the value of a key that may have a decimal
abbrev pub IsOnOneLine : Bool → Tree → Type 0
IsOnOneLine delay null = Unit {0}
IsOnOneLine delay (boolean b) = Unit {0}
IsOnOneLine delay (integer z) = Is64 z
IsOnOneLine delay (decimal s) = (delay ≡ true) × (is_delay s ≡ true)
IsOnOneLine delay (text s) = IsUtf8 s
IsOnOneLine delay (list no_items) = Unit {0}
IsOnOneLine delay (list (item t ts)) = ⊥
IsOnOneLine delay (map no_pairs) = Unit {0}
IsOnOneLine delay (map (pair k t ps)) = ⊥

-- A tree is laid out as one line, which is the UTF-8 of these characters; they are read as that
-- tree, and are no pair.
pub record ComesBack (delay : Bool) (n d : ℕ) (t : Tree) : Type 0 where
  pub line : List ℕ
  pub written : layout t ≡ encode_utf8_all line ∷ []
  pub read : one_line delay n d line ≡ Ok t
  pub no_pair : key_of line ≡ None

abbrev pub LinesComeBack : Type 0
LinesComeBack = (delay : Bool) (n d : ℕ) (t : Tree) → d ≤ 100 → IsOnOneLine delay t → ComesBack delay n d t
