-- The functions of texts. Positions count characters. Kinds of arguments come before their values.
use Rattle.std.specs.Prelude.{ℕ, zero, suc, ◌+◌, ◌-◌, Bool, true, false, ◌&&◌, ◌||◌, List, [], ◌∷◌, ◌++◌, length, take, ℤ, pos, if◌then◌else◌, ◌==◌, slice_range, int_le, unsigned_abs, Err, codes, bytes_eq, encode_utf8_all, chars}
use Rattle.std.specs.Prelude as seq  -- by hand
use Rattle.std.specs.Str.{is_utf8}
use Rattle.std.specs.List.{list_any, flat_map}
use Rattle.std.specs.Char.{to_ascii_uppercase, to_ascii_lowercase, is_ascii_alphanumeric}
use Rattle.percent_encoding.specs.Percent.{percent_encode_byte, percent_decode}
use Rattle.wf_value.specs.Data.{Data, integer, text, bytes, list, items_of}
use Rattle.wf_value.specs.Errors.{Answer, sized}
use Rattle.wf_value.specs.declared.errors.Tag.TheVariants.{IndexError, TypeError, ValueError}
use Rattle.wf_value.specs.Pairs.{Text, text_items}

abbrev pub starts_with : Text → Text → Bool
starts_with part s = bytes_eq part (take (length part) s)

-- the parts of a text between the places of `part`, taken from the left, none overlapping
abbrev pub pieces_from : Text → ℕ → Text → Text → List Text
pieces_from part skip front [] = front ∷ []
pieces_from part (suc n) front (b ∷ s) = pieces_from part n front s
pieces_from part zero front (b ∷ s) = elim (starts_with part (b ∷ s)) [ true ↦ front ∷ pieces_from part (length part - 1) [] s | false ↦ pieces_from part zero (front ++ b ∷ []) s ]

abbrev pub pieces : Text → Text → List Text
pieces part s = pieces_from part 0 [] s

-- the texts with this one between them
abbrev pub joined_by : Text → List Text → Text
joined_by between [] = []
joined_by between (p ∷ ps) = p ++ flat_map (λ q. between ++ q) ps

-- where each place of a part of n characters begins, by the texts between the places
abbrev pub starts_of : ℕ → ℕ → List Text → List Data
starts_of from n [] = []
starts_of from n (p ∷ []) = []
starts_of from n (p ∷ q ∷ ps) = integer (pos (from + length (chars p))) ∷ starts_of (from + length (chars p) + n) n (q ∷ ps)

-- an empty separator or part is a ValueError
abbrev pub unless_empty : Text → Answer Data → Answer Data
unless_empty [] a = Err ValueError
unless_empty (b ∷ s) a = a

abbrev pub text_split : Data → Data → Answer Data
text_split (text s) (text separator) = unless_empty separator (sized (list (text_items (pieces separator s))))
text_split v w = Err TypeError

abbrev pub text_replace_all : Data → Data → Data → Answer Data
text_replace_all (text s) (text part) (text new) = unless_empty part (sized (text (joined_by new (pieces part s))))
text_replace_all v w u = Err TypeError

abbrev pub is_range_in : ℕ → ℤ → ℤ → Bool
is_range_in n a b = int_le (pos 0) a && int_le a b && int_le b (pos n)

abbrev pub text_substring : Data → Data → Data → Answer Data
text_substring (text s) (integer a) (integer b) = if is_range_in (length (chars s)) a b then sized (text (encode_utf8_all (slice_range (chars s) (unsigned_abs a) (unsigned_abs b)))) else Err IndexError
text_substring v w u = Err TypeError

abbrev pub text_find_all : Data → Data → Answer Data
text_find_all (text s) (text part) = unless_empty part (sized (list (items_of (starts_of 0 (length (chars part)) (pieces part s)))))
text_find_all v w = Err TypeError

abbrev pub text_to_upper : Data → Answer Data
text_to_upper (text s) = sized (text (seq.map to_ascii_uppercase s))
text_to_upper v = Err TypeError

abbrev pub text_to_lower : Data → Answer Data
text_to_lower (text s) = sized (text (seq.map to_ascii_lowercase s))
text_to_lower v = Err TypeError

-- letters, digits, `-`, `.`, `_` and `~` stay
abbrev pub url_encoded_byte : ℕ → Text
url_encoded_byte b = if is_ascii_alphanumeric b || list_any (λ c. c == b) (codes "-._~") then b ∷ [] else percent_encode_byte b

abbrev pub url_encoded : Text → Text
url_encoded s = flat_map url_encoded_byte s

abbrev pub text_url_encode : Data → Answer Data
text_url_encode (text s) = sized (text (url_encoded s))
text_url_encode v = Err TypeError

-- bytes as a text
abbrev pub as_utf8 : List ℕ → Answer Data
as_utf8 b = if is_utf8 b then sized (text b) else Err ValueError

abbrev pub text_url_decode : Data → Answer Data
text_url_decode (text s) = as_utf8 (percent_decode s)
text_url_decode v = Err TypeError

abbrev pub text_encode : Data → Answer Data
text_encode (text s) = sized (bytes s)
text_encode v = Err TypeError

abbrev pub text_decode : Data → Answer Data
text_decode (bytes b) = as_utf8 b
text_decode v = Err TypeError
