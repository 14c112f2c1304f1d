-- Names and words of the language.
use Rattle.std.specs.Prelude.{◌-◌, Bool, false, not, ◌&&◌, List, [], ◌∷◌, length, take, drop, if◌then◌else◌, codes, bytes_eq}
use Rattle.std.specs.List.{list_all}
use Rattle.wf_value.specs.HttpRequest.{is_among}
use Rattle.wf_span.specs.Tokens.{is_letter, is_name_byte}
use Rattle.wf_value.specs.Pairs.{Text}

-- the words that are no names
abbrev pub reserved : List Text
reserved = codes "and" ∷ codes "or" ∷ codes "not" ∷ codes "in" ∷ codes "null" ∷ codes "true" ∷ codes "True" ∷ codes "TRUE" ∷ codes "false" ∷ codes "False" ∷ codes "FALSE" ∷ []

abbrev pub starts_as_name : Text → Bool
starts_as_name [] = false
starts_as_name (b ∷ bs) = is_letter b

-- the names of variables, parameters and workflows: a letter or `_`, then letters, digits and `_`
abbrev pub is_name : Text → Bool
is_name x = starts_as_name x && list_all is_name_byte x && not (is_among x reserved)

-- the names of steps: any text but the empty one and the words that a jump may name besides
abbrev pub is_step_name : Text → Bool
is_step_name x = not (is_among x ([] ∷ codes "end" ∷ codes "break" ∷ codes "continue" ∷ []))

-- a text without the marks `${` and `}` around it, which it may have or not
abbrev pub unmarked : Text → Text
unmarked s = if bytes_eq (take 2 s) (codes "${") && bytes_eq (drop (length s - 1) s) (codes "}") then take (length s - 3) (drop 2 s) else s
