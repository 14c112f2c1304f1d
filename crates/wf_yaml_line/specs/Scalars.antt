-- Plain scalars: which texts are one, and the tree of each.
use Rattle.std.specs.Prelude.{ℕ, ◌-◌, List, [], ◌∷◌, length, Bool, false, cond, not, ◌&&◌, nat_lt, nat_le, Result, Ok, codes}
use Rattle.std.specs.Str.{encode_utf8_all}
use Rattle.wf_yaml_line.specs.Marks.{is_digit, is_one_of, behind_first, skip, is_reserved, is_guarded, ends_word}
use Rattle.wf_yaml_line.specs.Fault.{Fault, refuse}
use Rattle.wf_yaml_line.specs.declared.fault.Kind.TheVariants as kinds
use Rattle.wf_yaml_line.specs.declared.scalars.Plain.{Plain}
use Rattle.wf_yaml_line.specs.declared.scalars.Plain.TheVariants as kind
use Rattle.wf_tree.specs.Trees.{Tree, null, boolean, integer, decimal, text}
use Rattle.wf_yaml_line.specs.Words.{plain_kind, all_digits, starts_with, point}

-- a length from 1 to the most
abbrev pub is_short : ℕ → ℕ → Bool
is_short most n = nat_lt 0 n && nat_le n most

-- `[0-9]{1,8}\.[0-9]{1,3}`
abbrev pub is_delay : List ℕ → Bool
is_delay s =
    let rest = skip is_digit s in
    let fraction = behind_first rest in
    is_short 8 (length s - length rest) && starts_with point rest && is_short 3 (length fraction) && all_digits 10 fraction

-- `initial_delay`, `max_delay`, `multiplier`: the keys whose value may be a decimal
abbrev pub delay_keys : List (List ℕ)
delay_keys = codes "initial_delay" ∷ codes "max_delay" ∷ codes "multiplier" ∷ []

abbrev pub is_delay_key : List ℕ → Bool
is_delay_key key = is_one_of delay_keys key

-- the tree of a plain scalar in line n, by what it is; the flag says that it is the value of such a key
abbrev pub plain_tree_by : Plain → Bool → ℕ → List ℕ → Result Tree Fault
plain_tree_by kind.Null delay n s = Ok null
plain_tree_by (kind.Truth b) delay n s = Ok (boolean b)
plain_tree_by (kind.Whole z) delay n s = Ok (integer z)
plain_tree_by kind.Decimal delay n s = cond (delay && is_delay s) (Ok (decimal (encode_utf8_all s))) (refuse n kinds.Decimal)
plain_tree_by kind.Text delay n s = Ok (text (encode_utf8_all s))

-- the tree of a plain scalar in line n, or its refusal
abbrev pub plain_tree : Bool → ℕ → List ℕ → Result Tree Fault
plain_tree delay n s = plain_tree_by (plain_kind s) delay n s

-- whether a text may start a plain scalar
abbrev pub may_start_plain : List ℕ → Bool
may_start_plain [] = false
may_start_plain (b ∷ r) = not (is_reserved b) && not (is_guarded b && ends_word r)
