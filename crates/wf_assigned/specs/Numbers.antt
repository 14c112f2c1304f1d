-- Numbers by names.
--     number_of     the number of a name
--     or_named      the same, when a name has got a number
use Rattle.std.specs.Prelude.{ℕ, Option, None, Some, bytes_eq, if◌then◌else◌}
use Rattle.std.specs.BTreeMap.{get_by_text}
use Rattle.wf_assigned.specs.declared.numbers.Numbers.{Numbers}
use Rattle.wf_value.specs.Pairs.{Text}

abbrev pub number_of : Numbers → Text → Option ℕ
number_of s x = get_by_text s.numbers x

-- the number that x has, or else n, if its name is this one
abbrev pub or_named : Option ℕ → Text → Text → ℕ → Option ℕ
or_named (Some m) x name n = Some m
or_named None x name n = if bytes_eq x name then Some n else None
