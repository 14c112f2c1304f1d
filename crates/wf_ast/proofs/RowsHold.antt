-- The worked rows hold: each side computes to the same.
use Rattle.std.specs.Prelude.{refl}
use Rattle.wf_value.proofs.OnLiterals.{on_literals}
use Rattle.wf_ast.specs.Rows.{WorkedRows, TruncatesTowardZero, RestHasLeftSign, JoinsParts, ComparesAndDenies, SplitsToThree, EncodesBase64, EncodesBlank, FormatsZero, ParsesDay, DividesExactly, RefusesZero, RefusesTwoKinds, RefusesUnknownName, RestOfLeast, QuotientOfLeast, ReadsClock, ReadsId, DecodesJson, GetsWithin, LooksAtKindsFirst, RefusesRange}

truncates : TruncatesTowardZero
truncates = refl

keeps_sign : RestHasLeftSign
keeps_sign = refl

joins : JoinsParts
unfolding on_literals
joins = refl

compares : ComparesAndDenies
compares = refl

splits : SplitsToThree
splits = refl

encodes : EncodesBase64
unfolding on_literals
encodes = refl

url_encodes : EncodesBlank
unfolding on_literals
url_encodes = refl

formats : FormatsZero
formats = refl

parses : ParsesDay
unfolding on_literals
parses = refl

divides_exactly : DividesExactly
divides_exactly = refl

by_zero : RefusesZero
by_zero = refl

of_two_kinds : RefusesTwoKinds
of_two_kinds = refl

unknown : RefusesUnknownName
unknown = refl

least_rest : RestOfLeast
least_rest = refl

least_quotient : QuotientOfLeast
least_quotient = refl

reads_clock : ReadsClock
reads_clock = refl

reads_id : ReadsId
reads_id = refl

decodes : DecodesJson
unfolding on_literals
decodes = refl

gets : GetsWithin
unfolding on_literals
gets = refl

kind_first : LooksAtKindsFirst
kind_first = refl

out_of_range : RefusesRange
unfolding on_literals
out_of_range = refl

pub rows_hold : WorkedRows
rows_hold = record {
  truncates = truncates;
  keeps_sign = keeps_sign;
  joins = joins;
  compares = compares;
  splits = splits;
  encodes = encodes;
  url_encodes = url_encodes;
  formats = formats;
  parses = parses;
  divides_exactly = divides_exactly;
  by_zero = by_zero;
  of_two_kinds = of_two_kinds;
  unknown = unknown;
  least_rest = least_rest;
  least_quotient = least_quotient;
  reads_clock = reads_clock;
  reads_id = reads_id;
  decodes = decodes;
  gets = gets;
  kind_first = kind_first;
  out_of_range = out_of_range;
}
