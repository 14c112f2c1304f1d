use Rattle.std.proofs.Common.{◌≡◌, ◌==◌, true, length}
use Rattle.std.specs.Char.{is_ascii_digit}
use Rattle.std.specs.List.{list_all}
use Rattle.std.specs.Str.Parse.{digits_value}
use Rattle.wf_http_body.proofs.number.is_same_number.Given as goal

abbrev pub invariant-loop-one : goal.invariant-loop-one
invariant-loop-one l = record {
  one : list_all is_ascii_digit l.one ≡ true;
  other : list_all is_ascii_digit l.other ≡ true;
  same : (digits_value 10 l.other == digits_value 10 l.one) ≡ (digits_value 10 l.fn.other == digits_value 10 l.fn.one);
}

abbrev pub decreases-loop-one : goal.decreases-loop-one
decreases-loop-one l = length l.one
