use Rattle.std.proofs.Common.{◌≡◌, ◌≤◌, ◌-◌, drop, length}
use Rattle.std.specs.Str.Parse.{digits_value}
use Rattle.wf_value.specs.HttpBody.{all_equal, lengths_in}
use Rattle.wf_http_body.proofs.framing.length_of.Given as goal

abbrev pub invariant-loop-value : goal.invariant-loop-value
invariant-loop-value l = record {
  within : l.at ≤ length l.fields;
  equal : all_equal (digits_value 10 l.first) (lengths_in (drop l.at l.fields)) ≡ all_equal (digits_value 10 l.first) (lengths_in (drop l.initial.at l.fields));
}

abbrev pub decreases-loop-value : goal.decreases-loop-value
decreases-loop-value l = length l.fields - l.at
