use Rattle.std.proofs.Common.{◌≡◌, ◌+◌, drop, option_map}
use Rattle.wf_expr.specs.Splits.{length_in}
use Rattle.wf_expr.specs.declared.quoting.Quoting.TheVariants.{Bare}
use Rattle.wf_expr.proofs.quoting.hole_length.Given as goal

abbrev pub invariant-scan : goal.invariant-scan
invariant-scan l = record {
  at : l.length ≡ l.byte-index;
  left : option_map (λ n. l.length + n) (length_in l.quoting (drop l.byte-index l.bytes)) ≡ length_in Bare l.bytes;
}
