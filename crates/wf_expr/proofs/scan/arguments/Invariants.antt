use Rattle.std.proofs.Common.{◌≡◌, ◌≤◌, suc, drop, option_map}
use Rattle.wf_expr.specs.Calls.{commas_to_close}
use Rattle.wf_expr.specs.Kinds.{syms_of}
use Rattle.wf_expr.proofs.scan.arguments.Given as goal

abbrev pub invariant-loop-symbol : goal.invariant-loop-symbol
invariant-loop-symbol l = record {
  depth : l.depth ≤ l.symbol-index;
  commas : l.commas ≤ l.symbol-index;
  left : option_map suc (commas_to_close l.depth l.commas (syms_of (drop l.symbol-index l.symbols))) ≡ option_map suc (commas_to_close 0 0 (syms_of l.symbols));
}
