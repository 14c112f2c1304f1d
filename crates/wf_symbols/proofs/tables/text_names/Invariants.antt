use Rattle.std.proofs.Common.{drop}
use Rattle.wf_symbols.proofs.Added.{AddsOn}
use Rattle.wf_symbols.proofs.tables.text_names.Given as goal

abbrev pub invariant-loop-text : goal.invariant-loop-text
invariant-loop-text l = AddsOn l.initial.names l.names l.text-items (drop l.text-index l.text-items)
