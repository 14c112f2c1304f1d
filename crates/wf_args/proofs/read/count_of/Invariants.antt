use Rattle.std.proofs.Common.{◌≡◌, ◌≤◌, ◌+◌, length}
use Rattle.wf_args.specs.Lines.{words_view, options_in, count}
use Rattle.wf_args.proofs.read.count_of.Given as goal

abbrev pub invariant-loop-rest : goal.invariant-loop-rest
invariant-loop-rest l =
    record {
      counted : l.count + count l.name (options_in (words_view l.rest)) ≡ count l.name (options_in (words_view l.options));
      fits : l.count + length l.rest ≤ length l.options;
    }

abbrev pub decreases-loop-rest : goal.decreases-loop-rest
decreases-loop-rest l = length l.rest
