use Rattle.std.proofs.Common.{◌+◌, ◌*◌, length, string_bytes, option_map}
use Rattle.wf_ast.specs.View.{expr_view, exprs_view}
use Rattle.wf_expr.specs.Kinds.{syms_of}
use Rattle.wf_expr.specs.Parts.{OrSoFar, AndSoFar, SumSoFar, TermSoFar, AccessSoFar, GivenSoFar}
use Rattle.wf_expr.proofs.parser.+parse.Given as goal

abbrev pub decreases-parse_args : goal.decreases-parse_args
decreases-parse_args l = 12 * length (syms_of l.symbols.now) + 10

abbrev pub decreases-parse_index : goal.decreases-parse_index
decreases-parse_index l = 12 * length (syms_of l.symbols.now) + 10

abbrev pub decreases-parse_group : goal.decreases-parse_group
decreases-parse_group l = 12 * length (syms_of l.symbols.now) + 10

abbrev pub decreases-parse_or : goal.decreases-parse_or
decreases-parse_or l = 12 * length (syms_of l.symbols.now) + 9

abbrev pub decreases-parse_and : goal.decreases-parse_and
decreases-parse_and l = 12 * length (syms_of l.symbols.now) + 8

abbrev pub decreases-parse_not : goal.decreases-parse_not
decreases-parse_not l = 12 * length (syms_of l.symbols.now) + 7

abbrev pub decreases-parse_cmp : goal.decreases-parse_cmp
decreases-parse_cmp l = 12 * length (syms_of l.symbols.now) + 6

abbrev pub decreases-parse_sum : goal.decreases-parse_sum
decreases-parse_sum l = 12 * length (syms_of l.symbols.now) + 5

abbrev pub decreases-parse_term : goal.decreases-parse_term
decreases-parse_term l = 12 * length (syms_of l.symbols.now) + 4

abbrev pub decreases-parse_unary : goal.decreases-parse_unary
decreases-parse_unary l = 12 * length (syms_of l.symbols.now) + 3

abbrev pub decreases-parse_access : goal.decreases-parse_access
decreases-parse_access l = 12 * length (syms_of l.symbols.now) + 2

abbrev pub decreases-parse_atom : goal.decreases-parse_atom
decreases-parse_atom l = 12 * length (syms_of l.symbols.now) + 1

-- what is read so far, and what is left
abbrev pub invariant-parse_or-more : goal.invariant-parse_or-more
invariant-parse_or-more l = OrSoFar (syms_of l.symbols) (expr_view l.left) (syms_of l.rest)

abbrev pub decreases-parse_or-more : goal.decreases-parse_or-more
decreases-parse_or-more l = length (syms_of l.rest)

abbrev pub invariant-parse_and-more : goal.invariant-parse_and-more
invariant-parse_and-more l = AndSoFar (syms_of l.symbols) (expr_view l.left) (syms_of l.rest)

abbrev pub decreases-parse_and-more : goal.decreases-parse_and-more
decreases-parse_and-more l = length (syms_of l.rest)

abbrev pub invariant-parse_sum-more : goal.invariant-parse_sum-more
invariant-parse_sum-more l = SumSoFar (syms_of l.symbols) (expr_view l.left) (syms_of l.rest)

abbrev pub decreases-parse_sum-more : goal.decreases-parse_sum-more
decreases-parse_sum-more l = length (syms_of l.rest)

abbrev pub invariant-parse_term-more : goal.invariant-parse_term-more
invariant-parse_term-more l = TermSoFar (syms_of l.symbols) (expr_view l.left) (syms_of l.rest)

abbrev pub decreases-parse_term-more : goal.decreases-parse_term-more
decreases-parse_term-more l = length (syms_of l.rest)

abbrev pub invariant-parse_access-more : goal.invariant-parse_access-more
invariant-parse_access-more l = AccessSoFar (syms_of l.symbols) (expr_view l.base) (option_map string_bytes l.chain) (syms_of l.rest)

abbrev pub decreases-parse_access-more : goal.decreases-parse_access-more
decreases-parse_access-more l = length (syms_of l.rest)

abbrev pub invariant-parse_args-more : goal.invariant-parse_args-more
invariant-parse_args-more l = GivenSoFar (syms_of l.symbols) (exprs_view l.args) (syms_of l.rest)

abbrev pub decreases-parse_args-more : goal.decreases-parse_args-more
decreases-parse_args-more l = length (syms_of l.rest)
