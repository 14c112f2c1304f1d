-- What the parser's functions answer: which part the first symbols are, wherever it stands, and what is left.
use Rattle.std.specs.Prelude.{◌≡◌, ◌<◌, false, List, ◌++◌, length, codes, Option, option_map}
use Rattle.wf_ast.specs.Tree.{Expr}
use Rattle.wf_expr.specs.Grammar.{Ors, not_one, plain, Access, first, at_name, at_index, Atom, group, call, Args, Given, joined, or_expr, and_expr, not_expr, cmp_expr, sum_expr, term_expr, unary_expr, access_expr, atom_expr, args_exprs, given_exprs}
use Rattle.wf_expr.specs.Machine.{in_group, in_index, left, InNot, InUnary, State, have_access, want_name, want_args, want_not, want_unary, Next, want_and, want_or, want_term, want_sum, head, is_or, name_of, after_or, whole_and, after_and, whole_not, whole_sum, after_sum, whole_term, after_term, whole_unary, chain_of, after_access, after_given, run, resume, stuck}
use Rattle.wf_expr.specs.Symbols.{Sym}
use Rattle.wf_expr.specs.declared.stop.Stop.{Stop}
use Rattle.wf_expr.specs.declared.stop.Stop.TheVariants as stop
use Rattle.wf_value.specs.Pairs.{Text}

-- one part is read, wherever it stands, and the rest is left
abbrev pub Reads : {D C : Type 0} → (D → Expr) → (C → State) → (C → D → Option Sym → Next) → List Sym → Expr → List Sym → Type 0
Reads {D} {C} expr want after ts e rest = (d : D) × (expr d ≡ e) × (length rest < length ts) × ((c : C) → run ts (want c) ≡ resume rest (after c d))

-- no part can be read, wherever it stands
abbrev pub Fails : {C : Type 0} → (C → State) → List Sym → Stop → Type 0
Fails {C} want ts (stop.Syntax n) = (rest : List Sym) × (length rest ≡ n) × ((c : C) → run ts (want c) ≡ stuck rest)
Fails {C} want ts stop.OutOfMemory = Unit {0}

-- ## Levels: what is read so far, which may go on, and a whole part
abbrev pub OrSoFar : List Sym → Expr → List Sym → Type 0
OrSoFar = Reads or_expr want_or after_or

abbrev pub OrRead : List Sym → Expr → List Sym → Type 0
OrRead ts e rest = OrSoFar ts e rest × (is_or (head rest) ≡ false)

abbrev pub AndSoFar : List Sym → Expr → List Sym → Type 0
AndSoFar = Reads and_expr want_and after_and

abbrev pub AndRead : List Sym → Expr → List Sym → Type 0
AndRead = Reads and_expr want_and whole_and

abbrev pub NotRead : List Sym → Expr → List Sym → Type 0
NotRead = Reads not_expr want_not whole_not

abbrev pub want_cmp : InNot → State
want_cmp c = want_sum (left c)

abbrev pub CmpRead : List Sym → Expr → List Sym → Type 0
CmpRead = Reads cmp_expr want_cmp (λ c d. whole_not c (not_one d))

abbrev pub SumSoFar : List Sym → Expr → List Sym → Type 0
SumSoFar = Reads sum_expr want_sum after_sum

abbrev pub SumRead : List Sym → Expr → List Sym → Type 0
SumRead = Reads sum_expr want_sum whole_sum

abbrev pub TermSoFar : List Sym → Expr → List Sym → Type 0
TermSoFar = Reads term_expr want_term after_term

abbrev pub TermRead : List Sym → Expr → List Sym → Type 0
TermRead = Reads term_expr want_term whole_term

abbrev pub UnaryRead : List Sym → Expr → List Sym → Type 0
UnaryRead = Reads unary_expr want_unary whole_unary

-- ## Access
-- the name that a part is, joined
abbrev pub chain_name : Access → Option Text
chain_name d = option_map (λ f. joined f.0 f.1) (chain_of d)

-- a name with one more behind a point, if there is a name
abbrev pub longer_by : Option Text → Text → Option Text
longer_by o x = option_map (λ y. y ++ codes "." ++ x) o

abbrev pub AccessSoFar : List Sym → Expr → Option Text → List Sym → Type 0
AccessSoFar ts e chain rest =
    (d : Access) × (access_expr d ≡ e) × (chain_name d ≡ chain) × (length rest < length ts) × ((c : InUnary) → run ts (want_unary c) ≡ resume rest (after_access c d))

abbrev pub AccessRead : List Sym → Expr → List Sym → Type 0
AccessRead = Reads access_expr want_unary (λ c d. whole_unary c (plain d))

abbrev pub AtomRead : List Sym → Expr → List Sym → Type 0
AtomRead ts e rest =
    (a : Atom) × (atom_expr a ≡ e) × (chain_name (first a) ≡ name_of (head ts)) × (length rest < length ts) × ((c : InUnary) → run ts (want_unary c) ≡ resume rest (after_access c (first a)))

-- behind a `(`
abbrev pub want_group : InUnary → State
want_group c = want_or (in_group c)

abbrev pub GroupRead : List Sym → Expr → List Sym → Type 0
GroupRead ts e rest = (d : Ors) × (or_expr d ≡ e) × (length rest < length ts) × ((c : InUnary) → run ts (want_group c) ≡ run rest (have_access (first (group d)) c))

-- behind a `[`
abbrev pub want_index : Access × InUnary → State
want_index k = want_or (in_index k.0 k.1)

abbrev pub IndexRead : List Sym → Expr → List Sym → Type 0
IndexRead ts e rest = (d : Ors) × (or_expr d ≡ e) × (length rest < length ts) × ((k : Access × InUnary) → run ts (want_index k) ≡ run rest (have_access (at_index k.0 d) k.1))

-- behind a point
abbrev pub want_key : Access × InUnary → State
want_key k = want_name k.0 k.1

abbrev pub KeyRead : List Sym → Text → List Sym → Type 0
KeyRead ts x rest = (length rest < length ts) × ((k : Access × InUnary) → run ts (want_key k) ≡ run rest (have_access (at_name k.0 x) k.1))

-- ## Arguments, behind the `(` of a call
abbrev pub Called : Type 0
Called = Text × List Text × InUnary

abbrev pub want_call : Called → State
want_call k = want_args k.0 k.1 k.2

abbrev pub GivenSoFar : List Sym → List Expr → List Sym → Type 0
GivenSoFar ts es rest = (g : Given) × (given_exprs g ≡ es) × (length rest < length ts) × ((k : Called) → run ts (want_call k) ≡ resume rest (after_given k.0 k.1 g k.2))

abbrev pub ArgsRead : List Sym → List Expr → List Sym → Type 0
ArgsRead ts es rest = (a : Args) × (args_exprs a ≡ es) × (length rest < length ts) × ((k : Called) → run ts (want_call k) ≡ run rest (have_access (first (call k.0 k.1 a)) k.2))
