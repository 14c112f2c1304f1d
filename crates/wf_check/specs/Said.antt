-- What the checker says of a program: the first node at which a rule speaks, or at which a form is used that isn't built yet.
--     said          at a node: the rules come first, then the table of forms
--     first_said    the first of a program
use Rattle.std.specs.Prelude.{ℕ, suc, Bool, ◌&&◌, List, [], ◌∷◌, Option, None, is_none, option_map}
use Rattle.std.specs.List.{list_all}
use Rattle.wf_ast.specs.Accept.{Fault, Kind, after_part, fault, small_backoff}
use Rattle.wf_ast.specs.Nodes.{Node, nodes}
use Rattle.wf_ast.specs.Tree.{Flow, Program}
use Rattle.wf_check_expressions.specs.Forms.{not_yet}
pub use Rattle.wf_diagnostics.specs.Said.{Said, as_said}
use Rattle.wf_diagnostics.specs.declared.kind.CheckKind.{CheckKind}
use Rattle.wf_diagnostics.specs.declared.kind.CheckKind.TheVariants as kinds
use Rattle.wf_value.specs.HttpUrl.{first_of_two}
use Rattle.wf_value.specs.Pairs.{Text}

-- the rule's kind
abbrev pub kind_of : Kind → CheckKind
kind_of Kind.EmptySteps = kinds.EmptySteps
kind_of Kind.DoubleStep = kinds.DoubleStep
kind_of Kind.UnknownStep = kinds.UnknownStep
kind_of Kind.JumpOutOfScope = kinds.JumpOutOfScope
kind_of Kind.BreakOutsideLoop = kinds.BreakOutsideLoop
kind_of Kind.ReturnInBranch = kinds.ReturnInBranch
kind_of Kind.UndeclaredWrite = kinds.UndeclaredWrite
kind_of Kind.UnknownShared = kinds.UnknownShared
kind_of Kind.UnknownName = kinds.UnknownName
kind_of Kind.UnknownCall = kinds.UnknownCall
kind_of Kind.BadArgument = kinds.BadArgument
kind_of Kind.TooMany = kinds.TooMany

-- a rule's fault
abbrev pub said_of : Fault → Said
said_of f = record { kind = kind_of f.kind; place = f.place }

-- what is said at a node by its number, with the names of the steps before it in its workflow
abbrev pub said : List Flow → ℕ → List Text → Node → Option Said
said fs number earlier v =
    first_of_two (option_map said_of (fault fs number earlier v)) (as_said kinds.NotYet (not_yet fs v.part v.path))

-- what is said first at nodes, from a number on
abbrev pub said_among : List Flow → ℕ → List Text → List Node → Option Said
said_among fs number earlier [] = None
said_among fs number earlier (v ∷ vs) =
    first_of_two (said fs number earlier v) (said_among fs (suc number) (after_part v.part earlier) vs)

-- what is said first of a program
abbrev pub first_said : Program → Option Said
first_said p = said_among p.flows 0 [] (nodes p.flows)

-- ## Programs without these forms
-- the node of a program with these workflows uses none
abbrev pub node_built : List Flow → Node → Bool
node_built fs v = is_none (not_yet fs v.part v.path)

-- no node of the program uses one
abbrev pub program_built : Program → Bool
program_built p = list_all (node_built p.flows) (nodes p.flows)

-- nothing is said of the program, and no number of a backoff is over a year in milliseconds
abbrev pub is_accepted : Program → Bool
is_accepted p = is_none (first_said p) && list_all small_backoff (nodes p.flows)
