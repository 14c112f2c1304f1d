-- What a source's tree is as a function: its program, or its first fault.
use Rattle.std.specs.Prelude.{Option, Some, None, Result, Ok, Err, MatchResult}
use Rattle.wf_ast.specs.Tree.{Program}
use Rattle.wf_syntax_rules.specs.Faults.{IsFirstFault, rooted}
use Rattle.wf_syntax_rules.specs.First.{Found, first_fault}
use Rattle.wf_syntax_rules.specs.Made.{program_of}
use Rattle.wf_syntax_rules.specs.Meaning.{Builds}
use Rattle.wf_tree.specs.Trees.{Tree}

abbrev pub unless_found : Option Found → Program → Result Program Found
unless_found None p = Ok p
unless_found (Some f) p = Err f

-- the program of a tree, or its first fault and the path of its node
unfoldable pub built : Tree → Result Program Found
built x = unless_found (first_fault x) (program_of (rooted x))

-- each tree is a program or has a first fault, and this is it
abbrev pub BuiltIsIt : Type 0
BuiltIsIt = (x : Tree) → MatchResult (built x) (Builds x) (λ f. IsFirstFault x f.0 f.1)
