-- Each tree is a program or has a first fault.
use Rattle.std.proofs.Common.{Option, Some, None}
use Rattle.std.specs.Prelude.{MatchResult}
use Rattle.wf_syntax_rules.proofs.Finding.{first_fault_is_it}
use Rattle.wf_syntax_rules.proofs.ProgramsMade.{program_is}
use Rattle.wf_syntax_rules.specs.Built.{unless_found, built, BuiltIsIt}
use Rattle.wf_syntax_rules.specs.Faults.{IsFirstFault, rooted}
use Rattle.wf_syntax_rules.specs.First.{Found, Finds, first_fault}
use Rattle.wf_syntax_rules.specs.Made.{program_of}
use Rattle.wf_syntax_rules.specs.Meaning.{Builds}
use Rattle.wf_syntax_rules.specs.Rules.{Flows}
use Rattle.wf_tree.specs.Trees.{Tree}

by_fault : (x : Tree) (o : Option Found) → Finds Flows (rooted x) o → MatchResult (unless_found o (program_of (rooted x))) (Builds x) (λ f. IsFirstFault x f.0 f.1)
by_fault x None h = record { sound = h; program = program_is (rooted x) h }
by_fault x (Some f) h = h

pub built_is_it : BuiltIsIt
unfolding built
built_is_it x = by_fault x (first_fault x) (first_fault_is_it x)
