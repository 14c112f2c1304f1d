-- Bytes are a program or refused.
use Rattle.std.proofs.Common.{◌≡◌, List, ℕ, Option, Some, None, refl, ap}
use Rattle.std.specs.Prelude.{Result, Ok, Err, MatchResult}
use Rattle.wf_ast.specs.Tree.{Program}
use Rattle.wf_check.proofs.Accepted.{accepted_when}
use Rattle.wf_check.specs.Said.{Said, first_said}
use Rattle.wf_syntax_rules.proofs.BuiltTrees.{built_is_it}
use Rattle.wf_syntax_rules.proofs.SmallBackoffs.{small_backoffs}
use Rattle.wf_syntax_rules.specs.Built.{built}
use Rattle.wf_syntax_rules.specs.Faults.{IsFirstFault}
use Rattle.wf_syntax_rules.specs.First.{Found}
use Rattle.wf_syntax_rules.specs.Meaning.{Builds}
use Rattle.wf_source.specs.Laws.{OneProgram, OneRefusal, NotBoth}
use Rattle.wf_source.specs.Programs.{IsRefusalOf, IsSourceOf, no_tree, no_program, no_check}
use Rattle.wf_source.specs.Sources.{read_tree}
use Rattle.wf_status.specs.declared.Refusal.{Refusal}
use Rattle.wf_source.specs.Function.{of_built, of_tree, source_of, unless_said, SourceIsIt}
use Rattle.wf_tree.specs.Trees.{Tree}

abbrev Is : List ℕ → Result Program Refusal → Type 0
Is bytes r = MatchResult r (IsSourceOf bytes) (IsRefusalOf bytes)

by_said : (bytes : List ℕ) (t : Tree) (p : Program) → read_tree bytes ≡ Ok t → Builds t p → (o : Option Said) → first_said p ≡ o → Is bytes (unless_said o p)
by_said bytes t p e h None said = record { tree = t; read = e; builds = h; accepted = accepted_when p said (small_backoffs t p h) }
by_said bytes t p e h (Some s) said = no_check t p s e h said

by_built : (bytes : List ℕ) (t : Tree) (r : Result Program Found) → read_tree bytes ≡ Ok t → MatchResult r (Builds t) (λ f. IsFirstFault t f.0 f.1) → Is bytes (of_built r)
by_built bytes t (Ok p) e h = by_said bytes t p e h (first_said p) refl
by_built bytes t (Err f) e h = no_program t f.0 f.1 e h

program_told : OneProgram → NotBoth → (bytes : List ℕ) (p : Program) (r : Result Program Refusal) → Is bytes r → IsSourceOf bytes p → r ≡ Ok p
program_told one apart bytes p (Ok q) h k = ap Ok (one bytes q p h k)
program_told one apart bytes p (Err s) h k = absurd (apart bytes p s k h)

refusal_told : OneRefusal → NotBoth → (bytes : List ℕ) (s : Refusal) (r : Result Program Refusal) → Is bytes r → IsRefusalOf bytes s → r ≡ Err s
refusal_told one apart bytes s (Ok q) h k = absurd (apart bytes q s h k)
refusal_told one apart bytes s (Err q) h k = ap Err (one bytes q s h k)

by_tree : (bytes : List ℕ) (r : Result Tree Refusal) → read_tree bytes ≡ r → Is bytes (of_tree r)
by_tree bytes (Ok t) e = by_built bytes t (built t) e (built_is_it t)
by_tree bytes (Err r) e = no_tree r e

given : (bytes : List ℕ) → Is bytes (source_of bytes)
unfolding source_of
given bytes = by_tree bytes (read_tree bytes) refl

pub source_is_it : OneProgram → OneRefusal → NotBoth → SourceIsIt
source_is_it one first apart = record {
  given = given;
  program = λ bytes p h. program_told one apart bytes p (source_of bytes) (given bytes) h;
  refusal = λ bytes r h. refusal_told first apart bytes r (source_of bytes) (given bytes) h;
}
