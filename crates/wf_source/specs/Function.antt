-- The program of a source's bytes as a function, or the refusal that speaks first.
use Rattle.std.specs.Prelude.{◌≡◌, List, ℕ, Option, Some, None, Result, Ok, Err, MatchResult}
use Rattle.wf_ast.specs.Tree.{Program}
use Rattle.wf_check.specs.Said.{Said, first_said}
use Rattle.wf_syntax_rules.specs.Built.{built}
use Rattle.wf_syntax_rules.specs.First.{Found}
use Rattle.wf_source.specs.Programs.{IsRefusalOf, IsSourceOf, refusal_of, said_refusal}
use Rattle.wf_source.specs.Sources.{read_tree}
use Rattle.wf_status.specs.declared.Refusal.{Refusal}
use Rattle.wf_tree.specs.Trees.{Tree}

-- a program, unless the checker says something of it
abbrev pub unless_said : Option Said → Program → Result Program Refusal
unless_said None p = Ok p
unless_said (Some s) p = Err (said_refusal s)

abbrev pub of_built : Result Program Found → Result Program Refusal
of_built (Ok p) = unless_said (first_said p) p
of_built (Err f) = Err (refusal_of f.0 f.1)

abbrev pub of_tree : Result Tree Refusal → Result Program Refusal
of_tree (Ok t) = of_built (built t)
of_tree (Err r) = Err r

-- the program of some bytes, or the refusal that speaks first
unfoldable pub source_of : List ℕ → Result Program Refusal
source_of bytes = of_tree (read_tree bytes)

-- Bytes are a program or refused, and the function tells which and how.
pub record SourceIsIt : Type 0 where
  pub given : (bytes : List ℕ) → MatchResult (source_of bytes) (IsSourceOf bytes) (IsRefusalOf bytes)
  pub program : (bytes : List ℕ) (p : Program) → IsSourceOf bytes p → source_of bytes ≡ Ok p
  pub refusal : (bytes : List ℕ) (r : Refusal) → IsRefusalOf bytes r → source_of bytes ≡ Err r
