-- The language as far as it is built: its sources are those that are programs, with these programs; there are the first rules alone.
use Rattle.std.specs.Prelude.{false, Option, Some, None, Result, Ok, Err}
use Rattle.wf_ast.specs.Tree.{Program}
use Rattle.wf_deeds.specs.Language.{Language}
use Rattle.wf_source.specs.Function.{source_of}
use Rattle.wf_status.specs.declared.Refusal.{Refusal}

-- the program, if the source isn't refused
abbrev pub accepted : Result Program Refusal → Option Program
accepted (Ok p) = Some p
accepted (Err r) = None

unfoldable pub the_language : Language
the_language = record {
  source = λ bytes. accepted (source_of bytes);
  rules = 1;
  -- no snapshot is read by now, so none is asked for its state
  spells = λ p c bytes. false;
}
