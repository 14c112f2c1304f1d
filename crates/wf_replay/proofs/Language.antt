-- What a source is in the language, by what it was found to be.
use Rattle.std.proofs.Common.{◌≡◌, ℕ, List, Option, Some, None, ap}
use Rattle.wf_ast.specs.Tree.{Program}
use Rattle.wf_replay.specs.Openings.{Accepts}
use Rattle.wf_replay.specs.TheLanguage.{accepted, the_language}
use Rattle.wf_source.specs.Function.{SourceIsIt}
use Rattle.wf_source.specs.Programs.{IsRefusalOf, IsSourceOf}
use Rattle.wf_status.specs.declared.Refusal.{Refusal}

pub of_program : SourceIsIt → (source : List ℕ) (p : Program) → IsSourceOf source p → the_language.source source ≡ Some p
unfolding the_language
of_program law source p is = ap accepted (law.program source p is)

of_refusal : SourceIsIt → (source : List ℕ) (r : Refusal) → IsRefusalOf source r → the_language.source source ≡ None
unfolding the_language
of_refusal law source r refused = ap accepted (law.refusal source r refused)

pub accepts : SourceIsIt → (source : List ℕ) (o : Option Program) → Accepts source o → the_language.source source ≡ o
accepts law source None (r, refused) = of_refusal law source r refused
accepts law source (Some p) is = of_program law source p is
