use Rattle.std.proofs.Common.{inl, subst}
use Rattle.wf_check.specs.Seen.{program_of}
use Rattle.wf_source.specs.Programs.{IsSourceOf}
use Rattle.wf_cli.proofs.checking.check.Goals as goal

pub returns-in-Ok-clause-says : goal.returns-in-Ok-clause-says
returns-in-Ok-clause-says g c =
    let p = program_of c.in-Ok.field-0 in (
      c.in_ok-bytes.bytes.items,
      c.in_ok-bytes.ensures.bytes,
      inl (p, subst (λ b. IsSourceOf b p) c.as_slice.ensures.value c.in-Ok.ensures.program, c.in_ok-report-in-Ok.ensures.0, c.in_ok-report-in-Ok.ensures.1),
    )
