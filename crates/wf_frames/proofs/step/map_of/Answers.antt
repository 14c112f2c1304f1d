use Rattle.std.proofs.Common.{◌≡◌, ◌≤◌, sym, subst}
use Rattle.wf_lemmas.proofs.Results.{with_ok}
use Rattle.wf_frames.proofs.Shallow.{error_shallow}
use Rattle.wf_value.specs.Data.{Data, depth}
use Rattle.wf_value.specs.Errors.{error_map}
use Rattle.wf_value.specs.Plain.{plain}
use Rattle.wf_frames.proofs.step.map_of.Goals as goal

pub returns-in_default-clause-shallow : goal.returns-in_default-clause-shallow
returns-in_default-clause-shallow c =
    with_ok (λ v. plain v ≡ error_map c.args.tag) (λ v. depth (plain v) ≤ 100) c.error_map.result (λ v h. subst (λ (d : Data). depth d ≤ 100) (sym h) (error_shallow c.args.tag)) c.error_map.ensures
