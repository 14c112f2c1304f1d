use Rattle.std.proofs.Common.{◌≡◌, subst, Some, Err}
use Rattle.std.specs.Prelude.{pos, suc}
use Rattle.wf_frames.proofs.Beginning.{branch_again, branch_bound}
use Rattle.wf_frames.specs.Turns.{bound_all, names_of}
use Rattle.wf_scope.specs.Changes.{Answers}
use Rattle.wf_scope.specs.Layers.{depth_in, find}
use Rattle.wf_scope.specs.Store.{layers_of}
use Rattle.wf_scope.specs.declared.fault.AssignFault.TheVariants as faults
use Rattle.wf_value.specs.Plain.{plain}
use Rattle.wf_frames.proofs.branching.enter_branch.Goals as goal

pub returns-in_ok-refuse-in-Err-clause-opens : goal.returns-in_ok-refuse-in-Err-clause-opens
returns-in_ok-refuse-in-Err-clause-opens c =
    let ls = layers_of c.args.scopes.now in
    let o = c.args.outer.number in
    let xs = names_of c.args.name.now (plain c.args.value) c.args.index.now (pos c.args.at) in
    let made = c.in_ok-layer.ensures in
    let r = bound_all c.inner.new.self.limit c.in_ok-layer.layer.number xs (layers_of c.inner.new.self) in
    let large : r ≡ Err faults.TooLarge = subst (λ f. Answers (Err f) (layers_of c.bind_names.new.scopes) r) c.in_ok-refuse-in-Err.ensures.fault c.in-Err.ensures.outcome in (
      branch_bound c.inner.new.self.limit c.args.scopes.now.limit c.in_ok-layer.layer.number o xs ls (layers_of c.inner.new.self) (Err faults.TooLarge) made.limit made.number made.opened large,
      branch_again (Some o) (suc (depth_in (find o ls))) c.in_ok-layer.layer.number ls (layers_of c.inner.new.self) (layers_of c.bind_names.new.scopes) (layers_of c.refuse.new.scopes) made.number made.opened c.in_ok-refuse-in-Err.ensures.closed c.in-Err.ensures.rest,
    )
