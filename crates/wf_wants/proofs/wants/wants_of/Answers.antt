use Rattle.std.proofs.Common.{[], ◌∷◌, length, ap, ◌∙◌, arith, length-append}
use Rattle.wf_wants.proofs.Wanted.{found_next}
use Rattle.wf_frames.specs.declared.kinds.Wants.{Wants}
use Rattle.wf_model.specs.Kinds.{by_clock}
use Rattle.wf_wants.proofs.wants.wants_of.Goals as goal

pub loop-n-preserved : goal.loop-n-preserved
loop-n-preserved g c =
    let old = c.loop-n.wants.items in
    let w : Wants = record { body = c.node_kind-body.result; entry = c.by_clock-entry.result } in
    let more = c.in_ok-push.ensures.items in
    let long = c.loop-n.invariant.long in
    record {
      long = omega (arith, ap length more, length-append old (w ∷ []), long);
      found = found_next g.ns c.args.nodes.now c.args.targets.now c.loop-n.n old c.push.new.self.items w more long c.loop-n.invariant.found
          (λ p named i. (c.node_kind-body.ensures p named i, (c.by_clock-entry.ensures ∙ ap by_clock c.is_entry_at.ensures) i));
    }
