use Rattle.std.proofs.Common.{◌≡◌, length, [], List, is_ok, refl, sym, ◌∙◌, ap, subst}
use Rattle.wf_host.specs.declared.memory.Done.{Done}
use Rattle.wf_host.specs.Memory.{stable, content, marks, left_by}
use Rattle.wf_host.specs.World.{Same}
use Rattle.wf_host.proofs.Replay.{stable_synced, content_synced, marks_synced, elapses_sync, elapses_to, if_either, images_synced}
use Rattle.wf_host.proofs.memory.CallRecord.sync.Goals as goal

pub invariant_of-self : goal.invariant_of-self
invariant_of-self c =
    let r = c.args.self.now in
    record {
      same = if_either (λ (p : List Done). r.image.items ≡ content r.first.items p) (is_ok c.push.result) _ _ _ c.push.ensures.items (r.same ∙ sym (content_synced r.first.items r.past.items)) r.same;
      counts = if_either (λ (p : List Done). marks p ≡ length r.deeds.items) (is_ok c.push.result) _ _ _ c.push.ensures.items (marks_synced r.past.items ∙ r.counts) r.counts;
      fits = r.fits;
    }

pub returns-clause-durable : goal.returns-clause-durable
returns-clause-durable c = λ i now.
    let r = c.args.self.now in
    images_synced r.first.items (λ o. o ≡ r.first.items) r.past.items i (subst (λ (p : List Done). left_by r.first.items p i) c.in_ok-push.ensures.items now) ∙ sym r.same

pub returns-clause-time : goal.returns-clause-time
returns-clause-time c =
    let r = c.args.self.now in
    elapses_to r.first.items r.image.items r.image.items r.past.items _ c.push.new.self.items r.deeds.items _ r.deeds.items Same [] c.in_ok-push.ensures.items refl
    (elapses_sync r.first.items r.image.items r.image.items r.past.items r.deeds.items r.counts)

pub returns-clause-stable : goal.returns-clause-stable
returns-clause-stable c =
    let r = c.args.self.now in
    ap (λ (p : List Done). stable r.first.items r.first.items p) c.in_ok-push.ensures.items ∙ stable_synced r.first.items r.first.items r.past.items ∙ sym r.same
