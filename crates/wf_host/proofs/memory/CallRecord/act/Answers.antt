use Rattle.std.proofs.Common.{◌≡◌, length, ◌++◌, [], ◌∷◌, List, is_ok, true, sym, ◌∙◌, ap, arith, length-append}
use Rattle.wf_host.specs.declared.data.Deed.{Deed}
use Rattle.wf_host.specs.declared.memory.Done.{Done}
use Rattle.wf_host.specs.Memory.{stable, content, marks}
use Rattle.wf_host.specs.World.{Same}
use Rattle.wf_host.proofs.Replay.{stable_did, content_did, marks_did, elapses_did, elapses_to, if_true}
use Rattle.wf_host.proofs.memory.CallRecord.act.Goals as goal

pub invariant_of-self-2 : goal.invariant_of-self-2
invariant_of-self-2 c =
    let r = c.args.self.now in
    let ok : is_ok c.push-2.result ≡ true = c.push-2.ensures.succeeds (omega (arith, c.reserve.ensures.len, c.in_ok-reserve.ensures.ok)) in
    let deeds : c.push-2.new.self.items ≡ c.reserve.new.self.items ++ c.args.deed ∷ [] = if_true (is_ok c.push-2.result) _ _ _ c.push-2.ensures.items ok in
    record {
      same = r.same ∙ sym (content_did r.first.items r.past.items) ∙ ap (λ (p : List Done). content r.first.items p) (sym c.in_ok-push.ensures.items);
      counts = ap marks c.in_ok-push.ensures.items ∙ marks_did r.past.items ∙ omega (arith, r.counts, ap length deeds, ap length c.reserve.ensures.items, length-append c.reserve.new.self.items (c.args.deed ∷ []));
      fits = r.fits;
    }

pub returns-clause-time : goal.returns-clause-time
returns-clause-time c =
    let r = c.args.self.now in
    let deeds = c.in_ok-push-2.ensures.items ∙ ap (λ (l : List Deed). l ++ c.args.deed ∷ []) c.reserve.ensures.items in
    elapses_to r.first.items r.image.items r.image.items r.past.items _ c.push.new.self.items r.deeds.items _ c.push-2.new.self.items Same (c.args.deed ∷ []) c.in_ok-push.ensures.items deeds
    (elapses_did r.first.items r.past.items r.deeds.items r.counts r.image.items r.image.items c.args.deed)

pub returns-clause-stable : goal.returns-clause-stable
returns-clause-stable c =
    let r = c.args.self.now in
    ap (λ (p : List Done). stable r.first.items r.first.items p) c.in_ok-push.ensures.items ∙ stable_did r.first.items r.first.items r.past.items
