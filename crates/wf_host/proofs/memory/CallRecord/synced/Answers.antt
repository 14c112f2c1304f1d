use Rattle.std.proofs.Common.{◌≡◌, IfOk, refl, sym, subst, rules}
use Rattle.std.proofs.lemmas.Result.{IfOk-weaker}
use Rattle.wf_host.specs.Memory.{left_by}
use Rattle.wf_host.specs.CallRecord.{record_stable}
use Rattle.wf_host.proofs.Replay.{stable_left}
use Rattle.wf_host.proofs.memory.CallRecord.synced.Goals as goal

pub returns-clause-left : goal.returns-clause-left
returns-clause-left c =
    let r = c.args.self.now in
    let is_stable : IfOk c.replayed.result (λ v. v.items ≡ record_stable r) = search rules in
    IfOk-weaker c.replayed.result (λ v. v.items ≡ record_stable r) (λ v. left_by r.first.items r.past.items v.items)
    (λ v is. subst (left_by r.first.items r.past.items) (sym is) (stable_left r.first.items r.first.items (λ i. i ≡ r.first.items) r.past.items refl))
    is_stable
