use Rattle.std.proofs.Common.{◌≡◌, IfOk, refl, sym, subst, ◌∙◌, rules}
use Rattle.std.proofs.lemmas.Result.{IfOk-weaker}
use Rattle.wf_host.specs.Memory.{left_by}
use Rattle.wf_host.specs.Recorded.{reads_back}
use Rattle.wf_host.proofs.memory.CallRecord.written.Goals as goal

pub returns-clause-left : goal.returns-clause-left
returns-clause-left c =
    let r = c.args.self.now in
    let whole : IfOk c.to_vec.result (λ v. v.items ≡ r.image.items) = search rules in
    IfOk-weaker c.to_vec.result (λ v. v.items ≡ r.image.items) (λ v. left_by r.first.items r.past.items v.items)
    (λ v is. subst (left_by r.first.items r.past.items) (sym (is ∙ r.same)) (reads_back r.first.items (λ i. i ≡ r.first.items) r.past.items refl))
    whole
