use Rattle.std.proofs.Common.{◌∙◌, ◌++◌, sym, ap, length}
use Rattle.std.proofs.lemmas.Result.{on_ok_weaker}
use Rattle.wf_ast.specs.Instrs.{instrs}
use Rattle.wf_ast.specs.Machine.{code}
use Rattle.wf_ast.specs.View.{expr_view}
use Rattle.wf_ast.proofs.Emit.{call_last}
use Rattle.wf_ast.proofs.Views.{view_call}
use Rattle.wf_ast.proofs.code.+emit.Goals as goal

pub emit-returns-in_ok-emit_all-in-Call : goal.emit-returns-in_ok-emit_all-in-Call
emit-returns-in_ok-emit_all-in-Call t c =
    let h = c.in_ok-emit_all-in-Call.ensures in
    on_ok_weaker c.put-in-Call.result
    (λ n. call_last c.args.items.now.items c.emit_all.new.items.items c.put-in-Call.new.items.items c.in-Call.f (length c.items-args.result.now) c.in-Call.es.items.items (rw c.items-args.ensures.items at h) (ap length c.items-args.ensures.items) n ∙ ap (λ x. instrs c.args.items.now.items ++ code x) (sym (view_call c.in-Call.f c.in-Call.es) ∙ ap expr_view (sym c.in-Call.is)))
    c.put-in-Call.ensures
