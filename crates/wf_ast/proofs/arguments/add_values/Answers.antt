use Rattle.std.proofs.Common.{Global, Vec, sym, ap, ◌∙◌}
use Rattle.wf_ast.proofs.Ordered.{absent, given}
use Rattle.wf_ast.proofs.arguments.add_values.Goals as goal
use Rattle.wf_ast.proofs.arguments.add_values.Goals.{in-Some+in_ok-copy+in_ok-push, in_default}
use Rattle.wf_value.specs.declared.value.Value.{Value}

pub loop-name-preserved : goal.loop-name-preserved
loop-name-preserved c =
    elim c.match-get.branch [
      | in-Some+in_ok-copy+in_ok-push w ↦
          given (λ n. n.now) c.args.names.now c.args.args.now _ c.loop-name.name-index _ c.loop-name-test.true c.loop-name.values.items c.match-get.values.items w.in_ok-copy.field-0 w.in-Some.value.now
          (ap (λ (v : Vec Value Global). v.items) w.values-is ∙ w.in_ok-push.ensures.items) w.in_ok-copy.ensures (sym w.in-Some.ensures.value) c.loop-name.invariant
      | in_default w ↦
          absent (λ n. n.now) c.args.names.now c.args.args.now _ c.loop-name.name-index _ c.loop-name-test.true c.loop-name.values.items c.match-get.values.items
          (ap (λ (v : Vec Value Global). v.items) w.values-is) (sym w.in_default.ensures.value) c.loop-name.invariant
    ]
