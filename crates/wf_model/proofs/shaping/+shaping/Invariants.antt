use Rattle.std.proofs.Common.{map, take}
use Rattle.wf_ast.specs.View.{field_view, template_view}
use Rattle.wf_model.proofs.shaping.+shaping.Given as goal
use Rattle.wf_model.specs.Compiles.{Compiles, code_list}
use Rattle.wf_model.specs.Shapes.{named_by, shape_by}

abbrev pub invariant-shapes-loop-t : goal.invariant-shapes-loop-t
invariant-shapes-loop-t l = Compiles (code_list l.initial.codes) (code_list l.codes) (λ cs. map (shape_by cs) l.items.items) (map template_view (take l.t-index l.ts))

abbrev pub invariant-named_of-loop-f : goal.invariant-named_of-loop-f
invariant-named_of-loop-f l = Compiles (code_list l.initial.codes) (code_list l.codes) (λ cs. map (named_by cs) l.items.items) (map field_view (take l.f-index l.fs))
