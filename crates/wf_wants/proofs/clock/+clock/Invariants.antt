use Rattle.std.proofs.Common.{◌≡◌, drop, map}
use Rattle.wf_ast.specs.Tree.{fields, templates}
use Rattle.wf_model.specs.Kinds.{fields_now, templates_now}
use Rattle.wf_model.specs.Shapes.{named_by, shape_by}
use Rattle.wf_wants.proofs.clock.+clock.Given as goal

-- what is left tells
abbrev pub invariant-is_in_shapes-loop-shape : goal.invariant-is_in_shapes-loop-shape
invariant-is_in_shapes-loop-shape l = templates_now (templates (map (shape_by l.codes) l.shapes)) ≡ templates_now (templates (map (shape_by l.codes) (drop l.shape-index l.shapes)))

abbrev pub invariant-is_in_named-loop-member : goal.invariant-is_in_named-loop-member
invariant-is_in_named-loop-member l = fields_now (fields (map (named_by l.codes) l.named)) ≡ fields_now (fields (map (named_by l.codes) (drop l.member-index l.named)))
