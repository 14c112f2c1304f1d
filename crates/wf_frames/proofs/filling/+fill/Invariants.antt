use Rattle.std.proofs.Common.{◌≡◌, ◌+◌, ◌*◌, drop, map, Ok}
use Rattle.wf_ast.specs.Eval as meaning
use Rattle.wf_ast.specs.Tree.{templates, fields}
use Rattle.wf_eval.proofs.Filled.{onto, height, heights, field_heights}
use Rattle.wf_eval.specs.Answers.{put_all}
use Rattle.wf_eval.specs.Sight.{seen}
use Rattle.wf_model.specs.Shapes.{named_by, shape_by}
use Rattle.wf_value.specs.Errors.{◌>>=◌}
use Rattle.wf_frames.proofs.filling.+fill.Given as goal

-- the items so far, and what is left
abbrev pub invariant-fill_all-loop-shape : goal.invariant-fill_all-loop-shape
invariant-fill_all-loop-shape g l =
    meaning.fill_all (templates (map (shape_by l.codes) l.shapes)) (seen (g.K.Look.sight l.look) l.now) ≡ (meaning.fill_all (templates (map (shape_by l.codes) (drop l.shape-index l.shapes))) (seen (g.K.Look.sight l.look) l.now) >>= λ vs. Ok (onto l.list vs))

-- the pairs so far, and what is left
abbrev pub invariant-fill_named-loop-member : goal.invariant-fill_named-loop-member
invariant-fill_named-loop-member g l =
    meaning.fill_fields (fields (map (named_by l.codes) l.named)) (seen (g.K.Look.sight l.look) l.now) ≡ (meaning.fill_fields (fields (map (named_by l.codes) (drop l.member-index l.named))) (seen (g.K.Look.sight l.look) l.now) >>= λ ps. Ok (put_all l.pairs.items ps))

abbrev pub decreases-fill_shape : goal.decreases-fill_shape
decreases-fill_shape g l = 2 * height (shape_by l.codes.now l.shape.now)

abbrev pub decreases-fill_all : goal.decreases-fill_all
decreases-fill_all g l = 2 * heights (templates (map (shape_by l.codes.now) l.shapes.now)) + 1

abbrev pub decreases-fill_named : goal.decreases-fill_named
decreases-fill_named g l = 2 * field_heights (fields (map (named_by l.codes.now) l.named.now)) + 1
