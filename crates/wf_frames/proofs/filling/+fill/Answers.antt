use Rattle.std.proofs.Common.{◌≡◌, rules, arith, sym, subst, map, List, Result, Err}
use Rattle.wf_ast.specs.Eval.{fill_all}
use Rattle.wf_ast.specs.Tree.{templates}
use Rattle.wf_eval.specs.Answers.{Answers}
use Rattle.wf_eval.specs.Sight.{seen}
use Rattle.wf_model.specs.Shapes.{shape_by}
use Rattle.wf_value.specs.Data.{Data, items_of}
use Rattle.wf_value.specs.declared.errors.Raise.{Raise}
use Rattle.wf_frames.proofs.Filled.{field_falls, item_falls, list_falls, map_falls, list_filled, list_done, list_step, list_stops, literals_filled, map_filled, map_step}
use Rattle.wf_frames.proofs.filling.+fill.Goals as goal

pub fill_shape-fill_all-requires : goal.fill_shape-fill_all-requires
fill_shape-fill_all-requires g t c κs within =
    (omega (arith, c.decreases, list_falls c.args.codes.now c.args.shape.now c.in-List.shapes c.items-in-List.result.now c.in-List.is c.items-in-List.ensures), within)

pub fill_shape-fill_named-requires : goal.fill_shape-fill_named-requires
fill_shape-fill_named-requires g t c κs within =
    (omega (arith, c.decreases, map_falls c.args.codes.now c.args.shape.now c.in-Map.named c.items-in-Map.result.now c.in-Map.is c.items-in-Map.ensures), within)

pub fill_all-fill_shape-requires : goal.fill_all-fill_shape-requires
fill_all-fill_shape-requires g t c κs within =
    (omega (arith, c.decreases, item_falls c.args.codes.now c.args.shapes.now c.loop-shape.shape-index c.shape-item.result c.loop-shape-test.true c.shape-item.is), within)

pub fill_named-fill_shape-requires : goal.fill_named-fill_shape-requires
fill_named-fill_shape-requires g t c κs within =
    (omega (arith, c.decreases, field_falls c.args.codes.now c.args.named.now c.loop-member.member-index c.member-item.result c.loop-member-test.true c.member-item.is), within)

pub fill_shape-returns-in-List : goal.fill_shape-returns-in-List
fill_shape-returns-in-List g t c =
    list_filled c.args.codes.now (seen (g.K.Look.sight c.args.look.now) c.args.now) c.keep_list.result c.fill_all.result c.args.shape.now c.in-List.shapes c.items-in-List.result.now c.in-List.is c.items-in-List.ensures c.fill_all.ensures c.keep_list.ensures

pub fill_shape-returns-in_ok-copy-in-Literals : goal.fill_shape-returns-in_ok-copy-in-Literals
fill_shape-returns-in_ok-copy-in-Literals g t c =
    literals_filled c.args.codes.now (seen (g.K.Look.sight c.args.look.now) c.args.now) c.keep-in-Literals.result c.args.shape.now c.in-Literals.list c.in_ok-copy-in-Literals.field-0 c.in-Literals.is c.in_ok-copy-in-Literals.ensures c.keep-in-Literals.ensures

pub fill_shape-returns-in-Map : goal.fill_shape-returns-in-Map
fill_shape-returns-in-Map g t c =
    map_filled c.args.codes.now (seen (g.K.Look.sight c.args.look.now) c.args.now) c.keep_map.result _ c.fill_named.result c.args.shape.now c.in-Map.named c.items-in-Map.result.now c.in-Map.is c.items-in-Map.ensures c.fill_named.ensures c.keep_map.ensures

pub fill_all-loop-shape-preserved : goal.fill_all-loop-shape-preserved
fill_all-loop-shape-preserved g t c =
    list_step c.args.codes.now (seen (g.K.Look.sight c.args.look.now) c.args.now) c.args.shapes.now c.loop-shape.shape-index c.shape-item.result c.loop-shape.list c.loop-shape-test.true c.shape-item.is c.push.new.self c.in_ok-value.value c.in_ok-value.ensures c.in_ok-push.ensures c.loop-shape.invariant

pub fill_all-returns : goal.fill_all-returns
fill_all-returns g t c = list_done c.args.codes.now (seen (g.K.Look.sight c.args.look.now) c.args.now) c.args.shapes.now c.loop-shape.shape-index c.loop-shape.list c.loop-shape-test.false c.loop-shape.invariant

pub fill_all-returns-in_err-value : goal.fill_all-returns-in_err-value
fill_all-returns-in_err-value g t c =
    let is : c.from_residual-in_err-value.result ≡ Err c.in_err-value.field-0.0 = search rules in
    subst (λ (r : Result (List Data) Raise). Answers items_of r (fill_all (templates (map (shape_by c.args.codes.now) c.args.shapes.now)) (seen (g.K.Look.sight c.args.look.now) c.args.now))) (sym is)
    (list_stops c.args.codes.now (seen (g.K.Look.sight c.args.look.now) c.args.now) c.args.shapes.now c.loop-shape.shape-index c.shape-item.result c.loop-shape.list c.loop-shape-test.true c.shape-item.is c.in_err-value.field-0.0 c.in_err-value.ensures c.loop-shape.invariant)

pub fill_named-loop-member-preserved : goal.fill_named-loop-member-preserved
fill_named-loop-member-preserved g t c =
    map_step c.args.codes.now (seen (g.K.Look.sight c.args.look.now) c.args.now) c.args.named.now c.loop-member.member-index c.member-item.result c.loop-member.pairs.items c.loop-member-test.true c.member-item.is c.push.new.self.items c.in_ok-key.key c.in_ok-value.value c.in_ok-value.ensures (rw c.as_str.ensures at c.in_ok-key.ensures) c.in_ok-push.ensures.items c.loop-member.invariant
