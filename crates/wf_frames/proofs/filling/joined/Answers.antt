use Rattle.std.proofs.Common.{rules, ◌≡◌, List, Result, Err, map, sym, subst, ap, ◌∙◌, ◌++◌, ℕ}
use Rattle.std.specs.String.{string_bytes}
use Rattle.wf_ast.specs.Eval.{joined}
use Rattle.wf_eval.specs.Answers.{GivesText}
use Rattle.wf_eval.specs.Sight.{seen}
use Rattle.wf_model.specs.Shapes.{piece_by}
use Rattle.wf_frames.proofs.Filled.{text_step, text_stops}
use Rattle.wf_value.specs.declared.errors.Raise.{Raise}
use Rattle.wf_frames.proofs.filling.joined.Goals as goal

pub loop-piece-preserved : goal.loop-piece-preserved
loop-piece-preserved g c =
    text_step c.args.codes.now (seen (g.K.Look.sight c.args.look.now) c.args.now) c.args.pieces.now c.loop-piece.piece-index c.piece-item.result (string_bytes c.loop-piece.text) c.loop-piece-test.true c.piece-item.is c.loop-piece.invariant
    (string_bytes c.push_str.new.self) c.in_ok-more.more c.in_ok-more.ensures (c.in_ok-push_str.ensures.bytes ∙ ap (λ (t : List ℕ). string_bytes c.loop-piece.text ++ t) c.as_str.ensures)

pub returns-in_err-more : goal.returns-in_err-more
returns-in_err-more g c =
    let is : c.from_residual.result ≡ Err c.in_err-more.field-0.0 = search rules in
    subst (λ (r : Result (List ℕ) Raise). GivesText r (joined (seen (g.K.Look.sight c.args.look.now) c.args.now) (map (piece_by c.args.codes.now) c.args.pieces.now))) (sym is)
    (text_stops c.args.codes.now (seen (g.K.Look.sight c.args.look.now) c.args.now) c.args.pieces.now c.loop-piece.piece-index c.piece-item.result (string_bytes c.loop-piece.text) c.loop-piece-test.true c.piece-item.is c.loop-piece.invariant c.in_err-more.field-0.0 c.in_err-more.ensures)
