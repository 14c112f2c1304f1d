use Rattle.std.proofs.Common.{◌-◌, length, map, refl, sym, ap, ◌∙◌, arith}
use Rattle.std.specs.Prelude.{option_map}
use Rattle.std.proofs.lemmas.Option.{slice_get-map, slice_get_read}
use Rattle.wf_ast.specs.View.{param_view}
use Rattle.wf_frames.proofs.Given.{given_none}
use Rattle.wf_value.specs.Data.{pairs_of}
use Rattle.wf_value.specs.Plain.{plain}
use Rattle.wf_frames.proofs.bindings.Bindings.given.Goals as goal

pub returns-in_default : goal.returns-in_default
returns-in_default c =
    let x = c.index-params-at.result in
    let there = slice_get_read c.args.params.now (length c.args.params.now) (c.loop-at.at - 1) x refl (omega (arith, c.loop-at-test.true, c.loop-at.invariant.within)) c.index-params-at.is in
    sym (
    given_none (map param_view c.args.params.now) (c.loop-at.at - 1) (param_view x) (pairs_of c.args.args.now)
    (slice_get-map param_view c.args.params.now (c.loop-at.at - 1) ∙ ap (option_map param_view) there)
    (sym c.in_ok-found.ensures ∙ ap (option_map plain) c.in_default.is)
    )
