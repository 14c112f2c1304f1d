use Rattle.std.proofs.Common.{◌<◌, ◌∙◌, ap, arith, get_or, length}
use Rattle.std.specs.Prelude.{slice_set}
use Rattle.std.proofs.lemmas.List.{get_or_default, length-set}
use Rattle.std.proofs.lemmas.List.Edits.{map_over_more}
use Rattle.wf_scope.specs.Firsts.{shifted}
use Rattle.wf_scope.proofs.firsts.Firsts.shift.Goals as goal

pub loop-i-preserved : goal.loop-i-preserved
loop-i-preserved c =
    let now = c.loop-i.self.hints in
    let i = c.loop-i.i in
    let within : i < length now = omega (arith, c.loop-i.invariant.long) in
    let hint = get_or now i 0 in
    record {
      so_far = ap (slice_set now i) c.shifted.ensures ∙ map_over_more (shifted c.args.place) c.args.self.now.hints now i hint (omega (arith, within, c.loop-i.invariant.long, c.loop-i.invariant.all)) c.loop-i.invariant.so_far (get_or_default now i 0 hint within);
      long = length-set now i c.shifted.result ∙ c.loop-i.invariant.long;
      all = c.loop-i.invariant.all;
    }
