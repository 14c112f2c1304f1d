use Rattle.std.proofs.Common.{◌+◌, ap, arith, chars, length, rules, ◌∙◌}
use Rattle.wf_value.specs.LibText.{pieces, starts_of}
use Rattle.wf_value.specs.Plain.{plain}
use Rattle.wf_lib_text.proofs.Pieces.{cut_at, cut_none, starts_end, starts_more}
use Rattle.wf_lib_text.proofs.places.starts.Goals as goal

pub places-preserved : goal.places-preserved
places-preserved c =
    let h = c.in-Some.ensures.cases in
    let k = cut_at c.args.part.now c.places.rest.now c.in-Some.front.now c.in-Some.after.now h.0 h.1 c.requires h.2 h.3 h.4 h.6 in
    record {
      utf8 = search rules;
      left = starts_more c.places.starts c.push.new.self (starts_of 0 c.char_count-width.result (pieces c.args.part.now c.args.s.now)) c.args.part.now c.places.rest.now c.in-Some.front.now c.in-Some.after.now c.places.from c.in_ok-start.start c.in_ok-from.from c.char_count-width.result (plain c.in_ok-place.field-0)
          c.places.invariant.left k (c.in_ok-start.ensures ∙ ap (λ n. c.places.from + n) c.char_count.ensures) c.in_ok-place.ensures c.in_ok-push.ensures c.in_ok-from.ensures;
    }

pub places-smaller : goal.places-smaller
places-smaller c =
    let h = c.in-Some.ensures.cases in
    omega (arith, h.2.1.ends, h.5, h.6, h.7, c.requires)

pub returns : goal.returns
returns c =
    let k = cut_none c.args.part.now c.places.rest.now c.in_default.ensures.cases in
    starts_end c.places.starts (starts_of 0 c.char_count-width.result (pieces c.args.part.now c.args.s.now)) c.args.part.now c.places.rest.now c.places.from c.char_count-width.result c.places.invariant.left k
    ∙ ap (λ n. starts_of 0 n (pieces c.args.part.now c.args.s.now)) c.char_count-width.ensures
