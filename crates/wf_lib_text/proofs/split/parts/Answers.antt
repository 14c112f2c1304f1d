use Rattle.std.proofs.Common.{rules, arith}
use Rattle.wf_lib_text.proofs.Pieces.{cut_at, cut_none, parts_more, parts_end}
use Rattle.wf_lib_text.proofs.split.parts.Goals as goal

pub places-preserved : goal.places-preserved
places-preserved c =
    let h = c.in-Some.ensures.cases in
    let k = cut_at c.args.separator.now c.places.rest.now c.in-Some.part.now c.in-Some.after.now h.0 h.1 c.requires h.2 h.3 h.4 h.6 in
    record {
      utf8 = search rules;
      left = parts_more c.places.parts c.push.new.self c.args.separator.now c.args.s.now c.places.rest.now c.in-Some.part.now c.in-Some.after.now c.in_ok-new.field-0 c.places.invariant.left k c.in_ok-new.ensures c.in_ok-push.ensures;
    }

pub places-smaller : goal.places-smaller
places-smaller c =
    let h = c.in-Some.ensures.cases in
    omega (arith, h.2.1.ends, h.5, h.6, h.7, c.requires)

pub returns : goal.returns
returns c =
    let k = cut_none c.args.separator.now c.places.rest.now c.in_default.ensures.cases in
    parts_end c.places.parts c.push-2.new.self c.args.separator.now c.args.s.now c.places.rest.now c.in_ok-new-2.field-0 c.places.invariant.left k c.in_ok-new-2.ensures c.in_ok-push-2.ensures
