use Rattle.std.proofs.Common.{◌+◌, false, sym, ap, ◌∙◌}
use Rattle.std.proofs.lemmas.List.{take_rest}
use Rattle.wf_yaml_line.specs.Quoted as texts
use Rattle.wf_yaml_line.proofs.Quotes.{escape_read, escape_bad, skipped, backslash_read, double_kept}
use Rattle.wf_yaml_line.proofs.quoted.double.Goals as goal
use Rattle.wf_yaml_line.proofs.quoted.double.Goals.{then-escaped+in-Some+in_ok-push-in-Some, then-escaped+in-None, else-escaped+then-skip-gt0, else-escaped+else-skip-gt0+else-c-eq34+then-c-eq92, else-escaped+else-skip-gt0+else-c-eq34+else-c-eq92+in_ok-push}

pub loop-i-preserved : goal.loop-i-preserved
loop-i-preserved c =
    let s = c.args.s.now in
    let whole = texts.double false 0 s in
    let front = c.loop-i.chars.items in
    let new = c.if-escaped.chars.items in
    let x = c.index-s-i.result in
    elim c.if-escaped.branch [
      | then-escaped+in-Some+in_ok-push-in-Some w ↦ escape_read s front c.loop-i.i x whole c.loop-i-test.true c.index-s-i.is c.loop-i.good c.loop-i.skip c.loop-i.escaped c.if-escaped.good c.if-escaped.skip c.if-escaped.escaped new w.good-is w.in-Some.d _ w.if-escaped.true w.escaped-is (w.skip-is ∙ w.escape_width-skip.ensures) (sym w.in-Some.is ∙ w.escape.ensures) (take_rest s (c.loop-i.i + 1)) (ap (λ v. v.items) w.chars-is ∙ w.in_ok-push-in-Some.ensures) c.loop-i.invariant
      | then-escaped+in-None w ↦ escape_bad s front c.loop-i.i x whole c.loop-i-test.true c.index-s-i.is c.loop-i.good c.loop-i.escaped c.if-escaped.good c.if-escaped.escaped c.loop-i.skip c.if-escaped.skip new _ w.if-escaped.true w.escaped-is w.skip-is w.good-is (sym w.in-None.is ∙ w.escape.ensures) (take_rest s (c.loop-i.i + 1)) (ap (λ v. v.items) w.chars-is) c.loop-i.invariant
      | else-escaped+then-skip-gt0 w ↦ skipped s front c.loop-i.i x whole c.loop-i-test.true c.index-s-i.is c.loop-i.good c.loop-i.skip c.loop-i.escaped c.if-escaped.good c.if-escaped.skip c.if-escaped.escaped new w.good-is w.if-escaped.false w.escaped-is w.if-skip-gt0.true w.skip-is (ap (λ v. v.items) w.chars-is) c.loop-i.invariant
      | else-escaped+else-skip-gt0+else-c-eq34+then-c-eq92 w ↦ backslash_read s front c.loop-i.i x whole c.loop-i-test.true c.index-s-i.is c.loop-i.good c.loop-i.skip c.loop-i.escaped c.if-escaped.good c.if-escaped.skip c.if-escaped.escaped new w.good-is w.if-escaped.false w.escaped-is w.if-skip-gt0.false w.skip-is w.if-c-eq34.false w.if-c-eq92.true (ap (λ v. v.items) w.chars-is) c.loop-i.invariant
      | else-escaped+else-skip-gt0+else-c-eq34+else-c-eq92+in_ok-push w ↦ double_kept s front c.loop-i.i x whole c.loop-i-test.true c.index-s-i.is c.loop-i.good c.loop-i.skip c.loop-i.escaped c.if-escaped.good c.if-escaped.skip c.if-escaped.escaped new w.good-is w.if-escaped.false w.escaped-is w.if-skip-gt0.false w.skip-is w.if-c-eq34.false w.if-c-eq92.false (ap (λ v. v.items) w.chars-is ∙ w.in_ok-push.ensures) c.loop-i.invariant
    ]
