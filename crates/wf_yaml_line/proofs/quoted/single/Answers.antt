use Rattle.std.proofs.Common.{false, ap, ◌∙◌}
use Rattle.wf_yaml_line.specs.Quoted as texts
use Rattle.wf_yaml_line.proofs.Quotes.{single_doubled, single_ends, single_kept}
use Rattle.wf_yaml_line.proofs.quoted.single.Goals as goal
use Rattle.wf_yaml_line.proofs.quoted.single.Goals.{then-after_quote+else-c-ne39+in_ok-push, else-after_quote+then-c-eq39, else-after_quote+else-c-eq39+in_ok-push-2}

pub loop-i-preserved : goal.loop-i-preserved
loop-i-preserved c =
    let s = c.args.s.now in
    let whole = texts.single false s in
    let front = c.loop-i.chars.items in
    let new = c.if-after_quote.chars.items in
    let x = c.index-s-i.result in
    let was = c.loop-i.after_quote in
    let now = c.if-after_quote.after_quote in
    elim c.if-after_quote.branch [
      | then-after_quote+else-c-ne39+in_ok-push w ↦ single_doubled s front c.loop-i.i x whole c.loop-i-test.true c.index-s-i.is was now new w.if-after_quote.true w.after_quote-is w.if-c-ne39.false (ap (λ v. v.items) w.chars-is ∙ w.in_ok-push.ensures) c.loop-i.invariant
      | else-after_quote+then-c-eq39 w ↦ single_ends s front c.loop-i.i x whole c.loop-i-test.true c.index-s-i.is was now new w.if-after_quote.false w.after_quote-is w.if-c-eq39.true (ap (λ v. v.items) w.chars-is) c.loop-i.invariant
      | else-after_quote+else-c-eq39+in_ok-push-2 w ↦ single_kept s front c.loop-i.i x whole c.loop-i-test.true c.index-s-i.is was now new w.if-after_quote.false (w.after_quote-is ∙ w.if-after_quote.false) w.if-c-eq39.false (ap (λ v. v.items) w.chars-is ∙ w.in_ok-push-2.ensures) c.loop-i.invariant
    ]
