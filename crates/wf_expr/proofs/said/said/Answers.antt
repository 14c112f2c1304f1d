use Rattle.std.proofs.Common.{◌≡◌, ℕ, List, IfOk, subst, true, false, string_bytes, sym, ap, ◌∙◌}
use Rattle.std.specs.Char.{encode_utf8}
use Rattle.std.specs.Str.Iter.{chars_rest}
use Rattle.std.proofs.lemmas.Bool.{ne_eqb}
use Rattle.wf_expr.proofs.Quotes.{escape_said, first_quote, own_said, said_closed, said_end, said_more}
use Rattle.wf_expr.specs.Symbols.{escaped, said, text_said}
use Rattle.wf_expr.proofs.said.said.Goals as goal
use Rattle.wf_expr.proofs.said.said.Goals.{in-None, in-Some-c+else-after_backslash+else-c-eq92+then-c-quote}

pub loop-c-init : goal.loop-c-init
loop-c-init c =
    rw (c.new-out.ensures.bytes, c.into_iter-c-iterator.ensures.into_iter_gives) (sym (first_quote _ _ _ c.requires (sym c.chars-chars.ensures.rest ∙ c.in-Some.ensures.steps.0)).1)

pub loop-c-preserved-then-after_backslash : goal.loop-c-preserved-then-after_backslash
loop-c-preserved-then-after_backslash c =
    let low = (first_quote _ _ _ c.requires (sym c.chars-chars.ensures.rest ∙ c.in-Some.ensures.steps.0)).0 in
    said_more c.in-Some.quote true false (string_bytes c.loop-c.out) (string_bytes c.push.new.out) (chars_rest c.loop-c.c-iterator) (chars_rest c.next-in-loop-c.new.self) (text_said c.args.text.now) (encode_utf8 (escaped c.in-Some-c.c)) (rw c.if-after_backslash.true at c.loop-c.invariant) (ap (said c.in-Some.quote true) c.in-Some-c.ensures.steps.0 ∙ escape_said c.in-Some.quote c.in-Some-c.c _ low) (rw c.meant.ensures at c.in_ok-push.ensures)

pub loop-c-preserved : goal.loop-c-preserved
loop-c-preserved c =
    let low = (first_quote _ _ _ c.requires (sym c.chars-chars.ensures.rest ∙ c.in-Some.ensures.steps.0)).0 in
    rw c.if-after_backslash.false (said_more c.in-Some.quote false false (string_bytes c.loop-c.out) (string_bytes c.push-else-c-quote.new.out) (chars_rest c.loop-c.c-iterator) (chars_rest c.next-in-loop-c.new.self) (text_said c.args.text.now) (encode_utf8 c.in-Some-c.c) (rw c.if-after_backslash.false at c.loop-c.invariant) (ap (said c.in-Some.quote false) c.in-Some-c.ensures.steps.0 ∙ own_said c.in-Some.quote c.in-Some-c.c _ low (ne_eqb c.in-Some-c.c 92 c.if-c-eq92.false) (ne_eqb c.in-Some-c.c c.in-Some.quote c.if-c-quote.false)) c.in_ok-push-2.ensures)

pub returns : goal.returns
returns c =
    let low = (first_quote _ _ _ c.requires (sym c.chars-chars.ensures.rest ∙ c.in-Some.ensures.steps.0)).0 in
    let whole : string_bytes c.loop-c.out ≡ text_said c.args.text.now = elim c.match-next-2.branch [ in-None w ↦ said_end _ _ _ _ _ c.loop-c.invariant w.in-None.ensures.steps.0.0 | in-Some-c+else-after_backslash+else-c-eq92+then-c-quote w ↦ said_closed _ _ _ _ _ _ low w.if-c-eq92.false w.if-c-quote.true (rw w.if-after_backslash.false at c.loop-c.invariant) w.in-Some-c.ensures.steps.0 ] in
    subst (λ (l : List ℕ). IfOk c.new-2.result (λ t. t ≡ l)) (c.as_str.ensures.value ∙ whole) c.new-2.ensures
