use Rattle.std.proofs.Common.{◌≡◌, ◌∷◌, [], ◌++◌, None, Some, Err, length, rules, slice_get}
use Rattle.wf_http_ask.specs.Answers.{Answers}
use Rattle.wf_http_ask.specs.Asking.{text_in}
use Rattle.wf_http_ask.proofs.Texts.{fewer, texts_end, texts_fail, texts_more}
use Rattle.wf_value.specs.Pairs.{Text}
use Rattle.wf_value.specs.Plain.{plain}
use Rattle.wf_http_ask.proofs.pairs.texts_of.Goals as goal

pub returns-in_err-text : goal.returns-in_err-text
returns-in_err-text c =
    let pair : Some (c.in-Some.key.now, plain c.in-Some.value.now) ≡ slice_get c.args.map.now (length c.loop-key.pairs) = search rules in
    let bad : Answers {A = Text} {B = Text} (λ t. t) (Err c.in_err-text.field-0.0) (text_in c.args.place (plain c.in-Some.value.now)) = search rules in
    let told : c.from_residual.result ≡ Err c.in_err-text.field-0.0 = search rules in
    rw told (texts_fail (text_in c.args.place) c.args.map.now c.loop-key.pairs _ _ _ pair bad c.loop-key.invariant)

pub loop-key-smaller : goal.loop-key-smaller
loop-key-smaller c =
    let pair : Some (c.in-Some.key.now, plain c.in-Some.value.now) ≡ slice_get c.args.map.now (length c.loop-key.pairs) = search rules in
    let grown : c.push.new.self ≡ c.loop-key.pairs ++ (c.in-Some.key.now, c.in_ok-text.text) ∷ [] = search rules in
    fewer (text_in c.args.place) c.args.map.now c.loop-key.pairs c.push.new.self _ _ _ pair grown

pub loop-key-preserved : goal.loop-key-preserved
loop-key-preserved c =
    let pair : Some (c.in-Some.key.now, plain c.in-Some.value.now) ≡ slice_get c.args.map.now (length c.loop-key.pairs) = search rules in
    let grown : c.push.new.self ≡ c.loop-key.pairs ++ (c.in-Some.key.now, c.in_ok-text.text) ∷ [] = search rules in
    texts_more (text_in c.args.place) c.args.map.now c.loop-key.pairs c.push.new.self _ _ _ pair c.in_ok-text.ensures grown c.loop-key.invariant

pub returns : goal.returns
returns c =
    let end : None ≡ slice_get c.args.map.now (length c.loop-key.pairs) = search rules in
    texts_end (text_in c.args.place) c.args.map.now c.loop-key.pairs end c.loop-key.invariant
