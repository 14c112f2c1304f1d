use Rattle.std.proofs.Common.{◌≡◌, ◌<◌, ◌+◌, ◌∙◌, suc, Some, None, Err, [], sym, ap, arith, subst, get_or, false, true, length}
use Rattle.std.specs.Prelude.{string_bytes}
use Rattle.std.proofs.lemmas.Bool.{ltb-false}
use Rattle.wf_args.specs.Lines.{words_view, next_name, is_word}
use Rattle.wf_args.proofs.Reading.{next_named}
use Rattle.wf_args.proofs.Counts.{none_within, few_words_are_read}
use Rattle.wf_args.proofs.Steps.{so_far, Along, ends_unknown, ends_incomplete, ends_unfit, more_pairs, more_goes_on, ends, ends_missing}
use Rattle.wf_args.proofs.read.bad_word.Goals as goal

pub returns-in_default : goal.returns-in_default
returns-in_default c =
    let unknown : next_name c.args.command (so_far c.args.options.now c.loop-at.at) (string_bytes c.index-options-at.result) ≡ None =
    ap (next_name c.args.command (so_far c.args.options.now c.loop-at.at)) (sym c.as_str.ensures.value) ∙ sym c.next_name.ensures ∙ c.in_default.is in
    let bad = ends_unknown c.args.command c.args.options.now c.loop-at.at c.index-options-at.result (omega (arith, c.loop-at-test.true)) c.index-options-at.is unknown c.loop-at.invariant.goes_on in
    let few = few_words_are_read c.args.command 1 [] (words_view c.args.options.now) (suc c.loop-at.at) (omega arith) none_within bad in
    let told : suc c.loop-at.at ≡ c.number.result = omega (arith, few, c.number.ensures) in
    bad ∙ ap Err told

pub returns-in_default-get : goal.returns-in_default-get
returns-in_default-get c =
    let known : next_name c.args.command (so_far c.args.options.now c.loop-at.at) (string_bytes c.index-options-at.result) ≡ Some c.in-Some.name =
    ap (next_name c.args.command (so_far c.args.options.now c.loop-at.at)) (sym c.as_str.ensures.value) ∙ sym c.next_name.ensures ∙ c.in-Some.is in
    let past = ltb-false (c.loop-at.at + 1) (length c.args.options.now) (sym c.in_default-get.ensures.lookup.0) in
    let last : suc c.loop-at.at ≡ length c.args.options.now = omega (arith, past, c.loop-at-test.true) in
    let bad = ends_incomplete c.args.command c.args.options.now c.loop-at.at c.index-options-at.result c.in-Some.name last c.index-options-at.is known c.loop-at.invariant.goes_on in
    let few = few_words_are_read c.args.command 1 [] (words_view c.args.options.now) (suc (suc c.loop-at.at)) (omega arith) none_within bad in
    let told : suc (suc c.loop-at.at) ≡ c.number-in_default-get.result = omega (arith, few, last, c.number-in_default-get.ensures) in
    bad ∙ ap Err told

pub returns-then-not-fits : goal.returns-then-not-fits
returns-then-not-fits c =
    let known : next_name c.args.command (so_far c.args.options.now c.loop-at.at) (string_bytes c.index-options-at.result) ≡ Some c.in-Some.name =
    ap (next_name c.args.command (so_far c.args.options.now c.loop-at.at)) (sym c.as_str.ensures.value) ∙ sym c.next_name.ensures ∙ c.in-Some.is in
    let unfit : is_word c.in-Some.name (string_bytes c.in-Some-get.word.now) ≡ false =
    ap (is_word c.in-Some.name) (sym c.as_str-in-loop-at.ensures.value) ∙ sym c.fits.ensures ∙ c.if-not-fits.true in
    let below : suc c.loop-at.at < length c.args.options.now = omega (arith, c.in-Some-get.ensures.lookup.3.0) in
    let it : c.in-Some-get.word.now ≡ get_or c.args.options.now (suc c.loop-at.at) c.in-Some-get.word.now = c.in-Some-get.ensures.lookup.1 ∙ ap (λ k. get_or c.args.options.now k c.in-Some-get.word.now) (let e : c.loop-at.at + 1 ≡ suc c.loop-at.at = omega arith in e) in
    let bad = ends_unfit c.args.command c.args.options.now c.loop-at.at c.index-options-at.result c.in-Some-get.word.now c.in-Some.name below c.index-options-at.is it known unfit c.loop-at.invariant.goes_on in
    let few = few_words_are_read c.args.command 1 [] (words_view c.args.options.now) (suc (suc c.loop-at.at)) (omega arith) none_within bad in
    let told : suc (suc c.loop-at.at) ≡ c.number-then-not-fits.result = omega (arith, few, c.number-then-not-fits.ensures) in
    bad ∙ ap Err told

pub loop-at-preserved : goal.loop-at-preserved
loop-at-preserved c =
    let known : next_name c.args.command (so_far c.args.options.now c.loop-at.at) (string_bytes c.index-options-at.result) ≡ Some c.in-Some.name =
    ap (next_name c.args.command (so_far c.args.options.now c.loop-at.at)) (sym c.as_str.ensures.value) ∙ sym c.next_name.ensures ∙ c.in-Some.is in
    let fits : is_word c.in-Some.name (string_bytes c.in-Some-get.word.now) ≡ true =
    ap (is_word c.in-Some.name) (sym c.as_str-in-loop-at.ensures.value) ∙ sym c.fits.ensures ∙ c.if-not-fits.false in
    let below : suc c.loop-at.at < length c.args.options.now = omega (arith, c.in-Some-get.ensures.lookup.3.0) in
    let it : c.in-Some-get.word.now ≡ get_or c.args.options.now (suc c.loop-at.at) c.in-Some-get.word.now = c.in-Some-get.ensures.lookup.1 ∙ ap (λ k. get_or c.args.options.now k c.in-Some-get.word.now) (let e : c.loop-at.at + 1 ≡ suc c.loop-at.at = omega arith in e) in
    let named = (next_named c.args.command (so_far c.args.options.now c.loop-at.at) (string_bytes c.index-options-at.result) c.in-Some.name known).0 in
    let pairs = more_pairs c.args.options.now c.loop-at.at c.index-options-at.result c.in-Some-get.word.now c.in-Some.name below c.index-options-at.is it c.loop-at.invariant.pairs named in
    let on = more_goes_on c.args.command c.args.options.now c.loop-at.at c.index-options-at.result c.in-Some-get.word.now c.in-Some.name below c.index-options-at.is it c.loop-at.invariant.pairs known fits c.loop-at.invariant.goes_on in
    subst (Along c.args.command c.args.options.now) (let e : suc (suc c.loop-at.at) ≡ c.loop-at.at + 2 = omega arith in e)
    (record { within = omega (arith, below); pairs = pairs; goes_on = on })

pub returns-then-is_complete : goal.returns-then-is_complete
returns-then-is_complete c =
    ends c.args.command c.args.options.now c.loop-at.at (omega (arith, c.loop-at-test.false)) c.loop-at.invariant.goes_on (sym c.is_complete.ensures ∙ c.if-is_complete.true)

pub returns-else-is_complete : goal.returns-else-is_complete
returns-else-is_complete c =
    let bad = ends_missing c.args.command c.args.options.now c.loop-at.at (omega (arith, c.loop-at-test.false)) c.loop-at.invariant.goes_on (sym c.is_complete.ensures ∙ c.if-is_complete.false) in
    let few = few_words_are_read c.args.command 1 [] (words_view c.args.options.now) (suc c.loop-at.at) (omega arith) none_within bad in
    let told : suc c.loop-at.at ≡ c.number-else-is_complete.result = omega (arith, few, c.loop-at-test.false, c.loop-at.invariant.within, c.number-else-is_complete.ensures) in
    bad ∙ ap Err told
