use Rattle.std.proofs.Common.{◌≡◌, ◌∷◌, ◌++◌, [], sym, ◌∙◌, ap, subst, option_map, true, false, rules, Some, Err}
use Rattle.std.proofs.lemmas.Result.{err_from_is_err_and}
use Rattle.wf_record_parts.proofs.Loop.{goes_on, ends, is_done}
use Rattle.wf_record_parts.specs.Reading.{list_at, text_at}
use Rattle.wf_states.proofs.Keyed.{AreBelow, key_goes_on, key_fails, key_is_low, value_fails, keys_done, still_below, put_behind}
use Rattle.wf_states.specs.Reading.{value_in}
use Rattle.wf_states.specs.Rising.{rising_at}
use Rattle.wf_states.specs.Spelling.{less_key}
use Rattle.wf_value.specs.Maps.{with_value}
use Rattle.wf_value.specs.Plain.{plain}
use Rattle.wf_states.proofs.values.+value.Goals as goal

pub list-returns-in_err-value : goal.list-returns-in_err-value
list-returns-in_err-value t c =
    let p = err_from_is_err_and c.from_residual-in_err-value.result c.from_residual-in_err-value.ensures.1 in
    rw (p.1, p.2)
    (ends (value_in c.args.levels) c.loop.list c.in_ok-count.count c.loop.counter c.loop.reader (list_at (value_in c.args.levels) c.args.reader.now) c.loop.invariant c.in_err-value.field-0.0 c.loop-test.true c.in_err-value.ensures)

pub list-loop-preserved : goal.list-loop-preserved
list-loop-preserved t c =
    rw c.in_ok-push.ensures
    (goes_on (value_in c.args.levels) c.loop.list c.in_ok-count.count c.loop.counter c.loop.reader (list_at (value_in c.args.levels) c.args.reader.now) c.loop.invariant (plain c.in_ok-value.field-0) c.value.new.reader c.loop-test.true c.in_ok-value.ensures)

pub list-returns : goal.list-returns
list-returns t c = is_done (value_in c.args.levels) c.loop.list c.in_ok-count.count c.loop.counter c.loop.reader (list_at (value_in c.args.levels) c.args.reader.now) c.loop.invariant c.loop-test.false

pub map-returns-in_err-key : goal.map-returns-in_err-key
map-returns-in_err-key t c =
    let p = err_from_is_err_and c.from_residual-in_err-key.result c.from_residual-in_err-key.ensures.1 in
    rw (p.1, p.2)
    (key_fails less_key text_at (value_in c.args.levels) c.loop.map (option_map (λ s. s.now) c.loop.before) c.in_ok-count.count c.loop.counter c.loop.reader (rising_at less_key text_at (value_in c.args.levels) c.args.reader.now) c.loop.invariant.0
    c.in_err-key.field-0.0 c.loop-test.true c.in_err-key.ensures)

pub map-returns-then-not-comes_behind : goal.map-returns-then-not-comes_behind
map-returns-then-not-comes_behind t c =
    let low : c.comes_behind.result ≡ false = search rules in
    key_is_low less_key text_at (value_in c.args.levels) c.loop.map (option_map (λ s. s.now) c.loop.before) c.in_ok-count.count c.loop.counter c.loop.reader (rising_at less_key text_at (value_in c.args.levels) c.args.reader.now) c.loop.invariant.0
    c.in_ok-key.key.now c.lent_text.new.reader c.loop-test.true c.in_ok-key.ensures (sym c.comes_behind.ensures ∙ low) ∙ ap Err (sym c.left-left.ensures)

pub map-returns-in_err-value : goal.map-returns-in_err-value
map-returns-in_err-value t c =
    let above : c.comes_behind.result ≡ true = search rules in
    let p = err_from_is_err_and c.from_residual-in_err-value.result c.from_residual-in_err-value.ensures.1 in
    rw (p.1, p.2)
    (value_fails less_key text_at (value_in c.args.levels) c.loop.map (option_map (λ s. s.now) c.loop.before) c.in_ok-count.count c.loop.counter c.loop.reader (rising_at less_key text_at (value_in c.args.levels) c.args.reader.now) c.loop.invariant.0
    c.in_ok-key.key.now c.lent_text.new.reader c.in_err-value.field-0.0 c.loop-test.true c.in_ok-key.ensures (sym c.comes_behind.ensures ∙ above) c.in_err-value.ensures)

pub map-loop-preserved : goal.map-loop-preserved
map-loop-preserved t c =
    let above : c.comes_behind.result ≡ true = search rules in
    let follow = sym c.comes_behind.ensures ∙ above in
    let before = option_map (λ s. s.now) c.loop.before in
    let inserted : c.insert.new.self ≡ c.loop.map ++ (c.in_ok-key.key.now, plain c.in_ok-value.value) ∷ [] =
    c.in_ok-insert.ensures.after ∙ ap (λ k. with_value k (plain c.in_ok-value.value) c.loop.map) c.in_ok-new.ensures ∙ put_behind c.loop.map c.in_ok-key.key.now (plain c.in_ok-value.value) (c.loop.invariant.1 c.in_ok-key.key.now follow) in (
      rw inserted
          (key_goes_on less_key text_at (value_in c.args.levels) c.loop.map before c.in_ok-count.count c.loop.counter c.loop.reader (rising_at less_key text_at (value_in c.args.levels) c.args.reader.now) c.loop.invariant.0
          c.in_ok-key.key.now (plain c.in_ok-value.value) c.lent_text.new.reader c.value.new.reader c.loop-test.true c.in_ok-key.ensures follow c.in_ok-value.ensures),
      subst (AreBelow (Some c.in_ok-key.key.now)) (sym inserted) (still_below before c.loop.map c.in_ok-key.key.now (plain c.in_ok-value.value) c.loop.invariant.1 follow),
    )

pub map-returns : goal.map-returns
map-returns t c =
    keys_done less_key text_at (value_in c.args.levels) c.loop.map (option_map (λ s. s.now) c.loop.before) c.in_ok-count.count c.loop.counter c.loop.reader (rising_at less_key text_at (value_in c.args.levels) c.args.reader.now) c.loop.invariant.0 c.loop-test.false
