use Rattle.std.proofs.Common.{◌≡◌, ◌++◌, [], Err, append-nil, append_assoc, ap, arith, length, refl, rules, string_bytes, sym, ◌∙◌}
use Rattle.wf_value.specs.LibText.{joined_by, pieces}
use Rattle.wf_value.specs.Data.{text}
use Rattle.wf_value.specs.Errors.{sized}
use Rattle.wf_lib_text.proofs.Pieces.{cut_at, cut_none, joined_last, joined_step}
use Rattle.wf_lib_text.proofs.Texts.{gives_past, gives_same, regrouped}
use Rattle.wf_lib_text.proofs.replace.replaced.Goals as goal

pub places-preserved : goal.places-preserved
places-preserved c =
    let h = c.in-Some.ensures.cases in
    let k = cut_at c.args.part.now c.places.rest.now c.in-Some.front.now c.in-Some.after.now h.0 h.1 c.requires h.2 h.3 h.4 h.6 in
    let behind = joined_by c.args.other.now (pieces c.args.part.now c.in-Some.after.now) in
    record {
      utf8 = search rules;
      left = regrouped (string_bytes c.places.out) (string_bytes c.add.new.out) (string_bytes c.add-in-Some.new.out) c.in-Some.front.now c.args.other.now behind c.in_ok-add.ensures.grown c.in_ok-add-2.ensures.grown
          ∙ ap (λ l. string_bytes c.places.out ++ l) (sym (joined_step c.args.part.now c.args.other.now c.places.rest.now c.in-Some.front.now c.in-Some.after.now k))
          ∙ c.places.invariant.left;
    }

pub places-smaller : goal.places-smaller
places-smaller c =
    let h = c.in-Some.ensures.cases in
    omega (arith, h.2.1.ends, h.5, h.6, h.7, c.requires)

pub returns-in_err-add : goal.returns-in_err-add
returns-in_err-add c =
    let h = c.in-Some.ensures.cases in
    let k = cut_at c.args.part.now c.places.rest.now c.in-Some.front.now c.in-Some.after.now h.0 h.1 c.requires h.2 h.3 h.4 h.6 in
    let behind = joined_by c.args.other.now (pieces c.args.part.now c.in-Some.after.now) in
    let is : c.from_residual.result ≡ Err c.in_err-add.field-0.0 = search rules in
    gives_past c.from_residual.result c.in_err-add.field-0.0 (string_bytes c.places.out ++ c.in-Some.front.now) (c.args.other.now ++ behind) (joined_by c.args.other.now (pieces c.args.part.now c.args.s.now)) is
    (append_assoc (string_bytes c.places.out) c.in-Some.front.now (c.args.other.now ++ behind)
    ∙ ap (λ l. string_bytes c.places.out ++ l) (sym (joined_step c.args.part.now c.args.other.now c.places.rest.now c.in-Some.front.now c.in-Some.after.now k))
    ∙ c.places.invariant.left)
    c.in_err-add.ensures.past

pub returns-in_err-add-2 : goal.returns-in_err-add-2
returns-in_err-add-2 c =
    let h = c.in-Some.ensures.cases in
    let k = cut_at c.args.part.now c.places.rest.now c.in-Some.front.now c.in-Some.after.now h.0 h.1 c.requires h.2 h.3 h.4 h.6 in
    let behind = joined_by c.args.other.now (pieces c.args.part.now c.in-Some.after.now) in
    let is : c.from_residual-in_err-add-2.result ≡ Err c.in_err-add-2.field-0.0 = search rules in
    gives_past c.from_residual-in_err-add-2.result c.in_err-add-2.field-0.0 (string_bytes c.add.new.out ++ c.args.other.now) behind (joined_by c.args.other.now (pieces c.args.part.now c.args.s.now)) is
    (regrouped (string_bytes c.places.out) (string_bytes c.add.new.out) (string_bytes c.add.new.out ++ c.args.other.now) c.in-Some.front.now c.args.other.now behind c.in_ok-add.ensures.grown refl
    ∙ ap (λ l. string_bytes c.places.out ++ l) (sym (joined_step c.args.part.now c.args.other.now c.places.rest.now c.in-Some.front.now c.in-Some.after.now k))
    ∙ c.places.invariant.left)
    c.in_err-add-2.ensures.past

pub returns-in_err-add-3 : goal.returns-in_err-add-3
returns-in_err-add-3 c =
    let k = cut_none c.args.part.now c.places.rest.now c.in_default.ensures.cases in
    let is : c.from_residual-in_err-add-3.result ≡ Err c.in_err-add-3.field-0.0 = search rules in
    gives_past c.from_residual-in_err-add-3.result c.in_err-add-3.field-0.0 (string_bytes c.places.out ++ c.places.rest.now) [] (joined_by c.args.other.now (pieces c.args.part.now c.args.s.now)) is
    (append-nil (string_bytes c.places.out ++ c.places.rest.now)
    ∙ ap (λ l. string_bytes c.places.out ++ l) (sym (joined_last c.args.part.now c.args.other.now c.places.rest.now k))
    ∙ c.places.invariant.left)
    c.in_err-add-3.ensures.past

pub returns : goal.returns
returns c =
    let k = cut_none c.args.part.now c.places.rest.now c.in_default.ensures.cases in
    gives_same c.sized_text.result (sized (text c.as_str.result.now)) (sized (text (joined_by c.args.other.now (pieces c.args.part.now c.args.s.now))))
    (ap (λ l. sized (text l)) (c.as_str.ensures.value
    ∙ c.in_ok-add-3.ensures.grown
    ∙ ap (λ l. string_bytes c.places.out ++ l) (sym (joined_last c.args.part.now c.args.other.now c.places.rest.now k))
    ∙ c.places.invariant.left))
    c.sized_text.ensures
