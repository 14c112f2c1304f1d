use Rattle.std.proofs.Common.{◌∙◌, ◌∷◌, ℕ, ◌+◌, List, ap, sym, arith, drop}
use Rattle.wf_value.specs.HttpText.{values_of}
use Rattle.wf_http_body.proofs.Naming.{found, passed}
use Rattle.wf_http_body.proofs.fields.next_value.Goals as goal

pub returns-then-is_named : goal.returns-then-is_named
returns-then-is_named c =
    let first = found c.args.name.now c.args.fields.now c.loop-i.i c.index-fields-i.result c.loop-i-test.true c.index-fields-i.is (sym c.is_named.ensures ∙ c.if-is_named.true) in
    (sym c.loop-i.invariant ∙ first ∙ ap (λ (v : List ℕ). v ∷ values_of c.args.name.now (drop (c.loop-i.i + 1) c.args.fields.now)) (sym c.as_slice.ensures), omega arith, omega arith)

pub loop-i-preserved : goal.loop-i-preserved
loop-i-preserved c =
    passed c.args.name.now c.args.fields.now c.loop-i.i c.index-fields-i.result c.loop-i-test.true c.index-fields-i.is (sym c.is_named.ensures ∙ c.if-is_named.false) ∙ c.loop-i.invariant
