use Rattle.std.proofs.Common.{[], ◌∷◌, ◌-◌, length, take, drop, ap, ◌∙◌}
use Rattle.wf_value.specs.Plain.{plain}
use Rattle.wf_ast.specs.Instrs.{instr}
use Rattle.wf_eval.proofs.Operands.{one_item, one_leaves, three_items, two_and_rest, last_leaves, pair_leaves}
use Rattle.wf_eval.proofs.short.short.Goals as goal

pub returns-in-len1 : goal.returns-in-len1
returns-in-len1 g c =
    let is = c.args.items.now in
    one_leaves c.one.result is c.a-item.result (g.K.Look.sight c.args.look.now) (one_item is c.a-item.result c.in-len1.len_at_least c.in-len1.len_below c.a-item.is) c.one.ensures

pub returns-in-len1-rest : goal.returns-in-len1-rest
returns-in-len1-rest g c =
    let is = c.args.items.now in
    let s = g.K.Look.sight c.args.look.now in
    let a = c.a-item-2.result in
    let b = c.b-item.result in
    let last = c.last-item.result in
    let v = plain c.in_ok-v-in-len2-up.v.now in
    let w = plain c.in_ok-w-in-len2-up.w.now in
    pair_leaves c.two.result is (last ∷ []) a b s v w
    (two_and_rest is a b c.in-len2-up.len_at_least c.a-item-2.is c.b-item.is
    ∙ ap (λ zs. a ∷ b ∷ zs) (one_item (take (length is - 2) (drop 2 is)) last c.in-len1-rest.len_at_least c.in-len1-rest.len_below c.last-item.is)) c.in_ok-v-in-len2-up.ensures c.in_ok-w-in-len2-up.ensures
    (last_leaves c.two.result s (instr last) v w c.two.ensures)

pub returns-in-len3 : goal.returns-in-len3
returns-in-len3 g c =
    let is = c.args.items.now in
    let s = g.K.Look.sight c.args.look.now in
    let a = c.a-item-2.result in
    let b = c.b-item.result in
    let x = c.c-item.result in
    let y = c.d-item.result in
    let last = c.last-item-then-rest-lt4.result in
    pair_leaves c.three.result is (x ∷ y ∷ last ∷ []) a b s (plain c.in_ok-v-in-len2-up.v.now) (plain c.in_ok-w-in-len2-up.w.now)
    (two_and_rest is a b c.in-len2-up.len_at_least c.a-item-2.is c.b-item.is
    ∙ ap (λ zs. a ∷ b ∷ zs) (three_items (take (length is - 2) (drop 2 is)) x y last c.in-len3.len_at_least c.in-len3.len_below c.c-item.is c.d-item.is c.last-item-then-rest-lt4.is)) c.in_ok-v-in-len2-up.ensures c.in_ok-w-in-len2-up.ensures
    c.three.ensures
