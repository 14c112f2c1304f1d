use Rattle.std.proofs.Common.{◌≡◌, ◌∷◌, ◌++◌, map, string_bytes, ap, sym, subst, ◌∙◌, ◌+◌, drop, get_or, add-one, ◌<◌, length}
use Rattle.std.proofs.lemmas.List.{drop_more}
use Rattle.std.specs.Map.{keys_of}
use Rattle.serde_json.specs.Data as json
use Rattle.serde_json.specs.View.{view, items_view, members_view}
use Rattle.wf_value.specs.declared.path.PathPart.TheVariants.{Key}
use Rattle.wf_tree.specs.Faults.{IsNoTree}
use Rattle.wf_tree.specs.Json.{behind, first_decimal, items_tree, members_tree, first_in_items, first_in_members}
use Rattle.wf_tree.specs.Plain.{plain_tree, plain_pairs}
use Rattle.wf_value.proofs.Reading.{after}
use Rattle.wf_tree.proofs.PairTrees.{Entry}
use Rattle.wf_tree.proofs.Reading.{items_next, first_item_next, members_next, first_member_next, keys_next, read_in_order}
use Rattle.wf_tree.proofs.json_text.+read.Goals as goal

pub item_at-returns-in-Err-clause-fault : goal.item_at-returns-in-Err-clause-fault
item_at-returns-in-Err-clause-fault t c = c.outward.ensures (first_decimal (view c.args.json.now)) c.in-Err.ensures.fault

pub member_at-returns-in_ok-copy-in-Err-clause-fault :
    goal.member_at-returns-in_ok-copy-in-Err-clause-fault
member_at-returns-in_ok-copy-in-Err-clause-fault t c =
    let first = first_decimal (view c.args.json.now) in
    subst (λ k. IsNoTree (behind (Key k) first) c.outward.result) c.in_ok-copy-in-Err.ensures (c.outward.ensures first c.in-Err.ensures.fault)

pub list_of-loop-i-preserved : goal.list_of-loop-i-preserved
list_of-loop-i-preserved t c =
    let xs = c.args.items.now.items in
    let x = c.json-item.result in
    let i = c.loop-i.i in
    let left = drop (i + 1) xs in
    let within : i < length xs = subst (λ ys. i < length ys) c.deref-json-items.ensures.value c.loop-i-test.true in
    let at : get_or xs i x ≡ x = sym (c.json-item.is ∙ ap (λ ys. get_or ys i x) c.deref-json-items.ensures.value) in
    let split : drop i xs ≡ x ∷ left = drop_more xs i x within ∙ ap (λ y. y ∷ left) at in
    record {
      trees = c.loop-i.invariant.trees
          ∙ ap (λ ys. after c.loop-i.list (items_tree (items_view ys))) split
          ∙ items_next c.loop-i.list (plain_tree c.in_ok-item.item) (view x) (items_view left) c.in_ok-item.ensures.tree
          ∙ ap (λ l. after l (items_tree (items_view left))) (sym c.in_ok-push.ensures);
      first = c.loop-i.invariant.first
          ∙ ap (λ ys. first_in_items i (items_view ys)) split
          ∙ first_item_next i (plain_tree c.in_ok-item.item) (view x) (items_view left) c.in_ok-item.ensures.tree
          ∙ ap (λ n. first_in_items n (items_view left)) (sym (add-one i));
    }

pub map_of-loop-key-preserved : goal.map_of-loop-key-preserved
map_of-loop-key-preserved t c =
    let e : Entry = (c.in_ok-name.name, c.in_ok-item.item) in
    let named : c.in_ok-name.name ≡ string_bytes c.in-Some.key.now = c.in_ok-name.ensures ∙ c.as_str.ensures.value in
    let ps = c.loop-key.pairs.items in
    let left = c.next.new.self in
    let j = view c.in-Some.json.now in
    record {
      trees = c.loop-key.invariant.trees
          ∙ ap (λ es. after (plain_pairs ps) (members_tree (members_view es))) c.in-Some.ensures.steps
          ∙ ap (λ k. after (plain_pairs ps) (members_tree (json.member k j (members_view left)))) (sym named)
          ∙ members_next ps e j (members_view left) c.in_ok-item.ensures.tree
          ∙ ap (λ l. after (plain_pairs l) (members_tree (members_view left))) (sym c.in-Ok.ensures.items);
      first = c.loop-key.invariant.first
          ∙ ap (λ es. first_in_members (members_view es)) c.in-Some.ensures.steps
          ∙ first_member_next (string_bytes c.in-Some.key.now) (plain_tree c.in_ok-item.item) j (members_view left) c.in_ok-item.ensures.tree;
      keys = c.loop-key.invariant.keys
          ∙ ap (λ es. keys_of ps ++ map string_bytes (keys_of es)) c.in-Some.ensures.steps
          ∙ ap (λ k. keys_of ps ++ k ∷ map string_bytes (keys_of left)) (sym named)
          ∙ keys_next ps e (map string_bytes (keys_of left))
          ∙ ap (λ l. keys_of l ++ map string_bytes (keys_of left)) (sym c.in-Ok.ensures.items);
    }

pub map_of-of_pairs-requires : goal.map_of-of_pairs-requires
map_of-of_pairs-requires t c =
    read_in_order c.loop-key.pairs.items (keys_of c.args.members.now.entries) (keys_of c.loop-key.key-iterator) c.iter-key-items.ensures.ordered c.loop-key.invariant.keys
    (ap (λ es. keys_of es) c.in-None.ensures.steps.0)
