-- How deep trees nest: as deep as the JSON that they are of, and deeper than what they hold.
use Rattle.std.proofs.Common.{◌≡◌, suc, max, ◌<◌, ◌≤◌, ◌∷◌, Option, Some, None, option_map, option_and_then, IfSome, arith, refl, ap, sym, subst, ◌∙◌, Bool, false, true≢false, Decides}
use Rattle.serde_json.specs.Data as json
use Rattle.serde_json.specs.Find.{as_i64}
use Rattle.wf_tree.specs.Trees.{integer, list, map, depth, items_depth, items_of, pairs_depth, pairs_of}
use Rattle.wf_tree.specs.Trees as trees
use Rattle.wf_tree.specs.Json.{tree_of, items_tree, members_tree}
use Rattle.wf_tree.specs.declared.tree.Tree.{Tree}

some_map : {A B : Type 0} (P : A → Type 0) (Q : B → Type 0) (f : A → B) (o : Option A) → ((a : A) → P a → Q (f a)) → IfSome o P → IfSome (option_map f o) Q
some_map P Q f None step h = tt
some_map P Q f (Some a) step h = step a h

some_both : {A B C : Type 0} (P : A → Type 0) (Q : B → Type 0) (R : C → Type 0) (f : A → B → C) (a : Option A) (b : Option B) → ((x : A) (y : B) → P x → Q y → R (f x y)) → IfSome a P → IfSome b Q → IfSome (option_and_then (λ x. option_map (f x) b) a) R
some_both P Q R f None b step p q = tt
some_both P Q R f (Some x) None step p q = tt
some_both P Q R f (Some x) (Some y) step p q = step x y p q

number_depth : (o : Option _) → IfSome (option_map integer o) (λ t. depth t ≡ 0)
number_depth None = tt
number_depth (Some n) = refl

mutual
  depth_read : (j : json.Data) → IfSome (tree_of j) (λ t. depth t ≡ json.depth j)
  depth_read json.null = refl
  depth_read (json.boolean b) = refl
  depth_read (json.number n) = number_depth (as_i64 n)
  depth_read (json.string s) = refl
  depth_read (json.array js) =
      some_map (λ ts. items_depth (items_of ts) ≡ json.items_depth js) (λ t. depth t ≡ suc (json.items_depth js)) (λ ts. list (items_of ts)) (items_tree js) (λ ts h. ap (λ n. suc n) h) (depth_read_items js)
  depth_read (json.object ms) =
      some_map (λ ps. pairs_depth (pairs_of ps) ≡ json.members_depth ms) (λ t. depth t ≡ suc (json.members_depth ms)) (λ ps. map (pairs_of ps)) (members_tree ms) (λ ps h. ap (λ n. suc n) h) (depth_read_members ms)

  depth_read_items : (js : json.Items) → IfSome (items_tree js) (λ ts. items_depth (items_of ts) ≡ json.items_depth js)
  depth_read_items json.no_items = refl
  depth_read_items (json.item j js) =
      some_both (λ t. depth t ≡ json.depth j) (λ ts. items_depth (items_of ts) ≡ json.items_depth js) (λ ts. items_depth (items_of ts) ≡ max (json.depth j) (json.items_depth js)) (λ t ts. t ∷ ts) (tree_of j) (items_tree js)
      (λ t ts p q i. max (p i) (q i)) (depth_read j) (depth_read_items js)

  depth_read_members : (ms : json.Members) → IfSome (members_tree ms) (λ ps. pairs_depth (pairs_of ps) ≡ json.members_depth ms)
  depth_read_members json.no_members = refl
  depth_read_members (json.member k j ms) =
      some_both (λ t. depth t ≡ json.depth j) (λ ps. pairs_depth (pairs_of ps) ≡ json.members_depth ms) (λ ps. pairs_depth (pairs_of ps) ≡ max (json.depth j) (json.members_depth ms)) (λ t ps. (k, t) ∷ ps) (tree_of j) (members_tree ms)
      (λ t ps p q i. max (p i) (q i)) (depth_read j) (depth_read_members ms)

of_some : {A : Type 0} (P : A → Type 0) (o : Option A) (a : A) → o ≡ Some a → IfSome o P → P a
of_some P o a h p = subst (λ o. IfSome o P) h p

-- a tree nests as deep as the JSON that it is of
pub same_depth : (j : json.Data) (t : trees.Tree) → tree_of j ≡ Some t → depth t ≡ json.depth j
same_depth j t h = of_some (λ t. depth t ≡ json.depth j) (tree_of j) t h (depth_read j)

-- the tree of JSON that was found to nest no deeper than 100
pub shallow : (j : json.Data) (t : trees.Tree) (r : Bool) → tree_of j ≡ Some t → Decides r (100 < json.depth j) → r ≡ false → depth t ≤ 100
shallow j t r h d is_false =
    let not_deeper : ¬ (100 < json.depth j) = λ deeper. true≢false (sym (d.1 deeper) ∙ is_false) in
    omega (arith, not_deeper, same_depth j t h)
