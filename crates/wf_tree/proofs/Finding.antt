-- Reading as a function finds just the tree that the source says.
use Rattle.std.proofs.Common.{◌≡◌, ◌≤◌, ℕ, List, Bool, true, false, nat_le, Option, Some, None, option_and_then, if◌then◌else◌, refl, ap, ◌∙◌}
use Rattle.std.specs.Str.{is_utf8}
use Rattle.std.proofs.lemmas.Str.{IsUtf8-from_is_utf8, is_utf8-from_IsUtf8}
use Rattle.std.proofs.lemmas.Bool.{false≢true, le-leb, leb-true}
use Rattle.serde_json.specs.Data as json
use Rattle.serde_json.specs.Read.{read}
use Rattle.wf_tree.specs.Trees.{Tree, depth}
use Rattle.wf_tree.specs.Decode.{json_tree, shallow}
use Rattle.wf_tree.specs.Json.{tree_of, IsTree}

within : (e t : Tree) (u : Bool) → nat_le (depth e) 100 ≡ u → (if u then Some e else None) ≡ Some t → (Some e ≡ Some t) × (depth t ≤ 100)
within e t true h is = let same : e ≡ t = cc in (is, rw (← same) (leb-true (depth e) 100 h))
within e t false h is = cc

shallow_is : (o : Option Tree) (t : Tree) → shallow o ≡ Some t → (o ≡ Some t) × (depth t ≤ 100)
shallow_is None t is = cc
shallow_is (Some e) t is = within e t _ refl is

found : (b : List ℕ) (t : Tree) (u : Bool) (o : Option json.Data) → is_utf8 b ≡ u → read b ≡ o → elim u [ false ↦ None | true ↦ shallow (option_and_then tree_of o) ] ≡ Some t → IsTree b t
found b t false o u r is = cc
found b t true None u r is = cc
found b t true (Some j) u r is =
    let fits : (tree_of j ≡ Some t) × (depth t ≤ 100) = shallow_is (tree_of j) t is in
    (j, (IsUtf8-from_is_utf8 b u, r), fits.0, fits.1)

-- what the function finds is the tree
pub tree_found : (b : List ℕ) (t : Tree) → json_tree b ≡ Some t → IsTree b t
tree_found b t is = found b t _ _ refl refl is

kept : (t : Tree) (u : Bool) → u ≡ true → (if u then Some t else None) ≡ Some t
kept t true h = refl
kept t false h = absurd (false≢true h)

again : (t : Tree) (j : json.Data) (u : Bool) (o : Option json.Data) → u ≡ true → o ≡ Some j → tree_of j ≡ Some t → depth t ≤ 100 → elim u [ false ↦ None | true ↦ shallow (option_and_then tree_of o) ] ≡ Some t
again t j false o u r v le = absurd (false≢true u)
again t j true None u r v le = cc
again t j true (Some i) u r v le =
    let same : i ≡ j = cc in
    ap shallow (ap tree_of same ∙ v) ∙ kept t _ (le-leb (depth t) 100 le)

-- the function finds the tree
pub found_tree : (b : List ℕ) (t : Tree) → IsTree b t → json_tree b ≡ Some t
found_tree b t h = again t h.0 _ _ (is_utf8-from_IsUtf8 b h.1.0) h.1.1 h.2 h.3
