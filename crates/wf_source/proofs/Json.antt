-- What some JSON is as a source: its tree, or that it nests too deep.
use Rattle.std.proofs.Common.{◌≡◌, ℕ, List, if◌then◌else◌, Some, None, Ok, Err, ap, ◌∙◌}
use Rattle.std.proofs.lemmas.Bool.{le-leb, lt-leb}
use Rattle.wf_lemmas.proofs.Options.{none_unless}
use Rattle.serde_json.specs.Read.{read}
use Rattle.wf_source.specs.Sources.{json_tree, of_json, refused}
use Rattle.wf_status.specs.declared.RefusalKind.TheVariants as kind
use Rattle.wf_tree.specs.Decode.{shallow}
use Rattle.wf_tree.specs.Json.{IsTree, IsTooDeep, first_decimal}
use Rattle.wf_tree.specs.JsonLaws.{NoTwoHold}
use Rattle.wf_tree.specs.Trees.{Tree, depth}

pub tree_read : (s : List ℕ) (t : Tree) → NoTwoHold s → IsTree s t → of_json (read s) ≡ Ok t
tree_read s t laws (j, reads, is, le) =
    let none : first_decimal j ≡ None = none_unless (first_decimal j) (λ p at. laws.tree_or_decimal (t, (j, reads, is, le)) (p, (j, reads, at))) in
    ap of_json reads.1
    ∙ (λ i. json_tree (none i) (shallow (is i)))
    ∙ ap (λ b. json_tree None (if b then Some t else None)) (le-leb (depth t) 100 le)

pub too_deep : (s : List ℕ) → NoTwoHold s → IsTooDeep s → of_json (read s) ≡ Err (refused kind.TooDeep)
too_deep s laws (j, t, reads, is, gt) =
    let none : first_decimal j ≡ None = none_unless (first_decimal j) (λ p at. laws.decimal_or_too_deep (p, (j, reads, at)) (j, t, reads, is, gt)) in
    ap of_json reads.1
    ∙ (λ i. json_tree (none i) (shallow (is i)))
    ∙ ap (λ b. json_tree None (if b then Some t else None)) (lt-leb (depth t) 100 gt)
