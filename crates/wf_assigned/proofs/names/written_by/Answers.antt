use Rattle.std.proofs.Common.{◌≡◌, false, List, [], ◌∷◌, length, map, refl, sym, subst, ◌∙◌}
use Rattle.std.proofs.lemmas.Bool.{true≢false}
use Rattle.std.specs.Prelude.{◌==◌}
use Rattle.wf_assigned.proofs.names.written_by.Goals as goal
use Rattle.wf_assigned.specs.Edges.{plain_name}
use Rattle.wf_ast.specs.Tree as t
use Rattle.wf_ast.specs.Tree.{no_exprs, expr}
use Rattle.wf_ast.specs.View.{entry_view, expr_view, exprs_view}
use Rattle.wf_ast.specs.declared.entry.Entry.{Entry}
use Rattle.wf_ast.specs.declared.expr.Expr.{Expr}
use Rattle.wf_value.specs.Pairs.{Text}

abbrev plain_in : Text → t.Exprs → List Text
plain_in x es = elim es [ no_exprs ↦ x ∷ [] | expr k ks ↦ [] ]

-- a place below a name is no plain name
not_plain : (e : Entry) (items : List Expr) → map expr_view items ≡ exprs_view e.target.places → (length items == 0) ≡ false → [] ≡ plain_name (entry_view e)
not_plain e items same h = let none : List Text = [] in subst (λ es. none ≡ plain_in e.target.name (t.exprs es)) same (by items h)
  where
    by : (xs : List Expr) → (length xs == 0) ≡ false → [] ≡ plain_in e.target.name (t.exprs (map expr_view xs))
    by [] k = absurd (true≢false k)
    by (x ∷ xs) k = refl

pub returns-else-is_empty : goal.returns-else-is_empty
returns-else-is_empty c = c.new.ensures ∙ not_plain c.args.entry.now c.items.result.now c.items.ensures.view (sym c.is_empty.ensures ∙ c.if-is_empty.false)
