-- The first expression that reads a name of no visible layer is the first such read.
use Rattle.std.proofs.Common.{◌≡◌, ℕ, suc, Bool, true, false, not, ◌&&◌, List, [], ◌∷◌, ◌++◌, Option, Some, None, map, codes, if◌then◌else◌, refl, sym, ap, ◌∙◌}
use Rattle.std.specs.List.{list_all}
use Rattle.std.proofs.lemmas.List.Folds.{list_all-append}
use Rattle.wf_ast.specs.Accept.{first_unseen, is_visible}
use Rattle.wf_ast.specs.Blocks.{at_if}
use Rattle.wf_ast.specs.Nodes.{Names, NodePart, FlowPart, StepPart, ArmPart, BodyPart, EntryPart, BranchPart, Path, below, nth}
use Rattle.wf_ast.specs.Reads.{all_read, body_reads, expr_reads, exprs_read, fields_read, over_reads, part_reads, parts_read, reads, reads_at}
use Rattle.wf_ast.specs.Tree.{Body, Expr, Exprs, no_exprs, expr, Part, Said, Hole, Template, Scalar, Whole, Joined, Listed, Mapped, Templates, no_templates, template, templates, Fields, no_fields, field, Over, InList, InRange, loop, parallel, OfBranches, OfLoop}
use Rattle.wf_check_expressions.specs.Expressions.{are_fine, body_failing, failing, fields_failing, is_part_fine, items_failing, over_failing, part_failing}
use Rattle.wf_check_expressions.specs.Tests.{sees}
use Rattle.wf_value.specs.Data.{Data}
use Rattle.wf_value.specs.HttpUrl.{first_of_two}
use Rattle.wf_value.specs.Pairs.{Text}

-- literals read no name
pub literals_pass : (fine : Expr → Bool) (ds : List Data) (path : Path) (i : ℕ) → items_failing fine (templates (map Scalar ds)) path i ≡ None
literals_pass fine [] path i = refl
literals_pass fine (d ∷ ds) path i = literals_pass fine ds path (suc i)

cases : (b : Bool) (p : Path) (all some rest : Option Path) → all ≡ first_of_two some rest → (if b then all else Some p) ≡ first_of_two (if b then some else Some p) rest
cases true p all some rest h = h
cases false p all some rest h = refl

unseen_append : (ls : List Names) (xs ys : List (Path × Text)) → first_unseen ls (xs ++ ys) ≡ first_of_two (first_unseen ls xs) (first_unseen ls ys)
unseen_append ls [] ys = refl
unseen_append ls (r ∷ rs) ys = cases (is_visible r.1 ls) r.0 (first_unseen ls (rs ++ ys)) (first_unseen ls rs) (first_unseen ls ys) (unseen_append ls rs ys)

told_or : (b : Bool) (c : Bool) (path : Path) → (if b then at_if (not c) path else Some path) ≡ at_if (not (b && c)) path
told_or true c path = refl
told_or false c path = refl

all_or_one : (ls : List Names) (path : Path) (xs : List Text) → first_unseen ls (reads_at path xs) ≡ at_if (not (list_all (λ x. is_visible x ls) xs)) path
all_or_one ls path [] = refl
all_or_one ls path (x ∷ xs) = ap (λ o. if is_visible x ls then o else Some path) (all_or_one ls path xs) ∙ told_or (is_visible x ls) (list_all (λ y. is_visible y ls) xs) path

module _ (ls : List Names) where
  exprs_seen : (es : Exprs) → are_fine (sees ls) es ≡ list_all (λ x. is_visible x ls) (exprs_read es)
  exprs_seen no_exprs = refl
  exprs_seen (expr e es) =
      ap (λ b. sees ls e && b) (exprs_seen es) ∙ sym (list_all-append (λ x. is_visible x ls) (expr_reads e) (exprs_read es))

  parts_seen : (ps : List Part) → list_all (is_part_fine (sees ls)) ps ≡ list_all (λ x. is_visible x ls) (parts_read ps)
  parts_seen [] = refl
  parts_seen (Said t ∷ ps) = parts_seen ps
  parts_seen (Hole e ∷ ps) =
      ap (λ b. sees ls e && b) (parts_seen ps) ∙ sym (list_all-append (λ x. is_visible x ls) (expr_reads e) (parts_read ps))

  mutual
    template_seen : (t : Template) (path : Path) → failing (sees ls) t path ≡ first_unseen ls (reads t path)
    template_seen (Scalar v) path = refl
    template_seen (Whole e) path = sym (all_or_one ls path (expr_reads e))
    template_seen (Joined ps) path = ap (λ b. at_if (not b) path) (parts_seen ps) ∙ sym (all_or_one ls path (parts_read ps))
    template_seen (Listed ts) path = items_seen ts path 0
    template_seen (Mapped fs) path = fields_seen fs path

    items_seen : (ts : Templates) (path : Path) (i : ℕ) → items_failing (sees ls) ts path i ≡ first_unseen ls (all_read ts path i)
    items_seen no_templates path i = refl
    items_seen (template t ts) path i =
        (λ j. first_of_two (template_seen t (nth path i) j) (items_seen ts path (suc i) j)) ∙ sym (unseen_append ls (reads t (nth path i)) (all_read ts path (suc i)))

    fields_seen : (fs : Fields) (path : Path) → fields_failing (sees ls) fs path ≡ first_unseen ls (fields_read fs path)
    fields_seen no_fields path = refl
    fields_seen (field k t fs) path =
        (λ j. first_of_two (template_seen t (below path k) j) (fields_seen fs path j)) ∙ sym (unseen_append ls (reads t (below path k)) (fields_read fs path))

  over_seen : (o : Over) (path : Path) → over_failing (sees ls) o path ≡ first_unseen ls (over_reads o path)
  over_seen (InList t) path = template_seen t (below path (codes "in"))
  over_seen (InRange t u) path =
      let p = nth (below path (codes "range")) 0 in
      let q = nth (below path (codes "range")) 1 in
      (λ j. first_of_two (template_seen t p j) (template_seen u q j)) ∙ sym (unseen_append ls (reads t p) (reads u q))

  body_seen : (b : Body) (path : Path) → body_failing (sees ls) b path ≡ first_unseen ls (body_reads b path)
  body_seen Body.Nothing path = refl
  body_seen (Body.Assign es) path = refl
  body_seen (Body.Call f) path = fields_seen f.args (below path (codes "args"))
  body_seen (Body.Switch arms) path = refl
  body_seen (Body.For (loop x i o ss)) path = over_seen o (below path (codes "for"))
  body_seen (Body.Parallel (parallel shared limit (OfBranches bs))) path = refl
  body_seen (Body.Parallel (parallel shared limit (OfLoop (loop x i o ss)))) path = over_seen o (below (below path (codes "parallel")) (codes "for"))
  body_seen (Body.Block ss) path = refl
  body_seen (Body.Try t) path = refl
  body_seen (Body.Raise t) path = template_seen t (below path (codes "raise"))
  body_seen (Body.Return t) path = template_seen t (below path (codes "return"))

  pub part_seen : (part : NodePart) (path : Path) → part_failing (sees ls) part path ≡ first_unseen ls (part_reads part path)
  part_seen (FlowPart f) path = refl
  part_seen (StepPart x body next) path = body_seen body path
  part_seen (ArmPart t next) path = template_seen t (below path (codes "condition"))
  part_seen (BodyPart body) path = body_seen body path
  part_seen (EntryPart e) path =
      (λ j. first_of_two ((ap (λ b. at_if (not b) path) (exprs_seen e.target.places) ∙ sym (all_or_one ls path (exprs_read e.target.places))) j) (template_seen e.value path j))
      ∙ sym (unseen_append ls (reads_at path (exprs_read e.target.places)) (reads e.value path))
  part_seen (BranchPart before x ss) path = refl
