-- Empty lists, and names of branches, as the code holds them.
use Rattle.std.proofs.Common.{◌≡◌, ◌==◌, ◌||◌, ℕ, ◌+◌, ◌<◌, Bool, true, false, [], ◌∷◌, List, codes, length, drop, get_or, map, reverse, refl, sym, ap, ◌∙◌, bytes_eq}
use Rattle.std.proofs.Math.Dec.{eqb-suc-zero}
use Rattle.std.proofs.lemmas.List.{reverse-append}
use Rattle.std.proofs.lemmas.List.Folds.{list_any-append}
use Rattle.wf_lemmas.proofs.Lists.{item_at}
use Rattle.wf_ast.proofs.Views.{branches_level, loop_level, steps_level}
use Rattle.wf_ast.specs.Blocks.{at_if, has_no_steps, loop_empty, work_empty}
use Rattle.wf_ast.specs.Nodes.{Path, below}
use Rattle.wf_ast.specs.Tree as tree
use Rattle.wf_ast.specs.View.{branch_view, branches_in, branches_view, loop_view, step_view, steps_in}
use Rattle.wf_ast.specs.declared.body.Body.TheViews.{out-Branch, out-LoopBody}
use Rattle.wf_ast.specs.declared.body.Branch.{Branch}
use Rattle.wf_ast.specs.declared.body.Branches.{Branches}
use Rattle.wf_ast.specs.declared.body.LoopBody.{LoopBody}
use Rattle.wf_ast.specs.declared.body.Step.{Step}
use Rattle.wf_symbols.proofs.Bodies.{branch_named}
use Rattle.wf_value.specs.HttpRequest.{is_among}
use Rattle.wf_value.specs.Pairs.{Text}

pub none_there : (xs : List Step) → has_no_steps (tree.steps (map step_view xs)) ≡ (length xs == 0)
none_there [] = refl
none_there (x ∷ xs) = sym (eqb-suc-zero (length xs))

no_branches : (xs : List Branch) (path : Path) → at_if (length xs == 0) (below path (codes "branches")) ≡ work_empty (tree.OfBranches (tree.branches (map branch_view xs))) path
no_branches [] path = refl
no_branches (x ∷ xs) path = ap (λ b. at_if b (below path (codes "branches"))) (eqb-suc-zero (length xs))

pub branches_empty : (xs : List Branch) (bs : Branches) (b : Bool) (path : Path) → map branch_view xs ≡ branches_view bs → b ≡ (length xs == 0) → at_if b (below path (codes "branches")) ≡ work_empty (tree.OfBranches (branches_in bs)) path
branches_empty xs bs b path e is =
    ap (λ c. at_if c (below path (codes "branches"))) is ∙ no_branches xs path ∙ ap (λ l. work_empty (tree.OfBranches l) path) (ap tree.branches e ∙ sym (branches_level bs))

pub looped_empty : (l : LoopBody) (b : Bool) (path : Path) → b ≡ has_no_steps (steps_in (out-LoopBody l).steps) → at_if b (below path (codes "steps")) ≡ loop_empty (loop_view l) path
looped_empty l b path is =
    ap (λ c. at_if c (below path (codes "steps"))) (is ∙ ap has_no_steps (steps_level (out-LoopBody l).steps)) ∙ sym (ap (λ v. loop_empty v path) (loop_level l))

or_last : (p q : Bool) → (p || (q || false)) ≡ (q || p)
or_last true true = refl
or_last true false = refl
or_last false true = refl
or_last false false = refl

pub among_reverse : (x : Text) (xs : List Text) → is_among x (reverse xs) ≡ is_among x xs
among_reverse x [] = refl
among_reverse x (y ∷ ys) =
    ap (is_among x) (reverse-append (y ∷ []) ys) ∙ list_any-append (bytes_eq x) (reverse ys) (y ∷ [])
    ∙ ap (λ p. p || (bytes_eq x y || false)) (among_reverse x ys) ∙ or_last (is_among x ys) (bytes_eq x y)

pub named_next : (x : Text) (bs : List Branch) (i : ℕ) (b : Branch) (n : Text) (r : Bool) → i < length bs → b ≡ get_or bs i b → n ≡ (out-Branch b).name → r ≡ bytes_eq x n
    → is_among x (map (λ y. (branch_view y).0) (drop i bs)) ≡ (r || is_among x (map (λ y. (branch_view y).0) (drop (i + 1) bs)))
named_next x bs i b n r lt is e f =
    ap (λ l. is_among x (map (λ y. (branch_view y).0) l)) (item_at bs i b lt is)
    ∙ ap (λ p. p || is_among x (map (λ y. (branch_view y).0) (drop (i + 1) bs))) (ap (bytes_eq x) (sym (e ∙ branch_named b)) ∙ sym f)
