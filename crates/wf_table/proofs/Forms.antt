-- What a form and its nodes are, in other words.
use Rattle.std.proofs.Common.{◌≡◌, ℕ, suc, ◌+◌, List, [], length, map, sym, ap, ◌∙◌, subst, None, arith}
use Rattle.wf_ast.proofs.Views.{branch_level, except_level, loop_level, steps_level}
use Rattle.wf_ast.specs.Tree as t
use Rattle.wf_ast.specs.View.{branch_view, except_view, loop_view, over_view, step_view, steps_in, steps_view}
use Rattle.wf_ast.specs.declared.body.Body.TheViews.{out-Branch, out-Except, out-LoopBody}
use Rattle.wf_ast.specs.declared.body.Branch.{Branch}
use Rattle.wf_ast.specs.declared.body.Except.{Except}
use Rattle.wf_ast.specs.declared.body.LoopBody.{LoopBody}
use Rattle.wf_ast.specs.declared.body.Step.{Step}
use Rattle.wf_ast.specs.declared.body.StepList.{StepList}
use Rattle.wf_table.proofs.Adding.{longer}
use Rattle.wf_table.proofs.Sizes.{step_long}
use Rattle.wf_model.specs.Compiles.{Compiles}
use Rattle.wf_model.specs.NodeKinds.{Kind, Repeated, Side}
use Rattle.wf_table.specs.Made.{Adds, body_for, loop_for, side_for}
use Rattle.wf_model.specs.Shapes.{Compiled}
use Rattle.wf_model.specs.Spots.{body_size, body_spots, loop_spots, step_spots, work_spots}
use Rattle.wf_model.specs.declared.node.Node.{Node}

pub formed : (a b : List Node) (p q : Compiled) (f : Compiled → Kind) (n : ℕ) (os : List ℕ) (x y : t.Body) → y ≡ x
    → Compiles p q f (body_for n (length os) x) → Adds a b (body_spots x n os) → Compiles p q f (body_for n (length os) y) × Adds a b (body_spots y n os)
formed a b p q f n os x y same h k = subst (λ (z : t.Body). Compiles p q f (body_for n (length os) z) × Adds a b (body_spots z n os)) (sym same) (h, k)

pub repeats : (a b : List Node) (p q : Compiled) (f : Compiled → Repeated) (n : ℕ) (x y : t.LoopBody) → y ≡ x
    → Compiles p q f (loop_for n x) → Adds a b (loop_spots x n) → Compiles p q f (loop_for n y) × Adds a b (loop_spots y n)
repeats a b p q f n x y same h k = subst (λ (z : t.LoopBody). Compiles p q f (loop_for n z) × Adds a b (loop_spots z n)) (sym same) (h, k)

pub works : (a b : List Node) (p q : Compiled) (f : Compiled → Side) (n : ℕ) (os : List ℕ) (x y : t.Work) → y ≡ x
    → Compiles p q f (side_for n x) → Adds a b (work_spots x n os) → Compiles p q f (side_for n y) × Adds a b (work_spots y n os)
works a b p q f n os x y same h k = subst (λ (z : t.Work). Compiles p q f (side_for n z) × Adds a b (work_spots z n os)) (sym same) (h, k)

-- ## One level of a form
pub steps_are : (list : StepList) (items : List Step) → map step_view items ≡ steps_view list → t.steps (map step_view items) ≡ steps_in list
steps_are list items same = ap t.steps same ∙ sym (steps_level list)

pub loop_is : (l : LoopBody) → loop_view l ≡ t.loop (out-LoopBody l).value (out-LoopBody l).index (over_view (out-LoopBody l).over) (steps_in (out-LoopBody l).steps)
loop_is l = loop_level l ∙ ap (t.loop (out-LoopBody l).value (out-LoopBody l).index (over_view (out-LoopBody l).over)) (sym (steps_level (out-LoopBody l).steps))

pub branch_is : (b : Branch) → branch_view b ≡ ((out-Branch b).name, steps_in (out-Branch b).steps)
branch_is b = branch_level b ∙ ap (λ (ss : t.Steps). ((out-Branch b).name, ss)) (sym (steps_level (out-Branch b).steps))

pub except_is : (x : Except) → except_view x ≡ t.except (out-Except x).name (steps_in (out-Except x).steps)
except_is x = except_level x ∙ ap (t.except (out-Except x).name) (sym (steps_level (out-Except x).steps))

-- behind the body of a `try`
pub behind : (a b : List Node) (n : ℕ) (x : t.Body) (os : List ℕ) → suc n ≡ length a → Adds a b (step_spots (t.step [] x None) (length a) os) → length b ≡ n + suc (suc (body_size x))
behind a b n x os at h =
    longer a b (step_spots (t.step [] x None) (length a) os) h
    ∙ ap (λ m. length a + m) (step_long (t.step [] x None) (length a) os)
    ∙ ap (λ m. m + suc (body_size x)) (sym at)
    ∙ (let e : suc n + suc (body_size x) ≡ n + suc (suc (body_size x)) = omega arith in e)
