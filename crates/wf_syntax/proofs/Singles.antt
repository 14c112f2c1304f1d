-- Maps of one: steps and branches.
use Rattle.std.proofs.Common.{◌≡◌, true, false, [], Option, Some, None, refl, sym, ap, ◌∙◌, subst}
use Rattle.wf_ast.proofs.Views.{steps_level}
use Rattle.wf_ast.specs.Tree as t
use Rattle.wf_ast.specs.View.{steps_in, steps_view}
use Rattle.wf_ast.specs.declared.body.StepList.{StepList}
use Rattle.wf_syntax_rules.specs.Meaning.{IsStep}
use Rattle.wf_syntax_words.specs.Names.{is_step_name}
use Rattle.wf_syntax_rules.specs.Rules.{Block, Body, Branch, Step, demand, own, parts}
use Rattle.wf_syntax_words.specs.Fields.{single_of}
use Rattle.wf_syntax_rules.specs.declared.fault.SyntaxKind.TheVariants.{NotAStep}
use Rattle.wf_syntax.proofs.Nodes.{fails_part, map_fails, map_sound, own_fails}
use Rattle.wf_syntax.proofs.Targets.{single_is}
use Rattle.wf_syntax.specs.Answers.{Fails, IsSoundAnd}
use Rattle.wf_value.specs.Stops.{IsHere, IsOutside}
use Rattle.wf_syntax.specs.Forms.{IsBlock, IsBranch, IsStepBody}
use Rattle.wf_syntax_rules.specs.declared.fault.SyntaxKind.{SyntaxKind}
use Rattle.wf_value.specs.declared.stop.Stop.{Stop}
use Rattle.wf_tree.specs.Trees.{Tree, map, pair, no_pairs}
use Rattle.wf_value.specs.Pairs.{Text}
use Rattle.wf_value.specs.declared.path.PathPart.TheVariants.{Key}

-- ## Steps
no_step : (x : Tree) → None ≡ single_of x → own Step x ≡ Some NotAStep
no_step (map (pair k v no_pairs)) e = let z : ⊥ = cc in absurd z
no_step x e = refl

pub step_not_one : (x : Tree) (out : Stop SyntaxKind) → None ≡ single_of x → IsHere NotAStep out → Fails Step x out
step_not_one x out e o = own_fails Step x NotAStep out (no_step x e) o

pub step_misnamed : (x : Tree) (k : Text) (v : Tree) (out : Stop SyntaxKind) → Some (k, v) ≡ single_of x → is_step_name k ≡ false → IsHere NotAStep out → Fails Step x out
step_misnamed x k v out e name o = own_fails Step x NotAStep out (ap (own Step) (single_is x k v e) ∙ ap (λ b. demand b NotAStep) name) o

named_well : (k : Text) (v : Tree) → is_step_name k ≡ true → own Step (map (pair k v no_pairs)) ≡ None
named_well k v name = ap (λ b. demand b NotAStep) name

pub step_fails : (x : Tree) (k : Text) (v : Tree) (inner out : Stop SyntaxKind) → Some (k, v) ≡ single_of x → is_step_name k ≡ true → Fails Body v inner → IsOutside (Key k) inner out → Fails Step x out
step_fails x k v inner out e name h o =
    map_fails Step x (pair k v no_pairs) out (single_is x k v e) (named_well k v name)
    (fails_part (parts Step (map (pair k v no_pairs))) [] (record { part = Key k; role = Body; tree = v }) [] inner out refl tt h o)

pub step_given : (x : Tree) (k name : Text) (v : Tree) (b : t.Body) (next : Option Text) → Some (k, v) ≡ single_of x → is_step_name k ≡ true → name ≡ k → IsSoundAnd Body v (IsStepBody b next v)
    → IsSoundAnd Step x (IsStep (t.step name b next) x)
step_given x k name v b next e good is g = (
  map_sound Step x (pair k v no_pairs) (single_is x k v e) (named_well k v good) (λ f z. z) (g.0, tt),
  subst (λ y. IsStep (t.step name b next) y) (sym (single_is x k v e)) (is, g.1),
)

-- ## Branches
no_branch : (x : Tree) → None ≡ single_of x → own Branch x ≡ Some NotAStep
no_branch (map (pair k v no_pairs)) e = let z : ⊥ = cc in absurd z
no_branch x e = refl

pub branch_not_one : (x : Tree) (out : Stop SyntaxKind) → None ≡ single_of x → IsHere NotAStep out → Fails Branch x out
branch_not_one x out e o = own_fails Branch x NotAStep out (no_branch x e) o

pub branch_fails : (x : Tree) (k : Text) (v : Tree) (inner out : Stop SyntaxKind) → Some (k, v) ≡ single_of x → Fails Block v inner → IsOutside (Key k) inner out → Fails Branch x out
branch_fails x k v inner out e h o =
    map_fails Branch x (pair k v no_pairs) out (single_is x k v e) refl
    (fails_part (parts Branch (map (pair k v no_pairs))) [] (record { part = Key k; role = Block; tree = v }) [] inner out refl tt h o)

pub branch_given : (x : Tree) (k name : Text) (v : Tree) (ss : t.Steps) → Some (k, v) ≡ single_of x → name ≡ k → IsSoundAnd Block v (IsBlock ss v) → IsSoundAnd Branch x (IsBranch (name, ss) x)
branch_given x k name v ss e is g = (
  map_sound Branch x (pair k v no_pairs) (single_is x k v e) refl (λ f z. z) (g.0, tt),
  subst (λ y. IsBranch (name, ss) y) (sym (single_is x k v e)) (is, g.1),
)

pub branch_built : (x : Tree) (k name : Text) (v : Tree) (ss : StepList) (b : Text × t.Steps) → b ≡ (name, t.steps (steps_view ss)) → Some (k, v) ≡ single_of x → name ≡ k → IsSoundAnd Block v (IsBlock (steps_in ss) v)
    → IsSoundAnd Branch x (IsBranch b x)
branch_built x k name v ss b made e is g =
    subst (λ c. IsSoundAnd Branch x (IsBranch c x)) (sym (made ∙ ap (λ l. (name, l)) (sym (steps_level ss)))) (branch_given x k name v (steps_in ss) e is g)
