-- Bodies of steps and arms, loops, parallel steps and tries, from their fields.
use Rattle.std.proofs.Common.{◌≡◌, true, ◌∷◌, Option, Some, None, option_map, codes, sym, ◌∙◌, subst}
use Rattle.wf_ast.specs.Tree as t
use Rattle.wf_ast.specs.View.{template_view}
use Rattle.wf_ast.specs.declared.template.Template.{Template}
use Rattle.wf_syntax_rules.proofs.Faultless.{not_missing, unless_parts}
use Rattle.wf_syntax_rules.proofs.OneForm.{one_in_arm, one_in_step}
use Rattle.wf_syntax_rules.specs.Meaning.{IsBody, IsText, IsValue, Maybe}
use Rattle.wf_syntax_rules.specs.Rules.{Arm, Body, arm_fault, body_parts, step_fault}
use Rattle.wf_syntax_words.specs.Fields.{body_fields, has, has_only}
use Rattle.wf_syntax.proofs.Nodes.{map_sound}
use Rattle.wf_syntax.proofs.OneForm.{body_made}
use Rattle.wf_syntax.specs.Answers.{IsSoundAnd, AreSoundAnd}
use Rattle.wf_syntax.specs.Forms.{ArePartsOf, IsArm, IsStepBody, body_of}
use Rattle.wf_syntax.specs.declared.parts.Parts.{Parts}
use Rattle.wf_tree.specs.Trees.{Tree, map, Pairs}
use Rattle.wf_value.specs.Pairs.{Text}

step_body_is : (p : Parts) (fs : Pairs) (b : t.Body) (next : Option Text) → step_fault fs ≡ None → ArePartsOf p fs → b ≡ body_of p → next ≡ p.loops.next → IsStepBody b next (map fs)
step_body_is p fs b next e is made on =
    (subst (λ c. IsBody c fs) (sym made) (body_made p fs (one_in_step fs e) is), subst (λ n. Maybe n (codes "next") fs IsText) (sym on) is.loops.next)

pub step_body_given : (x : Tree) (p : Parts) (fs : Pairs) (b : t.Body) (next : Option Text) → x ≡ map fs → step_fault fs ≡ None → AreSoundAnd (body_parts fs) (ArePartsOf p fs) → b ≡ body_of p
    → next ≡ p.loops.next → IsSoundAnd Body x (IsStepBody b next x)
step_body_given x p fs b next is e g made on =
    (map_sound Body x fs is e (λ f z. z) g.0, subst (λ y. IsStepBody b next y) (sym is) (step_body_is p fs b next e g.1 made on))

-- an arm has a condition
condition_there : (fs : Pairs) → arm_fault fs ≡ None → has (codes "condition") fs ≡ true
condition_there fs e = (unless_parts (has (codes "condition") fs) _ _ (unless_parts (has_only (codes "condition" ∷ body_fields fs) fs) _ _ e).1).0

pub no_condition : (p : Parts) (fs : Pairs) (o : Option Template) → arm_fault fs ≡ None → ArePartsOf p fs → o ≡ p.calls.condition → o ≡ None → ⊥
no_condition p fs o e is same none =
    not_missing (codes "condition") fs (condition_there fs e) (subst (λ c. Maybe (option_map template_view c) (codes "condition") fs IsValue) (sym same ∙ none) is.calls.condition)

arm_is : (p : Parts) (fs : Pairs) (c : Template) (b : t.Body) (next : Option Text) → arm_fault fs ≡ None → ArePartsOf p fs → Some c ≡ p.calls.condition → b ≡ body_of p → next ≡ p.loops.next
    → IsArm (template_view c, b, next) (map fs)
arm_is p fs c b next e is same made on = (
  subst (λ o. Maybe (option_map template_view o) (codes "condition") fs IsValue) (sym same) is.calls.condition,
  subst (λ c. IsBody c fs) (sym made) (body_made p fs (one_in_arm fs e) is),
  subst (λ n. Maybe n (codes "next") fs IsText) (sym on) is.loops.next,
)

pub arm_given : (x : Tree) (p : Parts) (fs : Pairs) (c : Template) (b : t.Body) (next : Option Text) → x ≡ map fs → arm_fault fs ≡ None → AreSoundAnd (body_parts fs) (ArePartsOf p fs)
    → Some c ≡ p.calls.condition → b ≡ body_of p → next ≡ p.loops.next → IsSoundAnd Arm x (IsArm (template_view c, b, next) x)
arm_given x p fs c b next is e g same made on =
    (map_sound Arm x fs is e (λ f z. z) g.0, subst (λ y. IsArm (template_view c, b, next) y) (sym is) (arm_is p fs c b next e g.1 same made on))
