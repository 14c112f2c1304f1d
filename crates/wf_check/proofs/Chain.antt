-- The rules one after another, and the forms behind them.
use Rattle.std.proofs.Common.{◌≡◌, ℕ, ◌<◌, List, [], ◌∷◌, ◌++◌, Option, Some, None, Result, Ok, Err, map, option_map, refl, sym, ◌∙◌, subst}
use Rattle.std.specs.Result.{OnOk}
use Rattle.wf_ast.specs.Accept.{Fault, Kind, as_fault, fault, rule_argument, rule_call, rule_many, rule_name, rule_shared, rule_write, rules}
use Rattle.wf_ast.specs.Blocks.{first, out_of_scope, outside_loop, rule_double, rule_empty, rule_next, rule_return, unknown_step}
use Rattle.wf_ast.specs.Nodes.{Around, NodePart, Path, node}
use Rattle.wf_ast.specs.Tree.{Flow}
use Rattle.wf_diagnostics.proofs.Told.{tells_as}
use Rattle.wf_diagnostics.specs.Answers.{IsRuleFault}
use Rattle.wf_check_expressions.specs.Forms.{not_yet}
use Rattle.wf_diagnostics.specs.Said.{Said, as_said}
use Rattle.wf_check.specs.Said.{kind_of, said, said_of}
use Rattle.wf_diagnostics.specs.declared.kind.CheckKind.TheVariants as kinds
use Rattle.wf_diagnostics.specs.declared.kind.CheckKind.{CheckKind}
use Rattle.wf_value.specs.declared.stop.Stop.{Stop}
use Rattle.wf_value.specs.HttpUrl.{first_of_two}
use Rattle.wf_value.specs.Pairs.{Text}

-- what each rule says of a node, and the forms
abbrev pub all_said : List Flow → ℕ → List Text → NodePart → Around → Path → List (Option Said)
all_said fs n e part a path =
    as_said kinds.EmptySteps (rule_empty part path)
    ∷ as_said kinds.DoubleStep (rule_double e part path)
    ∷ as_said kinds.UnknownStep (rule_next (unknown_step a) part path)
    ∷ as_said kinds.JumpOutOfScope (rule_next (out_of_scope a) part path)
    ∷ as_said kinds.BreakOutsideLoop (rule_next (outside_loop a.inside) part path)
    ∷ as_said kinds.ReturnInBranch (rule_return a part path)
    ∷ as_said kinds.UndeclaredWrite (rule_write a part path)
    ∷ as_said kinds.UnknownShared (rule_shared a part path)
    ∷ as_said kinds.UnknownName (rule_name a part path)
    ∷ as_said kinds.UnknownCall (rule_call fs part path)
    ∷ as_said kinds.BadArgument (rule_argument fs part path)
    ∷ as_said kinds.TooMany (rule_many n part path)
    ∷ as_said kinds.NotYet (not_yet fs part path) ∷ []

of_rule : (k : Kind) (o : Option Path) → option_map said_of (as_fault k o) ≡ as_said (kind_of k) o
of_rule k None = refl
of_rule k (Some p) = refl

of_rules : (os : List (Option Fault)) (q : Option Said) → first_of_two (option_map said_of (first os)) q ≡ first (map (option_map said_of) os ++ q ∷ [])
of_rules [] None = refl
of_rules [] (Some q) = refl
of_rules (None ∷ os) q = of_rules os q
of_rules (Some f ∷ os) q = refl

pub told : (fs : List Flow) (n : ℕ) (e : List Text) (part : NodePart) (a : Around) (path : Path) → first (all_said fs n e part a path) ≡ said fs n e (node part a path)
unfolding fault rules
told fs n e part a path = sym (of_rules (rules fs n e (node part a path)) (as_said kinds.NotYet (not_yet fs part path)) ∙ (λ i. first (
    of_rule Kind.EmptySteps (rule_empty part path) i
    ∷ of_rule Kind.DoubleStep (rule_double e part path) i
    ∷ of_rule Kind.UnknownStep (rule_next (unknown_step a) part path) i
    ∷ of_rule Kind.JumpOutOfScope (rule_next (out_of_scope a) part path) i
    ∷ of_rule Kind.BreakOutsideLoop (rule_next (outside_loop a.inside) part path) i
    ∷ of_rule Kind.ReturnInBranch (rule_return a part path) i
    ∷ of_rule Kind.UndeclaredWrite (rule_write a part path) i
    ∷ of_rule Kind.UnknownShared (rule_shared a part path) i
    ∷ of_rule Kind.UnknownName (rule_name a part path) i
    ∷ of_rule Kind.UnknownCall (rule_call fs part path) i
    ∷ of_rule Kind.BadArgument (rule_argument fs part path) i
    ∷ of_rule Kind.TooMany (rule_many n part path) i
    ∷ as_said kinds.NotYet (not_yet fs part path) ∷ [])))

pub all_of : (r : Result (Unit {0}) (Stop CheckKind)) (fs : List Flow) (n : ℕ) (e : List Text) (part : NodePart) (a : Around) → IsRuleFault r (λ path. first (all_said fs n e part a path)) → IsRuleFault r (λ path. said fs n e (node part a path))
all_of r fs n e part a h = tells_as r (λ path. first (all_said fs n e part a path)) (λ path. said fs n e (node part a path)) (λ path. told fs n e part a path) h

pub chained : (r : Result (Unit {0}) (Stop CheckKind)) (s : Stop CheckKind) (fs : List Flow) (n : ℕ) (e : List Text) (part : NodePart) (a : Around) → r ≡ Err s → IsRuleFault (Err s) (λ path. first (all_said fs n e part a path)) → IsRuleFault r (λ path. said fs n e (node part a path))
chained r s fs n e part a is h = subst (λ q. IsRuleFault q (λ path. said fs n e (node part a path))) (sym is) (all_of (Err s) fs n e part a h)

-- what holds anyway
pub holds_anyway : (r : Result (Unit {0}) (Stop CheckKind)) (n : ℕ) → n < 1000000 → OnOk r (n < 1000000)
holds_anyway (Ok u) n h = h
holds_anyway (Err s) n h = tt
