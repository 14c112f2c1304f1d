-- How many arms and branches there are, and how few nodes.
use Rattle.std.proofs.Common.{◌≡◌, ℕ, ◌<◌, Bool, true, false, List, [], ◌∷◌, Option, None, Some, Result, Ok, Err, length, map, suc, nat_le, refl, sym, ap, ◌∙◌, arith}
use Rattle.std.specs.Result.{OnOk}
use Rattle.std.proofs.lemmas.Bool.Decides.{nat_tests}
use Rattle.wf_ast.proofs.Views.{arms_level, branches_level}
use Rattle.wf_ast.specs.Accept.{arms_count, branches_count}
use Rattle.wf_ast.specs.Blocks.{at_if, first}
use Rattle.wf_ast.specs.Nodes.{Path}
use Rattle.wf_ast.specs.Tree as tree
use Rattle.wf_ast.specs.View.{arm_view, arms_in, arms_view, branch_view, branches_in, branches_view}
use Rattle.wf_ast.specs.declared.body.Arm.{Arm}
use Rattle.wf_ast.specs.declared.body.Arms.{Arms}
use Rattle.wf_ast.specs.declared.body.Branch.{Branch}
use Rattle.wf_ast.specs.declared.body.Branches.{Branches}
use Rattle.wf_diagnostics.specs.Answers.{IsRuleFault}
use Rattle.wf_diagnostics.specs.declared.kind.CheckKind.{CheckKind}
use Rattle.wf_value.specs.declared.stop.Stop.{Stop}
use Rattle.wf_diagnostics.specs.Said.{as_said}
use Rattle.wf_diagnostics.specs.declared.kind.CheckKind.TheVariants as kinds

arm_items : (xs : List Arm) → length xs ≡ arms_count (tree.arms (map arm_view xs))
arm_items [] = refl
arm_items (x ∷ xs) = ap suc (arm_items xs)

pub arms_counted : (xs : List Arm) (a : Arms) → map arm_view xs ≡ arms_view a → length xs ≡ arms_count (arms_in a)
arms_counted xs a e = arm_items xs ∙ ap arms_count (ap tree.arms e ∙ sym (arms_level a))

branch_items : (xs : List Branch) → length xs ≡ branches_count (tree.branches (map branch_view xs))
branch_items [] = refl
branch_items (x ∷ xs) = ap suc (branch_items xs)

pub branches_counted : (xs : List Branch) (b : Branches) → map branch_view xs ≡ branches_view b → length xs ≡ branches_count (branches_in b)
branches_counted xs b e = branch_items xs ∙ ap branches_count (ap tree.branches e ∙ sym (branches_level b))

not_spoken : (b : Bool) (path : Path) → as_said kinds.TooMany (at_if b path) ≡ None → b ≡ false
not_spoken false path h = refl
not_spoken true path h = cc

below_all : (n : ℕ) → nat_le 1000000 n ≡ false → n < 1000000
below_all n h = grind (arith, nat_tests)

pub few_of : (r : Result (Unit {0}) (Stop CheckKind)) (n : ℕ) → IsRuleFault r (λ path. as_said kinds.TooMany (at_if (nat_le 1000000 n) path)) → OnOk r (n < 1000000)
few_of (Ok u) n h = below_all n (not_spoken (nat_le 1000000 n) [] (h []))
few_of (Err s) n h = tt

pub path_alone : (o : Option Path) → o ≡ first (o ∷ [])
path_alone None = refl
path_alone (Some p) = refl
