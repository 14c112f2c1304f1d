-- Lists of steps, arms and branches, each item in its place.
use Rattle.std.proofs.Common.{List, [], ◌∷◌, Option, sym, subst}
use Rattle.wf_ast.proofs.Views.{arms_level, branches_level, steps_level}
use Rattle.wf_ast.specs.Tree as t
use Rattle.wf_ast.specs.View.{arms_in, arms_view, branches_in, branches_view, steps_in, steps_view}
use Rattle.wf_ast.specs.declared.body.Arms.{Arms}
use Rattle.wf_ast.specs.declared.body.Branches.{Branches}
use Rattle.wf_ast.specs.declared.body.StepList.{StepList}
use Rattle.wf_syntax_rules.specs.Meaning.{ArmsIn, BranchesIn, Each, IsStep, StepsIn}
use Rattle.wf_syntax.specs.Forms.{IsArm, IsBranch}
use Rattle.wf_tree.specs.Trees.{Items, no_items, item}
use Rattle.wf_value.specs.Pairs.{Text}

each_step : (ss : List t.Step) (xs : Items) → Each IsStep ss xs → StepsIn (t.steps ss) xs
each_step [] no_items h = tt
each_step [] (item x xs) h = absurd h
each_step (s ∷ ss) no_items h = absurd h
each_step (s ∷ ss) (item x xs) h = (h.0, each_step ss xs h.1)

each_arm : (ss : List (t.Template × t.Body × Option Text)) (xs : Items) → Each IsArm ss xs → ArmsIn (t.arms ss) xs
each_arm [] no_items h = tt
each_arm [] (item x xs) h = absurd h
each_arm (s ∷ ss) no_items h = absurd h
each_arm (s ∷ ss) (item x xs) h = (h.0, each_arm ss xs h.1)

each_branch : (ss : List (Text × t.Steps)) (xs : Items) → Each IsBranch ss xs → BranchesIn (t.branches ss) xs
each_branch [] no_items h = tt
each_branch [] (item x xs) h = absurd h
each_branch (s ∷ ss) no_items h = absurd h
each_branch (s ∷ ss) (item x xs) h = (h.0, each_branch ss xs h.1)

pub steps_are : (ss : StepList) (xs : Items) → Each IsStep (steps_view ss) xs → StepsIn (steps_in ss) xs
steps_are ss xs h = subst (λ l. StepsIn l xs) (sym (steps_level ss)) (each_step (steps_view ss) xs h)

pub arms_are : (ss : Arms) (xs : Items) → Each IsArm (arms_view ss) xs → ArmsIn (arms_in ss) xs
arms_are ss xs h = subst (λ l. ArmsIn l xs) (sym (arms_level ss)) (each_arm (arms_view ss) xs h)

pub branches_are : (ss : Branches) (xs : Items) → Each IsBranch (branches_view ss) xs → BranchesIn (branches_in ss) xs
branches_are ss xs h = subst (λ l. BranchesIn l xs) (sym (branches_level ss)) (each_branch (branches_view ss) xs h)
