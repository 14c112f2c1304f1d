use Rattle.std.proofs.Common.{◌≡◌, Result, Ok, IfOk, IfErr, subst, sym}
use Rattle.wf_source.proofs.Contents.{of_text, bad}
use Rattle.wf_source.specs.Views.{IsErrorOf}
use Rattle.wf_status.specs.declared.Refusal.{Refusal}
use Rattle.wf_tree.specs.Plain.{plain_tree}
use Rattle.wf_tree.specs.Trees.{Tree}
use Rattle.wf_source.proofs.tree.content_tree.Goals as goal

pub returns-in-Ok-clause-tree : goal.returns-in-Ok-clause-tree
returns-in-Ok-clause-tree c =
    subst (λ (r : Result Tree Refusal). IfOk c.text_tree.result (λ t. r ≡ Ok (plain_tree t)))
    (sym (of_text c.args.content.now c.in-Ok.text.now c.in-Ok.ensures.cases.0 c.in-Ok.ensures.cases.1)) c.text_tree.ensures.tree

pub returns-in-Ok-clause-fault : goal.returns-in-Ok-clause-fault
returns-in-Ok-clause-fault c =
    subst (λ (r : Result Tree Refusal). IfErr c.text_tree.result (IsErrorOf r))
    (sym (of_text c.args.content.now c.in-Ok.text.now c.in-Ok.ensures.cases.0 c.in-Ok.ensures.cases.1)) c.text_tree.ensures.fault

pub returns-in-Err-clause-fault : goal.returns-in-Err-clause-fault
returns-in-Err-clause-fault c = subst (IsErrorOf _) (sym c.refused.ensures) (bad c.args.content.now c.in-Err.ensures.cases.0)
