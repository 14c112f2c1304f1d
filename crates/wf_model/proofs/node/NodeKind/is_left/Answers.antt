use Rattle.std.proofs.Common.{sym, ap}
use Rattle.wf_model.proofs.node.NodeKind.is_left.Goals as goal
use Rattle.wf_model.specs.NodeKinds.{kind_by, is_left}

pub returns-in-Flow : goal.returns-in-Flow
returns-in-Flow c = λ cs. sym (ap (λ k. is_left (kind_by cs k)) c.in-Flow.is)

pub returns-in-Nothing : goal.returns-in-Nothing
returns-in-Nothing c = λ cs. sym (ap (λ k. is_left (kind_by cs k)) c.in-Nothing.is)

pub returns-in-Assign : goal.returns-in-Assign
returns-in-Assign c = λ cs. sym (ap (λ k. is_left (kind_by cs k)) c.in-Assign.is)

pub returns-in-Call : goal.returns-in-Call
returns-in-Call c = λ cs. sym (ap (λ k. is_left (kind_by cs k)) c.in-Call.is)

pub returns-in-Switch : goal.returns-in-Switch
returns-in-Switch c = λ cs. sym (ap (λ k. is_left (kind_by cs k)) c.in-Switch.is)

pub returns-in-For : goal.returns-in-For
returns-in-For c = λ cs. sym (ap (λ k. is_left (kind_by cs k)) c.in-For.is)

pub returns-in-Parallel : goal.returns-in-Parallel
returns-in-Parallel c = λ cs. sym (ap (λ k. is_left (kind_by cs k)) c.in-Parallel.is)

pub returns-in-Block : goal.returns-in-Block
returns-in-Block c = λ cs. sym (ap (λ k. is_left (kind_by cs k)) c.in-Block.is)

pub returns-in-Try : goal.returns-in-Try
returns-in-Try c = λ cs. sym (ap (λ k. is_left (kind_by cs k)) c.in-Try.is)

pub returns-in-Raise : goal.returns-in-Raise
returns-in-Raise c = λ cs. sym (ap (λ k. is_left (kind_by cs k)) c.in-Raise.is)

pub returns-in-Return : goal.returns-in-Return
returns-in-Return c = λ cs. sym (ap (λ k. is_left (kind_by cs k)) c.in-Return.is)

pub returns-in-Arm : goal.returns-in-Arm
returns-in-Arm c = λ cs. sym (ap (λ k. is_left (kind_by cs k)) c.in-Arm.is)

pub returns-in-Entry : goal.returns-in-Entry
returns-in-Entry c = λ cs. sym (ap (λ k. is_left (kind_by cs k)) c.in-Entry.is)

pub returns-in-Branch : goal.returns-in-Branch
returns-in-Branch c = λ cs. sym (ap (λ k. is_left (kind_by cs k)) c.in-Branch.is)
