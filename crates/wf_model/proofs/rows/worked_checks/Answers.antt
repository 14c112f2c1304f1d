use Rattle.std.proofs.Common.{refl}
use Rattle.wf_ast.specs.Accept.{fault, first_fault, rules}
use Rattle.wf_ast.specs.Nodes.{nodes}
use Rattle.wf_model.proofs.rows.worked_checks.Goals as goal

pub returns-clause-collecting_is_accepted : goal.returns-clause-collecting_is_accepted
unfolding first_fault fault rules nodes
returns-clause-collecting_is_accepted c = refl

pub returns-clause-fetching_is_accepted : goal.returns-clause-fetching_is_accepted
unfolding first_fault fault rules nodes
returns-clause-fetching_is_accepted c = refl

pub returns-clause-asking_is_accepted : goal.returns-clause-asking_is_accepted
unfolding first_fault fault rules nodes
returns-clause-asking_is_accepted c = refl

pub returns-clause-parallel_loop_is_accepted : goal.returns-clause-parallel_loop_is_accepted
unfolding first_fault fault rules nodes
returns-clause-parallel_loop_is_accepted c = refl

pub returns-clause-unknown_name_is_a_fault : goal.returns-clause-unknown_name_is_a_fault
unfolding first_fault fault rules nodes
returns-clause-unknown_name_is_a_fault c = refl

pub returns-clause-log_of_two_is_a_fault : goal.returns-clause-log_of_two_is_a_fault
unfolding first_fault fault rules nodes
returns-clause-log_of_two_is_a_fault c = refl

pub returns-clause-no_steps_are_a_fault : goal.returns-clause-no_steps_are_a_fault
unfolding first_fault fault rules nodes
returns-clause-no_steps_are_a_fault c = refl

pub returns-clause-undeclared_write_is_a_fault : goal.returns-clause-undeclared_write_is_a_fault
unfolding first_fault fault rules nodes
returns-clause-undeclared_write_is_a_fault c = refl

pub returns-clause-shared_write_is_accepted : goal.returns-clause-shared_write_is_accepted
unfolding first_fault fault rules nodes
returns-clause-shared_write_is_accepted c = refl

pub returns-clause-new_name_is_accepted : goal.returns-clause-new_name_is_accepted
unfolding first_fault fault rules nodes
returns-clause-new_name_is_accepted c = refl

pub returns-clause-double_step_is_a_fault : goal.returns-clause-double_step_is_a_fault
unfolding first_fault fault rules nodes
returns-clause-double_step_is_a_fault c = refl

pub returns-clause-unknown_step_is_a_fault : goal.returns-clause-unknown_step_is_a_fault
unfolding first_fault fault rules nodes
returns-clause-unknown_step_is_a_fault c = refl

pub returns-clause-jump_out_of_a_loop_is_a_fault : goal.returns-clause-jump_out_of_a_loop_is_a_fault
unfolding first_fault fault rules nodes
returns-clause-jump_out_of_a_loop_is_a_fault c = refl

pub returns-clause-break_outside_a_loop_is_a_fault : goal.returns-clause-break_outside_a_loop_is_a_fault
unfolding first_fault fault rules nodes
returns-clause-break_outside_a_loop_is_a_fault c = refl

pub returns-clause-return_in_a_branch_is_a_fault : goal.returns-clause-return_in_a_branch_is_a_fault
unfolding first_fault fault rules nodes
returns-clause-return_in_a_branch_is_a_fault c = refl

pub returns-clause-unknown_shared_is_a_fault : goal.returns-clause-unknown_shared_is_a_fault
unfolding first_fault fault rules nodes
returns-clause-unknown_shared_is_a_fault c = refl

pub returns-clause-unknown_call_is_a_fault : goal.returns-clause-unknown_call_is_a_fault
unfolding first_fault fault rules nodes
returns-clause-unknown_call_is_a_fault c = refl

pub returns-clause-fifty_entries_are_accepted : goal.returns-clause-fifty_entries_are_accepted
unfolding first_fault fault rules nodes
returns-clause-fifty_entries_are_accepted c = refl

pub returns-clause-one_entry_more_is_a_fault : goal.returns-clause-one_entry_more_is_a_fault
unfolding first_fault fault rules nodes
returns-clause-one_entry_more_is_a_fault c = refl
