-- The worked examples hold: at each place the part is the first.
use Rattle.std.proofs.Common.{[], refl}
use Rattle.wf_syntax_rules.specs.Rows.{WorkedFaults}

pub worked_faults : WorkedFaults
worked_faults = record {
  empty = refl;
  no_main = refl;
  no_steps = (refl, [], _, _, refl, tt, refl, refl);
  unknown_in_flow = (refl, [], _, _, refl, tt, refl, refl);
  name_of_flow = (refl, [], _, _, refl, tt, refl, refl);
  number_for_a_step = (refl, [], _, _, refl, tt, refl, (refl, [], _, _, refl, tt, refl, (refl, [], _, _, refl, tt, refl, refl)));
  two_keys = (refl, [], _, _, refl, tt, refl, (refl, [], _, _, refl, tt, refl, (refl, [], _, _, refl, tt, refl, refl)));
  end_for_a_name = (refl, [], _, _, refl, tt, refl, (refl, [], _, _, refl, tt, refl, (refl, [], _, _, refl, tt, refl, refl)));
  null_for_a_body = (refl, [], _, _, refl, tt, refl, (refl, [], _, _, refl, tt, refl, (refl, [], _, _, refl, tt, refl, (refl, [], _, _, refl, tt, refl, refl))));
  no_body = (refl, [], _, _, refl, tt, refl, (refl, [], _, _, refl, tt, refl, (refl, [], _, _, refl, tt, refl, (refl, [], _, _, refl, tt, refl, refl))));
  next_beside_return = (refl, [], _, _, refl, tt, refl, (refl, [], _, _, refl, tt, refl, (refl, [], _, _, refl, tt, refl, (refl, [], _, _, refl, tt, refl, refl))));
  two_forms = (refl, [], _, _, refl, tt, refl, (refl, [], _, _, refl, tt, refl, (refl, [], _, _, refl, tt, refl, (refl, [], _, _, refl, tt, refl, refl))));
  args_alone = (refl, [], _, _, refl, tt, refl, (refl, [], _, _, refl, tt, refl, (refl, [], _, _, refl, tt, refl, (refl, [], _, _, refl, tt, refl, refl))));
  result_of_a_number = (refl, [], _, _, refl, tt, refl, (refl, [], _, _, refl, tt, refl, (refl, [], _, _, refl, tt, refl, (refl, [], _, _, refl, tt, refl, (refl, [], _, _, refl, tt, refl, refl)))));
  decimal_in_a_value = (refl, [], _, _, refl, tt, refl, (refl, [], _, _, refl, tt, refl, (refl, [], _, _, refl, tt, refl, (refl, [], _, _, refl, tt, refl, (refl, [], _, _, refl, tt, refl, (refl, [], _, _, refl, tt, refl, refl))))));
  arm_without_condition = (refl, [], _, _, refl, tt, refl, (refl, [], _, _, refl, tt, refl, (refl, [], _, _, refl, tt, refl, (refl, [], _, _, refl, tt, refl, (refl, [], _, _, refl, tt, refl, (refl, [], _, _, refl, tt, refl, refl))))));
  two_ranges = (refl, [], _, _, refl, tt, refl, (refl, [], _, _, refl, tt, refl, (refl, [], _, _, refl, tt, refl, (refl, [], _, _, refl, tt, refl, (refl, [], _, _, refl, tt, refl, refl)))));
  loop_over_nothing = (refl, [], _, _, refl, tt, refl, (refl, [], _, _, refl, tt, refl, (refl, [], _, _, refl, tt, refl, (refl, [], _, _, refl, tt, refl, (refl, [], _, _, refl, tt, refl, refl)))));
  no_branches = (refl, [], _, _, refl, tt, refl, (refl, [], _, _, refl, tt, refl, (refl, [], _, _, refl, tt, refl, (refl, [], _, _, refl, tt, refl, (refl, [], _, _, refl, tt, refl, refl)))));
  limit_of_none = (refl, [], _, _, refl, tt, refl, (refl, [], _, _, refl, tt, refl, (refl, [], _, _, refl, tt, refl, (refl, [], _, _, refl, tt, refl, (refl, [], _, _, refl, tt, refl, (refl, [], _, _, refl, tt, refl, refl))))));
  branch_without_a_name = (refl, [], _, _, refl, tt, refl, (refl, [], _, _, refl, tt, refl, (refl, [], _, _, refl, tt, refl, (refl, [], _, _, refl, tt, refl, (refl, [], _, _, refl, tt, refl, (refl, [], _, _, refl, tt, refl, (refl, [], _, _, refl, tt, refl, refl)))))));
  empty_try = (refl, [], _, _, refl, tt, refl, (refl, [], _, _, refl, tt, refl, (refl, [], _, _, refl, tt, refl, (refl, [], _, _, refl, tt, refl, (refl, [], _, _, refl, tt, refl, refl)))));
  next_in_a_try = (refl, [], _, _, refl, tt, refl, (refl, [], _, _, refl, tt, refl, (refl, [], _, _, refl, tt, refl, (refl, [], _, _, refl, tt, refl, (refl, [], _, _, refl, tt, refl, refl)))));
  except_before_try = (refl, [], _, _, refl, tt, refl, (refl, [], _, _, refl, tt, refl, (refl, [], _, _, refl, tt, refl, (refl, [], _, _, refl, tt, refl, (refl, [], _, _, refl, tt, refl, refl)))));
  marked_with_a_blank = (refl, [], _, _, refl, tt, refl, (refl, [], _, _, refl, tt, refl, (refl, [], _, _, refl, tt, refl, (refl, [], _, _, refl, tt, refl, (refl, [], _, _, refl, tt, refl, refl)))));
  delay_past_a_year = (refl, [], _, _, refl, tt, refl, (refl, [], _, _, refl, tt, refl, (refl, [], _, _, refl, tt, refl, (refl, [], _, _, refl, tt, refl, (refl, [], _, _, refl, tt, refl, (refl, [], _, _, refl, tt, refl, (refl, [], _, _, refl, tt, refl, refl)))))));
}
