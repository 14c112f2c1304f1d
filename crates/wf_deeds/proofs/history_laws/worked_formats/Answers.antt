use Rattle.std.proofs.Common.{refl}
use Rattle.wf_deeds.proofs.history_laws.worked_formats.Goals as goal

pub returns : goal.returns
returns c = record {
  turns_of_the_first_format = refl;
  snapshot_behind_a_turn = refl;
  raised_reading_is_none = refl;
  snapshot_of_other_waits = refl;
  snapshot_behind_the_start = refl;
  two_snapshots = refl;
  snapshot_behind_an_upgrade = refl;
  raised_reading_plays = refl;
  upgrade_before_packed_turns = refl;
  both_formats = refl;
  packed_without_upgrade = refl;
  turn_behind_the_upgrade = refl;
  two_upgrades = refl;
  packed_under_the_second = refl;
  turn_under_the_second = refl;
  upgrade_under_the_second = refl;
  start_behind_the_first = refl;
  rules_that_may_not_stand = refl;
  rules_that_may_stand = refl;
  session_past_its_record = refl;
  session_of_nought = refl;
  waits_that_fall = refl;
  cancelling_is_an_event = refl;
  nothing_behind_cancelling = refl;
}
