use Rattle.wf_several.proofs.Standing.{each_fits, first_standing, none_is_parent, one_fact, rises_view, standing_from}
use Rattle.wf_several.proofs.laws_of_standing.Goals as goal
use Rattle.wf_several.specs.Standing.{IsStanding-prop}

pub returns : goal.returns
returns c = record { one = one_fact; one_proof = IsStanding-prop; fits = each_fits; frames = standing_from; first = first_standing; numbers = rises_view; childless = none_is_parent }
