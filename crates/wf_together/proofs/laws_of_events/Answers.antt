use Rattle.wf_together.proofs.Steps.{answer_comes, answer_stops, due_comes, others_never_come, step_comes, step_stops}
use Rattle.wf_together.proofs.laws_of_events.Goals as goal

pub returns : goal.returns
returns c = record { step = step_comes; stopped = step_stops; answer = answer_comes; flooded = answer_stops; due = due_comes; never = others_never_come }
