-- Entries of assigns: the value, and then the places.
use Rattle.std.proofs.Common.{List, map, Ok, Err, ap, ◌∙◌}
use Rattle.wf_eval.specs.Answers.{Answers}
use Rattle.wf_frames.specs.Assigned.{values_of}
use Rattle.wf_frames.specs.declared.assigned.Assigned as declared
use Rattle.wf_value.specs.Data.{Data}
use Rattle.wf_value.specs.Errors.{Answer, ◌>>=◌}
use Rattle.wf_value.specs.Plain.{plain}

pub both_given : (a : declared.Assigned) (d : Answer Data) (ds : Answer (List Data)) → Answers plain (Ok a.value) d → Answers (λ vs. map plain vs.items) (Ok a.places) ds → Answers values_of (Ok a) (d >>= λ x. ds >>= λ ys. Ok (x, ys))
both_given a (Err t) ds p q = absurd p
both_given a (Ok x) (Err t) p q = absurd q
both_given a (Ok x) (Ok ys) p q = ap (λ (y : Data). (y, map plain a.places.items)) p ∙ ap (λ (zs : List Data). (x, zs)) q
