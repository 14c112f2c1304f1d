-- Sleeps.
use Rattle.std.specs.Prelude.{ℕ, codes}
use Rattle.wf_model.specs.Calls.{sleep_due, until_due}
use Rattle.wf_frames.specs.declared.target.Nap.{Nap}
use Rattle.wf_frames.specs.declared.target.Nap.TheVariants as nap
use Rattle.wf_value.specs.Data.{Pairs}
use Rattle.wf_value.specs.Errors.{Answer}
use Rattle.wf_value.specs.Pairs.{get}

-- when a sleep ends that begins at a reading, by its arguments
abbrev pub nap_due : Nap → ℕ → Pairs → Answer ℕ
nap_due nap.For now args = sleep_due now args
nap_due nap.Until now args = until_due (get (codes "time") args)
