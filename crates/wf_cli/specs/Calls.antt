-- A call of the top function, by what it is given and what it gives.
use Rattle.std.specs.Prelude.{ℕ, List}
use Rattle.wf_cli.specs.Top.{Call}
use Rattle.wf_engine.specs.Safe.{scene}
use Rattle.wf_host.specs.Source.{Rest}
use Rattle.wf_host.specs.World.{World, Faults}
use Rattle.wf_status.specs.declared.Status.{Status}

-- the words, what the source has left, the host before and behind the call, the counts of faults of both, and the status
abbrev pub called : List (List ℕ) → Rest → World → World → ℕ → ℕ → Faults → Faults → Status → Call
called words source old new reads reads2 faults faults2 st = record {
  scene = scene words source old;
  old = old;
  new = new;
  reads_old = reads;
  reads_new = reads2;
  faults_old = faults;
  faults_new = faults2;
  status = st;
}
