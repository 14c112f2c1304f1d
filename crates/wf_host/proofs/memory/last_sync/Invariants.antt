use Rattle.std.proofs.Common.{◌≡◌, ◌≤◌, take, List, ℕ}
use Rattle.wf_host.specs.Memory.{content, stable}
use Rattle.wf_host.proofs.memory.last_sync.Given as goal

-- the last sync of the calls so far
abbrev pub invariant-loop-i : goal.invariant-loop-i
invariant-loop-i l = record {
  within : l.last ≤ l.i;
  stable_so_far : (first : List ℕ) → stable first first (take l.i l.past) ≡ content first (take l.last l.past);
}
