use Rattle.std.proofs.Common.{◌≡◌, ◌≤◌, ◌-◌, vec_len, take, drop}
use Rattle.wf_host.specs.World.{Told, NoneFell}
use Rattle.wf_journal.proofs.Pieces.{Unchanged}
use Rattle.wf_journal.proofs.reading.read_payload.Given as goal

-- the room holds a front of the payload, and the file stays
abbrev pub invariant-loop-room : goal.invariant-loop-room
invariant-loop-room g l = record {
  within : vec_len l.room ≤ l.len;
  front : Told (g.H.Host.world l.fn.host) (l.room.items ≡ take (vec_len l.room) (drop l.at (g.H.Host.world l.fn.host).seen));
  unchanged : Told (g.H.Host.world l.fn.host) (Unchanged (g.H.Host.world l.fn.host) (g.H.Host.world l.host));
  tells : (g.H.Host.world l.host).tells ≡ (g.H.Host.world l.fn.host).tells;
  counts : NoneFell (g.H.Host.faults l.fn.host) (g.H.Host.faults l.host);
}

abbrev pub decreases-loop-room : goal.decreases-loop-room
decreases-loop-room g l = l.len - vec_len l.room
