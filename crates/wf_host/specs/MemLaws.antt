-- The laws of a host, of one in memory.
use Rattle.std.specs.Prelude.{◌≡◌, ℕ, ◌≤◌, List, length}
use Rattle.std.proofs.Common.{refl, sym, subst}
use Rattle.wf_host.specs.declared.data.Deed.{Deed}
use Rattle.wf_host.specs.declared.mem_host.MemHost.{MemHost}
use Rattle.wf_host.specs.World.{longest}
use Rattle.wf_host.specs.Memory.{left_by}
use Rattle.wf_host.specs.MemHost.{mem_world}
use Rattle.wf_host.specs.Recorded.{now_since, at_last, reads_back}

pub mem_counts_now : (h : MemHost) (t : ℕ) (c : List ℕ) → t ≤ (mem_world h).moment → (mem_world h).may_leave c → (mem_world h).left_since t c (mem_world h).deeds
mem_counts_now h t c le left = now_since h.log.first.items h.log.past.items h.log.deeds.items h.log.counts t c le left

pub mem_only_now : (h : MemHost) (c : List ℕ) (d : List Deed) → (mem_world h).left_since (mem_world h).moment c d → (mem_world h).may_leave c × (d ≡ (mem_world h).deeds)
mem_only_now h c d left = at_last h.log.first.items h.log.past.items h.log.deeds.items h.log.counts c d left

pub mem_reads_back : (h : MemHost) → (mem_world h).may_leave (mem_world h).seen
mem_reads_back h = subst (λ (i : List ℕ). left_by h.log.first.items h.log.past.items i) (sym h.log.same) (reads_back h.log.first.items (λ i. i ≡ h.log.first.items) h.log.past.items refl)

pub mem_fits : (h : MemHost) → length (mem_world h).seen ≤ longest
mem_fits h = h.log.fits
