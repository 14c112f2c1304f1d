-- A loop that replays a history.
use Rattle.std.specs.Prelude.{◌≡◌, ◌+◌, ℕ, true, false, List}
use Rattle.std.proofs.Common.{refl}
use Rattle.wf_history.specs.Stands.{Stands, ahead, is_closed, is_new}
use Rattle.wf_history.specs.declared.history.History.{History}
use Rattle.wf_host.specs.Moments.{started}
use Rattle.wf_host.specs.World.{World, Faults, Told, LeavesOnly, NoneFell}
use Rattle.wf_host.specs.declared.data.Deed.{Deed}
use Rattle.wf_journal.specs.Journal.{Stays}
use Rattle.wf_machine.specs.Seen.{state_of}
use Rattle.wf_machine.specs.declared.machine.Machine.{Machine}
use Rattle.wf_deeds.specs.At.{applied_by}
use Rattle.wf_deeds.specs.History.{goes_to}
use Rattle.wf_replay.specs.TheLanguage.{the_language}
use Rattle.wf_replay.specs.Standing.{standing}

-- what the loop keeps where the host tells, with the steps counted before it and by now
pub record SoFar (first now : World) (h g : History) (m n : Machine) (before by_now : ℕ) : Type 0 where
  pub leads : goes_to the_language (standing h m) (ahead h first.seen) ≡ goes_to the_language (standing g n) (ahead g first.seen)
  pub steps : by_now + applied_by (ahead g first.seen) ≡ before + applied_by (ahead h first.seen)
  pub seen : now.seen ≡ first.seen
  pub deeds : now.deeds ≡ first.deeds
  pub stands : is_closed g ≡ false → Stands g now
  pub moments : is_closed h ≡ false → LeavesOnly first now (Stays first)

-- what it keeps; and of a closed history that nothing was done
pub record Kept (first now : World) (before after : Faults) (h g : History) (m n : Machine) (steps_before steps_now : ℕ) (nothing_done : Type 0) : Type 0 where
  pub so_far : Told first (SoFar first now h g m n steps_before steps_now)
  pub closed : is_closed g ≡ is_closed h
  pub new : is_new g ≡ is_new h
  pub whole : (state_of n).broken ≡ false
  pub tells : now.tells ≡ first.tells
  pub counts : NoneFell before after
  pub idle : is_closed h ≡ true → nothing_done

-- before the first record
pub starts : (w : World) (h : History) (m : Machine) (steps : ℕ) → ((c : List ℕ) (d : List Deed) → w.left_since w.moment c d → w.may_leave c × (d ≡ w.deeds)) → (is_closed h ≡ false → Stands h w) → SoFar w w h h m m steps steps
starts w h m steps only stands = record {
  leads = refl;
  steps = refl;
  seen = refl;
  deeds = refl;
  stands = stands;
  moments = λ open_now. started w (Stays w) only (λ c now. ((stands open_now).journal.settled c now, refl));
}
