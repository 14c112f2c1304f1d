-- The moments of one turn.
use Rattle.std.specs.Prelude.{◌≡◌, ◌≢◌, ℕ, Bool, false, List, [], ◌∷◌}
use Rattle.std.proofs.Common.{refl}
use Rattle.wf_deeds.specs.Clauses.{KeptAt, StandsIsKept}
use Rattle.wf_deeds.specs.Kept.{Command}
use Rattle.wf_deeds.specs.Memory.{Memory, StandsFor}
use Rattle.wf_deeds.specs.Outside.{Outside}
use Rattle.wf_deeds.specs.Steps.{turn_of_memory, turned}
use Rattle.wf_engine.proofs.Added.{Choice, Laws, kept_now, kept_with, one_turn_more, payload_of, turn_is_own}
use Rattle.wf_events.specs.Records.{Turned}
use Rattle.wf_events.specs.Spelling.{HasSpelling}
use Rattle.wf_history.specs.Stands as history
use Rattle.wf_history.specs.declared.history.History.{History}
use Rattle.wf_host.specs.World.{World, LeavesOnly}
use Rattle.wf_host.specs.declared.data.Deed.{Deed}
use Rattle.wf_journal.specs.Journal.{IsBeforeOrAfter}
use Rattle.wf_journal.specs.Records.{records}
use Rattle.wf_journal.specs.Steps.{Begun, Moment, begun_over, record_goes_on}
use Rattle.wf_deeds.specs.Language.{Language}
use Rattle.wf_model.specs.Config.{Config}
use Rattle.wf_value.specs.Events.{Event}

-- the host's law of the present moment
abbrev pub OnlyNow : World → Type 0
OnlyNow w = (c : List ℕ) (d : List Deed) → w.left_since w.moment c d → w.may_leave c × (d ≡ w.deeds)

module _ (L : Language) (O : Outside) (h : History) (w : World) (command : Command) (handed : Bool) (D : List Deed) (only : OnlyNow w) (stands : history.Stands h w) (old : history.is_new h ≡ false) where
  -- before it
  pub turn_begun : StandsIsKept → (m : Memory) → StandsFor L O command handed m (records w.seen) D → Begun w w (KeptAt L O command handed m 0 (records w.seen) D) []
  turn_begun moment m s =
      begun_over h.journal w (KeptAt L O command handed m 0 (records w.seen) D) only stands.journal old (kept_now moment L O command handed m m D (records w.seen) s refl)

  -- while it is added
  pub turn_adds : Laws → (new : World) (m : Memory) (c : Config) (es : List Event) → StandsFor L O command handed m (records w.seen) D → Choice m es c → es ≢ [] → HasSpelling (Turned (turn_of_memory m es)) → LeavesOnly w new (IsBeforeOrAfter w (payload_of m es))
      → LeavesOnly w new (Moment w (KeptAt L O command handed m 0 (records w.seen) D))
  turn_adds laws new m c es s chosen some spelled more =
      let J = records w.seen in
      let n : Memory = turned m c in
      record_goes_on w w new (KeptAt L O command handed m 0 J D) [] (payload_of m es) (turn_begun laws.moment m s) more
      (kept_now laws.moment L O command handed m m D J s refl)
      (kept_with laws.moment L O command handed m n D J (payload_of m es ∷ []) (one_turn_more L O command handed m J D laws es c s chosen some spelled) refl (turn_is_own laws.again m es spelled, tt))
