-- What is sent, and then one poll.
use Rattle.std.specs.Prelude.{◌≡◌, ◌≢◌, ◌≤◌, ℕ, false, List, [], ◌∷◌, ◌++◌}
use Rattle.std.proofs.Common.{refl, sym, subst, arith}
use Rattle.wf_deeds.specs.Clauses.{IsSending, KeptWithin, Waits, Went, to_drop, to_start}
use Rattle.wf_deeds.specs.Memory.{Memory}
use Rattle.wf_deeds.specs.Outside.{Outside}
use Rattle.wf_engine.proofs.CallsSent.{holds_later}
use Rattle.wf_engine.proofs.Parts.{Far, far_at_first, far_on, far_went, polls_once}
use Rattle.wf_engine.proofs.Sent.{OnlyNow}
use Rattle.wf_engine.proofs.SentLists.{sending_polls}
use Rattle.wf_engine.specs.Engine.{Holds, held, is_closed, memory}
use Rattle.wf_engine.specs.declared.engine.Engine.{Engine}
use Rattle.wf_history.specs.Stands as history
use Rattle.wf_history.specs.declared.history.History.{History}
use Rattle.wf_host.specs.Moments.{CountsNow}
use Rattle.wf_host.specs.World.{World, Elapses, Same}
use Rattle.wf_host.specs.declared.data.Deed.{Deed}
use Rattle.wf_host.specs.declared.data.Deed.TheVariants.{Poll}
use Rattle.wf_host.specs.declared.data.Heard.{Heard}
use Rattle.wf_journal.specs.Records.{records}
use Rattle.wf_replay.specs.TheLanguage.{the_language}

-- behind a part that polls at most so often
pub part_far : (O : Outside) (most less : ℕ) (e d : Engine) (first mid : World) (done : List Deed) → less ≤ most → OnlyNow first → CountsNow mid → mid.may_leave mid.seen → is_closed e ≡ false → Holds e first → is_closed d ≡ false → Holds d mid → KeptWithin the_language O less (memory e) first mid
    → Went the_language O (memory e) (memory d) first mid done → Far the_language O most (memory e) (memory d) first mid done
part_far O most less e d first mid done room only counts reads open_first holds open_then holds_then moments went =
    far_on the_language O most less (memory e) (memory e) (memory d) first first mid [] done (far_at_first the_language O most e.history first (memory e) only holds.0 (e.ready open_first).begun) refl (omega (arith, room)) moments went d.history counts reads holds_then.0 (d.ready open_then).begun

-- and then it polled once
pub has_waited : (O : Outside) (most : ℕ) (m o : Memory) (first now : World) (done : List Deed) (until : ℕ) (h : Heard) → Far the_language O most m o first now (done ++ Poll until h ∷ []) → IsSending (to_drop m) (to_start m) done → Waits the_language O m o first now
has_waited O most m o first now done until h far sends = record {
  done = done ++ Poll until h ∷ [];
  went = far_went the_language O most m o first now (done ++ Poll until h ∷ []) far;
  once = polls_once done until h (sending_polls sends);
}

-- the file stays as it was left
pub still_holds : (d o : Engine) (mid new : World) (deed : List Deed) → held o ≡ held d → Holds d mid → Elapses Same deed mid new → new.seen ≡ mid.seen → CountsNow new → Holds o new
still_holds d o mid new deed same holds time seen counts = subst (λ (h : History). history.Stands h new × (records new.seen ≢ [])) (sym same) (holds_later d.history mid new deed holds time seen counts)
