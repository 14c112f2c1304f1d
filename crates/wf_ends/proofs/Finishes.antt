-- A command that hears enough isn't suspended.
use Rattle.std.specs.Prelude.{◌≡◌, ℕ, List, ◌⊎◌, Ok, Result}
use Rattle.std.proofs.Common.{sym, ap, ◌∙◌, arith, inl, inr}
use Rattle.std.proofs.lemmas.List.{append_cancel_left}
use Rattle.wf_args.specs.Lines.{PlainLine, line_of, waits_of}
use Rattle.wf_cli.specs.Promises.{Promised}
use Rattle.wf_cli.specs.Reports.{the_reports}
use Rattle.wf_cli.specs.Top.{Call, Completes, HasOutcome}
use Rattle.wf_deeds.specs.At.{journal, next_session, session_turns}
use Rattle.wf_deeds.specs.Deeds.{polls}
use Rattle.wf_deeds.specs.HistoryLaws.{ComputedIsHistory}
use Rattle.wf_deeds.specs.Waits.{idle}
use Rattle.wf_ends.specs.Finishes.{Finishes, IsOfARun, EndsWith, EndsWithTheOutcome}
use Rattle.wf_ends.specs.Pauses.{PausesAreIdle}
use Rattle.wf_host.specs.declared.data.Deed.{Deed}
use Rattle.wf_journal.specs.Records.{records}
use Rattle.wf_model.specs.Config.{Outcome}
use Rattle.wf_replay.specs.TheLanguage.{the_language}
use Rattle.wf_status.specs.declared.Status.TheVariants as status

same_line : {E : Type 0} (l k : PlainLine) (r : Result PlainLine E) → r ≡ Ok l → r ≡ Ok k → l ≡ k
same_line {E} l k r is or = let both : ◌≡◌ {A = Result PlainLine E} (Ok l) (Ok k) = sym is ∙ or in cc both

pub completes_finishes : PausesAreIdle → (x : Call) → Completes the_language x → Finishes the_language x
completes_finishes pauses x all none (l, line, (D, is, few)) =
    all.outcome none (λ paused.
    let idle_by = pauses the_language the_reports x.scene x.new.seen paused.0 paused.2 in
    let deeds : paused.0 ≡ D = append_cancel_left x.old.deeds paused.0 D (sym paused.1 ∙ is) in
    let same : idle_by.0 ≡ l = same_line idle_by.0 l (line_of x.scene.words) idle_by.1 line in
    let bound : ℕ = waits_of l in
    let waits : waits_of idle_by.0 ≡ waits_of l = ap waits_of same in
    let session : ℕ = next_session (journal the_language (records x.scene.found)) in
    let long = idle_by.2 session in
    let count : List Deed → ℕ = λ E. idle (session_turns (journal the_language (records x.new.seen)) session) (polls E) in
    let sum : count paused.0 ≡ count D = ap count deeds in
    omega (arith, long, few, waits, sum))

of_a_run : ComputedIsHistory → (x : Call) (o : Outcome) → HasOutcome the_language x.scene x.new.seen o → IsOfARun the_language o
of_a_run computed x o (line, (st, is, which)) =
    let h = computed the_language (records x.new.seen) st is in
    (h.program, h.start, _, st.config, h.accepted, h.one_run, which)

pub ends_with_the_outcome : ComputedIsHistory → PausesAreIdle → (x : Call) → Promised x → EndsWithTheOutcome x
ends_with_the_outcome computed pauses x all told line none heard = by_status (completes_finishes pauses x (all.completes told) none heard)
  where
    outcome : (x.status ≡ status.Done) ⊎ (x.status ≡ status.Raised) → (x.status ≡ status.OutOfMemory) ⊎ ((o : Outcome) × EndsWith x o)
    outcome is =
        let (o, has, status_is, prints) = (all.outcome told).comes line is in
        inr (o, record { status = status_is; prints = prints; stands = has; of_a_run = of_a_run computed x o has })

    by_status : (x.status ≡ status.Done) ⊎ (x.status ≡ status.Raised) ⊎ (x.status ≡ status.OutOfMemory) → (x.status ≡ status.OutOfMemory) ⊎ ((o : Outcome) × EndsWith x o)
    by_status (inl done) = outcome (inl done)
    by_status (inr (inl raised)) = outcome (inr raised)
    by_status (inr (inr lacks)) = inl lacks
