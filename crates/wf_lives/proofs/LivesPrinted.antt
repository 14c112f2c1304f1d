-- What is printed over a life, and that a moment of a command is a stay of one.
use Rattle.std.specs.Prelude.{◌≡◌, ◌≢◌, ◌⊎◌, ℕ, List, [], Some, None}
use Rattle.std.proofs.Common.{inl, inr, refl, sym, ◌∙◌, ap, subst}
use Rattle.wf_host.specs.Printing.{printed}
use Rattle.wf_deeds.specs.Outside.{Outside}
use Rattle.wf_lives.proofs.LivesKept.{stay_at}
use Rattle.wf_lives.specs.Lives.{PairsAreStays, PrintsByACause, PrintsOneLine, PrintsOther, PrintsOutcome, OneLine, Stay, IsStay, stay_scene}
use Rattle.wf_engine.specs.Printed.{Reports, MayPrint, bad_line, bad_argument, refused, not_a_journal, already_started, not_started, not_a_history, suspended, ended, done, told, status_of, outcome_text}
use Rattle.wf_engine.specs.Safe.{IsPrefix, PrintedIsOutcome}
use Rattle.wf_host.specs.World.{World}
use Rattle.wf_model.specs.Config.{Outcome, Active}
use Rattle.wf_deeds.specs.Language.{Language}
use Rattle.wf_status.specs.declared.Status.{Status}

-- what the disk might leave at entry is what it reads
pub pairs_are_stays : (w : World) → PairsAreStays w
pairs_are_stays w L O R words source end image all only (D, since, inl early) =
    (D, since, inl (record { small = early.small; clock = early.clock; at_entry = only image early.at_entry; printed = early.printed }))
pairs_are_stays w L O R words source end image all only (D, since, inr late) = (D, since, inr late)

-- an outcome with a status is one
has_ended : (o : Outcome) (st : Status) → status_of o ≡ Some st → o ≢ Active
has_ended o st is = λ active. let no : None ≡ Some st = ap status_of (sym active) ∙ is in cc no

module _ (L : Language) (R : Reports) (x : Stay) where
  by_cause : (st : Status) (text : List ℕ) → MayPrint L R (stay_scene x) x.left x.deeds st text → IsPrefix (printed x.deeds) text → PrintsOutcome L R x ⊎ PrintsOther L R x
  by_cause st text (bad_line n is) front = inr (_, _, bad_line n is, front, inl refl)
  by_cause st text (bad_argument is) front = inr (_, _, bad_argument is, front, inl refl)
  by_cause st text (refused r is) front = inr (_, _, refused r is, front, inl refl)
  by_cause st text (not_a_journal is) front = inr (_, _, not_a_journal is, front, inl refl)
  by_cause st text (already_started is) front = inr (_, _, already_started is, front, inl refl)
  by_cause st text (not_started is) front = inr (_, _, not_started is, front, inl refl)
  by_cause st text (not_a_history n is) front = inr (_, _, not_a_history n is, front, inl refl)
  by_cause st text (suspended is) front = inr (_, _, suspended is, front, inl refl)
  by_cause st text (ended o s has is) front = inl (outcome_text o, (o, has, has_ended o s is, refl), front)
  by_cause st text (done t report) front = inr (_, _, done t report, front, inr (inl report))
  by_cause st text (told t tells) front = inr (_, _, told t tells, front, inr (inr tells))

  by_what : (O : Outside) → PrintedIsOutcome L O R (stay_scene x) x.end x.left x.deeds → (printed x.deeds ≡ []) ⊎ PrintsOutcome L R x ⊎ PrintsOther L R x
  by_what O (inl none) = inl none
  by_what O (inr (st, text, gives, front)) = inr (by_cause st text gives front)

  of_stay : (O : Outside) → IsStay L O R x → (printed x.deeds ≡ []) ⊎ PrintsOutcome L R x ⊎ PrintsOther L R x
  of_stay O (inl early) = by_what O early.printed
  of_stay O (inr late) = by_what O late.printed

pub prints_by_a_cause : PrintsByACause
prints_by_a_cause L O R first xs x life (k, lt, is) = of_stay L R x O (stay_at L O R first xs x k life.chain lt is)

-- both are fronts of the one line that their outcomes have
pub prints_one_line : OneLine → PrintsOneLine
prints_one_line one L O R first xs x y life here there (s, text, front) (t, text2, front2) =
    (s, front, subst (λ l. IsPrefix (printed y.deeds) l) (sym (one L O R first xs x y s t life here there text text2)) front2)
