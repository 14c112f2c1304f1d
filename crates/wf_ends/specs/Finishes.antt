-- How a command ends whose polls bring something.
--     HearsEnough           few of its polls brought nothing
--     Finishes              it isn't suspended
--     EndsWithTheOutcome    it prints the outcome of a run
use Rattle.std.specs.Prelude.{◌≡◌, ◌⊎◌, ◌<◌, ◌+◌, true, IsTrue, List, Some}
use Rattle.wf_args.specs.Lines.{PlainLine, waits_of}
use Rattle.wf_ast.specs.Tree.{Program}
use Rattle.wf_cli.specs.Top.{Call, Deeds, HasNoCause, HasOutcome, IsLine, IsLineOf, Prints}
use Rattle.wf_deeds.specs.At.{journal, next_session, session_turns}
use Rattle.wf_deeds.specs.Deeds.{polls}
use Rattle.wf_deeds.specs.Language.{Language}
use Rattle.wf_deeds.specs.Waits.{arrivals_in, idle}
use Rattle.wf_engine.specs.Printed.{executes, outcome_text, status_of}
use Rattle.wf_journal.specs.Records.{records}
use Rattle.wf_model.specs.Config.{Config, Outcome}
use Rattle.wf_model.specs.Run.{Run}
use Rattle.wf_replay.specs.TheLanguage.{the_language}
use Rattle.wf_status.specs.declared.Status.TheVariants as status
use Rattle.wf_value.specs.Events.{Event, Start}

module _ (L : Language) (x : Call) where
  -- its polls that brought nothing, 300,001 and the requests that came are fewer than the polls that it may make
  abbrev pub HearsEnough : Type 0
  HearsEnough = (l : PlainLine) × IsLine x.scene l × Deeds x (λ D.
      idle (session_turns (journal L (records x.new.seen)) (next_session (journal L (records x.scene.found)))) (polls D) + 300001 + arrivals_in (records x.new.seen) < waits_of l)

  -- where no cause of another status holds and it hears enough, it ends with the outcome
  abbrev pub Finishes : Type 0
  Finishes = HasNoCause L x → HearsEnough → (x.status ≡ status.Done) ⊎ (x.status ≡ status.Raised) ⊎ (x.status ≡ status.OutOfMemory)

-- the outcome of a run of an accepted program
abbrev pub IsOfARun : Language → Outcome → Type 0
IsOfARun L o = (p : Program) × (s : Start) × (es : List Event) × (c : Config) × (L.source s.source ≡ Some p) × Run p s es c × (c.outcome ≡ o)

-- a command ends with this outcome
pub record EndsWith (x : Call) (o : Outcome) : Type 0 where
  -- its status is that of the outcome
  pub status : status_of o ≡ Some x.status
  -- it prints the line of the outcome, whole
  pub prints : Prints x (outcome_text o)
  -- the journal leads to the outcome
  pub stands : HasOutcome the_language x.scene x.new.seen o
  pub of_a_run : IsOfARun the_language o

-- a command that executes, of which no cause of another status holds and which hears enough, ends with an outcome, or there is no memory
abbrev pub EndsWithTheOutcome : Call → Type 0
EndsWithTheOutcome x = IsTrue x.old.tells → IsLineOf x.scene (λ c. executes c ≡ true) → HasNoCause the_language x → HearsEnough the_language x
    → (x.status ≡ status.OutOfMemory) ⊎ ((o : Outcome) × EndsWith x o)
