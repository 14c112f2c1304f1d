-- What an engine stands for that has sent and heard nothing yet.
use Rattle.std.specs.Prelude.{◌≡◌, ℕ, Bool, false, List, Option, None, Some}
use Rattle.std.proofs.Common.{sym, ◌∙◌}
use Rattle.wf_lemmas.proofs.Bools.{clash}
use Rattle.wf_ast.specs.Tree.{Program}
use Rattle.wf_deeds.specs.Clauses.{Opened}
use Rattle.wf_deeds.specs.Deeds.{Told}
use Rattle.wf_deeds.specs.Kept.{Command, Resume}
use Rattle.wf_deeds.specs.Memory.{IsSettled, LeadsTo, Memory, StandsFor}
use Rattle.wf_deeds.specs.Outside.{Outside}
use Rattle.wf_deeds.specs.Steps.{fresh}
use Rattle.wf_engine.specs.Taken.{AreTakable}
use Rattle.wf_engine.specs.declared.taken.Taken.{Taken}
use Rattle.wf_host.specs.World.{World}
use Rattle.wf_host.specs.declared.data.Deed.{Deed}
use Rattle.wf_journal.specs.Records.{records}
use Rattle.wf_deeds.specs.Language.{Language}
use Rattle.wf_model.specs.Config.{Config}

-- nothing was started or dropped, and what was told is nobody's
abbrev pub begun : Program → Config → ℕ → ℕ → (ℕ → Bool) → (ℕ → Bool) → (ℕ → Told) → Memory
begun p c number reading started dropped told = record {
  program = p;
  config = c;
  session = number;
  reading = reading;
  waits = 0;
  started = started;
  dropped = dropped;
  told = told;
  visit = λ n. None;
  undecided = 0;
  taken = None;
  owed = None;
}

module _ (p : Program) (c : Config) (number reading : ℕ) (started dropped : ℕ → Bool) (told : ℕ → Told) (none_started : (k : ℕ) → started k ≡ false) (none_dropped : (k : ℕ) → dropped k ≡ false) where
  as_settled : IsSettled (fresh p c number reading) → IsSettled (begun p c number reading started dropped told)
  as_settled s = record { taken = s.taken; owed = s.owed; still = s.still }

  as_leading : (L : Language) (J : List (List ℕ)) → LeadsTo L J (fresh p c number reading) → LeadsTo L J (begun p c number reading started dropped told)
  as_leading L J l = record { standing = l.standing; history = l.history; program = l.program; config = l.config; by_now = l.by_now; first = l.first; numbered = l.numbered; format = l.format }

  pub stands_as_fresh : (L : Language) (O : Outside) (command : Command) (handed : Bool) (J : List (List ℕ)) (D : List Deed) → StandsFor L O command handed (fresh p c number reading) J D
      → StandsFor L O command handed (begun p c number reading started dropped told) J D
  stands_as_fresh L O command handed J D s = record {
    kept = s.kept;
    leads = as_leading L J s.leads;
    waits = s.waits;
    reading = s.reading;
    last = s.last;
    clock = s.clock;
    started = λ k. none_started k ∙ s.started k;
    dropped = λ k. none_dropped k ∙ s.dropped k;
    issued = λ k is. absurd (clash (started k) (none_started k) is);
    told = λ k opened is. absurd (clash (started k) (none_started k) is);
    unanswered = λ active k opened is. absurd (clash (started k) (none_started k) is);
    settled = λ before behind d is sent polled. as_settled (s.settled before behind d is sent polled);
    visit = s.visit;
    undecided = s.undecided;
    answers = s.answers;
    taken = s.taken;
    replies = s.replies;
    owed = s.owed;
    arrival = s.arrival;
  }

  pub opened_as_fresh : (L : Language) (O : Outside) (old new : World) → Opened L O (fresh p c number reading) old new → Opened L O (begun p c number reading started dropped told) old new
  opened_as_fresh L O old new o = record {
    done = o.done;
    deeds = o.deeds;
    leads = as_leading L (records new.seen) o.leads;
    stands = λ is handed. stands_as_fresh L O Resume handed (records new.seen) o.done (o.stands is handed);
    clock = o.clock;
  }

-- ## It can go on
pub nothing_taken : (c : Config) (o : Option Taken) → o ≡ None → AreTakable c o
nothing_taken c o none t is = absurd (let no : None ≡ Some t = sym none ∙ is in cc no)
