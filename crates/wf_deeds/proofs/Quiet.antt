-- Sessions in which nothing was sent or awaited, and that have no turn yet.
use Rattle.std.specs.Prelude.{◌≡◌, ◌≢◌, List, [], ◌∷◌, ◌++◌, Some}
use Rattle.std.specs.List.{AllByRecursion}
use Rattle.std.proofs.Common.{subst}
use Rattle.wf_lemmas.proofs.Lists.{all_at, not_nil}
use Rattle.wf_deeds.specs.Deeds.{IsSmall}
use Rattle.wf_deeds.specs.Kept.{Session, Place, Kept, own, ReadingsAreOfTheClock}
use Rattle.wf_deeds.specs.Outside.{Outside}
use Rattle.wf_host.specs.declared.data.Deed.{Deed}
use Rattle.wf_host.specs.declared.data.Deed.TheVariants.{Start, Poll, Reply, Drop}
use Rattle.wf_deeds.specs.Language.{Language}
use Rattle.wf_value.specs.Events.{Event, Turn, Answer, Arrive}

-- a deed between others
deed_at : (ds before behind : List Deed) (d : Deed) → AllByRecursion IsSmall ds → ds ≡ before ++ d ∷ behind → IsSmall d
deed_at ds before behind d small is = all_at IsSmall before d behind (subst (λ l. AllByRecursion IsSmall l) is small)

-- no event stands where there is no turn
no_place : (ts : List Turn) (t : Turn) (e : Event) → ts ≡ [] → Place ts t e → ⊥
no_place ts t e none p = not_nil p.earlier p.later t (subst (λ l. l ≡ p.earlier ++ t ∷ p.later) none p.turn)

pub only_readings : (L : Language) (O : Outside) (x : Session) → AllByRecursion IsSmall x.deeds → own L O x ≡ [] → x.end ≢ Some 13 → ReadingsAreOfTheClock L O x → Kept L O x
only_readings L O x small none not_suspended readings = record {
  calls = λ before behind k to bytes comes. absurd (deed_at x.deeds before behind (Start k to bytes) small comes);
  waits = record {
    polls_wait = λ before behind until h comes. absurd (deed_at x.deeds before behind (Poll until h) small comes);
    drops_closed = λ before behind k c comes. absurd (deed_at x.deeds before behind (Drop k) small comes);
    at_end = λ is. absurd (not_suspended is);
  };
  answers = record {
    only = λ t k r a p. absurd (no_place (own L O x) t (Answer k r a) none p);
    taken = λ before behind until h k a c comes. absurd (deed_at x.deeds before behind (Poll until h) small comes);
  };
  readings = readings;
  visits = record {
    replies = λ before behind n bytes comes. absurd (deed_at x.deeds before behind (Reply n bytes) small comes);
    replied = λ before behind until h d v comes. absurd (deed_at x.deeds before behind (Poll until h) small comes);
    only = λ t n r v p. absurd (no_place (own L O x) t (Arrive n r v) none p);
  };
}
