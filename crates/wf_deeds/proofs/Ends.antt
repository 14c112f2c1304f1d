-- What an engine stands for at first, and the rules at an end.
use Rattle.std.specs.Prelude.{◌≡◌, ℕ, true, false, IsTrue, List, [], ◌∷◌, ◌++◌, Some, None, option_map}
use Rattle.std.specs.List.{AllByRecursion}
use Rattle.std.proofs.Common.{refl, sym, ap, subst}
use Rattle.wf_deeds.proofs.Sending.{stands_at, reads_at}
use Rattle.wf_deeds.specs.Deeds.{polls, was_started, was_dropped, Visit, find_visit, undecided, visits_on, visits_after, IsSmall}
use Rattle.wf_deeds.specs.Kept.{Session}
use Rattle.wf_deeds.specs.Memory.{session, forgotten}
use Rattle.wf_deeds.specs.Outside.{Outside}
use Rattle.wf_deeds.specs.Rules.{EndKeepsRules, IsSent}
use Rattle.wf_deeds.specs.Steps.{FreshStands, EndIsKept, fresh}
use Rattle.wf_host.specs.declared.data.Deed.{Deed}
use Rattle.wf_host.specs.declared.data.Deed.TheVariants.{Start, Poll, Now, Reply, Drop, Print}
use Rattle.wf_model.specs.Ready.{quiet}
use Rattle.wf_deeds.specs.Language.{Language}
use Rattle.wf_deeds.specs.Moments.{HistoryStandsThere}

-- ## Where nothing was sent or awaited
no_polls : (ds : List Deed) → AllByRecursion IsSmall ds → polls ds ≡ 0
no_polls [] all = refl
no_polls (Poll until h ∷ ds) all = absurd all.0
no_polls (Start k to b ∷ ds) all = absurd all.0
no_polls (Now t ∷ ds) all = no_polls ds all.1
no_polls (Reply n b ∷ ds) all = absurd all.0
no_polls (Drop k ∷ ds) all = absurd all.0
no_polls (Print b ∷ ds) all = no_polls ds all.1

none_started : (k : ℕ) (ds : List Deed) → AllByRecursion IsSmall ds → was_started k ds ≡ false
none_started k [] all = refl
none_started k (Poll until h ∷ ds) all = absurd all.0
none_started k (Start j to b ∷ ds) all = absurd all.0
none_started k (Now t ∷ ds) all = none_started k ds all.1
none_started k (Reply n b ∷ ds) all = absurd all.0
none_started k (Drop j ∷ ds) all = absurd all.0
none_started k (Print b ∷ ds) all = none_started k ds all.1

none_dropped : (k : ℕ) (ds : List Deed) → AllByRecursion IsSmall ds → was_dropped k ds ≡ false
none_dropped k [] all = refl
none_dropped k (Poll until h ∷ ds) all = absurd all.0
none_dropped k (Start j to b ∷ ds) all = absurd all.0
none_dropped k (Now t ∷ ds) all = none_dropped k ds all.1
none_dropped k (Reply n b ∷ ds) all = absurd all.0
none_dropped k (Drop j ∷ ds) all = absurd all.0
none_dropped k (Print b ∷ ds) all = none_dropped k ds all.1

none_visited : (O : Outside) (vs : List Visit) (ds : List Deed) → AllByRecursion IsSmall ds → visits_on O vs ds ≡ vs
none_visited O vs [] all = refl
none_visited O vs (Poll until h ∷ ds) all = absurd all.0
none_visited O vs (Start j to b ∷ ds) all = absurd all.0
none_visited O vs (Now t ∷ ds) all = none_visited O vs ds all.1
none_visited O vs (Reply n b ∷ ds) all = absurd all.0
none_visited O vs (Drop j ∷ ds) all = absurd all.0
none_visited O vs (Print b ∷ ds) all = none_visited O vs ds all.1

small_at : (ds before behind : List Deed) (d : Deed) → AllByRecursion IsSmall ds → ds ≡ before ++ d ∷ behind → IsSmall d
small_at ds before behind d all is = at before (subst (λ l. AllByRecursion IsSmall l) is all)
  where
    at : (front : List Deed) → AllByRecursion IsSmall (front ++ d ∷ behind) → IsSmall d
    at [] these = these.0
    at (e ∷ front) these = at front these.1

not_sent : (L : Language) (O : Outside) (x : Session) (d : Deed) → IsSmall d → IsSent L O x d → ⊥
not_sent L O x (Start k to b) small sent = small
not_sent L O x (Poll until h) small sent = sent
not_sent L O x (Now t) small sent = sent
not_sent L O x (Reply n b) small sent = sent
not_sent L O x (Drop k) small sent = small
not_sent L O x (Print b) small sent = sent

pub fresh_stands : FreshStands
fresh_stands L O command handed p c number reading J D kept small leads is last clock =
    let x = session command handed (fresh p c number reading) J D in
    let none : visits_after O D ≡ [] = none_visited O [] D small in
    record {
      kept = kept;
      leads = leads;
      waits = sym (no_polls D small);
      reading = is;
      last = last;
      clock = clock;
      started = λ k. sym (none_started k D small);
      dropped = λ k. sym (none_dropped k D small);
      issued = λ k was. absurd (let f : false ≡ true = was in cc f);
      told = λ k still was. absurd (let f : false ≡ true = was in cc f);
      unanswered = λ go k still was. absurd (let f : false ≡ true = was in cc f);
      settled = λ before behind d comes sent at. absurd (not_sent L O x d (small_at D before behind d small comes) sent);
      visit = λ n. ap (λ vs. option_map forgotten (find_visit n vs)) (sym none);
      undecided = ap undecided (sym none);
      answers = λ _ before behind until h k a b comes. absurd (small_at D before behind (Poll until h) small comes);
      taken = λ e has. absurd (let f : None ≡ Some e = has in cc f);
      replies = λ _ before behind until h choice v comes. absurd (small_at D before behind (Poll until h) small comes);
      owed = λ o has. absurd (let f : None ≡ Some o = has in cc f);
      arrival = λ o n v has. absurd (let f : None ≡ Some o = has in cc f);
    }

-- ## Ends
pub end_is_kept : HistoryStandsThere → EndKeepsRules → EndIsKept
end_is_kept there rules L O command handed m J D status s good still =
    rules L O (session command handed m J D) status s.kept refl (
      λ ends. let g = good ends in (s.answers g.0, s.replies g.1),
      λ is. (m.config, stands_at there L O command handed m J D s, subst (λ r. IsTrue (quiet m.config r)) (sym (reads_at there L O command handed m J D s)) (still is)),
    )
