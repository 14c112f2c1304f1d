-- A session, part after part: turns, deeds, and what is heard.
use Rattle.std.specs.Prelude.{◌≡◌, ◌≤◌, ◌+◌, ℕ, Bool, false, List, [], ◌∷◌, ◌++◌, Some, None}
use Rattle.std.specs.List.{AllByRecursion}
use Rattle.std.proofs.Common.{refl, sym, ◌∙◌, ap, subst, arith, append_assoc}
use Rattle.std.proofs.lemmas.List.{append-nil, append_cancel_left}
use Rattle.wf_lemmas.proofs.Lists.{all_both}
use Rattle.wf_deeds.proofs.Lists.{polls-append}
use Rattle.wf_deeds.specs.Clauses.{IsOfSession, KeptAt, KeptWithin, Takes, Went}
use Rattle.wf_deeds.specs.Deeds.{polls}
use Rattle.wf_host.specs.Printing.{printed}
use Rattle.wf_deeds.specs.Kept.{Command, Kept}
use Rattle.wf_deeds.specs.Memory.{AllIsSent, IsSettled, LeadsTo, Memory, StandsFor, session}
use Rattle.wf_deeds.specs.Outside.{Outside}
use Rattle.wf_deeds.specs.Steps.{PollIsKept}
use Rattle.wf_engine.proofs.Sent.{OnlyNow, silent_both}
use Rattle.wf_history.specs.Stands as history
use Rattle.wf_history.specs.declared.history.History.{History}
use Rattle.wf_host.specs.Moments.{CountsNow, weaker}
use Rattle.wf_host.specs.World.{World, Same, Elapses, LeavesOnly}
use Rattle.wf_host.specs.declared.data.Deed.{Deed}
use Rattle.wf_host.specs.declared.data.Deed.TheVariants.{Start, Poll, Now, Reply, Drop, Print}
use Rattle.wf_host.specs.declared.data.Heard.{Heard}
use Rattle.wf_journal.specs.Records.{records}
use Rattle.wf_journal.specs.Steps.{Begun, Moment, begun_over, deed_goes_on, nothing_goes_on, part_goes_on, still_begun}
use Rattle.wf_deeds.specs.Language.{Language}
use Rattle.wf_model.specs.Config.{Active}
use Rattle.wf_model.specs.Ready.{least_due}

-- ## Lists
-- turns of the session, and then more of them
own_both : (n m : Memory) (added more : List (List ℕ)) → n.session ≡ m.session → AllByRecursion (IsOfSession m.session) added → AllByRecursion (IsOfSession n.session) more → AllByRecursion (IsOfSession m.session) (added ++ more)
own_both n m added more number own next = all_both (IsOfSession m.session) added more own (subst (λ i. AllByRecursion (IsOfSession i) more) number next)

-- ## So far
-- for one list for which the engine stood at first: turns of the session, and deeds that print nothing, at each moment with no more polls
pub record SoFar (L : Language) (O : Outside) (command : Command) (handed : Bool) (most : ℕ) (m n : Memory) (first now : World) (D done : List Deed) : Type 0 where
  pub added : List (List ℕ)
  pub longer : records now.seen ≡ records first.seen ++ added
  pub own : AllByRecursion (IsOfSession m.session) added
  pub silent : printed done ≡ []
  pub stands : StandsFor L O command handed n (records now.seen) (D ++ done)
  pub begun : Begun first now (KeptAt L O command handed m most (records first.seen) D) done

-- what an engine stands for is kept now
kept_here : (L : Language) (O : Outside) (command : Command) (handed : Bool) (most : ℕ) (m : Memory) (J : List (List ℕ)) (D : List Deed) → StandsFor L O command handed m J D → KeptAt L O command handed m most J D J []
kept_here L O command handed most m J D s = record {
  added = [];
  records = sym (append-nil J);
  own = tt;
  history = (s.leads.standing, s.leads.history);
  kept = subst (λ E. Kept L O (session command handed m J E)) (sym (append-nil D)) s.kept;
  silent = refl;
  polled = omega arith;
}

-- and with a deed more that keeps the rules
kept_more : (L : Language) (O : Outside) (command : Command) (handed : Bool) (most : ℕ) (m : Memory) (J : List (List ℕ)) (D : List Deed) (d : Deed) → StandsFor L O command handed m J D → Kept L O (session command handed m J (D ++ d ∷ [])) → printed (d ∷ []) ≡ []
    → polls (d ∷ []) ≤ most → KeptAt L O command handed m most J D J (d ∷ [])
kept_more L O command handed most m J D d s kept silent few = record {
  added = [];
  records = sym (append-nil J);
  own = tt;
  history = (s.leads.standing, s.leads.history);
  kept = kept;
  silent = silent;
  polled = few;
}

pub at_first : (L : Language) (O : Outside) (h : History) (w : World) (command : Command) (handed : Bool) (most : ℕ) (m : Memory) (D : List Deed) → OnlyNow w → history.Stands h w → history.is_new h ≡ false → StandsFor L O command handed m (records w.seen) D
    → SoFar L O command handed most m m w w D []
at_first L O h w command handed most m D only stands old s = record {
  added = [];
  longer = sym (append-nil (records w.seen));
  own = tt;
  silent = refl;
  stands = subst (λ E. StandsFor L O command handed m (records w.seen) E) (sym (append-nil D)) s;
  begun = begun_over h.journal w (KeptAt L O command handed m most (records w.seen) D) only stands.journal old (kept_here L O command handed most m (records w.seen) D s);
}

module _ (L : Language) (O : Outside) (command : Command) (handed : Bool) (most less : ℕ) (m n : Memory) (first mid : World) (D done : List Deed) (s : SoFar L O command handed most m n first mid D done) (number : n.session ≡ m.session) (room : polls done + less ≤ most) where
  -- what a part keeps that polls no more often than is left is kept by the session
  within : (K : List (List ℕ)) (E : List Deed) → KeptAt L O command handed n less (records mid.seen) (D ++ done) K E → KeptAt L O command handed m most (records first.seen) D K (done ++ E)
  within K E k = record {
    added = s.added ++ k.added;
    records = k.records ∙ ap (λ l. l ++ k.added) s.longer ∙ append_assoc (records first.seen) s.added k.added;
    own = own_both n m s.added k.added number s.own k.own;
    history = k.history;
    kept = subst (λ l. Kept L O (session command handed m K l)) (append_assoc D done E)
        (subst (λ i. Kept L O (record { payloads = K; number = i; deeds = (D ++ done) ++ E; command = command; end = None; handed = handed })) number k.kept);
    silent = silent_both done E s.silent k.silent;
    polled = let few = k.polled in omega (arith, few, room, polls-append done E);
  }

  -- ## A part of its own
  pub moments_on : (new : World) → LeavesOnly mid new (Moment mid (KeptAt L O command handed n less (records mid.seen) (D ++ done))) → LeavesOnly first new (Moment first (KeptAt L O command handed m most (records first.seen) D))
  moments_on new more = part_goes_on first mid new (KeptAt L O command handed m most (records first.seen) D) (KeptAt L O command handed n less (records mid.seen) (D ++ done)) done s.begun more within

  -- behind it
  pub goes_far : (h : History) (o : Memory) (new : World) (e : List Deed) → LeavesOnly mid new (Moment mid (KeptAt L O command handed n less (records mid.seen) (D ++ done))) → CountsNow new → new.may_leave new.seen
      → StandsFor L O command handed o (records new.seen) ((D ++ done) ++ e) → new.deeds ≡ mid.deeds ++ e → history.Stands h new → history.is_new h ≡ false → SoFar L O command handed most m o first new D (done ++ e)
  goes_far h o new e moments counts reads stands deeds holds old =
      let (E, is, begins, k) = moments.each new.seen new.deeds (counts mid.moment new.seen moments.later reads) in
      let same : E ≡ e = append_cancel_left mid.deeds E e (sym is ∙ deeds) in record {
        added = s.added ++ k.added;
        longer = k.records ∙ ap (λ l. l ++ k.added) s.longer ∙ append_assoc (records first.seen) s.added k.added;
        own = own_both n m s.added k.added number s.own k.own;
        silent = silent_both done e s.silent (subst (λ l. printed l ≡ []) same k.silent);
        stands = subst (λ l. StandsFor L O command handed o (records new.seen) l) (append_assoc D done e) stands;
        begun = still_begun h.journal first mid new (KeptAt L O command handed m most (records first.seen) D) done e s.begun (moments_on new moments) deeds holds.journal old;
      }

  -- ## A deed
  -- while it is done, where the rules are kept with it
  pub deed_moments : (new : World) (d : Deed) → Elapses Same (d ∷ []) mid new → Kept L O (session command handed n (records mid.seen) ((D ++ done) ++ d ∷ [])) → printed (d ∷ []) ≡ [] → polls (d ∷ []) ≤ less
      → LeavesOnly first new (Moment first (KeptAt L O command handed m most (records first.seen) D))
  deed_moments new d time kept silent few =
      deed_goes_on first mid new (KeptAt L O command handed m most (records first.seen) D) done d s.begun time
      (subst (λ l. KeptAt L O command handed m most (records first.seen) D (records mid.seen) l) (append-nil done)
      (within (records mid.seen) [] (kept_here L O command handed less n (records mid.seen) (D ++ done) s.stands)))
      (within (records mid.seen) (d ∷ []) (kept_more L O command handed less n (records mid.seen) (D ++ done) d s.stands kept silent few))

  -- behind it
  pub deed_far : (h : History) (o : Memory) (new : World) (d : Deed) → Elapses Same (d ∷ []) mid new → Kept L O (session command handed n (records mid.seen) ((D ++ done) ++ d ∷ [])) → printed (d ∷ []) ≡ [] → polls (d ∷ []) ≤ less → new.seen ≡ mid.seen
      → StandsFor L O command handed o (records mid.seen) ((D ++ done) ++ d ∷ []) → history.Stands h new → history.is_new h ≡ false → SoFar L O command handed most m o first new D (done ++ d ∷ [])
  deed_far h o new d time kept silent few seen stands holds old = record {
    added = s.added;
    longer = ap records seen ∙ s.longer;
    own = s.own;
    silent = silent_both done (d ∷ []) s.silent silent;
    stands = subst (λ l. StandsFor L O command handed o (records new.seen) l) (append_assoc D done (d ∷ [])) (subst (λ c. StandsFor L O command handed o (records c) ((D ++ done) ++ d ∷ [])) (sym seen) stands);
    begun = still_begun h.journal first mid new (KeptAt L O command handed m most (records first.seen) D) done (d ∷ []) s.begun (deed_moments new d time kept silent few) time.deeds holds.journal old;
  }

-- ## Of an engine
-- these deeds were done, and turn after turn was added, at each moment with no more polls
pub record Far (L : Language) (O : Outside) (most : ℕ) (m n : Memory) (first now : World) (done : List Deed) : Type 0 where
  pub deeds : now.deeds ≡ first.deeds ++ done
  pub leads : LeadsTo L (records first.seen) m → LeadsTo L (records now.seen) n
  pub each : (command : Command) (handed : Bool) (D : List Deed) → StandsFor L O command handed m (records first.seen) D → SoFar L O command handed most m n first now D done

-- a poll may be made where nothing can move, all is sent, and it waits until the least due moment
pub record MayPollNow (n : Memory) (until : ℕ) : Type 0 where
  pub settled : IsSettled n
  pub active : n.config.outcome ≡ Active
  pub sent : AllIsSent n
  pub due : least_due n.config ≡ Some until

-- what polls at most so often polls no more often than any greater count
pub more_within : (L : Language) (O : Outside) (less most : ℕ) (m : Memory) (old new : World) → less ≤ most → KeptWithin L O less m old new → KeptWithin L O most m old new
more_within L O less most m old new room kept command handed D s =
    weaker old new (Moment old (KeptAt L O command handed m less (records old.seen) D)) (Moment old (KeptAt L O command handed m most (records old.seen) D)) (kept command handed D s)
    (λ c d (E, is, begins, k). (
      E,
      is,
      begins,
      record { added = k.added; records = k.records; own = k.own; history = k.history; kept = k.kept; silent = k.silent; polled = let few = k.polled in omega (arith, few, room) },
    ))

module _ (L : Language) (O : Outside) (most : ℕ) where
  pub far_at_first : (h : History) (w : World) (m : Memory) → OnlyNow w → history.Stands h w → history.is_new h ≡ false → Far L O most m m w w []
  far_at_first h w m only stands old = record {
    deeds = sym (append-nil w.deeds);
    leads = λ l. l;
    each = λ command handed D s. at_first L O h w command handed most m D only stands old s;
  }

  pub far_moments : (less : ℕ) (m n : Memory) (first mid new : World) (done : List Deed) → Far L O most m n first mid done → n.session ≡ m.session → polls done + less ≤ most → KeptWithin L O less n mid new → KeptWithin L O most m first new
  far_moments less m n first mid new done far number room more command handed D s =
      let so = far.each command handed D s in
      moments_on L O command handed most less m n first mid D done so number room new (more command handed (D ++ done) so.stands)

  pub far_kept : (m n : Memory) (first mid : World) (done : List Deed) → Far L O most m n first mid done → KeptWithin L O most m first mid
  far_kept m n first mid done far command handed D s = (far.each command handed D s).begun.moments

  pub far_on : (less : ℕ) (m n o : Memory) (first mid new : World) (done e : List Deed) → Far L O most m n first mid done → n.session ≡ m.session → polls done + less ≤ most → KeptWithin L O less n mid new → Went L O n o mid new e → (h : History) → CountsNow new → new.may_leave new.seen
      → history.Stands h new → history.is_new h ≡ false → Far L O most m o first new (done ++ e)
  far_on less m n o first mid new done e far number room more went h counts reads stands old = record {
    deeds = went.deeds ∙ ap (λ l. l ++ e) far.deeds ∙ append_assoc first.deeds done e;
    leads = λ l. went.leads (far.leads l);
    each = λ command handed D s.
        let so = far.each command handed D s in
        goes_far L O command handed most less m n first mid D done so number room h o new e (more command handed (D ++ done) so.stands) counts reads (went.stands command handed (D ++ done) so.stands) went.deeds stands old;
  }

  pub far_went : (m n : Memory) (first now : World) (done : List Deed) → Far L O most m n first now done → Went L O m n first now done
  far_went m n first now done far = record { deeds = far.deeds; stands = λ command handed D s. (far.each command handed D s).stands; leads = far.leads }

  -- ## A poll
  pub poll_moments : PollIsKept → (m n : Memory) (first mid new : World) (done : List Deed) (until : ℕ) (h : Heard) → Far L O most m n first mid done → n.session ≡ m.session → polls done + 1 ≤ most → MayPollNow n until → Elapses Same (Poll until h ∷ []) mid new → KeptWithin L O most m first new
  poll_moments law m n first mid new done until h far number room may time command handed D s =
      let so = far.each command handed D s in
      deed_moments L O command handed most 1 m n first mid D done so number room new (Poll until h) time
      (law L O command handed n (records mid.seen) (D ++ done) until h so.stands may.settled may.active (λ by_itself. (may.sent, may.due))) refl (omega arith)

  pub far_poll : PollIsKept → (m n o : Memory) (first mid new : World) (done : List Deed) (until : ℕ) (h : Heard) → Far L O most m n first mid done → n.session ≡ m.session → polls done + 1 ≤ most → MayPollNow n until → Elapses Same (Poll until h ∷ []) mid new → new.seen ≡ mid.seen
      → Takes L O n o h → (j : History) → history.Stands j new → history.is_new j ≡ false → Far L O most m o first new (done ++ Poll until h ∷ [])
  far_poll law m n o first mid new done until h far number room may time seen takes j stands old = record {
    deeds = time.deeds ∙ ap (λ l. l ++ Poll until h ∷ []) far.deeds ∙ append_assoc first.deeds done (Poll until h ∷ []);
    leads = λ l. subst (λ i. LeadsTo L (records i) o) (sym seen) (takes.leads (records mid.seen) (far.leads l));
    each = λ command handed D s.
        let so = far.each command handed D s in
        deed_far L O command handed most 1 m n first mid D done so number room j o new (Poll until h) time
        (law L O command handed n (records mid.seen) (D ++ done) until h so.stands may.settled may.active (λ by_itself. (may.sent, may.due))) refl (omega arith) seen
        (takes.stands command handed (records mid.seen) (D ++ done) until so.stands (λ by_itself. (may.sent, may.due))) stands old;
  }

  -- no poll was made
  pub silence_moments : (m n : Memory) (first mid new : World) (done : List Deed) → Far L O most m n first mid done → CountsNow mid → Elapses Same [] mid new → KeptWithin L O most m first new
  silence_moments m n first mid new done far counts time command handed D s =
      let so = far.each command handed D s in
      nothing_goes_on first mid new (KeptAt L O command handed m most (records first.seen) D) done so.begun counts time

pub polls_once : (ds : List Deed) (until : ℕ) (h : Heard) → polls ds ≡ 0 → polls (ds ++ Poll until h ∷ []) ≡ 1
polls_once ds until h nothing = omega (arith, polls-append ds (Poll until h ∷ []), nothing)
