-- Going on by what is sent.
use Rattle.std.specs.Prelude.{◌≡◌, ◌||◌, ℕ, Bool, true, false, if◌then◌else◌, nat_eq, List, [], ◌∷◌, ◌++◌, None, Some}
use Rattle.std.specs.List.{AllByRecursion}
use Rattle.std.proofs.Common.{refl, sym, ◌∙◌, ap, subst, append_assoc, arith}
use Rattle.std.proofs.lemmas.Bool.{eq-eqb, eqb-true}
use Rattle.std.proofs.lemmas.List.{append-nil}
use Rattle.wf_deeds.specs.Clauses.{IsOfSession, KeptAt, KeptThroughout, StandsIsKept, Went}
use Rattle.wf_deeds.proofs.Lists.{polls-append}
use Rattle.wf_deeds.specs.Deeds.{Told, nothing_told, polls}
use Rattle.wf_host.specs.Printing.{printed}
use Rattle.wf_deeds.specs.Kept.{Command, Kept, IsOpen}
use Rattle.wf_deeds.specs.Memory.{IsSettled, LeadsTo, Memory, StandsFor}
use Rattle.wf_deeds.specs.Outside.{Outside}
use Rattle.wf_deeds.specs.Steps.{DropGoesOn, StartGoesOn, with_calls}
use Rattle.wf_events.specs.View.{address_view}
use Rattle.wf_history.specs.Stands as history
use Rattle.wf_history.specs.declared.history.History.{History}
use Rattle.wf_host.specs.Moments.{CountsNow}
use Rattle.wf_host.specs.World.{World, Elapses, Same}
use Rattle.wf_host.specs.declared.data.Address.{Address}
use Rattle.wf_host.specs.declared.data.Deed.{Deed}
use Rattle.wf_host.specs.declared.data.Deed.TheVariants.{Start, Poll, Now, Reply, Drop, Print}
use Rattle.wf_journal.specs.Records.{records}
use Rattle.wf_journal.specs.Standing.{has_magic}
use Rattle.wf_journal.specs.Steps.{Begun, begun_over, deed_goes_on, nothing_goes_on, part_goes_on}
use Rattle.wf_deeds.specs.Language.{Language}
use Rattle.wf_model.specs.Config.{Active, TimedOut}
use Rattle.wf_model.specs.Ready.{call, request_of}

-- the host's law of the present moment
abbrev pub OnlyNow : World → Type 0
OnlyNow w = (c : List ℕ) (d : List Deed) → w.left_since w.moment c d → w.may_leave c × (d ≡ w.deeds)

pub printed-append : (ds es : List Deed) → printed (ds ++ es) ≡ printed ds ++ printed es
printed-append [] es = refl
printed-append (Print b ∷ ds) es = ap (λ l. b ++ l) (printed-append ds es) ∙ sym (append_assoc b (printed ds) (printed es))
printed-append (Start k to b ∷ ds) es = printed-append ds es
printed-append (Poll until h ∷ ds) es = printed-append ds es
printed-append (Now t ∷ ds) es = printed-append ds es
printed-append (Reply v b ∷ ds) es = printed-append ds es
printed-append (Drop k ∷ ds) es = printed-append ds es

pub silent_both : (ds es : List Deed) → printed ds ≡ [] → printed es ≡ [] → printed (ds ++ es) ≡ []
silent_both ds es first more = printed-append ds es ∙ ap (λ l. l ++ printed es) first ∙ more

-- ## Memories
-- what one stands for the other stands for with deeds more, and records that lead to one lead to the other
pub record Goes (L : Language) (O : Outside) (m n : Memory) (E : List Deed) : Type 0 where
  pub stands : (command : Command) (handed : Bool) (J : List (List ℕ)) (D : List Deed) → StandsFor L O command handed m J D → StandsFor L O command handed n J (D ++ E)
  pub leads : (J : List (List ℕ)) → LeadsTo L J m → LeadsTo L J n

-- records lead to a memory with other calls as they did
pub calls_lead : (L : Language) (m : Memory) (started dropped : ℕ → Bool) (told : ℕ → Told) (J : List (List ℕ)) → LeadsTo L J m → LeadsTo L J (with_calls m started dropped told)
calls_lead L m started dropped told J l = record { standing = l.standing; history = l.history; program = l.program; config = l.config; by_now = l.by_now; first = l.first; numbered = l.numbered; format = l.format }

module _ (L : Language) (O : Outside) (m : Memory) (started dropped : ℕ → Bool) (told : ℕ → Told) where
  -- the calls may be known in another way
  pub calls_go_on : (command : Command) (handed : Bool) (J : List (List ℕ)) (D : List Deed)
      → ((k : ℕ) → started k ≡ m.started k) → ((k : ℕ) → dropped k ≡ m.dropped k) → ((k : ℕ) → IsOpen m.config k → m.started k ≡ true → told k ≡ m.told k)
      → StandsFor L O command handed m J D → StandsFor L O command handed (with_calls m started dropped told) J D
  calls_go_on command handed J D starts drops tells s = record {
    kept = s.kept;
    leads = calls_lead L m started dropped told J s.leads;
    waits = s.waits;
    reading = s.reading;
    last = s.last;
    clock = s.clock;
    started = λ k. starts k ∙ s.started k;
    dropped = λ k. drops k ∙ s.dropped k;
    issued = λ k was. s.issued k (sym (starts k) ∙ was);
    told = λ k still was. tells k still (sym (starts k) ∙ was) ∙ s.told k still (sym (starts k) ∙ was);
    unanswered = λ go k still was. s.unanswered go k still (sym (starts k) ∙ was);
    settled = λ before behind d is sent at. let t = s.settled before behind d is sent at in record { taken = t.taken; owed = t.owed; still = t.still };
    visit = s.visit;
    undecided = s.undecided;
    answers = s.answers;
    taken = s.taken;
    replies = s.replies;
    owed = s.owed;
    arrival = s.arrival;
  }

  pub same_goes : ((k : ℕ) → started k ≡ m.started k) → ((k : ℕ) → dropped k ≡ m.dropped k) → ((k : ℕ) → IsOpen m.config k → m.started k ≡ true → told k ≡ m.told k)
      → Goes L O m (with_calls m started dropped told) []
  same_goes starts drops tells = record {
    stands = λ command handed J D s.
        subst (λ E. StandsFor L O command handed (with_calls m started dropped told) J E) (sym (append-nil D)) (calls_go_on command handed J D starts drops tells s);
    leads = calls_lead L m started dropped told;
  }

-- ## Deeds
module _ (L : Language) (O : Outside) (m : Memory) (started dropped : ℕ → Bool) (told : ℕ → Told) where
  -- a call is dropped
  pub drop_goes : DropGoesOn → (k : ℕ) → IsSettled m → call m.config k ≡ TimedOut → ((j : ℕ) → started j ≡ m.started j) → ((j : ℕ) → dropped j ≡ nat_eq k j || m.dropped j) → ((j : ℕ) → IsOpen m.config j → m.started j ≡ true → told j ≡ m.told j)
      → Goes L O m (with_calls m started dropped told) (Drop k ∷ [])
  drop_goes law k settled timed starts drops tells = record {
    stands = λ command handed J D s.
        calls_go_on L O (with_calls m m.started dropped m.told) started dropped told command handed J (D ++ Drop k ∷ []) starts (λ j. refl) tells (law L O command handed m J D k dropped s settled timed drops);
    leads = calls_lead L m started dropped told;
  }

  -- a call is started
  pub start_goes : StartGoesOn → (k : ℕ) (to : Address) (bytes : List ℕ) → IsSettled m → m.config.outcome ≡ Active → request_of m.config k ≡ Some (record { address = address_view to; bytes = bytes }) → m.started k ≡ false
      → ((j : ℕ) → started j ≡ nat_eq k j || m.started j) → ((j : ℕ) → dropped j ≡ m.dropped j) → told k ≡ nothing_told → ((j : ℕ) → m.started j ≡ true → told j ≡ m.told j)
      → Goes L O m (with_calls m started dropped told) (Start k to bytes ∷ [])
  start_goes law k to bytes settled active asks new starts drops first others = record {
    stands = λ command handed J D s.
        calls_go_on L O (with_calls m started m.dropped told) started dropped told command handed J (D ++ Start k to bytes ∷ []) (λ j. refl) drops (λ j still was. refl)
        (law L O command handed m J D k to bytes started told s settled active asks new (record { is = starts; first = first; others = others }));
    leads = calls_lead L m started dropped told;
  }

-- the call as it is known at once
module _ (m : Memory) (k : ℕ) where
  abbrev pub started_now : ℕ → Bool
  started_now j = nat_eq k j || m.started j

  abbrev pub told_now : ℕ → Told
  told_now j = if nat_eq k j then nothing_told else m.told j

  told_first : told_now k ≡ nothing_told
  told_first = ap (λ b. if b then nothing_told else m.told k) (eq-eqb k k refl)

  told_others : m.started k ≡ false → (j : ℕ) → m.started j ≡ true → told_now j ≡ m.told j
  told_others new j was = by (nat_eq k j) refl
    where
      by : (b : Bool) → nat_eq k j ≡ b → (if b then nothing_told else m.told j) ≡ m.told j
      by false is = refl
      by true is = absurd (let no : false ≡ true = sym new ∙ ap m.started (eqb-true k j is) ∙ was in cc no)

  abbrev pub starting : Memory
  starting = with_calls m started_now m.dropped told_now

  pub starting_goes : (L : Language) (O : Outside) → StartGoesOn → (to : Address) (bytes : List ℕ) → IsSettled m → m.config.outcome ≡ Active → request_of m.config k ≡ Some (record { address = address_view to; bytes = bytes }) → m.started k ≡ false
      → Goes L O m starting (Start k to bytes ∷ [])
  starting_goes L O law to bytes settled active asks new =
      start_goes L O m started_now m.dropped told_now law k to bytes settled active asks new (λ j. refl) (λ j. refl) told_first (told_others new)

-- ## Moments
-- what a deed prints, and how often it polls
abbrev tally : Deed → List ℕ × ℕ
tally e = (printed (e ∷ []), polls (e ∷ []))

-- it prints nothing, and is no poll
abbrev pub IsSilent : Deed → Type 0
IsSilent e = tally e ≡ ([], 0)

module _ (moment : StandsIsKept) (L : Language) (O : Outside) (m : Memory) where
  kept_at : (n : Memory) (command : Command) (handed : Bool) (J : List (List ℕ)) (D E : List Deed) → StandsFor L O command handed n J (D ++ E) → n.session ≡ m.session → printed E ≡ [] → polls E ≡ 0 → KeptAt L O command handed m 0 J D J E
  kept_at n command handed J D E s same silent still =
      subst (λ K. KeptAt L O command handed m 0 J D K E) (append-nil J) (moment L O command handed m n 0 J [] D E (subst (λ K. StandsFor L O command handed n K (D ++ E)) (sym (append-nil J)) s) same tt silent (omega (arith, still)))

  module _ (h : History) (w : World) (only : OnlyNow w) (stands : history.Stands h w) (old : history.is_new h ≡ false) where
    begun_now : (command : Command) (handed : Bool) (D : List Deed) → StandsFor L O command handed m (records w.seen) D → Begun w w (KeptAt L O command handed m 0 (records w.seen) D) []
    begun_now command handed D s =
        begun_over h.journal w (KeptAt L O command handed m 0 (records w.seen) D) only stands.journal old
        (kept_at m command handed (records w.seen) D [] (subst (λ E. StandsFor L O command handed m (records w.seen) E) (sym (append-nil D)) s) refl refl refl)

    -- before anything is done
    pub kept_before : KeptThroughout L O m w w
    kept_before = λ command handed D s. (begun_now command handed D s).moments

    -- a call without a deed
    pub kept_without : (new : World) → CountsNow w → Elapses Same [] w new → KeptThroughout L O m w new
    kept_without new counts time = λ command handed D s.
        nothing_goes_on w w new (KeptAt L O command handed m 0 (records w.seen) D) [] (begun_now command handed D s) counts time

    -- a deed that prints nothing and is no poll
    pub kept_with : (new : World) (n : Memory) (e : Deed) → Elapses Same (e ∷ []) w new → Goes L O m n (e ∷ []) → n.session ≡ m.session → IsSilent e → KeptThroughout L O m w new
    kept_with new n e time goes same still = λ command handed D s.
        deed_goes_on w w new (KeptAt L O command handed m 0 (records w.seen) D) [] e (begun_now command handed D s) time
        (kept_at m command handed (records w.seen) D [] (subst (λ E. StandsFor L O command handed m (records w.seen) E) (sym (append-nil D)) s) refl refl refl)
        (kept_at n command handed (records w.seen) D (e ∷ []) (goes.stands command handed (records w.seen) D s) same (ap (λ (both : List ℕ × ℕ). both.0) still) (ap (λ (both : List ℕ × ℕ). both.1) still))

-- ## Behind a call
module _ (L : Language) (O : Outside) (m n : Memory) (w new : World) where
  pub went_by : (done : List Deed) → Goes L O m n done → new.deeds ≡ w.deeds ++ done → new.seen ≡ w.seen → Went L O m n w new done
  went_by done goes deeds seen = record {
    deeds = deeds;
    stands = λ command handed D s. subst (λ i. StandsFor L O command handed n (records i) (D ++ done)) (sym seen) (goes.stands command handed (records w.seen) D s);
    leads = λ l. subst (λ i. LeadsTo L (records i) n) (sym seen) (goes.leads (records w.seen) l);
  }

-- ## One after the other
module _ (L : Language) (O : Outside) (m n : Memory) (w mid : World) (done : List Deed) (went : Went L O m n w mid done) where
  pub went_on : (o : Memory) (new : World) (more : List Deed) → Went L O n o mid new more → Went L O m o w new (done ++ more)
  went_on o new more next = record {
    deeds = next.deeds ∙ ap (λ l. l ++ more) went.deeds ∙ append_assoc w.deeds done more;
    stands = λ command handed D s.
        subst (λ E. StandsFor L O command handed o (records new.seen) E) (append_assoc D done more) (next.stands command handed (D ++ done) (went.stands command handed D s));
    leads = λ l. next.leads (went.leads l);
  }

  module _ (seen : mid.seen ≡ w.seen) (number : n.session ≡ m.session) (silent : printed done ≡ []) (still : polls done ≡ 0) where
    within : (command : Command) (handed : Bool) (D : List Deed) (J : List (List ℕ)) (E : List Deed) → KeptAt L O command handed n 0 (records mid.seen) (D ++ done) J E → KeptAt L O command handed m 0 (records w.seen) D J (done ++ E)
    within command handed D J E k = record {
      added = k.added;
      records = k.records ∙ ap (λ l. records l ++ k.added) seen;
      own = subst (λ i. AllByRecursion (IsOfSession i) k.added) number k.own;
      history = k.history;
      kept = subst (λ F. Kept L O (record { payloads = J; number = m.session; deeds = F; command = command; end = None; handed = handed })) (append_assoc D done E)
          (subst (λ i. Kept L O (record { payloads = J; number = i; deeds = (D ++ done) ++ E; command = command; end = None; handed = handed })) number k.kept);
      silent = silent_both done E silent k.silent;
      polled = let few = k.polled in omega (arith, few, still, polls-append done E);
    }

    pub kept_then : (h : History) (new : World) → KeptThroughout L O m w mid → history.Stands h mid → history.is_new h ≡ false → KeptThroughout L O n mid new → KeptThroughout L O m w new
    kept_then h new first stands old next = λ command handed D s.
        let so_far : Begun w mid (KeptAt L O command handed m 0 (records w.seen) D) done = record {
          moments = first command handed D s;
          deeds = went.deeds;
          settled = stands.journal.settled;
          begins = has_magic h.journal mid stands.journal old;
        } in
        part_goes_on w mid new (KeptAt L O command handed m 0 (records w.seen) D) (KeptAt L O command handed n 0 (records mid.seen) (D ++ done)) done so_far
        (next command handed (D ++ done) (went.stands command handed D s)) (within command handed D)
