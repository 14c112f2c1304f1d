-- The rules with one deed more, and with an end.
use Rattle.std.specs.Prelude.{◌≡◌, ◌⊎◌, ◌≤◌, ◌+◌, ◌||◌, ℕ, zero, suc, Bool, true, false, IsTrue, List, [], ◌∷◌, ◌++◌, length, All, Contains, Some, None}
use Rattle.std.proofs.Common.{inl, inr, ⊎_elim, refl, sym, ◌∙◌, ap, subst, arith}
use Rattle.std.proofs.lemmas.List.{append-nil}
use Rattle.std.proofs.lemmas.List.Elements.{All-weaker, All-contains, Contains-append_right}
use Rattle.std.proofs.lemmas.Option.{same_Some}
use Rattle.wf_deeds.proofs.Carried.{SameAt, start_carried, poll_carried, answers_carried, decides_carried, reply_carried, answered_carried, decided_carried}
use Rattle.wf_deeds.proofs.Lists.{polls-append, nows-append, reading_stays, starts_or_polls-append, was_replied_more}
use Rattle.wf_deeds.proofs.Splits.{split_of_more}
use Rattle.wf_deeds.specs.Deeds.{polls, nows, starts_or_polls, was_replied, before_poll}
use Rattle.wf_deeds.specs.Kept.{Session, Place, own, config, last_of, stands, EndsWell, MayStart, MayPoll, MayReply}
use Rattle.wf_deeds.specs.Outside.{Outside, Arrives}
use Rattle.wf_deeds.specs.Rules.{with_deed, with_end, MayDo, AnswersStand, RepliesAreMade, DeedKeepsRules, EndKeepsRules}
use Rattle.wf_host.specs.declared.data.Deed.{Deed}
use Rattle.wf_host.specs.declared.data.Deed.TheVariants.{Start, Poll, Now, Reply, Drop, Print}
use Rattle.wf_deeds.specs.At.{config_before}
use Rattle.wf_deeds.specs.Language.{Language}
use Rattle.wf_value.specs.Events.{Event, Turn}

pub no_end : (x : Session) (status : ℕ) → x.end ≡ None → x.end ≡ Some status → ⊥
no_end x status none is = let no : None ≡ Some status = sym none ∙ is in cc no

no_good_end : (L : Language) (O : Outside) (x : Session) → x.end ≡ None → EndsWell L O x → ⊥
no_good_end L O x none ends = ⊎_elim (λ is. no_end x 0 none is) (λ more. ⊎_elim (λ is. no_end x 1 none is) (λ is. no_end x 13 none is) more) ends

-- the polls in front of a deed are polls of the list
pub front_polls : (ds before behind : List Deed) (d : Deed) → ds ≡ before ++ d ∷ behind → polls before ≤ polls ds
front_polls ds before behind d is = omega (arith, ap polls is, polls-append before (d ∷ behind))

-- a turn among others
pub in_place : (P : Turn → Type 0) (ts : List Turn) (t : Turn) (e : Event) → All P ts → Place ts t e → P t
in_place P ts t e all p =
    let there : Contains (p.earlier ++ t ∷ p.later) t = Contains-append_right p.earlier (t ∷ p.later) t (0, omega arith, refl) in
    All-contains P ts t all (subst (λ l. Contains l t) (sym p.turn) there)

module _ (L : Language) (O : Outside) (x : Session) where
  no_clock : (d : Deed) → MayDo L O x d → nows (d ∷ []) ≡ []
  no_clock (Start k to b) may = refl
  no_clock (Poll until h) may = refl
  no_clock (Now t) may = absurd may
  no_clock (Reply n b) may = refl
  no_clock (Drop k) may = refl
  no_clock (Print b) may = refl

  -- before a start or a poll the answers stand, and the clock was read once
  gone_on : (d : Deed) → MayDo L O x d → IsTrue (starts_or_polls (d ∷ [])) → AnswersStand L O x × (length (nows x.deeds) ≡ 1)
  gone_on (Start k to b) may is = (may.1, may.2)
  gone_on (Poll until h) may is = (may.1, may.3)
  gone_on (Now t) may is = absurd may
  gone_on (Reply n b) may is = absurd (let f : false ≡ true = is in cc f)
  gone_on (Drop k) may is = absurd (let f : false ≡ true = is in cc f)
  gone_on (Print b) may is = absurd (let f : false ≡ true = is in cc f)

  -- before a poll the replies are made
  waited_on : (d : Deed) → MayDo L O x d → 1 ≤ polls (d ∷ []) → RepliesAreMade L O x
  waited_on (Start k to b) may is = absurd (let f : 1 ≤ 0 = is in omega (arith, f))
  waited_on (Poll until h) may is = may.2
  waited_on (Now t) may is = absurd may
  waited_on (Reply n b) may is = absurd (let f : 1 ≤ 0 = is in omega (arith, f))
  waited_on (Drop k) may is = absurd (let f : 1 ≤ 0 = is in omega (arith, f))
  waited_on (Print b) may is = absurd (let f : 1 ≤ 0 = is in omega (arith, f))

pub one_of : (a b : Bool) → IsTrue (a || b) → IsTrue a ⊎ IsTrue b
one_of true b has = inl refl
one_of false b has = inr has

gone_before : (ds : List Deed) (d : Deed) → IsTrue (starts_or_polls (ds ++ d ∷ [])) → IsTrue (starts_or_polls ds) ⊎ IsTrue (starts_or_polls (d ∷ []))
gone_before ds d is = one_of (starts_or_polls ds) (starts_or_polls (d ∷ [])) (sym (starts_or_polls-append ds (d ∷ [])) ∙ is)

some_of : (n m : ℕ) → 1 ≤ n + m → (1 ≤ n) ⊎ (1 ≤ m)
some_of zero m le = inr (omega (arith, le))
some_of (suc n) m le = inl (omega arith)

waited_before : (ds : List Deed) (d : Deed) → 1 ≤ polls (ds ++ d ∷ []) → (1 ≤ polls ds) ⊎ (1 ≤ polls (d ∷ []))
waited_before ds d is = some_of (polls ds) (polls (d ∷ [])) (omega (arith, is, polls-append ds (d ∷ [])))

pub deed_keeps_rules : DeedKeepsRules
deed_keeps_rules L O x d kept none may =
    let y = with_deed x d in
    let last = last_of (config_before (stands L O x) x.number) in
    let quiet_clock = no_clock L O x d may in
    let clocks : nows y.deeds ≡ nows x.deeds = nows-append x.deeds (d ∷ []) ∙ ap (λ ts. nows x.deeds ++ ts) quiet_clock ∙ append-nil (nows x.deeds) in
    let same : (w : ℕ) → w ≤ polls x.deeds → SameAt L O x y w = λ w le. record { config = refl; reading = reading_stays last x.deeds d w quiet_clock le } in
    record {
      calls = λ before behind k to bytes comes. elim (split_of_more x.deeds d before (Start k to bytes) behind comes) [
        | inl s ↦ start_carried L O x y before k to bytes (same (polls before) (front_polls x.deeds before s.rest (Start k to bytes) s.is)) (kept.calls before s.rest k to bytes s.is)
        | inr s ↦
            let m : MayDo L O x (Start k to bytes) = subst (λ e. MayDo L O x e) (sym s.last) may in
            start_carried L O x y before k to bytes (same (polls before) (omega (arith, ap polls s.all))) (subst (λ b. MayStart L O x b k to bytes) (sym s.all) m.0)
      ];
      waits = record {
        polls_wait = λ before behind until h comes. elim (split_of_more x.deeds d before (Poll until h) behind comes) [
          | inl s ↦ poll_carried L O x y before until (same (polls before) (front_polls x.deeds before s.rest (Poll until h) s.is)) refl (kept.waits.polls_wait before s.rest until h s.is)
          | inr s ↦
              let m : MayDo L O x (Poll until h) = subst (λ e. MayDo L O x e) (sym s.last) may in
              poll_carried L O x y before until (same (polls before) (omega (arith, ap polls s.all))) refl (subst (λ b. MayPoll L O x b until) (sym s.all) m.0)
        ];
        drops_closed = λ before behind k c comes at. elim (split_of_more x.deeds d before (Drop k) behind comes) [
          | inl s ↦ kept.waits.drops_closed before s.rest k c s.is at
          | inr s ↦
              let m : MayDo L O x (Drop k) = subst (λ e. MayDo L O x e) (sym s.last) may in
              m c (ap (λ b. config L O x (polls b)) (sym s.all) ∙ at)
        ];
        at_end = λ is. absurd (no_end x 13 none is);
      };
      answers = record {
        only = λ t k r a p. let q = kept.answers.only t k r a p in (q.0, answered_carried L O x y (d ∷ []) t.waits k a refl q.1);
        taken = λ before behind until h k a c comes ans at still gone. elim (split_of_more x.deeds d before (Poll until h) behind comes) [
          | inl s ↦
              let old = answers_carried L O y x before (Poll until h) h.what k a ans in
              ⊎_elim
              (λ has. ⊎_elim
              (λ was. kept.answers.taken before s.rest until h k a c s.is old at still (inl was))
              (λ is. (gone_on L O x d may is).0 before s.rest until h k a c s.is old at still)
              (gone_before s.rest d (subst (λ l. IsTrue (starts_or_polls l)) s.follows has)))
              (λ ends. absurd (no_good_end L O x none ends))
              gone
          | inr s ↦ ⊎_elim
              (λ has. absurd (let f : false ≡ true = subst (λ l. IsTrue (starts_or_polls l)) s.none has in cc f))
              (λ ends. absurd (no_good_end L O x none ends))
              gone
        ];
      };
      readings = record {
        waits = All-weaker (λ (t : Turn). t.waits ≤ polls x.deeds) (λ (t : Turn). t.waits ≤ polls y.deeds) (λ t le. omega (arith, le, polls-append x.deeds (d ∷ []))) (own L O x) kept.readings.waits;
        readings = λ t e r p is.
            let le : t.waits ≤ polls x.deeds = in_place (λ (u : Turn). u.waits ≤ polls x.deeds) (own L O x) t e kept.readings.waits p in
            kept.readings.readings t e r p is ∙ sym (SameAt.reading (same t.waits le));
        once = λ some. ap length clocks ∙ ⊎_elim
            (λ turns. kept.readings.once (inl turns))
            (λ has. ⊎_elim (λ was. kept.readings.once (inr was)) (λ is. (gone_on L O x d may is).1) (gone_before x.deeds d has))
            some;
        first = λ before behind e comes is. elim (split_of_more x.deeds d before e behind comes) [
          | inl s ↦ kept.readings.first before s.rest e s.is is
          | inr s ↦ ap (λ b. length (nows b)) s.all ∙ (gone_on L O x d may (subst (λ g. IsTrue (starts_or_polls (g ∷ []))) s.last is)).1
        ];
        at_most = omega (arith, ap length clocks, kept.readings.at_most);
        none = λ c resumes was ended. clocks ∙ kept.readings.none c resumes was ended;
      };
      visits = record {
        replies = λ before behind n bytes comes. elim (split_of_more x.deeds d before (Reply n bytes) behind comes) [
          | inl s ↦ reply_carried L O x y before n bytes (λ w lt. refl) (λ w e there. there) (kept.visits.replies before s.rest n bytes s.is)
          | inr s ↦
              let m : MayDo L O x (Reply n bytes) = subst (λ e. MayDo L O x e) (sym s.last) may in
              reply_carried L O x y before n bytes (λ w lt. refl) (λ w e there. there) (subst (λ b. MayReply L O x b n bytes) (sym s.all) m)
        ];
        replied = λ before behind until h choice v comes dec waited. elim (split_of_more x.deeds d before (Poll until h) behind comes) [
          | inl s ↦
              let old = decides_carried L O y x before h.what choice v refl dec in
              let was : was_replied choice.visit (before_poll s.rest) ≡ true = ⊎_elim
              (λ le. ⊎_elim
              (λ more. kept.visits.replied before s.rest until h choice v s.is old (inl more))
              (λ is. waited_on L O x d may is before s.rest until h choice v s.is old)
              (waited_before s.rest d (subst (λ l. 1 ≤ polls l) s.follows le)))
              (λ ends. absurd (no_good_end L O x none ends))
              waited in
              subst (λ l. was_replied choice.visit (before_poll l) ≡ true) (sym s.follows) (was_replied_more choice.visit s.rest (d ∷ []) was)
          | inr s ↦ ⊎_elim
              (λ le. absurd (let f : 1 ≤ 0 = subst (λ l. 1 ≤ polls l) s.none le in omega (arith, f)))
              (λ ends. absurd (no_good_end L O x none ends))
              waited
        ];
        only = λ t n r v p. let q = kept.visits.only t n r v p in (q.0, (q.1.0, decided_carried L O x y (d ∷ []) t.waits q.1.0 (Arrives n v) refl (λ w lt. refl) q.1.1));
      };
    }

-- ## An end

pub end_keeps_rules : EndKeepsRules
end_keeps_rules L O x status kept none may =
    let y = with_end x status in
    let same : (w : ℕ) → SameAt L O x y w = λ w. record { config = refl; reading = refl } in
    let goods : EndsWell L O y → AnswersStand L O x × RepliesAreMade L O x = λ ends. may.0 (⊎_elim (λ is. inl (same_Some status 0 is)) (λ more. inr (⊎_elim (λ is. inl (same_Some status 1 is)) (λ is. inr (same_Some status 13 is)) more)) ends) in
    record {
      calls = λ before behind k to bytes comes. start_carried L O x y before k to bytes (same (polls before)) (kept.calls before behind k to bytes comes);
      waits = record {
        polls_wait = λ before behind until h comes. poll_carried L O x y before until (same (polls before)) refl (kept.waits.polls_wait before behind until h comes);
        drops_closed = kept.waits.drops_closed;
        at_end = λ is. may.1 (same_Some status 13 is);
      };
      answers = record {
        only = λ t k r a p. let q = kept.answers.only t k r a p in (q.0, answered_carried L O x y [] t.waits k a (sym (append-nil x.deeds)) q.1);
        taken = λ before behind until h k a c comes ans at still gone.
            let old = answers_carried L O y x before (Poll until h) h.what k a ans in
            ⊎_elim (λ has. kept.answers.taken before behind until h k a c comes old at still (inl has)) (λ ends. (goods ends).0 before behind until h k a c comes old at still) gone;
      };
      readings = record {
        waits = kept.readings.waits;
        readings = kept.readings.readings;
        once = kept.readings.once;
        first = kept.readings.first;
        at_most = kept.readings.at_most;
        none = kept.readings.none;
      };
      visits = record {
        replies = λ before behind n bytes comes. reply_carried L O x y before n bytes (λ w lt. refl) (λ w e there. there) (kept.visits.replies before behind n bytes comes);
        replied = λ before behind until h choice v comes dec waited.
            let old = decides_carried L O y x before h.what choice v refl dec in
            ⊎_elim (λ le. kept.visits.replied before behind until h choice v comes old (inl le)) (λ ends. (goods ends).1 before behind until h choice v comes old) waited;
        only = λ t n r v p. let q = kept.visits.only t n r v p in (q.0, (q.1.0, decided_carried L O x y [] t.waits q.1.0 (Arrives n v) (sym (append-nil x.deeds)) (λ w lt. refl) q.1.1));
      };
    }
