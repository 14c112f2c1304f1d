-- The rules with one turn more.
use Rattle.std.specs.Prelude.{◌≡◌, ◌≢◌, ◌⊎◌, ◌≤◌, ◌<◌, ◌&&◌, ℕ, suc, Bool, true, false, IsTrue, nat_eq, nat_le, nat_lt, List, [], ◌∷◌, ◌++◌, All, Some}
use Rattle.std.specs.List.{AllByRecursion}
use Rattle.std.proofs.Common.{inl, inr, ⊎_elim, refl, sym, ◌∙◌, ap, subst, arith}
use Rattle.std.proofs.lemmas.Bool.{leb-true, ltb-true, and_parts}
use Rattle.std.proofs.lemmas.List.{append-nil}
use Rattle.std.proofs.lemmas.List.Elements.{All-push}
use Rattle.wf_deeds.proofs.Carried.{SameAt, first_more, start_carried, poll_carried, answers_carried, decides_carried, reply_carried, answered_carried, decided_carried}
use Rattle.wf_deeds.proofs.DeedMore.{front_polls, in_place, no_end, one_of}
use Rattle.wf_deeds.proofs.Lists.{polls-append}
use Rattle.wf_deeds.proofs.Splits.{split_of_more}
use Rattle.wf_deeds.specs.Deeds.{polls, reading_by}
use Rattle.wf_deeds.specs.Kept.{Session, Place, StandsFirst, own, config, reading, last_of, Comes, AnsweredAt, DecidedAt}
use Rattle.wf_deeds.specs.Outside.{Outside, Arrives}
use Rattle.wf_deeds.specs.Rules.{with_record, IsBrought, IsOwn, AreBrought, TurnKeepsRules}
use Rattle.wf_events.specs.Reading.{meaning}
use Rattle.wf_history.specs.Kinds.{turn_in}
use Rattle.wf_host.specs.declared.data.Deed.{Deed}
use Rattle.wf_host.specs.declared.data.Deed.TheVariants.{Start, Poll, Reply, Drop}
use Rattle.wf_host.specs.declared.data.Heard.{Heard}
use Rattle.wf_model.specs.Run.{is_before}
use Rattle.wf_deeds.specs.At.{Journal, config_at, config_before, journal, session_turns}
use Rattle.wf_deeds.specs.Language.{Language}
use Rattle.wf_deeds.specs.Moments.{with_turn_more, TurnIsAdded, SessionBeforeStays, TurnIsOfItsSession, MomentBeforeStays}
use Rattle.wf_value.specs.Events as plain
use Rattle.wf_value.specs.Events.{Event, Turn}

-- what is known of a journal with a turn more
pub record Journals : Type 0 where
  pub added : TurnIsAdded
  pub before : SessionBeforeStays
  pub of_its : TurnIsOfItsSession
  pub moment : MomentBeforeStays

-- ## Moments
never : (v : Bool) → (IsTrue v → ⊥) → v ≡ false
never true not_so = absurd (not_so refl)
never false not_so = refl

-- a turn of this session with more waits stands behind the moment
stands_behind : (number w : ℕ) (t : Turn) → t.session ≡ number → w < t.waits → is_before number w t ≡ false
stands_behind number w t session lt = never (is_before number w t) (λ is. ⊎_elim
    (λ less. let f = ltb-true t.session number less in omega (arith, f, session))
    (λ more. let f = leb-true t.waits w (and_parts (nat_eq t.session number) (nat_le t.waits w) more).1 in omega (arith, f, lt))
    (one_of (nat_lt t.session number) (nat_eq t.session number && nat_le t.waits w) is))

-- ## What a turn more leaves as it was
module _ (laws : Journals) (L : Language) (O : Outside) (x : Session) (payload : List ℕ) (j : Journal) (t : Turn) (is_j : journal L x.payloads ≡ Some j) (means : turn_in (meaning payload) ≡ Some t) (of_session : t.session ≡ x.number) (of_waits : t.waits ≡ polls x.deeds) where
  pub own_more : own L O (with_record x payload) ≡ own L O x ++ t ∷ []
  own_more =
      ap (λ o. session_turns o x.number) (laws.added L x.payloads payload j t is_j means)
      ∙ ap (λ n. session_turns (Some (with_turn_more j t)) n) (sym of_session)
      ∙ laws.of_its j t
      ∙ ap (λ n. session_turns (Some j) n ++ t ∷ []) of_session
      ∙ ap (λ o. session_turns o x.number ++ t ∷ []) (sym is_j)

  pub before_stays : config_before (journal L (x.payloads ++ payload ∷ [])) x.number ≡ config_before (journal L x.payloads) x.number
  before_stays =
      ap (λ o. config_before o x.number) (laws.added L x.payloads payload j t is_j means) ∙ laws.before j t x.number (omega (arith, of_session)) ∙ ap (λ o. config_before o x.number) (sym is_j)

  pub config_stays : (w : ℕ) → w < polls x.deeds → config L O (with_record x payload) w ≡ config L O x w
  config_stays w lt =
      ap (λ o. config_at o x.number w) (laws.added L x.payloads payload j t is_j means)
      ∙ laws.moment j t x.number w (stands_behind x.number w t of_session (omega (arith, lt, of_waits)))
      ∙ ap (λ o. config_at o x.number w) (sym is_j)

  pub first_stays : (w : ℕ) (e : Event) → StandsFirst (own L O x) w e → StandsFirst (own L O (with_record x payload)) w e
  first_stays w e s = subst (λ ts. StandsFirst ts w e) (sym own_more) (first_more (own L O x) (t ∷ []) w e s)

-- ## The events of the turn
own_at : (L : Language) (O : Outside) (x : Session) (es front back : List Event) (e : Event) → AllByRecursion (IsOwn L O x) es → es ≡ front ++ e ∷ back → IsOwn L O x e
own_at L O x es front back e all is = at front (subst (λ l. AllByRecursion (IsOwn L O x) l) is all)
  where
    at : (f : List Event) → AllByRecursion (IsOwn L O x) (f ++ e ∷ back) → IsOwn L O x e
    at [] these = these.0
    at (g ∷ f) these = at f these.1

abbrev first_or : Event → List Event → Event
first_or d [] = d
first_or d (e ∷ es) = e

abbrev rest_of : List Event → List Event
rest_of [] = []
rest_of (e ∷ es) = es

-- an event of it is one that nothing has to bring, or stands first and was brought
brought_at : (L : Language) (O : Outside) (x : Session) (es front back : List Event) (e : Event) → AreBrought L O x es → es ≡ front ++ e ∷ back → ((front ≡ []) × IsBrought L O x e) ⊎ IsOwn L O x e
brought_at L O x [] [] back e brought is = absurd (let f : [] ≡ e ∷ back = is in cc f)
brought_at L O x [] (g ∷ front) back e brought is = absurd (let f : [] ≡ g ∷ front ++ e ∷ back = is in cc f)
brought_at L O x (g ∷ es) [] back e brought is = inl (refl, subst (λ h. IsBrought L O x h) (ap (λ l. first_or g l) is) brought.0)
brought_at L O x (g ∷ es) (f ∷ front) back e brought is = inr (own_at L O x es front back e brought.1 (ap rest_of is))

-- ## The law
pub turn_keeps_rules : Journals → TurnKeepsRules
turn_keeps_rules laws L O x payload j t kept none is_j means may =
    let y = with_record x payload in
    let own_is : own L O y ≡ own L O x ++ t ∷ [] = own_more laws L O x payload j t is_j means may.session may.waits in
    let before_is : config_before (journal L y.payloads) x.number ≡ config_before (journal L x.payloads) x.number = before_stays laws L O x payload j t is_j means may.session may.waits in
    let reading_is : (w : ℕ) → reading L O y w ≡ reading L O x w = λ w. ap (λ c. reading_by (last_of c) x.deeds w) before_is in
    let config_is : (w : ℕ) → w < polls x.deeds → config L O y w ≡ config L O x w = config_stays laws L O x payload j t is_j means may.session may.waits in
    let same : (w : ℕ) → w < polls x.deeds → SameAt L O x y w = λ w lt. record { config = config_is w lt; reading = reading_is w } in
    let stand : (w : ℕ) (e : Event) → StandsFirst (own L O x) w e → StandsFirst (own L O y) w e = first_stays laws L O x payload j t is_j means may.session may.waits in
    let ahead : (before behind : List Deed) (until : ℕ) (h : Heard) → Comes L O x before (Poll until h) behind → polls before < polls x.deeds = λ before behind until h comes. omega (arith, ap polls comes, polls-append before (Poll until h ∷ behind)) in
    let nil : x.deeds ≡ x.deeds ++ [] = sym (append-nil x.deeds) in
    record {
      calls = λ before behind k to bytes comes.
          start_carried L O x y before k to bytes (same (polls before) (may.nothing_sent before behind (Start k to bytes) comes tt)) (kept.calls before behind k to bytes comes);
      waits = record {
        polls_wait = λ before behind until h comes. poll_carried L O x y before until (same (polls before) (ahead before behind until h comes)) refl (kept.waits.polls_wait before behind until h comes);
        drops_closed = λ before behind k c comes at. kept.waits.drops_closed before behind k c comes (sym (config_is (polls before) (may.nothing_sent before behind (Drop k) comes tt)) ∙ at);
        at_end = λ is. absurd (no_end x 13 none is);
      };
      answers = record {
        only = λ u k r a p. elim (split_of_more (own L O x) t p.earlier u p.later (sym own_is ∙ p.turn)) [
          | inl s ↦
              let q = kept.answers.only u k r a (record { earlier = p.earlier; later = s.rest; turn = s.is; front = p.front; back = p.back; event = p.event }) in
              (record { of_turn = q.0.of_turn; of_waits = q.0.of_waits }, answered_carried L O x y [] u.waits k a nil q.1)
          | inr s ↦
              let waits : u.waits ≡ polls x.deeds = ap (λ (v : Turn). v.waits) s.last ∙ may.waits in
              ⊎_elim
              (λ first. (
                record {
                  of_turn = first.0;
                  of_waits = subst (λ ts. All (λ (v : Turn). v.waits ≢ u.waits) ts) (sym s.all) (subst (λ n. All (λ (v : Turn). v.waits ≢ n) (own L O x)) (sym waits) first.1.1);
                },
                subst (λ n. AnsweredAt L O y n k a) (sym waits) (answered_carried L O x y [] (polls x.deeds) k a nil first.1.0),
              ))
              (λ no. absurd no)
              (brought_at L O x t.events p.front p.back (plain.Answer k r a) may.brought (ap (λ (v : Turn). v.events) (sym s.last) ∙ p.event))
        ];
        taken = λ before behind until h k a c comes ans at still gone.
            let (r, there) = kept.answers.taken before behind until h k a c comes (answers_carried L O y x before (Poll until h) h.what k a ans) (sym (config_is (polls before) (ahead before behind until h comes)) ∙ at) still gone in
            (r, stand (suc (polls before)) (plain.Answer k r a) there);
      };
      readings = record {
        waits = subst (λ ts. All (λ (u : Turn). u.waits ≤ polls x.deeds) ts) (sym own_is) (All-push (λ (u : Turn). u.waits ≤ polls x.deeds) (own L O x) t kept.readings.waits (omega (arith, may.waits)));
        readings = λ u e r p is. elim (split_of_more (own L O x) t p.earlier u p.later (sym own_is ∙ p.turn)) [
          | inl s ↦ kept.readings.readings u e r (record { earlier = p.earlier; later = s.rest; turn = s.is; front = p.front; back = p.back; event = p.event }) is ∙ sym (reading_is u.waits)
          | inr s ↦
              may.readings e r p.front p.back (ap (λ (v : Turn). v.events) (sym s.last) ∙ p.event) is
              ∙ ap (λ n. reading L O x n) (sym (ap (λ (v : Turn). v.waits) s.last ∙ may.waits))
              ∙ sym (reading_is u.waits)
        ];
        once = λ some. may.clock;
        first = kept.readings.first;
        at_most = kept.readings.at_most;
        none = λ c resumes was ended. kept.readings.none c resumes (sym before_is ∙ was) ended;
      };
      visits = record {
        replies = λ before behind n bytes comes.
            reply_carried L O x y before n bytes (λ w lt. config_is w (omega (arith, lt, front_polls x.deeds before behind (Reply n bytes) comes))) stand (kept.visits.replies before behind n bytes comes);
        replied = λ before behind until h choice v comes dec waited.
            kept.visits.replied before behind until h choice v comes (decides_carried L O y x before h.what choice v (sym (config_is (polls before) (ahead before behind until h comes))) dec) waited;
        only = λ u n r v p. elim (split_of_more (own L O x) t p.earlier u p.later (sym own_is ∙ p.turn)) [
          | inl s ↦
              let o : Place (own L O x) u (plain.Arrive n r v) = record { earlier = p.earlier; later = s.rest; turn = s.is; front = p.front; back = p.back; event = p.event } in
              let q = kept.visits.only u n r v o in
              let le : u.waits ≤ polls x.deeds = in_place (λ (w : Turn). w.waits ≤ polls x.deeds) (own L O x) u (plain.Arrive n r v) kept.readings.waits o in
              (record { of_turn = q.0.of_turn; of_waits = q.0.of_waits }, (q.1.0, decided_carried L O x y [] u.waits q.1.0 (Arrives n v) nil (λ w lt. config_is w (omega (arith, lt, le))) q.1.1))
          | inr s ↦
              let waits : u.waits ≡ polls x.deeds = ap (λ (w : Turn). w.waits) s.last ∙ may.waits in
              ⊎_elim
              (λ first. (
                record {
                  of_turn = first.0;
                  of_waits = subst (λ ts. All (λ (w : Turn). w.waits ≢ u.waits) ts) (sym s.all) (subst (λ m. All (λ (w : Turn). w.waits ≢ m) (own L O x)) (sym waits) first.1.1);
                },
                (first.1.0.0, subst (λ m. DecidedAt L O y m first.1.0.0 (Arrives n v)) (sym waits) (decided_carried L O x y [] (polls x.deeds) first.1.0.0 (Arrives n v) nil config_is first.1.0.1)),
              ))
              (λ no. absurd no)
              (brought_at L O x t.events p.front p.back (plain.Arrive n r v) may.brought (ap (λ (w : Turn). w.events) (sym s.last) ∙ p.event))
        ];
      };
    }
