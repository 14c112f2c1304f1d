-- What an engine stands for with a call started or dropped, a reply made, or a text printed.
use Rattle.std.specs.Prelude.{◌≡◌, ◌⊎◌, ◌≤◌, ◌<◌, ◌||◌, ℕ, zero, suc, Bool, true, false, IsTrue, nat_eq, if◌then◌else◌, List, [], ◌∷◌, ◌++◌, length, slice_get, Some, None, option_map}
use Rattle.std.proofs.Common.{inl, inr, ⊎_elim, refl, sym, ◌∙◌, ap, subst, arith}
use Rattle.std.proofs.lemmas.Bool.{eq-eqb, eqb-true}
use Rattle.std.proofs.lemmas.List.{append-nil}
use Rattle.wf_lemmas.proofs.Bools.{or_comm, or_none}
use Rattle.wf_deeds.proofs.Carried.{decides_carried, answers_carried}
use Rattle.wf_deeds.proofs.Lists.{IsNoPoll, polls-append, nows-append, was_started-append, was_dropped-append, was_replied-append, was_replied_more, reading_stays, split_at, poll_behind}
use Rattle.wf_deeds.proofs.Splits.{split_of_more}
use Rattle.wf_deeds.proofs.Telling.{told_of_new, told_of_stays, visits_stay, no_polls, all_before_poll}
use Rattle.wf_deeds.specs.Deeds.{polls, nows, reading_by, was_started, was_dropped, was_replied, before_poll, Split, Told, nothing_told, told_of, IsAnswered, ComesTo, Decision, decision, visits_after, find_visit, undecided, poll_at}
use Rattle.wf_deeds.specs.Kept.{Command, Session, IsOpen, IsQuietAt, reading, last_of}
use Rattle.wf_deeds.specs.Memory.{Memory, IsSettled, StandsFor, session, forgotten}
use Rattle.wf_deeds.specs.Outside.{Outside, code_of}
use Rattle.wf_deeds.specs.Rules.{AnswersStand, RepliesAreMade, IsSent, DeedKeepsRules, with_deed}
use Rattle.wf_deeds.specs.Steps.{StartGoesOn, DropGoesOn, ReplyGoesOn, PrintGoesOn, with_calls}
use Rattle.wf_events.specs.View.{address_view}
use Rattle.wf_host.specs.declared.data.Deed.{Deed}
use Rattle.wf_host.specs.declared.data.Deed.TheVariants.{Start, Poll, Now, Reply, Drop, Print}
use Rattle.wf_host.specs.declared.data.Heard.{Heard}
use Rattle.wf_model.specs.Config.{TimedOut, Call, Answered, Config, Active}
use Rattle.wf_model.specs.Ready.{call, quiet, request_in, request_of}
use Rattle.wf_deeds.specs.At.{journal, config_at, config_before}
use Rattle.wf_deeds.specs.Language.{Language}
use Rattle.wf_deeds.specs.Moments.{HistoryStandsThere}
use Rattle.wf_value.specs.Events as plain
use Rattle.wf_value.specs.HttpRequest.{Request}
use Rattle.wf_value.specs.HttpText.{reply_bytes}

-- ## Where the session stands
module _ (there : HistoryStandsThere) (L : Language) (O : Outside) (command : Command) (handed : Bool) (m : Memory) (J : List (List ℕ)) (D : List Deed) (s : StandsFor L O command handed m J D) where
  pub stands_at : config_at (journal L J) m.session (polls D) ≡ Some m.config
  stands_at =
      ap (λ w. config_at (journal L J) m.session w) (sym s.waits)
      ∙ there L J s.leads.standing m.session m.waits s.leads.history s.leads.by_now
      ∙ ap (λ c. Some c) s.leads.config

  pub reads_at : reading L O (session command handed m J D) (polls D) ≡ m.reading
  reads_at = ap (λ w. reading_by (last_of (config_before (journal L J) m.session)) D w) (sym s.waits) ∙ sym s.reading

  pub quiet_at : IsSettled m → m.config.outcome ≡ Active → IsQuietAt L O (session command handed m J D) (polls D) m.config
  quiet_at settled active = record {
    reached = stands_at;
    quiet = ⊎_elim (λ q. subst (λ r. IsTrue (quiet m.config r)) (sym reads_at) q) (λ ended. absurd (ended active)) settled.still;
    active = active;
  }

-- ## With one deed more that is no poll
no_poll : (d : Deed) (until : ℕ) (h : Heard) → IsNoPoll d → Poll until h ≡ d → ⊥
no_poll d until h plain is = subst IsNoPoll (sym is) plain

module _ (L : Language) (O : Outside) (x : Session) (d : Deed) (plain : IsNoPoll d) where
  pub answers_with : AnswersStand L O x → AnswersStand L O (with_deed x d)
  answers_with stand before behind until h k a c comes ans at still = elim (split_of_more x.deeds d before (Poll until h) behind comes) [
    | inl s ↦ stand before s.rest until h k a c s.is (answers_carried L O (with_deed x d) x before (Poll until h) h.what k a ans) at still
    | inr s ↦ absurd (no_poll d until h plain s.last)
  ]

  pub replies_with : RepliesAreMade L O x → RepliesAreMade L O (with_deed x d)
  replies_with made before behind until h choice v comes dec = elim (split_of_more x.deeds d before (Poll until h) behind comes) [
    | inl s ↦ subst (λ l. was_replied choice.visit (before_poll l) ≡ true) (sym s.follows)
        (was_replied_more choice.visit s.rest (d ∷ []) (made before s.rest until h choice v s.is (decides_carried L O (with_deed x d) x before h.what choice v refl dec)))
    | inr s ↦ absurd (no_poll d until h plain s.last)
  ]

-- the parts of what it stands for that such a deed doesn't change
module _ (L : Language) (O : Outside) (command : Command) (handed : Bool) (m : Memory) (J : List (List ℕ)) (D : List Deed) (s : StandsFor L O command handed m J D) (d : Deed) (plain : IsNoPoll d) (unread : nows (d ∷ []) ≡ []) where
  still_polls : polls (D ++ d ∷ []) ≡ polls D
  still_polls = omega (arith, polls-append D (d ∷ []), no_polls d plain)

  still_nows : nows (D ++ d ∷ []) ≡ nows D
  still_nows = nows-append D (d ∷ []) ∙ ap (λ ts. nows D ++ ts) unread ∙ append-nil (nows D)

  still_reading : m.reading ≡ reading_by (last_of (config_before (journal L J) m.session)) (D ++ d ∷ []) m.waits
  still_reading = s.reading ∙ sym (reading_stays (last_of (config_before (journal L J) m.session)) D d m.waits unread (omega (arith, s.waits)))

  still_visit : (n : ℕ) → m.visit n ≡ option_map forgotten (find_visit n (visits_after O (D ++ d ∷ [])))
  still_visit n = s.visit n ∙ ap (λ vs. option_map forgotten (find_visit n vs)) (sym (visits_stay O D d plain))

  still_undecided : m.undecided ≡ undecided (visits_after O (D ++ d ∷ []))
  still_undecided = s.undecided ∙ ap undecided (sym (visits_stay O D d plain))

-- ## Numbers of calls
open_in : (xs : List Call) (n : ℕ) (q : Request) → request_in (elim (slice_get xs n) [ None ↦ Answered | Some x ↦ x ]) ≡ Some q → n < length xs
open_in [] n q is = absurd (let f : None ≡ Some q = is in cc f)
open_in (x ∷ xs) zero q is = omega arith
open_in (x ∷ xs) (suc n) q is = let lt = open_in xs n q is in omega (arith, lt)

pub was_issued : (c : Config) (k : ℕ) (q : Request) → request_of c k ≡ Some q → k ≤ length c.calls
was_issued c zero q is = omega arith
was_issued c (suc n) q is = let lt = open_in c.calls n q is in omega (arith, lt)

not_open : (c : Config) (k : ℕ) → call c k ≡ TimedOut → ¬ IsOpen c k
not_open c k is (q, has) = let f : None ≡ Some q = ap request_in (sym is) ∙ has in cc f

-- ## A call is started
either : (k j : ℕ) (b : Bool) → nat_eq k j || b ≡ true → (j ≡ k) ⊎ (b ≡ true)
either k j b is = (elim (nat_eq k j) as (λ v. nat_eq k j ≡ v → v || b ≡ true → (j ≡ k) ⊎ (b ≡ true)) [
  | true ↦ λ same _. inl (sym (eqb-true k j same))
  | false ↦ λ _ rest. inr rest
]) refl is

pub start_goes_on : IsAnswered nothing_told None → HistoryStandsThere → DeedKeepsRules → StartGoesOn
start_goes_on hears there rules L O command handed m J D k to bytes started told s settled active asks new is =
    let x = session command handed m J D in
    let d = Start k to bytes in
    let E = D ++ d ∷ [] in
    let n = with_calls m started m.dropped told in
    let q : Request = record { address = address_view to; bytes = bytes } in
    let now_started : (j : ℕ) → started j ≡ was_started j E = λ j.
    is.is j ∙ ap (λ b. nat_eq k j || b) (s.started j) ∙ or_comm (nat_eq k j) (was_started j D)
    ∙ ap (λ b. was_started j D || b) (sym (or_none (nat_eq k j))) ∙ sym (was_started-append j D (d ∷ [])) in
    let old_told : (j : ℕ) → m.started j ≡ true → told_of j E ≡ told_of j D = λ j was. told_of_stays j D d tt (sym (s.started j) ∙ was) in
    let new_told : told_of k E ≡ nothing_told = told_of_new k D (d ∷ []) (sym (s.started k) ∙ new)
    ∙ ap (λ v. if v then nothing_told else nothing_told) (eq-eqb k k refl) in
    let answers = answers_with L O x d tt (s.answers settled.taken) in
    let replies = replies_with L O x d tt (s.replies settled.owed) in
    record {
      kept = rules L O x d s.kept refl (
        record {
          config = m.config;
          quiet = quiet_at there L O command handed m J D s settled active;
          request = asks;
          once = sym (s.started k) ∙ new;
        },
        s.answers settled.taken,
        s.clock active,
      );
      leads = record { standing = s.leads.standing; history = s.leads.history; program = s.leads.program; config = s.leads.config; by_now = s.leads.by_now; first = s.leads.first; numbered = s.leads.numbered; format = s.leads.format };
      waits = s.waits ∙ sym (still_polls L O command handed m J D s d tt refl);
      reading = still_reading L O command handed m J D s d tt refl;
      last = s.last;
      clock = λ go. ap length (still_nows L O command handed m J D s d tt refl) ∙ s.clock go;
      started = now_started;
      dropped = λ j. s.dropped j ∙ sym (or_none (was_dropped j D)) ∙ sym (was_dropped-append j D (d ∷ []));
      issued = λ j was. ⊎_elim (λ same. subst (λ i. i ≤ length m.config.calls) (sym same) (was_issued m.config k q asks)) (λ old. s.issued j old) (either k j (m.started j) (sym (is.is j) ∙ was));
      told = λ j still was. ⊎_elim
          (λ same. subst (λ i. told i ≡ told_of i E) (sym same) (is.first ∙ sym new_told))
          (λ old. is.others j old ∙ s.told j still old ∙ sym (old_told j old))
          (either k j (m.started j) (sym (is.is j) ∙ was));
      unanswered = λ go j still was. ⊎_elim
          (λ same. inr (subst (λ i. ComesTo i E None) (sym same) (subst (λ (t : Told). IsAnswered t None) (sym new_told) hears)))
          (λ old. ⊎_elim (λ to_it. inl to_it) (λ none. inr (subst (λ (t : Told). IsAnswered t None) (sym (old_told j old)) none)) (s.unanswered go j still old))
          (either k j (m.started j) (sym (is.is j) ∙ was));
      settled = λ before behind e comes sent at. record { taken = settled.taken; owed = settled.owed; still = settled.still };
      visit = still_visit L O command handed m J D s d tt refl;
      undecided = still_undecided L O command handed m J D s d tt refl;
      answers = λ none. answers;
      taken = λ e has. absurd (let f : None ≡ Some e = sym settled.taken ∙ has in cc f);
      replies = λ none. replies;
      owed = λ o has. absurd (let f : None ≡ Some o = sym settled.owed ∙ has in cc f);
      arrival = λ o e v has. absurd (let f : None ≡ Some o = sym settled.owed ∙ has in cc f);
    }

-- ## A call is dropped
pub drop_goes_on : HistoryStandsThere → DeedKeepsRules → DropGoesOn
drop_goes_on there rules L O command handed m J D k dropped s settled timed is =
    let x = session command handed m J D in
    let d = Drop k in
    let E = D ++ d ∷ [] in
    let old_told : (j : ℕ) → m.started j ≡ true → told_of j E ≡ told_of j D = λ j was. told_of_stays j D d tt (sym (s.started j) ∙ was) in
    let answers = answers_with L O x d tt (s.answers settled.taken) in
    let replies = replies_with L O x d tt (s.replies settled.owed) in
    record {
      kept = rules L O x d s.kept refl (λ c at. let same : Some m.config ≡ Some c = sym (stands_at there L O command handed m J D s) ∙ at in let one : m.config ≡ c = cc same in subst (λ b. ¬ IsOpen b k) one (not_open m.config k timed));
      leads = record { standing = s.leads.standing; history = s.leads.history; program = s.leads.program; config = s.leads.config; by_now = s.leads.by_now; first = s.leads.first; numbered = s.leads.numbered; format = s.leads.format };
      waits = s.waits ∙ sym (still_polls L O command handed m J D s d tt refl);
      reading = still_reading L O command handed m J D s d tt refl;
      last = s.last;
      clock = λ go. ap length (still_nows L O command handed m J D s d tt refl) ∙ s.clock go;
      started = λ j. s.started j ∙ sym (or_none (was_started j D)) ∙ sym (was_started-append j D (d ∷ []));
      dropped = λ j.
          is j ∙ ap (λ b. nat_eq k j || b) (s.dropped j) ∙ or_comm (nat_eq k j) (was_dropped j D)
          ∙ ap (λ b. was_dropped j D || b) (sym (or_none (nat_eq k j))) ∙ sym (was_dropped-append j D (d ∷ []));
      issued = s.issued;
      told = λ j still was. s.told j still was ∙ sym (old_told j was);
      unanswered = λ go j still was. ⊎_elim (λ to_it. inl to_it) (λ none. inr (subst (λ (t : Told). IsAnswered t None) (sym (old_told j was)) none)) (s.unanswered go j still was);
      settled = λ before behind e comes sent at. record { taken = settled.taken; owed = settled.owed; still = settled.still };
      visit = still_visit L O command handed m J D s d tt refl;
      undecided = still_undecided L O command handed m J D s d tt refl;
      answers = λ none. answers;
      taken = λ e has. absurd (let f : None ≡ Some e = sym settled.taken ∙ has in cc f);
      replies = λ none. replies;
      owed = λ o has. absurd (let f : None ≡ Some o = sym settled.owed ∙ has in cc f);
      arrival = λ o e v has. absurd (let f : None ≡ Some o = sym settled.owed ∙ has in cc f);
    }

-- ## A reply is made
nat_case : (P : Type 0) (n : ℕ) → (n ≡ 0 → P) → (1 ≤ n → P) → P
nat_case P zero none some = none refl
nat_case P (suc n) none some = some (omega arith)

-- the split at the last poll
pub last_split : (D before behind : List Deed) (until : ℕ) (h : Heard) → D ≡ before ++ Poll until h ∷ behind → polls behind ≡ 0 → poll_at (polls D) D ≡ Some (split_at before until h behind)
last_split D before behind until h is none =
    let count : polls D ≡ suc (polls before) = omega (arith, none, ap polls is, polls-append before (Poll until h ∷ behind)) in
    ap (λ w. poll_at w D) count ∙ ap (λ l. poll_at (suc (polls before)) l) is ∙ poll_behind [] before until h behind

pub reply_goes_on : HistoryStandsThere → DeedKeepsRules → ReplyGoesOn
reply_goes_on there rules L O command handed m J D o s untaken waiting =
    let x = session command handed m J D in
    let w = s.owed o waiting in
    let bytes = reply_bytes (code_of o.verdict) in
    let d = Reply o.visit bytes in
    let E = D ++ d ∷ [] in
    let old_told : (j : ℕ) → m.started j ≡ true → told_of j E ≡ told_of j D = λ j was. told_of_stays j D d tt (sym (s.started j) ∙ was) in
    let answers = answers_with L O x d tt (s.answers untaken) in
    let replies : RepliesAreMade L O (with_deed x d) = λ before behind until h choice v comes dec. elim (split_of_more D d before (Poll until h) behind comes) [
      | inl t ↦
          let old = decides_carried L O (with_deed x d) x before h.what choice v refl dec in
          subst (λ l. was_replied choice.visit (before_poll l) ≡ true) (sym t.follows)
          (nat_case (was_replied choice.visit (before_poll (t.rest ++ d ∷ [])) ≡ true) (polls t.rest)
          (λ none.
          let at : Some (split_at before until h t.rest) ≡ Some w.split = sym (last_split D before t.rest until h t.is none) ∙ w.last in
          let same : split_at before until h t.rest ≡ w.split = cc at in
          let two : Some choice ≡ Some w.decision =
          sym old.decides ∙ ap (λ (p : Split). decision O (visits_after O p.before) p.what) same ∙ w.decided.decides in
          let one : choice ≡ w.decision = cc two in
          let visit : choice.visit ≡ o.visit = ap (λ (c : Decision). c.visit) one ∙ w.visit in
          ap (λ l. was_replied choice.visit l) (all_before_poll (t.rest ++ d ∷ []) (omega (arith, none, polls-append t.rest (d ∷ []))))
          ∙ was_replied-append choice.visit t.rest (d ∷ [])
          ∙ ap (λ b. was_replied choice.visit t.rest || (b || false)) (eq-eqb o.visit choice.visit (sym visit))
          ∙ or_comm (was_replied choice.visit t.rest) true)
          (λ some. was_replied_more choice.visit t.rest (d ∷ []) (s.kept.visits.replied before t.rest until h choice v t.is old (inl some))))
      | inr t ↦ absurd (no_poll d until h tt t.last)
    ] in
    record {
      kept = rules L O x d s.kept refl (record {
        split = w.split;
        last = w.last;
        decision = w.decision;
        verdict = o.verdict;
        decided = w.decided;
        visit = w.visit;
        once = w.once;
        reply = refl;
        arrived = λ e r is.
            let (t, stands) = s.arrival o e r waiting is in
            (t, ⊎_elim (λ has. absurd (let f : None ≡ Some (plain.Arrive e t r) = sym untaken ∙ has in cc f)) (λ first. first) stands);
      });
      leads = record { standing = s.leads.standing; history = s.leads.history; program = s.leads.program; config = s.leads.config; by_now = s.leads.by_now; first = s.leads.first; numbered = s.leads.numbered; format = s.leads.format };
      waits = s.waits ∙ sym (still_polls L O command handed m J D s d tt refl);
      reading = still_reading L O command handed m J D s d tt refl;
      last = s.last;
      clock = λ go. ap length (still_nows L O command handed m J D s d tt refl) ∙ s.clock go;
      started = λ j. s.started j ∙ sym (or_none (was_started j D)) ∙ sym (was_started-append j D (d ∷ []));
      dropped = λ j. s.dropped j ∙ sym (or_none (was_dropped j D)) ∙ sym (was_dropped-append j D (d ∷ []));
      issued = s.issued;
      told = λ j still was. s.told j still was ∙ sym (old_told j was);
      unanswered = λ go j still was. ⊎_elim (λ to_it. inl to_it) (λ none. inr (subst (λ (t : Told). IsAnswered t None) (sym (old_told j was)) none)) (s.unanswered go j still was);
      settled = λ before behind e comes sent at. elim (split_of_more D d before e behind comes) [
        | inl t ↦ absurd (
            let old = s.settled before t.rest e t.is (sent_too e sent) (at ∙ still_polls L O command handed m J D s d tt refl) in
            let f : None ≡ Some o = sym old.owed ∙ waiting in cc f)
        | inr t ↦ absurd (subst (λ g. IsSent L O (with_deed x d) g) t.last sent)
      ];
      visit = still_visit L O command handed m J D s d tt refl;
      undecided = still_undecided L O command handed m J D s d tt refl;
      answers = λ none. answers;
      taken = λ e has. absurd (let f : None ≡ Some e = sym untaken ∙ has in cc f);
      replies = λ none. replies;
      owed = λ p has. absurd (let f : None ≡ Some p = has in cc f);
      arrival = λ p e v has. absurd (let f : None ≡ Some p = has in cc f);
    }
  where
    sent_too : (e : Deed) → IsSent L O (with_deed (session command handed m J D) (Reply o.visit (reply_bytes (code_of o.verdict)))) e → IsSent L O (session command handed m J D) e
    sent_too (Start k to b) is = tt
    sent_too (Drop k) is = tt
    sent_too (Poll until h) is = absurd is
    sent_too (Now t) is = absurd is
    sent_too (Reply n b) is = absurd is
    sent_too (Print b) is = absurd is

-- ## A text is printed
pub print_goes_on : DeedKeepsRules → PrintGoesOn
print_goes_on rules L O command handed m J D text s untaken unowed =
    let x = session command handed m J D in
    let d = Print text in
    let E = D ++ d ∷ [] in
    let old_told : (j : ℕ) → m.started j ≡ true → told_of j E ≡ told_of j D = λ j was. told_of_stays j D d tt (sym (s.started j) ∙ was) in
    let answers = answers_with L O x d tt (s.answers untaken) in
    let replies = replies_with L O x d tt (s.replies unowed) in
    record {
      kept = rules L O x d s.kept refl tt;
      leads = record { standing = s.leads.standing; history = s.leads.history; program = s.leads.program; config = s.leads.config; by_now = s.leads.by_now; first = s.leads.first; numbered = s.leads.numbered; format = s.leads.format };
      waits = s.waits ∙ sym (still_polls L O command handed m J D s d tt refl);
      reading = still_reading L O command handed m J D s d tt refl;
      last = s.last;
      clock = λ go. ap length (still_nows L O command handed m J D s d tt refl) ∙ s.clock go;
      started = λ j. s.started j ∙ sym (or_none (was_started j D)) ∙ sym (was_started-append j D (d ∷ []));
      dropped = λ j. s.dropped j ∙ sym (or_none (was_dropped j D)) ∙ sym (was_dropped-append j D (d ∷ []));
      issued = s.issued;
      told = λ j still was. s.told j still was ∙ sym (old_told j was);
      unanswered = λ go j still was. ⊎_elim (λ to_it. inl to_it) (λ none. inr (subst (λ (t : Told). IsAnswered t None) (sym (old_told j was)) none)) (s.unanswered go j still was);
      settled = λ before behind e comes sent at. elim (split_of_more D d before e behind comes) [
        | inl t ↦ s.settled before t.rest e t.is (sent_too e sent) (at ∙ still_polls L O command handed m J D s d tt refl)
        | inr t ↦ absurd (subst (λ g. IsSent L O (with_deed x d) g) t.last sent)
      ];
      visit = still_visit L O command handed m J D s d tt refl;
      undecided = still_undecided L O command handed m J D s d tt refl;
      answers = λ none. answers;
      taken = λ e has. absurd (let f : None ≡ Some e = sym untaken ∙ has in cc f);
      replies = λ none. replies;
      owed = λ o has. absurd (let f : None ≡ Some o = sym unowed ∙ has in cc f);
      arrival = λ o e v has. absurd (let f : None ≡ Some o = sym unowed ∙ has in cc f);
    }
  where
    sent_too : (e : Deed) → IsSent L O (with_deed (session command handed m J D) (Print text)) e → IsSent L O (session command handed m J D) e
    sent_too (Start k to b) is = tt
    sent_too (Drop k) is = tt
    sent_too (Poll until h) is = absurd is
    sent_too (Now t) is = absurd is
    sent_too (Reply n b) is = absurd is
    sent_too (Print b) is = absurd is
