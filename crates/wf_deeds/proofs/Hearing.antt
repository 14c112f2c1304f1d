-- What an engine stands for once it heard something.
use Rattle.std.specs.Prelude.{◌≡◌, ◌≢◌, ◌⊎◌, ◌≤◌, ◌&&◌, ℕ, suc, max, true, false, IsTrue, is_some, nat_eq, nat_le, nat_lt, if◌then◌else◌, List, [], ◌∷◌, ◌++◌, length, take, Option, Some, None, option_map, option_and_then}
use Rattle.std.proofs.Common.{inl, inr, ⊎_elim, refl, sym, ◌∙◌, ap, subst, arith, length-append}
use Rattle.std.proofs.lemmas.Bool.{and_from, eq-eqb, eqb-true, le-leb, leb-true, or_left, or_right, and_parts}
use Rattle.std.proofs.lemmas.List.{append-nil, take_all}
use Rattle.std.proofs.lemmas.List.Elements.{All-weaker}
use Rattle.wf_lemmas.proofs.Bools.{or_none}
use Rattle.wf_deeds.proofs.Answered.{OneAnswered}
use Rattle.wf_deeds.proofs.Carried.{decides_carried, answers_carried}
use Rattle.wf_deeds.proofs.DeedMore.{front_polls, one_of}
use Rattle.wf_deeds.proofs.Lists.{polls-append, nows-append, poll_readings-append, readings_of_polls, was_started-append, was_dropped-append, was_replied_more, split_at}
use Rattle.wf_deeds.proofs.Sending.{stands_at, quiet_at, last_split}
use Rattle.wf_deeds.proofs.Splits.{split_of_more}
use Rattle.wf_deeds.proofs.Telling.{told_of_new, told_of_started, visits_on-append}
use Rattle.wf_deeds.proofs.Visits.{bool_case, decision_is, find_put, undecided_put, weight_of, piece, piece_by, heard_is, piece_number}
use Rattle.wf_deeds.specs.Deeds.{polls, nows, poll_readings, greatest, reading_by, was_started, was_dropped, was_replied, before_poll, Told, tells, told_of, IsAnswered, ComesTo, Visit, Decision, decision, visits_after, hears_visit, put_visit, find_visit, undecided as undecided_in, poll_at}
use Rattle.wf_host.specs.World.{call_of, visit_of}
use Rattle.wf_deeds.specs.Kept.{IsOpen, Decides, own, reading_of, last_of}
use Rattle.wf_deeds.specs.Memory.{Owed, Memory, IsAnswerTo, IsOfOutside, session, forgotten, ComesNow, IsAnswerBy, Brings, decided_by, owes_by, arrival_by, visit_by, decision_by}
use Rattle.wf_deeds.specs.Outside.{Outside, Verdict, Arrives, Refuses}
use Rattle.wf_deeds.specs.Rules.{IsSent, IsBrought, NoTurnYet, DeedKeepsRules, with_deed}
use Rattle.wf_deeds.specs.Steps.{HearingLeadsOn, weight, VisitsAre, PollIsKept, HearingGoesOn}
use Rattle.wf_host.specs.declared.data.Deed.{Deed}
use Rattle.wf_host.specs.declared.data.Deed.TheVariants.{Poll}
use Rattle.wf_host.specs.declared.data.Heard.{Heard}
use Rattle.wf_host.specs.declared.data.What.{What}
use Rattle.wf_host.specs.declared.data.What.TheVariants as what
use Rattle.wf_model.specs.Ready.{request_of}
use Rattle.wf_deeds.specs.At.{journal, config_at, config_before}
use Rattle.wf_deeds.specs.History.{Standing}
use Rattle.wf_deeds.specs.Moments.{HistoryStandsThere, is_by}
use Rattle.wf_value.specs.Events as plain
use Rattle.wf_value.specs.Events.{Event, Turn}
use Rattle.wf_value.specs.HttpBody.{Ended, Broke}
use Rattle.wf_value.specs.HttpRequest.{Request}

-- ## Cases
pub opt_case : {A : Type 0} → (P : Option A → Type 0) → (o : Option A) → (o ≡ None → P None) → ((a : A) → o ≡ Some a → P (Some a)) → P o
opt_case P None if_none if_some = if_none refl
opt_case P (Some a) if_none if_some = if_some a refl

same_call : (j k : ℕ) → nat_eq j k ≡ true → Some j ≡ Some k
same_call j k same = ap (λ i. Some i) (eqb-true j k same)

-- it tells of the call, or nothing of it
tells_of : (w : What) (k : ℕ) → (call_of w ≡ Some k) ⊎ ((t : Told) → tells k w t ≡ t)
tells_of (what.Bytes j b) k = bool_case (λ v. (call_of (what.Bytes j b) ≡ Some k) ⊎ ((t : Told) → (if v then record { bytes = t.bytes ++ b; close = t.close } else t) ≡ t)) (nat_eq j k) (λ same. inl (same_call j k same)) (λ _. inr (λ t. refl))
tells_of (what.End j) k = bool_case (λ v. (call_of (what.End j) ≡ Some k) ⊎ ((t : Told) → (if v then record { bytes = t.bytes; close = Ended } else t) ≡ t)) (nat_eq j k) (λ same. inl (same_call j k same)) (λ _. inr (λ t. refl))
tells_of (what.Broken j) k = bool_case (λ v. (call_of (what.Broken j) ≡ Some k) ⊎ ((t : Told) → (if v then record { bytes = t.bytes; close = Broke } else t) ≡ t)) (nat_eq j k) (λ same. inl (same_call j k same)) (λ _. inr (λ t. refl))
tells_of what.Nothing k = inr (λ t. refl)
tells_of (what.Visit n b) k = inr (λ t. refl)
tells_of (what.VisitEnd n) k = inr (λ t. refl)

-- what tells of a visit tells of no call
pub no_call : (w : What) (n : ℕ) → visit_of w ≡ Some n → call_of w ≡ None
no_call (what.Bytes j b) n is = absurd (let f : None ≡ Some n = is in cc f)
no_call (what.End j) n is = absurd (let f : None ≡ Some n = is in cc f)
no_call (what.Broken j) n is = absurd (let f : None ≡ Some n = is in cc f)
no_call what.Nothing n is = refl
no_call (what.Visit m b) n is = refl
no_call (what.VisitEnd m) n is = refl

heard_of : (u v : ℕ) (g h : Heard) → Poll u g ≡ Poll v h → g ≡ h
heard_of u v g h is = cc is

pub visit_there : (o : Option ℕ) (f : ℕ → Option Decision) (c : Decision) → option_and_then f o ≡ Some c → (n : ℕ) × (o ≡ Some n)
visit_there (Some n) f c is = (n, refl)
visit_there None f c is = absurd (let f : None ≡ Some c = is in cc f)

-- ## Readings
greatest-append : (xs ys : List ℕ) → greatest (xs ++ ys) ≡ max (greatest xs) (greatest ys)
greatest-append [] ys = omega arith
greatest-append (x ∷ xs) ys = omega (arith, greatest-append xs ys)

polled : (last : ℕ) (D : List Deed) (until : ℕ) (h : Heard) (w : ℕ) → w ≡ polls D → reading_by last (D ++ Poll until h ∷ []) (suc w) ≡ max (reading_by last D w) h.reading
polled last D until h w count =
    let clocks : nows (D ++ Poll until h ∷ []) ≡ nows D = nows-append D (Poll until h ∷ []) ∙ append-nil (nows D) in
    let all : take (suc w) (poll_readings (D ++ Poll until h ∷ [])) ≡ poll_readings D ++ h.reading ∷ [] =
    ap (take (suc w)) (poll_readings-append D (Poll until h ∷ []))
    ∙ take_all (suc w) (poll_readings D ++ h.reading ∷ []) (omega (arith, count, readings_of_polls D, length-append (poll_readings D) (h.reading ∷ []))) in
    let old : take w (poll_readings D) ≡ poll_readings D = take_all w (poll_readings D) (omega (arith, count, readings_of_polls D)) in
    let left : reading_by last (D ++ Poll until h ∷ []) (suc w) ≡ max last (greatest (nows D ++ (poll_readings D ++ h.reading ∷ []))) =
    ap (λ ts. greatest (last ∷ ts ++ take (suc w) (poll_readings (D ++ Poll until h ∷ [])))) clocks ∙ ap (λ ts. greatest (last ∷ nows D ++ ts)) all in
    let right : reading_by last D w ≡ max last (greatest (nows D ++ poll_readings D)) = ap (λ ts. greatest (last ∷ nows D ++ ts)) old in
    omega (arith, left, right, greatest-append (nows D) (poll_readings D ++ h.reading ∷ []), greatest-append (nows D) (poll_readings D), greatest-append (poll_readings D) (h.reading ∷ []))

-- ## Moments
later_by : (session waits : ℕ) (s : Standing) → IsTrue (is_by session waits s) → IsTrue (is_by session (suc waits) s)
later_by session waits s is = ⊎_elim
    (λ less. or_left (nat_lt s.session session) (nat_eq s.session session && nat_le s.waits (suc waits)) less)
    (λ more.
    let both = and_parts (nat_eq s.session session) (nat_le s.waits waits) more in
    or_right (nat_lt s.session session) (nat_eq s.session session && nat_le s.waits (suc waits))
    (and_from (nat_eq s.session session) (nat_le s.waits (suc waits)) both.0 (le-leb s.waits (suc waits) (let le = leb-true s.waits waits both.1 in omega (arith, le)))))
    (one_of (nat_lt s.session session) (nat_eq s.session session && nat_le s.waits waits) is)

-- ## What was brought
record Gave (m : Memory) (k : ℕ) (h : Heard) (e : Event) : Type 0 where
  still : IsOpen m.config k
  was : m.started k ≡ true
  reply : plain.Reply
  answer : IsAnswered (tells k h.what (m.told k)) (Some reply)
  is : e ≡ plain.Answer k (max m.reading h.reading) reply

some_request : (o : Option Request) → is_some o ≡ true → (q : Request) × (o ≡ Some q)
some_request (Some q) is = (q, refl)
some_request None is = absurd (let f : false ≡ true = is in cc f)

gave : (m : Memory) (k : ℕ) (h : Heard) (o : Option Event) (e : Event) → IsAnswerBy m k h o → o ≡ Some e → Gave m k h e
gave m k h o e (inl none) is = absurd (let f : None ≡ Some e = sym none.1 ∙ is in cc f)
gave m k h o e (inr comes) is =
    let both = and_parts (is_some (request_of m.config k)) (m.started k) comes.awaited in
    by comes.answer comes.answered (sym comes.event ∙ is) (some_request (request_of m.config k) both.0) both.1
  where
    by : (a : Option plain.Reply) → IsAnswered (tells k h.what (m.told k)) a → option_map (plain.Answer k (max m.reading h.reading)) a ≡ Some e → IsOpen m.config k → m.started k ≡ true → Gave m k h e
    by None answered event still was = absurd (let f : None ≡ Some e = event in cc f)
    by (Some reply) answered event still was = record { still = still; was = was; reply = reply; answer = answered; is = let same : plain.Answer k (max m.reading h.reading) reply ≡ e = cc event in sym same }

-- of an open call that was started: the answer, if any, is taken
comes_now : (m : Memory) (k : ℕ) (h : Heard) (o : Option Event) → IsOpen m.config k → m.started k ≡ true → IsAnswerBy m k h o → ComesNow m k h o
comes_now m k h o (q, asks) was (inl none) = absurd (let awaited : true ≡ false = sym (ap (λ r. is_some r && m.started k) asks ∙ was) ∙ none.0 in cc awaited)
comes_now m k h o still was (inr comes) = comes

-- an answer to an open call that was started is taken
gives : OneAnswered → (m : Memory) (k : ℕ) (h : Heard) (o : Option Event) (a : plain.Reply) → IsOpen m.config k → m.started k ≡ true
    → IsAnswered (tells k h.what (m.told k)) (Some a) → IsAnswerBy m k h o → o ≡ Some (plain.Answer k (max m.reading h.reading) a)
gives one m k h o a still was answered by =
    let comes = comes_now m k h o still was by in
    comes.event ∙ ap (option_map (plain.Answer k (max m.reading h.reading))) (one (tells k h.what (m.told k)) comes.answer (Some a) comes.answered answered)

-- a visit that waits for its reply was decided
owed_of : (O : Outside) (m : Memory) (d : Option Decision) (o : Owed) → owes_by O m d ≡ Some o
    → (c : Decision) × (d ≡ Some c) × (o ≡ record { visit = c.visit; verdict = O.verdict m.config c.crowded c.told.bytes c.told.close })
owed_of O m (Some c) o is = (c, refl, let same : record { visit = c.visit; verdict = O.verdict m.config c.crowded c.told.bytes c.told.close } ≡ o = cc is in sym same)
owed_of O m None o is = absurd (let f : None ≡ Some o = is in cc f)

arrived : (v : Verdict) (r : ℕ) (e : Event) → arrival_by v r ≡ Some e → (n : ℕ) × (u : plain.Visitor) × (v ≡ Arrives n u) × (e ≡ plain.Arrive n r u)
arrived (Arrives n u) r e is = (n, u, refl, let same : plain.Arrive n r u ≡ e = cc is in sym same)
arrived (Refuses code) r e is = absurd (let f : None ≡ Some e = is in cc f)

brought_by : (p : Option Owed) (r : ℕ) (e : Event) → option_and_then (λ (o : Owed). arrival_by o.verdict r) p ≡ Some e → (o : Owed) × (p ≡ Some o) × (arrival_by o.verdict r ≡ Some e)
brought_by (Some o) r e is = (o, refl, is)
brought_by None r e is = absurd (let f : None ≡ Some e = is in cc f)

-- ## Visits
module _ (O : Outside) (m : Memory) (h : Heard) (seen : ℕ → Option Visit) (crowd : ℕ) (vs : List Visit) (were : (n : ℕ) → m.visit n ≡ option_map forgotten (find_visit n vs)) (count : m.undecided ≡ undecided_in vs) where
  decided_is : decision O vs h.what ≡ decided_by O m h
  decided_is = decision_is O vs h.what m.undecided m.visit count were

  one_more : (n : ℕ) → Visit
  one_more n = piece h.what n (find_visit n vs) (is_some (decision O vs h.what))

  with_one : (n : ℕ) → hears_visit O vs h.what (Some n) ≡ put_visit (one_more n) vs
  unfolding one_more
  with_one n = heard_is O vs h.what n (find_visit n vs)

  kept_one : (n : ℕ) → forgotten (one_more n) ≡ visit_by h.what n (m.visit n) (is_some (decided_by O m h))
  unfolding one_more
  kept_one n =
      piece_by h.what n (find_visit n vs) (is_some (decision O vs h.what))
      ∙ ap (λ f. visit_by h.what n f (is_some (decision O vs h.what))) (sym (were n))
      ∙ ap (λ d. visit_by h.what n (m.visit n) (is_some d)) decided_is

  found_one : (n j : ℕ) → find_visit j (put_visit (one_more n) vs) ≡ (if nat_eq n j then Some (one_more n) else find_visit j vs)
  unfolding one_more
  found_one n j = find_put (one_more n) vs j ∙ ap (λ i. if nat_eq i j then Some (one_more n) else find_visit j vs) (piece_number h.what n (find_visit n vs) (is_some (decision O vs h.what)))

  number_of : (n : ℕ) → (one_more n).number ≡ n
  unfolding one_more
  number_of n = piece_number h.what n (find_visit n vs) (is_some (decision O vs h.what))

  seen_is : (o : Option ℕ) → VisitsAre O m h seen crowd o → (j : ℕ) → seen j ≡ option_map forgotten (find_visit j (hears_visit O vs h.what o))
  seen_is None are j = are.0 j ∙ were j
  seen_is (Some n) are j =
      are.0 j
      ∙ bool_case (λ b. (if b then Some (visit_by h.what n (m.visit n) (is_some (decided_by O m h))) else m.visit j) ≡ option_map forgotten (if b then Some (one_more n) else find_visit j vs)) (nat_eq n j)
      (λ _. ap (λ v. Some v) (sym (kept_one n)))
      (λ _. were j)
      ∙ ap (option_map forgotten) (sym (found_one n j))
      ∙ ap (λ l. option_map forgotten (find_visit j l)) (sym (with_one n))

  crowd_is : (o : Option ℕ) → VisitsAre O m h seen crowd o → crowd ≡ undecided_in (hears_visit O vs h.what o)
  crowd_is None are = are.1 ∙ count
  crowd_is (Some n) are =
      let number : (one_more n).number ≡ n = number_of n in
      let law = undecided_put (one_more n) vs in
      let before : weight (m.visit n) ≡ weight (find_visit (one_more n).number vs) = ap weight (were n) ∙ weight_of (find_visit n vs) ∙ ap (λ i. weight (find_visit i vs)) (sym number) in
      let after : weight (seen n) ≡ weight (Some (one_more n)) =
      ap weight (seen_is (Some n) are n) ∙ weight_of (find_visit n (hears_visit O vs h.what (Some n)))
      ∙ ap (λ l. weight (find_visit n l)) (with_one n)
      ∙ ap weight (found_one n n)
      ∙ ap (λ b. weight (if b then Some (one_more n) else find_visit n vs)) (eq-eqb n n refl) in
      let sum = are.1 in
      let now = ap undecided_in (with_one n) in
      omega (arith, law, before, after, sum, count, now)

-- ## The laws
pub poll_is_kept : HistoryStandsThere → DeedKeepsRules → PollIsKept
poll_is_kept there rules L O command handed m J D until h s settled active may =
    rules L O (session command handed m J D) (Poll until h) s.kept refl (
      record {
        config = m.config;
        quiet = quiet_at there L O command handed m J D s settled active;
        waits = λ by_itself. let all = may by_itself in record {
          due = all.1;
          started = λ k still. sym (s.started k) ∙ all.0.started k still;
          dropped = λ k was timed. sym (s.dropped k) ∙ all.0.dropped k (s.started k ∙ was) timed;
        };
      },
      s.answers settled.taken,
      s.replies settled.owed,
      s.clock active,
    )

-- ## Where the records lead
pub hearing_leads_on : HearingLeadsOn
hearing_leads_on L m J h told visit undecided taken owed l = record {
  standing = l.standing;
  history = l.history;
  program = l.program;
  config = l.config;
  by_now = later_by m.session m.waits l.standing l.by_now;
  first = l.first;
  numbered = l.numbered;
  format = l.format;
}

pub hearing_goes_on : OneAnswered → HistoryStandsThere → DeedKeepsRules → HearingGoesOn
hearing_goes_on one_answer there rules L O command handed m J D until h told visit undecided taken owed s settled active may hears =
    let x = session command handed m J D in
    let d = Poll until h in
    let E = D ++ d ∷ [] in
    let y = with_deed x d in
    let w = h.what in
    let vs = visits_after O D in
    let count : polls E ≡ suc (polls D) = omega (arith, polls-append D (d ∷ [])) in
    let clocks : nows E ≡ nows D = nows-append D (d ∷ []) ∙ append-nil (nows D) in
    let now : (k : ℕ) → m.started k ≡ true → told_of k E ≡ tells k w (told_of k D) = λ k was. told_of_started k D (d ∷ []) (sym (s.started k) ∙ was) in
    let now_told : (k : ℕ) → IsOpen m.config k → m.started k ≡ true → tells k w (m.told k) ≡ told_of k E = λ k still was. ap (λ t. tells k w t) (s.told k still was) ∙ sym (now k was) in
    let visits : visits_after O E ≡ hears_visit O vs w (visit_of w) = visits_on-append O [] D (d ∷ []) in
    let decided : decision O vs w ≡ decided_by O m h = decided_is O m h visit undecided vs s.visit s.undecided in
    let last : poll_at (polls E) E ≡ Some (split_at D until h []) = last_split E D [] until h refl refl in
    let no_turn : NoTurnYet L O y = All-weaker (λ (t : Turn). t.waits ≤ polls D) (λ (t : Turn). t.waits ≢ polls E) (λ t le is. omega (arith, le, is, count)) (own L O x) s.kept.readings.waits in
    let unanswered : (k : ℕ) → IsOpen m.config k → m.started k ≡ true → ComesTo k D None = λ k still was.
    ⊎_elim (λ to_it. absurd (subst (IsAnswerTo k) settled.taken to_it)) (λ none. none) (s.unanswered active k still was) in
    let answer_now : (k : ℕ) → IsOpen m.config k → m.started k ≡ true → (a : Option plain.Reply) → IsAnswered (tells k w (m.told k)) a → ComesTo k E a = λ k still was a.
    subst (λ (t : Told). IsAnswered t a) (now_told k still was) in
    let of_call : (k : ℕ) → call_of w ≡ Some k → IsAnswerBy m k h taken = λ k is. subst (Brings O m h taken) is hears.taken_is in
    record {
      kept = poll_is_kept there rules L O command handed m J D until h s settled active may;
      leads = hearing_leads_on L m J h told visit undecided taken owed s.leads;
      waits = omega (arith, count, s.waits);
      reading = ap (λ r. max r h.reading) s.reading ∙ sym (polled (last_of (config_before (journal L J) m.session)) D until h m.waits s.waits);
      last = let le = s.last in omega (arith, le);
      clock = λ go. ap length clocks ∙ s.clock go;
      started = λ j. s.started j ∙ sym (or_none (was_started j D)) ∙ sym (was_started-append j D (d ∷ []));
      dropped = λ j. s.dropped j ∙ sym (or_none (was_dropped j D)) ∙ sym (was_dropped-append j D (d ∷ []));
      issued = s.issued;
      told = λ k still was. hears.told_is k still was ∙ now_told k still was;
      unanswered = λ go k still was. ⊎_elim
          (λ of_it.
          let comes = comes_now m k h taken still was (of_call k of_it) in
          opt_case (λ a. comes.answer ≡ a → IsAnswerTo k taken ⊎ ComesTo k E None) comes.answer
          (λ _ none. inr (answer_now k still was None (subst (IsAnswered (tells k w (m.told k))) none comes.answered)))
          (λ a _ some. inl (subst (IsAnswerTo k) (sym (comes.event ∙ ap (option_map (plain.Answer k (max m.reading h.reading))) some)) refl))
          refl)
          (λ not_of_it. inr (subst (λ (t : Told). IsAnswered t None) (sym (now k was ∙ not_of_it (told_of k D))) (unanswered k still was)))
          (tells_of w k);
      settled = λ before behind e comes sent at. elim (split_of_more D d before e behind comes) [
        | inl t ↦ absurd (let le = front_polls D before t.rest e t.is in omega (arith, le, at, count))
        | inr t ↦ absurd (subst (λ g. IsSent L O y g) t.last sent)
      ];
      visit = λ j. seen_is O m h visit undecided vs s.visit s.undecided (visit_of w) hears.visits_are j ∙ ap (λ l. option_map forgotten (find_visit j l)) (sym visits);
      undecided = crowd_is O m h visit undecided vs s.visit s.undecided (visit_of w) hears.visits_are ∙ ap undecided_in (sym visits);
      answers = λ none before behind u g k a c comes ans at still. elim (split_of_more D d before (Poll u g) behind comes) [
        | inl t ↦ s.answers settled.taken before t.rest u g k a c t.is (answers_carried L O y x before (Poll u g) g.what k a ans) at still
        | inr t ↦ absurd (
            let heard : g ≡ h = heard_of u until g h t.last in
            let of_it : call_of w ≡ Some k = ap (λ (i : Heard). call_of i.what) (sym heard) ∙ ans.of_call in
            let deeds : before ++ Poll u g ∷ [] ≡ E = ap (λ l. l ++ Poll u g ∷ []) t.all ∙ ap (λ e. D ++ e ∷ []) t.last in
            let answer : ComesTo k E (Some a) = subst (λ l. ComesTo k l (Some a)) deeds ans.now in
            let before_it : ComesTo k D None = subst (λ l. ComesTo k l None) t.all ans.not_yet in
            let here : Some m.config ≡ Some c = sym (stands_at there L O command handed m J D s) ∙ ap (λ l. config_at (journal L J) m.session (polls l)) (sym t.all) ∙ at in
            let one : m.config ≡ c = cc here in
            let still_here : IsOpen m.config k = subst (λ b. IsOpen b k) (sym one) still in
            bool_case (λ b. m.started k ≡ b → ⊥) (m.started k)
            (λ _ was.
            let some : taken ≡ Some (plain.Answer k (max m.reading h.reading) a) = gives one_answer m k h taken a still_here was (subst (λ (i : Told). IsAnswered i (Some a)) (sym (now_told k still_here was)) answer) (of_call k of_it) in
            let f : None ≡ Some (plain.Answer k (max m.reading h.reading) a) = sym none ∙ some in cc f)
            (λ _ was_not.
            let unstarted : was_started k D ≡ false = sym (s.started k) ∙ was_not in
            let nothing : told_of k E ≡ told_of k D = told_of_new k D (d ∷ []) unstarted ∙ sym (told_of_new k D [] unstarted) ∙ ap (told_of k) (append-nil D) in
            let f : Some a ≡ None = one_answer (told_of k D) (Some a) None (subst (λ (i : Told). IsAnswered i (Some a)) nothing answer) before_it in cc f)
            refl)
      ];
      taken = λ e has. opt_case (λ c. Brings O m h taken c → call_of w ≡ c → IsBrought L O y e × IsOfOutside e × (reading_of e ≡ Some (max m.reading h.reading))) (call_of w)
          (λ _ brings _.
          let (o, owes, arrives) = brought_by (owes_by O m (decided_by O m h)) (max m.reading h.reading) e (sym brings ∙ has) in
          let (choice, chosen, same) = owed_of O m (decided_by O m h) o owes in
          let (n, v, verdict, event) = arrived o.verdict (max m.reading h.reading) e arrives in
          let by : Decides L O y D w choice (Arrives n v) = record {
            decides = decided ∙ chosen;
            config = m.config;
            at = stands_at there L O command handed m J D s;
            verdict = sym verdict ∙ ap (λ (p : Owed). p.verdict) same;
          } in
          subst (λ f. IsBrought L O y f × IsOfOutside f × (reading_of f ≡ Some (max m.reading h.reading))) (sym event)
          (((choice, record { split = split_at D until h []; poll = last; decides = by }), no_turn), tt, refl))
          (λ k _ brings of_it.
          let g = gave m k h taken e brings has in
          subst (λ f. IsBrought L O y f × IsOfOutside f × (reading_of f ≡ Some (max m.reading h.reading))) (sym g.is) (
            (
              record {
                split = split_at D until h [];
                poll = last;
                answers = record { of_call = of_it; now = answer_now k g.still g.was (Some g.reply) g.answer; not_yet = unanswered k g.still g.was };
              },
              no_turn,
            ),
            tt,
            refl,
          ))
          hears.taken_is refl;
      replies = λ none before behind u g choice v comes dec. elim (split_of_more D d before (Poll u g) behind comes) [
        | inl t ↦ subst (λ l. was_replied choice.visit (before_poll l) ≡ true) (sym t.follows)
            (was_replied_more choice.visit t.rest (d ∷ []) (s.replies settled.owed before t.rest u g choice v t.is (decides_carried L O y x before g.what choice v refl dec)))
        | inr t ↦ absurd (
            let heard : g ≡ h = heard_of u until g h t.last in
            let chosen : decided_by O m h ≡ Some choice = sym decided ∙ ap (λ l. decision O (visits_after O l) w) (sym t.all) ∙ ap (λ (i : Heard). decision O (visits_after O before) i.what) (sym heard) ∙ dec.decides in
            let f : None ≡ Some (record { visit = choice.visit; verdict = O.verdict m.config choice.crowded choice.told.bytes choice.told.close }) = sym none ∙ hears.owed_is ∙ ap (owes_by O m) chosen in cc f)
      ];
      owed = λ o has.
          let (choice, chosen, same) = owed_of O m (decided_by O m h) o (sym hears.owed_is ∙ has) in
          record {
            split = split_at D until h [];
            last = last;
            decision = choice;
            decided = record { decides = decided ∙ chosen; config = m.config; at = stands_at there L O command handed m J D s; verdict = ap (λ (p : Owed). p.verdict) same };
            visit = ap (λ (p : Owed). p.visit) (sym same);
            once = refl;
          };
      arrival = λ o n v has arrives.
          let owes : owes_by O m (decided_by O m h) ≡ Some o = sym hears.owed_is ∙ has in
          let (choice, chosen, same) = owed_of O m (decided_by O m h) o owes in
          let of_visit = visit_there (visit_of w) (λ i. decision_by O m.undecided i w (m.visit i)) choice chosen in (
            max m.reading h.reading,
            inl (
                subst (Brings O m h taken) (no_call w of_visit.0 of_visit.1) hears.taken_is
                ∙ ap (option_and_then (λ (p : Owed). arrival_by p.verdict (max m.reading h.reading))) owes
                ∙ ap (λ u. arrival_by u (max m.reading h.reading)) arrives),
          );
    }
