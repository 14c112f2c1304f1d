-- Histories, one of which goes on from the other.
use Rattle.std.specs.Prelude.{◌≡◌, ◌≢◌, ◌⊎◌, ◌<◌, ◌≤◌, ◌&&◌, ◌||◌, ℕ, zero, suc, Bool, true, false, IsTrue, nat_eq, nat_le, nat_lt, List, [], ◌∷◌, ◌++◌, length, slice_get, if◌then◌else◌, Some, None, Ok}
use Rattle.std.proofs.Common.{inl, inr, ⊎_elim, refl, sym, ◌∙◌, ap, subst, arith, append_assoc}
use Rattle.std.proofs.lemmas.Bool.{and_from, eq-eqb, eqb-true, le-leb, leb-true, lt-ltb, ltb-true, or_left, or_right, and_parts}
use Rattle.std.proofs.lemmas.Grind.{flat_map-append}
use Rattle.wf_lemmas.proofs.Lists.{same_head, same_tail}
use Rattle.wf_ast.specs.Tree.{Program}
use Rattle.wf_events.specs.Reading.{meaning}
use Rattle.wf_model.specs.Config.{Active, Answered, Call, Config, After, To, Wrong, NotNow}
use Rattle.wf_model.specs.Ready.{request_in, request_of}
use Rattle.wf_model.specs.Run.{Run, events_to, is_before, run, run_on}
use Rattle.wf_model.specs.RunLaws.{FrontIsARun, NothingFollowsAnOutcome, RequestsStay, RunsAgree}
use Rattle.wf_deeds.proofs.HistoryMoments.{journal_of, more_turns, turns_in-append, with_more}
use Rattle.wf_deeds.specs.At.{Journal, config_at, journal, last_session, next_session, reached, turns_in}
use Rattle.wf_deeds.specs.History.{Standing, events, goes_on_at, history, in_order, turns_of}
use Rattle.wf_deeds.specs.Language.{Language}
use Rattle.wf_deeds.specs.HistoryLaws.{ComputedIsHistory}
use Rattle.wf_value.specs.Events.{Event, Turn}
use Rattle.wf_value.specs.HttpRequest.{Request}

-- ## A history's journal
-- what some records that are a history are
pub record Facts (L : Language) (J : List (List ℕ)) (c : Config) : Type 0 where
  pub found : Journal
  pub is : journal L J ≡ Some found
  pub order : IsTrue (in_order 0 0 found.turns)
  pub whole : Run found.program found.start (events found.turns) c

pub facts : ComputedIsHistory → (L : Language) (J : List (List ℕ)) (s : Standing) → history L J ≡ Ok s → Facts L J s.config
unfolding history
facts computed L [] s is = absurd cc
facts computed L (b ∷ bs) s is = let h = computed L (b ∷ bs) s is in record {
  found = record { start = h.start; program = h.program; turns = turns_of h.rest };
  is = journal_of L b bs s.config h;
  order = h.order;
  whole = h.one_run;
}

-- ## More records
more_records : (L : Language) (J more : List (List ℕ)) (j : Journal) → journal L J ≡ Some j → journal L (J ++ more) ≡ Some (with_more j (turns_in more))
more_records L [] more j is = absurd cc
more_records L (b ∷ bs) more j is = more_turns L (meaning b) (turns_in bs) (turns_in (bs ++ more)) (turns_in more) j is (turns_in-append bs more)

-- a longer history has the start of the shorter one, and more turns
pub longer : (L : Language) (J K more : List (List ℕ)) (c d : Config) (f : Facts L J c) (g : Facts L K d) → K ≡ J ++ more → g.found ≡ with_more f.found (turns_in more)
longer L J K more c d f g same =
    let two : Some g.found ≡ Some (with_more f.found (turns_in more)) = sym g.is ∙ ap (λ bs. journal L bs) same ∙ more_records L J more f.found f.is in cc two

events-append : (ts us : List Turn) → events (ts ++ us) ≡ events ts ++ events us
events-append ts us = flat_map-append (λ (t : Turn). t.events) ts us

-- ## Outcomes
from_nowhere : (p : Program) (es : List Event) → run_on p NotNow es ≡ NotNow
from_nowhere p [] = refl
from_nowhere p (e ∷ es) = refl

no_way_on : NothingFollowsAnOutcome → (p : Program) (c d : Config) (es : List Event) → c.outcome ≢ Active → run_on p (To c) es ≡ To d → c ≡ d
no_way_on nothing p c d [] ended on = cc on
no_way_on nothing p c d (e ∷ es) ended on =
    absurd (let no : NotNow ≡ To d = sym (ap (λ a. run_on p a es) (nothing p c e ended) ∙ from_nowhere p es) ∙ on in cc no)

-- behind an outcome a longer history has the same
pub same_end : FrontIsARun → RunsAgree → NothingFollowsAnOutcome → (L : Language) (J K more : List (List ℕ)) (c d : Config) → Facts L J c → Facts L K d → K ≡ J ++ more → c.outcome ≢ Active → c ≡ d
same_end front agree nothing L J K more c d f g same ended =
    let run_of_all : Run f.found.program f.found.start (events (f.found.turns ++ turns_in more)) d = subst (λ (j : Journal). Run j.program j.start (events j.turns) d) (longer L J K more c d f g same) g.whole in
    let parts : Run f.found.program f.found.start (events f.found.turns ++ events (turns_in more)) d = subst (λ es. Run f.found.program f.found.start es d) (events-append f.found.turns (turns_in more)) run_of_all in
    let (b, there, on) = front f.found.program f.found.start (events f.found.turns) (events (turns_in more)) d parts in
    let at : b ≡ c = agree f.found.program f.found.start (events f.found.turns) b c there f.whole in
    no_way_on nothing f.found.program c d (events (turns_in more)) ended (subst (λ x. run_on f.found.program (To x) (events (turns_in more)) ≡ To d) at on)

-- ## Moments
-- one moment isn't behind another
abbrev NotBehind : ℕ → ℕ → ℕ → ℕ → Type 0
NotBehind a b c d = (a < c) ⊎ ((a ≡ c) × (b ≤ d))

not_behind : (a b c d : ℕ) → IsTrue (nat_lt a c || (nat_eq a c && nat_le b d)) → NotBehind a b c d
not_behind a b c d is =
    (elim (nat_lt a c) as (λ v. nat_lt a c ≡ v → IsTrue (v || (nat_eq a c && nat_le b d)) → NotBehind a b c d) [
      | true ↦ λ lt _. inl (ltb-true a c lt)
      | false ↦ λ _ rest. let (same, le) = and_parts (nat_eq a c) (nat_le b d) rest in inr (eqb-true a c same, leb-true b d le)
    ]) refl is

in_turn : (a b c d e f : ℕ) → NotBehind a b c d → NotBehind c d e f → NotBehind a b e f
in_turn a b c d e f (inl lt) (inl lt2) = inl (omega (arith, lt, lt2))
in_turn a b c d e f (inl lt) (inr (same, le)) = inl (omega (arith, lt, same))
in_turn a b c d e f (inr (same, le)) (inl lt) = inl (omega (arith, lt, same))
in_turn a b c d e f (inr (same, le)) (inr (same2, le2)) = inr (same ∙ same2, omega (arith, le, le2))

module _ (session waits : ℕ) where
  -- behind a turn that comes later, no turn counts
  none_to : (a b : ℕ) (ts : List Turn) → IsTrue (in_order a b ts) → (NotBehind a b session waits → ⊥) → events_to session waits ts ≡ []
  none_to a b [] order behind = refl
  none_to a b (t ∷ ts) order behind =
      let (next_one, rest) = and_parts (goes_on_at a b t) (in_order t.session t.waits ts) order in
      let later : NotBehind t.session t.waits session waits → ⊥ = λ by. behind (in_turn a b t.session t.waits session waits (not_behind a b t.session t.waits next_one) by) in
      (elim (is_before session waits t) as (λ v. is_before session waits t ≡ v → (if v then t.events ++ events_to session waits ts else events_to session waits ts) ≡ []) [
        | true ↦ λ yes. absurd (later (not_behind t.session t.waits session waits yes))
        | false ↦ λ _. none_to t.session t.waits ts rest later
      ]) refl

  -- the events up to a moment stand in front of all
  front_to : (a b : ℕ) (ts : List Turn) → IsTrue (in_order a b ts) → (rest : List Event) × (events ts ≡ events_to session waits ts ++ rest)
  front_to a b [] order = ([], refl)
  front_to a b (t ∷ ts) order =
      let (next_one, rest) = and_parts (goes_on_at a b t) (in_order t.session t.waits ts) order in
      (elim (is_before session waits t) as (λ v. is_before session waits t ≡ v → (rest : List Event) × (t.events ++ events ts ≡ (if v then t.events ++ events_to session waits ts else events_to session waits ts) ++ rest)) [
        | true ↦ λ _. let (more, same) = front_to t.session t.waits ts rest in (more, ap (λ es. t.events ++ es) same ∙ sym (append_assoc t.events (events_to session waits ts) more))
        | false ↦ λ no.
            let not_by : NotBehind t.session t.waits session waits → ⊥ = λ by. absurd (let two : true ≡ false = sym (is_by t.session t.waits by) ∙ no in cc two) in
            (t.events ++ events ts, ap (λ es. es ++ (t.events ++ events ts)) (sym (none_to t.session t.waits ts rest not_by)))
      ]) refl
    where
      is_by : (c d : ℕ) → NotBehind c d session waits → IsTrue (nat_lt c session || (nat_eq c session && nat_le d waits))
      is_by c d (inl lt) = or_left (nat_lt c session) (nat_eq c session && nat_le d waits) (lt-ltb c session lt)
      is_by c d (inr (same, le)) = or_right (nat_lt c session) (nat_eq c session && nat_le d waits) (and_from (nat_eq c session) (nat_le d waits) (eq-eqb c session same) (le-leb d waits le))

-- ## Requests
-- on the run of a journal's turns a call was open with a request
pub record WasOpen (j : Journal) (k : ℕ) (q : Request) : Type 0 where
  pub front : List Event
  pub behind : List Event
  pub all : events j.turns ≡ front ++ behind
  pub config : Config
  pub there : Run j.program j.start front config
  pub request : request_of config k ≡ Some q

reached_to : (a : After) (c : Config) → reached a ≡ Some c → a ≡ To c
reached_to (To b) c is = let same : b ≡ c = cc is in ap To same
reached_to (Wrong k) c is = absurd cc
reached_to NotNow c is = absurd cc

pub was_open : (L : Language) (J : List (List ℕ)) (d : Config) (f : Facts L J d) (session waits : ℕ) (c : Config) (k : ℕ) (q : Request) → config_at (journal L J) session waits ≡ Some c → request_of c k ≡ Some q → WasOpen f.found k q
was_open L J d f session waits c k q at request =
    let (behind, all) = front_to session waits 0 0 f.found.turns f.order in record {
      front = events_to session waits f.found.turns;
      behind = behind;
      all = all;
      config = c;
      there = reached_to (run f.found.program f.found.start (events_to session waits f.found.turns)) c (ap (λ j. config_at j session waits) (sym f.is) ∙ at);
      request = request;
    }

-- also with more turns
pub still_was_open : (j : Journal) (ts : List Turn) (k : ℕ) (q : Request) → WasOpen j k q → WasOpen (with_more j ts) k q
still_was_open j ts k q w = record {
  front = w.front;
  behind = w.behind ++ events ts;
  all = events-append j.turns ts ∙ ap (λ es. es ++ events ts) w.all ∙ append_assoc w.front w.behind (events ts);
  config = w.config;
  there = w.there;
  request = w.request;
}

-- of two fronts of a list one begins with the other
fronts : (us vs ws zs : List Event) → us ++ vs ≡ ws ++ zs → ((es : List Event) × (ws ≡ us ++ es)) ⊎ ((es : List Event) × (us ≡ ws ++ es))
fronts [] vs ws zs same = inl (ws, refl)
fronts (a ∷ us) vs [] zs same = inr (a ∷ us, refl)
fronts (a ∷ us) vs (c ∷ ws) zs same =
    let first : a ≡ c = same_head a c (us ++ vs) (ws ++ zs) same in
    ⊎_elim
    (λ (es, is). inl (es, ap (λ x. x ∷ ws) (sym first) ∙ ap (λ xs. a ∷ xs) is))
    (λ (es, is). inr (es, ap (λ x. x ∷ us) first ∙ ap (λ xs. c ∷ xs) is))
    (fronts us vs ws zs (same_tail a c (us ++ vs) (ws ++ zs) same))

open_in : (xs : List Call) (n : ℕ) (q : Request) → request_in (elim (slice_get xs n) [ None ↦ Answered | Some x ↦ x ]) ≡ Some q → n < length xs
open_in [] n q is = absurd cc
open_in (x ∷ xs) zero q is = omega arith
open_in (x ∷ xs) (suc n) q is = let lt = open_in xs n q is in omega (arith, lt)

-- a call that is open was issued
was_issued : (c : Config) (k : ℕ) (q : Request) → request_of c k ≡ Some q → k ≤ length c.calls
was_issued c zero q is = omega arith
was_issued c (suc n) q is = let lt = open_in c.calls n q is in omega (arith, lt)

same_later : RequestsStay → (j : Journal) (k : ℕ) (q r : Request) (v : WasOpen j k q) (w : WasOpen j k r) (es : List Event) → w.front ≡ v.front ++ es → q ≡ r
same_later stay j k q r v w es same =
    let on : Run j.program j.start (v.front ++ es) w.config = subst (λ fs. Run j.program j.start fs w.config) same w.there in
    let two : Some q ≡ Some r = sym v.request ∙ stay j.program j.start v.front es v.config w.config v.there on k r (was_issued v.config k q v.request) w.request in
    cc two

pub same_request : RequestsStay → (j : Journal) (k : ℕ) (q r : Request) → WasOpen j k q → WasOpen j k r → q ≡ r
same_request stay j k q r v w =
    ⊎_elim
    (λ (es, is). same_later stay j k q r v w es is)
    (λ (es, is). sym (same_later stay j k r q w v es is))
    (fronts v.front v.behind w.front w.behind (sym v.all ∙ w.all))

-- ## Earlier sessions
abbrev last_from : ℕ → List Turn → ℕ
last_from n [] = n
last_from n (t ∷ ts) = last_from t.session ts

last_is : (ts : List Turn) → last_session ts ≡ last_from 0 ts
last_is [] = refl
last_is (t ∷ []) = refl
last_is (t ∷ u ∷ ts) = last_is (u ∷ ts)

-- sessions don't fall
rises : (a b : ℕ) (ts : List Turn) → IsTrue (in_order a b ts) → a ≤ last_from a ts
rises a b [] order = omega arith
rises a b (t ∷ ts) order =
    let (next_one, rest) = and_parts (goes_on_at a b t) (in_order t.session t.waits ts) order in
    let more = rises t.session t.waits ts rest in
    ⊎_elim (λ lt. omega (arith, lt, more)) (λ (same, le). omega (arith, same, more)) (not_behind a b t.session t.waits next_one)

module _ (session waits : ℕ) where
  -- all events of some turns count in a session behind the last one
  all_to : (a b : ℕ) (ts : List Turn) → IsTrue (in_order a b ts) → last_from a ts < session → events_to session waits ts ≡ events ts
  all_to a b [] order lt = refl
  all_to a b (t ∷ ts) order lt =
      let (next_one, rest) = and_parts (goes_on_at a b t) (in_order t.session t.waits ts) order in
      let le = rises t.session t.waits ts rest in
      let before : is_before session waits t ≡ true = or_left (nat_lt t.session session) (nat_eq t.session session && nat_le t.waits waits) (lt-ltb t.session session (omega (arith, le, lt))) in
      ap (λ v. if v then t.events ++ events_to session waits ts else events_to session waits ts) before ∙ ap (λ es. t.events ++ es) (all_to t.session t.waits ts rest lt)

  both_to : (v : Bool) (es fs gs : List Event) → (if v then es ++ (fs ++ gs) else fs ++ gs) ≡ (if v then es ++ fs else fs) ++ gs
  both_to true es fs gs = sym (append_assoc es fs gs)
  both_to false es fs gs = refl

  events_to-append : (ts us : List Turn) → events_to session waits (ts ++ us) ≡ events_to session waits ts ++ events_to session waits us
  events_to-append [] us = refl
  events_to-append (t ∷ ts) us =
      ap (λ fs. if is_before session waits t then t.events ++ fs else fs) (events_to-append ts us)
      ∙ both_to (is_before session waits t) t.events (events_to session waits ts) (events_to session waits us)

-- a call that was issued, and is open in the session that goes on from some records, was open by these records
pub open_before : RequestsStay → (L : Language) (J K more : List (List ℕ)) (c d : Config) (f : Facts L J c) (g : Facts L K d) → K ≡ J ++ more → (waits : ℕ) (e : Config) (k : ℕ) (q : Request)
    → config_at (journal L K) (next_session (journal L J)) waits ≡ Some e → request_of e k ≡ Some q → k ≤ length c.calls → request_of c k ≡ Some q
open_before stay L J K more c d f g same waits e k q at request le =
    let session = suc (last_session f.found.turns) in
    let last = last_is f.found.turns in
    let there : config_at (Some (with_more f.found (turns_in more))) session waits ≡ Some e =
    ap (λ j. config_at (Some j) session waits) (sym (longer L J K more c d f g same))
    ∙ ap (λ j. config_at j session waits) (sym g.is)
    ∙ ap (λ j. config_at (journal L K) (next_session j) waits) (sym f.is) ∙ at in
    let es : List Event = events_to session waits (turns_in more) in
    let parts : events_to session waits (f.found.turns ++ turns_in more) ≡ events f.found.turns ++ es =
    events_to-append session waits f.found.turns (turns_in more) ∙ ap (λ fs. fs ++ es) (all_to session waits 0 0 f.found.turns f.order (omega (arith, last))) in
    let leads : Run f.found.program f.found.start (events_to session waits (f.found.turns ++ turns_in more)) e =
    reached_to (run f.found.program f.found.start (events_to session waits (f.found.turns ++ turns_in more))) e there in
    stay f.found.program f.found.start (events f.found.turns) es c e f.whole (subst (λ fs. Run f.found.program f.found.start fs e) parts leads) k q le request
