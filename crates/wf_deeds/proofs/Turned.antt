-- What an engine stands for with a turn more.
use Rattle.std.specs.Prelude.{◌≡◌, ◌≢◌, ◌⊎◌, ◌≤◌, ◌<◌, ◌&&◌, ◌||◌, ℕ, suc, Bool, true, false, not, IsTrue, nat_eq, nat_le, nat_lt, if◌then◌else◌, List, [], ◌∷◌, ◌++◌, All, Option, Some, None}
use Rattle.std.specs.List.{AllByRecursion}
use Rattle.std.proofs.Common.{inl, inr, ⊎_elim, refl, sym, ◌∙◌, ap, subst, arith}
use Rattle.std.proofs.lemmas.Bool.{and_from, eq-eqb, eqb-true, le-leb, or_right}
use Rattle.wf_ast.specs.Tree.{Program}
use Rattle.wf_deeds.proofs.Answered.{OneAnswered}
use Rattle.wf_deeds.proofs.Carried.{decides_carried, answers_carried}
use Rattle.wf_deeds.proofs.DeedMore.{front_polls}
use Rattle.wf_deeds.proofs.Hearing.{opt_case, no_call, visit_there}
use Rattle.wf_deeds.proofs.Lists.{polls-append, poll_found, split_at}
use Rattle.wf_deeds.proofs.Sending.{reads_at, last_split}
use Rattle.wf_deeds.proofs.TurnMore.{Journals, own_more, before_stays, config_stays, first_stays}
use Rattle.wf_deeds.proofs.Visits.{bool_case}
use Rattle.wf_deeds.specs.Deeds.{polls, reading_by, starts_or_polls, Split, Told, told_of, IsAnswered, Decision, decision, decision_of, find_visit, visits_after}
use Rattle.wf_host.specs.World.{call_of, visit_of}
use Rattle.wf_deeds.specs.Kept.{Session, StandsFirst, IsOpen, Answers, AnsweredAt, DecidedAt, own, config, reading_of, last_of}
use Rattle.wf_deeds.specs.Memory.{Memory, IsAnswerTo, IsOfOutside, session}
use Rattle.wf_deeds.specs.Outside.{Outside, Verdict, Arrives}
use Rattle.wf_deeds.specs.Rules.{IsSent, IsBrought, IsOwn, AreBrought, NoTurnYet, TurnKeepsRules, with_record}
use Rattle.wf_deeds.specs.Steps.{TurnLeadsOn, TurnGoesOn, turn_of_memory, with_taken}
use Rattle.wf_events.specs.Reading.{meaning}
use Rattle.wf_history.specs.Kinds.{turn_in}
use Rattle.wf_host.specs.declared.data.Deed.{Deed}
use Rattle.wf_host.specs.declared.data.Deed.TheVariants.{Start, Poll, Now, Reply, Drop, Print}
use Rattle.wf_host.specs.declared.data.Heard.{Heard}
use Rattle.wf_model.specs.CallLaws.{CallsGoOn, AnswersClose}
use Rattle.wf_model.specs.Config.{Active, Returned, Raised, Cancelled, Outcome, Config, After, To, Wrong, NotNow}
use Rattle.wf_model.specs.Ready.{request_of}
use Rattle.wf_model.specs.Run.{run_on}
use Rattle.wf_model.specs.RunLaws.{NothingFollowsAnOutcome}
use Rattle.wf_model.specs.Step.{next}
use Rattle.wf_deeds.specs.At.{Journal, config_at, journal}
use Rattle.wf_deeds.specs.History.{Standing, goes_on, goes_on_at, is_numbered, led, only, turned as turned_by}
use Rattle.wf_deeds.specs.Language.{Language}
use Rattle.wf_deeds.specs.HistoryLaws.{RecordGoesOn}
use Rattle.wf_deeds.specs.Moments.{HistoryStandsThere, is_by}
use Rattle.wf_value.specs.Events as plain
use Rattle.wf_value.specs.Events.{Event, Turn}

pub record Laws : Type 0 where
  pub one : OneAnswered
  pub journals : Journals
  pub there : HistoryStandsThere
  pub goes_on : RecordGoesOn
  pub rules : TurnKeepsRules
  pub calls : CallsGoOn
  pub answers : AnswersClose
  pub nothing : NothingFollowsAnOutcome

-- ## Where it leads
abbrev behind : Standing → Memory → Config → Standing
behind s m c = record s { config = c; number = suc s.number; session = m.session; waits = m.waits; marks = true }

goes : (s : Standing) (m : Memory) (es : List Event) (c : Config) → s.program ≡ m.program → s.config ≡ m.config → IsTrue (is_by m.session m.waits s) → 1 ≤ m.session → m.session ≤ s.number → run_on m.program (To m.config) es ≡ To c
    → turned_by s (turn_of_memory m es) ≡ Some (behind s m c)
goes s m es c program config by first numbered leads =
    let t = turn_of_memory m es in
    let on : run_on s.program (To s.config) es ≡ To c = ap (λ p. run_on p (To s.config) es) program ∙ ap (λ d. run_on m.program (To d) es) config ∙ leads in
    let may : is_numbered s.number t && goes_on_at s.session s.waits t ≡ true =
    and_from (is_numbered s.number t) (goes_on_at s.session s.waits t) (and_from (nat_le 1 m.session) (nat_le m.session s.number) (le-leb 1 m.session first) (le-leb m.session s.number numbered)) by in
    ap (λ b. if b then led s t (run_on s.program (To s.config) es) else None) may ∙ ap (λ a. led s t a) on

by_itself : (n w : ℕ) → IsTrue (nat_lt n n || (nat_eq n n && nat_le w w))
by_itself n w = or_right (nat_lt n n) (nat_eq n n && nat_le w w) (and_from (nat_eq n n) (nat_le w w) (eq-eqb n n refl) (le-leb w w (omega arith)))

some_journal : (o : Option Journal) (number waits : ℕ) (c : Config) → config_at o number waits ≡ Some c → (j : Journal) × (o ≡ Some j)
some_journal None number waits c is = absurd (let f : None ≡ Some c = is in cc f)
some_journal (Some j) number waits c is = (j, refl)

-- ## Runs
from_nowhere : (p : Program) (es : List Event) → run_on p NotNow es ≡ NotNow
from_nowhere p [] = refl
from_nowhere p (e ∷ es) = refl

-- a run that comes somewhere begins somewhere
pub begins_there : (p : Program) (a : After) (es : List Event) (c : Config) → run_on p a es ≡ To c → (b : Config) × (a ≡ To b)
begins_there p (To b) es c is = (b, refl)
begins_there p (Wrong k) [] c is = absurd (let f : Wrong k ≡ To c = is in cc f)
begins_there p (Wrong k) (e ∷ es) c is = absurd (let f : NotNow ≡ To c = is in cc f)
begins_there p NotNow es c is = absurd (let f : NotNow ≡ To c = sym (from_nowhere p es) ∙ is in cc f)

active_or : (o : Outcome) → (o ≡ Active) ⊎ (o ≢ Active)
active_or Active = inl refl
active_or (Returned v) = inr (λ is. cc is)
active_or (Raised v) = inr (λ is. cc is)
active_or Cancelled = inr (λ is. cc is)

-- where it ends without an outcome there was none
was_active : NothingFollowsAnOutcome → (p : Program) (b c : Config) (es : List Event) → run_on p (To b) es ≡ To c → c.outcome ≡ Active → b.outcome ≡ Active
was_active law p b c [] is active = let same : b ≡ c = cc is in ap (λ (d : Config). d.outcome) same ∙ active
was_active law p b c (e ∷ es) is active = ⊎_elim (λ go. go)
    (λ ended. absurd (let f : NotNow ≡ To c = sym (ap (λ a. run_on p a es) (law p b e ended) ∙ from_nowhere p es) ∙ is in cc f))
    (active_or b.outcome)

-- and where it goes on there was none
pub goes_on_active : NothingFollowsAnOutcome → (p : Program) (b c : Config) (es : List Event) → es ≢ [] → run_on p (To b) es ≡ To c → b.outcome ≡ Active
goes_on_active law p b c [] some is = absurd (some refl)
goes_on_active law p b c (e ∷ es) some is = ⊎_elim (λ go. go)
    (λ ended. absurd (let f : NotNow ≡ To c = sym (ap (λ a. run_on p a es) (law p b e ended) ∙ from_nowhere p es) ∙ is in cc f))
    (active_or b.outcome)

-- ## The events
own_brought : (L : Language) (O : Outside) (x : Session) (e : Event) → IsOwn L O x e → IsBrought L O x e
own_brought L O x (plain.Move b) is = tt
own_brought L O x (plain.MoveAt b r) is = tt
own_brought L O x (plain.Begin b) is = tt
own_brought L O x (plain.Issue b r) is = tt
own_brought L O x (plain.Answer k r a) is = absurd is
own_brought L O x (plain.Due b r) is = tt
own_brought L O x (plain.Arrive n r v) is = absurd is
own_brought L O x (plain.Cancel r) is = tt

are_brought : (L : Language) (O : Outside) (x : Session) (es : List Event) → AllByRecursion (IsOwn L O x) es → AreBrought L O x es
are_brought L O x [] all = tt
are_brought L O x (e ∷ es) all = (own_brought L O x e all.0, all.1)

no_more_polls : (ds : List Deed) → starts_or_polls ds ≡ false → polls ds ≡ 0
no_more_polls [] none = refl
no_more_polls (Poll until h ∷ ds) none = absurd (let f : true ≡ false = none in cc f)
no_more_polls (Start k to b ∷ ds) none = absurd (let f : true ≡ false = none in cc f)
no_more_polls (Now t ∷ ds) none = no_more_polls ds none
no_more_polls (Reply n b ∷ ds) none = no_more_polls ds none
no_more_polls (Drop k ∷ ds) none = no_more_polls ds none
no_more_polls (Print b ∷ ds) none = no_more_polls ds none

pub sent_too : (L : Language) (O : Outside) (x y : Session) (d : Deed) → IsSent L O x d → IsSent L O y d
sent_too L O x y (Start k to b) is = tt
sent_too L O x y (Drop k) is = tt
sent_too L O x y (Poll until h) is = absurd is
sent_too L O x y (Now t) is = absurd is
sent_too L O x y (Reply n b) is = absurd is
sent_too L O x y (Print b) is = absurd is

-- less, or the same
below : (a b : ℕ) → a ≤ b → (a ≡ b → ⊥) → a < b
below a b le differ = bool_case (λ v. nat_eq a b ≡ v → a < b) (nat_eq a b) (λ _ same. absurd (differ (eqb-true a b same))) (λ _ apart. omega (arith, le, unlike a b apart)) refl
  where
    unlike : (c d : ℕ) → nat_eq c d ≡ false → c ≢ d
    unlike c d apart same = let f : true ≡ false = sym (eq-eqb c d same) ∙ apart in cc f

-- ## The answer or the arrival that was taken
-- the last poll answers one call, with one answer
same_answer : OneAnswered → (L : Language) (O : Outside) (x y : Session) (before behind : List Deed) (until : ℕ) (h : Heard) (k i : ℕ) (a b : plain.Reply) → x.deeds ≡ before ++ Poll until h ∷ behind → polls behind ≡ 0
    → Answers L O y before (Poll until h) h.what k a → AnsweredAt L O x (polls x.deeds) i b → (i ≡ k) × (b ≡ a)
same_answer one L O x y before behind until h k i a b comes none ans at =
    let two : Some at.split ≡ Some (split_at before until h behind) = sym at.poll ∙ last_split x.deeds before behind until h comes none in
    let same : at.split ≡ split_at before until h behind = cc two in
    let calls : Some i ≡ Some k = sym at.answers.of_call ∙ ap (λ (s : Split). call_of s.what) same ∙ ans.of_call in
    let call : i ≡ k = cc calls in
    let deeds : told_of i (at.split.before ++ at.split.deed ∷ []) ≡ told_of k (before ++ Poll until h ∷ []) =
    ap (λ (s : Split). told_of i (s.before ++ s.deed ∷ [])) same ∙ ap (λ n. told_of n (before ++ Poll until h ∷ [])) call in
    let here : IsAnswered (told_of k (before ++ Poll until h ∷ [])) (Some b) = subst (λ (t : Told). IsAnswered t (Some b)) deeds at.answers.now in
    let told : Some b ≡ Some a = one (told_of k (before ++ Poll until h ∷ [])) (Some b) (Some a) here ans.now in
    let reply : b ≡ a = cc told in
    (call, reply)

-- and where it decides a visit, it answers none
no_answer : (L : Language) (O : Outside) (x y : Session) (before behind : List Deed) (until : ℕ) (h : Heard) (k : ℕ) (a : plain.Reply) (d : Decision) (v : Verdict) → x.deeds ≡ before ++ Poll until h ∷ behind → polls behind ≡ 0
    → Answers L O y before (Poll until h) h.what k a → DecidedAt L O x (polls x.deeds) d v → ⊥
no_answer L O x y before behind until h k a d v comes none ans at =
    let two : Some at.split ≡ Some (split_at before until h behind) = sym at.poll ∙ last_split x.deeds before behind until h comes none in
    let same : at.split ≡ split_at before until h behind = cc two in
    let here : decision O (visits_after O before) h.what ≡ Some d = sym (ap (λ (s : Split). decision O (visits_after O s.before) s.what) same) ∙ at.decides.decides in
    let (n, of_visit) = visit_there (visit_of h.what) (λ i. decision_of O (visits_after O before) i h.what (find_visit i (visits_after O before))) d here in
    let f : None ≡ Some k = sym (no_call h.what n of_visit) ∙ ans.of_call in cc f

-- what was taken stands first where the last poll answers
of_taken : OneAnswered → (L : Language) (O : Outside) (x y : Session) (before behind : List Deed) (until : ℕ) (h : Heard) (k : ℕ) (a : plain.Reply) (w now : ℕ) (e : Event) → x.deeds ≡ before ++ Poll until h ∷ behind → polls behind ≡ 0
    → Answers L O y before (Poll until h) h.what k a → w ≡ suc (polls before) → (NoTurnYet L O x → StandsFirst (own L O y) w e) → IsBrought L O x e × IsOfOutside e × (reading_of e ≡ Some now)
    → (r : ℕ) × StandsFirst (own L O y) (suc (polls before)) (plain.Answer k r a)
of_taken one L O x y before behind until h k a w now (plain.Answer i r b) comes none ans count first took =
    let same = same_answer one L O x y before behind until h k i a b comes none ans took.0.0 in
    (r, subst (λ n. StandsFirst (own L O y) n (plain.Answer k r a)) count (subst (λ n. StandsFirst (own L O y) w (plain.Answer n r a)) same.0 (subst (λ z. StandsFirst (own L O y) w (plain.Answer i r z)) same.1 (first took.0.1))))
of_taken one L O x y before behind until h k a w now (plain.Arrive n r v) comes none ans count first took =
    absurd (no_answer L O x y before behind until h k a took.0.0.0 (Arrives n v) comes none ans took.0.0.1)
of_taken one L O x y before behind until h k a w now (plain.Move b) comes none ans count first took = absurd took.1
of_taken one L O x y before behind until h k a w now (plain.MoveAt b r) comes none ans count first took = absurd took.1
of_taken one L O x y before behind until h k a w now (plain.Begin b) comes none ans count first took = absurd took.1
of_taken one L O x y before behind until h k a w now (plain.Issue b r) comes none ans count first took = absurd took.1
of_taken one L O x y before behind until h k a w now (plain.Due b r) comes none ans count first took = absurd took.1
of_taken one L O x y before behind until h k a w now (plain.Cancel r) comes none ans count first took = absurd took.1

-- a call that was answered isn't open behind its answer
answered_open : (laws : Laws) (m : Memory) (es : List Event) (c : Config) (k : ℕ) (rest : List Event) (o : Option Event) → IsAnswerTo k o → IsOpen c k → c.outcome ≡ Active → run_on m.program (To m.config) (with_taken o rest) ≡ To c → ⊥
answered_open laws m es c k rest None to_it still go leads = absurd to_it
answered_open laws m es c k rest (Some (plain.Answer j r a)) to_it still go leads =
    let (b, first) = begins_there m.program (next m.program m.config (plain.Answer j r a)) rest c leads in
    let on : run_on m.program (To b) rest ≡ To c = ap (λ f. run_on m.program f rest) (sym first) ∙ leads in
    let shut = laws.answers m.program m.config b j r a first (was_active laws.nothing m.program b c rest on go) in
    let calls = laws.calls m.program b c rest on in
    let (q, asks) = still in
    let f : None ≡ Some q = sym shut.1 ∙ calls.1 j q shut.0 (ap (λ i. request_of c i) to_it ∙ asks) in cc f
answered_open laws m es c k rest (Some (plain.Move b)) to_it still go leads = absurd to_it
answered_open laws m es c k rest (Some (plain.MoveAt b r)) to_it still go leads = absurd to_it
answered_open laws m es c k rest (Some (plain.Begin b)) to_it still go leads = absurd to_it
answered_open laws m es c k rest (Some (plain.Issue b r)) to_it still go leads = absurd to_it
answered_open laws m es c k rest (Some (plain.Due b r)) to_it still go leads = absurd to_it
answered_open laws m es c k rest (Some (plain.Arrive n r v)) to_it still go leads = absurd to_it
answered_open laws m es c k rest (Some (plain.Cancel r)) to_it still go leads = absurd to_it

-- where it leads
pub turn_leads_on : RecordGoesOn → TurnLeadsOn
turn_leads_on law L m J payload es c lead means leads =
    let goes_there : goes_on L lead.standing (meaning payload) ≡ Some (behind lead.standing m c) =
    ap (λ r. goes_on L lead.standing r) means ∙ ap (λ (two : Bool). only (not two) (turned_by lead.standing (turn_of_memory m es))) lead.format ∙ goes lead.standing m es c lead.program lead.config lead.by_now lead.first lead.numbered leads in
    record {
      standing = behind lead.standing m c;
      history = law L J payload lead.standing (behind lead.standing m c) lead.history goes_there;
      program = lead.program;
      config = refl;
      by_now = by_itself m.session m.waits;
      first = lead.first;
      numbered = let le = lead.numbered in omega (arith, le);
      format = lead.format;
    }

-- ## The law
pub turn_goes_on : Laws → TurnGoesOn
turn_goes_on laws L O command handed m J D payload es c s chosen some means =
    let x = session command handed m J D in
    let y = with_record x payload in
    let t = turn_of_memory m es in
    let lead = s.leads in
    let (j, is_j) = some_journal (journal L J) m.session m.waits lead.standing.config (laws.there L J lead.standing m.session m.waits lead.history lead.by_now) in
    let active = goes_on_active laws.nothing m.program m.config c es some chosen.leads in
    let is_turn = ap turn_in means in
    let own_is = own_more laws.journals L O x payload j t is_j is_turn refl s.waits in
    let before_is = before_stays laws.journals L O x payload j t is_j is_turn refl s.waits in
    let config_is = config_stays laws.journals L O x payload j t is_j is_turn refl s.waits in
    let stand = first_stays laws.journals L O x payload j t is_j is_turn refl s.waits in
    let calls = laws.calls m.program m.config c es chosen.leads in
    let unsent : (before after : List Deed) (d : Deed) → D ≡ before ++ d ∷ after → IsSent L O x d → polls before < polls D = λ before after d comes sent.
    below (polls before) (polls D) (front_polls D before after d comes) (λ same. some (chosen.settled (s.settled before after d comes sent same))) in
    let ahead : (before after : List Deed) (until : ℕ) (h : Heard) → D ≡ before ++ Poll until h ∷ after → polls before < polls D = λ before after until h comes.
    omega (arith, ap polls comes, polls-append before (Poll until h ∷ after)) in
    -- what was taken stands first
    let new_first : (e : Event) → m.taken ≡ Some e → NoTurnYet L O x → StandsFirst (own L O y) (polls D) e = λ e has yet.
    subst (λ ts. StandsFirst ts (polls D) e) (sym own_is) (record {
      turn = t;
      waits = s.waits;
      place = record { earlier = own L O x; later = []; turn = refl; front = []; back = chosen.rest; event = chosen.events ∙ ap (λ o. with_taken o chosen.rest) has };
      first = record { of_turn = refl; of_waits = subst (λ n. All (λ (u : Turn). u.waits ≢ n) (own L O x)) (sym s.waits) yet };
    }) in
    let kept = laws.rules L O x payload j t s.kept refl is_j is_turn (record {
      session = refl;
      waits = s.waits;
      brought = subst (λ l. AreBrought L O x l) (sym chosen.events)
          (opt_case (λ o. m.taken ≡ o → AreBrought L O x (with_taken o chosen.rest)) m.taken
          (λ _ _. are_brought L O x chosen.rest chosen.own)
          (λ e _ has. ((s.taken e has).0, chosen.own))
          refl);
      nothing_sent = unsent;
      readings = λ e r front back is has. chosen.readings e r front back is has ∙ sym (reads_at laws.there L O command handed m J D s);
      clock = s.clock active;
    }) in
    record {
      kept = kept;
      leads = turn_leads_on laws.goes_on L m J payload es c s.leads means chosen.leads;
      waits = s.waits;
      reading = s.reading ∙ ap (λ b. reading_by (last_of b) D m.waits) (sym before_is);
      last = chosen.last;
      clock = λ go. s.clock active;
      started = s.started;
      dropped = s.dropped;
      issued = λ k was. let le = s.issued k was in let more = calls.0 in omega (arith, le, more);
      told = λ k still was. let (q, asks) = still in s.told k (q, calls.1 k q (s.issued k was) asks) was;
      unanswered = λ go k still was.
          let (q, asks) = still in
          ⊎_elim
          (λ to_it. absurd (answered_open laws m es c k chosen.rest m.taken to_it still go (sym (ap (λ l. run_on m.program (To m.config) l) chosen.events) ∙ chosen.leads)))
          (λ none. inr none)
          (s.unanswered active k (q, calls.1 k q (s.issued k was) asks) was);
      settled = λ before after d comes sent same. absurd (let lt = unsent before after d comes (sent_too L O y x d sent) in omega (arith, lt, same));
      visit = s.visit;
      undecided = s.undecided;
      answers = λ _ before after until h k a d comes ans at still.
          bool_case (λ b. starts_or_polls after ≡ b → (r : ℕ) × StandsFirst (own L O y) (suc (polls before)) (plain.Answer k r a)) (starts_or_polls after)
          (λ _ has. kept.answers.taken before after until h k a d comes ans at still (inl has))
          (λ _ not_on.
          let none = no_more_polls after not_on in
          let count : polls D ≡ suc (polls before) = omega (arith, none, ap polls comes, polls-append before (Poll until h ∷ after)) in
          opt_case (λ o. m.taken ≡ o → (r : ℕ) × StandsFirst (own L O y) (suc (polls before)) (plain.Answer k r a)) m.taken
          (λ _ untaken.
          let (r, first) = s.answers untaken before after until h k a d comes (answers_carried L O y x before (Poll until h) h.what k a ans) (sym (config_is (polls before) (ahead before after until h comes)) ∙ at) still in
          (r, stand (suc (polls before)) (plain.Answer k r a) first))
          (λ e _ has. of_taken laws.one L O x y before after until h k a (polls D) m.reading e comes none ans count (λ yet. new_first e has yet) (s.taken e has))
          refl)
          refl;
      taken = λ e has. absurd (let f : None ≡ Some e = has in cc f);
      replies = λ none before after until h choice v comes dec. s.replies none before after until h choice v comes (decides_carried L O y x before h.what choice v (sym (config_is (polls before) (ahead before after until h comes))) dec);
      owed = λ o has.
          let w = s.owed o has in
          let f = poll_found [] (polls D) D w.split w.last in
          let lt : polls w.split.before < polls D = omega (arith, f.count, ap (λ (p : Split). polls p.before) f.split) in
          record { split = w.split; last = w.last; decision = w.decision; decided = decides_carried L O x y w.split.before w.split.what w.decision o.verdict (config_is (polls w.split.before) lt) w.decided; visit = w.visit; once = w.once };
      arrival = λ o n v has arrives.
          let (r, there) = s.arrival o n v has arrives in
          (r, inr (⊎_elim (λ took. new_first (plain.Arrive n r v) took ((s.taken (plain.Arrive n r v) took).0.1)) (λ first. stand (polls D) (plain.Arrive n r v) first) there));
    }
