-- A turn that begins with what was taken.
use Rattle.std.specs.Prelude.{◌≡◌, ◌≤◌, ◌-◌, ◌*◌, ℕ, true, is_some, List, [], ◌∷◌, ◌++◌, length, Option, Some, None}
use Rattle.std.specs.List.{AllByRecursion, flat_map}
use Rattle.std.proofs.Common.{refl, sym, ◌∙◌, ap, subst, arith, length-append}
use Rattle.std.proofs.Math.Bridge.{le_prop}
use Rattle.std.proofs.Math.Logic.{∥∥₁_elim}
use Rattle.std.proofs.lemmas.List.Concat.{flat_map-cons}
use Rattle.wf_deeds.specs.Kept.{reading_of}
use Rattle.wf_deeds.specs.Turns.{chosen, turn_of, TakeReading}
use Rattle.wf_engine.specs.Turn.{AreChosen, IsBrought, IsTurn}
use Rattle.wf_engine.specs.declared.taken.Taken.{Taken}
use Rattle.wf_events.specs.Spelling.{event}
use Rattle.wf_machine.specs.Counts.{counts}
use Rattle.wf_machine.specs.Laws.{AnswersLead}
use Rattle.wf_machine.specs.State.{State}
use Rattle.wf_model.specs.Config.{Active, Answered, Call, Config, Open, TimedOut, To}
use Rattle.wf_model.specs.CountLaws.{IsFromOutside, TakenWeighsNothing, weigh}
use Rattle.wf_model.specs.ReadingLaws.{IsFromInside}
use Rattle.wf_model.specs.Ready.{call, request_in, request_of}
use Rattle.wf_model.specs.Run.{run_on}
use Rattle.wf_model.specs.Step.{next}
use Rattle.wf_model.specs.WaitLaws.{Sound}
use Rattle.wf_record_parts.specs.View.{reply_view}
use Rattle.wf_value.specs.Events.{Answer, Arrive, Begin, Cancel, Due, Event, Issue, Move, MoveAt, Reply}
use Rattle.wf_value.specs.HttpRequest.{Request}

-- ## An answer can come
request_is_open : (x : Call) → is_some (request_in x) ≡ true → (b : ℕ) × (q : Request) × (due : ℕ) × (x ≡ Open b q due)
request_is_open (Open b q due) is = (b, q, due, refl)
request_is_open Answered is = absurd (cc is)
request_is_open TimedOut is = absurd (cc is)

pub answer_leads : (s : State) → AnswersLead s → s.config.outcome ≡ Active → (k r : ℕ) (a : Reply) → is_some (request_of s.config k) ≡ true → s.config.last ≤ r → (d : Config) × (next s.program s.config (Answer k r a) ≡ To d)
answer_leads s lead active k r a opened le =
    let (b, q, due, is) = request_is_open (call s.config k) opened in lead active k b r q due a is le

-- ## Bytes
-- what nothing outside has to bring is short
thirteen : (e : Event) → IsFromInside e → length (event e) ≤ 13
thirteen (Move b) inside = omega arith
thirteen (MoveAt b t) inside = omega arith
thirteen (Begin b) inside = omega arith
thirteen (Issue b t) inside = omega arith
thirteen (Due b t) inside = omega arith
thirteen (Answer k t a) inside = absurd inside
thirteen (Arrive n t v) inside = absurd inside
thirteen (Cancel t) inside = absurd inside

few_bytes : (es : List Event) → AllByRecursion IsFromInside es → length (flat_map event es) ≤ 13 * length es
few_bytes [] all = omega arith
few_bytes (e ∷ es) all = omega (arith, ap length (flat_map-cons event e es), length-append (event e) (flat_map event es), thirteen e all.0, few_bytes es all.1)

-- ## Turns
-- nothing was taken
pub is_turn : (old new : State) (reading : ℕ) (es : List Event) → old.config.last ≤ reading → AreChosen 4096 old new reading es → IsTurn old new reading None es
is_turn old new reading es le c = record {
  turn = c.turn;
  leads = c.leads;
  short = c.short;
  ended = c.ended;
  active = c.active;
  counted = c.counted;
  most = c.most;
  falls = omega (arith, c.falls);
  inside = λ none. c.inside;
  readings = c.readings le;
  last = c.last le;
  spelled = c.spelled;
  bytes = omega (arith, few_bytes es c.inside);
  program = c.program;
  whole = c.whole;
}

-- an event more in front
first_takes : (reading : ℕ) (e : Event) (es : List Event) → reading_of e ≡ Some reading → TakeReading reading es → TakeReading reading (e ∷ es)
first_takes reading e es takes rest f r [] back is has =
    let same : e ≡ f = cc is in
    let two : Some reading ≡ Some r = sym takes ∙ ap reading_of same ∙ has in
    cc two
first_takes reading e es takes rest f r (x ∷ front) back is has = let behind : es ≡ front ++ f ∷ back = cc is in rest f r front back behind has

module _ (old mid new : State) (reading : ℕ) (t : Taken) (e : Event) (es : List Event) (b : IsBrought old mid reading t e) (c : AreChosen 4095 mid new reading es) where
  lighter : TakenWeighsNothing → ∥ Sound old.config ∥₁ → weigh mid.config.tasks ≤ weigh old.config.tasks
  lighter law sound = ∥∥₁_elim sound (λ x y. le_prop x y) (λ s. law old.program old.config mid.config e s (subst IsFromOutside (sym b.is) tt) b.leads)

  begins : e ∷ es ≡ turn_of old.program old.config reading (Some (Answer t.call reading (reply_view t.reply.value)))
  begins =
      let a : Event = Answer t.call reading (reply_view t.reply.value) in
      let leads : next old.program old.config a ≡ To mid.config = ap (λ x. next old.program old.config x) (sym b.is) ∙ b.leads in
      ap (λ x. x ∷ es) b.is ∙ ap (λ l. a ∷ l) (c.turn ∙ ap (λ p. chosen 4095 p (To mid.config) reading) b.program ∙ ap (λ x. chosen 4095 old.program x reading) (sym leads))

  -- it comes first
  pub then_chosen : TakenWeighsNothing → old.config.outcome ≡ Active → ∥ Sound old.config ∥₁ → IsTurn old new reading (Some (Answer t.call reading (reply_view t.reply.value))) (e ∷ es)
  then_chosen law active sound =
      let come : mid.config.last ≤ reading = omega (arith, b.last) in
      let none : counts e ≡ 0 = ap counts b.is in
      record {
        turn = begins;
        leads = ap (λ a. run_on old.program a es) b.leads ∙ ap (λ p. run_on p (To mid.config) es) (sym b.program) ∙ c.leads;
        short = omega (arith, c.short);
        ended = λ few. c.ended (omega (arith, few));
        active = λ over. absurd (over active);
        counted = omega (arith, c.counted, b.moves, none);
        most = c.most;
        falls = omega (arith, c.falls, b.moves, lighter law sound);
        inside = λ no. absurd (cc no);
        readings = first_takes reading e es (ap reading_of b.is) (c.readings come);
        last = c.last come;
        spelled = (b.spelled, c.spelled);
        bytes = omega (arith, ap length (flat_map-cons event e es), length-append (event e) (flat_map event es), b.short, few_bytes es c.inside);
        program = c.program ∙ b.program;
        whole = c.whole;
      }

-- ## Of what was chosen behind other events
-- what was chosen behind these events, of 4,096 with them
abbrev pub Behind : State → State → ℕ → List Event → List Event → Type 0
Behind old new reading before all = (es : List Event) × (all ≡ before ++ es) × AreChosen (4096 - length before) old new reading es

-- behind none
pub turn_alone : (old new : State) (reading : ℕ) (taken : Option Event) (before all : List Event) → old.config.last ≤ reading → taken ≡ None → before ≡ [] → Behind old new reading before all → IsTurn old new reading taken all
turn_alone old new reading taken before all le none first behind =
    let from : Behind old new reading [] all = subst (λ l. Behind old new reading l all) first behind in
    let (es, is, chosen) = from in
    let turn : IsTurn old new reading None es = is_turn old new reading es le chosen in
    subst (λ o. IsTurn old new reading o all) (sym none) (subst (λ l. IsTurn old new reading None l) (sym is) turn)

-- behind what was taken
pub turn_behind : TakenWeighsNothing → (old mid new : State) (reading : ℕ) (t : Taken) (e : Event) (before all : List Event) → IsBrought old mid reading t e → old.config.outcome ≡ Active → ∥ Sound old.config ∥₁ → before ≡ e ∷ [] → Behind mid new reading before all
    → IsTurn old new reading (Some (Answer t.call reading (reply_view t.reply.value))) all
turn_behind law old mid new reading t e before all b active sound first behind =
    let from : Behind mid new reading (e ∷ []) all = subst (λ l. Behind mid new reading l all) first behind in
    let (es, is, chosen) = from in
    subst (λ l. IsTurn old new reading (Some (Answer t.call reading (reply_view t.reply.value))) l) (sym is) (then_chosen old mid new reading t e es b chosen law active sound)
