-- The events of an engine's turn.
use Rattle.std.specs.Prelude.{◌≡◌, ◌≢◌, ◌⊎◌, ◌≤◌, max, ℕ, zero, suc, List, [], ◌∷◌, Option, Some, None, unwrap_or, IsTrue}
use Rattle.std.specs.List.{AllByRecursion}
use Rattle.std.proofs.Common.{inl, inr, ⊎_elim, refl, sym, ◌∙◌, ap, subst, arith}
use Rattle.wf_lemmas.proofs.Lists.{all_at}
use Rattle.wf_ast.specs.Tree.{Program}
use Rattle.wf_deeds.proofs.Hearing.{opt_case}
use Rattle.wf_deeds.proofs.Turned.{begins_there}
use Rattle.wf_deeds.specs.Kept.{Session, reading_of}
use Rattle.wf_deeds.specs.Memory.{session}
use Rattle.wf_deeds.specs.Outside.{Outside}
use Rattle.wf_deeds.specs.Rules.{IsOwn}
use Rattle.wf_deeds.specs.Steps.{TurnIsChosen, with_taken}
use Rattle.wf_deeds.specs.Turns.{chosen, turn_of, TakeReading}
use Rattle.wf_model.specs.ChoiceLaws as choice
use Rattle.wf_model.specs.ChoiceLaws.{ChoiceTakesTheReading, NothingIsChosenBehindAnOutcome, NothingIsChosenWhenQuiet}
use Rattle.wf_model.specs.Choose.{choose}
use Rattle.wf_model.specs.Config.{Active, Outcome, Returned, Raised, Cancelled, Config, After, To, Wrong, NotNow}
use Rattle.wf_model.specs.Ready.{quiet}
use Rattle.wf_model.specs.ReadingLaws.{StepsRead, IsFromInside, ChosenIsFromInside}
use Rattle.wf_model.specs.Run.{run_on}
use Rattle.wf_model.specs.Step.{next}
use Rattle.wf_deeds.specs.Language.{Language}
use Rattle.wf_value.specs.Events.{Event, Move, MoveAt, Begin, Issue, Answer, Due, Arrive, Cancel}

pub record ChoiceLaws : Type 0 where
  pub takes : ChoiceTakesTheReading
  pub ended : NothingIsChosenBehindAnOutcome
  pub quiet : NothingIsChosenWhenQuiet
  pub read : StepsRead
  pub inside : ChosenIsFromInside

-- ## Readings
same_reading : (e : Event) → reading_of e ≡ choice.reading_of e
same_reading (Move b) = refl
same_reading (MoveAt b t) = refl
same_reading (Begin b) = refl
same_reading (Issue b t) = refl
same_reading (Answer k t a) = refl
same_reading (Due b t) = refl
same_reading (Arrive n t r) = refl
same_reading (Cancel t) = refl

-- its reading, if it has one, is this one
abbrev Takes : ℕ → Event → Type 0
Takes reading e = (r : ℕ) → reading_of e ≡ Some r → r ≡ reading

takes : (reading last : ℕ) (e : Event) → last ≤ reading → (choice.reading_of e ≡ None) ⊎ (choice.reading_of e ≡ Some (max reading last)) → Takes reading e
takes reading last e le (inl none) r has = absurd (let f : None ≡ Some r = sym none ∙ sym (same_reading e) ∙ has in cc f)
takes reading last e le (inr some) r has =
    let two : Some (max reading last) ≡ Some r = sym some ∙ sym (same_reading e) ∙ has in
    let one : max reading last ≡ r = cc two in
    omega (arith, le, one)

-- a step with this reading leads no further
still_last : StepsRead → (p : Program) (b c : Config) (e : Event) (reading : ℕ) → Takes reading e → b.last ≤ reading → next p b e ≡ To c → c.last ≤ reading
still_last read p b c e reading is le leads =
    let last = read p b c e leads in
    opt_case (λ o. choice.reading_of e ≡ o → c.last ≡ unwrap_or o b.last → c.last ≤ reading) (choice.reading_of e)
    (λ _ _ same. omega (arith, le, same))
    (λ r _ has same. let one = is r (same_reading e ∙ has) in omega (arith, one, same))
    refl last

run_last : StepsRead → (p : Program) (b c : Config) (es : List Event) (reading : ℕ) → AllByRecursion (Takes reading) es → b.last ≤ reading → run_on p (To b) es ≡ To c → c.last ≤ reading
run_last read p b c [] reading all le leads = let same : b ≡ c = cc leads in subst (λ (d : Config). d.last ≤ reading) same le
run_last read p b c (e ∷ es) reading all le leads =
    let (d, first) = begins_there p (next p b e) es c leads in
    run_last read p d c es reading all.1 (still_last read p b d e reading all.0 le first) (ap (λ a. run_on p a es) (sym first) ∙ leads)

take_reading : (reading : ℕ) (es : List Event) → AllByRecursion (Takes reading) es → TakeReading reading es
take_reading reading es all e r front back is has = all_at (Takes reading) front e back (subst (AllByRecursion (Takes reading)) is all) r has

-- ## What is chosen
abbrev LastBelow : ℕ → After → Type 0
LastBelow r (To c) = c.last ≤ r
LastBelow r (Wrong k) = Unit {0}
LastBelow r NotNow = Unit {0}

below_next : StepsRead → (p : Program) (b : Config) (e : Event) (reading : ℕ) (a : After) → next p b e ≡ a → Takes reading e → b.last ≤ reading → LastBelow reading a
below_next read p b e reading (To c) leads is le = still_last read p b c e reading is le leads
below_next read p b e reading (Wrong k) leads is le = tt
below_next read p b e reading NotNow leads is le = tt

chosen_takes : ChoiceLaws → (n : ℕ) (p : Program) (a : After) (r : ℕ) → LastBelow r a → AllByRecursion (Takes r) (chosen n p a r)
unfolding chosen
chosen_takes laws zero p a r le = tt
chosen_takes laws (suc n) p (To c) r le =
    opt_case (λ o. choose p c r ≡ o → AllByRecursion (Takes r) (elim o [ None ↦ [] | Some e ↦ e ∷ chosen n p (next p c e) r ])) (choose p c r)
    (λ _ _. tt)
    (λ e _ is.
    let this = takes r c.last e le (laws.takes p c r e is) in
    (this, chosen_takes laws n p (next p c e) r (below_next laws.read p c e r (next p c e) refl this le)))
    refl
chosen_takes laws (suc n) p (Wrong k) r le = tt
chosen_takes laws (suc n) p NotNow r le = tt

inside_own : (L : Language) (O : Outside) (x : Session) (e : Event) → IsFromInside e → IsOwn L O x e
inside_own L O x (Move b) is = tt
inside_own L O x (MoveAt b t) is = tt
inside_own L O x (Begin b) is = tt
inside_own L O x (Issue b t) is = tt
inside_own L O x (Answer k t a) is = absurd is
inside_own L O x (Due b t) is = tt
inside_own L O x (Arrive n t r) is = absurd is
inside_own L O x (Cancel t) is = tt

chosen_own : ChoiceLaws → (L : Language) (O : Outside) (x : Session) (n : ℕ) (p : Program) (a : After) (r : ℕ) → AllByRecursion (IsOwn L O x) (chosen n p a r)
unfolding chosen
chosen_own laws L O x zero p a r = tt
chosen_own laws L O x (suc n) p (To c) r =
    opt_case (λ o. choose p c r ≡ o → AllByRecursion (IsOwn L O x) (elim o [ None ↦ [] | Some e ↦ e ∷ chosen n p (next p c e) r ])) (choose p c r)
    (λ _ _. tt)
    (λ e _ is. (inside_own L O x e (laws.inside p c r e is), chosen_own laws L O x n p (next p c e) r))
    refl
chosen_own laws L O x (suc n) p (Wrong k) r = tt
chosen_own laws L O x (suc n) p NotNow r = tt

none_chosen : (n : ℕ) (p : Program) (c : Config) (r : ℕ) → choose p c r ≡ None → chosen (suc n) p (To c) r ≡ []
unfolding chosen
none_chosen n p c r is = ap (λ (o : Option Event). elim o [ None ↦ [] | Some e ↦ e ∷ chosen n p (next p c e) r ]) is

active_or : (o : Outcome) → (o ≡ Active) ⊎ (o ≢ Active)
active_or Active = inl refl
active_or (Returned v) = inr (λ is. cc is)
active_or (Raised v) = inr (λ is. cc is)
active_or Cancelled = inr (λ is. cc is)

still_none : ChoiceLaws → (p : Program) (c : Config) (r : ℕ) → IsTrue (quiet c r) ⊎ (c.outcome ≢ Active) → choose p c r ≡ None
still_none laws p c r (inl q) = ⊎_elim (λ active. (laws.quiet p c r active).1 q) (λ ended. laws.ended p c r ended) (active_or c.outcome)
still_none laws p c r (inr ended) = laws.ended p c r ended

abbrev rest_of : Program → Config → ℕ → Option Event → List Event
rest_of p c r None = chosen 4096 p (To c) r
rest_of p c r (Some e) = chosen 4095 p (next p c e) r

pub turn_is_chosen : ChoiceLaws → TurnIsChosen
turn_is_chosen laws L O command handed m J D es c s is leads =
    let x = session command handed m J D in
    let parts : es ≡ with_taken m.taken (rest_of m.program m.config m.reading m.taken) = is ∙ opt_case (λ o. turn_of m.program m.config m.reading o ≡ with_taken o (rest_of m.program m.config m.reading o)) m.taken (λ _. refl) (λ e _. refl) in
    let all : AllByRecursion (Takes m.reading) es = subst (AllByRecursion (Takes m.reading)) (sym is)
    (opt_case (λ o. m.taken ≡ o → AllByRecursion (Takes m.reading) (turn_of m.program m.config m.reading o)) m.taken
    (λ _ _. chosen_takes laws 4096 m.program (To m.config) m.reading s.last)
    (λ e _ has.
    let took : reading_of e ≡ Some m.reading = (s.taken e has).2 in
    let this : Takes m.reading e = λ r it. let two : Some r ≡ Some m.reading = sym it ∙ took in cc two in
    (this, chosen_takes laws 4095 m.program (next m.program m.config e) m.reading (below_next laws.read m.program m.config e m.reading (next m.program m.config e) refl this s.last)))
    refl) in
    record {
      rest = rest_of m.program m.config m.reading m.taken;
      events = parts;
      own = opt_case (λ o. AllByRecursion (IsOwn L O x) (rest_of m.program m.config m.reading o)) m.taken
          (λ _. chosen_own laws L O x 4096 m.program (To m.config) m.reading)
          (λ e _. chosen_own laws L O x 4095 m.program (next m.program m.config e) m.reading);
      leads = leads;
      settled = λ settled. is ∙ ap (turn_of m.program m.config m.reading) settled.taken ∙ none_chosen 4095 m.program m.config m.reading (still_none laws m.program m.config m.reading settled.still);
      readings = take_reading m.reading es all;
      last = run_last laws.read m.program m.config c es m.reading all s.last leads;
    }
