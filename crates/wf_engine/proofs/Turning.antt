-- What is known of the events of a turn, one after another.
use Rattle.std.specs.Prelude.{◌≡◌, ◌≢◌, ◌⊎◌, ◌≤◌, ◌<◌, ◌+◌, ◌*◌, ◌-◌, zero, suc, false, max, replicate, unwrap_or, ℕ, List, [], ◌∷◌, ◌++◌, length, Some, None}
use Rattle.std.specs.List.{AllByRecursion}
use Rattle.std.proofs.Common.{inl, inr, ⊎_elim, refl, sym, ◌∙◌, ap, subst, arith, append_assoc, length-append}
use Rattle.std.proofs.lemmas.List.{append-nil}
use Rattle.std.proofs.Math.Bridge.{le_prop}
use Rattle.std.proofs.Math.Logic.{∥∥₁_elim}
use Rattle.wf_lemmas.proofs.Lists.{all_at, all_push}
use Rattle.wf_ast.specs.Tree.{Program}
use Rattle.wf_engine.proofs.Chosen.{Turning, chosen_none, turn_ends, turn_is_full, turns_at_first, turns_on}
use Rattle.wf_deeds.specs.Kept.{reading_of}
use Rattle.wf_deeds.specs.Turns.{chosen, TakeReading}
use Rattle.wf_engine.specs.Engine.{spent}
use Rattle.wf_engine.specs.Turn.{AreChosen, Rests}
use Rattle.wf_events.specs.Spelling.{IsOld}
use Rattle.wf_machine.specs.Counts.{counts, counts_of}
use Rattle.wf_machine.specs.Runs.{AppliesMoves, AreMoves}
use Rattle.wf_machine.specs.State.{State}
use Rattle.wf_model.specs.ChoiceLaws as choice
use Rattle.wf_model.specs.ChoiceLaws.{ChoiceTakesTheReading, NothingIsChosenBehindAnOutcome, NothingIsChosenWhenQuiet}
use Rattle.wf_model.specs.Choose.{choose}
use Rattle.wf_model.specs.Config.{Outcome, Active, Returned, Raised, Cancelled, Config, To}
use Rattle.wf_model.specs.CountLaws.{EventsAreCounted, weigh}
use Rattle.wf_model.specs.ReadingLaws.{ChosenIsFromInside, IsFromInside}
use Rattle.wf_model.specs.Run.{run_on}
use Rattle.wf_model.specs.Step.{next}
use Rattle.wf_model.specs.WaitLaws.{Sound}
use Rattle.wf_value.specs.Events.{Event, Move, MoveAt, Begin, Issue, Answer, Due, Arrive, Cancel}

-- ## Readings
-- both say the same
same_reading : (e : Event) → reading_of e ≡ choice.reading_of e
same_reading (Move b) = refl
same_reading (MoveAt b t) = refl
same_reading (Begin b) = refl
same_reading (Issue b t) = refl
same_reading (Answer k t a) = refl
same_reading (Due b t) = refl
same_reading (Arrive n t r) = refl
same_reading (Cancel t) = refl

-- its reading, if it has one, is this one
abbrev pub Takes : ℕ → Event → Type 0
Takes reading e = (r : ℕ) → reading_of e ≡ Some r → r ≡ reading

pub take_reading : (reading : ℕ) (es : List Event) → AllByRecursion (Takes reading) es → TakeReading reading es
take_reading reading es all e r front back is has = all_at (Takes reading) front e back (subst (AllByRecursion (Takes reading)) is all) r has

takes : (reading last : ℕ) (e : Event) → last ≤ reading → (choice.reading_of e ≡ None) ⊎ (choice.reading_of e ≡ Some (max reading last)) → Takes reading e
takes reading last e le (inl none) r has = absurd (let no : None ≡ Some r = sym none ∙ sym (same_reading e) ∙ has in cc no)
takes reading last e le (inr some) r has =
    let two : Some (max reading last) ≡ Some r = sym some ∙ sym (same_reading e) ∙ has in
    let one : max reading last ≡ r = cc two in
    omega (arith, le, one)

-- and the last one goes no further
still_last : (reading last new : ℕ) (e : Event) → last ≤ reading → (choice.reading_of e ≡ None) ⊎ (choice.reading_of e ≡ Some (max reading last)) → new ≡ unwrap_or (choice.reading_of e) last → new ≤ reading
still_last reading last new e le (inl none) is = omega (arith, le, is ∙ ap (λ o. unwrap_or o last) none)
still_last reading last new e le (inr some) is = omega (arith, le, is ∙ ap (λ o. unwrap_or o last) some)

-- ## Of a machine
-- what one event more counts
counts_more : (es : List Event) (e : Event) → counts_of (es ++ e ∷ []) ≡ counts_of es + counts e
counts_more [] e = omega arith
counts_more (d ∷ es) e = omega (arith, counts_more es e)

-- so many events may come
pub record Telling (n : ℕ) (first now : State) (reading : ℕ) (es : List Event) : Type 0 where
  pub turning : Turning n first now reading es
  pub counted : now.config.moves ≡ first.config.moves + counts_of es
  pub most : now.config.moves ≤ 100000
  pub inside : AllByRecursion IsFromInside es
  pub spelled : AllByRecursion IsOld es
  pub readings : first.config.last ≤ reading → AllByRecursion (Takes reading) es
  pub last : first.config.last ≤ reading → now.config.last ≤ reading

pub tells_at_first : (n : ℕ) (first : State) (reading : ℕ) → first.broken ≡ false → first.config.moves ≤ 100000 → Telling n first first reading []
tells_at_first n first reading whole most = record {
  turning = turns_at_first n first reading whole;
  counted = omega arith;
  most = most;
  inside = tt;
  spelled = tt;
  readings = λ le. tt;
  last = λ le. le;
}

pub tells_on : ChoiceTakesTheReading → ChosenIsFromInside → (n : ℕ) (first mid new : State) (reading : ℕ) (es : List Event) (e : Event) → Telling n first mid reading es → Turning n first new reading (es ++ e ∷ []) → choose mid.program mid.config reading ≡ Some e
    → IsOld e → new.config.moves ≡ mid.config.moves + counts e → new.config.moves ≤ 100000 → new.config.last ≡ unwrap_or (choice.reading_of e) mid.config.last → Telling n first new reading (es ++ e ∷ [])
tells_on law from n first mid new reading es e t turning is old more most last = record {
  turning = turning;
  counted = omega (arith, more, t.counted, counts_more es e);
  most = most;
  inside = all_push IsFromInside es e t.inside (from mid.program mid.config reading e is);
  spelled = all_push IsOld es e t.spelled old;
  readings = λ le. all_push (Takes reading) es e (t.readings le) (takes reading mid.config.last e (t.last le) (law mid.program mid.config reading e is));
  last = λ le. still_last reading mid.config.last new.config.last e (t.last le) (law mid.program mid.config reading e is) last;
}

-- an outcome, or none
over : (o : Outcome) → (o ≡ Active) ⊎ (o ≢ Active)
over Active = inl refl
over (Returned v) = inr (λ is. cc is)
over (Raised e) = inr (λ is. cc is)
over Cancelled = inr (λ is. cc is)

-- where nothing is chosen, nothing can move
pub rests : NothingIsChosenWhenQuiet → (p : Program) (c : Config) (reading : ℕ) → choose p c reading ≡ None → Rests c reading
rests law p c reading none = ⊎_elim (λ active. inr ((law p c reading active).0 none)) inl (over c.outcome)

-- ## What may still come
-- each event takes something of it
less_each : EventsAreCounted → (p : Program) (b c : Config) (es : List Event) → b.moves ≤ 100000 → c.moves ≤ 100000 → AllByRecursion IsFromInside es → run_on p (To b) es ≡ To c → Sound b → length es + spent c ≤ spent b
less_each law p b c es before after inside leads sound =
    let counted : weigh c.tasks + length es + 3 * b.moves ≤ weigh b.tasks + 3 * c.moves = law p b c es sound inside leads in
    omega (arith, counted, before, after)

falls : EventsAreCounted → (p : Program) (b c : Config) (es : List Event) → b.moves ≤ 100000 → c.moves ≤ 100000 → AllByRecursion IsFromInside es → run_on p (To b) es ≡ To c → (b.outcome ≡ Active → ∥ Sound b ∥₁) → (b.outcome ≢ Active → es ≡ [])
    → length es + spent c ≤ spent b
falls law p b c es before after inside leads sound none =
    ⊎_elim
    (λ active. ∥∥₁_elim (sound active) (λ x y. le_prop x y) (less_each law p b c es before after inside leads))
    (λ over. still (none over))
    (over b.outcome)
  where
    still : es ≡ [] → length es + spent c ≤ spent b
    still nil =
        let same : b ≡ c = cc (ap (λ l. run_on p (To b) l) (sym nil) ∙ leads) in
        omega (arith, ap length nil, ap spent same)

-- where nothing more comes
pub are_chosen : NothingIsChosenBehindAnOutcome → EventsAreCounted → (n : ℕ) (first now : State) (reading : ℕ) (es : List Event) → first.config.moves ≤ 100000 → (first.config.outcome ≡ Active → ∥ Sound first.config ∥₁)
    → Telling n first now reading es → es ≡ chosen n first.program (To first.config) reading → (length es < n → Rests now.config reading) → AreChosen n first now reading es
are_chosen law counts n first now reading es few sound t whole ended =
    let none : first.config.outcome ≢ Active → es ≡ [] = λ over. whole ∙ chosen_none n first.program first.config reading (law first.program first.config reading over) in
    record {
      turn = whole;
      leads = t.turning.so_far.leads;
      short = t.turning.so_far.short;
      ended = ended;
      active = none;
      counted = t.counted;
      most = t.most;
      falls = falls counts first.program first.config now.config es few t.most t.inside t.turning.so_far.leads sound none;
      inside = t.inside;
      spelled = t.spelled;
      readings = λ le. take_reading reading es (t.readings le);
      last = t.last;
      program = t.turning.program;
      whole = t.turning.whole;
    }

-- ## Behind other events
-- of 4,096 events with those before them
pub record Gone (first now : State) (reading : ℕ) (before all : List Event) : Type 0 where
  pub added : List Event
  pub longer : all ≡ before ++ added
  pub telling : Telling (4096 - length before) first now reading added

pub gone_first : (first : State) (reading : ℕ) (before : List Event) → first.broken ≡ false → first.config.moves ≤ 100000 → Gone first first reading before before
gone_first first reading before whole most = record {
  added = [];
  longer = sym (append-nil before);
  telling = tells_at_first (4096 - length before) first reading whole most;
}

module _ (first mid : State) (reading : ℕ) (before es : List Event) (g : Gone first mid reading before es) where
  counted_all : length es ≡ length before + length g.added
  counted_all = ap length g.longer ∙ length-append before g.added

  room : length es < 4096 → length g.added < 4096 - length before
  room less = omega (arith, less, counted_all)

  pub gone_on : ChoiceTakesTheReading → ChosenIsFromInside → (new : State) (e : Event) (fs : List Event) → length es < 4096 → choose mid.program mid.config reading ≡ Some e → next mid.program mid.config e ≡ To new.config → new.broken ≡ false
      → new.program ≡ mid.program → IsOld e → new.config.moves ≡ mid.config.moves + counts e → new.config.moves ≤ 100000 → new.config.last ≡ unwrap_or (choice.reading_of e) mid.config.last → fs ≡ es ++ e ∷ [] → Gone first new reading before fs
  gone_on law from new e fs less is step whole same old more most last pushed = record {
    added = g.added ++ e ∷ [];
    longer = pushed ∙ ap (λ l. l ++ e ∷ []) g.longer ∙ append_assoc before g.added (e ∷ []);
    telling = tells_on law from (4096 - length before) first mid new reading g.added e g.telling
        (turns_on (4096 - length before) first mid new reading g.added e g.telling.turning (room less) is step whole same) is old more most last;
  }

  -- where nothing is chosen
  pub gone_ends : NothingIsChosenBehindAnOutcome → NothingIsChosenWhenQuiet → EventsAreCounted → first.config.moves ≤ 100000 → (first.config.outcome ≡ Active → ∥ Sound first.config ∥₁) → choose mid.program mid.config reading ≡ None
      → (fs : List Event) × (es ≡ before ++ fs) × AreChosen (4096 - length before) first mid reading fs
  gone_ends law quiet counts few sound none = (
    g.added,
    g.longer,
    are_chosen law counts (4096 - length before) first mid reading g.added few sound g.telling (turn_ends (4096 - length before) first mid reading g.added g.telling.turning none) (λ _. rests quiet mid.program mid.config reading none),
  )

  -- where there are as many as there may be
  pub gone_full : NothingIsChosenBehindAnOutcome → EventsAreCounted → first.config.moves ≤ 100000 → (first.config.outcome ≡ Active → ∥ Sound first.config ∥₁) → 4096 ≤ length es
      → (fs : List Event) × (es ≡ before ++ fs) × AreChosen (4096 - length before) first mid reading fs
  gone_full law counts few sound most =
      let all : 4096 - length before ≤ length g.added = omega (arith, most, counted_all) in (
        g.added,
        g.longer,
        are_chosen law counts (4096 - length before) first mid reading g.added few sound g.telling (turn_is_full (4096 - length before) first mid reading g.added g.telling.turning all)
            (λ less. let no : ⊥ = omega (arith, all, less) in absurd no),
      )

-- ## Moves that follow one another
-- a machine that isn't broken
abbrev stands : Program → Config → State
stands p c = record { program = p; config = c; broken = false }

pub stands_so : (s : State) (p : Program) → s.program ≡ p → s.broken ≡ false → stands p s.config ≡ s
stands_so s p is whole = ap (λ q. stands q s.config) (sym is) ∙ ap (λ b. record s { broken = b }) (sym whole)

pub gone_moves : ChoiceTakesTheReading → ChosenIsFromInside → (first : State) (reading : ℕ) (before : List Event) (p : Program) (n : ℕ) (es : List Event) (b d : Config) → Gone first (stands p b) reading before es → length es + n ≤ 4096 → AreMoves reading p n b d
    → Gone first (stands p d) reading before (es ++ replicate n (Move 0))
gone_moves law from first reading before p zero es b d g few are =
    subst (λ c. Gone first (stands p c) reading before (es ++ [])) are (subst (Gone first (stands p b) reading before) (sym (append-nil es)) g)
gone_moves law from first reading before p (suc n) es b d g few (c, move, rest) =
    let one : Gone first (stands p c) reading before (es ++ Move 0 ∷ []) =
    gone_on first (stands p b) reading before es g law from (stands p c) (Move 0) (es ++ Move 0 ∷ []) (omega (arith, few)) move.comes move.leads refl refl (omega arith) move.counted move.most move.last refl in
    subst (Gone first (stands p d) reading before) (append_assoc es (Move 0 ∷ []) (replicate n (Move 0)))
    (gone_moves law from first reading before p n (es ++ Move 0 ∷ []) c d one (omega (arith, few, length-append es (Move 0 ∷ []))) rest)

pub gone_together : ChoiceTakesTheReading → ChosenIsFromInside → (first mid new : State) (reading : ℕ) (before es : List Event) (n s t : ℕ) → Gone first mid reading before es → length es + n ≤ 4096 → AppliesMoves mid new reading n s t
    → Gone first new reading before (es ++ replicate n (Move 0))
gone_together law from first mid new reading before es n s t g few did =
    subst (λ x. Gone first x reading before (es ++ replicate n (Move 0))) (stands_so new mid.program did.program did.whole)
    (gone_moves law from first reading before mid.program n es mid.config new.config (subst (λ x. Gone first x reading before es) (sym (stands_so mid mid.program refl g.telling.turning.whole)) g) few did.moves)

-- where there was none
pub gone_nowhere : (first new : State) (reading : ℕ) (before es : List Event) (n : ℕ) → Gone first new reading before (es ++ replicate n (Move 0)) → n ≡ 0 → Gone first new reading before es
gone_nowhere first new reading before es n g none = subst (Gone first new reading before) (ap (λ k. es ++ replicate k (Move 0)) none ∙ append-nil es) g
