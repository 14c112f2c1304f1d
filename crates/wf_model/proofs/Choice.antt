-- When nothing is chosen.
use Rattle.std.specs.Prelude.{◌≡◌, ℕ, ◌%◌, max, Bool, true, false, not, ◌&&◌, ◌||◌, ◌≢◌, ◌⊎◌, List, [], ◌∷◌, if◌then◌else◌, nat_le, Some, None, Option, option_map}
use Rattle.std.proofs.Math.Dec.{leb-zero}
use Rattle.std.proofs.Common.{inl, inr}
use Rattle.wf_lemmas.proofs.Bools.{and_false}
use Rattle.wf_lemmas.proofs.Options.{some_not_none}
use mathlib.Core.Path.{refl, sym, subst, ◌∙◌}
use Rattle.wf_ast.specs.Tree.{Program}
use Rattle.wf_model.specs.ChoiceLaws.{NothingIsChosenWhenQuiet, NothingIsChosenBehindAnOutcome, reading_of, ChoiceTakesTheReading}
use Rattle.wf_model.specs.Choose.{wanted, first_due, first_begin, first_ready, next_ready, ready_event, chosen_event, choose}
use Rattle.wf_model.specs.Config.{Outcome, Active, Returned, Raised, Cancelled, Task, Config}
use Rattle.wf_model.specs.Kinds.{NextKind, Plainly, ByClock, ByCall, next_kind}
use Rattle.wf_model.specs.Ready.{is_ready, may_begin, is_due, none_goes_on, quiet}
use Rattle.wf_value.specs.Events.{Event}
use Rattle.wf_value.specs.HttpUrl.{first_of_two}

-- ## Truth values and options
false_is_not_true : false ≡ true → ⊥
false_is_not_true h = cc h

no_parts : (a b d n : Bool) → (not (a || b || d) && n) ≡ true → (a ≡ false) × (b ≡ false) × (d ≡ false) × (n ≡ true)
no_parts true b d n h = absurd (false_is_not_true h)
no_parts false true d n h = absurd (false_is_not_true h)
no_parts false false true n h = absurd (false_is_not_true h)
no_parts false false false false h = absurd (false_is_not_true h)
no_parts false false false true h = (refl, refl, refl, refl)

of_no_parts : (a b d n : Bool) → a ≡ false → b ≡ false → d ≡ false → n ≡ true → (not (a || b || d) && n) ≡ true
of_no_parts a b d n h i j k = cc (h, i, j, k)

passed : {A : Type 0} (b : Bool) (x y : A) → b ≡ false → (if b then x else y) ≡ y
passed true x y h = absurd (false_is_not_true (sym h))
passed false x y h = refl

and_both : (a b : Bool) → a ≡ true → (a && b) ≡ false → b ≡ false
and_both true b h k = k
and_both false b h k = absurd (false_is_not_true h)

none_of : {A : Type 0} (b : Bool) (x : A) (o : Option A) → (if b then Some x else o) ≡ None → (b ≡ false) × (o ≡ None)
none_of true x o h = absurd (some_not_none x h)
none_of false x o h = (refl, h)

three_none : {A B C D : Type 0} (f : A → D) (g : B → D) (k : C → D) (x : Option A) (y : Option B) (z : Option C)
    → first_of_two (option_map f x) (first_of_two (option_map g y) (option_map k z)) ≡ None → (x ≡ None) × (y ≡ None) × (z ≡ None)
three_none f g k (Some a) y z h = absurd (some_not_none _ h)
three_none f g k None (Some b) z h = absurd (some_not_none _ h)
three_none f g k None None (Some d) h = absurd (some_not_none _ h)
three_none f g k None None None h = (refl, refl, refl)

two_none : {A : Type 0} (x y : Option A) → first_of_two x y ≡ None → y ≡ None
two_none (Some a) y h = absurd (some_not_none a h)
two_none None y h = h

-- ## Where no task goes on
module _ (c : Config) (r : ℕ) where
  due_none : (ts : List (ℕ × Task)) → none_goes_on c r ts ≡ true → first_due c r ts ≡ None
  due_none [] h = refl
  due_none (t ∷ ts) h = let k = no_parts (is_ready t.1) (may_begin t.1) (is_due c r t.1.wait) (none_goes_on c r ts) h in passed (is_due c r t.1.wait) (Some t.0) (first_due c r ts) k.2 ∙ due_none ts k.3

  begin_none : (ts : List (ℕ × Task)) → none_goes_on c r ts ≡ true → first_begin ts ≡ None
  begin_none [] h = refl
  begin_none (t ∷ ts) h = let k = no_parts (is_ready t.1) (may_begin t.1) (is_due c r t.1.wait) (none_goes_on c r ts) h in passed (may_begin t.1) (Some t.0) (first_begin ts) k.1 ∙ begin_none ts k.3

  ready_none : (from : ℕ) (ts : List (ℕ × Task)) → none_goes_on c r ts ≡ true → first_ready from ts ≡ None
  ready_none from [] h = refl
  ready_none from (t ∷ ts) h =
      let k = no_parts (is_ready t.1) (may_begin t.1) (is_due c r t.1.wait) (none_goes_on c r ts) h in
      passed (nat_le from t.0 && is_ready t.1) (Some t) (first_ready from ts) (and_false (nat_le from t.0) (is_ready t.1) k.0) ∙ ready_none from ts k.3

  none_goes : (ts : List (ℕ × Task)) → first_due c r ts ≡ None → first_begin ts ≡ None → first_ready 0 ts ≡ None → none_goes_on c r ts ≡ true
  none_goes [] h i j = refl
  none_goes (t ∷ ts) h i j =
      let d = none_of (is_due c r t.1.wait) t.0 (first_due c r ts) h in
      let b = none_of (may_begin t.1) t.0 (first_begin ts) i in
      let y = none_of (nat_le 0 t.0 && is_ready t.1) t (first_ready 0 ts) j in
      of_no_parts (is_ready t.1) (may_begin t.1) (is_due c r t.1.wait) (none_goes_on c r ts)
      (and_both (nat_le 0 t.0) (is_ready t.1) (leb-zero t.0) y.0) b.0 d.0 (none_goes ts d.1 b.1 y.1)

-- ## The choice
quiet_chooses : (p : Program) (c : Config) (r now : ℕ) → quiet c r ≡ true → chosen_event p c r now ≡ None
quiet_chooses p c r now h = cc (due_none c r c.tasks h, begin_none c r c.tasks h, ready_none c r (c.moves % c.made) c.tasks h, ready_none c r 0 c.tasks h)

none_chosen : (p : Program) (c : Config) (r now : ℕ) → chosen_event p c r now ≡ None → quiet c r ≡ true
none_chosen p c r now h =
    let k = three_none (λ b. Event.Due b now) Event.Begin (ready_event p now) (first_due c r c.tasks) (first_begin c.tasks) (next_ready c) h in
    none_goes c r c.tasks k.0 k.1 (two_none (first_ready (c.moves % c.made) c.tasks) (first_ready 0 c.tasks) k.2)

abbrev if_active : Outcome → Option Event → Option Event
if_active o x = elim o [ Active ↦ x | _ ↦ None ]

active_chooses : (o : Outcome) (x : Option Event) → o ≡ Active → if_active o x ≡ x
active_chooses Active x h = refl
active_chooses (Returned v) x h = cc h
active_chooses (Raised v) x h = cc h
active_chooses Cancelled x h = cc h

ended_chooses : (o : Outcome) (x : Option Event) → o ≢ Active → if_active o x ≡ None
ended_chooses Active x h = absurd (h refl)
ended_chooses (Returned v) x h = refl
ended_chooses (Raised v) x h = refl
ended_chooses Cancelled x h = refl

pub nothing_is_chosen_when_quiet : NothingIsChosenWhenQuiet
nothing_is_chosen_when_quiet p c r a =
    let same : choose p c r ≡ chosen_event p c r (max r c.last) = active_chooses c.outcome (chosen_event p c r (max r c.last)) a in
    (λ h. none_chosen p c r (max r c.last) (sym same ∙ h), λ h. same ∙ quiet_chooses p c r (max r c.last) h)

pub nothing_is_chosen_behind_an_outcome : NothingIsChosenBehindAnOutcome
nothing_is_chosen_behind_an_outcome p c r h = ended_chooses c.outcome (chosen_event p c r (max r c.last)) h

-- ## The reading of the choice
-- a fact of the event, if there is one
abbrev Chosen : (Event → Type 0) → Option Event → Type 0
Chosen P None = Unit {0}
Chosen P (Some e) = P e

chosen_so : (P : Event → Type 0) (o : Option Event) (e : Event) → Chosen P o → o ≡ Some e → P e
chosen_so P o e h i = subst (Chosen P) i h

first_so : (P : Event → Type 0) (x y : Option Event) → Chosen P x → Chosen P y → Chosen P (first_of_two x y)
first_so P None y h k = k
first_so P (Some e) y h k = h

mapped_so : {A : Type 0} (P : Event → Type 0) (f : A → Event) (x : Option A) → ((a : A) → P (f a)) → Chosen P (option_map f x)
mapped_so P f None h = tt
mapped_so P f (Some a) h = h a

abbrev ReadAt : ℕ → Event → Type 0
ReadAt now e = (reading_of e ≡ None) ⊎ (reading_of e ≡ Some now)

wanted_reads : (k : NextKind) (b now : ℕ) → ReadAt now (wanted k b now)
wanted_reads Plainly b now = inl refl
wanted_reads ByClock b now = inr refl
wanted_reads ByCall b now = inr refl

event_reads : (p : Program) (c : Config) (r now : ℕ) → Chosen (ReadAt now) (chosen_event p c r now)
event_reads p c r now =
    first_so (ReadAt now) (option_map (λ b. Event.Due b now) (first_due c r c.tasks)) (first_of_two (option_map Event.Begin (first_begin c.tasks)) (option_map (ready_event p now) (next_ready c)))
    (mapped_so (ReadAt now) (λ b. Event.Due b now) (first_due c r c.tasks) (λ b. inr refl))
    (first_so (ReadAt now) (option_map Event.Begin (first_begin c.tasks)) (option_map (ready_event p now) (next_ready c))
    (mapped_so (ReadAt now) Event.Begin (first_begin c.tasks) (λ b. inl refl))
    (mapped_so (ReadAt now) (ready_event p now) (next_ready c) (λ t. wanted_reads (next_kind p t.1.control) t.0 now)))

active_reads : (P : Event → Type 0) (o : Outcome) (x : Option Event) → Chosen P x → Chosen P (if_active o x)
active_reads P Active x h = h
active_reads P (Returned v) x h = tt
active_reads P (Raised v) x h = tt
active_reads P Cancelled x h = tt

pub choice_takes_the_reading : ChoiceTakesTheReading
choice_takes_the_reading p c r e h =
    chosen_so (ReadAt (max r c.last)) (choose p c r) e (active_reads (ReadAt (max r c.last)) c.outcome (chosen_event p c r (max r c.last)) (event_reads p c r (max r c.last))) h
