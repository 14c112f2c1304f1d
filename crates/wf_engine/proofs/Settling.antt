-- Turn after turn until nothing can move.
use Rattle.std.specs.Prelude.{◌≡◌, ◌≢◌, ◌⊎◌, ◌↔◌, ◌<◌, ◌≤◌, ◌&&◌, ◌||◌, not, ℕ, suc, Bool, true, false, IsTrue, if◌then◌else◌, is_some, [], Option, Some, None}
use Rattle.std.proofs.Common.{inl, inr, refl, sym, ◌∙◌, ap, subst, arith}
use Rattle.wf_deeds.specs.Memory.{IsSettled, Memory}
use Rattle.wf_engine.proofs.Parts.{Far}
use Rattle.wf_engine.specs.Engine.{Holds, is_closed, memory, spent}
use Rattle.wf_engine.specs.TheOutside.{InTheOutside}
use Rattle.wf_engine.specs.declared.engine.Engine.{Engine}
use Rattle.wf_host.specs.World.{World, Told, Faults, NoneFell, Rose}
use Rattle.wf_machine.specs.Lent.{outcome_view}
use Rattle.wf_machine.specs.Outcome.{IsResult}
use Rattle.wf_machine.specs.declared.Outcome.{Outcome}
use Rattle.wf_machine.specs.declared.Outcome.TheVariants as outcome
use Rattle.wf_model.specs.Config as plain
use Rattle.wf_model.specs.Config.{Active, Config}
use Rattle.wf_model.specs.Ready.{quiet}
use Rattle.wf_replay.specs.TheLanguage.{the_language}
use Rattle.wf_value.specs.Events.{Event}

-- ## Counts and errors

pub none_fell : (f g h : Faults) → NoneFell f g → NoneFell g h → NoneFell f h
none_fell f g h a b = record { disk = omega (arith, a.disk, b.disk); poll = omega (arith, a.poll, b.poll); print = omega (arith, a.print, b.print) }

pub rose_later : (a b c : ℕ) → a ≤ b → Rose b c → Rose a c
rose_later a b c le rose = omega (arith, le, rose)

pub told_on : (w new : World) → new.tells ≡ w.tells → IsTrue w.tells → IsTrue new.tells
told_on w new same told = subst IsTrue (sym same) told

-- one of two that isn't the other
pub first_of : {A B C : Type 0} → (A × B) ⊎ C → (C → ⊥) → A × B
first_of (inl both) not_other = both
first_of (inr other) not_other = absurd (not_other other)

-- ## Outcomes
-- what is lent and isn't `Active` is a result
pub ends : (o : Outcome) (p : plain.Outcome) → outcome_view o ≡ p → (o ≡ outcome.Active → ⊥) → IsResult p
ends outcome.Active p is other = absurd (other refl)
ends (outcome.Returned v) p is other = subst IsResult is tt
ends (outcome.Raised e) p is other = subst IsResult is tt

pub lent_active : (o : Outcome) (p : plain.Outcome) → outcome_view o ≡ p → o ≡ outcome.Active → p ≡ Active
lent_active o p is active = sym is ∙ ap outcome_view active

-- a result is no `Active`
pub result_is_over : (o : plain.Outcome) → IsResult o → o ≢ Active
result_is_over plain.Active is = absurd is
result_is_over (plain.Returned v) is = λ no. cc no
result_is_over (plain.Raised e) is = λ no. cc no
result_is_over plain.Cancelled is = absurd is

-- ## Settled
abbrev is_active : plain.Outcome → Bool
is_active plain.Active = true
is_active (plain.Returned v) = false
is_active (plain.Raised e) = false
is_active plain.Cancelled = false

-- nothing can move, or there is an outcome
abbrev pub is_still : Config → ℕ → Bool
is_still c reading = quiet c reading || not (is_active c.outcome)

-- and nothing that was taken waits
abbrev pub is_at_rest : Memory → Bool
is_at_rest m = not (is_some m.taken) && is_still m.config m.reading

still_where : (q : Bool) (o : plain.Outcome) → IsTrue q ⊎ (o ≢ Active) → q || not (is_active o) ≡ true
still_where true o is = refl
still_where false (plain.Returned v) is = refl
still_where false (plain.Raised e) is = refl
still_where false plain.Cancelled is = refl
still_where false plain.Active (inl moves) = absurd (cc moves)
still_where false plain.Active (inr over) = absurd (over refl)

still_by : (q : Bool) (o : plain.Outcome) → q || not (is_active o) ≡ true → IsTrue q ⊎ (o ≢ Active)
still_by true o is = inl refl
still_by false plain.Active is = absurd (cc is)
still_by false (plain.Returned v) is = inr (λ no. cc no)
still_by false (plain.Raised e) is = inr (λ no. cc no)
still_by false plain.Cancelled is = inr (λ no. cc no)

module _ (m : Memory) where
  pub rests_where : IsSettled m → is_at_rest m ≡ true
  rests_where s = ap (λ o. not (is_some o) && is_still m.config m.reading) s.taken ∙ still_where (quiet m.config m.reading) m.config.outcome s.still

  pub settled_where : m.owed ≡ None → is_at_rest m ≡ true → IsSettled m
  settled_where owed rests = record { taken = (by m.taken rests).0; owed = owed; still = still_by (quiet m.config m.reading) m.config.outcome (by m.taken rests).1 }
    where
      by : (o : Option Event) → not (is_some o) && is_still m.config m.reading ≡ true → (o ≡ None) × (is_still m.config m.reading ≡ true)
      by None is = (refl, is)
      by (Some e) is = absurd (cc is)

  -- as a test tells
  pub busy_where : (b : Bool) → m.owed ≡ None → (IsTrue b ↔ IsSettled m) → b ≡ false → is_at_rest m ≡ false
  busy_where b owed tells off = by (is_at_rest m) refl
    where
      by : (v : Bool) → is_at_rest m ≡ v → is_at_rest m ≡ false
      by false is = is
      by true is = absurd (let no : false ≡ true = sym off ∙ tells.1 (settled_where owed is) in cc no)

  pub not_settled : is_at_rest m ≡ false → IsSettled m → ⊥
  not_settled busy s = let no : false ≡ true = sym busy ∙ rests_where s in cc no

  -- what is left to do: nothing where it is settled
  abbrev pub left : ℕ
  left = if is_at_rest m then 0 else suc (spent m.config)

-- it falls with each turn
pub turn_takes : (m n : Memory) → is_at_rest m ≡ false → IsSettled n ⊎ (spent n.config < spent m.config) → left n < left m
turn_takes m n busy goes =
    let before : left m ≡ suc (spent m.config) = ap (λ t. if t then 0 else suc (spent m.config)) busy in
    by (is_at_rest n) goes refl before
  where
    by : (t : Bool) → IsSettled n ⊎ (spent n.config < spent m.config) → is_at_rest n ≡ t → left m ≡ suc (spent m.config) → left n < left m
    by true any is before = omega (arith, before, ap (λ t. if t then 0 else suc (spent n.config)) is)
    by false (inl settled) is before = absurd (not_settled n is settled)
    by false (inr less) is before = omega (arith, before, less, ap (λ t. if t then 0 else suc (spent n.config)) is)

-- of an engine that isn't closed
pub is_busy : (e : Engine) (b : Bool) → is_closed e ≡ false → (is_closed e ≡ false → IsTrue b ↔ IsSettled (memory e)) → b ≡ false → is_at_rest (memory e) ≡ false
is_busy e b open_now tells off = busy_where (memory e) b refl (tells open_now) off

pub is_settled_now : (e : Engine) (b : Bool) → is_closed e ≡ false → (is_closed e ≡ false → IsTrue b ↔ IsSettled (memory e)) → b ≡ true → IsSettled (memory e)
is_settled_now e b open_now tells on = (tells open_now).0 on

-- ## The loop
-- turn after turn was added
pub record Going (first now : World) (f g : Faults) (e d : Engine) (Rest : Type 0) : Type 0 where
  pub not_closed : is_closed d ≡ false
  pub holds : Told first (Holds d now)
  pub number : (memory d).session ≡ (memory e).session
  pub waits : (memory d).waits ≡ (memory e).waits
  pub so_far : InTheOutside (λ O. Told first (Far the_language O 0 (memory e) (memory d) first now []))
  pub tells : now.tells ≡ first.tells
  pub counts : NoneFell f g
  pub rest : Rest
