-- When an engine can go on.
use Rattle.std.specs.Coded.{Coded-set, le_prop, code_by, coded⊎, coded_bool, Π_prop, →_prop}
use Rattle.std.specs.Prelude.{◌≡◌, ◌⊎◌, ◌≤◌, ℕ, Bool, true, false, is_some, length, Option}
use Rattle.std.proofs.Common.{inl, inr, refl}
use Rattle.wf_connections.specs.Calls.{is_started, listens}
use Rattle.wf_connections.specs.declared.connections.Connections.{Connections}
use Rattle.wf_engine.specs.Taken.{AreTakable, IsTakable}
use Rattle.wf_engine.specs.declared.taken.Taken.{Taken}
use Rattle.wf_history.specs.Stands.{at_end, is_closed, is_new}
use Rattle.wf_history.specs.declared.history.History.{History}
use Rattle.wf_machine.specs.Seen.{state_of}
use Rattle.wf_machine.specs.declared.machine.Machine.{Machine}
use Rattle.wf_model.specs.Config.{Active, Cancelled, Config, Outcome, Raised, Returned}
use Rattle.wf_model.specs.Ready.{request_of}
use Rattle.wf_value.specs.Code.{coded_data}
use Rattle.wf_value.specs.Data.{Data}

-- the calls that were started are calls of the execution, and those that are open still listen
pub record AreOf (a : Connections) (c : Config) : Type 0 where
  pub issued : (k : ℕ) → is_started a k ≡ true → k ≤ length c.calls
  pub heard : (k : ℕ) → is_some (request_of c k) ≡ true → is_started a k ≡ true → listens a k ≡ true

-- a history that can be added to, a machine that can go on, and what was sent and taken of it
pub record IsReady (h : History) (m : Machine) (reading : ℕ) (a : Connections) (taken : Option Taken) : Type 0 where
  pub not_closed : is_closed h ≡ false
  pub begun : is_new h ≡ false
  pub ended : at_end h ≡ true
  pub whole : (state_of m).broken ≡ false
  pub last : (state_of m).config.last ≤ reading
  pub calls : AreOf a (state_of m).config
  pub takable : AreTakable (state_of m).config taken

-- ## There is at most one proof of it
abbrev split : Outcome → Bool ⊎ (Data ⊎ Data)
split Active = inl true
split (Returned v) = inr (inl v)
split (Raised e) = inr (inr e)
split Cancelled = inl false

abbrev join : Bool ⊎ (Data ⊎ Data) → Outcome
join (inl true) = Active
join (inl false) = Cancelled
join (inr (inl v)) = Returned v
join (inr (inr e)) = Raised e

join-split : (o : Outcome) → join (split o) ≡ o
join-split Active = refl
join-split (Returned v) = refl
join-split (Raised e) = refl
join-split Cancelled = refl

Outcome-set : IsSet Outcome
Outcome-set = Coded-set (code_by (Bool ⊎ (Data ⊎ Data)) (coded⊎ coded_bool (coded⊎ coded_data coded_data)) split join join-split)

IsTakable-prop : (c : Config) (t : Taken) → IsProp (IsTakable c t)
IsTakable-prop c t = λ x y i. record { active = Outcome-set c.outcome Active x.active y.active i; opened = Coded-set coded_bool (is_some (request_of c t.call)) true x.opened y.opened i }

AreTakable-prop : (c : Config) (o : Option Taken) → IsProp (AreTakable c o)
AreTakable-prop c o = Π_prop (λ t. →_prop (IsTakable-prop c t))

AreOf-prop : (a : Connections) (c : Config) → IsProp (AreOf a c)
AreOf-prop a c = λ x y i. record {
  issued = Π_prop {B = λ (k : ℕ). is_started a k ≡ true → k ≤ length c.calls} (λ k. →_prop le_prop) x.issued y.issued i;
  heard = Π_prop {B = λ (k : ℕ). is_some (request_of c k) ≡ true → is_started a k ≡ true → listens a k ≡ true} (λ k. →_prop (→_prop (Coded-set coded_bool (listens a k) true))) x.heard y.heard i;
}

pub IsReady-prop : (h : History) (m : Machine) (r : ℕ) (a : Connections) (o : Option Taken) → IsProp (IsReady h m r a o)
IsReady-prop h m r a o = λ x y i. record {
  not_closed = Coded-set coded_bool (is_closed h) false x.not_closed y.not_closed i;
  begun = Coded-set coded_bool (is_new h) false x.begun y.begun i;
  ended = Coded-set coded_bool (at_end h) true x.ended y.ended i;
  whole = Coded-set coded_bool (state_of m).broken false x.whole y.whole i;
  last = le_prop x.last y.last i;
  calls = AreOf-prop a (state_of m).config x.calls y.calls i;
  takable = AreTakable-prop (state_of m).config o x.takable y.takable i;
}
