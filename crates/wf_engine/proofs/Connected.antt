-- What a call that is forgotten, dropped or started changes.
use Rattle.std.specs.Prelude.{◌≡◌, ◌≢◌, ◌≤◌, ◌&&◌, ◌||◌, ℕ, Bool, true, false, not, is_some, nat_eq, List, [], ◌∷◌, length, Option, Some, None, option_map}
use Rattle.std.proofs.Common.{Bor, inl, inr, refl, sym, ◌∙◌, ap, subst}
use Rattle.std.proofs.lemmas.Bool.{cases_lt, eq-eqb, eqb-true}
use Rattle.std.specs.Option.{option_copied}
use Rattle.wf_lemmas.proofs.Bools.{or_none}
use Rattle.wf_connections.specs.Calls.{Drops, Forgets, Starts, is_dropped, is_started, listens, told}
use Rattle.wf_connections.specs.declared.connections.Connections.{Connections}
use Rattle.wf_deeds.specs.Clauses.{is_timed_out}
use Rattle.wf_deeds.specs.Memory.{IsSettled, Memory}
use Rattle.wf_deeds.specs.Outside.{Outside}
use Rattle.wf_deeds.specs.Steps.{DropGoesOn, StartGoesOn, with_calls}
use Rattle.wf_engine.proofs.CallsSent.{past_answered}
use Rattle.wf_engine.proofs.Sent.{Goes, drop_goes, same_goes, start_goes}
use Rattle.wf_engine.specs.Ready.{AreOf, IsReady}
use Rattle.wf_engine.specs.Sending.{DropsOne, SameButSent, StartsOne, is_to_drop, is_to_start}
use Rattle.wf_engine.specs.declared.taken.Taken.{Taken}
use Rattle.wf_events.specs.View.{address_view}
use Rattle.wf_history.specs.declared.history.History.{History}
use Rattle.wf_host.specs.declared.data.Address.{Address}
use Rattle.wf_host.specs.declared.data.Deed.TheVariants.{Drop, Start}
use Rattle.wf_http_ask.specs.View.{request_view}
use Rattle.wf_http_ask.specs.declared.request.Request as own
use Rattle.wf_deeds.specs.Language.{Language}
use Rattle.wf_machine.specs.Lent.{outcome_view}
use Rattle.wf_machine.specs.Seen.{state_of}
use Rattle.wf_machine.specs.declared.Outcome as lent
use Rattle.wf_machine.specs.declared.Outcome.TheVariants as outcome
use Rattle.wf_machine.specs.declared.machine.Machine.{Machine}
use Rattle.wf_model.specs.Config.{Active, Answered, Call, Config, Open, Outcome, TimedOut}
use Rattle.wf_model.specs.Ready.{call, request_in, request_of}
use Rattle.wf_value.specs.HttpRequest.{Request}

-- ## Tests
other_call : (k j : ℕ) → j ≢ k → nat_eq k j ≡ false
other_call k j other = by (nat_eq k j) refl
  where
    by : (b : Bool) → nat_eq k j ≡ b → nat_eq k j ≡ false
    by false is = is
    by true is = absurd (other (sym (eqb-true k j is)))

or_all : (a : Bool) → true ≡ a || true
or_all true = refl
or_all false = refl

and_first : (a b c : Bool) → a && b && c ≡ true → a ≡ true
and_first true b c is = refl
and_first false b c is = absurd (cc is)

timed_out_call : (x : Call) → is_timed_out x ≡ true → x ≡ TimedOut
timed_out_call TimedOut is = refl
timed_out_call Answered is = absurd (cc is)
timed_out_call (Open b q due) is = absurd (cc is)

pub drops_timed_out : (m : Memory) (k : ℕ) → is_to_drop m k ≡ true → call m.config k ≡ TimedOut
drops_timed_out m k is = timed_out_call (call m.config k) (and_first (is_timed_out (call m.config k)) (m.started k) (not (m.dropped k)) is)

-- as a machine lends the request of a call
pub lent_some : (r : Option (Bor own.Request)) (o : Option Request) → option_map request_view (option_copied r) ≡ o → is_some r ≡ true → (q : Request) × (o ≡ Some q)
lent_some (Some q) o is some = (request_view q.now, sym is)
lent_some None o is some = absurd (cc some)

-- with the bytes that are sent
pub lent_request : (m : Memory) (k : ℕ) (q : own.Request) (bytes : List ℕ) → Some (request_view q) ≡ request_of m.config k → bytes ≡ q.bytes → request_of m.config k ≡ Some (record { address = address_view q.address; bytes = bytes })
lent_request m k q bytes lent same = sym lent ∙ ap (λ l. Some (record { address = address_view q.address; bytes = l })) (sym same)

-- as it lends the outcome
pub lent_over : (o : lent.Outcome) (p : Outcome) → outcome_view o ≡ p → (o ≡ outcome.Active → ⊥) → p ≢ Active
lent_over outcome.Active p is other = absurd (other refl)
lent_over (outcome.Returned v) p is other = λ active. cc (is ∙ active)
lent_over (outcome.Raised v) p is other = λ active. cc (is ∙ active)

pub lent_going : (o : lent.Outcome) (p : Outcome) → outcome_view o ≡ p → o ≡ outcome.Active → p ≡ Active
lent_going o p is going = sym is ∙ ap outcome_view going

-- a call with a request was issued
was_issued : (c : Config) (k : ℕ) (q : Request) → request_of c k ≡ Some q → k ≤ length c.calls
was_issued c k q asks = elim (cases_lt (length c.calls) k) [
  | inl past ↦ absurd (let no : None ≡ Some q = sym (ap request_in (past_answered c k past)) ∙ asks in cc no)
  | inr within ↦ within
]

-- ## Connections of an execution
module _ (c : Config) (a b : Connections) (k : ℕ) (of : AreOf a c) where
  pub are_of_starts : (q : Request) → request_of c k ≡ Some q → Starts a b k → AreOf b c
  are_of_starts q asks s = record { issued = λ j was. issued j (nat_eq k j) refl (sym (s.started j) ∙ was); heard = λ j open_now was. heard j (nat_eq k j) refl open_now (sym (s.started j) ∙ was) }
    where
      issued : (j : ℕ) (v : Bool) → nat_eq k j ≡ v → v || is_started a j ≡ true → j ≤ length c.calls
      issued j true same is = subst (λ i. i ≤ length c.calls) (eqb-true k j same) (was_issued c k q asks)
      issued j false other is = of.issued j is

      heard : (j : ℕ) (v : Bool) → nat_eq k j ≡ v → is_some (request_of c j) ≡ true → v || is_started a j ≡ true → listens b j ≡ true
      heard j true same open_now is = s.listening j ∙ ap (λ v. v || listens a j) same
      heard j false other open_now is = s.listening j ∙ ap (λ v. v || listens a j) other ∙ of.heard j open_now is

pub starts_this : (m : Memory) (k : ℕ) (q : Request) → request_of m.config k ≡ Some q → m.started k ≡ false → is_to_start m k ≡ true
starts_this m k q asks new = ap (λ (o : Option Request). is_some o && not (m.started k)) asks ∙ ap not new

-- an engine that can go on still can
pub still_ready : (h : History) (m : Machine) (reading : ℕ) (a b : Connections) (taken : Option Taken) → IsReady h m reading a taken → AreOf b (state_of m).config → IsReady h m reading b taken
still_ready h m reading a b taken r of = record { not_closed = r.not_closed; begun = r.begun; ended = r.ended; whole = r.whole; last = r.last; calls = of; takable = r.takable }

-- ## Memories
module _ (m : Memory) (a b : Connections) (k : ℕ) where
  abbrev pub before : Memory
  before = with_calls m (is_started a) (is_dropped a) (told a)

  abbrev pub behind : Memory
  behind = with_calls m (is_started b) (is_dropped b) (told b)

  -- one is forgotten
  module _ (f : Forgets a b k) where
    pub forgets_same : SameButSent before behind
    forgets_same = record { program = refl; config = refl; session = refl; reading = refl; waits = refl; taken = refl; started = λ j was. f.started j ∙ was; told = λ j was. f.told_of_each j }

    pub forgets_one : is_to_drop before k ≡ false → DropsOne before behind k
    forgets_one off = record {
      started = f.started;
      here = f.dropped k ∙ sym (or_none (is_dropped a k)) ∙ ap (λ v. is_dropped a k || v) (sym off);
      others = λ j other. f.dropped j;
    }

    pub forgets_goes : (L : Language) (O : Outside) → Goes L O before behind []
    forgets_goes L O = same_goes L O before (is_started b) (is_dropped b) (told b) f.started f.dropped (λ j still was. f.told_of_each j)

  -- one is dropped
  module _ (d : Drops a b k) (is : is_to_drop before k ≡ true) where
    pub drops_same : SameButSent before behind
    drops_same = record { program = refl; config = refl; session = refl; reading = refl; waits = refl; taken = refl; started = λ j was. d.started j ∙ was; told = λ j was. d.told_of_each j }

    pub drops_one : DropsOne before behind k
    drops_one = record {
      started = d.started;
      here = d.dropped k ∙ ap (λ v. v || is_dropped a k) (eq-eqb k k refl) ∙ or_all (is_dropped a k) ∙ ap (λ v. is_dropped a k || v) (sym is);
      others = λ j other. d.dropped j ∙ ap (λ v. v || is_dropped a j) (other_call k j other);
    }

    pub drops_goes : (L : Language) (O : Outside) → DropGoesOn → IsSettled before → Goes L O before behind (Drop k ∷ [])
    drops_goes L O law settled = drop_goes L O before (is_started b) (is_dropped b) (told b) law k settled (drops_timed_out before k is) d.started d.dropped (λ j still was. d.told_of_each j)

  -- one is started
  module _ (s : Starts a b k) (new : is_started a k ≡ false) where
    told_same : (j : ℕ) → is_started a j ≡ true → told b j ≡ told a j
    told_same j was = s.told_of_others j (λ same. let no : false ≡ true = sym new ∙ ap (is_started a) (sym same) ∙ was in cc no)

    pub starts_same : SameButSent before behind
    starts_same = record {
      program = refl;
      config = refl;
      session = refl;
      reading = refl;
      waits = refl;
      taken = refl;
      started = λ j was. s.started j ∙ ap (λ v. nat_eq k j || v) was ∙ sym (or_all (nat_eq k j));
      told = told_same;
    }

    pub starts_one : (q : Request) → request_of m.config k ≡ Some q → StartsOne before behind k
    starts_one q asks = record {
      dropped = s.dropped;
      here = s.started k ∙ ap (λ v. v || is_started a k) (eq-eqb k k refl) ∙ or_all (is_started a k) ∙ ap (λ v. is_started a k || v) (sym (starts_this before k q asks new));
      others = λ j other. s.started j ∙ ap (λ v. v || is_started a j) (other_call k j other);
    }

    pub starts_goes : (L : Language) (O : Outside) → StartGoesOn → (to : Address) (bytes : List ℕ) → IsSettled before → m.config.outcome ≡ Active → request_of m.config k ≡ Some (record { address = address_view to; bytes = bytes }) → Goes L O before behind (Start k to bytes ∷ [])
    starts_goes L O law to bytes settled active asks = start_goes L O before (is_started b) (is_dropped b) (told b) law k to bytes settled active asks new s.started s.dropped s.told_of_it told_same
