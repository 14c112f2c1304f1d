-- What an engine stands for once it took what was heard.
use Rattle.std.specs.Prelude.{◌≡◌, ◌≤◌, ◌&&◌, ℕ, suc, max, Bool, true, is_some, [], ◌∷◌, ◌++◌, Option, Some, None, option_map, option_and_then}
use Rattle.std.proofs.Common.{inl, inr, refl, sym, ◌∙◌, ap, subst, arith}
use Rattle.std.proofs.lemmas.Bool.{and_parts}
use Rattle.wf_ast.specs.Tree.{Program}
use Rattle.wf_connections.specs.Calls.{StandsAsBefore}
use Rattle.wf_connections.specs.declared.connections.Connections.{Connections}
use Rattle.wf_deeds.specs.Clauses.{Takes}
use Rattle.wf_deeds.specs.Deeds.{Told, IsAnswered, tells}
use Rattle.wf_host.specs.World.{call_of, visit_of}
use Rattle.wf_deeds.specs.Memory.{LeadsTo, Memory, Owed, IsSettled, StandsFor, IsAnswerBy, Brings, arrival_by, decision_by, owes_by}
use Rattle.wf_deeds.specs.Outside.{Outside}
use Rattle.wf_deeds.specs.Steps.{Hears, HearingGoesOn, HearingLeadsOn, VisitsAre, hearing}
use Rattle.wf_engine.specs.Hearing.{Finds, FindsAnswer, FindsBy}
use Rattle.wf_engine.specs.Ready.{IsReady}
use Rattle.wf_engine.specs.Taken.{AreTakable, taken_event}
use Rattle.wf_engine.specs.declared.taken.Taken.{Taken}
use Rattle.wf_history.specs.declared.history.History.{History}
use Rattle.wf_host.specs.declared.data.Deed.TheVariants.{Poll}
use Rattle.wf_host.specs.declared.data.Heard.{Heard}
use Rattle.wf_deeds.specs.Language.{Language}
use Rattle.wf_machine.specs.Seen.{state_of}
use Rattle.wf_machine.specs.declared.machine.Machine.{Machine}
use Rattle.wf_model.specs.Config.{Active, Config}
use Rattle.wf_model.specs.Ready.{request_of}
use Rattle.wf_value.specs.Events as plain
use Rattle.wf_value.specs.Events.{Event}
use mathlib.Core.Path.{fun_ext}

-- a memory without visits
abbrev pub plain_memory : Program → Config → ℕ → ℕ → ℕ → (ℕ → Bool) → (ℕ → Bool) → (ℕ → Told) → Option Event → Memory
plain_memory p c number reading waits started dropped told taken = record {
  program = p;
  config = c;
  session = number;
  reading = reading;
  waits = waits;
  started = started;
  dropped = dropped;
  told = told;
  visit = λ n. None;
  undecided = 0;
  taken = taken;
  owed = None;
}

module _ (O : Outside) (p : Program) (c : Config) (number reading waits : ℕ) (s d : ℕ → Bool) (t : ℕ → Told) (o : Option Event) (h : Heard) (s2 d2 : ℕ → Bool) (t2 : ℕ → Told) (taken : Option Taken) (same : (k : ℕ) → s2 k ≡ s k) (told : (k : ℕ) → s k ≡ true → t2 k ≡ tells k h.what (t k)) where
  abbrev Before : Memory
  Before = plain_memory p c number reading waits s d t o

  abbrev between : ℕ → Memory
  between r = plain_memory p c number r waits s2 d2 t2 o

  -- what was found is what it brings
  brings_call : (r k : ℕ) → FindsBy (between r) taken (Some k) → IsAnswerBy Before k h (taken_event (max reading h.reading) taken)
  brings_call r k (inl none) = inl (ap (λ b. is_some (request_of c k) && b) (sym (same k)) ∙ none.0, ap (taken_event (max reading h.reading)) none.1)
  brings_call r k (inr finds) =
      let both = and_parts (is_some (request_of c k)) (s2 k) finds.awaited in
      inr (record {
        awaited = ap (λ b. is_some (request_of c k) && b) (sym (same k)) ∙ finds.awaited;
        answer = finds.answer;
        answered = subst (λ (u : Told). IsAnswered u finds.answer) (told k (sym (same k) ∙ both.1)) finds.answered;
        event = finds.taken (max reading h.reading);
      })

  -- no visit is decided
  none_owed : visit_of h.what ≡ None → owes_by O Before (option_and_then (λ n. decision_by O 0 n h.what None) (visit_of h.what)) ≡ None
  none_owed none = ap (λ v. owes_by O Before (option_and_then (λ n. decision_by O 0 n h.what None) v)) none

  brings : (r : ℕ) (w : Option ℕ) → visit_of h.what ≡ None → FindsBy (between r) taken w → Brings O Before h (taken_event (max reading h.reading) taken) w
  brings r (Some k) none finds = brings_call r k finds
  brings r None none finds = ap (taken_event (max reading h.reading)) finds ∙ ap (option_and_then (λ (x : Owed). arrival_by x.verdict (max reading h.reading))) (sym (none_owed none))

  pub hears : (r : ℕ) → visit_of h.what ≡ None → Finds (between r) h.what taken → Hears O Before h t2 (λ n. None) 0 (taken_event (max reading h.reading) taken) None
  hears r none finds = record {
    told_is = λ k still was. told k was;
    visits_are = subst (VisitsAre O Before h (λ n. None) 0) (sym none) ((λ j. refl), refl);
    taken_is = brings r (call_of h.what) none finds;
    owed_is = sym (none_owed none);
  }

  -- the memory behind it
  pub heard_memory : ((k : ℕ) → d2 k ≡ d k) → (r w : ℕ) → r ≡ max reading h.reading → w ≡ suc waits
      → hearing Before h t2 (λ n. None) 0 (taken_event (max reading h.reading) taken) None ≡ plain_memory p c number r w s2 d2 t2 (taken_event r taken)
  heard_memory dropped r w now once =
      let one : s ≡ s2 = fun_ext (λ k. sym (same k)) in
      let two : d ≡ d2 = fun_ext (λ k. sym (dropped k)) in
      ap (λ f. plain_memory p c number (max reading h.reading) (suc waits) f d t2 (taken_event (max reading h.reading) taken)) one
      ∙ ap (λ f. plain_memory p c number (max reading h.reading) (suc waits) s2 f t2 (taken_event (max reading h.reading) taken)) two
      ∙ ap (λ n. plain_memory p c number n (suc waits) s2 d2 t2 (taken_event n taken)) (sym now)
      ∙ ap (λ n. plain_memory p c number r n s2 d2 t2 (taken_event r taken)) (sym once)

  -- what it stands for then
  pub takes : HearingGoesOn → HearingLeadsOn → (L : Language) → ((k : ℕ) → d2 k ≡ d k) → (q r w : ℕ) → r ≡ max reading h.reading → w ≡ suc waits → IsSettled Before → c.outcome ≡ Active → visit_of h.what ≡ None → Finds (between q) h.what taken
      → Takes L O Before (plain_memory p c number r w s2 d2 t2 (taken_event r taken)) h
  takes law leads L dropped q r w now once settled active none finds = record {
    stands = λ command handed J D until stands may.
        subst (λ (n : Memory). StandsFor L O command handed n J (D ++ Poll until h ∷ [])) (heard_memory dropped r w now once)
        (law L O command handed Before J D until h t2 (λ n. None) 0 (taken_event (max reading h.reading) taken) None stands settled active may (hears q none finds));
    leads = λ J l.
        subst (λ (n : Memory). LeadsTo L J n) (heard_memory dropped r w now once) (leads L Before J h t2 (λ n. None) 0 (taken_event (max reading h.reading) taken) None l);
    waits = once;
  }

-- ## What was taken can be taken
call_of_answer : (k r : ℕ) (u : Taken) (reply : plain.Reply) → taken_event r (Some u) ≡ Some (plain.Answer k r reply) → u.call ≡ k
call_of_answer k r u reply same = cc same

takable_of : (m : Memory) (k r : ℕ) (o : Option Taken) (u : Taken) → FindsAnswer m k o → o ≡ Some u → u.call ≡ k
takable_of m k r o u finds is = by finds.answer (sym (ap (taken_event r) is) ∙ finds.taken r)
  where
    by : (a : Option plain.Reply) → taken_event r (Some u) ≡ option_map (plain.Answer k r) a → u.call ≡ k
    by None event = absurd (let no : taken_event r (Some u) ≡ None = event in cc no)
    by (Some reply) event = call_of_answer k r u reply event

-- of an execution that goes on
pub takable : (m : Memory) (w : Option ℕ) (o : Option Taken) → m.config.outcome ≡ Active → FindsBy m o w → AreTakable m.config o
takable m None o active none u is = absurd (let no : None ≡ Some u = sym none ∙ is in cc no)
takable m (Some k) o active (inl none) u is = absurd (let no : None ≡ Some u = sym none.1 ∙ is in cc no)
takable m (Some k) o active (inr finds) u is =
    let both = and_parts (is_some (request_of m.config k)) (m.started k) finds.awaited in
    record { active = active; opened = ap (λ i. is_some (request_of m.config i)) (takable_of m k 0 o u finds is) ∙ both.0 }

-- ## It can still go on
pub heard_ready : (h : History) (m : Machine) (reading r : ℕ) (a b : Connections) (old new : Option Taken) → IsReady h m reading a old → reading ≤ r → StandsAsBefore a b → AreTakable (state_of m).config new → IsReady h m r b new
heard_ready h m reading r a b old new was le stands takable = record {
  not_closed = was.not_closed;
  begun = was.begun;
  ended = was.ended;
  whole = was.whole;
  last = omega (arith, was.last, le);
  calls = record {
    issued = λ k started. was.calls.issued k (sym (stands.started k) ∙ started);
    heard = λ k still started. stands.listening k ∙ was.calls.heard k still (sym (stands.started k) ∙ started);
  };
  takable = takable;
}
