-- The events of a turn, one after another.
use Rattle.std.specs.Prelude.{◌≡◌, ◌≤◌, ◌<◌, ◌-◌, ◌+◌, ℕ, zero, suc, Bool, true, false, List, [], ◌∷◌, ◌++◌, length, Option, Some, None, Result, Ok, IsErrOf}
use Rattle.std.proofs.Common.{refl, sym, ◌∙◌, ap, subst, arith, append_assoc, length-append}
use Rattle.std.proofs.lemmas.List.{append-nil}
use Rattle.wf_ast.specs.Tree.{Program}
use Rattle.wf_deeds.specs.Turns.{chosen}
use Rattle.wf_machine.specs.State.{State}
use Rattle.wf_model.specs.Choose.{choose}
use Rattle.wf_model.specs.Config.{Config, After, To, Wrong, NotNow}
use Rattle.wf_model.specs.Run.{run_on}
use Rattle.wf_model.specs.Step.{next}
use Rattle.wf_value.specs.Events.{Event}

-- ## Runs

-- an event more
pub run_more : (p : Program) (a : After) (es : List Event) (e : Event) → run_on p a (es ++ e ∷ []) ≡ run_on p (run_on p a es) (e ∷ [])
run_more p a [] e = refl
run_more p (To c) (d ∷ es) e = run_more p (next p c d) es e
run_more p (Wrong k) (d ∷ es) e = refl
run_more p NotNow (d ∷ es) e = refl

pub leads_on : (p : Program) (b c d : Config) (es : List Event) (e : Event) → run_on p (To b) es ≡ To c → next p c e ≡ To d → run_on p (To b) (es ++ e ∷ []) ≡ To d
leads_on p b c d es e leads step = run_more p (To b) es e ∙ ap (λ a. run_on p a (e ∷ [])) leads ∙ step

-- ## Turns
-- what comes after these events makes the turn whole, of at most so many
pub record SoFar (n : ℕ) (p : Program) (b : Config) (r : ℕ) (c : Config) (es : List Event) : Type 0 where
  pub turn : es ++ chosen (n - length es) p (To c) r ≡ chosen n p (To b) r
  pub leads : run_on p (To b) es ≡ To c
  pub short : length es ≤ n

pub none_yet : (n : ℕ) (p : Program) (b : Config) (r : ℕ) → SoFar n p b r b []
none_yet n p b r = record { turn = ap (λ k. chosen k p (To b) r) (all_left n); leads = refl; short = omega arith }
  where
    all_left : (n : ℕ) → n - 0 ≡ n
    all_left n = omega arith

chosen_next : (n : ℕ) (p : Program) (c d : Config) (r : ℕ) (e : Event) → choose p c r ≡ Some e → next p c e ≡ To d → chosen (suc n) p (To c) r ≡ e ∷ chosen n p (To d) r
unfolding chosen
chosen_next n p c d r e is step =
    ap (λ (o : Option Event). elim o [ None ↦ [] | Some e ↦ e ∷ chosen n p (next p c e) r ]) is ∙ ap (λ a. e ∷ chosen n p a r) step

pub chosen_none : (n : ℕ) (p : Program) (c : Config) (r : ℕ) → choose p c r ≡ None → chosen n p (To c) r ≡ []
unfolding chosen
chosen_none zero p c r is = refl
chosen_none (suc n) p c r is = ap (λ (o : Option Event). elim o [ None ↦ [] | Some e ↦ e ∷ chosen n p (next p c e) r ]) is

chosen_zero : (p : Program) (a : After) (r : ℕ) → chosen 0 p a r ≡ []
unfolding chosen
chosen_zero p a r = refl

fuel : (n k : ℕ) → k < n → n - k ≡ suc (n - (k + 1))
fuel n k less = omega (arith, less)

pub one_more : (n : ℕ) (p : Program) (b c d : Config) (r : ℕ) (es : List Event) (e : Event) → SoFar n p b r c es → length es < n → choose p c r ≡ Some e → next p c e ≡ To d → SoFar n p b r d (es ++ e ∷ [])
one_more n p b c d r es e s less is step = record {
  turn = append_assoc es (e ∷ []) (chosen (n - length (es ++ e ∷ [])) p (To d) r)
      ∙ ap (λ k. es ++ e ∷ chosen (n - k) p (To d) r) (length-append es (e ∷ []))
      ∙ ap (λ l. es ++ l) (sym (chosen_next (n - (length es + 1)) p c d r e is step))
      ∙ ap (λ k. es ++ chosen k p (To c) r) (sym (fuel n (length es) less))
      ∙ s.turn;
  leads = leads_on p b c d es e s.leads step;
  short = omega (arith, less, length-append es (e ∷ []));
}

-- nothing more is chosen
pub ends : (n : ℕ) (p : Program) (b c : Config) (r : ℕ) (es : List Event) → SoFar n p b r c es → choose p c r ≡ None → es ≡ chosen n p (To b) r
ends n p b c r es s is = sym (append-nil es) ∙ ap (λ l. es ++ l) (sym (chosen_none (n - length es) p c r is)) ∙ s.turn

-- there are as many as there may be
pub full : (n : ℕ) (p : Program) (b c : Config) (r : ℕ) (es : List Event) → SoFar n p b r c es → n ≤ length es → es ≡ chosen n p (To b) r
full n p b c r es s most =
    sym (append-nil es) ∙ ap (λ l. es ++ l) (sym (chosen_zero p (To c) r)) ∙ ap (λ k. es ++ chosen k p (To c) r) (sym (zero_left (length es) most)) ∙ s.turn
  where
    zero_left : (k : ℕ) → n ≤ k → n - k ≡ 0
    zero_left k le = omega (arith, le)

-- ## Of a machine
pub record Turning (n : ℕ) (first now : State) (r : ℕ) (es : List Event) : Type 0 where
  pub whole : now.broken ≡ false
  pub program : now.program ≡ first.program
  pub so_far : SoFar n first.program first.config r now.config es

pub turns_at_first : (n : ℕ) (first : State) (r : ℕ) → first.broken ≡ false → Turning n first first r []
turns_at_first n first r whole = record {
  whole = whole;
  program = refl;
  so_far = none_yet n first.program first.config r;
}

pub turns_on : (n : ℕ) (first mid new : State) (r : ℕ) (es : List Event) (e : Event) → Turning n first mid r es → length es < n → choose mid.program mid.config r ≡ Some e → next mid.program mid.config e ≡ To new.config
    → new.broken ≡ false → new.program ≡ mid.program → Turning n first new r (es ++ e ∷ [])
turns_on n first mid new r es e t less is step whole same = record {
  whole = whole;
  program = same ∙ t.program;
  so_far = one_more n first.program first.config mid.config new.config r es e t.so_far less (ap (λ p. choose p mid.config r) (sym t.program) ∙ is) (ap (λ p. next p mid.config e) (sym t.program) ∙ step);
}

pub turn_ends : (n : ℕ) (first now : State) (r : ℕ) (es : List Event) → Turning n first now r es → choose now.program now.config r ≡ None → es ≡ chosen n first.program (To first.config) r
turn_ends n first now r es t is = ends n first.program first.config now.config r es t.so_far (ap (λ p. choose p now.config r) (sym t.program) ∙ is)

pub turn_is_full : (n : ℕ) (first now : State) (r : ℕ) (es : List Event) → Turning n first now r es → n ≤ length es → es ≡ chosen n first.program (To first.config) r
turn_is_full n first now r es t most = full n first.program first.config now.config r es t.so_far most

-- a call that answered Ok leaves the machine whole
pub whole_after : {A E : Type 0} (b : Bool) (r : Result A E) (a : A) (e : E) → r ≡ Ok a → (b ≡ true → IsErrOf r e) → b ≡ false
whole_after false r a e is broke = refl
whole_after true r a e is broke = let err : IsErrOf (Ok a) e = subst (λ x. IsErrOf x e) is (broke refl) in absurd (cc err)
