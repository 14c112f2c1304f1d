-- What applying one event, or some moves, comes to.
use Rattle.std.specs.Prelude.{◌≡◌, ◌↔◌, ◌+◌, ℕ, Bool, true, false, Result, Ok, Err, IsErrOf, OnOk, [], ◌∷◌, replicate}
use Rattle.std.proofs.Common.{refl, sym, ◌∙◌, ap, arith, subst}
use Rattle.std.proofs.lemmas.List.{length-replicate}
use Rattle.wf_machine.specs.Promises.{AppliesAnEvent}
use Rattle.wf_machine.specs.Runs.{AreMoves, AppliesMoves}
use Rattle.wf_machine.specs.State.{State}
use Rattle.wf_machine.specs.declared.ApplyFault.{ApplyFault}
use Rattle.wf_machine.specs.declared.ApplyFault.TheVariants.{OutOfMemory}
use Rattle.wf_model.proofs.After.{nowhere_is_no_config}
use Rattle.wf_model.specs.Config.{Config, To}
use Rattle.wf_model.specs.Step.{next}
use Rattle.wf_replay.proofs.Events.{moves_lead}
use Rattle.wf_replay.proofs.FirstRecords.{on_ok}
use Rattle.wf_replay.specs.Applying.{AppliesEvents}
use Rattle.wf_value.specs.Events.{Event, Move}

-- a machine is whole after each call that answers Ok
whole_of : {T E : Type 0} (broken : Bool) (r : Result T E) (e : E) → (broken ≡ true ↔ IsErrOf r e) → OnOk r (broken ≡ false)
whole_of broken (Err f) e breaks = tt
whole_of false (Ok x) e breaks = refl
whole_of true (Ok x) e breaks = absurd (let no : Ok x ≡ Err e = breaks.0 refl in cc no)

pub one_event : (before behind : State) (e : Event) (old new : ℕ) (r : Result (Unit {0}) ApplyFault) → AppliesAnEvent before behind e old new r → AppliesEvents before behind (e ∷ []) old new r
one_event before behind e old new r did = record {
  applied = did.applied;
  whole = whole_of behind.broken r OutOfMemory did.broken;
  program = on_ok r did.program;
  steps = did.steps;
  not_enabled = λ is d comes. nowhere_is_no_config d (sym (did.not_enabled is) ∙ comes);
}

pub some_made : (before behind : State) (reading n old new : ℕ) → AppliesMoves before behind reading n old new → AppliesEvents before behind (replicate n (Move 0)) old new (Ok tt)
some_made before behind reading n old new did = record {
  applied = moves_lead reading before.program n before.config behind.config did.moves;
  whole = did.whole;
  program = did.program;
  steps = omega (arith, did.steps, length-replicate n (Move 0));
  not_enabled = λ is. absurd (cc is);
}

-- ## Where none was made
module _ (before mid : State) (reading n old stood : ℕ) (none : n ≡ 0) (did : AppliesMoves before mid reading n old stood) where
  stays : before.config ≡ mid.config
  stays = subst (λ (k : ℕ). AreMoves reading before.program k before.config mid.config) none did.moves

  same : next before.program before.config (Move 0) ≡ next mid.program mid.config (Move 0)
  same = ap (λ p. next p before.config (Move 0)) (sym did.program) ∙ ap (λ c. next mid.program c (Move 0)) stays

  -- one move is one all the same
  pub one_made : (behind : State) (new : ℕ) → AppliesEvents mid behind (Move 0 ∷ []) stood new (Ok tt) → AppliesEvents before behind (Move 0 ∷ []) old new (Ok tt)
  one_made behind new one = record {
    applied = same ∙ one.applied;
    whole = one.whole;
    program = one.program ∙ did.program;
    steps = omega (arith, one.steps, did.steps, none);
    not_enabled = λ is. absurd (cc is);
  }

  -- and where it can't come it couldn't before
  pub none_comes : ((c : Config) → next mid.program mid.config (Move 0) ≡ To c → ⊥) → (c : Config) → next before.program before.config (Move 0) ≡ To c → ⊥
  none_comes never c is = never c (sym same ∙ is)
