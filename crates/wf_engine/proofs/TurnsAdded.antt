-- What a turn of an engine adds.
use Rattle.std.specs.Prelude.{◌≡◌, ◌≢◌, ◌⊎◌, ◌≤◌, ◌<◌, ◌+◌, ℕ, true, is_some, List, [], ◌∷◌, ◌++◌, Option, Some, None}
use Rattle.std.proofs.Common.{inl, inr, ⊎_elim, refl, sym, ◌∙◌, ap, subst, arith}
use Rattle.std.proofs.lemmas.Bool.{cases_lt}
use Rattle.std.proofs.lemmas.List.{append-nil}
use Rattle.wf_ast.specs.Tree.{Program}
use Rattle.wf_connections.specs.declared.connections.Connections.{Connections}
use Rattle.wf_deeds.specs.Clauses.{AddsTurn, replies_of, turn_records}
use Rattle.wf_deeds.specs.Memory.{IsSettled, LeadsTo, Memory, StandsFor}
use Rattle.wf_deeds.specs.Outside.{Outside}
use Rattle.wf_deeds.specs.Steps.{turn_of_memory, turned}
use Rattle.wf_engine.proofs.Added.{Choice, Laws, as_turned, as_turned_leads, behind, none_more, one_turn_more, payload_of, records_of}
use Rattle.wf_engine.specs.Engine.{spent}
use Rattle.wf_engine.specs.Ready.{AreOf}
use Rattle.wf_engine.specs.Turn.{Rests, brought}
use Rattle.wf_events.specs.Records.{Turned}
use Rattle.wf_events.specs.Spelling.{HasSpelling}
use Rattle.wf_host.specs.World.{World}
use Rattle.wf_journal.specs.Records.{records}
use Rattle.wf_deeds.specs.Language.{Language}
use Rattle.wf_model.specs.CallLaws.{CallsGoOn}
use Rattle.wf_model.specs.Config.{Config, To}
use Rattle.wf_model.specs.Ready.{request_of}
use Rattle.wf_model.specs.Run.{run_on}
use Rattle.wf_value.specs.Events.{Event}

-- the program stays, and behind it nothing is taken
module _ (L : Language) (O : Outside) (m : Memory) (p : Program) (c : Config) (taken : Option Event) (es : List Event) (same : p ≡ m.program) (empty : taken ≡ None) (owed : m.owed ≡ None) (is : Choice m es c) where
  -- where nothing was chosen
  pub idle : (w : World) → es ≡ [] → AddsTurn L O m (behind m p c taken) w w
  idle w none = record {
    went = record {
      deeds = sym (append-nil w.deeds) ∙ ap (λ o. w.deeds ++ replies_of o) (sym owed);
      stands = λ command handed D s.
          subst (λ E. StandsFor L O command handed (behind m p c taken) (records w.seen) E) (sym (append-nil D) ∙ ap (λ o. D ++ replies_of o) (sym owed))
          (as_turned L O command handed m p c taken (records w.seen) D same empty (none_more L O command handed m (records w.seen) D es c s is none));
      leads = λ l.
          let stays : m.config ≡ c = cc (ap (λ l. run_on m.program (To m.config) l) (sym none) ∙ is.leads) in
          as_turned_leads L m p c taken (records w.seen) same empty
          (record { standing = l.standing; history = l.history; program = l.program; config = l.config ∙ stays; by_now = l.by_now; first = l.first; numbered = l.numbered; format = l.format });
    };
    turn = sym (append-nil (records w.seen)) ∙ ap (λ l. records w.seen ++ turn_records m.session m.waits l) (sym none ∙ is.turn);
    taken = empty;
    owed = owed;
  }

  -- where a turn was added
  pub added : (w new : World) → Laws → es ≢ [] → HasSpelling (Turned (turn_of_memory m es)) → records new.seen ≡ records w.seen ++ payload_of m es ∷ [] → new.deeds ≡ w.deeds → AddsTurn L O m (behind m p c taken) w new
  added w new laws some spelled more deeds = record {
    went = record {
      deeds = deeds ∙ sym (append-nil w.deeds) ∙ ap (λ o. w.deeds ++ replies_of o) (sym owed);
      stands = λ command handed D s.
          subst (λ E. StandsFor L O command handed (behind m p c taken) (records new.seen) E) (sym (append-nil D) ∙ ap (λ o. D ++ replies_of o) (sym owed))
          (as_turned L O command handed m p c taken (records new.seen) D same empty
          (subst (λ J. StandsFor L O command handed (behind m m.program c None) J D) (sym more) (one_turn_more L O command handed m (records w.seen) D laws es c s is some spelled)));
      leads = λ l.
          as_turned_leads L m p c taken (records new.seen) same empty
          (subst (λ J. LeadsTo L J (turned m c)) (sym more) (laws.turn_leads L m (records w.seen) (payload_of m es) es c l (laws.again (Turned (turn_of_memory m es)) spelled tt) is.leads));
    };
    turn = more ∙ ap (λ l. records w.seen ++ l) (sym (records_of m es some)) ∙ ap (λ l. records w.seen ++ turn_records m.session m.waits l) is.turn;
    taken = empty;
    owed = owed;
  }

-- ## What may still come
-- fewer events than there may be end where nothing can move, and as many take something of what may still come
one_at_most : (o : Option Event) → brought o ≤ 1
one_at_most None = omega arith
one_at_most (Some e) = omega arith

pub goes_on : (m : Memory) (p : Program) (c : Config) (taken was : Option Event) (n : ℕ) → taken ≡ None → m.owed ≡ None → (n < 4096 → Rests c m.reading) → n + spent c ≤ brought was + spent m.config → IsSettled (behind m p c taken) ⊎ (spent c < spent m.config)
goes_on m p c taken was n empty owed few falls =
    ⊎_elim (λ less. inl (record { taken = empty; owed = owed; still = ⊎_elim inr inl (few less) })) (λ all. inr (omega (arith, all, falls, one_at_most was))) (cases_lt n 4096)

-- ## Calls
-- the calls behind a turn
is_some_of : {A : Type 0} (o : Option A) → is_some o ≡ true → (x : A) × (o ≡ Some x)
is_some_of None is = absurd (cc is)
is_some_of (Some x) is = (x, refl)

pub still_of : CallsGoOn → (a : Connections) (p : Program) (b c : Config) (es : List Event) → AreOf a b → run_on p (To b) es ≡ To c → AreOf a c
still_of law a p b c es are leads = record {
  issued = λ k started. omega (arith, are.issued k started, (law p b c es leads).0);
  heard = λ k opened started.
      let (q, has) = is_some_of (request_of c k) opened in
      let was : request_of b k ≡ Some q = (law p b c es leads).1 k q (are.issued k started) has in
      are.heard k (ap is_some was) started;
}
