-- Retries, and the workflows that are asked.
use Rattle.std.proofs.Common.{◌≡◌, ◌≤◌, ◌<◌, ◌⊎◌, inl, inr, ℕ, suc, Bool, true, false, List, [], ◌∷◌, length, map, Some, None, refl, sym, ap, subst, ◌∙◌, arith, get_or}
use Rattle.std.specs.Prelude.{Option, nat_le, nat_lt, slice_get, if◌then◌else◌, Box}
use Rattle.std.specs.Global.{Global}
use Rattle.wf_ast.specs.Accept.{BadArgument, Kind}
use Rattle.wf_ast.specs.Flows.{flow}
use Rattle.wf_ast.specs.Tree.{Flow, Param, try}
use Rattle.wf_ast.specs.View.{policy_option_view, policy_view, predicate_view, param_view}
use Rattle.wf_ast.specs.declared.policy.Policy.{Policy}
use Rattle.wf_ast.specs.declared.policy.Predicate.{Predicate}
use Rattle.wf_ast.specs.declared.policy.Predicate.TheVariants as predicate
use Rattle.wf_frames.proofs.Owning.{owned_other}
use Rattle.wf_frames.specs.Fits.{Fits, IsTry, reach, outside_at, view_outside}
use Rattle.wf_frames.specs.Frames.{calls_of, control, inner, items, mark_of, own, owned, topped}
use Rattle.wf_frames.specs.Held.{Held, standing}
use Rattle.wf_frames.specs.Owned.{Around, IsLinked, control_of, held_by, held_of, local_of, own_of}
use Rattle.wf_frames.specs.Stands.{Stands}
use Rattle.wf_frames.specs.Turns.{Agrees, Enters, with_layer, Leaves, dropped}
use Rattle.wf_frames.specs.declared.frames.Frame.{Frame}
use Rattle.wf_frames.specs.declared.frames.Frame.TheVariants as frame
use Rattle.wf_frames.specs.declared.frames.Judging.{Judging}
use Rattle.wf_frames.specs.declared.frames.Trying.{Trying}
use Rattle.wf_frames.specs.declared.frames.Frames.{Frames}
use Rattle.wf_model.specs.Config.{Back, Delay, Do, Item, Judge, Try, call_limit}
use Rattle.wf_model.specs.Layers.{opened}
use Rattle.wf_model.specs.Local.{Breaks, Goes, Local, Moved, Scene, goes, waits, Does, Ends, Not, settled}
use Rattle.wf_model.specs.Move.{entered, retries}
use Rattle.wf_model.specs.Unwind.{Asks, Judgement, Says, asked_one, asks, called, calls_in, decided, handled, judged, judgement, policy_of, retried, unwind, answered}
use Rattle.wf_moves.proofs.Calling.{calls_are, le_false, le_true, Begun, begun}
use Rattle.wf_moves.proofs.Leaving.{ended_items, stands_on}
use Rattle.wf_moves.proofs.Starting.{flow_list}
use Rattle.wf_moves.specs.Tasks.{IsFlow, part_params}
use Rattle.wf_moves.specs.declared.finish.Turned.TheVariants as turned
use Rattle.wf_model.specs.Leave.{returns}
use Rattle.wf_model.specs.NodeKinds as kinds
use Rattle.wf_ast.specs.declared.program.Param as declared
use Rattle.std.proofs.lemmas.Option.{slice_get-get_or, slice_get_within}
use Rattle.wf_value.specs.Plain.{plain}
use Rattle.wf_value.specs.declared.Value.{Value}
use Rattle.wf_moves.proofs.Unwinding.{try_is}
use Rattle.wf_moves.specs.Retries.{IsLed, LeadsBy, TriedAt, ask_at, asked_by, decide_at, retry_at, try_at, verdict_of, verdict_said, Asked, AsksFlow, IsAskedOn}
use Rattle.wf_moves.specs.Moved.{IsEnd, IsWent, IsTurned}
use Rattle.wf_moves.specs.Waits.{waiting}
use Rattle.wf_moves.specs.declared.judging.Verdict.TheVariants as verdict
use Rattle.wf_moves.specs.declared.leading.Led.{Led}
use Rattle.wf_moves.specs.declared.leading.Led.TheVariants as led
use Rattle.wf_moves.specs.declared.unwind.Tried.{Tried}
use Rattle.wf_moves.specs.declared.wait.Wait.TheVariants as wait
use Rattle.wf_model.specs.NodeKinds.{handler_view}
use Rattle.wf_model.specs.Spots.{Spot, owners_at, part_at, part_body, part_list, FlowAt}
use Rattle.wf_model.specs.Table.{except_of, outside}
use Rattle.wf_model.specs.declared.node.Node.{Node}
use Rattle.wf_model.specs.declared.node.TryNode.{TryNode}
use Rattle.wf_scope.specs.Store.{layers_of}
use Rattle.wf_frames.specs.Tasks.{Own}
use Rattle.wf_scope.specs.declared.scopes.Scopes.{Scopes}
use Rattle.wf_value.specs.Policies.{default_says, next_delay}
use Rattle.wf_frames.proofs.Parts.{tried_stands}
use Rattle.wf_frames.specs.Built.{AreTargets, IsAsked, IsWorkflow, IsTableOf}
use Rattle.wf_frames.specs.declared.target.Target.{Target}
use Rattle.wf_frames.specs.declared.target.Target.TheVariants as target
use Rattle.wf_value.specs.Data.{Data, boolean, depth}
use Rattle.wf_value.specs.Errors.{error_map, later}
use Rattle.wf_value.specs.Pairs.{Text}
use Rattle.wf_value.specs.declared.Tag.TheVariants.{RecursionError, ResourceLimitError}

-- ## Where a move leads
-- what no accepted program does leads anywhere
pub breaks_led : (a : Around) (m : Moved) (d : Led) (l : Local) → (kind : Kind) × (m ≡ Breaks kind) → IsLed a m d l
breaks_led a m led.Goes l b = subst (λ x. IsWent x l) (sym b.1) tt
breaks_led a m (led.Ended e) l b = subst (λ x. IsEnd x e l) (sym b.1) tt
breaks_led a m (led.Waits w) l b = subst (λ x. IsWent x (waiting a w l)) (sym b.1) tt

-- ## One more frame
-- that ends no layer
pub same_owned : (fs gs : Frames) (f : Frame) → inner gs ≡ f ∷ inner fs → gs.first ≡ fs.first → mark_of f ≡ None → own_of gs ≡ own_of fs
same_owned fs gs f p q e = ap (λ (m : ℕ). owned m (inner gs)) q ∙ ap (owned fs.first) p ∙ owned_other fs.first f (inner fs) e

pub same_held : (a : Around) (fs gs : Frames) (f : Frame) (x : Scopes) → inner gs ≡ f ∷ inner fs → gs.first ≡ fs.first → mark_of f ≡ None → held_by a gs x ≡ held_by a fs x
same_held a fs gs f x p q e = ap (λ (os : List Own). held_of a.keys os (layers_of x)) (same_owned fs gs f p q e)

pub same_linked : (a : Around) (fs gs : Frames) (f : Frame) (x : Scopes) → inner gs ≡ f ∷ inner fs → gs.first ≡ fs.first → mark_of f ≡ None → IsLinked a (own_of fs) x → IsLinked a (own_of gs) x
same_linked a fs gs f x p q e h = subst (λ (os : List Own). IsLinked a os x) (sym (same_owned fs gs f p q e)) h

-- the innermost one, and the others
pub top_is : (f : Frame) (fs : List Frame) → topped fs ≡ Some f → (rest : List Frame) × (fs ≡ f ∷ rest)
top_is f [] t = absurd (cc t)
top_is f (g ∷ rest) t = let same : g ≡ f = cc t in (rest, ap (λ y. y ∷ rest) same)

-- ## A retry
module _ (a : Around) (nodes : List Node) (tells : IsTableOf a.spots nodes) (r : Tried) (y : TryNode) (h : IsTry nodes r.node y) where
  retry_is : try_at a.spots r.node ≡ try (part_body (part_at a.spots y.body)) (policy_option_view y.policy) (except_of a.spots (handler_view y.except))
  retry_is = try_is a.spots nodes tells r.node y h

  pub retry_none : y.policy ≡ None → (s : Scene) (k : List Item) (l : Local) → retry_at a.spots r s k l ≡ goes k l
  retry_none e s k l =
      ap (λ z. retried s z r.tries r.delay k l) (retry_is ∙ ap (λ p. try (part_body (part_at a.spots y.body)) (policy_option_view p) (except_of a.spots (handler_view y.except))) e)

  retry_some : (p : Policy) → y.policy ≡ Some p → (s : Scene) (k : List Item) (l : Local)
      → retry_at a.spots r s k l ≡ waits (Delay (later s.last (next_delay p.backoff r.delay))) (Try (try_at a.spots r.node) (suc r.tries) (Some (next_delay p.backoff r.delay)) ∷ k) l
  retry_some p e s k l = (
      let some : try_at a.spots r.node ≡ try (part_body (part_at a.spots y.body)) (Some (policy_view p)) (except_of a.spots (handler_view y.except)) =
      retry_is ∙ ap (λ q. try (part_body (part_at a.spots y.body)) (policy_option_view q) (except_of a.spots (handler_view y.except))) e
      in
      ap (λ z. retried s z r.tries r.delay k l) some
      ∙ ap (λ z. waits (Delay (later s.last (next_delay p.backoff r.delay))) (Try z (suc r.tries) (Some (next_delay p.backoff r.delay)) ∷ k) l) (sym some)
      )

  pub retry_waits : (p : Policy) → y.policy ≡ Some p → (fs gs : Frames) (x : Scopes) (held : Box Trying Global) (tries delay due last : ℕ) → tries ≡ suc r.tries → delay ≡ next_delay p.backoff r.delay → due ≡ later last delay
      → held.value ≡ record { node = r.node; tries = tries; delay = Some delay } → inner gs ≡ frame.Try held ∷ inner fs → gs.first ≡ fs.first
      → LeadsBy a last (λ s l. retry_at a.spots r s (control_of a fs) l) (held_by a fs x) (led.Waits (wait.Delay due)) gs x
  retry_waits p e fs gs x held tries delay due last tries_is delay_is due_is holds pushed first s c same agrees = (
      let k : control_of a gs ≡ Try (try_at a.spots r.node) tries (Some delay) ∷ control_of a fs =
      ap (control a.spots) pushed ∙ ap (λ (z : Trying). Try (try_at a.spots z.node) z.tries z.delay ∷ control_of a fs) holds
      in
      let o : held_by a gs x ≡ held_by a fs x = same_held a fs gs (frame.Try held) x pushed first refl in
      let l = standing c (held_by a fs x) in
      let step : retry_at a.spots r s (control_of a fs) (standing c (held_by a fs x)) ≡ Goes (record (local_of a gs x) { wait = Delay due }) =
      retry_some p e s (control_of a fs) l
      ∙ ap (λ (d : ℕ). waits (Delay (later s.last d)) (Try (try_at a.spots r.node) (suc r.tries) (Some d) ∷ control_of a fs) l) (sym delay_is)
      ∙ ap (λ (n : ℕ). waits (Delay (later n delay)) (Try (try_at a.spots r.node) (suc r.tries) (Some delay) ∷ control_of a fs) l) same
      ∙ ap (λ (u : ℕ). waits (Delay u) (Try (try_at a.spots r.node) (suc r.tries) (Some delay) ∷ control_of a fs) l) (sym due_is)
      ∙ ap (λ (n : ℕ). waits (Delay due) (Try (try_at a.spots r.node) n (Some delay) ∷ control_of a fs) l) (sym tries_is)
      ∙ ap (λ (z : List Item). Goes (record (standing z (held_by a fs x)) { wait = Delay due })) (sym k)
      ∙ ap (λ (z : Held). Goes (record (standing (control_of a gs) z) { wait = Delay due })) (sym o)
      in
      subst (λ m. IsLed a m (led.Waits (wait.Delay due)) (local_of a gs x)) (sym step) refl
      )

  pub retry_stands : (fs gs : Frames) (x : Scopes) (held : Box Trying Global) → owners_at a.spots r.node ≡ reach (inner fs) → held.value.node ≡ r.node → inner gs ≡ frame.Try held ∷ inner fs → gs.first ≡ fs.first → Stands a nodes fs x → Stands a nodes gs x
  retry_stands fs gs x held inside same pushed first st = record {
    fits = subst (Fits a.spots nodes) (sym pushed) (((y, subst (λ (m : ℕ). IsTry nodes m y) (sym same) h), ap (owners_at a.spots) same ∙ inside), st.fits);
    linked = same_linked a fs gs (frame.Try held) x pushed first refl st.linked;
  }

-- ## The body of a `try` again

module _ (a : Around) (nodes : List Node) (tells : IsTableOf a.spots nodes) (held : Box Trying Global) (y : TryNode) (h : IsTry nodes held.value.node y) (fs : List Frame) (t : topped fs ≡ Some (frame.Try held)) where
  again_goes : (l : Local) → retries (control a.spots fs) l ≡ goes (entered (part_body (part_at a.spots y.body)) ∷ control a.spots fs) l
  again_goes l = (
      let top = top_is (frame.Try held) fs t in
      let is : control a.spots fs ≡ Try (try (part_body (part_at a.spots y.body)) (policy_option_view y.policy) (except_of a.spots (handler_view y.except))) held.value.tries held.value.delay ∷ control a.spots top.0 =
      ap (control a.spots) top.1 ∙ ap (λ z. Try z held.value.tries held.value.delay ∷ control a.spots top.0) (try_is a.spots nodes tells held.value.node y h)
      in
      ap (λ z. retries z l) is ∙ ap (λ z. goes (entered (part_body (part_at a.spots y.body)) ∷ z) l) (sym is)
      )

  pub again_inside : Fits a.spots nodes fs → owners_at a.spots y.body ≡ reach fs
  again_inside fits = (
      let top = top_is (frame.Try held) fs t in
      let all : Fits a.spots nodes (frame.Try held ∷ top.0) = subst (Fits a.spots nodes) top.1 fits in
      (tried_stands a.spots nodes held.value.node y tells.resolves h).1 ∙ all.0.1 ∙ sym (ap reach top.1)
      )

  pub again_so : (f : Frame) (gs : List Frame) (k g : Held) (c : List Item) → ((k : List Item) → items a.spots f k ≡ entered (part_body (part_at a.spots y.body)) ∷ k) → gs ≡ f ∷ fs → g ≡ k
      → goes (control a.spots gs) (standing c g) ≡ retries (control a.spots fs) (standing c k)
  again_so f gs k g c item pushed same =
      ap (λ z. goes (control a.spots z) (standing c g)) pushed ∙ ap (λ z. goes z (standing c g)) (item (control a.spots fs)) ∙ ap (λ (z : Held). goes (entered (part_body (part_at a.spots y.body)) ∷ control a.spots fs) (standing c z)) same
      ∙ sym (again_goes (standing c k))

-- ## What a policy says
pub said_yes : (j : Judgement) → verdict.Yes ≡ verdict_of j → j ≡ Says true
said_yes (Says true) e = refl
said_yes (Says false) e = absurd (cc e)
said_yes (Asks f) e = absurd (cc e)

pub said_no : (j : Judgement) → verdict.No ≡ verdict_of j → j ≡ Says false
said_no (Says true) e = absurd (cc e)
said_no (Says false) e = refl
said_no (Asks f) e = absurd (cc e)

pub record AskedBy (o : Option Policy) (n : ℕ) (e : Data) : Type 0 where
  pub policy : Policy
  pub name : Text
  pub there : o ≡ Some policy
  pub predicate : policy.predicate ≡ predicate.Flow name
  pub asks : judged (policy_option_view o) n e ≡ Asks name

pub said_asks : (o : Option Policy) (n : ℕ) (e : Data) → verdict.Asks ≡ verdict_of (judged (policy_option_view o) n e) → AskedBy o n e
said_asks None n e q = absurd (cc q)
said_asks (Some p) n e q = by (nat_lt n p.max_retries) refl
  where
    none : nat_lt n p.max_retries ≡ false → AskedBy (Some p) n e
    none t = (
        let no : verdict.Asks ≡ verdict.No = q ∙ ap (λ (b : Bool). verdict_of (if b then judgement (policy_view p).predicate e else Says false)) t in
        absurd (cc no)
        )

    by_predicate : (x : Predicate) → p.predicate ≡ x → nat_lt n p.max_retries ≡ true → AskedBy (Some p) n e
    by_predicate (predicate.Flow f) is t = record {
      policy = p;
      name = f;
      there = refl;
      predicate = is;
      asks = ap (λ (b : Bool). if b then judgement (policy_view p).predicate e else Says false) t ∙ ap (λ z. judgement (predicate_view z) e) is;
    }
    by_predicate predicate.Always is t = (
        let no : verdict.Asks ≡ verdict.Yes = q ∙ ap (λ (b : Bool). verdict_of (if b then judgement (policy_view p).predicate e else Says false)) t ∙ ap (λ z. verdict_of (judgement (predicate_view z) e)) is in
        absurd (cc no)
        )
    by_predicate predicate.Never is t = (
        let no : verdict.Asks ≡ verdict.No = q ∙ ap (λ (b : Bool). verdict_of (if b then judgement (policy_view p).predicate e else Says false)) t ∙ ap (λ z. verdict_of (judgement (predicate_view z) e)) is in
        absurd (cc no)
        )
    by_predicate (predicate.Default k) is t = (
        let no : verdict.Asks ≡ verdict_said (default_says k e) = q ∙ ap (λ (b : Bool). verdict_of (if b then judgement (policy_view p).predicate e else Says false)) t ∙ ap (λ z. verdict_of (judgement (predicate_view z) e)) is in
        absurd (said (default_says k e) no)
        )
      where
        said : (b : Bool) → verdict.Asks ≡ verdict_said b → ⊥
        said true w = cc w
        said false w = cc w

    by : (b : Bool) → nat_lt n p.max_retries ≡ b → AskedBy (Some p) n e
    by true t = by_predicate p.predicate refl t
    by false t = none t

module _ (a : Around) (nodes : List Node) (tells : IsTableOf a.spots nodes) (r : Tried) (y : TryNode) (h : IsTry nodes r.node y) (e : Data) where
  pub judged_by : judged (policy_of (try_at a.spots r.node)) r.tries e ≡ judged (policy_option_view y.policy) r.tries e
  judged_by = ap (λ z. judged (policy_of z) r.tries e) (try_is a.spots nodes tells r.node y h)

  module _ (s : Scene) (k : List Item) (l : Local) where
    pub decided_yes : verdict.Yes ≡ verdict_of (judged (policy_option_view y.policy) r.tries e) → decide_at a.spots r s e k l ≡ retry_at a.spots r s k l
    decided_yes q = ap (λ j. decided s e j (try_at a.spots r.node) r.tries r.delay k l (unwind s k l)) (judged_by ∙ said_yes (judged (policy_option_view y.policy) r.tries e) q)

    pub decided_no : verdict.No ≡ verdict_of (judged (policy_option_view y.policy) r.tries e) → decide_at a.spots r s e k l ≡ handled s e (try_at a.spots r.node) k l (unwind s k l)
    decided_no q = ap (λ j. decided s e j (try_at a.spots r.node) r.tries r.delay k l (unwind s k l)) (judged_by ∙ said_no (judged (policy_option_view y.policy) r.tries e) q)

    pub decided_asks : (f : Text) → judged (policy_of (try_at a.spots r.node)) r.tries e ≡ Asks f → decide_at a.spots r s e k l ≡ ask_at a.spots r s e k l
    decided_asks f q =
        ap (λ j. decided s e j (try_at a.spots r.node) r.tries r.delay k l (unwind s k l)) q
        ∙ sym (ap (λ j. asks s e (flow s.program.flows (asked_by j)) (Judge (try_at a.spots r.node) r.tries r.delay e ∷ k) l (unwind s k l)) q)

  -- the workflow that is asked stands at the number of the `try`
  pub asked_there : (ts : List Target) → AreTargets a.flows a.spots nodes ts → verdict.Asks ≡ verdict_of (judged (policy_option_view y.policy) r.tries e) → (f : Text) × (judged (policy_of (try_at a.spots r.node)) r.tries e ≡ Asks f) × IsAsked a.flows a.spots (slice_get ts r.node) f
  asked_there ts all q =
      let x = said_asks y.policy r.tries e q in
      (x.name, judged_by ∙ x.asks, all.asks r.node h.node y x.policy x.name h.at h.is x.there x.predicate)

-- ## A workflow is asked
pub asked_flow : (fs : List Flow) (ns : List Spot) (o : Option Target) (m : ℕ) (x : Text) → o ≡ Some (target.Flow m) → IsAsked fs ns o x → IsWorkflow fs ns m x
asked_flow fs ns o m x e h = subst (λ z. IsAsked fs ns z x) e h

module _ (a : Around) (r : Tried) (e : Data) (f : Text) (q : judged (policy_of (try_at a.spots r.node)) r.tries e ≡ Asks f) (s : Scene) (agrees : Agrees s a) (w : Flow) (named : flow a.flows f ≡ Some w) (k : List Item) (l : Local) where
  ask_is : ask_at a.spots r s e k l ≡ asked_one s e w.params w.steps (Judge (try_at a.spots r.node) r.tries r.delay e ∷ k) l (unwind s k l)
  ask_is =
      ap (λ j. asks s e (flow s.program.flows (asked_by j)) (Judge (try_at a.spots r.node) r.tries r.delay e ∷ k) l (unwind s k l)) q
      ∙ ap (λ (o : Option Flow). asks s e o (Judge (try_at a.spots r.node) r.tries r.delay e ∷ k) l (unwind s k l)) (ap (λ (fs : List Flow). flow fs f) agrees.2 ∙ named)

  -- with another number of parameters nothing is said
  pub ask_other : (xs : List Param) → w.params ≡ xs → ((x : Param) → xs ≡ x ∷ [] → ⊥) → (kind : Kind) × (ask_at a.spots r s e k l ≡ Breaks kind)
  ask_other xs is other = (BadArgument, ask_is ∙ ap (λ ys. asked_one s e ys w.steps (Judge (try_at a.spots r.node) r.tries r.delay e ∷ k) l (unwind s k l)) is ∙ by xs other)
    where
      by : (ys : List Param) → ((x : Param) → ys ≡ x ∷ [] → ⊥) → asked_one s e ys w.steps (Judge (try_at a.spots r.node) r.tries r.delay e ∷ k) l (unwind s k l) ≡ Breaks BadArgument
      by [] other = refl
      by (y ∷ []) other = absurd (other y refl)
      by (y ∷ z ∷ zs) other = refl

  module _ (x : Param) (one : w.params ≡ x ∷ []) where
    ask_one : ask_at a.spots r s e k l ≡ (if nat_le call_limit (calls_in k) then unwind s k l (error_map RecursionError) else called (opened s l ((x.name, e) ∷ [])) w.steps (Back None ∷ Judge (try_at a.spots r.node) r.tries r.delay e ∷ k) l (unwind s k l))
    ask_one = ask_is ∙ ap (λ ys. asked_one s e ys w.steps (Judge (try_at a.spots r.node) r.tries r.delay e ∷ k) l (unwind s k l)) one

    pub ask_deep : 20 ≤ calls_in k → ask_at a.spots r s e k l ≡ unwind s k l (error_map RecursionError)
    ask_deep deep =
        ask_one
        ∙ ap (λ (b : Bool). if b then unwind s k l (error_map RecursionError) else called (opened s l ((x.name, e) ∷ [])) w.steps (Back None ∷ Judge (try_at a.spots r.node) r.tries r.delay e ∷ k) l (unwind s k l)) (le_true call_limit (calls_in k) deep)

    pub ask_shallow : calls_in k < 20 → ask_at a.spots r s e k l ≡ called (opened s l ((x.name, e) ∷ [])) w.steps (Back None ∷ Judge (try_at a.spots r.node) r.tries r.delay e ∷ k) l (unwind s k l)
    ask_shallow few =
        ask_one
        ∙ ap (λ (b : Bool). if b then unwind s k l (error_map RecursionError) else called (opened s l ((x.name, e) ∷ [])) w.steps (Back None ∷ Judge (try_at a.spots r.node) r.tries r.delay e ∷ k) l (unwind s k l)) (le_false call_limit (calls_in k) few)

module _ (a : Around) (r : Tried) (e : Data) (f : Text) (q : judged (policy_of (try_at a.spots r.node)) r.tries e ≡ Asks f) (s : Scene) (agrees : Agrees s a) (w : Flow) (named : flow a.flows f ≡ Some w) (x : Param) (one : w.params ≡ x ∷ []) (old : List Frame) (c : List Item) (h : Held) where
  -- one call too many
  pub asked_deep : 20 ≤ calls_of old → ask_at a.spots r s e (control a.spots old) (standing c h) ≡ unwind s (control a.spots old) (standing c h) (error_map RecursionError)
  asked_deep deep = ask_deep a r e f q s agrees w named (control a.spots old) (standing c h) x one (omega (arith, deep, calls_are a.spots old))

  asked_in : calls_of old < 20 → ask_at a.spots r s e (control a.spots old) (standing c h)
      ≡ called (opened s (standing [] h) ((x.name, e) ∷ [])) w.steps (Back None ∷ Judge (try_at a.spots r.node) r.tries r.delay e ∷ control a.spots old) (standing c h) (unwind s (control a.spots old) (standing c h))
  asked_in few = ask_shallow a r e f q s agrees w named (control a.spots old) (standing c h) x one (omega (arith, few, calls_are a.spots old))

  -- past the limit on variables
  pub asked_refused : (g : Held) → calls_of old < 20 → Enters true s None h ((x.name, e) ∷ []) g → ask_at a.spots r s e (control a.spots old) (standing c h) ≡ unwind s (control a.spots old) (standing c g) (error_map ResourceLimitError)
  asked_refused g few p =
      asked_in few ∙ ap (λ z. called z w.steps (Back None ∷ Judge (try_at a.spots r.node) r.tries r.delay e ∷ control a.spots old) (standing c h) (unwind s (control a.spots old) (standing c h))) p.0
      ∙ ap (λ (y : Held). unwind s (control a.spots old) (standing c y) (error_map ResourceLimitError)) (sym p.1)

  -- it is called
  pub asked_entered : (held : Box Judging Global) (v : Value) (n layer : ℕ) (g : Held) (new : List Frame) → calls_of old < 20 → plain v ≡ e → part_list (part_at a.spots n) ≡ w.steps → Enters true s (Some layer) h ((x.name, e) ∷ []) g
      → held.value ≡ record { node = r.node; tries = r.tries; delay = r.delay; error = v; layer = layer } → new ≡ frame.Do n 0 ∷ frame.Judge held ∷ old → ask_at a.spots r s e (control a.spots old) (standing c h) ≡ goes (control a.spots new) (standing c g)
  asked_entered held v n layer g new few is list p holds pushed =
      asked_in few ∙ ap (λ z. called z w.steps (Back None ∷ Judge (try_at a.spots r.node) r.tries r.delay e ∷ control a.spots old) (standing c h) (unwind s (control a.spots old) (standing c h))) p.1
      ∙ ap (λ ss. goes (Do ss ss ∷ Back None ∷ Judge (try_at a.spots r.node) r.tries r.delay e ∷ control a.spots old) (standing c (with_layer true p.0 h))) (sym list)
      ∙ ap (λ (y : Data). goes (Do (part_list (part_at a.spots n)) (part_list (part_at a.spots n)) ∷ Back None ∷ Judge (try_at a.spots r.node) r.tries r.delay y ∷ control a.spots old) (standing c (with_layer true p.0 h))) (sym is)
      ∙ ap (λ (z : Judging). goes (Do (part_list (part_at a.spots n)) (part_list (part_at a.spots n)) ∷ Back None ∷ Judge (try_at a.spots z.node) z.tries z.delay (plain z.error) ∷ control a.spots old) (standing c (with_layer true p.0 h))) (sym holds)
      ∙ ap (λ fs. goes (control a.spots fs) (standing c (with_layer true p.0 h))) (sym pushed) ∙ ap (λ (y : Held). goes (control a.spots new) (standing c y)) (sym p.2)

-- what stands at the number of the `try`
pub asked_within : (a : Around) (ts : List Target) (r : Tried) (e : Data) → Asked a ts r e → r.node < length ts
asked_within a ts r e h = by (slice_get ts r.node) refl h.2
  where
    by : (o : Option Target) → slice_get ts r.node ≡ o → IsAsked a.flows a.spots o h.0 → r.node < length ts
    by None p q = absurd q
    by (Some t) p q = slice_get_within ts r.node t p

pub asks_flow : (a : Around) (ts : List Target) (r : Tried) (e : Data) (h : Asked a ts r e) (n : ℕ) → get_or ts r.node (target.Flow 0) ≡ target.Flow n → AsksFlow a n r e
asks_flow a ts r e h n is = (
    let found : slice_get ts r.node ≡ Some (target.Flow n) = slice_get-get_or ts r.node (target.Flow 0) (asked_within a ts r e h) ∙ ap (λ (t : Target). Some t) is in
    (h.0, h.1, asked_flow a.flows a.spots (slice_get ts r.node) n h.0 found h.2)
    )

pub asked_begun : (a : Around) (nodes : List Node) (tells : IsTableOf a.spots nodes) (ts : List Target) (r : Tried) (e : Data) (h : Asked a ts r e) (n : ℕ) → get_or ts r.node (target.Flow 0) ≡ target.Flow n → Begun a.flows a.spots nodes n h.0
asked_begun a nodes tells ts r e h n is = (
    let found : slice_get ts r.node ≡ Some (target.Flow n) = slice_get-get_or ts r.node (target.Flow 0) (asked_within a ts r e h) ∙ ap (λ (t : Target). Some t) is in
    begun a.flows a.spots nodes n h.0 tells.resolves (asked_flow a.flows a.spots (slice_get ts r.node) n h.0 found h.2)
    )

-- its parameters
pub one_long : (ps : List declared.Param) (x : Param) → map param_view ps ≡ x ∷ [] → length ps ≡ 1
one_long [] x e = absurd (cc e)
one_long (p ∷ []) x e = refl
one_long (p ∷ q ∷ rest) x e = absurd (cc e)

pub one_param : (ps : List declared.Param) (p : declared.Param) → 1 ≤ length ps → length ps < 2 → p ≡ get_or ps 0 p → map param_view ps ≡ param_view p ∷ []
one_param [] p low high is = absurd (omega arith)
one_param (q ∷ []) p low high is = ap (λ z. param_view z ∷ []) (sym is)
one_param (q ∷ t ∷ rest) p low high is = absurd (omega arith)

pub params_are : (ns : List Spot) (n : ℕ) (w : Flow) (ps : List Param) → part_at ns n ≡ FlowAt w → ps ≡ part_params (part_at ns n) → w.params ≡ ps
params_are ns n w ps is e = sym (e ∙ ap part_params is)

-- its frames
pub ask_fits : (ns : List Spot) (nodes : List Node) (r : Tried) (held : Box Judging Global) (flow layer : ℕ) (v : Value) (old mid new : List Frame) → TriedAt ns nodes r old → depth (plain v) ≤ 100 → IsFlow nodes flow
    → held.value ≡ record { node = r.node; tries = r.tries; delay = r.delay; error = v; layer = layer } → mid ≡ frame.Judge held ∷ old → new ≡ frame.Do flow 0 ∷ mid → Fits ns nodes old → Fits ns nodes new
ask_fits ns nodes r held flow layer v old mid new at shallow there holds m e fits =
    let all : new ≡ frame.Do flow 0 ∷ frame.Judge held ∷ old = e ∙ ap (λ fs. frame.Do flow 0 ∷ fs) m in
    let out : outside_at ns nodes flow ≡ [] = ap (λ o. view_outside o (owners_at ns flow)) there.at ∙ ap (λ (k : kinds.Kind). outside k (owners_at ns flow)) there.is in
    let same : held.value.node ≡ r.node = ap (λ (z : Judging). z.node) holds in
    let error : held.value.error ≡ v = ap (λ (z : Judging). z.error) holds in
    subst (Fits ns nodes) (sym all) (
      ((there.list, flow_list nodes flow there, omega arith), out),
      ((((at.node, subst (λ (m : ℕ). IsTry nodes m at.node) (sym same) at.is), subst (λ (x : Value). depth (plain x) ≤ 100) (sym error) shallow), ap (owners_at ns) same ∙ at.inside), fits),
    )

pub ask_owned : (p q flow layer : ℕ) (held : Box Judging Global) (old mid new : List Frame) → held.value.layer ≡ layer → mid ≡ frame.Judge held ∷ old → new ≡ frame.Do flow 0 ∷ mid → q ≡ p → owned q new ≡ own layer true ∷ owned p old
ask_owned p q flow layer held old mid new is m e same =
    ap (λ (k : ℕ). owned k new) same ∙ ap (owned p) (e ∙ ap (λ fs. frame.Do flow 0 ∷ fs) m) ∙ ap (λ (k : ℕ). own k true ∷ owned p old) is

-- ## Where it leads
pub went_there : (ns : List Spot) (f : Frame) (fs : List Frame) (h : Held) → topped fs ≡ Some f → IsWent (settled (standing (control ns fs) h)) (standing (control ns fs) h)
went_there ns f [] h t = absurd (cc t)
went_there ns f (g ∷ fs) h t = subst (λ m. IsWent m (standing (control ns (g ∷ fs)) h)) (sym (ended_items ns g (control ns fs) (standing (control ns (g ∷ fs)) h))) refl

-- what is told of a move that raises, and of one that answers
pub still_raised : (s : Scene) (m : Moved) (v : Value) (l : Local) → IsTurned s m (turned.Raises v) l → ((c : List Item) × (m ≡ unwind s l.control (record l { control = c }) (plain v))) ⊎ ((kind : Kind) × (m ≡ Breaks kind))
still_raised s (Goes x) v l h = inl h
still_raised s (Ends e x) v l h = inl h
still_raised s (Does e x) v l h = inl h
still_raised s (Breaks kind) v l h = inr (kind, refl)
still_raised s Not v l h = inl h

pub still_said : (s : Scene) (m : Moved) (b : Bool) (l : Local) → IsTurned s m (turned.Says b) l → ((c : List Item) × (m ≡ returns s (boolean b) l.control (record l { control = c }))) ⊎ ((kind : Kind) × (m ≡ Breaks kind))
still_said s (Goes x) b l h = inl h
still_said s (Ends e x) b l h = inl h
still_said s (Does e x) b l h = inl h
still_said s (Breaks kind) b l h = inr (kind, refl)
still_said s Not b l h = inl h

-- ## The answer of a predicate
judge_gone : (ns : List Spot) (held : Box Judging Global) (b : Bool) (old new : List Frame) (h g : Held) → topped old ≡ Some (frame.Judge held) → Leaves b old h new g
    → (s : Scene) (c : List Item) (says : Bool) → returns s (boolean says) (control ns old) (standing c h) ≡ answered s (boolean says) (try_at ns held.value.node) held.value.tries held.value.delay (plain held.value.error) (control ns new) (standing c g)
judge_gone ns held false old new h g top w s c says = absurd (cc (sym top ∙ ap topped w.0))
judge_gone ns held true old new h g top w s c says =
    let judge : w.0 ≡ frame.Judge held = cc (sym (ap topped w.1) ∙ top) in
    ap (λ fs. returns s (boolean says) (control ns fs) (standing c h)) (w.1 ∙ ap (λ y. y ∷ new) judge)
    ∙ ap (λ l. answered s (boolean says) (try_at ns held.value.node) held.value.tries held.value.delay (plain held.value.error) (control ns new) l) (stands_on (frame.Judge held) c h ∙ ap (standing c) (sym (w.2 ∙ ap (λ y. dropped y h) judge)))

-- its call is the innermost frame, and is left
module _ (ns : List Spot) (b : Bool) (old new : List Frame) (h g : Held) (t : Tried) (v : Value) (q : IsAskedOn old t v) where
  judge_left : Leaves b old h new g → (s : Scene) (c : List Item) (says : Bool) → returns s (boolean says) (control ns old) (standing c h) ≡ answered s (boolean says) (try_at ns t.node) t.tries t.delay (plain v) (control ns new) (standing c g)
  judge_left w s c says = judge_gone ns q.held b old new h g q.top w s c says
      ∙ ap (λ (z : Tried). answered s (boolean says) (try_at ns z.node) z.tries z.delay (plain q.held.value.error) (control ns new) (standing c g)) q.tried
      ∙ ap (λ (z : Value). answered s (boolean says) (try_at ns t.node) t.tries t.delay (plain z) (control ns new) (standing c g)) q.error_is

  pub judge_yes : Leaves b old h new g → (s : Scene) (c : List Item) (says : Bool) → says ≡ true → returns s (boolean says) (control ns old) (standing c h) ≡ retried s (try_at ns t.node) t.tries t.delay (control ns new) (standing c g)
  judge_yes w s c says true_is =
      judge_left w s c says ∙ ap (λ (y : Bool). answered s (boolean y) (try_at ns t.node) t.tries t.delay (plain v) (control ns new) (standing c g)) true_is

  pub judge_no : Leaves b old h new g → (s : Scene) (c : List Item) (says : Bool) → says ≡ false → returns s (boolean says) (control ns old) (standing c h) ≡ handled s (plain v) (try_at ns t.node) (control ns new) (standing c g) (unwind s (control ns new) (standing c g))
  judge_no w s c says false_is =
      judge_left w s c says ∙ ap (λ (y : Bool). answered s (boolean y) (try_at ns t.node) t.tries t.delay (plain v) (control ns new) (standing c g)) false_is

-- the task stands behind it as it stood at its `try`, and the error nests within the limit
pub record Judged (ns : List Spot) (nodes : List Node) (t : Tried) (v : Value) (fs : List Frame) : Type 0 where
  pub at : TriedAt ns nodes t fs
  pub shallow : depth (plain v) ≤ 100

pub judge_at : (ns : List Spot) (nodes : List Node) (b : Bool) (old new : List Frame) (h g : Held) (t : Tried) (v : Value) → IsAskedOn old t v → Leaves b old h new g → Fits ns nodes old → Judged ns nodes t v new
judge_at ns nodes false old new h g t v q w fits = absurd (cc (sym q.top ∙ ap topped w.0))
judge_at ns nodes true old new h g t v q w fits =
    let judge : w.0 ≡ frame.Judge q.held = cc (sym (ap topped w.1) ∙ q.top) in
    let all : Fits ns nodes (frame.Judge q.held ∷ new) = subst (λ y. Fits ns nodes (y ∷ new)) judge (subst (Fits ns nodes) w.1 fits) in
    record {
      at = subst (λ (z : Tried). TriedAt ns nodes z new) q.tried (record { node = all.0.0.0.0; is = all.0.0.0.1; inside = all.0.1 });
      shallow = subst (λ (z : Value). depth (plain z) ≤ 100) q.error_is all.0.0.1;
    }
