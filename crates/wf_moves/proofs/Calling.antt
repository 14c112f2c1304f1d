-- Calls of workflows.
use Rattle.std.proofs.Common.{◌≡◌, ◌≤◌, ◌<◌, ℕ, Bool, true, false, List, [], ◌∷◌, length, Some, None, refl, sym, ap, subst, ◌∙◌, arith}
use Rattle.std.specs.Prelude.{Option, if◌then◌else◌, is_some, nat_le, slice_get}
use Rattle.std.proofs.lemmas.Option.{slice_get_within}
use Rattle.std.proofs.lemmas.Bool.{leb-true, leb-false}
use Rattle.wf_lemmas.proofs.Lists.{none_past}
use Rattle.wf_ast.specs.Flows.{flow}
use Rattle.wf_ast.specs.Tree.{Flow}
use Rattle.wf_frames.specs.Fits.{Fits, IsCall, outside_at, view_at, view_outside}
use Rattle.wf_frames.specs.Held.{Held, standing}
use Rattle.wf_frames.specs.Turns.{Enters, with_layer}
use Rattle.wf_moves.proofs.Starting.{flow_is, flow_list}
use Rattle.wf_moves.specs.Tasks.{IsFlow, flow_at, part_params}
use Rattle.wf_model.specs.NodeKinds as kinds
use Rattle.wf_model.specs.NodeKinds.{Kind, View, node_view}
use Rattle.wf_model.specs.Table.{Resolves, flow_of, outside, part_by}
use Rattle.wf_model.specs.declared.node.CallNode.{CallNode}
use Rattle.wf_model.specs.declared.node.Node.{Node}
use Rattle.wf_model.specs.declared.node.NodeKind.TheVariants as variant
use Rattle.wf_frames.proofs.Parts.{part_is, seen_list, view_is}
use Rattle.wf_frames.specs.Frames.{calls_of, control, own, owned, result_of}
use Rattle.wf_frames.specs.declared.frames.Frame.{Frame}
use Rattle.wf_frames.specs.declared.frames.Frame.TheVariants as frame
use Rattle.wf_model.specs.Calls.{all_params, bindings, calls_named, calls_with, given}
use Rattle.wf_model.specs.Config.{Back, Do, Item, call_limit}
use Rattle.wf_model.specs.Layers.{enter, opened}
use Rattle.wf_model.specs.Leave.{on, raises}
use Rattle.wf_model.specs.Local.{Local, Scene, goes}
use Rattle.wf_model.specs.Unwind.{calls_in}
use Rattle.wf_moves.specs.Moved.{IsMove}
use Rattle.wf_moves.specs.declared.finish.Went.{Went}
use Rattle.wf_model.specs.Spots.{FlowAt, Part, Spot, owners_at, part_at, part_list, spot_part}
use Rattle.wf_frames.specs.Built.{IsTarget, IsWorkflow, flow_part}
use Rattle.wf_frames.specs.declared.target.Target.{Target}
use Rattle.wf_value.specs.Data.{Data, Pairs}
use Rattle.wf_value.specs.Errors.{error_map}
use Rattle.wf_value.specs.declared.Tag.TheVariants.{RecursionError, ResourceLimitError}
use Rattle.wf_value.specs.Pairs.{Text}

-- ## How many calls
pub calls_are : (ns : List Spot) (fs : List Frame) → calls_in (control ns fs) ≡ calls_of fs
calls_are ns [] = refl
calls_are ns (frame.Do n at ∷ fs) = omega (arith, calls_are ns fs)
calls_are ns (frame.Lone n b ∷ fs) = omega (arith, calls_are ns fs)
calls_are ns (frame.Entries n at ∷ fs) = omega (arith, calls_are ns fs)
calls_are ns (frame.Then n ∷ fs) = omega (arith, calls_are ns fs)
calls_are ns (frame.Loop looping ∷ fs) = omega (arith, calls_are ns fs)
calls_are ns (frame.Try trying ∷ fs) = omega (arith, calls_are ns fs)
calls_are ns (frame.Mark m ∷ fs) = omega (arith, calls_are ns fs)
calls_are ns (frame.Back c m ∷ fs) = omega (arith, calls_are ns fs)
calls_are ns (frame.Judge judging ∷ fs) = omega (arith, calls_are ns fs)

-- ## Parameters
module _ (s : Scene) (r : Option Text) (x : Text) (args : Pairs) (f : Flow) (k : List Item) (l : Local) (w : Went) (m : Local) (named : flow s.program.flows x ≡ Some f) where
  by_flow : (o : Option (List (Text × Data))) → bindings f.params args ≡ o → IsMove s (calls_with s f r o k l) w m → IsMove s (calls_named s r (flow s.program.flows x) x args k l) w m
  by_flow o e h =
      subst (λ (q : Option Flow). IsMove s (calls_named s r q x args k l) w m) (sym named) (subst (λ (q : Option (List (Text × Data))). IsMove s (calls_with s f r q k l) w m) (sym e) h)

  -- with values for its parameters
  pub call_given : (xs : List (Text × Data)) → given f.params args ≡ Some xs → IsMove s (calls_with s f r (Some xs) k l) w m → IsMove s (calls_named s r (flow s.program.flows x) x args k l) w m
  call_given xs e h = by (all_params args f.params) refl
    where
      by : (b : Bool) → all_params args f.params ≡ b → IsMove s (calls_named s r (flow s.program.flows x) x args k l) w m
      by true t = by_flow (Some xs) (ap (λ (c : Bool). if c then given f.params args else None) t ∙ e) h
      by false t = by_flow None (ap (λ (c : Bool). if c then given f.params args else None) t) tt

  -- without
  pub call_lacks : given f.params args ≡ None → IsMove s (calls_named s r (flow s.program.flows x) x args k l) w m
  call_lacks e = by (all_params args f.params) refl
    where
      by : (b : Bool) → all_params args f.params ≡ b → IsMove s (calls_named s r (flow s.program.flows x) x args k l) w m
      by true t = by_flow None (ap (λ (c : Bool). if c then given f.params args else None) t ∙ e) tt
      by false t = by_flow None (ap (λ (c : Bool). if c then given f.params args else None) t) tt

-- ## The node of a workflow
flow_kind : (ns : List Spot) (nodes : List Node) (n : ℕ) (x : Text) (next : Option Text) (w : Flow) (k : Kind) → part_by ns x next k ≡ FlowAt w → (view : View) → view_at nodes n ≡ Some view → view.kind ≡ k → IsFlow nodes n
flow_kind ns nodes n x next w (kinds.Flow params b) e view at is = record { view = view; at = at; params = params; list = b; is = is }
flow_kind ns nodes n x next w kinds.Nothing e view at is = absurd (cc e)
flow_kind ns nodes n x next w (kinds.Assign v) e view at is = absurd (cc e)
flow_kind ns nodes n x next w (kinds.Call f) e view at is = absurd (cc e)
flow_kind ns nodes n x next w (kinds.Switch v) e view at is = absurd (cc e)
flow_kind ns nodes n x next w (kinds.For l) e view at is = absurd (cc e)
flow_kind ns nodes n x next w (kinds.Parallel a b c) e view at is = absurd (cc e)
flow_kind ns nodes n x next w (kinds.Block b) e view at is = absurd (cc e)
flow_kind ns nodes n x next w (kinds.Try a b c) e view at is = absurd (cc e)
flow_kind ns nodes n x next w (kinds.Raise t) e view at is = absurd (cc e)
flow_kind ns nodes n x next w (kinds.Return t) e view at is = absurd (cc e)
flow_kind ns nodes n x next w (kinds.Arm t) e view at is = absurd (cc e)
flow_kind ns nodes n x next w (kinds.Entry t) e view at is = absurd (cc e)
flow_kind ns nodes n x next w (kinds.Branch b) e view at is = absurd (cc e)

pub flow_there : (ns : List Spot) (nodes : List Node) (n : ℕ) (w : Flow) → Resolves ns nodes → part_at ns n ≡ FlowAt w → IsFlow nodes n
flow_there ns nodes n w r e = by (slice_get nodes n) refl
  where
    by_spot : (o : Option Spot) → slice_get ns n ≡ o → n < length ns
    by_spot None q = absurd (cc (sym (ap spot_part q) ∙ e))
    by_spot (Some y) q = slice_get_within ns n y q

    by : (o : Option Node) → slice_get nodes n ≡ o → IsFlow nodes n
    by None q = (let lt = by_spot (slice_get ns n) refl in let past = none_past nodes n q in absurd (omega (arith, lt, past, r.as_long)))
    by (Some x) q = flow_kind ns nodes n x.name x.next w (node_view x).kind (sym (r.each n x q).part ∙ e) (node_view x) (view_is nodes n x q) refl

pub flow_part_at : (ns : List Spot) (nodes : List Node) (n : ℕ) → Resolves ns nodes → IsFlow nodes n → (w : Flow) × (part_at ns n ≡ FlowAt w)
flow_part_at ns nodes n r f =
    let y = seen_list nodes n f.list (flow_list nodes n f) in
    (flow_of ns y.node.name f.params f.list, part_is ns nodes n y.node r y.at ∙ ap (part_by ns y.node.name y.node.next) (flow_is nodes n y.node f y.at))

-- its steps and its parameters
pub flow_steps : (p : Part) (w : Flow) → p ≡ FlowAt w → part_list p ≡ (flow_at p).steps
flow_steps p w e = ap part_list e ∙ sym (ap (λ q. (flow_at q).steps) e)

pub flow_param_list : (p : Part) (w : Flow) → p ≡ FlowAt w → part_params p ≡ w.params
flow_param_list p w e = ap part_params e

-- the workflow of a call, whose node has this number
pub record Begun (fs : List Flow) (ns : List Spot) (nodes : List Node) (number : ℕ) (x : Text) : Type 0 where
  pub workflow : Flow
  pub named : flow fs x ≡ Some workflow
  pub part : part_at ns number ≡ FlowAt workflow
  pub is : IsFlow nodes number

pub begun : (fs : List Flow) (ns : List Spot) (nodes : List Node) (n : ℕ) (x : Text) → Resolves ns nodes → IsWorkflow fs ns n x → Begun fs ns nodes n x
begun fs ns nodes n x r h = by (flow fs x) refl h.named h.part
  where
    by : (o : Option Flow) → flow fs x ≡ o → is_some o ≡ true → part_at ns n ≡ flow_part o → Begun fs ns nodes n x
    by None e s p = absurd (cc s)
    by (Some f) e s p = record { workflow = f; named = e; part = p; is = flow_there ns nodes n f r p }

-- ## What stands at the number of a call
pub target_within : (fs : List Flow) (ns : List Spot) (ts : List Target) (n : ℕ) (x : Text) → IsTarget fs ns (slice_get ts n) x → n < length ts
target_within fs ns ts n x h = by (slice_get ts n) refl h
  where
    by : (o : Option Target) → slice_get ts n ≡ o → IsTarget fs ns o x → n < length ts
    by None e q = absurd q
    by (Some t) e q = slice_get_within ts n t e

-- ## The node of a call
pub call_within : (nodes : List Node) (n : ℕ) → (f : CallNode) × IsCall nodes n f → n < length nodes
call_within nodes n h = slice_get_within nodes n h.1.node h.1.at

pub only_call : (nodes : List Node) (n : ℕ) (x : Node) → (f : CallNode) × IsCall nodes n f → slice_get nodes n ≡ Some x → ((f : CallNode) → x.kind ≡ variant.Call f → ⊥) → ⊥
only_call nodes n x h at other = (
    let same : h.1.node ≡ x = cc (sym h.1.at ∙ at) in
    other h.0 (ap (λ (y : Node). y.kind) (sym same) ∙ h.1.is)
    )

-- ## Its frames
pub call_fits : (ns : List Spot) (nodes : List Node) (n flow layer : ℕ) (f : CallNode) (old mid new : List Frame) → IsCall nodes n f → IsFlow nodes flow → mid ≡ frame.Back (Some n) layer ∷ old → new ≡ frame.Do flow 0 ∷ mid → Fits ns nodes old → Fits ns nodes new
call_fits ns nodes n flow layer f old mid new is there m e fits =
    let all : new ≡ frame.Do flow 0 ∷ frame.Back (Some n) layer ∷ old = e ∙ ap (λ fs. frame.Do flow 0 ∷ fs) m in
    let out : outside_at ns nodes flow ≡ [] = ap (λ o. view_outside o (owners_at ns flow)) there.at ∙ ap (λ (k : Kind). outside k (owners_at ns flow)) there.is in
    subst (Fits ns nodes) (sym all) (((there.list, flow_list nodes flow there, omega arith), out), (((f, is), tt), fits))

pub call_owned : (p q flow layer : ℕ) (c : Option ℕ) (old mid new : List Frame) → mid ≡ frame.Back c layer ∷ old → new ≡ frame.Do flow 0 ∷ mid → q ≡ p → owned q new ≡ own layer true ∷ owned p old
call_owned p q flow layer c old mid new m e same = ap (λ (k : ℕ). owned k new) same ∙ ap (owned p) (e ∙ ap (λ fs. frame.Do flow 0 ∷ fs) m)

-- ## The call begins
pub le_true : (m n : ℕ) → m ≤ n → nat_le m n ≡ true
le_true m n h = by (nat_le m n) refl
  where
    by : (b : Bool) → nat_le m n ≡ b → b ≡ true
    by true q = refl
    by false q = let lt = leb-false m n q in absurd (omega (arith, h, lt))

pub le_false : (m n : ℕ) → n < m → nat_le m n ≡ false
le_false m n h = by (nat_le m n) refl
  where
    by : (b : Bool) → nat_le m n ≡ b → b ≡ false
    by false q = refl
    by true q = let le = leb-true m n q in absurd (omega (arith, h, le))

module _ (ns : List Spot) (s : Scene) (w : Flow) (r : Option Text) (xs : List (Text × Data)) (old : List Frame) (d : List Item) (h : Held) where
  pub call_deep : (e : Went) (l : Local) → 20 ≤ calls_of old → IsMove s (raises s (control ns old) (standing d h) (error_map RecursionError)) e l → IsMove s (calls_with s w r (Some xs) (control ns old) (standing d h)) e l
  call_deep e l deep m =
      let t : nat_le call_limit (calls_in (control ns old)) ≡ true = le_true call_limit (calls_in (control ns old)) (omega (arith, deep, calls_are ns old)) in
      subst (λ y. IsMove s y e l) (sym (ap (λ (b : Bool). if b then raises s (control ns old) (standing d h) (error_map RecursionError) else (on s (control ns old) (standing d h) (opened s (standing d h) xs) (λ ps. goes (Do w.steps w.steps ∷ Back r ∷ control ns old) (enter true ps (standing d h))))) t)) m

  shallow : calls_of old < 20 → calls_with s w r (Some xs) (control ns old) (standing d h) ≡ on s (control ns old) (standing d h) (opened s (standing [] h) xs) (λ ps. goes (Do w.steps w.steps ∷ Back r ∷ control ns old) (standing d (with_layer true ps h)))
  shallow few =
      let t : nat_le call_limit (calls_in (control ns old)) ≡ false = le_false call_limit (calls_in (control ns old)) (omega (arith, few, calls_are ns old)) in
      ap (λ (b : Bool). if b then raises s (control ns old) (standing d h) (error_map RecursionError) else (on s (control ns old) (standing d h) (opened s (standing d h) xs) (λ ps. goes (Do w.steps w.steps ∷ Back r ∷ control ns old) (enter true ps (standing d h))))) t

  pub call_refused : (g : Held) (e : Went) (l : Local) → calls_of old < 20 → Enters true s None h xs g → IsMove s (raises s (control ns old) (standing d g) (error_map ResourceLimitError)) e l → IsMove s (calls_with s w r (Some xs) (control ns old) (standing d h)) e l
  call_refused g e l few q m =
      subst (λ y. IsMove s y e l) (sym (shallow few ∙ ap (λ y. on s (control ns old) (standing d h) y (λ ps. goes (Do w.steps w.steps ∷ Back r ∷ control ns old) (standing d (with_layer true ps h)))) q.0
      ∙ ap (λ (y : Held). raises s (control ns old) (standing d y) (error_map ResourceLimitError)) (sym q.1))) m

  pub call_entered : (n flow layer : ℕ) (g : Held) (e : Went) (l : Local) (new : List Frame) → calls_of old < 20 → Enters true s (Some layer) h xs g → part_list (part_at ns flow) ≡ w.steps → result_of ns (Some n) ≡ r
      → new ≡ frame.Do flow 0 ∷ frame.Back (Some n) layer ∷ old → IsMove s (goes (control ns new) (standing d g)) e l → IsMove s (calls_with s w r (Some xs) (control ns old) (standing d h)) e l
  call_entered n flow layer g e l new few q steps result p m =
      subst (λ y. IsMove s y e l) (sym (shallow few ∙ ap (λ y. on s (control ns old) (standing d h) y (λ ps. goes (Do w.steps w.steps ∷ Back r ∷ control ns old) (standing d (with_layer true ps h)))) q.1
      ∙ ap (λ ss. goes (Do ss ss ∷ Back r ∷ control ns old) (standing d (with_layer true q.0 h))) (sym steps)
      ∙ ap (λ o. goes (Do (part_list (part_at ns flow)) (part_list (part_at ns flow)) ∷ Back o ∷ control ns old) (standing d (with_layer true q.0 h))) (sym result)
      ∙ ap (λ fs. goes (control ns fs) (standing d (with_layer true q.0 h))) (sym p) ∙ ap (λ (y : Held). goes (control ns new) (standing d y)) (sym q.2))) m
