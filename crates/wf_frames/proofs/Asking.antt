-- Steps that make a request.
use Rattle.std.proofs.Common.{◌≡◌, inl, inr, ℕ, ◌+◌, ◌<◌, Bool, true, false, List, [], ◌∷◌, length, get_or, Ok, Err, Some, None, refl, sym, ap, subst, ◌∙◌, add-one}
use Rattle.std.specs.Prelude.{Option, drop, if◌then◌else◌, slice_get, suc, unwrap_or}
use Rattle.wf_ast.specs.Accept.{BadArgument}
use Rattle.wf_ast.specs.Apply.{View}
use Rattle.wf_ast.specs.Eval.{fill_fields}
use Rattle.wf_ast.specs.Flows.{flow}
use Rattle.wf_ast.specs.Func.{HttpCall, Listing, Special, SpecialListing, SysLog, SysSleep, SysSleepUntil, CreateEndpoint, AwaitCallback, func_named, special_named}
use Rattle.wf_ast.specs.Tree.{Body, CallBody, Entry, Flow, Program, loop, more, no_steps, parallel, OfBranches, OfLoop, step as step_so, Steps}
use Rattle.wf_eval.specs.Answers.{Answers}
use Rattle.wf_frames.specs.Fits.{list_at}
use Rattle.wf_frames.specs.Frames.{body_entries, control}
use Rattle.wf_frames.specs.declared.frames.Frame.{Frame}
use Rattle.wf_frames.specs.declared.frames.Frame.TheVariants as frame
use Rattle.wf_model.specs.Calls.{fits_call, http_method, issues_call, requests}
use Rattle.wf_model.specs.Config.{Do, Entries, Item, Then}
use Rattle.wf_model.specs.Kinds.{ByCall, body_kind, by_clock, call_kind, listed_kind, next_kind, special_kind, fields_now}
use Rattle.wf_model.specs.Layers.{view}
use Rattle.wf_model.specs.Leave.{on, raises}
use Rattle.wf_model.specs.Local.{Breaks, Local, Moved, Scene}
use Rattle.wf_model.specs.Move.{issues, then_item}
use Rattle.wf_model.specs.NodeKinds.{Listed, kind_by}
use Rattle.wf_model.specs.Shapes.{Compiled}
use Rattle.wf_model.specs.Spots.{Spot, from, part_at, part_body, part_list, part_name, part_next, part_step, steps_by}
use Rattle.wf_model.specs.Table.{Resolves, part_by}
use Rattle.wf_model.specs.declared.node.CallNode.{CallNode}
use Rattle.wf_model.specs.declared.node.Node.{Node}
use Rattle.wf_model.specs.declared.node.NodeKind.{NodeKind}
use Rattle.wf_model.specs.declared.node.NodeKind.TheVariants as kind
use Rattle.wf_value.specs.Events.{Method}
use Rattle.wf_frames.proofs.Advancing.{from_next}
use Rattle.wf_frames.proofs.Evaluated.{failed, gave}
use Rattle.wf_frames.proofs.Parts.{list_is, part_is}
use Rattle.wf_frames.specs.Steps.{AreFit, AsksWith, CallWants, CallsNone, CarriesCall, Fails, IsCallOn, IsDone, IsGiven, IsNoCall, IsOf, IsOrBreaks, IsReady, Issues, LeadsSo, PerformsCall, WantsSame, asks, asks_by, asks_to, asks_with, come, come_to, issues_body}
use Rattle.wf_frames.specs.declared.step.Leads.{Leads}
use Rattle.wf_frames.specs.declared.step.Leads.TheVariants as leads
use Rattle.wf_frames.specs.declared.step.Step.{Step}
use Rattle.wf_frames.specs.declared.step.Step.TheVariants as step
use Rattle.wf_value.specs.Data.{Pairs, pairs_of}
use Rattle.wf_value.specs.Errors.{Answer}
use Rattle.wf_value.specs.Pairs.{Text}
use Rattle.wf_value.specs.declared.Raise.{Raise}
use Rattle.wf_value.specs.declared.Raise.TheVariants.{Error, OutOfMemory}
use Rattle.wf_value.specs.declared.value.Map.{Map}

-- ## What makes a request
pub clock_asks_not : (b : Bool) → by_clock b ≡ ByCall → ⊥
clock_asks_not true e = cc e
clock_asks_not false e = cc e

-- the name of a call that makes a request is that of a call of HTTP
pub method_of : (p : Program) (f : CallBody) → body_kind p (Body.Call f) ≡ ByCall → (m : Option Method) × (http_method (special_named f.name) ≡ Some m)
method_of p f h = by_flow (flow p.flows f.name) h
  where
    by_special : (g : SpecialListing) (x : Special) → g.special ≡ x → special_kind x (fields_now f.args) ≡ ByCall → (m : Option Method) × (http_method (Some g) ≡ Some m)
    by_special g SysLog e k = absurd (clock_asks_not (fields_now f.args) k)
    by_special g SysSleep e k = absurd (cc k)
    by_special g SysSleepUntil e k = absurd (cc k)
    by_special g (HttpCall m) e k = (m, ap {B = Option (Option Method)} (λ (x : Special). elim x [ HttpCall m ↦ Some m | y ↦ None ]) e)
    by_special g CreateEndpoint e k = absurd (clock_asks_not (fields_now f.args) k)
    by_special g AwaitCallback e k = absurd (cc k)

    by_listing : (e : Option Listing) (g : Option SpecialListing) → listed_kind e g (fields_now f.args) ≡ ByCall → (m : Option Method) × (http_method g ≡ Some m)
    by_listing (Some e) g k = absurd (clock_asks_not _ k)
    by_listing None (Some g) k = by_special g g.special refl k
    by_listing None None k = absurd (clock_asks_not (fields_now f.args) k)

    by_flow : (o : Option Flow) → call_kind o f.name (fields_now f.args) ≡ ByCall → (m : Option Method) × (http_method (special_named f.name) ≡ Some m)
    by_flow (Some w) k = absurd (clock_asks_not (fields_now f.args) k)
    by_flow None k = by_listing (func_named f.name) (special_named f.name) k

-- a body that is no call makes none
pub plain_asks_not : (ns : List Spot) (cs : Compiled) (x : Text) (next : Option Text) (k : NodeKind) (p : Program) → ((f : CallNode) → k ≡ kind.Call f → ⊥) → body_kind p (part_body (part_by ns x next (kind_by cs k))) ≡ ByCall → ⊥
plain_asks_not ns cs x next k p other h = by (part_body (part_by ns x next (kind_by cs k))) (no_call k other) h
  where
    no_call : (j : NodeKind) → ((f : CallNode) → j ≡ kind.Call f → ⊥) → (f : CallBody) → part_body (part_by ns x next (kind_by cs j)) ≡ Body.Call f → ⊥
    no_call (kind.Call v) o f e = o v refl
    no_call (kind.Assign v) o f e = cc e
    no_call (kind.Switch v) o f e = cc e
    no_call (kind.For v) o f e = cc e
    no_call (kind.Raise v) o f e = cc e
    no_call (kind.Return v) o f e = cc e
    no_call (kind.Block v) o f e = cc e
    no_call (kind.Parallel v) o f e = cc e
    no_call (kind.Try v) o f e = cc e
    no_call kind.Nothing o f e = cc e
    no_call (kind.Flow v) o f e = cc e
    no_call (kind.Arm v) o f e = cc e
    no_call (kind.Entry v) o f e = cc e
    no_call (kind.Branch v) o f e = cc e

    by : (b : Body) → ((f : CallBody) → b ≡ Body.Call f → ⊥) → body_kind p b ≡ ByCall → ⊥
    by Body.Nothing o e = cc e
    by (Body.Assign []) o e = cc e
    by (Body.Assign (y ∷ ys)) o e = clock_asks_not _ e
    by (Body.Call f) o e = o f refl
    by (Body.Switch arms) o e = clock_asks_not _ e
    by (Body.For (loop y i v ss)) o e = clock_asks_not _ e
    by (Body.Parallel (parallel names limit (OfBranches bs))) o e = cc e
    by (Body.Parallel (parallel names limit (OfLoop (loop y i v ss)))) o e = clock_asks_not _ e
    by (Body.Block ss) o e = cc e
    by (Body.Try t) o e = cc e
    by (Body.Raise t) o e = clock_asks_not _ e
    by (Body.Return t) o e = clock_asks_not _ e

-- ## What has a value at hand
pub asks_so : (ns : List Spot) (s : Scene) (k : List Item) (l : Local) (by : Leads) (st : Step) → LeadsSo by st → asks ns st s k l ≡ asks_to ns by s k l
asks_so ns s k l by st so = ap (λ y. asks ns y s k l) so.is ∙ ap (λ y. asks_to ns y s k l) so.holds

pub comes_so : (ns : List Spot) (s : Scene) (k : List Item) (l : Local) (by : Leads) (st : Step) → LeadsSo by st → come ns st s k l ≡ come_to ns by s k l
comes_so ns s k l by st so = ap (λ y. come ns y s k l) so.is ∙ ap (λ y. come_to ns y s k l) so.holds

pub done_so : (by : Leads) (st : Step) → LeadsSo by st → IsGiven by → IsDone st
done_so by st so h = subst IsDone (sym so.is) (subst IsGiven (sym so.holds) h)

pub of_so : (n : ℕ) (by : Leads) (st : Step) → LeadsSo by st → IsCallOn n by → IsOf n st
of_so n by st so h = subst (IsOf n) (sym so.is) (subst (IsCallOn n) (sym so.holds) h)

pub ready_so : (ns : List Spot) (nodes : List Node) (fs : List Frame) (by : Leads) (st : Step) → LeadsSo by st → AreFit nodes by → IsReady ns nodes fs st
ready_so ns nodes fs by st so h = subst (IsReady ns nodes fs) (sym so.is) (subst (AreFit nodes) (sym so.holds) h)

-- ## Calls
module _ (n : ℕ) (f : CallBody) (v : View) where
  -- with what came of the arguments
  asked_by : (r : Answer Pairs) (st : Step) → fill_fields f.args v ≡ r
      → ((ns : List Spot) (s : Scene) (k : List Item) (l : Local) (m : Option Method) → part_body (part_at ns n) ≡ Body.Call f → http_method (special_named f.name) ≡ Some m → on s k l r (requests s f m k l) ≡ asks ns st s k l) → AsksWith n f v st
  asked_by r st is go ns s k l body same kind = by (fits_call f) refl
    where
      m : (m : Option Method) × (http_method (special_named f.name) ≡ Some m)
      m = method_of s.program f kind

      by : (b : Bool) → fits_call f ≡ b → IsOrBreaks (issues_body s (Body.Call f) k l) (asks ns st s k l)
      by true e =
          inl (ap (λ o. issues_call s f o k l) m.1 ∙ ap (λ (b : Bool). if b then on s k l (fill_fields f.args (view s l)) (requests s f m.0 k l) else Breaks BadArgument) e
          ∙ ap (λ w. on s k l (fill_fields f.args w) (requests s f m.0 k l)) same ∙ ap (λ q. on s k l q (requests s f m.0 k l)) is ∙ go ns s k l m.0 body m.1)
      by false e =
          inr (BadArgument, ap (λ o. issues_call s f o k l) m.1 ∙ ap (λ (b : Bool). if b then on s k l (fill_fields f.args (view s l)) (requests s f m.0 k l) else Breaks BadArgument) e)

  pub asked_with : (m : Map) (st : Step) → LeadsSo (leads.Calls n m) st → Answers pairs_of (Ok m) (fill_fields f.args v) → AsksWith n f v st
  asked_with m st so a =
      asked_by (Ok (pairs_of m)) st (gave pairs_of m (fill_fields f.args v) a)
      (λ ns s k l o body named. sym (asks_so ns s k l (leads.Calls n m) st so ∙ ap (λ b. asks_with s b (pairs_of m) k l) body ∙ ap (λ q. asks_by s f q (pairs_of m) k l) named))

  pub ask_fails : (r : Raise) (st : Step) → Answers pairs_of (Err r) (fill_fields f.args v) → Fails r st → AsksWith n f v st
  ask_fails OutOfMemory st a h = absurd h
  ask_fails (Error t) st a h =
      asked_by (Err t) st (failed pairs_of t (fill_fields f.args v) a) (λ ns s k l o body named. ap (raises s k l) (sym h.2) ∙ sym (asks_so ns s k l (leads.Raises h.0) st h.1))

on_of : (n : ℕ) (x : Leads) → CallsNone x → IsCallOn n x
on_of n (leads.Raises v) h = tt
on_of n (leads.Returns v) h = tt
on_of n (leads.Calls m args) h = absurd h
on_of n (leads.Forks m) h = tt

pub no_call_of : (n : ℕ) (st : Step) → IsNoCall st → IsOf n st
no_call_of n step.Goes h = tt
no_call_of n (step.Jumps m) h = tt
no_call_of n (step.Assigns m) h = tt
no_call_of n (step.Leads x) h = on_of n x.value h

on_wants : (ns : List Spot) (old : List Frame) (n : ℕ) (x : Leads) → IsCallOn n x → ((p : Program) → next_kind p (control ns old) ≡ body_kind p (part_body (part_at ns n))) → CallWants ns old x
on_wants ns old n (leads.Raises v) is h = tt
on_wants ns old n (leads.Returns v) is h = tt
on_wants ns old n (leads.Forks m) is h = tt
on_wants ns old n (leads.Calls m args) is h = λ p. h p ∙ ap (λ (i : ℕ). body_kind p (part_body (part_at ns i))) (sym is)

pub of_same : (ns : List Spot) (old : List Frame) (n : ℕ) (st : Step) → IsOf n st → ((p : Program) → next_kind p (control ns old) ≡ body_kind p (part_body (part_at ns n))) → WantsSame ns old st
of_same ns old n step.Goes is h = tt
of_same ns old n (step.Jumps m) is h = tt
of_same ns old n (step.Assigns m) is h = tt
of_same ns old n (step.Leads x) is h = on_wants ns old n x.value is h

-- ## Bodies
pub performs_asked : (ns : List Spot) (n : ℕ) (f : CallBody) (v : View) (old : List Frame) (st : Step) → part_body (part_at ns n) ≡ Body.Call f → AsksWith n f v st → PerformsCall ns (part_body (part_at ns n)) v old old st
performs_asked ns n f v old st e h s l same kind =
    subst (λ b. IsOrBreaks (issues_body s b (control ns old) l) (asks ns st s (control ns old) l)) (sym e) (h ns s (control ns old) l e same (sym (ap (body_kind s.program) e) ∙ kind))

pub plain_performs : (ns : List Spot) (nodes : List Node) (n : ℕ) (x : Node) (v : View) (old new : List Frame) (st : Step) → Resolves ns nodes → slice_get nodes n ≡ Some x → ((f : CallNode) → x.kind ≡ kind.Call f → ⊥)
    → PerformsCall ns (part_body (part_at ns n)) v old new st
plain_performs ns nodes n x v old new st r at other s l same kind =
    absurd (plain_asks_not ns x.codes.items.items x.name x.next x.kind s.program other (sym (ap (λ q. body_kind s.program (part_body q)) (part_is ns nodes n x r at)) ∙ kind))

-- ## Steps
pub asks_plainly : (ns : List Spot) (n : ℕ) (v : View) (old new : List Frame) (st : Step) → part_next (part_at ns n) ≡ None → PerformsCall ns (part_body (part_at ns n)) v old new st
    → CarriesCall ns (part_body (part_at ns n)) (part_next (part_at ns n)) v old new st
asks_plainly ns n v old new st e h s l same kind =
    subst (λ x. IsOrBreaks (issues_body s (part_body (part_at ns n)) (then_item x (control ns old)) l) (asks ns st s (control ns new) l)) (sym e) (h s l same kind)

pub asks_beside : (ns : List Spot) (n : ℕ) (v : View) (old mid new : List Frame) (x : Text) (st : Step) → part_next (part_at ns n) ≡ Some x → mid ≡ frame.Then n ∷ old → PerformsCall ns (part_body (part_at ns n)) v mid new st
    → CarriesCall ns (part_body (part_at ns n)) (part_next (part_at ns n)) v old new st
asks_beside ns n v old mid new x st e m h s l same kind =
    let k : control ns mid ≡ then_item (part_next (part_at ns n)) (control ns old) =
    ap (control ns) m ∙ ap (λ y. Then (unwrap_or y []) ∷ control ns old) e ∙ sym (ap (λ y. then_item y (control ns old)) e) in
    subst (λ (j : List Item). IsOrBreaks (issues_body s (part_body (part_at ns n)) j l) (asks ns st s (control ns new) l)) k (h s l same kind)

pub idle_carries : (ns : List Spot) (n : ℕ) (v : View) (old new : List Frame) (st : Step) → part_body (part_at ns n) ≡ Body.Nothing → CarriesCall ns (part_body (part_at ns n)) (part_next (part_at ns n)) v old new st
idle_carries ns n v old new st e s l same kind = absurd (cc (sym (ap (body_kind s.program) e) ∙ kind))

-- ## Frames
one_step : (s : Scene) (block left : Steps) (x : Text) (body : Body) (next : Option Text) (k : List Item) (l : Local) → issues s (Do block (more (step_so x body next) left) ∷ k) l ≡ issues_body s body (then_item next (Do block left ∷ k)) l
one_step s block left x Body.Nothing next k l = refl
one_step s block left x (Body.Assign es) next k l = refl
one_step s block left x (Body.Call f) next k l = refl
one_step s block left x (Body.Switch xs) next k l = refl
one_step s block left x (Body.For b) next k l = refl
one_step s block left x (Body.Parallel p) next k l = refl
one_step s block left x (Body.Block ss) next k l = refl
one_step s block left x (Body.Try t) next k l = refl
one_step s block left x (Body.Raise t) next k l = refl
one_step s block left x (Body.Return t) next k l = refl

module _ (ns : List Spot) (nodes : List Node) (n at m : ℕ) (b : Listed) (r : Resolves ns nodes) (h : list_at nodes n ≡ Some b) (lt : at < length b.steps) (e : get_or b.steps at 0 ≡ m) (rest : List Frame) where
  next_is : from at (part_list (part_at ns n)) ≡ more (part_step (part_at ns m)) (from (at + 1) (part_list (part_at ns n)))
  next_is =
      let list = list_is ns nodes n b r h in
      ap (from at) list ∙ from_next ns b.steps at lt ∙ ap (λ (i : ℕ). more (part_step (part_at ns i)) (from (suc at) (steps_by ns b.steps))) e
      ∙ ap (λ ss. more (part_step (part_at ns m)) (from (suc at) ss)) (sym list) ∙ ap (λ (i : ℕ). more (part_step (part_at ns m)) (from i (part_list (part_at ns n)))) (sym (add-one at))

  pub do_wants : (p : Program) → next_kind p (control ns (frame.Do n at ∷ rest)) ≡ body_kind p (part_body (part_at ns m))
  do_wants p = ap (λ ss. next_kind p (Do (part_list (part_at ns n)) ss ∷ control ns rest)) next_is

  pub do_issues : (v : View) (mid new : List Frame) (st : Step) → mid ≡ frame.Do n (at + 1) ∷ rest → CarriesCall ns (part_body (part_at ns m)) (part_next (part_at ns m)) v mid new st → Issues ns (frame.Do n at ∷ rest) v new st
  do_issues v mid new st is go s l same kind =
      subst (λ (ss : Steps). IsOrBreaks (issues s (Do (part_list (part_at ns n)) ss ∷ control ns rest) l) (asks ns st s (control ns new) l)) (sym next_is)
      (subst (λ (y : Moved). IsOrBreaks y (asks ns st s (control ns new) l)) (sym (one_step s (part_list (part_at ns n)) (from (at + 1) (part_list (part_at ns n))) (part_name (part_at ns m)) (part_body (part_at ns m)) (part_next (part_at ns m)) (control ns rest) l))
      (subst (λ fs. CarriesCall ns (part_body (part_at ns m)) (part_next (part_at ns m)) v fs new st) is go s l same (sym (do_wants s.program) ∙ kind)))

pub lone_issues : (ns : List Spot) (n : ℕ) (v : View) (rest mid new : List Frame) (st : Step) → mid ≡ frame.Lone n true ∷ rest → CarriesCall ns (part_body (part_at ns n)) (part_next (part_at ns n)) v mid new st → Issues ns (frame.Lone n false ∷ rest) v new st
lone_issues ns n v rest mid new st is go s l same kind =
    subst (λ (y : Moved). IsOrBreaks y (asks ns st s (control ns new) l)) (sym (one_step s no_steps no_steps [] (part_body (part_at ns n)) (part_next (part_at ns n)) (control ns rest) l))
    (subst (λ fs. CarriesCall ns (part_body (part_at ns n)) (part_next (part_at ns n)) v fs new st) is go s l same kind)

-- neither entries nor a `next` make a request
entries_ask_not : (p : Program) (es : List Entry) (k : List Item) → next_kind p (Entries es ∷ k) ≡ ByCall → ⊥
entries_ask_not p [] k e = cc e
entries_ask_not p (x ∷ es) k e = clock_asks_not _ e

pub entries_issue : (ns : List Spot) (n at : ℕ) (v : View) (rest new : List Frame) (st : Step) → Issues ns (frame.Entries n at ∷ rest) v new st
entries_issue ns n at v rest new st s l same kind = absurd (entries_ask_not s.program (drop at (body_entries (part_body (part_at ns n)))) (control ns rest) kind)

pub then_issues : (ns : List Spot) (n : ℕ) (v : View) (rest new : List Frame) (st : Step) → Issues ns (frame.Then n ∷ rest) v new st
then_issues ns n v rest new st s l same kind = absurd (cc kind)
