-- The move of a task, or its request.
use Rattle.std.proofs.Common.{◌≡◌, ◌∷◌, inl, inr, ℕ, Bool, true, false, List, [], refl, sym, ap, subst, ◌∙◌}
use Rattle.std.specs.Prelude.{Option}
use Rattle.wf_ast.specs.Apply.{View}
use Rattle.wf_ast.specs.Tree.{Body, CallBody, Flow}
use Rattle.wf_callbacks.specs.declared.method.Method.{Method}
use Rattle.wf_frames.specs.Frames.{control}
use Rattle.wf_frames.specs.Loops.{is_at_loop}
use Rattle.wf_frames.specs.Owned.{Around}
use Rattle.wf_frames.specs.declared.frames.Frame.{Frame}
use Rattle.wf_frames.specs.declared.frames.Frame.TheVariants as frame
use Rattle.wf_ast.specs.declared.functions.Function.{Function}
use Rattle.wf_model.specs.Config.{Item}
use Rattle.wf_model.specs.Kinds.{NextKind, Plainly, ByClock, ByCall, body_kind, by_clock, fields_now, next_kind}
use Rattle.wf_model.specs.Layers.{view}
use Rattle.wf_model.specs.Local.{Local, Moved, Scene}
use Rattle.wf_model.specs.Move.{issues, moves}
use Rattle.wf_moves.specs.Moved.{is_at_back}
use Rattle.wf_moves.specs.Stepped.{by_kind, leads, leads_to, leads_with, stepped_at}
use Rattle.wf_moves.proofs.Awaiting.{done_breaks}
use Rattle.wf_moves.specs.Tasks.{IsDone}
use Rattle.wf_moves.specs.declared.finish.Done.{Done}
use Rattle.wf_model.specs.Spots.{Spot, part_at, part_body}
use Rattle.wf_frames.proofs.Clocked.{flow_clock, function_clock, http_asks, log_clock, nap_reads}
use Rattle.wf_frames.specs.Built.{IsFunction, IsHttp, IsLog, IsNap, IsWorkflow}
use Rattle.wf_frames.specs.Steps.{CallWants, IsOrBreaks, Issues, Moves, WantsSame, asks, asks_to, asks_with, calls_by, come, come_to}
use Rattle.wf_frames.specs.declared.step.Leads.{Leads}
use Rattle.wf_frames.specs.declared.step.Leads.TheVariants as leading
use Rattle.wf_frames.specs.declared.step.Step.{Step}
use Rattle.wf_frames.specs.declared.target.Nap.{Nap}
use Rattle.wf_frames.specs.declared.step.Step.TheVariants as step
use Rattle.wf_value.specs.Data.{Pairs, pairs_of}

-- ## By the event
plainly : (b : Bool) (request move : Moved) → by_kind (by_clock b) request move ≡ move
plainly true request move = refl
plainly false request move = refl

-- ## What a call leads to
module _ (s : Scene) (fs : List Flow) (f : CallBody) (args : Pairs) (k : List Item) (l : Local) (same : s.program.flows ≡ fs) where
  leads_plainly : (b : Bool) → body_kind s.program (Body.Call f) ≡ by_clock b → leads_with s (Body.Call f) args k l ≡ calls_by s (Body.Call f) args k l
  leads_plainly b e = ap (λ q. by_kind q (asks_with s (Body.Call f) args k l) (calls_by s (Body.Call f) args k l)) e ∙ plainly b _ _

  pub flow_leads : (ns : List Spot) (n : ℕ) → IsWorkflow fs ns n f.name → leads_with s (Body.Call f) args k l ≡ calls_by s (Body.Call f) args k l
  flow_leads ns n h = leads_plainly (fields_now f.args) (flow_clock s.program.flows ns n f.name (fields_now f.args) (subst (λ gs. IsWorkflow gs ns n f.name) (sym same) h))

  pub function_leads : (g : Function) → IsFunction fs g f.name → leads_with s (Body.Call f) args k l ≡ calls_by s (Body.Call f) args k l
  function_leads g h = leads_plainly _ (function_clock s.program.flows g f.name (fields_now f.args) (subst (λ gs. IsFunction gs g f.name) (sym same) h))

  pub sleep_leads : (b : Nap) → IsNap fs b f.name → leads_with s (Body.Call f) args k l ≡ calls_by s (Body.Call f) args k l
  sleep_leads b h = leads_plainly true (nap_reads s.program.flows b f.name (fields_now f.args) (subst (λ gs. IsNap gs b f.name) (sym same) h))

  pub log_leads : IsLog fs f.name → leads_with s (Body.Call f) args k l ≡ calls_by s (Body.Call f) args k l
  log_leads h = leads_plainly (fields_now f.args) (log_clock s.program.flows f.name (fields_now f.args) (subst (λ gs. IsLog gs f.name) (sym same) h))

  pub http_leads : (m : Option Method) → IsHttp fs m f.name → leads_with s (Body.Call f) args k l ≡ asks_with s (Body.Call f) args k l
  http_leads m h =
      ap (λ q. by_kind q (asks_with s (Body.Call f) args k l) (calls_by s (Body.Call f) args k l)) (http_asks s.program.flows m f.name (fields_now f.args) (subst (λ gs. IsHttp gs m f.name) (sym same) h))

-- ## What is left of a step
module _ (a : Around) (old new : List Frame) (st : Step) (s : Scene) (l : Local) (wants : WantsSame a.spots old st) where
  -- of a move it leads on as it says
  leads_on : (q : NextKind) → (q ≡ ByCall → ⊥) → next_kind s.program (control a.spots old) ≡ q → leads a.spots st s (control a.spots new) l ≡ come a.spots st s (control a.spots new) l
  leads_on q other e = by st wants
    where
      by_call : (j : NextKind) → j ≡ q → (r m : Moved) → by_kind j r m ≡ m
      by_call Plainly h r m = refl
      by_call ByClock h r m = refl
      by_call ByCall h r m = absurd (other (sym h))

      on : (x : Leads) → CallWants a.spots old x → leads_to a.spots x s (control a.spots new) l ≡ come_to a.spots x s (control a.spots new) l
      on (leading.Raises v) w = refl
      on (leading.Returns v) w = refl
      on (leading.Forks n) w = refl
      on (leading.Calls n m) w = by_call (body_kind s.program (part_body (part_at a.spots n))) (sym (w s.program) ∙ e) _ _

      by : (x : Step) → WantsSame a.spots old x → leads a.spots x s (control a.spots new) l ≡ come a.spots x s (control a.spots new) l
      by step.Goes w = refl
      by (step.Jumps n) w = refl
      by (step.Assigns n) w = refl
      by (step.Leads x) w = on x.value w

  -- and of a request so
  leads_out : next_kind s.program (control a.spots old) ≡ ByCall → leads a.spots st s (control a.spots new) l ≡ asks a.spots st s (control a.spots new) l
  leads_out e = by st wants
    where
      on : (x : Leads) → CallWants a.spots old x → leads_to a.spots x s (control a.spots new) l ≡ asks_to a.spots x s (control a.spots new) l
      on (leading.Raises v) w = refl
      on (leading.Returns v) w = refl
      on (leading.Forks n) w = refl
      on (leading.Calls n m) w = ap (λ q. by_kind q (asks_with s (part_body (part_at a.spots n)) (pairs_of m) (control a.spots new) l) (calls_by s (part_body (part_at a.spots n)) (pairs_of m) (control a.spots new) l)) (sym (w s.program) ∙ e)

      by : (x : Step) → WantsSame a.spots old x → leads a.spots x s (control a.spots new) l ≡ asks a.spots x s (control a.spots new) l
      by step.Goes w = refl
      by (step.Jumps n) w = refl
      by (step.Assigns n) w = refl
      by (step.Leads x) w = on x.value w

  module _ (v : View) (d : Done) (m : Local) (moves_so : Moves a.spots old v new st) (issues_so : Issues a.spots old v new st) (seen : view s l ≡ v) (h : IsDone a s (leads a.spots st s (control a.spots new) l) d m) where
    broken : (x : Done) (y : Moved) → IsOrBreaks y (asks a.spots st s (control a.spots new) l) → (IsDone a s (asks a.spots st s (control a.spots new) l) x m) → IsDone a s y x m
    broken x y (inl e) g = subst (λ z. IsDone a s z x m) (sym e) g
    broken x y (inr b) g = subst (λ z. IsDone a s z x m) (sym b.1) (done_breaks a s b.0 x m)

    -- the frames' half of a step, and then the other half
    pub stepped_on : IsDone a s (stepped_at s (control a.spots old) l) d m
    stepped_on = by (next_kind s.program (control a.spots old)) refl
      where
        move : (q : NextKind) → (q ≡ ByCall → ⊥) → next_kind s.program (control a.spots old) ≡ q → IsDone a s (moves s (control a.spots old) l) d m
        move q other e = subst (λ z. IsDone a s z d m) (leads_on q other e ∙ sym (moves_so s l seen)) h

        by : (q : NextKind) → next_kind s.program (control a.spots old) ≡ q → IsDone a s (by_kind q (issues s (control a.spots old) l) (moves s (control a.spots old) l)) d m
        by Plainly e = move Plainly (λ q. cc q) e
        by ByClock e = move ByClock (λ q. cc q) e
        by ByCall e = broken d (issues s (control a.spots old) l) (issues_so s l seen e) (subst (λ z. IsDone a s z d m) (leads_out e) h)

-- ## Frames that make no request
pub back_stepped : (ns : List Spot) (s : Scene) (fs : List Frame) (l : Local) → is_at_back fs ≡ true → stepped_at s (control ns fs) l ≡ moves s (control ns fs) l
back_stepped ns s [] l h = absurd (cc h)
back_stepped ns s (frame.Back c k ∷ fs) l h = refl
back_stepped ns s (frame.Judge judging ∷ fs) l h = refl
back_stepped ns s (frame.Do n at ∷ fs) l h = absurd (cc h)
back_stepped ns s (frame.Lone n b ∷ fs) l h = absurd (cc h)
back_stepped ns s (frame.Entries n at ∷ fs) l h = absurd (cc h)
back_stepped ns s (frame.Then n ∷ fs) l h = absurd (cc h)
back_stepped ns s (frame.Loop looping ∷ fs) l h = absurd (cc h)
back_stepped ns s (frame.Try trying ∷ fs) l h = absurd (cc h)
back_stepped ns s (frame.Mark k ∷ fs) l h = absurd (cc h)

pub loop_stepped : (ns : List Spot) (s : Scene) (fs : List Frame) (l : Local) → is_at_loop fs ≡ true → stepped_at s (control ns fs) l ≡ moves s (control ns fs) l
loop_stepped ns s [] l h = absurd (cc h)
loop_stepped ns s (frame.Loop looping ∷ fs) l h = refl
loop_stepped ns s (frame.Do n at ∷ fs) l h = absurd (cc h)
loop_stepped ns s (frame.Lone n b ∷ fs) l h = absurd (cc h)
loop_stepped ns s (frame.Entries n at ∷ fs) l h = absurd (cc h)
loop_stepped ns s (frame.Then n ∷ fs) l h = absurd (cc h)
loop_stepped ns s (frame.Try trying ∷ fs) l h = absurd (cc h)
loop_stepped ns s (frame.Mark k ∷ fs) l h = absurd (cc h)
loop_stepped ns s (frame.Back c k ∷ fs) l h = absurd (cc h)
loop_stepped ns s (frame.Judge judging ∷ fs) l h = absurd (cc h)
