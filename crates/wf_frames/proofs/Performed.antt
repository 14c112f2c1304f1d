-- What a body does to the frames.
use Rattle.std.proofs.Common.{◌≡◌, ℕ, ◌<◌, ◌≤◌, get_or, arith, false, List, [], ◌∷◌, length, drop, Ok, Err, Some, None, refl, sym, ap, ◌∙◌}
use Rattle.std.specs.Prelude.{Result, Option, IfOk, OnOk, is_some, slice_get, unwrap_or}
use Rattle.wf_model.specs.NodeKinds.{kind_by}
use Rattle.wf_model.specs.Shapes.{Compiled}
use Rattle.wf_model.specs.Table.{part_by}
use Rattle.wf_model.specs.declared.node.CallNode.{CallNode}
use Rattle.wf_model.specs.declared.node.ParallelNode.{ParallelNode}
use Rattle.wf_model.specs.declared.node.TryNode.{TryNode}
use Rattle.wf_model.specs.declared.shape.Shape.{Shape}
use Rattle.wf_model.specs.declared.node.NodeKind.{NodeKind}
use Rattle.wf_model.specs.declared.node.NodeKind.TheVariants as kind
use Rattle.wf_model.specs.declared.node.Block.{Block}
use Rattle.wf_model.specs.declared.node.LoopNode.{LoopNode}
use Rattle.std.specs.Prelude.{Box, Vec}
use Rattle.std.specs.declared.alloc.Global.{Global}
use Rattle.wf_ast.specs.Apply.{View}
use Rattle.wf_ast.specs.Tree.{Body, CallBody, Except, Over, Policy, Template, Steps, Arms, loop, try}
use Rattle.wf_eval.specs.Answers.{Answers}
use Rattle.wf_frames.proofs.Evaluated.{gave}
use Rattle.wf_frames.specs.Frames.{body_entries, body_loop, body_try, control, item, items, left_view}
use Rattle.wf_model.specs.Spots.{Spot, BodyAt, part_at, part_body, part_next, part_list, part_entry, entries_by, from}
use Rattle.wf_frames.specs.Fits.{has_next, view_at}
use Rattle.wf_model.specs.declared.node.Node.{Node}
use Rattle.wf_frames.proofs.Parts.{view_is}
use Rattle.wf_frames.specs.Built.{IsTableOf}
use Rattle.wf_frames.specs.Steps.{CallsWith, Performs, CarriesOut, ReturnsValue, RaisesValue, arm_in}
use Rattle.wf_frames.specs.declared.frames.Frame.{Frame}
use Rattle.wf_frames.specs.declared.frames.Frame.TheVariants as frame
use Rattle.wf_frames.specs.declared.frames.Left.{Left}
use Rattle.wf_frames.specs.declared.frames.Looping.{Looping}
use Rattle.wf_frames.specs.declared.frames.Trying.{Trying}
use Rattle.wf_frames.specs.declared.step.Step.{Step}
use Rattle.wf_frames.specs.declared.step.Step.TheVariants as step
use Rattle.wf_model.specs.Config.{Item, Do, Entries, Loop, Then, Try}
use Rattle.wf_model.specs.Layers.{view}
use Rattle.wf_model.specs.Leave.{on, jumps}
use Rattle.wf_model.specs.Local.{Local, Scene, goes}
use Rattle.wf_model.specs.Move.{assigns, entered, over, performs, steps_on, chosen, in_arm, arm_items, lone}
use Rattle.wf_value.specs.Pairs.{Text}

-- ## Switches
module _ (ns : List Spot) (v : View) (arms : Arms) (old : List Frame) where
  chose : (o : Option ℕ) → Answers (arm_in ns) (Ok o) (chosen v arms) → (s : Scene) (l : Local) → view s l ≡ v → performs s (Body.Switch arms) (control ns old) l ≡ goes (in_arm (arm_in ns o) (control ns old)) l
  chose o a s l same =
      ap (λ w. on s (control ns old) l (chosen w arms) (λ x. goes (in_arm x (control ns old)) l)) same ∙ ap (λ q. on s (control ns old) l q (λ x. goes (in_arm x (control ns old)) l)) (gave (arm_in ns) o (chosen v arms) a)

  pub none_chosen : Answers (arm_in ns) (Ok None) (chosen v arms) → Performs ns (Body.Switch arms) v old old step.Goes
  none_chosen a s l same = chose None a s l same

  -- with nothing to do in it
  pub empty_chosen : (n : ℕ) → Answers (arm_in ns) (Ok (Some n)) (chosen v arms) → part_body (part_at ns n) ≡ Body.Nothing → part_next (part_at ns n) ≡ None → Performs ns (Body.Switch arms) v old old step.Goes
  empty_chosen n a b x s l same =
      chose (Some n) a s l same ∙ ap (λ y. goes (arm_items y (part_next (part_at ns n)) (control ns old)) l) b ∙ ap (λ y. goes (arm_items Body.Nothing y (control ns old)) l) x

  put : (body : Body) (next : Option Text) → (body ≡ Body.Nothing → next ≡ None → ⊥) → (k : List Item) → arm_items body next k ≡ lone body next ∷ k
  put Body.Nothing None h k = absurd (h refl refl)
  put Body.Nothing (Some x) h k = refl
  put (Body.Assign es) next h k = refl
  put (Body.Call f) next h k = refl
  put (Body.Switch xs) next h k = refl
  put (Body.For l) next h k = refl
  put (Body.Parallel p) next h k = refl
  put (Body.Block ss) next h k = refl
  put (Body.Try t) next h k = refl
  put (Body.Raise t) next h k = refl
  put (Body.Return t) next h k = refl

  pub body_chosen : (n : ℕ) (new : List Frame) → Answers (arm_in ns) (Ok (Some n)) (chosen v arms) → (part_body (part_at ns n) ≡ Body.Nothing → part_next (part_at ns n) ≡ None → ⊥) → new ≡ frame.Lone n false ∷ old
      → Performs ns (Body.Switch arms) v old new step.Goes
  body_chosen n new a h e s l same =
      chose (Some n) a s l same ∙ ap (λ k. goes k l) (put (part_body (part_at ns n)) (part_next (part_at ns n)) h (control ns old)) ∙ ap (λ fs. goes (control ns fs) l) (sym e)

-- ## Blocks and assigns
pub block_put : (ns : List Spot) (v : View) (old new : List Frame) (n : ℕ) (x : Text) (ss : Steps) (next : Option Text) → part_at ns n ≡ BodyAt x (Body.Block ss) next → new ≡ frame.Do n 0 ∷ old
    → Performs ns (part_body (part_at ns n)) v old new step.Goes
block_put ns v old new n x ss next is e s l same =
    ap (λ p. performs s (part_body p) (control ns old) l) is
    ∙ ap (λ p. goes (Do (part_list p) (from 0 (part_list p)) ∷ control ns old) l) (sym is)
    ∙ ap (λ fs. goes (control ns fs) l) (sym e)

pub nothing_done : (ns : List Spot) (v : View) (old : List Frame) (n : ℕ) → part_body (part_at ns n) ≡ Body.Nothing → Performs ns (part_body (part_at ns n)) v old old step.Goes
nothing_done ns v old n is s l same = ap (λ b. performs s b (control ns old) l) is

pub none_assigned : (ns : List Spot) (v : View) (old : List Frame) (n : ℕ) → part_body (part_at ns n) ≡ Body.Assign [] → Performs ns (part_body (part_at ns n)) v old old step.Goes
none_assigned ns v old n is s l same = ap (λ b. performs s b (control ns old) l) is

pub first_assigned : (ns : List Spot) (v : View) (old new : List Frame) (n m : ℕ) (rest : List ℕ) → part_body (part_at ns n) ≡ Body.Assign (entries_by ns (m ∷ rest)) → new ≡ frame.Entries n 1 ∷ old
    → Performs ns (part_body (part_at ns n)) v old new (step.Assigns m)
first_assigned ns v old new n m rest is e s l same =
    ap (λ b. performs s b (control ns old) l) is
    ∙ ap (λ b. assigns s (part_entry (part_at ns m)) (Entries (drop 1 (body_entries b)) ∷ control ns old) l) (sym is)
    ∙ ap (λ fs. assigns s (part_entry (part_at ns m)) (control ns fs) l) (sym e)

-- ## Steps
pub plainly : (s : Scene) (body : Body) (k : List Item) (l : Local) → steps_on s body None k l ≡ performs s body k l
plainly s Body.Nothing k l = refl
plainly s (Body.Assign es) k l = refl
plainly s (Body.Call f) k l = refl
plainly s (Body.Switch xs) k l = refl
plainly s (Body.For b) k l = refl
plainly s (Body.Parallel p) k l = refl
plainly s (Body.Block ss) k l = refl
plainly s (Body.Try t) k l = refl
plainly s (Body.Raise t) k l = refl
plainly s (Body.Return t) k l = refl

beside : (s : Scene) (body : Body) (x : Text) (k : List Item) (l : Local) → (body ≡ Body.Nothing → ⊥) → steps_on s body (Some x) k l ≡ performs s body (Then x ∷ k) l
beside s Body.Nothing x k l h = absurd (h refl)
beside s (Body.Assign es) x k l h = refl
beside s (Body.Call f) x k l h = refl
beside s (Body.Switch xs) x k l h = refl
beside s (Body.For b) x k l h = refl
beside s (Body.Parallel p) x k l h = refl
beside s (Body.Block ss) x k l h = refl
beside s (Body.Try t) x k l h = refl
beside s (Body.Raise t) x k l h = refl
beside s (Body.Return t) x k l h = refl

-- ## By a node
pub none_left : {A : Type 0} (xs : List A) → length xs < 1 → xs ≡ []
none_left [] h = refl
none_left (x ∷ xs) h = absurd (omega (arith, h))

pub one_left : (xs : List ℕ) → 1 ≤ length xs → xs ≡ get_or xs 0 0 ∷ drop 1 xs
one_left [] h = absurd (omega (arith, h))
one_left (x ∷ xs) h = refl

pub with_both : {A E C : Type 0} (P Q : A → Type 0) (r : Result A E) → ((a : A) → P a → C → Q a) → IfOk r P → OnOk r C → IfOk r Q
with_both P Q (Ok a) f p x = f a p x
with_both P Q (Err e) f p x = p

pub performs_return : (ns : List Spot) (n : ℕ) (t : Template) (v : View) (old : List Frame) (st : Step) → part_body (part_at ns n) ≡ Body.Return t → ReturnsValue t v st → Performs ns (part_body (part_at ns n)) v old old st
performs_return ns n t v old st e h s l same = ap (λ b. performs s b (control ns old) l) e ∙ h ns s (control ns old) l same

pub performs_raise : (ns : List Spot) (n : ℕ) (t : Template) (v : View) (old : List Frame) (st : Step) → part_body (part_at ns n) ≡ Body.Raise t → RaisesValue t v st → Performs ns (part_body (part_at ns n)) v old old st
performs_raise ns n t v old st e h s l same = ap (λ b. performs s b (control ns old) l) e ∙ h ns s (control ns old) l same

pub performs_call : (ns : List Spot) (n : ℕ) (f : CallBody) (v : View) (old : List Frame) (st : Step) → part_body (part_at ns n) ≡ Body.Call f → CallsWith n f v st → Performs ns (part_body (part_at ns n)) v old old st
performs_call ns n f v old st e h s l same = ap (λ b. performs s b (control ns old) l) e ∙ h ns s (control ns old) l e same

-- a loop begins
pub loop_begun : (ns : List Spot) (n : ℕ) (held : Box Looping Global) (left : Left) (o : Over) (value : Text) (index : Option Text) (ss : Steps) (v : View) (old new : List Frame) → part_body (part_at ns n) ≡ Body.For (loop value index o ss)
    → Answers left_view (Ok left) (over v o) → held.value ≡ record { node = n; left = left; index = 0 } → new ≡ frame.Loop held ∷ old → Performs ns (part_body (part_at ns n)) v old new step.Goes
loop_begun ns n held left o value index ss v old new is a holds e s l same =
    ap (λ b. performs s b (control ns old) l) is
    ∙ ap (λ w. on s (control ns old) l (over w o) (λ x. goes (Loop (loop value index o ss) x 0 ∷ control ns old) l)) same
    ∙ ap (λ q. on s (control ns old) l q (λ x. goes (Loop (loop value index o ss) x 0 ∷ control ns old) l)) (gave left_view left (over v o) a)
    ∙ ap (λ b. goes (Loop (body_loop b) (left_view left) 0 ∷ control ns old) l) (sym is)
    ∙ ap (λ (y : Looping). goes (Loop (body_loop (part_body (part_at ns y.node))) (left_view y.left) y.index ∷ control ns old) l) (sym holds)
    ∙ ap (λ fs. goes (control ns fs) l) (sym e)

-- the body of a `try` stands inside it
pub tried_performs : (ns : List Spot) (n body : ℕ) (held : Box Trying Global) (p : Option Policy) (x : Except) (f : Frame) (v : View) (old mid new : List Frame) → part_body (part_at ns n) ≡ Body.Try (try (part_body (part_at ns body)) p x)
    → ((k : List Item) → items ns f k ≡ entered (part_body (part_at ns body)) ∷ k) → held.value ≡ record { node = n; tries = 0; delay = None } → mid ≡ frame.Try held ∷ old → new ≡ f ∷ mid → Performs ns (part_body (part_at ns n)) v old new step.Goes
tried_performs ns n body held p x f v old mid new is i holds m e s l same =
    ap (λ b. performs s b (control ns old) l) is
    ∙ ap (λ b. goes (entered (part_body (part_at ns body)) ∷ Try (body_try b) 0 None ∷ control ns old) l) (sym is)
    ∙ ap (λ (y : Trying). goes (entered (part_body (part_at ns body)) ∷ Try (body_try (part_body (part_at ns y.node))) y.tries y.delay ∷ control ns old) l) (sym holds)
    ∙ ap (λ fs. goes (entered (part_body (part_at ns body)) ∷ control ns fs) l) (sym m)
    ∙ ap (λ (k : List Item). goes k l) (sym (i (control ns mid)))
    ∙ ap (λ fs. goes (control ns fs) l) (sym e)

-- the body of a `try` as a frame
pub block_entered : (ns : List Spot) (n : ℕ) (x : Text) (ss : Steps) (next : Option Text) → part_at ns n ≡ BodyAt x (Body.Block ss) next → item ns (frame.Do n 0) ≡ entered (part_body (part_at ns n))
block_entered ns n x ss next is = ap (λ p. Do (part_list p) (from 0 (part_list p))) is ∙ sym (ap (λ p. entered (part_body p)) is)

-- it says nothing of what is next
pub no_next : (ns : List Spot) (nodes : List Node) (n : ℕ) (x : Node) → IsTableOf ns nodes → slice_get nodes n ≡ Some x → has_next (view_at nodes n) ≡ false → part_next (part_at ns n) ≡ None
no_next ns nodes n x t at h = t.nexts n x at ∙ by x.next (sym (ap has_next (view_is nodes n x at)) ∙ h)
  where
    by : (o : Option Text) → is_some o ≡ false → o ≡ None
    by None q = refl
    by (Some y) q = absurd (cc q)

pub lone_entered : (ns : List Spot) (n : ℕ) → part_next (part_at ns n) ≡ None → ((ss : Steps) → part_body (part_at ns n) ≡ Body.Block ss → ⊥) → item ns (frame.Lone n false) ≡ entered (part_body (part_at ns n))
lone_entered ns n e other = ap (λ x. lone (part_body (part_at ns n)) x) e ∙ by (part_body (part_at ns n)) other
  where
    by : (b : Body) → ((ss : Steps) → b ≡ Body.Block ss → ⊥) → lone b None ≡ entered b
    by Body.Nothing h = refl
    by (Body.Assign es) h = refl
    by (Body.Call f) h = refl
    by (Body.Switch xs) h = refl
    by (Body.For b) h = refl
    by (Body.Parallel p) h = refl
    by (Body.Block ss) h = absurd (h ss refl)
    by (Body.Try t) h = refl
    by (Body.Raise t) h = refl
    by (Body.Return t) h = refl

pub no_block : (ns : List Spot) (cs : Compiled) (x : Text) (next : Option Text) (k : NodeKind) → ((b : Block) → k ≡ kind.Block b → ⊥) → (ss : Steps) → part_body (part_by ns x next (kind_by cs k)) ≡ Body.Block ss → ⊥
no_block ns cs x next (kind.Block b) h ss e = h b refl
no_block ns cs x next (kind.Assign v) h ss e = cc e
no_block ns cs x next (kind.Switch v) h ss e = cc e
no_block ns cs x next (kind.For v) h ss e = cc e
no_block ns cs x next (kind.Raise v) h ss e = cc e
no_block ns cs x next (kind.Return v) h ss e = cc e
no_block ns cs x next (kind.Call v) h ss e = cc e
no_block ns cs x next (kind.Parallel v) h ss e = cc e
no_block ns cs x next (kind.Try v) h ss e = cc e
no_block ns cs x next kind.Nothing h ss e = cc e
no_block ns cs x next (kind.Flow v) h ss e = cc e
no_block ns cs x next (kind.Arm v) h ss e = cc e
no_block ns cs x next (kind.Entry v) h ss e = cc e
no_block ns cs x next (kind.Branch v) h ss e = cc e

pub carries_plainly : (ns : List Spot) (n : ℕ) (v : View) (old new : List Frame) (st : Step) → part_next (part_at ns n) ≡ None → Performs ns (part_body (part_at ns n)) v old new st
    → CarriesOut ns (part_body (part_at ns n)) (part_next (part_at ns n)) v old new st
carries_plainly ns n v old new st e h s l same =
    ap (λ x. steps_on s (part_body (part_at ns n)) x (control ns old) l) e ∙ plainly s (part_body (part_at ns n)) (control ns old) l ∙ h s l same

pub carries_jump : (ns : List Spot) (n : ℕ) (v : View) (old : List Frame) (x : Text) → part_next (part_at ns n) ≡ Some x → part_body (part_at ns n) ≡ Body.Nothing
    → CarriesOut ns (part_body (part_at ns n)) (part_next (part_at ns n)) v old old (step.Jumps n)
carries_jump ns n v old x e b s l same =
    ap (λ y. steps_on s y (part_next (part_at ns n)) (control ns old) l) b ∙ ap (λ y. steps_on s Body.Nothing y (control ns old) l) e
    ∙ ap (λ y. jumps s (unwrap_or y []) (control ns old) l) (sym e)

pub carries_beside : (ns : List Spot) (n : ℕ) (v : View) (old mid new : List Frame) (x : Text) (st : Step) → part_next (part_at ns n) ≡ Some x → (part_body (part_at ns n) ≡ Body.Nothing → ⊥) → mid ≡ frame.Then n ∷ old
    → Performs ns (part_body (part_at ns n)) v mid new st → CarriesOut ns (part_body (part_at ns n)) (part_next (part_at ns n)) v old new st
carries_beside ns n v old mid new x st e b m h s l same =
    ap (λ y. steps_on s (part_body (part_at ns n)) y (control ns old) l) e ∙ beside s (part_body (part_at ns n)) x (control ns old) l b
    ∙ ap (λ y. performs s (part_body (part_at ns n)) (Then (unwrap_or y []) ∷ control ns old) l) (sym e)
    ∙ ap (λ fs. performs s (part_body (part_at ns n)) (control ns fs) l) (sym m) ∙ h s l same

pub default_body : (ns : List Spot) (cs : Compiled) (x : Text) (next : Option Text) (k : NodeKind) → ((v : Vec ℕ Global) → k ≡ kind.Assign v → ⊥) → ((v : Vec ℕ Global) → k ≡ kind.Switch v → ⊥) → ((l : LoopNode) → k ≡ kind.For l → ⊥)
    → ((b : Block) → k ≡ kind.Block b → ⊥) → ((t : Shape) → k ≡ kind.Raise t → ⊥) → ((t : Shape) → k ≡ kind.Return t → ⊥) → ((f : CallNode) → k ≡ kind.Call f → ⊥) → ((p : ParallelNode) → k ≡ kind.Parallel p → ⊥)
    → ((t : TryNode) → k ≡ kind.Try t → ⊥) → part_body (part_by ns x next (kind_by cs k)) ≡ Body.Nothing
default_body ns cs x next (kind.Assign v) a s f b r t c p y = absurd (a v refl)
default_body ns cs x next (kind.Switch v) a s f b r t c p y = absurd (s v refl)
default_body ns cs x next (kind.For v) a s f b r t c p y = absurd (f v refl)
default_body ns cs x next (kind.Block v) a s f b r t c p y = absurd (b v refl)
default_body ns cs x next (kind.Raise v) a s f b r t c p y = absurd (r v refl)
default_body ns cs x next (kind.Return v) a s f b r t c p y = absurd (t v refl)
default_body ns cs x next (kind.Call v) a s f b r t c p y = absurd (c v refl)
default_body ns cs x next (kind.Parallel v) a s f b r t c p y = absurd (p v refl)
default_body ns cs x next (kind.Try v) a s f b r t c p y = absurd (y v refl)
default_body ns cs x next kind.Nothing a s f b r t c p y = refl
default_body ns cs x next (kind.Flow v) a s f b r t c p y = refl
default_body ns cs x next (kind.Arm v) a s f b r t c p y = refl
default_body ns cs x next (kind.Entry v) a s f b r t c p y = refl
default_body ns cs x next (kind.Branch v) a s f b r t c p y = refl

-- the body that a loop's node is
abbrev pub loop_body : List Spot → Compiled → LoopNode → Body
loop_body ns cs b = part_body (part_by ns [] None (kind_by cs (kind.For b)))
