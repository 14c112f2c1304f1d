-- Errors that go outward, and retries.
--     caught_at        where the nearest `try` was looked for
--     caught           a `try` takes an error, or another one goes on
--     decide_at ..     what a `try` does with an error, by the number of its node
--     IsLed            where a move leads
use Rattle.std.specs.Prelude.{◌≡◌, ◌≤◌, ℕ, Bool, true, false, List, [], ◌∷◌, slice_get, Some, None, Option, Box}
use Rattle.std.specs.Global.{Global}
use Rattle.wf_ast.specs.Flows.{flow}
use Rattle.wf_ast.specs.Tree.{TryBody}
use Rattle.wf_frames.specs.Fits.{IsTry, reach}
use Rattle.wf_frames.specs.Frames.{body_try, inner, topped}
use Rattle.wf_frames.specs.Held.{Held, standing}
use Rattle.wf_frames.specs.Owned.{Around, control_of, held_by, local_of}
use Rattle.wf_frames.specs.Turns.{Agrees}
use Rattle.wf_frames.specs.declared.frames.Frame.{Frame}
use Rattle.wf_frames.specs.declared.frames.Frame.TheVariants as frame
use Rattle.wf_frames.specs.declared.frames.Judging.{Judging}
use Rattle.wf_frames.specs.declared.frames.Trying.{Trying}
use Rattle.wf_frames.specs.declared.frames.Frames.{Frames}
use Rattle.wf_model.specs.Config.{Item, Judge}
use Rattle.wf_model.specs.Local.{Local, Moved, Scene, Ends, Fails, goes}
use Rattle.wf_model.specs.Unwind as model
use Rattle.wf_model.specs.Unwind.{Says, Asks, asks, decided, judged, policy_of, retried, unwind}
use Rattle.wf_moves.specs.Moved.{GoesNext, IsEnd, IsWent}
use Rattle.wf_moves.specs.Waits.{GoesFrom, is_free, waiting}
use Rattle.wf_moves.specs.declared.judging.Decided.{Decided}
use Rattle.wf_moves.specs.declared.judging.Decided.TheVariants as decision
use Rattle.wf_moves.specs.declared.judging.Verdict.{Verdict}
use Rattle.wf_moves.specs.declared.judging.Verdict.TheVariants as verdict
use Rattle.wf_moves.specs.declared.leading.Led.{Led}
use Rattle.wf_moves.specs.declared.leading.Led.TheVariants as led
use Rattle.wf_moves.specs.declared.unwind.Tried.{Tried}
use Rattle.wf_model.specs.Spots.{Spot, owners_at, part_at, part_body}
use Rattle.wf_model.specs.declared.node.ExceptNode.{ExceptNode}
use Rattle.wf_model.specs.declared.node.Node.{Node}
use Rattle.wf_model.specs.declared.node.TryNode.{TryNode}
use Rattle.wf_scope.specs.declared.scopes.Scopes.{Scopes}
use Rattle.wf_frames.specs.Built.{IsAsked, IsWorkflow}
use Rattle.wf_frames.specs.Steps.{IsOrBreaks}
use Rattle.wf_frames.specs.declared.target.Target.{Target}
use Rattle.wf_value.specs.Data.{Data, depth}
use Rattle.wf_value.specs.Pairs.{Text}
use Rattle.wf_value.specs.Plain.{plain}
use Rattle.wf_value.specs.declared.Value.{Value}

-- ## The nearest `try`
abbrev pub tried_by : Trying → Tried
tried_by x = record { node = x.node; tries = x.tries; delay = x.delay }

abbrev pub tried_of : Frame → Option Tried
tried_of (frame.Try trying) = Some (tried_by trying.value)
tried_of f = None

-- the `try` of a node
abbrev pub try_at : List Spot → ℕ → TryBody
try_at ns n = body_try (part_body (part_at ns n))

-- its node is a `try`, and stands where the frames stand
pub record TriedAt (ns : List Spot) (nodes : List Node) (t : Tried) (fs : List Frame) : Type 0 where
  pub node : TryNode
  pub is : IsTry nodes t.node node
  pub inside : owners_at ns t.node ≡ reach fs

-- what it does with an error: the policy decides
abbrev pub decide_at : List Spot → Tried → Scene → Data → List Item → Local → Moved
decide_at ns t s e k l = decided s e (judged (policy_of (try_at ns t.node)) t.tries e) (try_at ns t.node) t.tries t.delay k l (unwind s k l)

-- its body is to be tried again
abbrev pub retry_at : List Spot → Tried → Scene → List Item → Local → Moved
retry_at ns t s k l = retried s (try_at ns t.node) t.tries t.delay k l

-- the workflow that a judgement asks
abbrev pub asked_by : model.Judgement → Text
asked_by (Asks f) = f
asked_by (Says b) = []

abbrev pub asked_of : List Spot → Tried → Data → Text
asked_of ns t e = asked_by (judged (policy_of (try_at ns t.node)) t.tries e)

-- a workflow is asked
abbrev pub ask_at : List Spot → Tried → Scene → Data → List Item → Local → Moved
ask_at ns t s e k l = asks s e (flow s.program.flows (asked_of ns t e)) (Judge (try_at ns t.node) t.tries t.delay e ∷ k) l (unwind s k l)

-- where the nearest `try` was looked for: an error comes to it, or goes out of the task
abbrev pub caught_at : List Spot → Option Tried → Scene → Data → List Item → Local → Moved
caught_at ns None s e k l = Ends (Fails e) l
caught_at ns (Some t) s e k l = decide_at ns t s e k l

-- ## The steps that take an error
-- the node of this number is a `try`, and these steps take its errors
pub record Handler (nodes : List Node) (n : ℕ) : Type 0 where
  pub tried : TryNode
  pub except : ExceptNode
  pub is : IsTry nodes n tried
  pub has : tried.except ≡ Some except

-- the `try` takes the error, or another one goes on
abbrev pub caught : Option Value → Scene → List Item → Local → Moved
caught None s k l = goes k l
caught (Some e) s k l = unwind s k l (plain e)

-- ## What a policy says
abbrev pub verdict_said : Bool → Verdict
verdict_said true = verdict.Yes
verdict_said false = verdict.No

abbrev pub verdict_of : model.Judgement → Verdict
verdict_of (Says b) = verdict_said b
verdict_of (Asks f) = verdict.Asks

-- the policy asks a workflow about an error, and it stands at the number of the `try`
abbrev pub Asked : Around → List Target → Tried → Data → Type 0
Asked a targets t e = (f : Text) × (judged (policy_of (try_at a.spots t.node)) t.tries e ≡ Asks f) × IsAsked a.flows a.spots (slice_get targets t.node) f

-- the policy asks this workflow about an error
abbrev pub AsksFlow : Around → ℕ → Tried → Data → Type 0
AsksFlow a n t e = (f : Text) × (judged (policy_of (try_at a.spots t.node)) t.tries e ≡ Asks f) × IsWorkflow a.flows a.spots n f

-- ## Where a move leads
-- the model's move, by what a call gives and leaves
abbrev pub IsLed : Around → Moved → Led → Local → Type 0
IsLed a m led.Goes l = IsWent m l
IsLed a m (led.Ended e) l = IsEnd m e l
IsLed a m (led.Waits w) l = IsWent m (waiting a w l)

-- it is this one of the task, whatever the scene that has this last reading and agrees on the limit, the rest and the workflows
abbrev pub LeadsBy : Around → ℕ → (Scene → Local → Moved) → Held → Led → Frames → Scopes → Type 0
LeadsBy a last m h d fs x = (s : Scene) (c : List Item) → s.last ≡ last → Agrees s a → IsLed a (m s (standing c h)) d (local_of a fs x)

-- of a task that goes on or waits the frames can go on, and of one that has ended none is left
abbrev pub IsLedSo : List Node → Led → Frames → Type 0
IsLedSo nodes led.Goes fs = GoesNext nodes fs
IsLedSo nodes (led.Ended e) fs = inner fs ≡ []
IsLedSo nodes (led.Waits w) fs = (is_free w ≡ true) × GoesFrom nodes w fs

-- ## What became of an error
-- another error goes on from here, or the move leads so
abbrev pub IsDecided : Around → Scene → List Item → Moved → Decided → Frames → Scopes → Type 0
IsDecided a s c m (decision.Raises e) fs x = IsOrBreaks m (unwind s (control_of a fs) (standing c (held_by a fs x)) (plain e))
IsDecided a s c m (decision.Led d) fs x = IsLed a m d (local_of a fs x)

abbrev pub DecidesBy : Around → ℕ → (Scene → Local → Moved) → Held → Decided → Frames → Scopes → Type 0
DecidesBy a last m h d fs x = (s : Scene) (c : List Item) → s.last ≡ last → Agrees s a → IsDecided a s c (m s (standing c h)) d fs x

-- where another error goes on the frames are as they were
abbrev pub Rests : Decided → List Frame → List Frame → Type 0
Rests (decision.Raises e) old new = new ≡ old
Rests (decision.Led d) old new = Unit {0}

abbrev pub IsDecidedSo : List Node → Decided → Frames → Type 0
IsDecidedSo nodes (decision.Raises e) fs = depth (plain e) ≤ 100
IsDecidedSo nodes (decision.Led d) fs = IsLedSo nodes d fs

-- ## The question that a predicate is asked
abbrev pub asked_by_frame : Judging → Tried
asked_by_frame x = record { node = x.node; tries = x.tries; delay = x.delay }

-- the innermost frame is the call of the workflow that was asked on this `try` and this error
pub record IsAskedOn (fs : List Frame) (t : Tried) (error : Value) : Type 0 where
  pub held : Box Judging Global
  pub top : topped fs ≡ Some (frame.Judge held)
  pub tried : asked_by_frame held.value ≡ t
  pub error_is : held.value.error ≡ error
