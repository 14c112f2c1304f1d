-- What a move gives.
--     Settled     what has ended is left
--     IsMove      a move of the model, by what a call gives and leaves
use Rattle.std.specs.Prelude.{◌≡◌, ◌≤◌, ℕ, Bool, true, false, List, [], ◌∷◌, nat_eq, slice_get, if◌then◌else◌, Some, None, Option}
use Rattle.wf_frames.specs.Fits.{list_at}
use Rattle.wf_frames.specs.Foreseen.{Foresees}
use Rattle.wf_frames.specs.Frames.{control, inner, is_back, items}
use Rattle.wf_frames.specs.Held.{Held, standing}
use Rattle.wf_frames.specs.Owned.{Around, local_of}
use Rattle.wf_frames.specs.Sights.{Sees}
use Rattle.wf_frames.specs.Turns.{Agrees, left_by}
use Rattle.wf_frames.specs.declared.facts.Facts.{Facts}
use Rattle.wf_frames.specs.declared.frames.Frame.{Frame}
use Rattle.wf_frames.specs.declared.frames.Frame.TheVariants as frame
use Rattle.wf_frames.specs.declared.frames.Frames.{Frames}
use Rattle.wf_model.specs.Config.{Item}
use Rattle.wf_model.specs.Local.{Local, Moved, Scene, Goes, Ends, Breaks, Gives, Fails, settle}
use Rattle.wf_model.specs.Local as model
use Rattle.wf_model.specs.Leave.{returns}
use Rattle.wf_model.specs.Unwind.{Found, NotFound, Stands, AtEnd, to_step, unwind}
use Rattle.wf_frames.specs.Steps.{HasStep}
use Rattle.wf_moves.specs.declared.finish.End.{End}
use Rattle.wf_moves.specs.declared.finish.End.TheVariants as end
use Rattle.wf_moves.specs.declared.finish.Turned.{Turned}
use Rattle.wf_moves.specs.declared.finish.Turned.TheVariants as turned
use Rattle.wf_moves.specs.declared.finish.Went.{Went}
use Rattle.wf_moves.specs.declared.finish.Went.TheVariants as went
use Rattle.wf_model.specs.NodeKinds.{Listed}
use Rattle.wf_model.specs.Spots.{Spot}
use Rattle.wf_model.specs.declared.node.Jump.{Jump}
use Rattle.wf_model.specs.declared.node.Node.{Node}
use Rattle.wf_scope.specs.declared.scopes.Scopes.{Scopes}
use Rattle.wf_value.specs.Data.{Data, boolean, depth}
use Rattle.wf_value.specs.Errors.{error_map}
use Rattle.wf_value.specs.Pairs.{Text}
use Rattle.wf_value.specs.Plain.{plain}
use Rattle.wf_value.specs.declared.Tag.TheVariants.{TypeError}
use Rattle.wf_value.specs.declared.Value.{Value}
use Rattle.wf_value.specs.declared.Value.TheVariants as value

-- ## Frames that have ended
-- a frame that has ended is left by settling, and another one isn't
abbrev pub Settled : List Spot → Bool → Frame → Type 0
Settled ns true f = (k : List Item) (l : Local) → settle (items ns f k) l ≡ settle k (left_by f l)
Settled ns false f = (k : List Item) (l : Local) → settle (items ns f k) l ≡ record l { control = items ns f k }

-- a frame at which the way outward of a `break` or `continue` ends: a loop, or a call, in which there is none
abbrev pub is_loop : Frame → Bool
is_loop (frame.Loop looping) = true
is_loop (frame.Back call number) = true
is_loop (frame.Judge judging) = true
is_loop f = false

-- a frame from which a move is made
abbrev pub HasMove : List Node → Frame → Type 0
HasMove nodes (frame.Loop looping) = Unit {0}
HasMove nodes (frame.Back call number) = Unit {0}
HasMove nodes (frame.Judge judging) = Unit {0}
HasMove nodes f = HasStep nodes f

-- the innermost one is such a frame, if any frame is left
abbrev pub IsSettled : List Node → List Frame → Type 0
IsSettled nodes [] = Unit {0}
IsSettled nodes (f ∷ fs) = HasMove nodes f

-- and one is
abbrev pub IsGoing : List Node → List Frame → Type 0
IsGoing nodes [] = ⊥
IsGoing nodes (f ∷ fs) = HasMove nodes f

-- and what it does next is kept
abbrev pub GoesNext : List Node → Frames → Type 0
GoesNext nodes fs = IsGoing nodes (inner fs) × Foresees nodes fs

-- ## Moves
abbrev pub end_view : End → model.End
end_view (end.Value v) = Gives (plain v)
end_view (end.Error e) = Fails (plain e)

abbrev pub end_data : model.End → Data
end_data (Gives v) = v
end_data (Fails e) = e

-- the model's move is that the task goes on or waits so, where it isn't one that no accepted program makes
abbrev pub IsWent : Moved → Local → Type 0
IsWent (Breaks kind) l = Unit {0}
IsWent (Goes m) l = m ≡ l
IsWent m l = ⊥

-- or that it has ended: the layers outside count alone, and what it ends with nests within the limit
abbrev pub IsEnd : Moved → End → Local → Type 0
IsEnd (Breaks kind) f l = Unit {0}
IsEnd (Ends e m) f l = (e ≡ end_view f) × (depth (end_data e) ≤ 100) × (m.outer ≡ l.outer)
IsEnd m f l = ⊥

-- the model's move, by what a call gives and leaves. An error is still to go outward, and so is what a predicate returns, whatever control
-- the task has
abbrev pub IsTurned : Scene → Moved → Turned → Local → Type 0
IsTurned s (Breaks kind) t l = Unit {0}
IsTurned s (Ends e m) (turned.Ended f) l = (e ≡ end_view f) × (depth (end_data e) ≤ 100) × (m.outer ≡ l.outer)
IsTurned s m (turned.Raises e) l = (c : List Item) × (m ≡ unwind s l.control (record l { control = c }) (plain e))
IsTurned s m (turned.Says b) l = (c : List Item) × (m ≡ returns s (boolean b) l.control (record l { control = c }))
IsTurned s m t l = ⊥

-- and where it isn't one of these: the task goes on, or has ended behind its last step
abbrev pub IsMove : Scene → Moved → Went → Local → Type 0
IsMove s (Breaks kind) w l = Unit {0}
IsMove s m went.Goes l = IsWent m l
IsMove s m went.Ends l = IsEnd m (end.Value value.Null) l
IsMove s m (went.Turned x) l = IsTurned s m x.value l

-- which of the few a move gives, if it gives one
abbrev pub turned_in : Went → Option Turned
turned_in went.Goes = None
turned_in went.Ends = None
turned_in (went.Turned x) = Some x.value

-- nothing is still to go outward
abbrev pub IsThrough : Went → Type 0
IsThrough went.Goes = Unit {0}
IsThrough went.Ends = Unit {0}
IsThrough (went.Turned x) = ⊥

-- an error is raised, which nests at most 100 deep
pub record Raises (d : Data) (w : Went) : Type 0 where
  pub error : Value
  pub is : turned_in w ≡ Some (turned.Raises error)
  pub says : plain error ≡ d
  pub shallow : depth (plain error) ≤ 100

-- what a predicate returns: a truth value is its answer, and any other is a TypeError
abbrev pub SaysSo : Data → Went → Type 0
SaysSo (boolean b) w = turned_in w ≡ Some (turned.Says b)
SaysSo d w = Raises (error_map TypeError) w

-- whether the innermost frame is the call of a predicate
abbrev pub is_judge : Frame → Bool
is_judge (frame.Judge judging) = true
is_judge f = false

abbrev pub IsJudgeTop : List Frame → Type 0
IsJudgeTop [] = ⊥
IsJudgeTop (f ∷ fs) = is_judge f ≡ true

-- where the task goes on its innermost frame has something to do, which is kept, and where it has ended none is left; an error nests at most
-- 100 deep, and an answer is that of the predicate whose call is the innermost frame
abbrev pub IsTurnedLeft : Turned → List Frame → Type 0
IsTurnedLeft (turned.Ended e) fs = fs ≡ []
IsTurnedLeft (turned.Raises e) fs = depth (plain e) ≤ 100
IsTurnedLeft (turned.Says b) fs = IsJudgeTop fs

abbrev pub IsLeft : List Node → Went → Frames → Type 0
IsLeft nodes went.Goes fs = GoesNext nodes fs
IsLeft nodes went.Ends fs = inner fs ≡ []
IsLeft nodes (went.Turned x) fs = IsTurnedLeft x.value (inner fs)

-- ## Ways outward
-- where an innermost loop was looked for: there are these frames from it on, or there is none
abbrev pub loop_found : List Spot → List Frame → Local → Found
loop_found ns [] l = AtEnd
loop_found ns (frame.Back call number ∷ fs) l = NotFound
loop_found ns (frame.Judge judging ∷ fs) l = NotFound
loop_found ns (f ∷ fs) l = Stands (control ns (f ∷ fs)) l

-- the innermost frame is a loop or a call, if any frame is left
abbrev pub IsLoopTop : List Frame → Type 0
IsLoopTop [] = Unit {0}
IsLoopTop (f ∷ fs) = is_loop f ≡ true

-- the number of a frame whose list has so many around it, itself among them
abbrev pub if_at : ℕ → Option Listed → ℕ → Option ℕ
if_at n None keep = None
if_at n (Some b) keep = if nat_eq b.depth keep then Some n else None

abbrev pub target : List Node → ℕ → Frame → Option ℕ
target nodes keep (frame.Do n at) = if_at n (list_at nodes n) keep
target nodes keep f = None

-- a jump's list was looked for: this owner has it, and the task stands in it before whichever of its steps has the jump's number
abbrev pub FoundIn : List Spot → List Node → Text → Jump → Option ℕ → List Frame → Held → List Frame → Held → Type 0
FoundIn ns nodes x j None old h new g = ⊥
FoundIn ns nodes x j (Some o) old h new g =
    (b : Listed) × (list_at nodes o ≡ Some b) × ((i : ℕ) × (slice_get b.steps i ≡ Some j.to))
    × ((i : ℕ) → slice_get b.steps i ≡ Some j.to → (c : List Item) → to_step x (control ns old) (standing c h) ≡ Stands (control ns (frame.Do o i ∷ new)) (standing c g))

-- where the innermost call was looked for
abbrev pub back_found : List Spot → List Frame → Local → Found
back_found ns [] l = AtEnd
back_found ns (f ∷ fs) l = Stands (control ns (f ∷ fs)) l

-- the innermost frame is a call, if any frame is left
abbrev pub IsBackTop : List Frame → Type 0
IsBackTop [] = Unit {0}
IsBackTop (f ∷ fs) = is_back f ≡ true

-- the task stands at the end of a workflow that was called
abbrev pub is_at_back : List Frame → Bool
is_at_back [] = false
is_at_back (f ∷ fs) = is_back f

-- the call that ends with a frame, if a step made it
abbrev pub call_of : Frame → Option ℕ
call_of (frame.Back call number) = call
call_of f = None

-- ## What a call says of a move
-- it is this one of the task, whatever the scene that agrees on the limit, the rest and the workflows
abbrev pub MovesBy : Around → (Scene → Local → Moved) → Held → Went → Frames → Scopes → Type 0
MovesBy a m h w fs x = (s : Scene) (c : List Item) → Agrees s a → IsMove s (m s (standing c h)) w (local_of a fs x)

-- the same of a scene that has these facts
abbrev pub SeesBy : Around → Facts → (Scene → Local → Moved) → Held → Went → Frames → Scopes → Type 0
SeesBy a f m h w fs x = (s : Scene) (c : List Item) → Sees s f → Agrees s a → IsMove s (m s (standing c h)) w (local_of a fs x)
