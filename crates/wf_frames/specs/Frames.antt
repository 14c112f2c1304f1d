-- Frames, innermost first, and the items that they stand for.
--     items          the items of one frame, before those outside it
--     control        the items
--     owned          the task's own layers
use Rattle.std.specs.Prelude.{ℕ, ◌+◌, ◌<◌, Bool, true, false, cond, List, [], ◌∷◌, drop, reverse, Some, None, Option, unwrap_or}
use Rattle.wf_ast.specs.Tree.{Body, Entry, InList, LoopBody, Scalar, Steps, TryBody, loop, no_except, no_steps, try, unnamed}
use Rattle.wf_model.specs.Config.{Item, Do, Entries, Then, Loop, Try, Judge, Mark, Back, Left, OfList, OfRange}
use Rattle.wf_frames.specs.declared.frames.Frame.{Frame}
use Rattle.wf_frames.specs.declared.frames.Frame.TheVariants as frame
use Rattle.wf_frames.specs.declared.frames.Frames.{Frames}
use Rattle.wf_frames.specs.declared.frames.Left as declared
use Rattle.wf_frames.specs.declared.frames.Left.TheVariants as left
use Rattle.wf_frames.specs.Tasks.{Own}
use Rattle.wf_model.specs.Spots.{Spot, from, part_at, part_body, part_list, part_next}
use Rattle.wf_value.specs.Data.{null}
use Rattle.wf_value.specs.Pairs.{Text}
use Rattle.wf_value.specs.Plain.{plain}

-- ## As a list
abbrev pub inner : Frames → List Frame
inner fs = reverse fs.items.items

abbrev pub popped : Option Frame → List Frame → List Frame
popped None fs = fs
popped (Some f) fs = f ∷ fs

abbrev pub topped : List Frame → Option Frame
topped [] = None
topped (f ∷ fs) = Some f

-- ## Going on
-- the frame behind the step or the entry at which it stands, or behind its body
abbrev pub gone_on : Frame → Frame
gone_on (frame.Do n at) = frame.Do n (at + 1)
gone_on (frame.Lone n done) = frame.Lone n true
gone_on (frame.Entries n at) = frame.Entries n (at + 1)
gone_on f = f

-- the innermost one goes on
abbrev pub moved_on : List Frame → List Frame
moved_on [] = []
moved_on (f ∷ fs) = gone_on f ∷ fs

-- the place behind is a number that a frame can hold
abbrev pub HasRoom : Frame → Type 0
HasRoom (frame.Do n at) = at < 18446744073709551615
HasRoom (frame.Entries n at) = at < 18446744073709551615
HasRoom f = Unit {0}

abbrev pub HasRoomOnTop : List Frame → Type 0
HasRoomOnTop [] = Unit {0}
HasRoomOnTop (f ∷ fs) = HasRoom f

-- ## Items
abbrev pub left_view : declared.Left → Left
left_view left.Nothing = OfList []
left_view (left.Items vs at) = OfList (drop at vs)
left_view (left.Range a b) = OfRange a b

-- the entries of an assign
abbrev pub body_entries : Body → List Entry
body_entries (Body.Assign es) = es
body_entries body = []

-- the loop that a body is
abbrev pub body_loop : Body → LoopBody
body_loop (Body.For l) = l
body_loop body = loop [] None (InList (Scalar null)) no_steps

-- the `try` that a body is
abbrev pub body_try : Body → TryBody
body_try (Body.Try t) = t
body_try body = try Body.Nothing None no_except

-- the variable that takes what a call gives
abbrev pub body_result : Body → Option Text
body_result (Body.Call f) = f.result
body_result body = None

-- that of the call of a step, or none of a call that no step makes
abbrev pub result_of : List Spot → Option ℕ → Option Text
result_of ns None = None
result_of ns (Some n) = body_result (part_body (part_at ns n))

-- the step of a body that stands alone, if it isn't carried out yet
abbrev pub lone_steps : List Spot → ℕ → Bool → Steps
lone_steps ns n true = no_steps
lone_steps ns n false = unnamed (part_body (part_at ns n)) (part_next (part_at ns n))

-- a loop between two iterations
abbrev pub loop_item : List Spot → ℕ → declared.Left → ℕ → Item
loop_item ns n l i = Loop (body_loop (part_body (part_at ns n))) (left_view l) i

-- the innermost item of a frame
abbrev pub item : List Spot → Frame → Item
item ns (frame.Do n at) = Do (part_list (part_at ns n)) (from at (part_list (part_at ns n)))
item ns (frame.Lone n done) = Do no_steps (lone_steps ns n done)
item ns (frame.Entries n at) = Entries (drop at (body_entries (part_body (part_at ns n))))
item ns (frame.Then n) = Then (unwrap_or (part_next (part_at ns n)) [])
item ns (frame.Loop looping) = loop_item ns looping.value.node looping.value.left looping.value.index
item ns (frame.Try trying) = Try (body_try (part_body (part_at ns trying.value.node))) trying.value.tries trying.value.delay
item ns (frame.Mark number) = Mark
item ns (frame.Back call number) = Back (result_of ns call)
item ns (frame.Judge judging) = Back None

-- the items of a frame, before those outside it: a predicate's call stands inside what it decides
abbrev pub items : List Spot → Frame → List Item → List Item
items ns (frame.Judge judging) k = Back None ∷ Judge (body_try (part_body (part_at ns judging.value.node))) judging.value.tries judging.value.delay (plain judging.value.error) ∷ k
items ns f k = item ns f ∷ k

abbrev pub control : List Spot → List Frame → List Item
control ns [] = []
control ns (f ∷ fs) = items ns f (control ns fs)

-- ## Own layers
-- the number of the layer that ends with a frame
abbrev pub mark_of : Frame → Option ℕ
mark_of (frame.Mark number) = Some number
mark_of (frame.Back call number) = Some number
mark_of (frame.Judge judging) = Some judging.value.layer
mark_of f = None

-- whether a call ends with a frame
abbrev pub is_back : Frame → Bool
is_back (frame.Back call number) = true
is_back (frame.Judge judging) = true
is_back f = false

-- how many calls do
abbrev pub calls_of : List Frame → ℕ
calls_of [] = 0
calls_of (f ∷ fs) = cond (is_back f) 1 0 + calls_of fs

-- an own layer, which a call opened or not
abbrev pub own : ℕ → Bool → Own
own n b = record { number = n; by_call = b }

-- innermost first; one is around all frames
abbrev pub owned : ℕ → List Frame → List Own
owned first [] = own first false ∷ []
owned first (frame.Mark number ∷ fs) = own number false ∷ owned first fs
owned first (frame.Back call number ∷ fs) = own number true ∷ owned first fs
owned first (frame.Judge judging ∷ fs) = own judging.value.layer true ∷ owned first fs
owned first (f ∷ fs) = owned first fs
