-- The parts of a state that frames are.
--     part_of .. parts_of      with the places of their nodes, if they have places
--     HasParts                 the node of each frame is of the kind that it needs
--     PartsStand               what the parts stand for is what the frames do
use Rattle.std.specs.Prelude.{◌≡◌, ◌≤◌, ℕ, suc, ◌-◌, Bool, true, false, if◌then◌else◌, nat_eq, List, [], ◌∷◌, ◌++◌, length, option_map, option_and_then, Option, Some, None, unwrap_or}
use Rattle.wf_ast.specs.Tree.{Body, Entry, LoopBody, TryBody}
use Rattle.wf_frames.specs.Frames.{body_entries, control, left_view, result_of}
use Rattle.wf_frames.specs.declared.frames.Frame.{Frame}
use Rattle.wf_frames.specs.declared.frames.Frame.TheVariants as frame
use Rattle.wf_model.specs.Spots.{Spot, part_at, part_body, part_list, part_next}
use Rattle.wf_states.specs.Parts.{ItemPart, Do, Entries, Then, Loop, Try, Judge, Mark, Back}
use Rattle.wf_states.specs.Places.{Place, OfList, OfStep, OfLone, steps_count, control_at}
use Rattle.wf_value.specs.Plain.{plain}

-- ## Places of nodes
-- the number of the first place that passes the test
abbrev pub number_of : (Place → Bool) → List Place → Option ℕ
number_of test [] = None
number_of test (p ∷ ps) = if test p then Some 0 else option_map suc (number_of test ps)

-- the list that this node owns
abbrev pub is_list : ℕ → Place → Bool
is_list n (OfList m first) = nat_eq m n
is_list n p = false

-- the arm, or the call under a `try`, whose body is this node
abbrev pub is_lone : ℕ → Place → Bool
is_lone n (OfLone m) = nat_eq m n
is_lone n p = false

-- the same, or the step of this node
abbrev pub is_body : ℕ → Place → Bool
is_body n (OfStep m) = nat_eq m n
is_body n (OfLone m) = nat_eq m n
is_body n p = false

-- ## Parts
abbrev pub single : ItemPart → List ItemPart
single i = i ∷ []

-- of an arm's body, or of a call under a `try`
abbrev pub steps_left : Bool → ℕ
steps_left true = 0
steps_left false = 1

-- of one frame; what a predicate decides on has the predicate's call inside it
abbrev pub part_of : List Spot → List Place → Frame → Option (List ItemPart)
part_of ns ps (frame.Do n at) = option_map (λ p. single (Do p (steps_count (part_list (part_at ns n)) - at))) (number_of (is_list n) ps)
part_of ns ps (frame.Lone n done) = option_map (λ p. single (Do p (steps_left done))) (number_of (is_lone n) ps)
part_of ns ps (frame.Entries n at) = option_map (λ p. single (Entries p (length (body_entries (part_body (part_at ns n))) - at))) (number_of (is_body n) ps)
part_of ns ps (frame.Then n) = Some (single (Then (unwrap_or (part_next (part_at ns n)) [])))
part_of ns ps (frame.Loop looping) = option_map (λ p. single (Loop p (left_view looping.value.left) looping.value.index)) (number_of (is_body looping.value.node) ps)
part_of ns ps (frame.Try trying) = option_map (λ p. single (Try p trying.value.tries trying.value.delay)) (number_of (is_body trying.value.node) ps)
part_of ns ps (frame.Mark number) = Some (single Mark)
part_of ns ps (frame.Back call number) = Some (single (Back (result_of ns call)))
part_of ns ps (frame.Judge judging) = option_map (λ p. Back None ∷ Judge p judging.value.tries judging.value.delay (plain judging.value.error) ∷ []) (number_of (is_body judging.value.node) ps)

-- of all frames, innermost first
abbrev pub parts_of : List Spot → List Place → List Frame → Option (List ItemPart)
parts_of ns ps [] = Some []
parts_of ns ps (f ∷ fs) = option_and_then (λ is. option_map (λ others. is ++ others) (parts_of ns ps fs)) (part_of ns ps f)

-- ## Kinds
-- its node is of the kind that it needs, and it counts no further than its list
abbrev pub HasPart : List Spot → Frame → Type 0
HasPart ns (frame.Do n at) = at ≤ steps_count (part_list (part_at ns n))
HasPart ns (frame.Lone n done) = Unit {0}
HasPart ns (frame.Entries n at) = (es : List Entry) × (part_body (part_at ns n) ≡ Body.Assign es) × (at ≤ length es)
HasPart ns (frame.Then n) = Unit {0}
HasPart ns (frame.Loop looping) = (l : LoopBody) × (part_body (part_at ns looping.value.node) ≡ Body.For l)
HasPart ns (frame.Try trying) = (t : TryBody) × (part_body (part_at ns trying.value.node) ≡ Body.Try t)
HasPart ns (frame.Mark number) = Unit {0}
HasPart ns (frame.Back call number) = Unit {0}
HasPart ns (frame.Judge judging) = (t : TryBody) × (part_body (part_at ns judging.value.node) ≡ Body.Try t)

abbrev pub HasParts : List Spot → List Frame → Type 0
HasParts ns [] = Unit {0}
HasParts ns (f ∷ fs) = HasPart ns f × HasParts ns fs

-- ## The law
abbrev pub PartsStand : Type 0
PartsStand = (ns : List Spot) (ps : List Place) (fs : List Frame) (is : List ItemPart) → HasParts ns fs → parts_of ns ps fs ≡ Some is → control_at ns ps is ≡ Some (control ns fs)
