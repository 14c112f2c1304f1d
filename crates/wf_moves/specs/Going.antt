-- That a task goes on, as a fact with at most one proof: what `IsGoing` says, with tests in place of the lists that are there.
--     Going          a move is made from the innermost frame
--     Going-prop     it has at most one proof
use Rattle.std.specs.Prelude.{◌≡◌, ◌<◌, false, List, [], ◌∷◌, length, unwrap_or}
use Rattle.std.specs.Coded.{Coded-set, coded_bool, le_prop, Unit-prop}
use Rattle.wf_frames.specs.Fits.{entries_at, list_at}
use Rattle.wf_frames.specs.Standing.{steps_of}
use Rattle.wf_frames.specs.declared.frames.Frame.{Frame}
use Rattle.wf_frames.specs.declared.frames.Frame.TheVariants as frame
use Rattle.wf_model.specs.declared.node.Node.{Node}

-- a frame from which a move is made
abbrev pub GoesOn : List Node → Frame → Type 0
GoesOn nodes (frame.Do n at) = at < length (steps_of (list_at nodes n))
GoesOn nodes (frame.Lone n done) = done ≡ false
GoesOn nodes (frame.Entries n at) = at < length (unwrap_or (entries_at nodes n) [])
GoesOn nodes (frame.Then n) = Unit {0}
GoesOn nodes (frame.Loop looping) = Unit {0}
GoesOn nodes (frame.Try trying) = ⊥
GoesOn nodes (frame.Mark number) = ⊥
GoesOn nodes (frame.Back call number) = Unit {0}
GoesOn nodes (frame.Judge judging) = Unit {0}

-- the innermost one is such a frame
abbrev pub Going : List Node → List Frame → Type 0
Going nodes [] = ⊥
Going nodes (f ∷ fs) = GoesOn nodes f

GoesOn-prop : (nodes : List Node) (f : Frame) → IsProp (GoesOn nodes f)
GoesOn-prop nodes (frame.Do n at) = le_prop
GoesOn-prop nodes (frame.Lone n done) = Coded-set coded_bool _ _
GoesOn-prop nodes (frame.Entries n at) = le_prop
GoesOn-prop nodes (frame.Then n) = Unit-prop
GoesOn-prop nodes (frame.Loop looping) = Unit-prop
GoesOn-prop nodes (frame.Try trying) = λ g h. absurd g
GoesOn-prop nodes (frame.Mark number) = λ g h. absurd g
GoesOn-prop nodes (frame.Back call number) = Unit-prop
GoesOn-prop nodes (frame.Judge judging) = Unit-prop

pub Going-prop : (nodes : List Node) (fs : List Frame) → IsProp (Going nodes fs)
Going-prop nodes [] = λ g h. absurd g
Going-prop nodes (f ∷ fs) = GoesOn-prop nodes f
