-- The innermost of a task's own layers, by its frames.
use Rattle.std.specs.Prelude.{ℕ, List, [], ◌∷◌}
use Rattle.wf_frames.specs.declared.frames.Frame.{Frame}
use Rattle.wf_frames.specs.declared.frames.Frame.TheVariants as frame

-- its number, where this is the number of the layer around them all
abbrev pub innermost : ℕ → List Frame → ℕ
innermost first [] = first
innermost first (frame.Mark number ∷ fs) = number
innermost first (frame.Back call number ∷ fs) = number
innermost first (frame.Judge judging ∷ fs) = judging.value.layer
innermost first (f ∷ fs) = innermost first fs
