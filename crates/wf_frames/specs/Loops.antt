-- The turns of a loop.
--     is_at_loop       the innermost frame is a loop
--     Spent, Turning   a loop has nothing left, or goes on behind its next value
--     FrameTurns       so does the loop of a frame
--     TakesTurn        so does that of the innermost of some frames
use Rattle.std.specs.Prelude.{◌≡◌, ◌+◌, ◌<◌, Bool, true, false, List, ◌∷◌, Some, None, Box, Option}
use Rattle.std.specs.Global.{Global}
use Rattle.wf_frames.specs.Frames.{left_view}
use Rattle.wf_frames.specs.declared.frames.Frame.{Frame}
use Rattle.wf_frames.specs.declared.frames.Frame.TheVariants as frame
use Rattle.wf_frames.specs.declared.frames.Looping.{Looping}
use Rattle.wf_frames.specs.declared.turning.Turn.{Turn}
use Rattle.wf_model.specs.Config.{next_of}
use Rattle.wf_value.specs.Plain.{plain}

-- the task stands before a loop's turn
abbrev pub is_at_loop : List Frame → Bool
is_at_loop (frame.Loop looping ∷ fs) = true
is_at_loop fs = false

-- a loop has nothing left
pub record Spent (old new : Looping) : Type 0 where
  pub node : new.node ≡ old.node
  pub index : new.index ≡ old.index
  pub none : next_of (left_view old.left) ≡ None

-- or takes this turn, and goes on behind it
pub record Turning (t : Turn) (old new : Looping) : Type 0 where
  pub was_node : old.node ≡ t.node
  pub was_index : old.index ≡ t.index
  pub node : new.node ≡ t.node
  pub index : new.index ≡ t.index + 1
  pub next : next_of (left_view old.left) ≡ Some (plain t.value, left_view new.left)
  pub below : t.index < 9223372036854775808

abbrev pub TurnsSo : Option Turn → Looping → Looping → Type 0
TurnsSo None old new = Spent old new
TurnsSo (Some t) old new = Turning t old new

-- so does the loop of a frame
pub record FrameTurns (o : Option Turn) (old new : Frame) : Type 0 where
  pub before : Box Looping Global
  pub behind : Box Looping Global
  pub was : old ≡ frame.Loop before
  pub is : new ≡ frame.Loop behind
  pub turns : TurnsSo o before.value behind.value

-- and that of the innermost of some frames
pub record TakesTurn (o : Option Turn) (old new : List Frame) : Type 0 where
  pub before : Box Looping Global
  pub behind : Box Looping Global
  pub outside : List Frame
  pub was : old ≡ frame.Loop before ∷ outside
  pub is : new ≡ frame.Loop behind ∷ outside
  pub turns : TurnsSo o before.value behind.value
