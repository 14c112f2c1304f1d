-- A task goes on in the one form where it goes on in the other.
use Rattle.std.proofs.Common.{◌≡◌, ℕ, ◌<◌, true, false, List, [], ◌∷◌, length, Option, Some, None, refl, sym, subst, arith}
use Rattle.std.specs.Prelude.{unwrap_or}
use Rattle.wf_frames.specs.Fits.{entries_at, list_at}
use Rattle.wf_frames.specs.Standing.{steps_of}
use Rattle.wf_frames.specs.declared.frames.Frame.{Frame}
use Rattle.wf_frames.specs.declared.frames.Frame.TheVariants as frame
use Rattle.wf_moves.specs.Going.{GoesOn, Going}
use Rattle.wf_moves.specs.Moved.{HasMove, IsGoing}
use Rattle.wf_frames.specs.Steps.{IsBefore, IsBeforeEntry}
use Rattle.wf_model.specs.NodeKinds.{Listed}
use Rattle.wf_model.specs.declared.node.Node.{Node}

module _ (nodes : List Node) where
  goes_on : (f : Frame) → HasMove nodes f → GoesOn nodes f
  goes_on (frame.Do n at) h = subst (λ o. at < length (steps_of o)) (sym h.1) h.2
  goes_on (frame.Lone n true) h = absurd h
  goes_on (frame.Lone n false) h = refl
  goes_on (frame.Entries n at) h = subst (λ (o : Option (List ℕ)). at < length (unwrap_or o [])) (sym h.1) h.2
  goes_on (frame.Then n) h = tt
  goes_on (frame.Loop looping) h = tt
  goes_on (frame.Try trying) h = absurd h
  goes_on (frame.Mark m) h = absurd h
  goes_on (frame.Back k m) h = tt
  goes_on (frame.Judge judging) h = tt

  before : (n at : ℕ) (o : Option Listed) → list_at nodes n ≡ o → at < length (steps_of o) → IsBefore nodes n at
  before n at None e w = absurd (omega (arith, w))
  before n at (Some b) e w = (b, e, w)

  before_entry : (n at : ℕ) (o : Option (List ℕ)) → entries_at nodes n ≡ o → at < length (unwrap_or o []) → IsBeforeEntry nodes n at
  before_entry n at None e w = absurd (omega (arith, w))
  before_entry n at (Some numbers) e w = (numbers, e, w)

  has_move : (f : Frame) → GoesOn nodes f → HasMove nodes f
  has_move (frame.Do n at) h = before n at (list_at nodes n) refl h
  has_move (frame.Lone n true) h = absurd (cc h)
  has_move (frame.Lone n false) h = tt
  has_move (frame.Entries n at) h = before_entry n at (entries_at nodes n) refl h
  has_move (frame.Then n) h = tt
  has_move (frame.Loop looping) h = tt
  has_move (frame.Try trying) h = absurd h
  has_move (frame.Mark m) h = absurd h
  has_move (frame.Back k m) h = tt
  has_move (frame.Judge judging) h = tt

  pub going : (fs : List Frame) → IsGoing nodes fs → Going nodes fs
  going [] h = absurd h
  going (f ∷ fs) h = goes_on f h

  pub is_going : (fs : List Frame) → Going nodes fs → IsGoing nodes fs
  is_going [] h = absurd h
  is_going (f ∷ fs) h = has_move f h
