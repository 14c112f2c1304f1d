-- What the innermost frame does next, by the table.
--     next_in            what a frame does next, if it hasn't ended
--     next_by            what the innermost one does
--     Foresees           what is kept beside frames is what the innermost one does next
--     Foresees-prop      that has at most one proof
use Rattle.std.specs.Prelude.{◌≡◌, ℕ, Bool, true, false, List, [], ◌∷◌, Some, None, Option, option_map, slice_get, unwrap_or}
use Rattle.std.proofs.Common.{refl}
use Rattle.std.specs.Coded.{Coded, Coded-set, code_by, coded×, coded_bool, coded_ℕ}
use Rattle.wf_frames.specs.Fits.{entries_at, list_at}
use Rattle.wf_frames.specs.Frames.{inner}
use Rattle.wf_frames.specs.Standing.{steps_of}
use Rattle.wf_frames.specs.declared.frames.Frame.{Frame}
use Rattle.wf_frames.specs.declared.frames.Frame.TheVariants as frame
use Rattle.wf_frames.specs.declared.frames.Frames.{Frames}
use Rattle.wf_frames.specs.declared.next.Next.{Next}
use Rattle.wf_frames.specs.declared.next.Next.TheVariants as next
use Rattle.wf_model.specs.declared.node.Node.{Node}

abbrev pub next_in : List Node → Frame → Option Next
next_in nodes (frame.Do n at) = option_map next.Body (slice_get (steps_of (list_at nodes n)) at)
next_in nodes (frame.Lone n true) = None
next_in nodes (frame.Lone n false) = Some (next.Body n)
next_in nodes (frame.Entries n at) = option_map next.Entry (slice_get (unwrap_or (entries_at nodes n) []) at)
next_in nodes (frame.Then n) = Some (next.Then n)
next_in nodes (frame.Loop looping) = Some next.Loop
next_in nodes (frame.Try trying) = None
next_in nodes (frame.Mark number) = None
next_in nodes (frame.Back call number) = Some next.Back
next_in nodes (frame.Judge judging) = Some next.Back

abbrev pub next_by : List Node → List Frame → Next
next_by nodes [] = next.Nothing
next_by nodes (f ∷ fs) = unwrap_or (next_in nodes f) next.Nothing

abbrev pub Foresees : List Node → Frames → Type 0
Foresees nodes fs = fs.next ≡ next_by nodes (inner fs)

-- ## It is one fact
abbrev split : Next → Bool × (Bool × (Bool × ℕ))
split next.Nothing = (false, (false, (false, 0)))
split next.Loop = (false, (false, (true, 0)))
split next.Back = (false, (true, (false, 0)))
split (next.Body n) = (true, (false, (false, n)))
split (next.Entry n) = (true, (false, (true, n)))
split (next.Then n) = (true, (true, (false, n)))

abbrev join : Bool × (Bool × (Bool × ℕ)) → Next
join (false, (false, (false, n))) = next.Nothing
join (false, (false, (true, n))) = next.Loop
join (false, (true, (b, n))) = next.Back
join (true, (false, (false, n))) = next.Body n
join (true, (false, (true, n))) = next.Entry n
join (true, (true, (b, n))) = next.Then n

join-split : (x : Next) → join (split x) ≡ x
join-split next.Nothing = refl
join-split next.Loop = refl
join-split next.Back = refl
join-split (next.Body n) = refl
join-split (next.Entry n) = refl
join-split (next.Then n) = refl

coded_next : Coded Next
coded_next = code_by (Bool × (Bool × (Bool × ℕ))) (coded× coded_bool (coded× coded_bool (coded× coded_bool coded_ℕ))) split join join-split

pub Foresees-prop : (nodes : List Node) (fs : Frames) → IsProp (Foresees nodes fs)
Foresees-prop nodes fs = Coded-set coded_next fs.next (next_by nodes (inner fs))
