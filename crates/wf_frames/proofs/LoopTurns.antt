-- The turns of a loop.
use Rattle.std.proofs.Common.{◌≡◌, ℕ, ◌+◌, ◌<◌, true, List, [], ◌∷◌, drop, length, get_or, Some, None, refl, sym, ap, ◌∙◌, arith, add-one}
use Rattle.std.specs.Prelude.{zero, suc}
use Rattle.wf_frames.specs.Frames.{mark_of}
use Rattle.wf_frames.specs.Loops.{is_at_loop}
use Rattle.wf_frames.specs.declared.frames.Frame.{Frame}
use Rattle.wf_frames.specs.declared.frames.Frame.TheVariants as frame
use Rattle.wf_model.specs.Config.{OfList, next_of}
use Rattle.wf_value.specs.Data.{Data}
use Rattle.wf_value.specs.Plain.{plain, plain_items}
use Rattle.wf_value.specs.declared.Value.{Value}

-- ## The next item of a list
item_next : (vs : List Value) (i : ℕ) (v : Value) → i < length vs → v ≡ get_or vs i v → next_of (OfList (drop i (plain_items vs))) ≡ Some (plain v, OfList (drop (suc i) (plain_items vs)))
item_next [] i v lt e = absurd (omega (arith, lt))
item_next (x ∷ vs) zero v lt e = ap (λ y. Some (plain y, OfList (plain_items vs))) (sym e)
item_next (x ∷ vs) (suc i) v lt e = item_next vs i v (omega (arith, lt)) e

pub next_is : (vs : List Value) (ds : List Data) (i : ℕ) (v w : Value) → plain_items vs ≡ ds → i < length vs → v ≡ get_or vs i v → w ≡ v → Some (plain w, OfList (drop (i + 1) ds)) ≡ next_of (OfList (drop i ds))
next_is vs ds i v w p lt e same =
    ap (λ y. Some (plain y, OfList (drop (i + 1) ds))) same ∙ ap (λ (j : ℕ). Some (plain v, OfList (drop j ds))) (add-one i) ∙ ap (λ xs. Some (plain v, OfList (drop (suc i) xs))) (sym p)
    ∙ sym (item_next vs i v lt e) ∙ ap (λ xs. next_of (OfList (drop i xs))) p

-- ## A loop ends no layer
pub loop_mark : (f : Frame) (fs gs : List Frame) → fs ≡ f ∷ gs → is_at_loop fs ≡ true → mark_of f ≡ None
loop_mark f fs gs e h = by f (sym (ap is_at_loop e) ∙ h)
  where
    by : (g : Frame) → is_at_loop (g ∷ gs) ≡ true → mark_of g ≡ None
    by (frame.Do n at) q = refl
    by (frame.Lone n b) q = refl
    by (frame.Entries n at) q = refl
    by (frame.Then n) q = refl
    by (frame.Loop looping) q = refl
    by (frame.Try trying) q = refl
    by (frame.Mark m) q = absurd (cc q)
    by (frame.Back c m) q = absurd (cc q)
    by (frame.Judge judging) q = absurd (cc q)
