-- Returns.
use Rattle.std.proofs.Common.{◌≡◌, ◌≤◌, Bool, true, false, List, [], ◌∷◌, Some, None, refl, sym, ap, subst, ◌∙◌}
use Rattle.std.specs.Prelude.{Option}
use Rattle.wf_frames.specs.Fits.{Fits, HasNode, IsCallOf}
use Rattle.wf_frames.specs.Frames.{control, inner, is_back, items, result_of, topped}
use Rattle.wf_frames.specs.Held.{Held, standing}
use Rattle.wf_frames.specs.Turns.{Leaves, dropped, left_by}
use Rattle.wf_frames.specs.declared.frames.Frame.{Frame}
use Rattle.wf_frames.specs.declared.frames.Frame.TheVariants as frame
use Rattle.wf_frames.specs.declared.frames.Frames.{Frames}
use Rattle.wf_model.specs.Config.{Item}
use Rattle.wf_model.specs.Leave.{given_to, gives, returned, returns, returns_in}
use Rattle.wf_model.specs.Local.{Branch, Gives, Iteration, Local, Main, Root, Scene, leave}
use Rattle.wf_model.specs.Move.{moves}
use Rattle.wf_model.specs.Unwind.{to_back}
use Rattle.wf_moves.proofs.Leaving.{same_outside, stands_on}
use Rattle.wf_moves.proofs.Raised.{raised, raised_left, said_so, turned_left, turned_move}
use Rattle.wf_moves.specs.Moved.{IsBackTop, IsJudgeTop, IsLeft, IsMove, IsTurned, SaysSo, back_found, call_of, is_at_back, is_judge}
use Rattle.wf_moves.specs.declared.finish.End.TheVariants as end
use Rattle.wf_moves.specs.declared.finish.Went.{Went}
use Rattle.wf_moves.specs.declared.finish.Turned.TheVariants as turned
use Rattle.wf_model.specs.Spots.{Spot}
use Rattle.wf_model.specs.declared.node.Node.{Node}
use Rattle.wf_value.specs.Data.{Data, boolean, bytes, depth, integer, list, map, null, text}
use Rattle.wf_value.specs.Errors.{error_map}
use Rattle.wf_value.specs.Pairs.{Text}
use Rattle.wf_value.specs.Plain.{plain}
use Rattle.wf_value.specs.declared.Tag.TheVariants.{TypeError}
use Rattle.wf_value.specs.declared.Value.{Value}

-- ## To the innermost call
back_one : (ns : List Spot) (f : Frame) (k : List Item) (l : Local) → is_back f ≡ false → to_back (items ns f k) l ≡ to_back k (left_by f l)
back_one ns (frame.Do n at) k l h = refl
back_one ns (frame.Lone n b) k l h = refl
back_one ns (frame.Entries n at) k l h = refl
back_one ns (frame.Then n) k l h = refl
back_one ns (frame.Loop looping) k l h = refl
back_one ns (frame.Try trying) k l h = refl
back_one ns (frame.Mark m) k l h = refl
back_one ns (frame.Back c m) k l h = absurd (cc h)
back_one ns (frame.Judge judging) k l h = absurd (cc h)

pub record BackTurned (old new : List Frame) (h g : Held) : Type 0 where
  pub outside : g.outside ≡ h.outside
  pub fits : (ns : List Spot) (nodes : List Node) → Fits ns nodes old → Fits ns nodes new
  pub goes : (ns : List Spot) (c : List Item) → to_back (control ns old) (standing c h) ≡ to_back (control ns new) (standing c g)

pub back_turned : (f : Frame) (b : Bool) (old new : List Frame) (h g : Held) → topped old ≡ Some f → is_back f ≡ false → Leaves b old h new g → BackTurned old new h g
back_turned f false old new h g t other w = absurd (cc (sym t ∙ ap topped w.0))
back_turned f true old new h g t other w =
    let same : w.0 ≡ f = cc (sym (ap topped w.1) ∙ t) in
    record {
      outside = ap (λ (y : Held). y.outside) w.2 ∙ same_outside w.0 h;
      fits = λ ns nodes fit. (let all : Fits ns nodes (w.0 ∷ new) = subst (Fits ns nodes) w.1 fit in all.1);
      goes = λ ns c. ap (λ fs. to_back (control ns fs) (standing c h)) w.1 ∙ back_one ns w.0 (control ns new) (standing c h) (ap is_back same ∙ other) ∙ ap (λ l. to_back (control ns new) l) (stands_on w.0 c h ∙ ap (standing c) (sym w.2));
    }

-- where it is, or nowhere
pub back_here : (ns : List Spot) (f : Frame) (fs : List Frame) (l : Local) → topped fs ≡ Some f → is_back f ≡ true → (to_back (control ns fs) l ≡ back_found ns fs l) × IsBackTop fs
back_here ns f [] l t h = absurd (cc t)
back_here ns f (frame.Back c m ∷ fs) l t h = (refl, refl)
back_here ns f (frame.Judge judging ∷ fs) l t h = (refl, refl)
back_here ns f (frame.Do n at ∷ fs) l t h = let same : frame.Do n at ≡ f = cc t in absurd (cc (ap is_back same ∙ h))
back_here ns f (frame.Lone n b ∷ fs) l t h = let same : frame.Lone n b ≡ f = cc t in absurd (cc (ap is_back same ∙ h))
back_here ns f (frame.Entries n at ∷ fs) l t h = let same : frame.Entries n at ≡ f = cc t in absurd (cc (ap is_back same ∙ h))
back_here ns f (frame.Then n ∷ fs) l t h = let same : frame.Then n ≡ f = cc t in absurd (cc (ap is_back same ∙ h))
back_here ns f (frame.Loop looping ∷ fs) l t h = let same : frame.Loop looping ≡ f = cc t in absurd (cc (ap is_back same ∙ h))
back_here ns f (frame.Try trying ∷ fs) l t h = let same : frame.Try trying ≡ f = cc t in absurd (cc (ap is_back same ∙ h))
back_here ns f (frame.Mark m ∷ fs) l t h = let same : frame.Mark m ≡ f = cc t in absurd (cc (ap is_back same ∙ h))

pub back_nowhere : (ns : List Spot) (fs : List Frame) (l : Local) → topped fs ≡ None → to_back (control ns fs) l ≡ back_found ns fs l
back_nowhere ns [] l t = refl
back_nowhere ns (f ∷ fs) l t = absurd (cc t)

-- ## Behind the call
-- the frames hold no predicate's call
plain_given : (ns : List Spot) (s : Scene) (r : Option Text) (v : Data) (fs : List Frame) (l : Local) → given_to s r v (control ns fs) l ≡ gives s r v (control ns fs) l
plain_given ns s r v [] l = refl
plain_given ns s r v (frame.Do n at ∷ fs) l = refl
plain_given ns s r v (frame.Lone n b ∷ fs) l = refl
plain_given ns s r v (frame.Entries n at ∷ fs) l = refl
plain_given ns s r v (frame.Then n ∷ fs) l = refl
plain_given ns s r v (frame.Loop looping ∷ fs) l = refl
plain_given ns s r v (frame.Try trying ∷ fs) l = refl
plain_given ns s r v (frame.Mark m ∷ fs) l = refl
plain_given ns s r v (frame.Back c m ∷ fs) l = refl
plain_given ns s r v (frame.Judge judging ∷ fs) l = refl

module _ (ns : List Spot) (s : Scene) (v : Data) where
  pub gives_on : (f : Frame) (b : Bool) (mid new : List Frame) (d : List Item) (k h g : Held) (w : Went) (l : Local) → topped mid ≡ Some f → IsBackTop mid → is_judge f ≡ false → Leaves b mid h new g
      → IsMove s (gives s (result_of ns (call_of f)) v (control ns new) (standing d g)) w l → IsMove s (returned s v (standing d k) (back_found ns mid (standing d h))) w l
  gives_on f b [] new d k h g w l t top other left m = absurd (cc t)
  gives_on f false (y ∷ fs) new d k h g w l t top other left m = absurd (cc left.0)
  gives_on f true (frame.Back c m0 ∷ fs) new d k h g w l t top other left m =
      let is : frame.Back c m0 ≡ left.0 = cc left.1 in
      let same : frame.Back c m0 ≡ f = cc t in
      let rest : fs ≡ new = cc left.1 in
      let held : g ≡ dropped (frame.Back c m0) h = left.2 ∙ ap (λ y. dropped y h) (sym is) in
      subst (λ y. IsMove s y w l)
      (ap (λ y. gives s (result_of ns (call_of y)) v (control ns new) (standing d g)) (sym same) ∙ ap (λ (y : Held). gives s (result_of ns c) v (control ns new) (standing d y)) held
      ∙ ap (λ ys. gives s (result_of ns c) v (control ns ys) (leave (standing d h))) (sym rest) ∙ sym (plain_given ns s (result_of ns c) v fs (leave (standing d h)))) m
  gives_on f true (frame.Judge judging ∷ fs) new d k h g w l t top other left m = let same : frame.Judge judging ≡ f = cc t in absurd (cc (ap is_judge same ∙ other))
  gives_on f true (frame.Do n at ∷ fs) new d k h g w l t top other left m = absurd (cc top)
  gives_on f true (frame.Lone n b ∷ fs) new d k h g w l t top other left m = absurd (cc top)
  gives_on f true (frame.Entries n at ∷ fs) new d k h g w l t top other left m = absurd (cc top)
  gives_on f true (frame.Then n ∷ fs) new d k h g w l t top other left m = absurd (cc top)
  gives_on f true (frame.Loop looping ∷ fs) new d k h g w l t top other left m = absurd (cc top)
  gives_on f true (frame.Try trying ∷ fs) new d k h g w l t top other left m = absurd (cc top)
  gives_on f true (frame.Mark m0 ∷ fs) new d k h g w l t top other left m = absurd (cc top)

  -- a predicate has answered: its truth value is still to go to its `try`, and a TypeError outward
  pub judged_on : (f : Frame) (mid : List Frame) (d : List Item) (h g : Held) (w : Went) → topped mid ≡ Some f → is_judge f ≡ true → SaysSo v w
      → IsMove s (returned s v (standing d h) (back_found ns mid (standing d g))) w (standing (control ns mid) g)
  judged_on f [] d h g w t judge says = absurd (cc t)
  judged_on f (frame.Do n at ∷ fs) d h g w t judge says = let same : frame.Do n at ≡ f = cc t in absurd (cc (ap is_judge same ∙ judge))
  judged_on f (frame.Lone n b ∷ fs) d h g w t judge says = let same : frame.Lone n b ≡ f = cc t in absurd (cc (ap is_judge same ∙ judge))
  judged_on f (frame.Entries n at ∷ fs) d h g w t judge says = let same : frame.Entries n at ≡ f = cc t in absurd (cc (ap is_judge same ∙ judge))
  judged_on f (frame.Then n ∷ fs) d h g w t judge says = let same : frame.Then n ≡ f = cc t in absurd (cc (ap is_judge same ∙ judge))
  judged_on f (frame.Loop looping ∷ fs) d h g w t judge says = let same : frame.Loop looping ≡ f = cc t in absurd (cc (ap is_judge same ∙ judge))
  judged_on f (frame.Try trying ∷ fs) d h g w t judge says = let same : frame.Try trying ≡ f = cc t in absurd (cc (ap is_judge same ∙ judge))
  judged_on f (frame.Mark m ∷ fs) d h g w t judge says = let same : frame.Mark m ≡ f = cc t in absurd (cc (ap is_judge same ∙ judge))
  judged_on f (frame.Back c m ∷ fs) d h g w t judge says = let same : frame.Back c m ≡ f = cc t in absurd (cc (ap is_judge same ∙ judge))
  judged_on f (frame.Judge judging ∷ fs) d h g w t judge says = by v says
    where
      by : (x : Data) → SaysSo x w → IsMove s (returned s x (standing d h) (back_found ns (frame.Judge judging ∷ fs) (standing d g))) w (standing (control ns (frame.Judge judging ∷ fs)) g)
      by (boolean b) is = turned_move s (returns s (boolean b) (control ns (frame.Judge judging ∷ fs)) (standing d g)) (turned.Says b) w (standing (control ns (frame.Judge judging ∷ fs)) g) is (said_so s (control ns (frame.Judge judging ∷ fs)) d g b (returns s (boolean b) (control ns (frame.Judge judging ∷ fs)) (standing d g)) refl)
      by null is = raised s (control ns (frame.Judge judging ∷ fs)) d g (error_map TypeError) w is
      by (integer i) is = raised s (control ns (frame.Judge judging ∷ fs)) d g (error_map TypeError) w is
      by (text x) is = raised s (control ns (frame.Judge judging ∷ fs)) d g (error_map TypeError) w is
      by (bytes x) is = raised s (control ns (frame.Judge judging ∷ fs)) d g (error_map TypeError) w is
      by (list x) is = raised s (control ns (frame.Judge judging ∷ fs)) d g (error_map TypeError) w is
      by (map x) is = raised s (control ns (frame.Judge judging ∷ fs)) d g (error_map TypeError) w is

  -- without a call the task ends
  pub ends_with : (x : Value) (mid : List Frame) (d c : List Item) (h g : Held) → plain x ≡ v → topped mid ≡ None → depth v ≤ 100 → g.outside ≡ h.outside
      → IsTurned s (returned s v (standing d h) (back_found ns mid (standing d g))) (turned.Ended (end.Value x)) (standing c g)
  ends_with x [] d c h g e t deep out = by s.root
    where
      by : (r : Root) → IsTurned s (returns_in r v (standing d h)) (turned.Ended (end.Value x)) (standing c g)
      by Main = (ap Gives (sym e), deep, sym out)
      by Branch = tt
      by Iteration = tt
  ends_with x (f ∷ fs) d c h g e t deep out = absurd (cc t)

-- the node of the call
pub call_node : (nodes : List Node) (f : Frame) → HasNode nodes f → is_back f ≡ true → IsCallOf nodes (call_of f)
call_node nodes (frame.Back c k) h e = h
call_node nodes (frame.Judge judging) h e = tt
call_node nodes (frame.Do n at) h e = absurd (cc e)
call_node nodes (frame.Lone n b) h e = absurd (cc e)
call_node nodes (frame.Entries n at) h e = absurd (cc e)
call_node nodes (frame.Then n) h e = absurd (cc e)
call_node nodes (frame.Loop looping) h e = absurd (cc e)
call_node nodes (frame.Try trying) h e = absurd (cc e)
call_node nodes (frame.Mark k) h e = absurd (cc e)

pub top_back : (f : Frame) (fs : List Frame) → topped fs ≡ Some f → IsBackTop fs → is_back f ≡ true
top_back f [] t h = absurd (cc t)
top_back f (g ∷ fs) t h = let same : g ≡ f = cc t in subst (λ y. is_back y ≡ true) same h

-- ## At the end of a workflow that was called
pub moves_back : (ns : List Spot) (s : Scene) (fs : List Frame) (l : Local) → is_at_back fs ≡ true → moves s (control ns fs) l ≡ returns s null (control ns fs) l
moves_back ns s [] l h = absurd (cc h)
moves_back ns s (frame.Back c k ∷ fs) l h = refl
moves_back ns s (frame.Judge judging ∷ fs) l h = refl
moves_back ns s (frame.Do n at ∷ fs) l h = absurd (cc h)
moves_back ns s (frame.Lone n b ∷ fs) l h = absurd (cc h)
moves_back ns s (frame.Entries n at ∷ fs) l h = absurd (cc h)
moves_back ns s (frame.Then n ∷ fs) l h = absurd (cc h)
moves_back ns s (frame.Loop looping ∷ fs) l h = absurd (cc h)
moves_back ns s (frame.Try trying ∷ fs) l h = absurd (cc h)
moves_back ns s (frame.Mark k ∷ fs) l h = absurd (cc h)

-- the innermost frame is a predicate's call
pub judge_top : (f : Frame) (fs : List Frame) → topped fs ≡ Some f → is_judge f ≡ true → IsJudgeTop fs
judge_top f [] t h = absurd (cc t)
judge_top f (g ∷ fs) t h = let same : g ≡ f = cc t in ap is_judge same ∙ h

pub says_left : (nodes : List Node) (fs : Frames) (v : Data) (w : Went) → IsJudgeTop (inner fs) → SaysSo v w → IsLeft nodes w fs
says_left nodes fs (boolean b) w top is = turned_left nodes fs (turned.Says b) w is top
says_left nodes fs null w top is = raised_left nodes fs (error_map TypeError) w is
says_left nodes fs (integer i) w top is = raised_left nodes fs (error_map TypeError) w is
says_left nodes fs (text x) w top is = raised_left nodes fs (error_map TypeError) w is
says_left nodes fs (bytes x) w top is = raised_left nodes fs (error_map TypeError) w is
says_left nodes fs (list x) w top is = raised_left nodes fs (error_map TypeError) w is
says_left nodes fs (map x) w top is = raised_left nodes fs (error_map TypeError) w is
