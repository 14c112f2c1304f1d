-- Errors that are raised, and are still to go outward.
use Rattle.std.proofs.Common.{◌≡◌, Bool, List, Some, sym, ap, subst}
use Rattle.std.specs.Prelude.{Box}
use Rattle.std.specs.Global.{Global}
use Rattle.wf_frames.specs.Held.{Held, standing}
use Rattle.wf_frames.specs.Frames.{inner}
use Rattle.wf_frames.specs.declared.frames.Frames.{Frames}
use Rattle.wf_model.specs.Config.{Item}
use Rattle.wf_model.specs.Leave.{raises, returns}
use Rattle.wf_model.specs.Local.{Local, Moved, Goes, Ends, Does, Breaks, Not, Scene}
use Rattle.wf_model.specs.Unwind.{unwind}
use Rattle.wf_moves.specs.Moved.{IsLeft, IsMove, IsTurned, IsTurnedLeft, Raises, turned_in}
use Rattle.wf_moves.specs.declared.finish.Turned.{Turned}
use Rattle.wf_moves.specs.declared.finish.Turned.TheVariants as turned
use Rattle.wf_moves.specs.declared.finish.Went.{Went}
use Rattle.wf_moves.specs.declared.finish.Went.TheVariants as went
use Rattle.wf_model.specs.declared.node.Node.{Node}
use Rattle.wf_value.specs.Data.{Data, boolean}
use Rattle.wf_value.specs.Plain.{plain}
use Rattle.wf_value.specs.declared.Value.{Value}

-- ## One of the few in its box
turned_so : (s : Scene) (m : Moved) (x : Box Turned Global) (l : Local) → IsTurned s m x.value l → IsMove s m (went.Turned x) l
turned_so s (Goes y) x l h = h
turned_so s (Ends e y) x l h = h
turned_so s (Does e y) x l h = h
turned_so s (Breaks kind) x l h = h
turned_so s Not x l h = h

pub turned_is : (s : Scene) (m : Moved) (x : Box Turned Global) (l : Local) → IsMove s m (went.Turned x) l → IsTurned s m x.value l
turned_is s (Goes y) x l h = h
turned_is s (Ends e y) x l h = h
turned_is s (Does e y) x l h = h
turned_is s (Breaks kind) x l h = h
turned_is s Not x l h = h

pub turned_move : (s : Scene) (m : Moved) (t : Turned) (w : Went) (l : Local) → turned_in w ≡ Some t → IsTurned s m t l → IsMove s m w l
turned_move s m t went.Goes l e h = absurd (cc e)
turned_move s m t went.Ends l e h = absurd (cc e)
turned_move s m t (went.Turned x) l e h = let same : x.value ≡ t = cc e in turned_so s m x l (subst (λ y. IsTurned s m y l) (sym same) h)

pub turned_left : (nodes : List Node) (fs : Frames) (t : Turned) (w : Went) → turned_in w ≡ Some t → IsTurnedLeft t (inner fs) → IsLeft nodes w fs
turned_left nodes fs t went.Goes e h = absurd (cc e)
turned_left nodes fs t went.Ends e h = absurd (cc e)
turned_left nodes fs t (went.Turned x) e h = let same : x.value ≡ t = cc e in subst (λ y. IsTurnedLeft y (inner fs)) (sym same) h

-- ## Errors and answers
-- whatever it comes to
pub raised_so : (s : Scene) (k c : List Item) (h : Held) (v : Value) (m : Moved) → m ≡ unwind s k (standing c h) (plain v) → IsTurned s m (turned.Raises v) (standing k h)
raised_so s k c h v (Goes l) e = (c, e)
raised_so s k c h v (Ends x l) e = (c, e)
raised_so s k c h v (Does x m) e = (c, e)
raised_so s k c h v (Breaks kind) e = tt
raised_so s k c h v Not e = (c, e)

-- what a predicate returns, too
pub said_so : (s : Scene) (k c : List Item) (h : Held) (b : Bool) (m : Moved) → m ≡ returns s (boolean b) k (standing c h) → IsTurned s m (turned.Says b) (standing k h)
said_so s k c h b (Goes l) e = (c, e)
said_so s k c h b (Ends x l) e = (c, e)
said_so s k c h b (Does x m) e = (c, e)
said_so s k c h b (Breaks kind) e = tt
said_so s k c h b Not e = (c, e)

-- an error of this data
pub raised : (s : Scene) (k c : List Item) (h : Held) (d : Data) (w : Went) → Raises d w → IsMove s (raises s k (standing c h) d) w (standing k h)
raised s k c h d w r =
    turned_move s (raises s k (standing c h) d) (turned.Raises r.error) w (standing k h) r.is
    (raised_so s k c h r.error (raises s k (standing c h) d) (ap (unwind s k (standing c h)) (sym r.says)))

-- nests within the limit
pub raised_left : (nodes : List Node) (fs : Frames) (d : Data) (w : Went) → Raises d w → IsLeft nodes w fs
raised_left nodes fs d w r = turned_left nodes fs (turned.Raises r.error) w r.is r.shallow
