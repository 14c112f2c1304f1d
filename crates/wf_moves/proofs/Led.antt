-- Where a move leads.
use Rattle.std.proofs.Common.{◌≡◌, Bool, List, sym, subst, inl, inr}
use Rattle.std.specs.Prelude.{◌⊎◌}
use Rattle.wf_ast.specs.Accept.{Kind}
use Rattle.wf_frames.specs.Owned.{Around, beside, control_of, local_of}
use Rattle.wf_frames.specs.declared.frames.Frames.{Frames}
use Rattle.wf_model.specs.Config.{Item}
use Rattle.wf_model.specs.Leave.{returns}
use Rattle.wf_model.specs.Local.{Breaks, Does, Ends, Goes, Local, Moved, Not, Scene}
use Rattle.wf_model.specs.Unwind.{unwind}
use Rattle.wf_moves.proofs.Deciding.{broken_led}
use Rattle.wf_moves.proofs.Retrying.{still_raised, still_said}
use Rattle.wf_moves.specs.Moved.{IsEnd, IsMove, IsTurned, IsWent}
use Rattle.wf_moves.specs.Retries.{IsLed}
use Rattle.wf_moves.specs.declared.finish.End.{End}
use Rattle.wf_moves.specs.declared.finish.End.TheVariants as end
use Rattle.wf_moves.specs.declared.finish.Turned.TheVariants as turned
use Rattle.wf_moves.specs.declared.finish.Went.TheVariants as went
use Rattle.wf_moves.specs.declared.leading.Led.{Led}
use Rattle.wf_scope.specs.declared.scopes.Scopes.{Scopes}
use Rattle.wf_value.specs.Data.{boolean}
use Rattle.wf_value.specs.Plain.{plain}
use Rattle.wf_value.specs.declared.Value.{Value}
use Rattle.wf_value.specs.declared.Value.TheVariants as value

-- nothing goes outward
pub goes_leads : (a : Around) (s : Scene) (m : Moved) (l : Local) → IsMove s m went.Goes l → IsWent m l
goes_leads a s (Goes x) l h = h
goes_leads a s (Ends e x) l h = absurd h
goes_leads a s (Does e x) l h = absurd h
goes_leads a s (Breaks kind) l h = tt
goes_leads a s Not l h = absurd h

pub ends_lead : (a : Around) (s : Scene) (m : Moved) (f : End) (l : Local) → IsTurned s m (turned.Ended f) l → IsEnd m f l
ends_lead a s (Goes x) f l h = absurd h
ends_lead a s (Ends e x) f l h = h
ends_lead a s (Does e x) f l h = absurd h
ends_lead a s (Breaks kind) f l h = tt
ends_lead a s Not f l h = absurd h

-- the task has ended behind its last step
pub last_leads : (s : Scene) (m : Moved) (l : Local) → IsMove s m went.Ends l → IsEnd m (end.Value value.Null) l
last_leads s (Goes x) l h = h
last_leads s (Ends e x) l h = h
last_leads s (Does e x) l h = h
last_leads s (Breaks kind) l h = h
last_leads s Not l h = h

-- an error goes outward
pub raised_leads : (a : Around) (s : Scene) (m : Moved) (v : Value) (fs : Frames) (x : Scopes) (d : Led) (l : Local) → ((c : List Item) → IsLed a (unwind s (control_of a fs) (beside c a fs x) (plain v)) d l) → IsTurned s m (turned.Raises v) (local_of a fs x) → IsLed a m d l
raised_leads a s m v fs x d l led h = by (still_raised s m v (local_of a fs x) h)
  where
    by : ((c : List Item) × (m ≡ unwind s (control_of a fs) (beside c a fs x) (plain v))) ⊎ ((kind : Kind) × (m ≡ Breaks kind)) → IsLed a m d l
    by (inl e) = subst (λ y. IsLed a y d l) (sym e.1) (led e.0)
    by (inr b) = subst (λ y. IsLed a y d l) (sym b.1) (broken_led a b.0 d l)

-- and so does an answer
pub said_leads : (a : Around) (s : Scene) (m : Moved) (b : Bool) (fs : Frames) (x : Scopes) (d : Led) (l : Local) → ((c : List Item) → IsLed a (returns s (boolean b) (control_of a fs) (beside c a fs x)) d l) → IsTurned s m (turned.Says b) (local_of a fs x) → IsLed a m d l
said_leads a s m b fs x d l led h = by (still_said s m b (local_of a fs x) h)
  where
    by : ((c : List Item) × (m ≡ returns s (boolean b) (control_of a fs) (beside c a fs x))) ⊎ ((kind : Kind) × (m ≡ Breaks kind)) → IsLed a m d l
    by (inl e) = subst (λ y. IsLed a y d l) (sym e.1) (led e.0)
    by (inr k) = subst (λ y. IsLed a y d l) (sym k.1) (broken_led a k.0 d l)
