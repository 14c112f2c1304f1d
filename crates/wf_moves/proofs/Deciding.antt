-- What comes of a move that may be one that no accepted program makes.
use Rattle.std.proofs.Common.{◌≡◌, ◌≤◌, List, [], refl, sym, subst, ◌∙◌, inl, inr}
use Rattle.wf_ast.specs.Accept.{Kind}
use Rattle.wf_frames.specs.Frames.{inner}
use Rattle.wf_frames.specs.Owned.{Around, beside, local_of}
use Rattle.wf_frames.specs.declared.frames.Frames.{Frames}
use Rattle.wf_model.specs.Config.{Item}
use Rattle.wf_model.specs.Local.{Breaks, Ends, Fails, Local, Moved, Scene}
use Rattle.wf_moves.specs.Moved.{IsEnd}
use Rattle.wf_moves.specs.Retries.{IsLed}
use Rattle.wf_moves.specs.declared.finish.End.TheVariants as end
use Rattle.wf_moves.specs.declared.leading.Led.{Led}
use Rattle.wf_moves.specs.declared.leading.Led.TheVariants as led
use Rattle.wf_scope.specs.declared.scopes.Scopes.{Scopes}
use Rattle.wf_frames.specs.Steps.{IsOrBreaks}
use Rattle.wf_value.specs.Data.{depth}
use Rattle.wf_value.specs.Plain.{plain}
use Rattle.wf_value.specs.declared.Value.{Value}

-- it leads anywhere
pub broken_led : (a : Around) (kind : Kind) (d : Led) (l : Local) → IsLed a (Breaks kind) d l
broken_led a kind led.Goes l = tt
broken_led a kind (led.Ended e) l = tt
broken_led a kind (led.Waits w) l = tt

pub led_or_broken : (a : Around) (m n : Moved) (d : Led) (l : Local) → IsOrBreaks m n → IsLed a n d l → IsLed a m d l
led_or_broken a m n d l (inl e) h = subst (λ x. IsLed a x d l) (sym e) h
led_or_broken a m n d l (inr b) h = subst (λ x. IsLed a x d l) (sym b.1) (broken_led a b.0 d l)

pub breaks_on : (m n o : Moved) → IsOrBreaks m n → IsOrBreaks n o → IsOrBreaks m o
breaks_on m n o (inr b) h = inr b
breaks_on m n o (inl e) (inl f) = inl (e ∙ f)
breaks_on m n o (inl e) (inr b) = inr (b.0, e ∙ b.1)

-- an error that no `try` has taken ends the task
pub ended_out : (a : Around) (m : Moved) (s : Scene) (c : List Item) (fs : Frames) (x : Scopes) (v : Value) → inner fs ≡ [] → m ≡ Ends (Fails (plain v)) (beside c a fs x) → depth (plain v) ≤ 100 → IsLed a m (led.Ended (end.Error v)) (local_of a fs x)
ended_out a m s c fs x v none e shallow = subst (λ y. IsEnd y (end.Error v) (local_of a fs x)) (sym e) (refl, shallow, refl)
