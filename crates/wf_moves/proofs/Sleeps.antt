-- Sleeps.
use Rattle.std.proofs.Common.{◌≡◌, ℕ, Bool, true, false, List, Ok, Err, None, Some, refl, sym, ap, subst, ◌∙◌}
use Rattle.std.specs.Prelude.{Option, if◌then◌else◌, is_some, option_map}
use Rattle.wf_ast.specs.Accept.{BadArgument}
use Rattle.wf_ast.specs.Flows.{flow}
use Rattle.wf_ast.specs.Func.{Listing, Special, SpecialListing, call_takes, func_named, special_named}
use Rattle.wf_ast.specs.Tree.{Body, CallBody, Flow}
use Rattle.wf_eval.specs.Answers.{Answers}
use Rattle.wf_frames.specs.Frames.{body_result}
use Rattle.wf_frames.specs.Held.{Held, standing}
use Rattle.wf_frames.specs.Owned.{Around}
use Rattle.wf_model.specs.Calls.{calls_listed, calls_named, calls_special, sleep_due, sleeps}
use Rattle.wf_model.specs.Config.{Item, Sleep}
use Rattle.wf_model.specs.Leave.{raises}
use Rattle.wf_model.specs.Local.{Breaks, Local, Moved, Scene}
use Rattle.wf_moves.specs.Moved.{IsMove}
use Rattle.wf_moves.specs.Naps.{nap_due}
use Rattle.wf_moves.proofs.Awaiting.{done_breaks}
use Rattle.wf_moves.specs.Tasks.{IsAwaited, IsDone}
use Rattle.wf_moves.specs.declared.finish.Done.{Done}
use Rattle.wf_moves.specs.declared.finish.Awaits.TheVariants as awaits
use Rattle.wf_moves.specs.declared.finish.Went.{Went}
use Rattle.wf_moves.specs.declared.wait.Wait.TheVariants as wait
use Rattle.wf_model.specs.Spots.{part_at, part_body}
use Rattle.wf_frames.proofs.Evaluated.{failed, gave}
use Rattle.wf_frames.specs.Built.{IsNap, nap_special}
use Rattle.wf_frames.specs.Steps.{calls_by}
use Rattle.wf_frames.specs.declared.target.Nap.{Nap}
use Rattle.wf_frames.specs.declared.target.Nap.TheVariants as nap
use Rattle.wf_value.specs.Data.{Pairs}
use Rattle.wf_value.specs.Errors.{Answer, error_map}
use Rattle.wf_value.specs.Pairs.{Text, keys}
use Rattle.wf_value.specs.declared.Raise.TheVariants.{Error}
use Rattle.wf_value.specs.declared.Tag.{Tag}

-- what no accepted program does
broken : (a : Around) (s : Scene) (d : Done) (l : Local) (e : Moved) → e ≡ Breaks BadArgument → IsDone a s e d l
broken a s d l e is = subst (λ m. IsDone a s m d l) (sym is) (done_breaks a s BadArgument d l)

module _ (a : Around) (s : Scene) (b : Nap) (args : Pairs) (n : ℕ) (f : CallBody) (now : ℕ) (k d : List Item) (h : Held) (at : s.now ≡ now) (body : part_body (part_at a.spots n) ≡ Body.Call f) (is : IsNap s.program.flows b f.name) where
  -- by its special
  by_special : (y : Special) → y ≡ nap_special b → calls_special s f.result y args k (standing d h) ≡ sleeps s f.result (nap_due b now args) k (standing d h)
  by_special y e = ap (λ z. calls_special s f.result z args k (standing d h)) e ∙ by b
    where
      by : (m : Nap) → calls_special s f.result (nap_special m) args k (standing d h) ≡ sleeps s f.result (nap_due m now args) k (standing d h)
      by nap.For = ap (λ t. sleeps s f.result (sleep_due t args) k (standing d h)) at
      by nap.Until = refl

  listed : (g : Option SpecialListing) (x : Done) (l : Local) → option_map (λ e. e.special) g ≡ Some (nap_special b) → IsDone a s (sleeps s f.result (nap_due b now args) k (standing d h)) x l → IsDone a s (calls_listed s f.result None g args k (standing d h)) x l
  listed None x l e m = absurd (cc e)
  listed (Some g) x l e m = by (call_takes g.name g.signature (keys args))
    where
      by : (t : Bool) → IsDone a s (if t then calls_special s f.result g.special args k (standing d h) else Breaks BadArgument) x l
      by true = let same : g.special ≡ nap_special b = cc e in subst (λ y. IsDone a s y x l) (sym (by_special g.special same)) m
      by false = broken a s x l (Breaks BadArgument) refl

  pub nap_done : (x : Done) (l : Local) → IsDone a s (sleeps s f.result (nap_due b now args) k (standing d h)) x l → IsDone a s (calls_by s (part_body (part_at a.spots n)) args k (standing d h)) x l
  nap_done x l m = subst (λ y. IsDone a s (calls_by s y args k (standing d h)) x l) (sym body) (flows (flow s.program.flows f.name) is.free)
    where
      library : (o : Option Listing) → is_some o ≡ false → IsDone a s (calls_listed s f.result o (special_named f.name) args k (standing d h)) x l
      library (Some e) t = absurd (cc t)
      library None t = listed (special_named f.name) x l is.named m

      flows : (o : Option Flow) → is_some o ≡ false → IsDone a s (calls_named s f.result o f.name args k (standing d h)) x l
      flows (Some w) t = absurd (cc t)
      flows None t = library (func_named f.name) is.unlisted

  -- it waits
  pub sleeps_so : (due : ℕ) → Answers (λ m. m) (Ok due) (nap_due b now args) → IsAwaited a s (sleeps s f.result (nap_due b now args) k (standing d h)) (awaits.Waits (wait.Sleep due n)) (standing k h)
  sleeps_so due e =
      subst (λ (r : Answer ℕ). IsAwaited a s (sleeps s f.result r k (standing d h)) (awaits.Waits (wait.Sleep due n)) (standing k h)) (sym (gave (λ m. m) due (nap_due b now args) e))
      (ap (λ y. waits_at due (body_result y)) (sym body))
    where
      waits_at : ℕ → Option Text → Local
      waits_at t r = record (standing k h) { wait = Sleep t r }

  -- or raises
  pub sleep_fails : (t : Tag) (w : Went) (l : Local) → Answers (λ m. m) (Err (Error t)) (nap_due b now args) → IsMove s (raises s k (standing d h) (error_map t)) w l → IsMove s (sleeps s f.result (nap_due b now args) k (standing d h)) w l
  sleep_fails t w l e m = subst (λ (r : Answer ℕ). IsMove s (sleeps s f.result r k (standing d h)) w l) (sym (failed (λ m. m) t (nap_due b now args) e)) m
