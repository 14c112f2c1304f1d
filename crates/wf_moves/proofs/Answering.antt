-- Calls of functions.
use Rattle.std.proofs.Common.{◌≡◌, Bool, true, false, List, Some, None, Ok, Err, sym, subst}
use Rattle.std.specs.Prelude.{Option, if◌then◌else◌, is_some, option_map}
use Rattle.wf_ast.specs.Accept.{BadArgument}
use Rattle.wf_ast.specs.Apply.{apply}
use Rattle.wf_ast.specs.Flows.{flow}
use Rattle.wf_ast.specs.Func.{Listing, func_named, in_order, special_named, takes}
use Rattle.wf_ast.specs.Tree.{Flow}
use Rattle.wf_ast.specs.declared.Func.{Func}
use Rattle.wf_eval.specs.Answers.{Gives}
use Rattle.wf_ast.specs.Functions.{signature_of}
use Rattle.wf_ast.specs.declared.functions.Function.{Function}
use Rattle.wf_model.specs.Calls.{calls_listed, calls_named, evaluates}
use Rattle.wf_model.specs.Config.{Item}
use Rattle.wf_model.specs.Layers.{view}
use Rattle.wf_model.specs.Leave.{gives, on, raises}
use Rattle.wf_model.specs.Local.{Breaks, Local, Scene}
use Rattle.wf_moves.specs.Moved.{IsMove}
use Rattle.wf_moves.specs.declared.finish.Went.{Went}
use Rattle.wf_frames.proofs.Evaluated.{failed, gave}
use Rattle.wf_frames.specs.Built.{function_parts, listed}
use Rattle.wf_value.specs.Data.{Data, Pairs}
use Rattle.wf_value.specs.Errors.{Answer, ◌>>=◌, error_map, kept}
use Rattle.wf_value.specs.Pairs.{Text, keys}
use Rattle.wf_value.specs.Plain.{plain}
use Rattle.wf_value.specs.declared.Raise.TheVariants.{Error}
use Rattle.wf_value.specs.declared.Tag.{Tag}
use Rattle.wf_value.specs.declared.Value.{Value}

module _ (s : Scene) (r : Option Text) (x : Text) (args : Pairs) (g : Function) (k : List Item) (l : Local) (w : Went) (m : Local) (free : is_some (flow s.program.flows x) ≡ false) (named : option_map listed (func_named x) ≡ Some (function_parts g)) where
  taken : (e : Listing) (b : Bool) → IsMove s (evaluates s r e.func (in_order e.signature args) k l) w m → IsMove s (if b then evaluates s r e.func (in_order e.signature args) k l else Breaks BadArgument) w m
  taken e true h = h
  taken e false h = tt

  in_library : (e : Option Listing) → option_map listed e ≡ Some (function_parts g) → IsMove s (evaluates s r g.func (in_order (signature_of g.arguments) args) k l) w m → IsMove s (calls_listed s r e (special_named x) args k l) w m
  in_library None q h = absurd (cc q)
  in_library (Some e) q h =
      let same : listed e ≡ function_parts g = cc q in
      taken e (takes e.signature (keys args)) (subst (λ (p : Func × (List Text × List Text)). IsMove s (evaluates s r p.0 (in_order (record { needs = p.1.0; may = p.1.1 }) args) k l) w m) (sym same) h)

  by_function : IsMove s (evaluates s r g.func (in_order (signature_of g.arguments) args) k l) w m → IsMove s (calls_named s r (flow s.program.flows x) x args k l) w m
  by_function h = by (flow s.program.flows x) free
    where
      by : (o : Option Flow) → is_some o ≡ false → IsMove s (calls_named s r o x args k l) w m
      by (Some f) t = absurd (cc t)
      by None t = in_library (func_named x) named h

  -- what it answers
  abbrev Answer_of : Answer Data
  Answer_of = apply (view s l) g.func (in_order (signature_of g.arguments) args) >>= kept

  -- a value
  pub function_gave : (v : Value) → Gives (Ok v) Answer_of → IsMove s (gives s r (plain v) k l) w m → IsMove s (calls_named s r (flow s.program.flows x) x args k l) w m
  function_gave v a h = by_function (subst (λ (y : Answer Data). IsMove s (on s k l y (λ d. gives s r d k l)) w m) (sym (gave plain v Answer_of a)) h)

  -- or an error
  pub function_failed : (t : Tag) → Gives (Err (Error t)) Answer_of → IsMove s (raises s k l (error_map t)) w m → IsMove s (calls_named s r (flow s.program.flows x) x args k l) w m
  function_failed t a h = by_function (subst (λ (y : Answer Data). IsMove s (on s k l y (λ d. gives s r d k l)) w m) (sym (failed plain t Answer_of a)) h)
