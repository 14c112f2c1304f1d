-- The function of a name, as the library's table has it.
use Rattle.std.proofs.Common.{◌≡◌, ◌+◌, List, Option, Some, None, length, option_map, refl, sym, ap, ◌∙◌}
use Rattle.std.proofs.lemmas.List.{length-map}
use Rattle.std.proofs.lemmas.Option.{same_Some}
use Rattle.wf_ast.specs.Func.{Listing}
use Rattle.wf_ast.specs.Tree.{Expr, exprs}
use Rattle.wf_expr.specs.Callees.{callee_of}
use Rattle.wf_expr.specs.Grammar.{call_of}
use Rattle.wf_expr.specs.declared.callee.Callee.{Callee}
use Rattle.wf_ast.specs.Functions.{Callable, callable, function_of}
use Rattle.wf_ast.specs.declared.functions.Function.{Function}

-- what a function with the names of its arguments is to calls
abbrev counted : Callable → Callee
counted c = record { func = c.func; least = length c.signature.needs; most = length c.signature.needs + length c.signature.may }

as_counted : (f : Function) → record { func = f.func; least = length f.arguments.needs.now; most = length f.arguments.needs.now + length f.arguments.may.now } ≡ counted (function_of f)
as_counted f =
    let needs = sym (length-map f.arguments.needs.now (λ n. n.now)) in
    let may = sym (length-map f.arguments.may.now (λ n. n.now)) in
    λ i. record { func = f.func; least = needs i; most = needs i + may i }

module _ (o : Option Function) where
  pub found : (l : Option Listing) (f : Function) → o ≡ Some f → option_map function_of o ≡ option_map callable l → Some (record { func = f.func; least = length f.arguments.needs.now; most = length f.arguments.needs.now + length f.arguments.may.now }) ≡ option_map callee_of l
  found None f is same = absurd (cc (ap (option_map function_of) (sym is) ∙ same))
  found (Some e) f is same = ap Some (as_counted f) ∙ ap (option_map counted) (ap (option_map function_of) (sym is) ∙ same)

  pub lacks : (l : Option Listing) → o ≡ None → option_map function_of o ≡ option_map callable l → None ≡ option_map callee_of l
  lacks None is same = refl
  lacks (Some e) is same = absurd (cc (ap (option_map function_of) (sym is) ∙ same))

-- a call of a function that was found
pub called : (o : Option Listing) (f : Callee) (es : List Expr) → Some f ≡ option_map callee_of o → Expr.Call f.func (exprs es) ≡ call_of o es
called None f es h = let p : ⊥ = cc in absurd p
called (Some l) f es h = ap (λ (g : Callee). Expr.Call g.func (exprs es)) (same_Some f (callee_of l) h)
