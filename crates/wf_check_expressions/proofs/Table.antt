-- The signature of a name: of a function of the library, and else of those that only call steps may call.
use Rattle.std.proofs.Common.{◌≡◌, Option, Some, None, option_map, sym, ap, ◌∙◌}
use Rattle.wf_ast.specs.Func.{Listing, Signature}
use Rattle.wf_ast.specs.Functions.{Callable, callable, function_of, signature_of}
use Rattle.wf_ast.specs.declared.functions.Function.{Function}
use Rattle.wf_value.specs.HttpUrl.{first_of_two}

-- the signature of what was found
abbrev pub of_listing : Option Listing → Option Signature
of_listing o = option_map (λ e. e.signature) o

module _ (o : Option Function) (special : Option Signature) where
  pub found : (l : Option Listing) (f : Function) → o ≡ Some f → option_map function_of o ≡ option_map callable l → Some (signature_of f.arguments) ≡ first_of_two (of_listing l) special
  found None f is same = absurd (cc (ap (option_map function_of) (sym is) ∙ same))
  found (Some e) f is same = ap (option_map (λ (c : Callable). c.signature)) (ap (option_map function_of) (sym is) ∙ same)

  pub lacks : (l : Option Listing) (named : Option Signature) → o ≡ None → option_map function_of o ≡ option_map callable l → named ≡ special → named ≡ first_of_two (of_listing l) special
  lacks None named is same e = e
  lacks (Some l) named is same e = absurd (cc (ap (option_map function_of) (sym is) ∙ same))
