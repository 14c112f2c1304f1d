-- A call that names no workflow: what the table says of its function.
use Rattle.std.proofs.Common.{◌≡◌, Bool, true, false, Option, Some, None, if◌then◌else◌, option_map, codes, refl, sym, ap, ◌∙◌}
use Rattle.wf_ast.specs.Func.{Listing, SpecialListing}
use Rattle.wf_check_expressions.specs.Forms.{is_built, uncalled}
use Rattle.wf_ast.specs.Functions.{Callable, callable, function_of}
use Rattle.wf_ast.specs.declared.functions.Function.{Function}
use Rattle.wf_value.specs.Pairs.{Text}

-- the key, by the function that expressions may call, and by whether there is one that only steps may call, and it is built
abbrev key_of : Option Callable → Bool → Option Text
key_of (Some c) b = None
key_of None b = if b then None else Some (codes "call")

as_key : (l : Option Listing) (g : Option SpecialListing) → key_of (option_map callable l) (is_built g) ≡ uncalled l g
as_key None g = refl
as_key (Some e) g = refl

module _ (o : Option Function) (l : Option Listing) (g : Option SpecialListing) (same : option_map function_of o ≡ option_map callable l) where
  of_function : key_of (option_map function_of o) (is_built g) ≡ uncalled l g
  of_function = ap (λ c. key_of c (is_built g)) same ∙ as_key l g

  pub listed : (f : Function) → o ≡ Some f → None ≡ uncalled l g
  listed f is = ap (λ q. key_of (option_map function_of q) (is_built g)) (sym is) ∙ of_function

  of_none : o ≡ None → (b : Bool) → is_built g ≡ b → (if b then None else Some (codes "call")) ≡ uncalled l g
  of_none is b h = sym (ap (λ (b : Bool). if b then None else Some (codes "call")) h) ∙ ap (λ q. key_of (option_map function_of q) (is_built g)) (sym is) ∙ of_function

  pub unbuilt : o ≡ None → is_built g ≡ false → Some (codes "call") ≡ uncalled l g
  unbuilt is h = of_none is false h

  pub built : o ≡ None → is_built g ≡ true → None ≡ uncalled l g
  built is h = of_none is true h
