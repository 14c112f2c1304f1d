-- The function of a name, looked for in parts of the library.
use Rattle.std.proofs.Common.{◌≡◌, Bool, true, false, List, [], ◌∷◌, ◌++◌, Option, Some, None, option_map, if◌then◌else◌, bytes_eq, refl, ap, ◌∙◌}
use Rattle.std.specs.Option.{option_or}
use Rattle.wf_ast.specs.Func.{Listing, entry_in, func_named}
use Rattle.wf_ast.specs.Functions.{Callable, basic, callable, function_of, of_system, of_texts, of_values}
use Rattle.wf_ast.specs.declared.functions.Function.{Function}
use Rattle.wf_value.specs.Pairs.{Text}

-- the function of what was found
abbrev pub of_listing : Option Listing → Option Callable
of_listing o = option_map callable o

by_test : (b : Bool) (e : Listing) (o p q : Option Listing) → option_or (of_listing o) (of_listing p) ≡ of_listing q → option_or (of_listing (if b then Some e else o)) (of_listing p) ≡ of_listing (if b then Some e else q)
by_test true e o p q h = refl
by_test false e o p q h = h

either_part : (front back : List Listing) (x : Text) → option_or (of_listing (entry_in front x)) (of_listing (entry_in back x)) ≡ of_listing (entry_in (front ++ back) x)
either_part [] back x = refl
either_part (e ∷ front) back x = by_test (bytes_eq x e.name) e (entry_in front x) (entry_in back x) (entry_in (front ++ back) x) (either_part front back x)

either_view : (a b : Option Function) → option_map function_of (option_or a b) ≡ option_or (option_map function_of a) (option_map function_of b)
either_view None b = refl
either_view (Some x) b = refl

-- one behind the other
pub either : (a b r : Option Function) (o p : Option Callable) → r ≡ option_or a b → option_map function_of a ≡ o → option_map function_of b ≡ p → option_map function_of r ≡ option_or o p
either a b r o p is left right = ap (option_map function_of) is ∙ either_view a b ∙ (λ i. option_or (left i) (right i))

pub all_parts : (x : Text) → option_or (option_or (option_or (of_listing (entry_in basic x)) (of_listing (entry_in of_texts x))) (of_listing (entry_in of_values x))) (of_listing (entry_in of_system x)) ≡ of_listing (func_named x)
all_parts x =
    ap (λ o. option_or (option_or o (of_listing (entry_in of_values x))) (of_listing (entry_in of_system x))) (either_part basic of_texts x)
    ∙ ap (λ o. option_or o (of_listing (entry_in of_system x))) (either_part (basic ++ of_texts) of_values x)
    ∙ either_part ((basic ++ of_texts) ++ of_values) of_system x
