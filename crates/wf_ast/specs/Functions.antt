-- A function with the names of its arguments, as the code and as the library's table hold it, and the table in parts.
use Rattle.std.specs.Prelude.{List, map, take, drop}
use Rattle.wf_ast.specs.Func.{Listing, Signature, library}
use Rattle.wf_ast.specs.declared.expr.Func.{Func}
use Rattle.wf_ast.specs.declared.arguments.ArgumentNames.{ArgumentNames}
use Rattle.wf_ast.specs.declared.functions.Function.{Function}

-- a function, and the names of its arguments
pub record Callable : Type 0 where
  pub func : Func
  pub signature : Signature

-- the names of the arguments
abbrev pub signature_of : ArgumentNames → Signature
signature_of a = record { needs = map (λ n. n.now) a.needs.now; may = map (λ n. n.now) a.may.now }

-- a function of the code
abbrev pub function_of : Function → Callable
function_of f = record { func = f.func; signature = signature_of f.arguments }

-- a line of the table
abbrev pub callable : Listing → Callable
callable e = record { func = e.func; signature = e.signature }

-- ## Parts of the library, one behind the other
abbrev pub basic : List Listing
basic = take 7 library

abbrev pub of_texts : List Listing
of_texts = take 10 (drop 7 library)

abbrev pub of_values : List Listing
of_values = take 8 (drop 17 library)

abbrev pub of_system : List Listing
of_system = drop 25 library
