-- What it is that code means an expression.
use Rattle.std.specs.Prelude.{◌≡◌, [], ◌∷◌, Ok}
use Rattle.wf_ast.specs.Tree.{Expr}
use Rattle.wf_ast.specs.Apply.{View}
use Rattle.wf_ast.specs.Eval.{eval}
use Rattle.wf_ast.specs.Machine.{code, exec}
use Rattle.wf_value.specs.Errors.{◌>>=◌}

-- from an empty stack the code leaves the value alone, or the first error comes
abbrev pub CodeMeans : Type 0
CodeMeans = (e : Expr) (s : View) → exec s (code e) 0 [] ≡ (eval e s >>= λ v. Ok (v ∷ []))
