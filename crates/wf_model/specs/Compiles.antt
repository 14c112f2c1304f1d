-- What comes of compiling: codes more, and something that means this with them and with those that come later.
use Rattle.std.specs.Prelude.{◌≡◌, List, ◌++◌, map}
use Rattle.wf_ast.specs.Tree.{Expr}
use Rattle.wf_model.specs.Shapes.{Compiled, decoded}
use Rattle.wf_model.specs.declared.codes.Codes.{Codes}

abbrev pub code_list : Codes → Compiled
code_list codes = codes.items.items

pub record Compiles {T : Type 0} (old new : Compiled) (meaning : Compiled → T) (x : T) : Type 0 where
  pub made : Compiled
  pub grown : new ≡ old ++ made
  pub means : (later : Compiled) → meaning (new ++ later) ≡ x

-- the codes of these expressions more
pub record Reads (old new : Compiled) (xs : List Expr) : Type 0 where
  pub made : Compiled
  pub grown : new ≡ old ++ made
  pub are : map decoded made ≡ xs
