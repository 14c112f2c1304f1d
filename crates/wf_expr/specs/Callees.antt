-- What a line of the library is to calls.
use Rattle.std.specs.Prelude.{◌+◌, length}
use Rattle.wf_ast.specs.Func.{Listing}
use Rattle.wf_expr.specs.declared.callee.Callee.{Callee}

abbrev pub callee_of : Listing → Callee
callee_of f = record { func = f.func; least = length f.signature.needs; most = length f.signature.needs + length f.signature.may }
