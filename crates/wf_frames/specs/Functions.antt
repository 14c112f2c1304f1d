-- What a function answers to a call's arguments by their names.
use Rattle.wf_ast.specs.Apply.{View, apply}
use Rattle.wf_ast.specs.Func.{in_order}
use Rattle.wf_ast.specs.Functions.{signature_of}
use Rattle.wf_ast.specs.declared.functions.Function.{Function}
use Rattle.wf_value.specs.Data.{Data, Pairs}
use Rattle.wf_value.specs.Errors.{Answer, ◌>>=◌, kept}

-- its answer, if that keeps within the limits of values
abbrev pub answer_of : View → Function → Pairs → Answer Data
answer_of s g args = apply s g.func (in_order (signature_of g.arguments) args) >>= kept
