use Rattle.std.proofs.Common.{◌∷◌, [], List, ap, ◌∙◌}
use Rattle.wf_value.specs.Data.{Data}
use Rattle.wf_value.specs.Pairs.{Text}
use Rattle.wf_value.specs.Plain.{plain}
use Rattle.wf_value.specs.declared.Value.{Value}
use Rattle.wf_moves.proofs.judging.with_error.Goals as goal

pub returns : goal.returns
returns c =
    let name = c.args.param.now.name in
    c.in_ok-put_first.ensures ∙ ap (λ (xs : List (Text × Data)). (c.of.result, plain c.in_ok-copy-2.field-0) ∷ xs) c.new-bindings.ensures ∙ ap (λ (x : Text). (x, plain c.in_ok-copy-2.field-0) ∷ []) (c.of.ensures ∙ c.in_ok-copy.ensures) ∙ ap (λ (v : Value). (name, plain v) ∷ []) c.in_ok-copy-2.ensures
