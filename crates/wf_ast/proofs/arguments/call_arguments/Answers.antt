use Rattle.std.proofs.Common.{◌++◌, map, sym, ap, ◌∙◌}
use Rattle.wf_ast.specs.Func.{listed_args}
use Rattle.wf_ast.proofs.Ordered.{behind}
use Rattle.wf_ast.proofs.arguments.call_arguments.Goals as goal
use Rattle.wf_value.specs.Data.{pairs_of}
use Rattle.wf_value.specs.Plain.{plain_items}

pub returns : goal.returns
returns c =
    let needs = map (λ n. n.now) c.args.names.now.needs.now in
    let may = map (λ n. n.now) c.args.names.now.may.now in
    c.in_ok-add_values-2.ensures
    ∙ ap (λ vs. vs ++ listed_args may (pairs_of c.args.args.now)) (c.in_ok-add_values.ensures ∙ ap (λ vs. plain_items vs ++ listed_args needs (pairs_of c.args.args.now)) c.new-values.ensures.items)
    ∙ sym (behind needs may c.args.args.now)
