use Rattle.std.proofs.Common.{◌≡◌, ◌≤◌, Some, option_map, rules, subst}
use Rattle.std.specs.Prelude.{codes}
use Rattle.wf_value.specs.Data.{depth, pairs_depth, pairs_of}
use Rattle.wf_value.specs.Pairs.{get}
use Rattle.wf_value.specs.Plain.{plain}
use Rattle.wf_value.specs.declared.value.Value.{Value}
use Rattle.wf_http_ask.proofs.Depths.{value_depth}
use Rattle.wf_http_ask.proofs.asking.body_at.Goals as goal

pub returns-in_ok-copy-in-Some-clause-depth : goal.returns-in_ok-copy-in-Some-clause-depth
returns-in_ok-copy-in-Some-clause-depth c =
    let value : option_map plain (Some c.in_ok-copy-in-Some.field-0) ≡ get (codes "body") (pairs_of c.args.args.now) = search rules in
    let fits = value_depth (codes "body") (pairs_of c.args.args.now) c.in_ok-copy-in-Some.field-0 value in
    λ x is. let same : c.in_ok-copy-in-Some.field-0 ≡ x = cc in subst (λ (v : Value). depth (plain v) ≤ pairs_depth (pairs_of c.args.args.now)) same fits
