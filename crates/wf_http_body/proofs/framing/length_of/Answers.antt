use Rattle.std.proofs.Common.{◌≡◌, ◌∙◌, [], true, ap, sym, arith, rules, drop}
use Rattle.std.specs.Prelude.{codes}
use Rattle.std.specs.Str.Parse.{digits_value}
use Rattle.wf_value.specs.HttpBody.{all_equal, is_number}
use Rattle.wf_value.specs.HttpText.{values_of}
use Rattle.wf_http_body.proofs.Naming.{length_is}
use Rattle.wf_http_body.proofs.framing.length_of.Goals as goal

pub returns-else-length-limit : goal.returns-else-length-limit
returns-else-length-limit c =
    let first = c.in-Some.first.now in
    let number : is_number first ≡ true = search rules in
    let none : values_of (codes "content-length") (drop c.loop-value.at c.args.fields.now) ≡ [] = search rules in
    let same = sym c.loop-value.invariant.equal ∙ ap (all_equal (digits_value 10 first)) none in
    (digits_value 10 first, λ absent. length_is absent c.args.fields.now first _ c.in-Some.ensures.0 number same, omega arith)
