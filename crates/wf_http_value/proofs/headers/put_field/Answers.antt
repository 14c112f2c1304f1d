use Rattle.std.proofs.Common.{◌≡◌, option_map, rules}
use Rattle.wf_value.specs.HttpText.{joined_value}
use Rattle.wf_value.specs.Maps.{value_at, with_value}
use Rattle.wf_value.specs.Plain.{plain}
use Rattle.wf_http_value.proofs.Fields.{joined_at}
use Rattle.wf_http_value.proofs.headers.put_field.Goals as goal

pub returns : goal.returns
returns c =
    let was : option_map (λ v. plain v.now) c.get.result ≡ value_at c.in_ok-name.name c.args.headers.now = search rules in
    let value : plain c.in_ok-value.value ≡ joined_value (option_map (λ v. plain v.now) c.get.result) c.args.value.now = search rules in
    let put : c.insert.new.self ≡ with_value c.in_ok-name.name (plain c.in_ok-value.value) c.args.headers.now = search rules in
    joined_at c.args.headers.now c.insert.new.self c.args.name.now c.in_ok-name.name c.args.value.now _ _ c.in_ok-name.ensures was value put
