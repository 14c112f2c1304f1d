use Rattle.std.proofs.Common.{◌≡◌, Some, sym, ap, ◌∙◌, subst}
use Rattle.std.specs.Option.{option_copied, option_map_or}
use Rattle.wf_args.specs.Lines.{word_of}
use Rattle.wf_args.specs.Plain.{plain_line}
use Rattle.wf_args.specs.declared.option.OptionName.TheVariants.{Args}
use Rattle.wf_cli.proofs.argument.value_of.Goals as goal
use Rattle.wf_value.specs.Data.{null}
use Rattle.wf_value.specs.Decode.{json_value}
use Rattle.wf_value.specs.Json.{IsValue}
use Rattle.wf_value.specs.Plain.{plain}

pub returns-in_ok-from_json-in-Some-clause-value : goal.returns-in_ok-from_json-in-Some-clause-value
returns-in_ok-from_json-in-Some-clause-value c =
    let w = c.in-Some.word.now in
    let v = plain c.in_ok-from_json-in-Some.field-0 in
    let stands : word_of Args (plain_line c.args.line.now) ≡ Some w = sym c.args-2.ensures ∙ ap option_copied c.in-Some.is in
    let says : IsValue w v = subst (λ b. IsValue b v) c.as_bytes.ensures.value c.in_ok-from_json-in-Some.ensures.ok in
    ap (λ o. option_map_or json_value o (Some null)) stands ∙ (c.reading_is_a_function.ensures w v).1 says
