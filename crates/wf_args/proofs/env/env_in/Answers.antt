use Rattle.std.proofs.Common.{◌<◌, ◌∙◌, None, Some, ap, arith, length, sym}
use Rattle.std.specs.Option.{option_map}
use Rattle.std.proofs.lemmas.Bool.Decides.{nat_tests}
use Rattle.std.proofs.lemmas.Str.Pattern.{split_once_first}
use Rattle.wf_args.specs.Plain.{plain_env}
use Rattle.wf_args.proofs.Words.{no_env, parts_are_env, there_any}
use Rattle.wf_args.proofs.env.env_in.Goals as goal

pub returns : goal.returns
returns c =
    let word = c.args.word.now in
    let key = c.in_ok-key.key in
    let value = c.in_ok-key.value in
    let first = split_once_first 61 word (Some (key, value)) c.in_ok-key.ensures.cases (omega arith) in
    let some : 0 < length key.now = grind (arith, nat_tests, c.if-is_empty.ensures) in
    parts_are_env word key.now value.now first.1 first.2 (there_any 61 word first.0) (omega arith) some

pub returns-in_err-key : goal.returns-in_err-key
returns-in_err-key c =
    let nowhere = split_once_first 61 c.args.word.now None c.in_err-key.ensures.cases (omega arith) in
    ap (option_map plain_env) c.from_residual.ensures ∙ sym (no_env c.args.word.now nowhere)
