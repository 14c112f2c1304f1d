use Rattle.std.proofs.Common.{◌<◌, false, Some, arith, length}
use Rattle.std.proofs.lemmas.Bool.{false≢true}
use Rattle.std.proofs.lemmas.Bool.Decides.{nat_tests}
use Rattle.std.proofs.lemmas.Str.Pattern.{contains_char, split_once_first}
use Rattle.wf_args.proofs.Words.{none_by_places, parts_are_route}
use Rattle.wf_args.proofs.route.route_in.Goals as goal

pub returns : goal.returns
returns c =
    let word = c.args.word.now in
    let host = c.in_ok-host.host in
    let to = c.in_ok-host.to in
    let name = c.in_ok-name.name in
    let digits = c.in_ok-name.digits in
    let first = split_once_first 61 word (Some (host, to)) c.in_ok-host.ensures.cases (omega arith) in
    let second = split_once_first 58 to.now (Some (name, digits)) c.in_ok-name.ensures.cases (omega arith) in
    let held = contains_char 61 name.now false c.if-contains.ensures.cases (omega arith) in
    let no_equals = none_by_places 61 name.now (λ k below same. false≢true (held.1 k below same)) in
    let host_some : 0 < length host.now = grind (arith, nat_tests, c.if-is_empty.ensures) in
    let name_some : 0 < length name.now = grind (arith, nat_tests, c.if-is_empty-2.ensures) in
    parts_are_route word host.now to.now name.now digits.now c.in_ok-port.port first.1 first.2 second.1 second.2
    (record { short = omega arith; host_some = host_some; name_some = name_some; no_equals = no_equals })
    c.in_ok-port.ensures
