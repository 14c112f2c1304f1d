use Rattle.std.proofs.Common.{rules, ◌≡◌, true}
use Rattle.http_uri.specs.Uri.{SpellsNone}
use Rattle.wf_http_out.specs.Urls.{is_short_text}
use Rattle.wf_http_out.proofs.UrlReading.{read_bad, read_ok, unread_is_no_url}
use Rattle.wf_http_out.proofs.parts.read_url.Goals as goal

pub returns-in-Ok-clause-ok : goal.returns-in-Ok-clause-ok
returns-in-Ok-clause-ok c =
    let short : is_short_text c.args.text.now ≡ true = search rules in
    read_ok c.args.text.now c.in-Ok.uri c.parts_of.result short c.in-Ok.ensures.ok c.parts_of.ensures.ok

pub returns-in-Ok-clause-bad_url : goal.returns-in-Ok-clause-bad_url
returns-in-Ok-clause-bad_url c = λ bad. read_bad c.args.text.now c.in-Ok.uri c.in-Ok.ensures.ok (c.parts_of.ensures.bad_url bad)

pub returns-in-Err-Invalid-clause-bad_url : goal.returns-in-Err-Invalid-clause-bad_url
returns-in-Err-Invalid-clause-bad_url c = λ bad.
    let none : SpellsNone c.args.text.now = search rules in
    unread_is_no_url c.args.text.now none
