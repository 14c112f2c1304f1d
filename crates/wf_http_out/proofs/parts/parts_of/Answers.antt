use Rattle.std.proofs.Common.{rules, ◌≡◌, Some, true}
use Rattle.http_uri.specs.Uri.{HasParts, uri_data}
use Rattle.wf_value.specs.HttpUrl.{Url}
use Rattle.wf_http_out.specs.Urls.{is_sendable}
use Rattle.wf_http_out.proofs.parts.parts_of.Goals as goal

pub returns-clause-ok : goal.returns-clause-ok
returns-clause-ok c =
    let u : Url = record { scheme = c.in-Some.scheme.now; authority = c.in-Some-authority.authority.now; kept = uri_data c.args.uri.now } in
    let parts : HasParts c.args.uri.now (Some c.in-Some.scheme.now) (Some c.in-Some-authority.authority.now) (uri_data c.args.uri.now) = search rules in
    let good : is_sendable c.in-Some.scheme.now c.in-Some-authority.authority.now ≡ true = search rules in (
      u,
      parts,
      good,
      record {
        scheme = search rules;
        authority = search rules;
        host = search rules;
        port = search rules;
        target = search rules;
      },
    )
