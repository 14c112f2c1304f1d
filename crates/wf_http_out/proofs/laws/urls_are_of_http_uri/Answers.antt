use Rattle.wf_http_out.proofs.UrlReading.{url_is_of_http_uri}
use Rattle.wf_http_out.proofs.laws.urls_are_of_http_uri.Goals as goal

pub returns : goal.returns
returns c = url_is_of_http_uri
