-- The parts that are taken of a URL.
use Rattle.std.specs.Prelude.{◌≡◌, not, codes, bytes_eq}
use Rattle.http_uri.specs.Grammar.{authority_host}
use Rattle.wf_value.specs.HttpUrl.{Url, port_of, port_text, target_of}
use Rattle.wf_http_out.specs.declared.parts.Parts.{Parts}

pub record IsPartsOf (u : Url) (p : Parts) : Type 0 where
  pub scheme : p.is_secure ≡ not (bytes_eq u.scheme (codes "http"))
  pub authority : p.authority ≡ u.authority
  pub host : p.host ≡ authority_host u.authority
  pub port : p.port ≡ port_of (port_text u.authority)
  pub target : p.target ≡ target_of u.kept
