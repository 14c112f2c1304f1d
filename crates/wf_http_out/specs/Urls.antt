-- Where a URL leads, by the words of `http_uri`.
use Rattle.std.specs.Prelude.{◌≡◌, Bool, ◌&&◌, nat_le, length, ◌==◌, Option, Ok, Err}
use Rattle.std.specs.List.{list_all}
use Rattle.http_uri.specs.ByteClasses.{count_of, at_sign}
use Rattle.http_uri.specs.Grammar.{authority_host}
use Rattle.wf_value.specs.Events.{Address, Routes}
use Rattle.wf_value.specs.HttpUrl.{Url, IsUrl, Goal, NoRoute, is_url_byte, is_web, has_host, route, direct, first_of_two, goal_at}
use Rattle.wf_value.specs.Pairs.{Text}

-- 1 to 8,192 bytes of visible ASCII without `#`
abbrev pub is_short_text : Text → Bool
is_short_text s = nat_le 1 (length s) && nat_le (length s) 8192 && list_all is_url_byte s

-- `http` or `https`, no user, and a host with an honest port
abbrev pub is_sendable : Text → Text → Bool
is_sendable scheme authority = is_web scheme && count_of at_sign authority == 0 && has_host authority

-- the text spells no URL that a call can be sent to
abbrev pub IsNoUrl : Text → Type 0
IsNoUrl s = (u : Url) → ¬ (IsUrl s u)

-- the first route for the host, or else the host itself under `http`
abbrev pub address_of : Url → Routes → Option Address
address_of u routes = first_of_two (route routes (authority_host u.authority)) (direct u)

-- the text is a URL, and this is where it leads
abbrev pub LeadsTo : Text → Routes → Goal → Type 0
LeadsTo s routes g = (u : Url) × IsUrl s u × (goal_at u (address_of u routes) ≡ Ok g)

-- the text is a URL that leads nowhere
abbrev pub LeadsNowhere : Text → Routes → Type 0
LeadsNowhere s routes = (u : Url) × IsUrl s u × (goal_at u (address_of u routes) ≡ Err NoRoute)
