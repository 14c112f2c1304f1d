-- Reading a URL by the words of `http_uri`: the parts of its absolute form, and where a call is sent.
--     url, UrlIsOfHttpUri      the parts of a URL, and what that reading stands for
--     goal                     the address of a call, and the texts of its request
use Rattle.std.specs.Prelude.{◌≡◌, ℕ, ◌+◌, ◌≤◌, Bool, true, not, ◌&&◌, ◌||◌, ◌↔◌, [], ◌∷◌, ◌++◌, length, take, drop, if◌then◌else◌, nat_lt, nat_le, ◌==◌, Some, None, Ok, Err, codes, bytes_eq, Option, Result, unwrap_or, IsTrue}
use Rattle.std.specs.List.{list_all}
use Rattle.std.specs.Char.{is_ascii_digit}
use Rattle.std.specs.Str.Parse.{digits_value}
use Rattle.http_uri.specs.ByteClasses.{lowercase, split_once_front, split_once_back, is_authority_byte, is_path_byte, is_query_byte, count_of, at_sign, left_bracket, right_bracket, percent_sign, question_mark, colon, hash_sign}
use Rattle.http_uri.specs.Grammar.{normal_scheme, last_piece, authority_host, path_of, query_of, scheme_len, authority_len, IsUriText}
use Rattle.wf_value.specs.Errors.{kept}
use Rattle.wf_value.specs.declared.errors.Tag.{Tag}
use Rattle.wf_value.specs.declared.errors.Tag.TheVariants.{ConnectionError, ValueError}
use Rattle.wf_value.specs.Events.{Address, Routes}
use Rattle.wf_value.specs.Pairs.{Text}

pub record Url : Type 0 where
  pub scheme : Text
  pub authority : Text
  -- the path and the query
  pub kept : Text

-- ## Tests of the parts, as `http_uri` says them
abbrev pub may_follow : Text → ℕ → Bool
may_follow front b =
    is_authority_byte b
    && (not (b == colon) || nat_lt (count_of colon (last_piece front)) 8)
    && (not (b == left_bracket) || count_of left_bracket front == 0 && count_of percent_sign (last_piece front) == 0)
    && (not (b == right_bracket) || nat_lt 0 (count_of left_bracket front) && count_of right_bracket front == 0)

abbrev pub all_follow : Text → Text → Bool
all_follow front [] = true
all_follow front (b ∷ s) = may_follow front b && all_follow (front ++ b ∷ []) s

-- with no `@`, which this project doesn't take
abbrev pub is_authority : Text → Bool
is_authority s =
    nat_lt 0 (length s) && all_follow [] s && count_of left_bracket s == count_of right_bracket s
    && nat_le (count_of colon (last_piece s)) 1 && count_of percent_sign (last_piece s) == 0 && count_of at_sign s == 0

abbrev pub is_path_text : Text → Bool
is_path_text s = list_all is_path_byte (split_once_front question_mark s) && list_all is_query_byte (unwrap_or (split_once_back question_mark s) [])

-- what is kept of the text behind an authority
abbrev pub kept_path : Text → Text
kept_path [] = codes "/"
kept_path (b ∷ s) = b ∷ s

abbrev pub is_web : Text → Bool
is_web scheme = bytes_eq scheme (codes "http") || bytes_eq scheme (codes "https")

-- ## Ports and hosts
-- what stands behind the host: nothing, or a colon and a port of 1 to 65,535 in digits
abbrev pub port_text : Text → Text
port_text authority = drop (length (authority_host authority)) authority

abbrev pub is_port : Text → Bool
is_port [] = true
is_port (b ∷ s) = b == colon && nat_lt 0 (length s) && list_all is_ascii_digit s && nat_le 1 (digits_value 10 s) && nat_le (digits_value 10 s) 65535

abbrev pub port_of : Text → ℕ
port_of [] = 80
port_of (b ∷ s) = digits_value 10 s

abbrev pub has_host : Text → Bool
has_host authority = nat_lt 0 (length (authority_host authority)) && is_port (port_text authority)

-- ## The URL
abbrev pub is_url_byte : ℕ → Bool
is_url_byte b = nat_le 33 b && nat_le b 126 && not (b == hash_sign)

abbrev pub url_if : Text → Text → Text → Option Url
url_if scheme authority tail =
    if is_web scheme && is_authority authority && has_host authority && is_path_text (kept_path tail)
    then Some (record { scheme = scheme; authority = authority; kept = kept_path tail }) else None

-- the text behind `://`
abbrev pub url_behind : Text → Text → Option Url
url_behind scheme s = url_if scheme (take (authority_len s) s) (drop (authority_len s) s)

-- a text of 1 to 8,192 such bytes in absolute form
abbrev pub url : Text → Option Url
url s =
    if nat_le 1 (length s) && nat_le (length s) 8192 && list_all is_url_byte s && nat_le (scheme_len s) 64
    && bytes_eq (take 3 (drop (scheme_len s) s)) (codes "://")
    then url_behind (normal_scheme (take (scheme_len s) s)) (drop (3 + scheme_len s) s) else None

-- what `url` stands for: the absolute form of `http_uri`, under this project's further rules
pub record IsUrl (s : Text) (u : Url) : Type 0 where
  pub reads : IsUriText s (Some u.scheme) (Some u.authority) u.kept
  pub short : (1 ≤ length s) × (length s ≤ 8192)
  pub bytes : IsTrue (list_all is_url_byte s)
  pub web : IsTrue (is_web u.scheme)
  pub no_user : count_of at_sign u.authority ≡ 0
  pub host : IsTrue (has_host u.authority)

-- the function and the relation are one
abbrev pub UrlIsOfHttpUri : Type 0
UrlIsOfHttpUri = (s : Text) (u : Url) → (url s ≡ Some u) ↔ IsUrl s u

-- ## Where a call is sent
-- the address, and what the request writes of the URL
pub record Goal : Type 0 where
  pub address : Address
  pub authority : Text
  pub target : Text

-- why a call can't be sent
pub data OutFault : Type 0 where
  BadUrl : OutFault
  BadHeader : OutFault
  NoRoute : OutFault
  BadBody : OutFault

abbrev pub out_tag : OutFault → Tag
out_tag BadUrl = ValueError
out_tag BadHeader = ValueError
out_tag NoRoute = ConnectionError
out_tag BadBody = ValueError

-- the first route for a host, without case
abbrev pub route : Routes → Text → Option Address
route [] host = None
route (r ∷ rs) host = if bytes_eq (lowercase r.0) (lowercase host) then Some r.1 else route rs host

-- without a route, `http` goes to the host itself
abbrev pub direct : Url → Option Address
direct u = if bytes_eq u.scheme (codes "http") then Some (record { name = authority_host u.authority; port = port_of (port_text u.authority) }) else None

abbrev pub first_of_two : {A : Type 0} → Option A → Option A → Option A
first_of_two None b = b
first_of_two (Some a) b = Some a

abbrev pub query_text : Option Text → Text
query_text None = []
query_text (Some q) = codes "?" ++ q

abbrev pub target_of : Text → Text
target_of kept = path_of kept ++ query_text (query_of kept)

abbrev pub goal_at : Url → Option Address → Result Goal OutFault
goal_at u None = Err NoRoute
goal_at u (Some a) = Ok (record { address = a; authority = u.authority; target = target_of u.kept })

abbrev pub goal_of : Option Url → Routes → Result Goal OutFault
goal_of None routes = Err BadUrl
goal_of (Some u) routes = goal_at u (first_of_two (route routes (authority_host u.authority)) (direct u))

-- where a URL sends a call
abbrev pub goal : Text → Routes → Result Goal OutFault
goal s routes = goal_of (url s) routes
