-- What a media type says of a body.
use Rattle.std.specs.Prelude.{Bool, if◌then◌else◌, ◌==◌, not, codes, bytes_eq, length}
use Rattle.wf_value.specs.Events.{Headers}
use Rattle.wf_value.specs.HttpText.{json_type, values_of}
use Rattle.wf_value.specs.LibText.{starts_with}
use Rattle.wf_value.specs.Pairs.{Text}
use Rattle.wf_http_value.specs.declared.media.Media.{Media}
use Rattle.wf_http_value.specs.declared.media.Media.TheVariants as media

-- the kind of a media type
abbrev pub kind_of : Text → Media
kind_of t =
    if bytes_eq t json_type then media.Json
    else if starts_with (codes "text/") t then media.Text else media.Other

-- a field Content-Encoding is there
abbrev pub is_encoded : Headers → Bool
is_encoded fs = not (length (values_of (codes "content-encoding") fs) == 0)
