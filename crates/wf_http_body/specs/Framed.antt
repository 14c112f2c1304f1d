-- What the fields of a head tell of its body.
--     IsLength    by Content-Length, where a body has at most so many bytes
--     IsCoding    by Transfer-Encoding
use Rattle.std.specs.Prelude.{◌≡◌, ◌<◌, ◌≤◌, ℕ, [], codes}
use Rattle.wf_value.specs.Events.{Headers}
use Rattle.wf_value.specs.HttpBody.{Framing, OfLength, InChunks, BadFraming, by_fields, by_length, lengths_in}
use Rattle.wf_value.specs.HttpText.{values_of}
use Rattle.wf_http_body.specs.declared.framing.Coding.{Coding}
use Rattle.wf_http_body.specs.declared.framing.Coding.TheVariants as coding
use Rattle.wf_http_body.specs.declared.framing.Length.{Length}
use Rattle.wf_http_body.specs.declared.framing.Length.TheVariants as told

-- by Content-Length alone a body is framed so, whatever its absence means
abbrev pub FramesByLength : Headers → Framing → Type 0
FramesByLength fs f = (absent : Framing) → by_length absent (lengths_in fs) ≡ f

abbrev pub IsLength : ℕ → Headers → Length → Type 0
IsLength limit fs told.Absent = lengths_in fs ≡ []
IsLength limit fs (told.Within n) = FramesByLength fs (OfLength n) × (n ≤ limit)
IsLength limit fs told.Past = (n : ℕ) × FramesByLength fs (OfLength n) × (limit < n)
IsLength limit fs told.Bad = FramesByLength fs BadFraming

-- by both, whatever their absence means
abbrev pub Frames : Headers → Framing → Type 0
Frames fs f = (absent : Framing) → by_fields absent fs ≡ f

abbrev pub IsCoding : Headers → Coding → Type 0
IsCoding fs coding.Absent = values_of (codes "transfer-encoding") fs ≡ []
IsCoding fs coding.Chunked = Frames fs InChunks
IsCoding fs coding.Other = Frames fs BadFraming
