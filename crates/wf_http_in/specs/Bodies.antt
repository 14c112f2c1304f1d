-- The bytes behind the head of an answer (RFC 9112, section 6).
--     IsBody    a whole body, not yet one, a malformed one, or one that is too long
use Rattle.std.specs.Prelude.{◌≡◌, ℕ, Bool, ◌||◌, List, [], ◌==◌, if◌then◌else◌}
use Rattle.wf_value.specs.Events.{Headers}
use Rattle.wf_value.specs.HttpBody.{Close, BodyState, Complete, Malformed, Framing, NoBody, OfLength, InChunks, ToTheEnd, BadFraming, by_fields, length_state, end_state}
use Rattle.wf_http_body.specs.Chunks.{IsChunkedBody}

-- the bytes of a body, at most
abbrev pub answer_limit : ℕ
answer_limit = 2097152

-- no body follows these codes
abbrev pub has_no_body : ℕ → Bool
has_no_body code = code == 204 || code == 304

-- without fields that tell its length, a body goes to the connection's end
abbrev pub framing_of : ℕ → Headers → Framing
framing_of code fields = if has_no_body code then NoBody else by_fields ToTheEnd fields

-- a body of this framing, of all bytes heard of it
abbrev pub IsBody : ℕ → Framing → Close → List ℕ → BodyState → Type 0
IsBody limit NoBody close b s = s ≡ Complete []
IsBody limit (OfLength n) close b s = s ≡ length_state limit close b n
IsBody limit InChunks close b s = IsChunkedBody limit close b s
IsBody limit ToTheEnd close b s = s ≡ end_state limit close b
IsBody limit BadFraming close b s = s ≡ Malformed
