-- What this crate's types are, as plain data.
use Rattle.std.specs.Prelude.{◌≡◌, ◌<◌, ◌≤◌, ℕ, Bool, true, false}
use Rattle.httparse.specs.Grammar.{RequestHead}
use Rattle.wf_value.specs.HttpBody as plain
use Rattle.wf_value.specs.HttpText as text
use Rattle.wf_http_serve.specs.declared.asker.VisitState.{VisitState}
use Rattle.wf_http_serve.specs.declared.asker.VisitState.TheVariants as state
use Rattle.wf_http_serve.specs.declared.framing.Framing.{Framing}
use Rattle.wf_http_serve.specs.declared.framing.Framing.TheVariants as framing
use Rattle.wf_http_serve.specs.declared.reply.ReplyCode.{ReplyCode}
use Rattle.wf_http_serve.specs.declared.reply.ReplyCode.TheVariants as code
use Rattle.wf_http_serve.specs.declared.request.Request.{Request}
use Rattle.wf_http_serve.specs.Visits as visits
use Rattle.wf_http_serve.specs.Visits.{visit_limit}

abbrev pub plain_code : ReplyCode → text.ReplyCode
plain_code code.Accepted = text.Accepted
plain_code code.BadRequest = text.BadRequest
plain_code code.NotFound = text.NotFound
plain_code code.MethodNotAllowed = text.MethodNotAllowed
plain_code code.TooLarge = text.ContentTooLarge
plain_code code.TooMany = text.TooManyRequests

abbrev pub plain_state : VisitState → visits.VisitState
plain_state state.NotYet = visits.NotYet
plain_state (state.Asked a) = visits.Asks a.request.now.method a.request.now.target a.request.now.fields a.body.now
plain_state state.Bad = visits.Bad
plain_state state.TooLarge = visits.TooLarge

-- how the connection stands
abbrev pub close_of : Bool → plain.Close
close_of true = plain.Ended
close_of false = plain.Open

-- the code's framing is this one
abbrev pub IsFramed : Framing → plain.Framing → Type 0
IsFramed framing.Empty f = f ≡ plain.NoBody
IsFramed (framing.OfLength n) f = (f ≡ plain.OfLength n) × (n ≤ visit_limit)
IsFramed framing.TooLarge f = (n : ℕ) × (f ≡ plain.OfLength n) × (visit_limit < n)
IsFramed framing.InChunks f = f ≡ plain.InChunks
IsFramed framing.Bad f = f ≡ plain.BadFraming

-- what a head asks
pub record IsAskedBy (h : RequestHead) (r : Request) : Type 0 where
  pub method : r.method ≡ h.method
  pub target : r.target ≡ h.target
  pub fields : r.fields ≡ plain.headers_of h.fields
