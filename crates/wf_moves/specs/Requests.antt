-- The requests of calls of HTTP.
--     Reaches        where URLs lead in a scene, how many calls it has, and how much was logged
--     request_by     the request for which arguments ask, or their first error
use Rattle.std.specs.Prelude.{◌≡◌, ◌*◌, ℕ, List, Ok, Option, option_map}
use Rattle.wf_callbacks.specs.Plain.{plain_method}
use Rattle.wf_callbacks.specs.declared.method.Method.{Method}
use Rattle.wf_frames.specs.declared.facts.Facts.{Facts}
use Rattle.wf_host.specs.declared.data.Address.{Address}
use Rattle.wf_http_ask.specs.View.{request_view}
use Rattle.wf_http_out.specs.View.{routes_view}
use Rattle.wf_model.specs.Local.{Scene}
use Rattle.wf_moves.specs.declared.sending.Sending.{Sending}
use Rattle.wf_moves.specs.declared.sending.Sent.{Sent}
use Rattle.wf_value.specs.HttpRequest.{Request, asked, request}
use Rattle.wf_value.specs.Data.{Pairs}
use Rattle.wf_value.specs.Errors.{Answer, ◌>>=◌, later}

-- URLs lead in a scene where these routes say, it has so many calls, and so much was logged
pub record Reaches (s : Scene) (x : Sending) : Type 0 where
  pub routes : s.facts.routes ≡ routes_view x.routes
  pub calls : s.calls ≡ x.calls
  pub logged : s.logged ≡ x.logged

-- a request, and until when its answer is waited for
abbrev pub sent_view : Sent → Request × ℕ
sent_view x = (request_view x.request, x.due)

-- what the arguments of call n ask for, and until when from the last reading on
abbrev pub request_by : Option Method → Pairs → Facts → List (List ℕ × Address) → ℕ → Answer (Request × ℕ)
request_by m args f routes n =
    asked (option_map plain_method m) args >>= λ a. request (routes_view routes) a f.id n >>= λ q. Ok (q, later f.now (a.timeout * 1000))
