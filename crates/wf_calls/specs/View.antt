-- A call as plain data.
use Rattle.wf_calls.specs.declared.call.State.{State}
use Rattle.wf_calls.specs.declared.call.State.TheVariants as state
use Rattle.wf_calls.specs.declared.closed.Closed.{Closed}
use Rattle.wf_calls.specs.declared.closed.Closed.TheVariants as closed
use Rattle.wf_http_ask.specs.View.{request_view}
use Rattle.wf_model.specs.Config.{Call, Open, Answered, TimedOut}

-- a call that was closed so
abbrev pub closed_view : Closed → Call
closed_view closed.Answered = Answered
closed_view closed.TimedOut = TimedOut

abbrev pub state_view : State → Call
state_view (state.Open o) = Open o.task (request_view o.request) o.due
state_view (state.Closed how) = closed_view how
