-- The request of a call as plain data, and the errors of what can't be sent.
use Rattle.wf_http_ask.specs.declared.request.Request.{Request}
use Rattle.wf_http_out.specs.View.{address_view}
use Rattle.wf_http_out.specs.declared.fault.OutFault.{OutFault}
use Rattle.wf_http_out.specs.declared.fault.OutFault.TheVariants as fault
use Rattle.wf_value.specs.HttpRequest as request
use Rattle.wf_value.specs.HttpUrl as url
use Rattle.wf_value.specs.declared.errors.Raise.{Raise}
use Rattle.wf_value.specs.declared.errors.Raise.TheVariants.{Error, OutOfMemory}

abbrev pub request_view : Request → request.Request
request_view r = record { address = address_view r.address; bytes = r.bytes }

-- the error that a fault raises; want of memory is none
abbrev pub raise_of : OutFault → Raise
raise_of fault.BadUrl = Error (url.out_tag url.BadUrl)
raise_of fault.BadHeader = Error (url.out_tag url.BadHeader)
raise_of fault.NoRoute = Error (url.out_tag url.NoRoute)
raise_of fault.BadBody = Error (url.out_tag url.BadBody)
raise_of fault.OutOfMemory = OutOfMemory
