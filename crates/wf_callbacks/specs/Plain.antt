-- What methods, requests and endpoints are, as plain data, and what an answer refuses.
use Rattle.std.specs.Prelude.{List, map, Option, Some, None, Result, Ok, Err}
use Rattle.wf_value.specs.Events as events
use Rattle.wf_value.specs.Queues as queues
use Rattle.wf_callbacks.specs.declared.fault.ArriveFault.{ArriveFault}
use Rattle.wf_callbacks.specs.declared.fault.ArriveFault.TheVariants as fault
use Rattle.wf_callbacks.specs.declared.method.Method.{Method}
use Rattle.wf_callbacks.specs.declared.method.Method.TheVariants as method
use Rattle.wf_callbacks.specs.declared.visitor.Visitor.{Visitor}

abbrev pub plain_method : Method → events.Method
plain_method method.Get = events.Get
plain_method method.Post = events.Post
plain_method method.Put = events.Put
plain_method method.Patch = events.Patch
plain_method method.Delete = events.Delete
plain_method method.Options = events.Options

abbrev pub plain_visitor : Visitor → events.Visitor
plain_visitor v = record { method = plain_method v.method; headers = v.headers; body = v.body }

-- an endpoint of this method, and the requests that wait there
abbrev pub plain_endpoint : Method → List Visitor → queues.Endpoint
plain_endpoint m vs = record { method = plain_method m; queue = map plain_visitor vs }

-- the cause that a fault tells; want of memory is none
abbrev pub cause : ArriveFault → Option queues.ArriveFault
cause fault.Unknown = Some queues.UnknownEndpoint
cause fault.WrongMethod = Some queues.WrongMethod
cause fault.QueueFull = Some queues.QueueFull
cause fault.OutOfMemory = None

-- the cause that an answer tells
abbrev pub told : Result (Unit {0}) ArriveFault → Option queues.ArriveFault
told (Ok u) = None
told (Err f) = cause f
