-- What this crate's types are, as plain data, and how an answer agrees with a definition's.
use Rattle.std.specs.Prelude.{◌≡◌, ℕ, List, map, Option, Some, None, IfSome, Result, Ok, Err}
use Rattle.wf_host.specs.declared.data.Address.{Address}
use Rattle.wf_value.specs.Events as plain
use Rattle.wf_value.specs.HttpUrl as url
use Rattle.wf_http_out.specs.declared.fault.OutFault.{OutFault}
use Rattle.wf_http_out.specs.declared.fault.OutFault.TheVariants as fault
use Rattle.wf_http_out.specs.declared.goal.Goal.{Goal}

abbrev pub address_view : Address → plain.Address
address_view a = record { name = a.name; port = a.port }

abbrev pub route_view : List ℕ × Address → List ℕ × plain.Address
route_view r = (r.0, address_view r.1)

abbrev pub routes_view : List (List ℕ × Address) → plain.Routes
routes_view rs = map route_view rs

abbrev pub goal_view : Goal → url.Goal
goal_view g = record { address = address_view g.address; authority = g.authority; target = g.target }

-- the cause that a fault tells; want of memory is none
abbrev pub cause : OutFault → Option url.OutFault
cause fault.BadUrl = Some url.BadUrl
cause fault.BadHeader = Some url.BadHeader
cause fault.NoRoute = Some url.NoRoute
cause fault.BadBody = Some url.BadBody
cause fault.OutOfMemory = None

-- the answer is the definition's, unless memory was wanting
abbrev pub AgreesWith : {A B : Type 0} → (A → B) → Result A OutFault → Result B url.OutFault → Type 0
AgreesWith view (Ok x) r = r ≡ Ok (view x)
AgreesWith view (Err e) r = IfSome (cause e) (λ f. r ≡ Err f)
