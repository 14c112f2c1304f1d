-- Callback endpoints, each with a method and a queue of requests that nobody has taken.
--     arrive_fault      why a request can't join a queue
--     arrived           with the request at the queue's end
use Rattle.std.specs.Prelude.{ℕ, zero, suc, Bool, not, ◌||◌, List, [], ◌∷◌, ◌++◌, length, if◌then◌else◌, nat_lt, nat_le, slice_get, Some, None, bytes_eq, Option}
use Rattle.wf_value.specs.Events.{Method, method_name, Visitor}

-- an endpoint, its oldest request first
pub record Endpoint : Type 0 where
  pub method : Method
  pub queue : List Visitor

-- requests in one queue
abbrev pub queue_limit : ℕ
queue_limit = 100

-- endpoints are numbered from 1
abbrev pub endpoint_at : List Endpoint → ℕ → Option Endpoint
endpoint_at es zero = None
endpoint_at es (suc i) = slice_get es i

-- endpoint n has this queue
abbrev pub with_queue : ℕ → List Visitor → List Endpoint → List Endpoint
with_queue n vs [] = []
with_queue zero vs (e ∷ es) = e ∷ es
with_queue (suc zero) vs (e ∷ es) = record e { queue = vs } ∷ es
with_queue (suc (suc n)) vs (e ∷ es) = e ∷ with_queue (suc n) vs es

-- in the order in which they are looked for
pub data ArriveFault : Type 0 where
  UnknownEndpoint : ArriveFault
  WrongMethod : ArriveFault
  QueueFull : ArriveFault

abbrev pub same_method : Method → Method → Bool
same_method m n = bytes_eq (method_name m) (method_name n)

abbrev pub fault_at : Option Endpoint → Visitor → ℕ → Option ArriveFault
fault_at None v left = Some UnknownEndpoint
fault_at (Some e) v left =
    if not (same_method e.method v.method) then Some WrongMethod else
    (if nat_le queue_limit (length e.queue) || nat_lt left (length v.body) then Some QueueFull else None)

-- why a request can't join a queue, with so many bytes left for bodies
abbrev pub arrive_fault : List Endpoint → ℕ → Visitor → ℕ → Option ArriveFault
arrive_fault es n v left = fault_at (endpoint_at es n) v left

-- with the request at the end of the queue
abbrev pub arrived : List Endpoint → ℕ → Visitor → List Endpoint
arrived es n v = elim (endpoint_at es n) [ None ↦ es | Some e ↦ with_queue n (e.queue ++ v ∷ []) es ]

-- the requests that wait for endpoint n
abbrev pub queue_of : List Endpoint → ℕ → List Visitor
queue_of es n = elim (endpoint_at es n) [ None ↦ [] | Some e ↦ e.queue ]
