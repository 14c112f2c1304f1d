-- Events, turns and the start of an execution, as plain data.
--     Event, Turn, Start           of a journal
--     Method, Visitor, Reply       what events hold
--     severity_named               the severities of logged values
use Rattle.std.specs.Prelude.{ℕ, Bool, List, [], ◌∷◌, if◌then◌else◌, Some, None, codes, bytes_eq, Option}
use Rattle.wf_value.specs.Pairs.{Text}
pub use Rattle.wf_value.specs.declared.severity.Severity.{Severity}
use Rattle.wf_value.specs.declared.severity.Severity.TheVariants as severity

-- ## Methods
-- of calls and of callback endpoints
pub data Method : Type 0 where
  Get : Method
  Post : Method
  Put : Method
  Patch : Method
  Delete : Method
  Options : Method

abbrev pub method_name : Method → Text
method_name Get = codes "GET"
method_name Post = codes "POST"
method_name Put = codes "PUT"
method_name Patch = codes "PATCH"
method_name Delete = codes "DELETE"
method_name Options = codes "OPTIONS"

abbrev pub methods : List Method
methods = Get ∷ Post ∷ Put ∷ Patch ∷ Delete ∷ Options ∷ []

-- upper case alone
abbrev pub is_named : Text → Method → Bool
is_named x m = bytes_eq x (method_name m)

abbrev pub method_in : List Method → Text → Option Method
method_in [] x = None
method_in (m ∷ ms) x = if is_named x m then Some m else method_in ms x

-- the method of this name
abbrev pub method_named : Text → Option Method
method_named x = method_in methods x

-- ## What is heard
-- the fields of a head: names and values, in order
abbrev pub Headers : Type 0
Headers = List (List ℕ × List ℕ)

-- a request that came to an endpoint
pub record Visitor : Type 0 where
  pub method : Method
  pub headers : Headers
  pub body : List ℕ

-- what is kept of an answer to a call
pub data Reply : Type 0 where
  Response : (code : ℕ) → (headers : Headers) → (body : List ℕ) → Reply
  Broken : Reply
  TooLong : Reply

-- ## Events and turns
-- the atomic steps of an execution
pub data Event : Type 0 where
  Move : (task : ℕ) → Event
  MoveAt : (task reading : ℕ) → Event
  Begin : (task : ℕ) → Event
  Issue : (task reading : ℕ) → Event
  Answer : (call reading : ℕ) → Reply → Event
  Due : (task reading : ℕ) → Event
  Arrive : (endpoint reading : ℕ) → Visitor → Event
  Cancel : (reading : ℕ) → Event

-- the events that were added at once: by which session, and how often that session had waited
pub record Turn : Type 0 where
  pub session : ℕ
  pub waits : ℕ
  pub events : List Event

-- ## Starts
-- where calls are sent
pub record Address : Type 0 where
  pub name : Text
  pub port : ℕ

-- addresses by the names of hosts
abbrev pub Routes : Type 0
Routes = List (Text × Address)

-- what an execution is started with; the argument and the source are bytes as they were read
pub record Start : Type 0 where
  pub rules : ℕ
  pub id : Text
  pub source : List ℕ
  pub argument : List ℕ
  pub routes : Routes
  pub env : List (Text × Text)
  pub base : Text
  pub reading : ℕ

-- ## Severities
-- how grave a logged value is
abbrev pub severity_name : Severity → Text
severity_name severity.Default = codes "DEFAULT"
severity_name severity.Debug = codes "DEBUG"
severity_name severity.Info = codes "INFO"
severity_name severity.Notice = codes "NOTICE"
severity_name severity.Warning = codes "WARNING"
severity_name severity.Error = codes "ERROR"
severity_name severity.Critical = codes "CRITICAL"
severity_name severity.Alert = codes "ALERT"
severity_name severity.Emergency = codes "EMERGENCY"

abbrev pub severity_in : List Severity → Text → Option Severity
severity_in [] x = None
severity_in (s ∷ ss) x = if bytes_eq x (severity_name s) then Some s else severity_in ss x

abbrev pub severities : List Severity
severities =
    severity.Default ∷ severity.Debug ∷ severity.Info ∷ severity.Notice ∷ severity.Warning ∷ severity.Error ∷ severity.Critical
    ∷ severity.Alert ∷ severity.Emergency ∷ []

-- the severity of this name, in upper case
abbrev pub severity_named : Text → Option Severity
severity_named x = severity_in severities x
