-- What the code returns, without where it lies in memory.
use Rattle.std.specs.Prelude.{◌≡◌, ℕ, List, ◌++◌, Bool, ◌&&◌, Result, Ok, Err, Option, Some, None, option_map, map, string_bytes}
use Rattle.wf_yaml_line.specs.Fault.{Fault}
use Rattle.wf_yaml_line.specs.Quoted as quotes
use Rattle.wf_yaml_line.specs.Keys as keys
use Rattle.wf_yaml_line.specs.declared.key_set.KeySet.{KeySet}
use Rattle.wf_yaml_line.specs.declared.fault.YamlFault.{YamlFault}
use Rattle.wf_yaml_line.specs.declared.fault.YamlFault.TheVariants as faults
use Rattle.wf_yaml_line.specs.declared.quoted.Quoted.{Quoted}
use Rattle.wf_yaml_line.specs.declared.keys.Key.{Key}

-- a quoted scalar
abbrev pub quoted_view : Quoted → quotes.Quoted
quoted_view q = record { chars = q.chars.items; rest = option_map (λ r. r.now) q.rest; good = q.good }

-- What was read so far goes in front of what is still to be read.
abbrev pub onto : List ℕ → Bool → quotes.Quoted → quotes.Quoted
onto front so_far q = record { chars = front ++ q.chars; rest = q.rest; good = so_far && q.good }

-- a key
abbrev pub key_view : Key → keys.Key
key_view k = record { text = k.text; fault = k.fault; rest = k.rest.now }

-- the keys of a set
abbrev pub keys_of : KeySet → List (List ℕ)
keys_of s = map string_bytes s.keys.keys

-- A function's error is the refusal that reading gives, unless memory ran out.
abbrev pub Fails : {Y : Type 0} → YamlFault → Result Y Fault → Type 0
Fails faults.OutOfMemory read = Unit {0}
Fails (faults.Refused f) read = read ≡ Err f

-- What a function returned, seen by view, is what reading gives, unless memory ran out.
abbrev pub ReadsAs : {X Y : Type 0} → (X → Y) → Result X YamlFault → Result Y Fault → Type 0
ReadsAs view (Ok x) read = read ≡ Ok (view x)
ReadsAs view (Err e) read = Fails e read

-- what was found so far: a value, unless a fault was noted
abbrev pub so_far : {A : Type 0} → A → Option Fault → Result A Fault
so_far a None = Ok a
so_far a (Some f) = Err f
