use Rattle.std.proofs.Common.{◌≡◌, ◌++◌, drop, map}
use Rattle.wf_scope.specs.Places.{key_data}
use Rattle.wf_value.specs.Plain.{plain_items}
use Rattle.wf_frames.proofs.places.keys_of.Given as goal

-- the keys so far, and what is left
abbrev pub invariant-loop-place : goal.invariant-loop-place
invariant-loop-place l = map key_data l.keys.items ++ plain_items (drop l.place-index l.places) ≡ plain_items l.places
