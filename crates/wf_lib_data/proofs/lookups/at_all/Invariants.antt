use Rattle.std.proofs.Common.{◌≡◌, drop}
use Rattle.wf_value.specs.LibData.{follow_all, texts_in}
use Rattle.wf_value.specs.Data.{items_of}
use Rattle.wf_value.specs.Plain.{plain, plain_items}
use Rattle.wf_lib_data.specs.Lent.{or_null}
use Rattle.wf_lib_data.proofs.lookups.at_all.Given as goal

-- the keys that are left are followed from the value so far
abbrev pub invariant-loop-key : goal.invariant-loop-key
invariant-loop-key l = follow_all (or_null l.value) (texts_in (items_of (plain_items (drop l.key-index l.keys)))) ≡ follow_all (plain l.map) (texts_in (items_of (plain_items l.keys)))
