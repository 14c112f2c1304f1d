-- Names that are known at a place.
use Rattle.std.specs.Prelude.{◌≡◌, ◌||◌, List, map, string_bytes}
use Rattle.wf_symbols.specs.declared.names.Names.{Names}
use Rattle.wf_value.specs.HttpRequest.{is_among}
use Rattle.wf_value.specs.Pairs.{Text}

-- the names of a set, in the order of their bytes
abbrev pub names_of : Names → List Text
names_of s = map string_bytes s.names.keys

-- these names more and no others
pub record Adds (old : Names) (new : Names) (xs : List Text) : Type 0 where
  pub has : (x : Text) → is_among x (names_of new) ≡ (is_among x xs || is_among x (names_of old))
