-- Places below a value.
--     key_data              a place, as assignments have it
--     member                what stands at a place
--     with_member           the value with another one there
use Rattle.std.specs.Prelude.{List, ℤ, pos, negsuc, slice_get, slice_set, None, Ok, Err, Option}
use Rattle.wf_value.specs.Data.{Data, integer, text, list, map, items_of}
use Rattle.wf_value.specs.Errors.{Answer, ◌>>=◌, or_error}
use Rattle.wf_value.specs.Pairs.{Text, items, get, put}
use Rattle.wf_value.specs.declared.Tag.TheVariants.{IndexError, KeyError, TypeError}
use Rattle.wf_scope.specs.declared.key.Key.{Key}
use Rattle.wf_scope.specs.declared.key.Key.TheVariants as key

-- a place, as assignments have it
abbrev pub key_data : Key → Data
key_data (key.Name t) = text t
key_data (key.At i) = integer i

-- the item at an index
abbrev pub item_at : ℤ → List Data → Option Data
item_at (pos i) vs = slice_get vs i
item_at (negsuc i) vs = None

-- what stands at a place
abbrev pub member : Data → Data → Answer Data
member (text k) (map ps) = or_error KeyError (get k ps)
member (integer i) (list vs) = or_error IndexError (item_at i (items vs))
member k v = Err TypeError

-- a list of these items with another one at an index
abbrev pub with_item : ℤ → Data → List Data → Answer Data
with_item (pos i) u vs = or_error IndexError (slice_get vs i) >>= λ w. Ok (list (items_of (slice_set vs i u)))
with_item (negsuc i) u vs = Err IndexError

-- a map with another value at a key, which may be a new one
abbrev pub with_key : Text → Data → Data → Answer Data
with_key k u (map ps) = Ok (map (put k u ps))
with_key k u v = Err TypeError

-- with another value at a place
abbrev pub with_member : Data → Data → Data → Answer Data
with_member (text k) u v = with_key k u v
with_member (integer i) u (list vs) = with_item i u (items vs)
with_member k u v = Err TypeError
