-- The kinds of a call's arguments.
use Rattle.std.specs.Prelude.{◌≡◌, ◌≢◌, Bool, true, false, ◌&&◌, Some, None, Err, codes, Option}
use Rattle.wf_value.specs.Events.{Method}
use Rattle.wf_value.specs.HttpRequest.{asked}
use Rattle.wf_value.specs.Data.{Data, boolean, integer, text, map, Pairs, no_pairs, pair}
use Rattle.wf_value.specs.Pairs.{get}
use Rattle.wf_value.specs.declared.Tag.TheVariants.{TypeError}

abbrev pub is_text : Option Data → Bool
is_text (Some (text t)) = true
is_text v = false

-- absent, or a whole number
abbrev pub is_whole : Option Data → Bool
is_whole None = true
is_whole (Some (integer n)) = true
is_whole (Some v) = false

-- a text or a whole number
abbrev pub is_field_kind : Data → Bool
is_field_kind (text t) = true
is_field_kind (integer n) = true
is_field_kind v = false

-- also a truth value
abbrev pub is_query_kind : Data → Bool
is_query_kind (boolean b) = true
is_query_kind v = is_field_kind v

abbrev pub all_values : (Data → Bool) → Pairs → Bool
all_values is_kind no_pairs = true
all_values is_kind (pair k v ps) = is_kind v && all_values is_kind ps

-- absent, or a map whose values are all of the kind
abbrev pub is_map_of : (Data → Bool) → Option Data → Bool
is_map_of is_kind None = true
is_map_of is_kind (Some (map ps)) = all_values is_kind ps
is_map_of is_kind (Some v) = false

-- the call's own name tells the method, or the arguments have a text for it
abbrev pub is_method_kind : Option Method → Pairs → Bool
is_method_kind (Some m) args = true
is_method_kind None args = is_text (get (codes "method") args)

-- each argument is of its kind; those of other names may be of any
abbrev pub are_kinds : Option Method → Pairs → Bool
are_kinds m args =
    is_method_kind m args && is_text (get (codes "url") args)
    && is_map_of is_field_kind (get (codes "headers") args)
    && is_map_of is_query_kind (get (codes "query") args)
    && is_whole (get (codes "timeout") args)

-- a TypeError is the answer where a kind is wrong, and nowhere else
pub record KindsComeFirst : Type 0 where
  pub wrong :
      (m : Option Method) (args : Pairs) → are_kinds m args ≡ false → asked m args ≡ Err TypeError
  pub right :
      (m : Option Method) (args : Pairs) → are_kinds m args ≡ true → asked m args ≢ Err TypeError
