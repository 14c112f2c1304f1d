-- The functions of lists, maps, JSON and base64.
use Rattle.std.specs.Prelude.{List, [], ◌∷◌, ◌++◌, if◌then◌else◌, Some, None, Err, fold, Option, unwrap_or, option_map}
use Rattle.base64.specs.Engines.{standard}
use Rattle.base64.specs.GeneralPurpose.{encode_of, decoded_of}
use Rattle.wf_value.specs.Data.{Data, null, text, bytes, list, map, Items, no_items, item, Pairs, no_pairs, pair, items_of}
use Rattle.wf_value.specs.Decode.{json_value}
use Rattle.wf_value.specs.Errors.{Answer, ◌>>=◌, or_error, sized}
use Rattle.wf_value.specs.declared.errors.Tag.TheVariants.{KeyError, TypeError, ValueError}
use Rattle.wf_value.specs.Json.{json_text}
use Rattle.wf_value.specs.Pairs.{Text, items, get, put, drop_key, has_key}

abbrev pub list_concat : Data → Data → Answer Data
list_concat (list ds) v = sized (list (items_of (items ds ++ v ∷ [])))
list_concat w v = Err TypeError

abbrev pub list_prepend : Data → Data → Answer Data
list_prepend (list ds) v = sized (list (item v ds))
list_prepend w v = Err TypeError

-- a map's value at a key, and null where there is none
abbrev pub follow : Data → Text → Data
follow (map ps) k = unwrap_or (get k ps) null
follow v k = null

abbrev pub texts_in : Items → Option (List Text)
texts_in no_items = Some []
texts_in (item (text t) ds) = option_map (λ ts. t ∷ ts) (texts_in ds)
texts_in (item v ds) = None

-- one key after another
abbrev pub follow_all : Data → Option (List Text) → Answer Data
follow_all v None = Err TypeError
follow_all v (Some ks) = sized (fold follow v ks)

abbrev pub map_get : Data → Data → Answer Data
map_get v (text k) = sized (follow v k)
map_get v (list ks) = follow_all v (texts_in ks)
map_get v w = Err TypeError

abbrev pub map_delete : Data → Data → Answer Data
map_delete (map ps) (text k) = if has_key k ps then sized (map (drop_key k ps)) else Err KeyError
map_delete v w = Err TypeError

-- the second map's values win
abbrev pub merged : Pairs → Pairs → Pairs
merged ps no_pairs = ps
merged ps (pair k d qs) = merged (put k d ps) qs

abbrev pub map_merge : Data → Data → Answer Data
map_merge (map ps) (map qs) = sized (map (merged ps qs))
map_merge v w = Err TypeError

abbrev pub json_encode : Data → Answer Data
json_encode v = sized (bytes (json_text v))

abbrev pub json_encode_to_string : Data → Answer Data
json_encode_to_string v = sized (text (json_text v))

abbrev pub json_decode : Data → Answer Data
json_decode (text s) = or_error ValueError (json_value s) >>= sized
json_decode (bytes b) = or_error ValueError (json_value b) >>= sized
json_decode v = Err TypeError

abbrev pub base64_encode : Data → Answer Data
base64_encode (bytes b) = sized (text (encode_of standard b))
base64_encode v = Err TypeError

abbrev pub base64_decode : Data → Answer Data
base64_decode (text s) = or_error ValueError (decoded_of standard s) >>= λ b. sized (bytes b)
base64_decode v = Err TypeError
