-- Places: what a value becomes by an assignment to the places below it.
--     written     of a value that is there
--     made_new    of a variable that isn't
use Rattle.std.specs.Prelude.{List, [], ◌∷◌, pos, negsuc, slice_get, slice_set, Ok, Err}
use Rattle.wf_value.specs.Data.{Data, integer, text, list, map, items_of}
use Rattle.wf_value.specs.Errors.{Answer, ◌>>=◌, or_error}
use Rattle.wf_value.specs.declared.Tag.TheVariants.{IndexError, KeyError, TypeError}
use Rattle.wf_value.specs.Pairs.{items, get, put}

-- The value with a new one put at the places below it. A missing last key of a map is added; another missing key, an index outside its
-- list and any other access are errors.
abbrev pub written : List Data → Data → Data → Answer Data
written [] v new = Ok new
written (text k ∷ []) (map ps) new = Ok (map (put k new ps))
written (text k ∷ ks) (map ps) new = or_error KeyError (get k ps) >>= λ w. written ks w new >>= λ u. Ok (map (put k u ps))
written (integer (pos i) ∷ ks) (list vs) new =
    or_error IndexError (slice_get (items vs) i) >>= λ w. written ks w new >>= λ u. Ok (list (items_of (slice_set (items vs) i u)))
written (integer (negsuc i) ∷ ks) (list vs) new = Err IndexError
written ks v new = Err TypeError

-- a variable that isn't there has no places
abbrev pub made_new : List Data → Data → Answer Data
made_new [] v = Ok v
made_new (k ∷ ks) v = Err KeyError
