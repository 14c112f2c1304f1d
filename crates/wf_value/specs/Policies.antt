-- Retry policies: delays, and the predefined predicates.
--     next_delay        in milliseconds; a multiplier is in thousandths
--     default_says      which errors a predefined predicate retries
use Rattle.std.specs.Prelude.{ℕ, ◌*◌, ◌/◌, min, Bool, false, ◌||◌, List, [], ◌∷◌, pos, nat_eq, Some, None, codes, bytes_eq, Option}
use Rattle.std.specs.List.{list_any}
use Rattle.wf_value.specs.Data.{Data, integer, text, list, map}
use Rattle.wf_value.specs.Pairs.{Text, items, get}
pub use Rattle.wf_value.specs.declared.policies.DefaultKind.{DefaultKind}
pub use Rattle.wf_value.specs.declared.policies.DefaultKind.TheVariants.{Idempotent, NonIdempotent}
pub use Rattle.wf_value.specs.declared.policies.Backoff.{Backoff}

-- the delay after the last one, or the first, which isn't bounded
abbrev pub next_delay : Backoff → Option ℕ → ℕ
next_delay b None = b.initial
next_delay b (Some d) = min b.max (d * b.multiplier / 1000)

-- the code is one of these
abbrev pub has_code : List ℕ → Option Data → Bool
has_code ns (Some (integer (pos n))) = list_any (nat_eq n) ns
has_code ns v = false

abbrev pub is_text : Text → Data → Bool
is_text t (text u) = bytes_eq t u
is_text t v = false

-- the list of tags has this text
abbrev pub has_tag : Text → Option Data → Bool
has_tag t (Some (list ds)) = list_any (is_text t) (items ds)
has_tag t v = false

-- what a predefined predicate says of an error; of one that isn't a map it says no
abbrev pub default_says : DefaultKind → Data → Bool
default_says Idempotent (map e) =
    has_code (429 ∷ 502 ∷ 503 ∷ 504 ∷ []) (get (codes "code") e)
    || has_tag (codes "ConnectionError") (get (codes "tags") e) || has_tag (codes "TimeoutError") (get (codes "tags") e)
default_says NonIdempotent (map e) = has_code (429 ∷ 503 ∷ []) (get (codes "code") e)
default_says d v = false
