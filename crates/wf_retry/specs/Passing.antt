-- Errors that may pass by themselves.
use Rattle.std.specs.Prelude.{Bool, ◌||◌, List, [], ◌∷◌, codes}
use Rattle.wf_value.specs.Policies.{has_code, has_tag}
use Rattle.wf_value.specs.Data.{Data}
use Rattle.wf_value.specs.Maps.{value_at}
use Rattle.wf_value.specs.Pairs.{Text}

-- an error of these pairs may pass by itself
abbrev pub may_pass : List (Text × Data) → Bool
may_pass ps =
    has_code (429 ∷ 502 ∷ 503 ∷ 504 ∷ []) (value_at (codes "code") ps)
    || has_tag (codes "ConnectionError") (value_at (codes "tags") ps) || has_tag (codes "TimeoutError") (value_at (codes "tags") ps)
