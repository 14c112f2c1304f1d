-- The names of fields.
use Rattle.std.specs.Prelude.{List, [], ◌∷◌, fold}
use Rattle.http_uri.specs.ByteClasses.{lowercase}
use Rattle.wf_value.specs.Pairs.{Text}

-- the names of some fields in lower case, the last one first
abbrev pub names_before : List (Text × Text) → List Text
names_before fs = fold (λ names f. lowercase f.0 ∷ names) [] fs
