-- The text of a path: keys joined by points, an index in brackets, `source` for the empty path.
use Rattle.std.specs.Prelude.{ℕ, List, [], ◌∷◌, ◌++◌, codes, decimal}
use Rattle.wf_value.specs.declared.path.PathPart.{PathPart}
use Rattle.wf_value.specs.declared.path.PathPart.TheVariants.{Key, Index}

-- an index in brackets
abbrev pub index_text : ℕ → List ℕ
index_text i = codes "[" ++ decimal i ++ codes "]"

-- a part that others come before
abbrev pub part_text : PathPart → List ℕ
part_text (Key k) = codes "." ++ k
part_text (Index i) = index_text i

-- the parts that follow the first
abbrev pub rest_text : List PathPart → List ℕ
rest_text [] = []
rest_text (p ∷ ps) = part_text p ++ rest_text ps

-- the first part, a key with no point before it
abbrev pub first_text : PathPart → List ℕ
first_text (Key k) = k
first_text (Index i) = index_text i

-- the whole path
abbrev pub path_text : List PathPart → List ℕ
path_text [] = codes "source"
path_text (p ∷ ps) = first_text p ++ rest_text ps
