-- Maps of the language: their fields, and which form of a body they have.
use Rattle.std.specs.Prelude.{ℕ, ◌+◌, Bool, true, false, List, [], ◌∷◌, ◌++◌, Option, Some, None, is_some, codes, bytes_eq, map as mapped, if◌then◌else◌}
use Rattle.std.specs.List.{list_all}
use Rattle.wf_value.specs.HttpRequest.{is_among}
use Rattle.wf_tree.specs.Trees.{Tree, map, Pairs, no_pairs, pair}
use Rattle.wf_value.specs.Pairs.{Text}

-- ## Fields
abbrev pub keys : Pairs → List Text
keys no_pairs = []
keys (pair k t fs) = k ∷ keys fs

-- the tree at a key
abbrev pub field : Text → Pairs → Option Tree
field k no_pairs = None
field k (pair j t fs) = let more = field k fs in if bytes_eq k j then Some t else more

abbrev pub has : Text → Pairs → Bool
has k fs = is_some (field k fs)

abbrev pub is_empty : Pairs → Bool
is_empty no_pairs = true
is_empty (pair k t fs) = false

-- whether each of these keys is there, and whether there are no others
abbrev pub has_all : List Text → Pairs → Bool
has_all ks fs = list_all (λ k. has k fs) ks

abbrev pub has_only : List Text → Pairs → Bool
has_only ks fs = list_all (λ k. is_among k ks) (keys fs)

-- the pair of a map of one
abbrev pub single_of : Tree → Option (Text × Tree)
single_of (map (pair k t no_pairs)) = Some (k, t)
single_of t = None

-- ## Forms
-- the forms of a body, and the fields of each
abbrev pub forms : List (Text × List Text)
forms =
    (codes "assign", codes "assign" ∷ codes "next" ∷ [])
    ∷ (codes "call", codes "args" ∷ codes "call" ∷ codes "next" ∷ codes "result" ∷ [])
    ∷ (codes "for", codes "for" ∷ codes "next" ∷ [])
    ∷ (codes "parallel", codes "next" ∷ codes "parallel" ∷ [])
    ∷ (codes "raise", codes "raise" ∷ [])
    ∷ (codes "return", codes "return" ∷ [])
    ∷ (codes "steps", codes "next" ∷ codes "steps" ∷ [])
    ∷ (codes "switch", codes "next" ∷ codes "switch" ∷ [])
    ∷ (codes "try", codes "except" ∷ codes "next" ∷ codes "retry" ∷ codes "try" ∷ [])
    ∷ []

-- the forms that a body has
abbrev pub forms_in : List (Text × List Text) → Pairs → List (Text × List Text)
forms_in [] fs = []
forms_in (form ∷ more) fs = (if has form.0 fs then form ∷ [] else []) ++ forms_in more fs

abbrev pub form_names : Pairs → List Text
form_names fs = mapped (λ f. f.0) (forms_in forms fs)

-- the fields of a body with these forms; a body of two forms has none
abbrev pub fields_of : List (Text × List Text) → List Text
fields_of [] = codes "next" ∷ []
fields_of (form ∷ []) = form.1
fields_of more = []

abbrev pub body_fields : Pairs → List Text
body_fields fs = fields_of (forms_in forms fs)

-- ## How a form is found
-- how many of some keys a map has
abbrev pub count_of : Pairs → List Text → ℕ
count_of fs [] = 0
count_of fs (k ∷ ks) = (if has k fs then 1 else 0) + count_of fs ks

-- the fields of the first form that a map has
abbrev pub first_fields : List (Text × List Text) → Pairs → List Text
first_fields [] fs = codes "next" ∷ []
first_fields (form ∷ more) fs = let rest = first_fields more fs in if has form.0 fs then form.1 else rest
