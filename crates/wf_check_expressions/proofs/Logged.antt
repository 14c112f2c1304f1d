-- How many of the arguments are logged.
use Rattle.std.proofs.Common.{ℕ, Bool, List, [], ◌∷◌, codes, filter, length, map}
use Rattle.wf_ast.specs.Tree.{field_names, fields}
use Rattle.wf_ast.specs.View.{field_view}
use Rattle.wf_ast.specs.declared.template.NamedTemplate.{NamedTemplate}
use Rattle.wf_value.specs.HttpRequest.{is_among}
use Rattle.wf_value.specs.Pairs.{Text}

-- one of the three that are logged
abbrev pub is_logged : Text → Bool
is_logged x = is_among x (codes "data" ∷ codes "text" ∷ codes "json" ∷ [])

-- how many are
abbrev pub logged : List NamedTemplate → ℕ
logged xs = length (filter is_logged (field_names (fields (map field_view xs))))
