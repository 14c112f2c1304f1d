-- The arguments of a workflow, and which workflow a retry asks.
use Rattle.std.proofs.Common.{◌≡◌, Bool, true, false, ◌&&◌, ◌||◌, List, [], ◌∷◌, ◌++◌, Option, Some, None, bytes_eq, refl, sym, ◌∙◌}
use Rattle.std.proofs.lemmas.List.Folds.{list_any-append}
use Rattle.std.specs.List.{list_all}
use Rattle.wf_ast.specs.Accept.{flow_signature, required}
use Rattle.wf_ast.specs.Func.{all_among, takes}
use Rattle.wf_ast.specs.Blocks.{first}
use Rattle.wf_ast.specs.Nodes.{Path, param_names}
use Rattle.wf_ast.specs.Tree.{Param}
use Rattle.wf_symbols.specs.Around.{SameNames}
use Rattle.wf_value.specs.HttpRequest.{is_among}
use Rattle.wf_value.specs.Data.{Data}
use Rattle.wf_value.specs.Pairs.{Text}

pub among_alike : (xs ys zs : List Text) → SameNames ys zs → all_among xs ys ≡ all_among xs zs
among_alike xs ys zs h = λ i. list_all (λ x. h x i) xs

or_both : (b r p : Bool) → (r || p) ≡ p → ((b || r) || (b || p)) ≡ (b || p)
or_both true r p h = refl
or_both false r p h = h

or_past : (b r p : Bool) → (r || p) ≡ p → (r || (b || p)) ≡ (b || p)
or_past true true p h = refl
or_past true false p h = refl
or_past false r p h = h

-- those without a default are among the parameters
covered_by : (x : Text) (d : Option Data) (n : Text) (ps : List Param) → (is_among x (required ps) || is_among x (param_names ps)) ≡ is_among x (param_names ps)
    → (is_among x (elim d [ None ↦ n ∷ required ps | Some v ↦ required ps ]) || (bytes_eq x n || is_among x (param_names ps))) ≡ (bytes_eq x n || is_among x (param_names ps))
covered_by x None n ps h = or_both (bytes_eq x n) (is_among x (required ps)) (is_among x (param_names ps)) h
covered_by x (Some v) n ps h = or_past (bytes_eq x n) (is_among x (required ps)) (is_among x (param_names ps)) h

covered : (x : Text) (ps : List Param) → (is_among x (required ps) || is_among x (param_names ps)) ≡ is_among x (param_names ps)
covered x [] = refl
covered x (p ∷ ps) = covered_by x p.default p.name ps (covered x ps)

pub flow_fits : (ps : List Param) (names known given : List Text) → SameNames known (param_names ps) → SameNames given names → (all_among names known && all_among (required ps) given) ≡ takes (flow_signature ps) names
flow_fits ps names known given k g =
    let all : SameNames known (required ps ++ param_names ps) = λ x. k x ∙ sym (list_any-append (bytes_eq x) (required ps) (param_names ps) ∙ covered x ps) in
    λ i. among_alike names known (required ps ++ param_names ps) all i && among_alike (required ps) given names g i

-- ## One of two places
pub alone_first : (o : Option Path) → first (o ∷ None ∷ []) ≡ o
alone_first None = refl
alone_first (Some p) = refl

pub alone_last : (o : Option Path) → first (None ∷ o ∷ []) ≡ o
alone_last None = refl
alone_last (Some p) = refl
