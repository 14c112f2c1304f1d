-- A tree of JSON has no decimal.
use Rattle.std.proofs.Common.{◌∷◌, Bool, false, Option, Some, None, option_map, option_and_then, subst}
use Rattle.serde_json.specs.Data as json
use Rattle.serde_json.specs.Find.{as_i64}
use Rattle.wf_tree.specs.Json.{tree_of, items_tree, members_tree}
use Rattle.wf_tree.specs.Trees.{integer, list, map, items_of, pairs_of}
use Rattle.wf_yaml_line.specs.Scalars.{is_delay_key}
use Rattle.wf_yaml_write.specs.Whole.{DecimalsFit, DecimalsFitItems, DecimalsFitPairs}
use Rattle.wf_format_laws.specs.Fit.{JsonTreesFit}

abbrev If : {A : Type 0} → (A → Type 0) → Option A → Type 0
If P None = Unit {0}
If P (Some a) = P a

if_map : {A B : Type 0} (P : A → Type 0) (Q : B → Type 0) (f : A → B) → ((a : A) → P a → Q (f a)) → (o : Option A) → If P o → If Q (option_map f o)
if_map P Q f g None h = tt
if_map P Q f g (Some a) h = g a h

if_then : {A B : Type 0} (P : A → Type 0) (Q : B → Type 0) (f : A → Option B) → ((a : A) → P a → If Q (f a)) → (o : Option A) → If P o → If Q (option_and_then f o)
if_then P Q f g None h = tt
if_then P Q f g (Some a) h = g a h

abbrev Any : {A : Type 0} → A → Type 0
Any a = Unit {0}

any : {A : Type 0} (o : Option A) → If Any o
any None = tt
any (Some a) = tt

mutual
  tree_fits : (delay : Bool) (j : json.Data) → If (DecimalsFit delay) (tree_of j)
  tree_fits delay json.null = tt
  tree_fits delay (json.boolean b) = tt
  tree_fits delay (json.number n) = if_map Any (DecimalsFit delay) integer (λ z h. tt) (as_i64 n) (any (as_i64 n))
  tree_fits delay (json.string s) = tt
  tree_fits delay (json.array js) = if_map (λ ts. DecimalsFitItems (items_of ts)) (DecimalsFit delay) (λ ts. list (items_of ts)) (λ ts h. h) (items_tree js) (items_fit js)
  tree_fits delay (json.object ms) = if_map (λ ps. DecimalsFitPairs (pairs_of ps)) (DecimalsFit delay) (λ ps. map (pairs_of ps)) (λ ps h. h) (members_tree ms) (members_fit ms)

  items_fit : (js : json.Items) → If (λ ts. DecimalsFitItems (items_of ts)) (items_tree js)
  items_fit json.no_items = tt
  items_fit (json.item j js) =
      if_then (DecimalsFit false) (λ ts. DecimalsFitItems (items_of ts)) (λ t. option_map (λ ts. t ∷ ts) (items_tree js))
      (λ t h. if_map (λ ts. DecimalsFitItems (items_of ts)) (λ ts. DecimalsFitItems (items_of ts)) (λ ts. t ∷ ts) (λ ts more. (h, more)) (items_tree js) (items_fit js)) (tree_of j) (tree_fits false j)

  members_fit : (ms : json.Members) → If (λ ps. DecimalsFitPairs (pairs_of ps)) (members_tree ms)
  members_fit json.no_members = tt
  members_fit (json.member k j ms) =
      if_then (DecimalsFit (is_delay_key k)) (λ ps. DecimalsFitPairs (pairs_of ps)) (λ t. option_map (λ ps. (k, t) ∷ ps) (members_tree ms))
      (λ t h. if_map (λ ps. DecimalsFitPairs (pairs_of ps)) (λ ps. DecimalsFitPairs (pairs_of ps)) (λ ps. (k, t) ∷ ps) (λ ps more. (h, more)) (members_tree ms) (members_fit ms)) (tree_of j) (tree_fits (is_delay_key k) j)

pub json_trees_fit : JsonTreesFit
json_trees_fit source t h = subst (If (DecimalsFit false)) h.2 (tree_fits false h.0)
