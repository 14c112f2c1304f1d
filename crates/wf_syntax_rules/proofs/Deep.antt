-- The parts of a node are less deep than it.
use Rattle.std.proofs.Common.{◌≡◌, ◌≤◌, ◌<◌, ℕ, suc, max, Bool, true, false, if◌then◌else◌, bytes_eq, List, [], ◌∷◌, ◌++◌, Option, Some, None, codes, refl, ap, arith}
use Rattle.std.specs.List.{AllByRecursion}
use Rattle.wf_syntax_rules.specs.Rules.{Role, Sub, each, every, there, at, parts}
use Rattle.wf_syntax_words.specs.Fields.{field}
use Rattle.wf_syntax_rules.specs.Rules as r
use Rattle.wf_tree.specs.Trees.{Tree, list, map, Items, no_items, item, Pairs, no_pairs, pair, depth, items_depth, pairs_depth}
use Rattle.wf_value.specs.Pairs.{Text}

abbrev pub AreWithin : ℕ → List Sub → Type 0
AreWithin n ss = AllByRecursion (λ (s : Sub). depth s.tree < n) ss

pub both : (n : ℕ) (xs ys : List Sub) → AreWithin n xs → AreWithin n ys → AreWithin n (xs ++ ys)
both n [] ys h k = k
both n (x ∷ xs) ys h k = (h.0, both n xs ys h.1 k)

each_within : (n : ℕ) (role : Role) (i : ℕ) (ts : Items) → items_depth ts < n → AreWithin n (each role i ts)
each_within n role i no_items h = tt
each_within n role i (item t ts) h = (omega arith, each_within n role (suc i) ts (omega arith))

every_within : (n : ℕ) (role : Text → Role) (fs : Pairs) → pairs_depth fs < n → AreWithin n (every role fs)
every_within n role no_pairs h = tt
every_within n role (pair k t fs) h = (omega arith, every_within n role fs (omega arith))

key_deep : (b : Bool) (u t : Tree) (more : Option Tree) (n : ℕ) → Some t ≡ (if b then Some u else more) → (Some t ≡ more → depth t ≤ n) → depth t ≤ max (depth u) n
key_deep true u t more n e f = let same : t ≡ u = cc in omega (arith, ap depth same)
key_deep false u t more n e f = omega (arith, f e)

pub field_deep : (k : Text) (fs : Pairs) (t : Tree) → Some t ≡ field k fs → depth t ≤ pairs_depth fs
field_deep k no_pairs t e = let x : ⊥ = cc in absurd x
field_deep k (pair j u fs) t e = key_deep (bytes_eq k j) u t (field k fs) (pairs_depth fs) e (field_deep k fs t)

there_within : (n : ℕ) (k : Text) (role : Role) (o : Option Tree) → ((t : Tree) → Some t ≡ o → depth t < n) → AreWithin n (there k role o)
there_within n k role None h = tt
there_within n k role (Some t) h = (h t refl, tt)

at_within : (n : ℕ) (k : Text) (role : Role) (fs : Pairs) → pairs_depth fs < n → AreWithin n (at k role fs)
at_within n k role fs h = there_within n k role (field k fs) (λ t e. omega (arith, field_deep k fs t e))

-- ## Fields in a row
abbrev pub row_after : List Sub → Pairs → List (Text × Role) → List Sub
row_after ss fs [] = ss
row_after ss fs (k ∷ ks) = row_after (ss ++ at k.0 k.1 fs) fs ks

abbrev pub row : Pairs → List (Text × Role) → List Sub
row fs [] = []
row fs (k ∷ ks) = row_after (at k.0 k.1 fs) fs ks

after_within : (n : ℕ) (ss : List Sub) (fs : Pairs) (ks : List (Text × Role)) → pairs_depth fs < n → AreWithin n ss → AreWithin n (row_after ss fs ks)
after_within n ss fs [] h all = all
after_within n ss fs (k ∷ ks) h all = after_within n (ss ++ at k.0 k.1 fs) fs ks h (both n ss (at k.0 k.1 fs) all (at_within n k.0 k.1 fs h))

row_within : (n : ℕ) (fs : Pairs) (ks : List (Text × Role)) → pairs_depth fs < n → AreWithin n (row fs ks)
row_within n fs [] h = tt
row_within n fs (k ∷ ks) h = after_within n (at k.0 k.1 fs) fs ks h (at_within n k.0 k.1 fs h)

abbrev pub body_keys : List (Text × Role)
body_keys =
    (codes "args", r.Arguments) ∷ (codes "assign", r.Entries) ∷ (codes "call", r.AnyText) ∷ (codes "condition", r.Value) ∷ (codes "except", r.Except)
    ∷ (codes "for", r.Loop) ∷ (codes "next", r.AnyText) ∷ (codes "parallel", r.Parallel) ∷ (codes "raise", r.Value) ∷ (codes "result", r.VariableName)
    ∷ (codes "retry", r.Retry) ∷ (codes "return", r.Value) ∷ (codes "steps", r.Steps) ∷ (codes "switch", r.Arms) ∷ (codes "try", r.Try) ∷ []

-- ## All nodes
pub parts_within : (n : ℕ) (role : Role) (t : Tree) → depth t ≤ n → AreWithin n (parts role t)
parts_within n r.Flows (map fs) h = every_within n r.Flow fs (omega arith)
parts_within n (r.Flow name) (map fs) h = row_within n fs ((codes "params", r.Parameters) ∷ (codes "steps", r.Steps) ∷ []) (omega arith)
parts_within n r.Parameters (list ts) h = each_within n r.Parameter 0 ts (omega arith)
parts_within n r.Parameter (map fs) h = every_within n (λ x. r.Literal) fs (omega arith)
parts_within n r.Literal (list ts) h = each_within n r.Literal 0 ts (omega arith)
parts_within n r.Literal (map fs) h = every_within n (λ x. r.Literal) fs (omega arith)
parts_within n r.Steps (list ts) h = each_within n r.Step 0 ts (omega arith)
parts_within n r.Step (map fs) h = every_within n (λ x. r.Body) fs (omega arith)
parts_within n r.Body (map fs) h = row_within n fs body_keys (omega arith)
parts_within n r.Arms (list ts) h = each_within n r.Arm 0 ts (omega arith)
parts_within n r.Arm (map fs) h = row_within n fs body_keys (omega arith)
parts_within n r.Entries (list ts) h = each_within n r.Entry 0 ts (omega arith)
parts_within n r.Entry (map (pair x t no_pairs)) h = (omega arith, (omega arith, tt))
parts_within n r.Value (list ts) h = each_within n r.Value 0 ts (omega arith)
parts_within n r.Value (map fs) h = every_within n (λ x. r.Value) fs (omega arith)
parts_within n r.Arguments (map fs) h = every_within n (λ x. r.Value) fs (omega arith)
parts_within n r.Range (list ts) h = each_within n r.Value 0 ts (omega arith)
parts_within n r.Loop (map fs) h =
    row_within n fs ((codes "in", r.Value) ∷ (codes "index", r.VariableName) ∷ (codes "range", r.Range) ∷ (codes "steps", r.Steps) ∷ (codes "value", r.VariableName) ∷ []) (omega arith)
parts_within n r.Parallel (map fs) h =
    row_within n fs
    ((codes "branches", r.Branches) ∷ (codes "concurrency_limit", r.Limit) ∷ (codes "exception_policy", r.Policy) ∷ (codes "for", r.Loop) ∷ (codes "shared", r.Shared) ∷ [])
    (omega arith)
parts_within n r.Shared (list ts) h = each_within n r.VariableName 0 ts (omega arith)
parts_within n r.Branches (list ts) h = each_within n r.Branch 0 ts (omega arith)
parts_within n r.Branch (map fs) h = every_within n (λ x. r.Block) fs (omega arith)
parts_within n r.Block (map fs) h = row_within n fs ((codes "steps", r.Steps) ∷ []) (omega arith)
parts_within n r.Try (map fs) h =
    row_within n fs ((codes "args", r.Arguments) ∷ (codes "call", r.AnyText) ∷ (codes "result", r.VariableName) ∷ (codes "steps", r.Steps) ∷ []) (omega arith)
parts_within n r.Retry (map fs) h = row_within n fs ((codes "backoff", r.Backoff) ∷ (codes "max_retries", r.Attempts) ∷ (codes "predicate", r.Predicate) ∷ []) (omega arith)
parts_within n r.Backoff (map fs) h = row_within n fs ((codes "initial_delay", r.Seconds) ∷ (codes "max_delay", r.Seconds) ∷ (codes "multiplier", r.Factor) ∷ []) (omega arith)
parts_within n r.Except (map fs) h = row_within n fs ((codes "as", r.VariableName) ∷ (codes "steps", r.Steps) ∷ []) (omega arith)
parts_within n role t h = tt
