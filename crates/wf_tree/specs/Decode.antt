-- Reading a tree from JSON, as a function: the tree, where the source is JSON of one.
use Rattle.std.specs.Prelude.{ℕ, true, false, List, if◌then◌else◌, nat_le, Some, None, Option, option_and_then}
use Rattle.std.specs.Str.{is_utf8}
use Rattle.serde_json.specs.Read.{read}
use Rattle.wf_tree.specs.Trees.{Tree, depth}
use Rattle.wf_tree.specs.Json.{tree_of}

-- a tree that nests at most 100 deep
abbrev pub shallow : Option Tree → Option Tree
shallow None = None
shallow (Some t) = if nat_le (depth t) 100 then Some t else None

-- the tree that the source says, if it says one
abbrev pub json_tree : List ℕ → Option Tree
json_tree b = elim (is_utf8 b) [ false ↦ None | true ↦ shallow (option_and_then tree_of (read b)) ]
