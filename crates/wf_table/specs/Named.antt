-- Numbers by names.
use Rattle.std.specs.Prelude.{◌≡◌, ℕ, List, [], ◌∷◌, slice_get, Option, None, Some, bytes_eq, nat_lt, if◌then◌else◌}
use Rattle.std.specs.BTreeMap.{get_by_text}
use Rattle.wf_value.specs.HttpUrl.{first_of_two}
use Rattle.wf_value.specs.Pairs.{Text}
use Rattle.wf_model.specs.NodeKinds.{Kind, Listed, View, is_left}
use Rattle.wf_model.specs.Table.{list_at}
use Rattle.wf_table.specs.declared.names.Names.{Names}

-- the number of a name
abbrev pub number_of : Names → Text → Option ℕ
number_of s x = get_by_text s.numbers x

-- the number n, if its name is x
abbrev pub when_named : Text → Text → ℕ → Option ℕ
when_named x name n = if bytes_eq x name then Some n else None

abbrev pub node_named : Text → ℕ → Option View → Option ℕ
node_named x n None = None
node_named x n (Some v) = when_named x v.name n

-- the first of these numbers whose node has the name
abbrev pub first_named : List View → Text → List ℕ → Option ℕ
first_named views x [] = None
first_named views x (n ∷ others) = first_of_two (node_named x n (slice_get views n)) (first_named views x others)

abbrev pub numbers_of : Option Listed → List ℕ
numbers_of None = []
numbers_of (Some b) = b.steps

abbrev pub depth_of : Option Listed → ℕ
depth_of None = 0
depth_of (Some b) = b.depth

-- these have the names of the steps of each node's list
abbrev pub Finds : List View → List Names → Type 0
Finds views lists = (n : ℕ) (names : Names) → slice_get lists n ≡ Some names → (x : Text) → number_of names x ≡ first_named views x (numbers_of (list_at views n))

-- whose list a jump may reach from a node's own list
abbrev pub owner_outside : Kind → Option ℕ → Option ℕ
owner_outside k o = if is_left k then o else None

abbrev pub outer_of : View → Option ℕ
outer_of x = owner_outside x.kind x.owner

-- a number that is less than n
abbrev pub below : ℕ → Option ℕ → Option ℕ
below n None = None
below n (Some o) = if nat_lt o n then Some o else None
