-- What stands around a node, as the code holds it.
use Rattle.std.specs.Prelude.{◌≡◌, Bool, List, [], ◌∷◌, Option, Some, None, if◌then◌else◌, map, option_map}
use Rattle.wf_ast.specs.Blocks.{has_step, in_blocks}
use Rattle.wf_ast.specs.Nodes as nodes
use Rattle.wf_ast.specs.Nodes.{Around, Names, assigned, loop_binds}
use Rattle.wf_ast.specs.Tree.{LoopBody, loop, step, Steps, no_steps, more, Body}
use Rattle.wf_symbols.specs.Names.{names_of}
use Rattle.wf_symbols.specs.declared.around.Block.{Block}
use Rattle.wf_symbols.specs.declared.around.Here.{Here}
use Rattle.wf_symbols.specs.declared.around.Inside.{Inside}
use Rattle.wf_symbols.specs.declared.around.Inside.TheVariants as inside
use Rattle.wf_symbols.specs.declared.around.Layer.{Layer}
use Rattle.wf_symbols.specs.declared.around.Scopes.{Scopes}
use Rattle.wf_symbols.specs.declared.names.Names as held
use Rattle.wf_value.specs.HttpRequest.{is_among}
use Rattle.wf_value.specs.Pairs.{Text}

abbrev pub inside_view : Inside → nodes.Inside
inside_view inside.NoLoop = nodes.NoLoop
inside_view inside.InLoop = nodes.InLoop
inside_view inside.InParallelLoop = nodes.InParallelLoop

-- steps of these names
abbrev pub steps_named : List Text → Steps
steps_named [] = no_steps
steps_named (x ∷ xs) = more (step x Body.Nothing None) (steps_named xs)

abbrev pub layer_view : Layer → Names
layer_view l = record { binds = names_of l.binds; assigns = names_of l.assigns; shared = option_map names_of l.shared }

-- the blocks that a jump may reach; the names of their steps are known alone
abbrev pub reach : List Block → List Steps
reach [] = []
reach (b ∷ bs) = steps_named (names_of b.names) ∷ (if b.is_closed then [] else reach bs)

abbrev pub around_view : Scopes → Here → Around
around_view s h = record {
  workflow = names_of s.workflow;
  blocks = reach s.blocks.items;
  inside = inside_view h.inside;
  in_branch = h.in_branch;
  layers = map layer_view s.layers.items;
}

-- a layer of these names
pub record IsLayer (l : Layer) (bs : held.Names) (xs : List Text) (o : Option held.Names) : Type 0 where
  pub binds : l.binds ≡ bs
  pub assigns : (x : Text) → is_among x (names_of l.assigns) ≡ is_among x xs
  pub shared : l.shared ≡ o

-- the names that a loop binds
abbrev pub binds_of : LoopBody → List Text
binds_of (loop x i o ss) = loop_binds x i

-- ## Surroundings in which the rules say the same
-- the same names, in any order and number
abbrev pub SameNames : List Text → List Text → Type 0
SameNames xs ys = (x : Text) → is_among x xs ≡ is_among x ys

abbrev pub SameShared : Option (List Text) → Option (List Text) → Type 0
SameShared None None = Unit {0}
SameShared (Some xs) (Some ys) = SameNames xs ys
SameShared o p = ⊥

pub record AlikeLayer (l : Names) (m : Names) : Type 0 where
  pub binds : SameNames l.binds m.binds
  pub assigns : SameNames l.assigns m.assigns
  pub shared : SameShared l.shared m.shared

abbrev pub AlikeLayers : List Names → List Names → Type 0
AlikeLayers [] [] = Unit {0}
AlikeLayers (l ∷ ls) (m ∷ ms) = AlikeLayer l m × AlikeLayers ls ms
AlikeLayers ls ms = ⊥

pub record Alike (a : Around) (b : Around) : Type 0 where
  pub workflow : SameNames a.workflow b.workflow
  pub blocks : (x : Text) → in_blocks x a.blocks ≡ in_blocks x b.blocks
  pub inside : a.inside ≡ b.inside
  pub in_branch : a.in_branch ≡ b.in_branch
  pub layers : AlikeLayers a.layers b.layers

-- the code's surroundings are these
abbrev pub Stands : Scopes → Here → Around → Type 0
Stands s h b = Alike (around_view s h) b

-- ## Changes
-- what is left behind the first
abbrev pub behind : {A : Type 0} → List A → List A
behind [] = []
behind (x ∷ xs) = xs

pub record IsOpened (old : Scopes) (new : Scopes) (ss : Steps) (closed : Bool) : Type 0 where
  pub block : Block
  pub has : (x : Text) → is_among x (names_of block.names) ≡ has_step x ss
  pub is_closed : block.is_closed ≡ closed
  pub blocks : new.blocks.items ≡ block ∷ old.blocks.items
  pub layers : new.layers ≡ old.layers
  pub workflow : new.workflow ≡ old.workflow

pub record IsClosed (old : Scopes) (new : Scopes) : Type 0 where
  pub blocks : new.blocks.items ≡ behind old.blocks.items
  pub layers : new.layers ≡ old.layers
  pub workflow : new.workflow ≡ old.workflow

pub record IsBound (old : Scopes) (new : Scopes) (l : Layer) : Type 0 where
  pub layers : new.layers.items ≡ l ∷ old.layers.items
  pub blocks : new.blocks ≡ old.blocks
  pub workflow : new.workflow ≡ old.workflow

pub record IsUnbound (old : Scopes) (new : Scopes) : Type 0 where
  pub layers : new.layers.items ≡ behind old.layers.items
  pub blocks : new.blocks ≡ old.blocks
  pub workflow : new.workflow ≡ old.workflow

-- the same scopes
pub record Still (old : Scopes) (new : Scopes) : Type 0 where
  pub blocks : new.blocks.items ≡ old.blocks.items
  pub layers : new.layers.items ≡ old.layers.items
  pub workflow : new.workflow ≡ old.workflow

-- ## Layers
-- the surroundings of steps in a block and a layer of their own
abbrev pub within : Bool → nodes.Inside → Bool → List Text → Option (List Text) → Steps → Around → Around
within closed inside in_branch bound common ss a = record {
  workflow = a.workflow;
  blocks = ss ∷ (if closed then [] else a.blocks);
  inside = inside;
  in_branch = in_branch;
  layers = record { binds = bound; assigns = assigned ss; shared = common } ∷ a.layers;
}
