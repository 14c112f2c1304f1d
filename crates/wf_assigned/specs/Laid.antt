-- What the code holds of edges and of what stands around a point.
--     Finds      these lists have the steps that those have
--     Adds       these edges more and no others
--     Opens      a list of steps more, the innermost
--     Closes     the innermost list of steps less
use Rattle.std.specs.Prelude.{◌≡◌, Bool, List, [], ◌∷◌, ◌++◌, if◌then◌else◌, Option, None}
use Rattle.wf_assigned.specs.Edges.{Block as Around, Site, step_exit, to_step}
use Rattle.wf_assigned.specs.Numbers.{number_of}
use Rattle.wf_assigned.specs.declared.blocks.Block.{Block}
use Rattle.wf_assigned.specs.declared.blocks.Here.{Here}
use Rattle.wf_assigned.specs.declared.edges.Walk.{Walk}
use Rattle.wf_assigned.specs.declared.points.Edge.{Edge}
use Rattle.wf_assigned.specs.declared.points.Exit.{Exit}
use Rattle.wf_value.specs.Pairs.{Text}

-- outward to the first list that has the step
abbrev pub found_in : Text → List Block → Option Exit
found_in x [] = None
found_in x (b ∷ bs) = step_exit b.depth (number_of b.numbers x) (if b.is_closed then None else found_in x bs)

-- these lists have the steps that those have
abbrev pub Finds : List Block → List Around → Type 0
Finds blocks around = (x : Text) → found_in x blocks ≡ to_step x around

-- what is left behind the first
abbrev pub behind : List Block → List Block
behind [] = []
behind (b ∷ bs) = bs

abbrev pub site_of : Here → List Around → Site
site_of here around = record { depth = here.depth; blocks = around; loop = here.looped; fails = here.fails }

-- these edges more and no others
pub record Adds (old : Walk) (new : Walk) (es : List Edge) : Type 0 where
  pub edges : new.edges.items ≡ old.edges.items ++ es
  pub blocks : new.blocks.items ≡ old.blocks.items

-- a list of steps more, the innermost
pub record Opens (old : Walk) (new : Walk) (b : Around) (closed : Bool) : Type 0 where
  pub edges : new.edges.items ≡ old.edges.items
  pub finds : (around : List Around) → Finds old.blocks.items around → Finds new.blocks.items (b ∷ (if closed then [] else around))
  pub outside : behind new.blocks.items ≡ old.blocks.items

-- this list more, before the others
pub record Puts (old : Walk) (new : Walk) (b : Block) : Type 0 where
  pub blocks : new.blocks.items ≡ b ∷ old.blocks.items
  pub edges : new.edges.items ≡ old.edges.items

-- the innermost list of steps less
pub record Closes (old : Walk) (new : Walk) : Type 0 where
  pub edges : new.edges.items ≡ old.edges.items
  pub blocks : new.blocks.items ≡ behind old.blocks.items
