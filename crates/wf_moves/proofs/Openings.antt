-- Where the next branch begins.
use Rattle.std.proofs.Common.{◌≡◌, ℕ, ◌<◌, ◌≤◌, true, List, [], ◌∷◌, length, get_or, Some, None, refl, sym, ap, subst, ◌∙◌, arith}
use Rattle.std.proofs.lemmas.Bool.{and_parts}
use Rattle.std.proofs.lemmas.Option.{slice_get_within}
use Rattle.std.specs.List.{list_all}
use Rattle.std.specs.Global.{Global}
use Rattle.std.specs.Prelude.{IfOk, Ok, Err, Option, Result, Vec, decimal, not, pos, slice_get, zero, suc}
use Rattle.wf_ast.specs.Tree.{LoopBody, Over, branch, loop, OfLoop, parallel, Steps}
use Rattle.wf_ast.specs.View.{texts_view}
use Rattle.wf_frames.proofs.Parts.{as_part, list_of, parallel_built, view_is}
use Rattle.wf_frames.specs.Built.{IsTableOf, has_any, has_steps, is_begun, is_begun_node, work_built}
use Rattle.wf_frames.specs.Fits.{IsParallel, view_outside}
use Rattle.wf_frames.specs.Forks.{body_parallel, branches_from, branches_of, is_work_at, is_work_in, is_work_of, parallel_at, same_work, work_view}
use Rattle.wf_frames.specs.Turns.{names_of}
use Rattle.wf_frames.specs.declared.forking.Work.{Work}
use Rattle.wf_frames.specs.declared.forking.Work.TheVariants as work
use Rattle.wf_model.specs.Config.{BranchesLeft, Left, ValuesLeft, is_empty, next_of}
use Rattle.wf_model.specs.Move.{branch_name, loop_names, name_of}
use Rattle.wf_model.specs.NodeKinds as kinds
use Rattle.wf_model.specs.NodeKinds.{block_view, kind_by, loop_by, over_by, side_by}
use Rattle.wf_model.specs.Spots.{Spot, branches_by, owners_at, part_at, part_body, part_branch, part_list, steps_by}
use Rattle.wf_model.specs.Table.{kind_list, loop_of, outside, part_by, side_list, work_of}
use Rattle.wf_model.specs.declared.node.Block.{Block}
use Rattle.wf_model.specs.declared.node.LoopNode.{LoopNode}
use Rattle.wf_model.specs.declared.node.Node.{Node}
use Rattle.wf_model.specs.declared.node.NodeKind.{NodeKind}
use Rattle.wf_model.specs.declared.node.NodeKind.TheVariants as kind
use Rattle.wf_model.specs.declared.node.ParallelNode.{ParallelNode}
use Rattle.wf_model.specs.declared.node.WorkNode.{WorkNode}
use Rattle.wf_model.specs.declared.node.WorkNode.TheVariants as node_work
use Rattle.wf_moves.specs.Beginnings.{IsBeginning}
use Rattle.wf_moves.specs.Branches.{BeginsAt, BeginsFrom, First, StepsOn, first_of, first_turn}
use Rattle.wf_moves.specs.declared.branch.Begun.{Begun}
use Rattle.wf_moves.specs.declared.wait.Joining.{Joining}
use Rattle.wf_scope.specs.Layers.{Layer}
use Rattle.wf_value.specs.declared.out_of_memory.OutOfMemory.{OutOfMemory}
use Rattle.wf_value.specs.Data.{Data}
use Rattle.wf_value.specs.Pairs.{Text}

-- the parallel step of which this can be left
pub work_there : (nodes : List Node) (n : ℕ) (w : Work) → is_work_at nodes n w ≡ true → (p : ParallelNode) × IsParallel nodes n p
work_there nodes n w h = by (slice_get nodes n) refl h
  where
    by_kind : (x : Node) (k : NodeKind) → x.kind ≡ k → slice_get nodes n ≡ Some x → is_work_of k w ≡ true → (p : ParallelNode) × IsParallel nodes n p
    by_kind x (kind.Parallel p) e at t = (p, record { node = x; at = at; is = e })
    by_kind x (kind.Call f) e at t = absurd (cc t)
    by_kind x kind.Nothing e at t = absurd (cc t)
    by_kind x (kind.Flow f) e at t = absurd (cc t)
    by_kind x (kind.Assign v) e at t = absurd (cc t)
    by_kind x (kind.Switch v) e at t = absurd (cc t)
    by_kind x (kind.For l) e at t = absurd (cc t)
    by_kind x (kind.Block b) e at t = absurd (cc t)
    by_kind x (kind.Try y) e at t = absurd (cc t)
    by_kind x (kind.Raise y) e at t = absurd (cc t)
    by_kind x (kind.Return y) e at t = absurd (cc t)
    by_kind x (kind.Arm y) e at t = absurd (cc t)
    by_kind x (kind.Entry y) e at t = absurd (cc t)
    by_kind x (kind.Branch b) e at t = absurd (cc t)

    by : (o : Option Node) → slice_get nodes n ≡ o → is_work_in o w ≡ true → (p : ParallelNode) × IsParallel nodes n p
    by None at t = absurd (cc t)
    by (Some x) at t = by_kind x x.kind refl at t

some_of : (xs : List ℕ) → has_any xs ≡ true → 0 < length xs
some_of [] h = absurd (cc h)
some_of (x ∷ xs) h = omega arith

-- an iteration begins at the steps of its loop
pub loop_begins : (ns : List Spot) (nodes : List Node) (n : ℕ) (p : ParallelNode) (l : LoopNode) → IsTableOf ns nodes → IsParallel nodes n p → p.work ≡ node_work.Loop l → IsBeginning ns nodes n
loop_begins ns nodes n p l tells h is =
    let cs = h.node.codes.items.items in record {
      list = block_view l.block;
      at = list_of nodes n h.node h.at ∙ ap (λ k. kind_list (kind_by cs k)) h.is ∙ ap (λ (w : WorkNode). side_list (side_by cs w)) is;
      some = some_of l.block.steps.items (sym (ap (work_built nodes) is) ∙ (parallel_built nodes n h.node p tells.built h.at h.is).1);
      outside = ap (λ o. view_outside o (owners_at ns n)) (view_is nodes n h.node h.at) ∙ ap (λ k. outside (kind_by cs k) (owners_at ns n)) h.is;
    }

-- ## Branches
left_within : (ns : List Spot) (xs : List ℕ) (n : ℕ) → not (is_empty (BranchesLeft (branches_from n (branches_by ns xs)))) ≡ true → n < length xs
left_within ns [] zero h = absurd (cc h)
left_within ns [] (suc n) h = absurd (cc h)
left_within ns (x ∷ xs) zero h = omega arith
left_within ns (x ∷ xs) (suc n) h = let lt = left_within ns xs n h in omega (arith, lt)

branch_named : (ns : List Spot) (xs : List ℕ) (i : ℕ) → i < length xs → branch_name (branches_by ns xs) i ≡ (part_branch (part_at ns (get_or xs i 0))).0
branch_named ns [] i lt = absurd (omega (arith, lt))
branch_named ns (x ∷ xs) zero lt = refl
branch_named ns (x ∷ xs) (suc i) lt = branch_named ns xs i (omega (arith, lt))

no_branch_named : (ns : List Spot) (xs : List ℕ) (i : ℕ) → length xs ≤ i → branch_name (branches_by ns xs) i ≡ []
no_branch_named ns [] i le = refl
no_branch_named ns (x ∷ xs) zero le = absurd (omega (arith, le))
no_branch_named ns (x ∷ xs) (suc i) le = no_branch_named ns xs i (omega (arith, le))

module _ (ns : List Spot) (nodes : List Node) (n : ℕ) (p : ParallelNode) (v : Vec ℕ Global) (tells : IsTableOf ns nodes) (h : IsParallel nodes n p) (is : p.work ≡ node_work.Branches v) where
  pub branches_are : branches_of (parallel_at ns n) ≡ branches_by ns v.items
  branches_are =
      ap (λ q. branches_of (body_parallel (part_body q))) (as_part ns nodes n h.node (kind.Parallel p) tells.resolves h.at h.is)
      ∙ ap (λ (w : WorkNode). branches_of (parallel (texts_view p.shared) p.limit (work_of ns (side_by h.node.codes.items.items w)))) is

  names_are : (i : ℕ) → name_of (parallel_at ns n) i ≡ branch_name (branches_by ns v.items) i
  names_are i =
      ap (λ q. name_of (body_parallel (part_body q)) i) (as_part ns nodes n h.node (kind.Parallel p) tells.resolves h.at h.is)
      ∙ ap (λ (w : WorkNode). name_of (parallel (texts_view p.shared) p.limit (work_of ns (side_by h.node.codes.items.items w))) i) is

  -- a number past the last branch has the empty name
  pub no_title : (i : ℕ) → length v.items ≤ i → name_of (parallel_at ns n) i ≡ []
  no_title i le = names_are i ∙ no_branch_named ns v.items i le

  branch_within : (next : ℕ) → not (is_empty (BranchesLeft (branches_from next (branches_of (parallel_at ns n))))) ≡ true → next < length v.items
  branch_within next left = left_within ns v.items next (subst (λ bs. not (is_empty (BranchesLeft (branches_from next bs))) ≡ true) branches_are left)

  branches_built : list_all (has_steps nodes) v.items ≡ true
  branches_built = sym (ap (work_built nodes) is) ∙ (parallel_built nodes n h.node p tells.built h.at h.is).1

-- the node of a branch with a step
pub record IsBranch (nodes : List Node) (n : ℕ) : Type 0 where
  pub node : Node
  pub block : Block
  pub at : slice_get nodes n ≡ Some node
  pub is : node.kind ≡ kind.Branch block
  pub some : has_any block.steps.items ≡ true

branch_there : (nodes : List Node) (n : ℕ) → has_steps nodes n ≡ true → IsBranch nodes n
branch_there nodes n h = by (slice_get nodes n) refl h
  where
    by_kind : (x : Node) (k : NodeKind) → x.kind ≡ k → slice_get nodes n ≡ Some x → is_begun k ≡ true → IsBranch nodes n
    by_kind x (kind.Branch b) e at t = record { node = x; block = b; at = at; is = e; some = t }
    by_kind x (kind.Parallel p) e at t = absurd (cc t)
    by_kind x (kind.Call f) e at t = absurd (cc t)
    by_kind x kind.Nothing e at t = absurd (cc t)
    by_kind x (kind.Flow f) e at t = absurd (cc t)
    by_kind x (kind.Assign v) e at t = absurd (cc t)
    by_kind x (kind.Switch v) e at t = absurd (cc t)
    by_kind x (kind.For l) e at t = absurd (cc t)
    by_kind x (kind.Block b) e at t = absurd (cc t)
    by_kind x (kind.Try y) e at t = absurd (cc t)
    by_kind x (kind.Raise y) e at t = absurd (cc t)
    by_kind x (kind.Return y) e at t = absurd (cc t)
    by_kind x (kind.Arm y) e at t = absurd (cc t)
    by_kind x (kind.Entry y) e at t = absurd (cc t)

    by : (o : Option Node) → slice_get nodes n ≡ o → is_begun_node o ≡ true → IsBranch nodes n
    by None at t = absurd (cc t)
    by (Some x) at t = by_kind x x.kind refl at t

all_at : (nodes : List Node) (xs : List ℕ) (i : ℕ) → list_all (has_steps nodes) xs ≡ true → i < length xs → has_steps nodes (get_or xs i 0) ≡ true
all_at nodes [] i h lt = absurd (omega (arith, lt))
all_at nodes (x ∷ xs) zero h lt = (and_parts (has_steps nodes x) (list_all (has_steps nodes) xs) h).0
all_at nodes (x ∷ xs) (suc i) h lt = all_at nodes xs i (and_parts (has_steps nodes x) (list_all (has_steps nodes) xs) h).1 (omega (arith, lt))

-- the branches from one on
from_here : (ns : List Spot) (xs : List ℕ) (i : ℕ) → i < length xs
    → branches_from i (branches_by ns xs) ≡ branch (part_branch (part_at ns (get_or xs i 0))).0 (part_branch (part_at ns (get_or xs i 0))).1 (branches_from (suc i) (branches_by ns xs))
from_here ns [] i lt = absurd (omega (arith, lt))
from_here ns (x ∷ xs) zero lt = refl
from_here ns (x ∷ xs) (suc i) lt = from_here ns xs i (omega (arith, lt))

module _ (ns : List Spot) (nodes : List Node) (n : ℕ) (p : ParallelNode) (v : Vec ℕ Global) (tells : IsTableOf ns nodes) (h : IsParallel nodes n p) (is : p.work ≡ node_work.Branches v) (next : ℕ) (within : next < length v.items) where
  abbrev pub Number : ℕ
  Number = get_or v.items next 0

  its_branch : IsBranch nodes Number
  its_branch = branch_there nodes Number (all_at nodes v.items next (branches_built ns nodes n p v tells h is) within)

  -- a branch begins at its steps
  pub branch_begins : IsBeginning ns nodes Number
  branch_begins =
      let cs = its_branch.node.codes.items.items in record {
        list = block_view its_branch.block;
        at = list_of nodes Number its_branch.node its_branch.at ∙ ap (λ k. kind_list (kind_by cs k)) its_branch.is;
        some = some_of its_branch.block.steps.items its_branch.some;
        outside = ap (λ o. view_outside o (owners_at ns Number)) (view_is nodes Number its_branch.node its_branch.at) ∙ ap (λ k. outside (kind_by cs k) (owners_at ns Number)) its_branch.is;
      }

  branch_steps : (part_branch (part_at ns Number)).1 ≡ part_list (part_at ns Number)
  branch_steps =
      let e = as_part ns nodes Number its_branch.node (kind.Branch its_branch.block) tells.resolves its_branch.at its_branch.is in
      ap (λ q. (part_branch q).1) e ∙ sym (ap part_list e)

  pub number_within : Number < length nodes
  number_within = slice_get_within nodes Number its_branch.node its_branch.at

  -- its name is that of its node
  pub branch_title : (x : Node) → slice_get nodes Number ≡ Some x → name_of (parallel_at ns n) next ≡ x.name
  branch_title x at =
      let e : its_branch.node ≡ x = cc (sym its_branch.at ∙ at) in
      names_are ns nodes n p v tells h is next
      ∙ branch_named ns v.items next within
      ∙ ap (λ q. (part_branch q).0) (as_part ns nodes Number its_branch.node (kind.Branch its_branch.block) tells.resolves its_branch.at its_branch.is)
      ∙ ap (λ (y : Node). y.name) e

  -- the next one is this
  abbrev pub NextBranch : First
  NextBranch = record { steps = part_list (part_at ns Number); names = []; left = BranchesLeft (branches_from (suc next) (branches_of (parallel_at ns n))) }

  pub branch_first : first_of (parallel_at ns n) next (BranchesLeft (branches_from next (branches_of (parallel_at ns n)))) ≡ Some NextBranch
  branch_first =
      let P = parallel_at ns n in
      let are = branches_are ns nodes n p v tells h is in
      ap (λ bs. first_of P next (BranchesLeft (branches_from next bs))) are
      ∙ ap (λ bs. first_of P next (BranchesLeft bs)) (from_here ns v.items next within)
      ∙ ap (λ bs. Some (record { steps = (part_branch (part_at ns Number)).1; names = []; left = BranchesLeft (branches_from (suc next) bs) })) (sym are)
      ∙ ap {B = Option First} (λ (ss : Steps). Some (record { steps = ss; names = []; left = BranchesLeft (branches_from (suc next) (branches_of P)) })) branch_steps

-- ## Iterations
names_same : (x : Text) (o : Option Text) (over : Over) (ss : Steps) (v : Data) (i : ℕ) → loop_names (loop x o over ss) v i ≡ names_of x v o (pos i)
names_same x None over ss v i = refl
names_same x (Some y) over ss v i = refl

module _ (ns : List Spot) (nodes : List Node) (n : ℕ) (p : ParallelNode) (l : LoopNode) (tells : IsTableOf ns nodes) (h : IsParallel nodes n p) (is : p.work ≡ node_work.Loop l) where
  abbrev Kind : kinds.Kind
  Kind = kinds.Parallel (texts_view p.shared) p.limit (side_by h.node.codes.items.items (node_work.Loop l))

  part_here : part_at ns n ≡ part_by ns h.node.name h.node.next Kind
  part_here =
      as_part ns nodes n h.node (kind.Parallel p) tells.resolves h.at h.is
      ∙ ap (λ (w : WorkNode). part_by ns h.node.name h.node.next (kinds.Parallel (texts_view p.shared) p.limit (side_by h.node.codes.items.items w))) is

  abbrev Loop : LoopBody
  Loop = loop_of ns (loop_by h.node.codes.items.items l)

  -- it has a number for its name
  pub turn_title : (i : ℕ) → name_of (parallel_at ns n) i ≡ decimal i
  turn_title i = ap (λ q. name_of (body_parallel (part_body q)) i) part_here

  -- the next iteration is this
  abbrev pub NextTurn : Data → ℕ → Left → First
  NextTurn v i left = record { steps = part_list (part_at ns n); names = names_of l.value v l.index (pos i); left = ValuesLeft left }

  pub turn_first : (i : ℕ) (old : Left) (v : Data) (left : Left) → Some (v, left) ≡ next_of old → first_of (parallel_at ns n) i (ValuesLeft old) ≡ Some (NextTurn v i left)
  turn_first i old v left taken =
      ap (λ q. first_turn (body_parallel (part_body q)) i (next_of old)) part_here
      ∙ ap (first_turn (parallel (texts_view p.shared) p.limit (OfLoop Loop)) i) (sym taken)
      ∙ ap {B = Option First} (λ (ss : Steps). Some (record { steps = ss; names = loop_names Loop v i; left = ValuesLeft left })) (sym (ap part_list part_here))
      ∙ ap {B = Option First} (λ xs. Some (record { steps = part_list (part_at ns n); names = xs; left = ValuesLeft left })) (names_same l.value l.index (over_by h.node.codes.items.items l.over) (steps_by ns (block_view l.block).steps) v i)

-- ## What is left
only_branches : (v : Vec ℕ Global) (w : Work) → same_work (node_work.Branches v) w ≡ true → w ≡ work.Branches
only_branches v work.Branches h = refl
only_branches v (work.Values l) h = absurd (cc h)

-- of branches it is branches
pub branches_left : (nodes : List Node) (n : ℕ) (p : ParallelNode) (v : Vec ℕ Global) (w : Work) → IsParallel nodes n p → p.work ≡ node_work.Branches v → is_work_at nodes n w ≡ true → w ≡ work.Branches
branches_left nodes n p v w h is left = only_branches v w (sym (ap (λ o. is_work_in o w) h.at ∙ ap (λ k. is_work_of k w) h.is ∙ ap (λ u. same_work u w) is) ∙ left)

-- and so the next one is there
pub next_within : (ns : List Spot) (nodes : List Node) (n : ℕ) (p : ParallelNode) (v : Vec ℕ Global) (tells : IsTableOf ns nodes) (h : IsParallel nodes n p) (is : p.work ≡ node_work.Branches v) (next : ℕ) (w : Work)
    → is_work_at nodes n w ≡ true → not (is_empty (work_view (parallel_at ns n) next w)) ≡ true → next < length v.items
next_within ns nodes n p v tells h is next w at left =
    branch_within ns nodes n p v tells h is next (subst (λ u. not (is_empty (work_view (parallel_at ns n) next u)) ≡ true) (branches_left nodes n p v w h is at) left)

-- the branch or iteration that begins is the next one
pub begins_from : (ns : List Spot) (nodes : List Node) (list limit o : ℕ) (f : First) (old new : Joining) (before behind : List Layer) (r : Result Begun OutOfMemory)
    → f.steps ≡ part_list (part_at ns list) → StepsOn ns f old new → IfOk r (BeginsAt ns nodes list f.names limit o before behind) → IfOk r (BeginsFrom ns nodes limit o old new before behind)
begins_from ns nodes list limit o f old new before behind (Ok b) same steps h = record { first = f; steps = steps; begins = h f same refl }
begins_from ns nodes list limit o f old new before behind (Err e) same steps h = h
