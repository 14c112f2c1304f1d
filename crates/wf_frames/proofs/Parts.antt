-- Nodes by their numbers, and the parts that they are.
use Rattle.std.proofs.Common.{◌≡◌, ℕ, ◌<◌, Bool, true, false, List, [], ◌∷◌, length, get_or, Some, None, refl, sym, ap, subst, ◌∙◌, arith}
use Rattle.std.specs.List.{list_all}
use Rattle.std.specs.Prelude.{not, zero, suc, is_none, is_some, option_map, slice_get, Option}
use Rattle.std.proofs.lemmas.Bool.{and_parts}
use Rattle.std.proofs.lemmas.Option.{slice_get_read, slice_get_within}
use Rattle.wf_ast.specs.Tree.{Body, try}
use Rattle.wf_ast.specs.View.{policy_option_view}
use Rattle.wf_frames.specs.Fits.{IsCall, IsLoop, IsParallel, IsTry, entries_at, has_next, kind_entries, list_at, outside_at, view_at, view_entries, view_outside}
use Rattle.wf_frames.specs.Frames.{body_entries}
use Rattle.wf_frames.specs.Built.{is_node_built, is_table_built, kind_built, work_built}
use Rattle.wf_model.specs.NodeKinds as view
use Rattle.wf_model.specs.NodeKinds.{Kind, Listed, handler_view, kind_by, node_view}
use Rattle.wf_model.specs.Spots.{Spot, entries_by, owners_at, part_at, part_body, part_list, steps_by}
use Rattle.wf_model.specs.Table.{AreBelow, ListStands, PartsStand, Resolves, StandIn, except_of, kind_list, outside, part_by, view_list}
use Rattle.wf_model.specs.declared.node.CallNode.{CallNode}
use Rattle.wf_model.specs.declared.node.LoopNode.{LoopNode}
use Rattle.wf_model.specs.declared.node.Node.{Node}
use Rattle.wf_model.specs.declared.node.NodeKind.{NodeKind}
use Rattle.wf_model.specs.declared.node.NodeKind.TheVariants as kind
use Rattle.wf_model.specs.declared.node.ParallelNode.{ParallelNode}
use Rattle.wf_model.specs.declared.node.TryNode.{TryNode}
use Rattle.wf_value.specs.Pairs.{Text}

-- the node that stands at a number
pub node_at : (nodes : List Node) (n : ℕ) (x : Node) → n < length nodes → x ≡ get_or nodes n x → slice_get nodes n ≡ Some x
node_at nodes n x lt e = slice_get_read nodes (length nodes) n x refl lt e

-- a number that has a view is that of a node
pub record Seen (nodes : List Node) (n : ℕ) : Type 0 where
  pub node : Node
  pub at : slice_get nodes n ≡ Some node

pub seen_list : (nodes : List Node) (n : ℕ) (b : Listed) → list_at nodes n ≡ Some b → Seen nodes n
seen_list nodes n b h = by (slice_get nodes n) refl
  where
    by : (o : Option Node) → slice_get nodes n ≡ o → Seen nodes n
    by None e = absurd (cc (sym (ap (λ (p : Option Node). view_list (option_map node_view p)) e) ∙ h))
    by (Some x) e = record { node = x; at = e }

pub seen_entries : (nodes : List Node) (n : ℕ) (b : List ℕ) → entries_at nodes n ≡ Some b → Seen nodes n
seen_entries nodes n b h = by (slice_get nodes n) refl
  where
    by : (o : Option Node) → slice_get nodes n ≡ o → Seen nodes n
    by None e = absurd (cc (sym (ap (λ (p : Option Node). view_entries (option_map node_view p)) e) ∙ h))
    by (Some x) e = record { node = x; at = e }

pub view_is : (nodes : List Node) (n : ℕ) (x : Node) → slice_get nodes n ≡ Some x → view_at nodes n ≡ Some (node_view x)
view_is nodes n x e = ap (λ (p : Option Node). option_map node_view p) e

pub list_of : (nodes : List Node) (n : ℕ) (x : Node) → slice_get nodes n ≡ Some x → list_at nodes n ≡ kind_list (node_view x).kind
list_of nodes n x e = ap view_list (view_is nodes n x e)

pub entries_of : (nodes : List Node) (n : ℕ) (x : Node) → slice_get nodes n ≡ Some x → entries_at nodes n ≡ kind_entries (node_view x).kind
entries_of nodes n x e = ap view_entries (view_is nodes n x e)

pub list_within : (nodes : List Node) (n : ℕ) → is_some (list_at nodes n) ≡ true → n < length nodes
list_within nodes n h = by (slice_get nodes n) refl
  where
    by : (o : Option Node) → slice_get nodes n ≡ o → n < length nodes
    by None e = absurd (cc (sym (ap (λ (p : Option Node). is_some (view_list (option_map node_view p))) e) ∙ h))
    by (Some x) e = slice_get_within nodes n x e

pub entries_within : (nodes : List Node) (n : ℕ) → is_some (entries_at nodes n) ≡ true → n < length nodes
entries_within nodes n h = by (slice_get nodes n) refl
  where
    by : (o : Option Node) → slice_get nodes n ≡ o → n < length nodes
    by None e = absurd (cc (sym (ap (λ (p : Option Node). is_some (view_entries (option_map node_view p))) e) ∙ h))
    by (Some x) e = slice_get_within nodes n x e

pub loop_within : (nodes : List Node) (n : ℕ) → (b : LoopNode) × IsLoop nodes n b → n < length nodes
loop_within nodes n h = slice_get_within nodes n h.1.node h.1.at

pub try_within : (nodes : List Node) (n : ℕ) → (t : TryNode) × IsTry nodes n t → n < length nodes
try_within nodes n h = slice_get_within nodes n h.1.node h.1.at

-- ## The part of a node
pub part_is : (ns : List Spot) (nodes : List Node) (n : ℕ) (x : Node) → Resolves ns nodes → slice_get nodes n ≡ Some x → part_at ns n ≡ part_by ns x.name x.next (kind_by x.codes.items.items x.kind)
part_is ns nodes n x r e = (r.each n x e).part

pub as_part : (ns : List Spot) (nodes : List Node) (n : ℕ) (x : Node) (k : NodeKind) → Resolves ns nodes → slice_get nodes n ≡ Some x → x.kind ≡ k → part_at ns n ≡ part_by ns x.name x.next (kind_by x.codes.items.items k)
as_part ns nodes n x k r e h = part_is ns nodes n x r e ∙ ap (λ (y : NodeKind). part_by ns x.name x.next (kind_by x.codes.items.items y)) h

-- ## Built
built_in : (all nodes : List Node) (n : ℕ) (x : Node) → list_all (is_node_built all) nodes ≡ true → slice_get nodes n ≡ Some x → is_node_built all x ≡ true
built_in all [] n x b h = cc
built_in all (y ∷ ys) zero x b h = let e : y ≡ x = cc in ap (is_node_built all) (sym e) ∙ (and_parts (is_node_built all y) (list_all (is_node_built all) ys) b).0
built_in all (y ∷ ys) (suc n) x b h = built_in all ys n x (and_parts (is_node_built all y) (list_all (is_node_built all) ys) b).1 h

pub node_built : (nodes : List Node) (n : ℕ) (x : Node) → is_table_built nodes ≡ true → slice_get nodes n ≡ Some x → is_node_built nodes x ≡ true
node_built nodes n x b h = built_in nodes nodes n x b h

-- a parallel step has no limit of its own, and each list that runs in parallel has a step
pub parallel_built : (nodes : List Node) (n : ℕ) (x : Node) (p : ParallelNode) → is_table_built nodes ≡ true → slice_get nodes n ≡ Some x → x.kind ≡ kind.Parallel p → (is_none p.limit ≡ true) × (work_built nodes p.work ≡ true)
parallel_built nodes n x p b h e = and_parts (is_none p.limit) (work_built nodes p.work) (sym (ap (kind_built nodes) e) ∙ node_built nodes n x b h)

pub parallel_within : (nodes : List Node) (n : ℕ) → (p : ParallelNode) × IsParallel nodes n p → n < length nodes
parallel_within nodes n h = slice_get_within nodes n h.1.node h.1.at

-- the body of a `try` says nothing of what is next
pub try_built : (nodes : List Node) (n : ℕ) (x : Node) (t : TryNode) → is_table_built nodes ≡ true → slice_get nodes n ≡ Some x → x.kind ≡ kind.Try t → has_next (view_at nodes t.body) ≡ false
try_built nodes n x t b h e = not_true (has_next (view_at nodes t.body)) (sym (ap (kind_built nodes) e) ∙ node_built nodes n x b h)
  where
    not_true : (c : Bool) → not c ≡ true → c ≡ false
    not_true true q = absurd (cc q)
    not_true false q = refl

-- the body of a `try`
pub tried_stands : (ns : List Spot) (nodes : List Node) (n : ℕ) (t : TryNode) → Resolves ns nodes → IsTry nodes n t → (t.body < length nodes) × (owners_at ns t.body ≡ owners_at ns n)
tried_stands ns nodes n t r h = subst (λ (k : NodeKind). PartsStand ns (length nodes) (owners_at ns n) (kind_by h.node.codes.items.items k)) h.is (r.each n h.node h.at).parts

pub tried_body : (ns : List Spot) (nodes : List Node) (n : ℕ) (t : TryNode) → Resolves ns nodes → IsTry nodes n t
    → part_body (part_at ns n) ≡ Body.Try (try (part_body (part_at ns t.body)) (policy_option_view t.policy) (except_of ns (handler_view t.except)))
tried_body ns nodes n t r h = ap part_body (as_part ns nodes n h.node (kind.Try t) r h.at h.is)

-- ## Lists of steps
list_in : (ns : List Spot) (x : Text) (next : Option Text) (k : Kind) (b : Listed) → kind_list k ≡ Some b → part_list (part_by ns x next k) ≡ steps_by ns b.steps
list_in ns x next (view.Flow params d) b h = let e : d ≡ b = cc h in ap (λ (y : Listed). steps_by ns y.steps) e
list_in ns x next (view.For l) b h = let e : l.steps ≡ b = cc h in ap (λ (y : Listed). steps_by ns y.steps) e
list_in ns x next (view.Parallel shared limit (view.Iterations l)) b h = let e : l.steps ≡ b = cc h in ap (λ (y : Listed). steps_by ns y.steps) e
list_in ns x next (view.Parallel shared limit (view.Branches numbers)) b h = absurd (cc h)
list_in ns x next (view.Block d) b h = let e : d ≡ b = cc h in ap (λ (y : Listed). steps_by ns y.steps) e
list_in ns x next (view.Try n policy (Some y)) b h = let e : y.steps ≡ b = cc h in ap (λ (z : Listed). steps_by ns z.steps) e
list_in ns x next (view.Try n policy None) b h = absurd (cc h)
list_in ns x next (view.Branch d) b h = let e : d ≡ b = cc h in ap (λ (y : Listed). steps_by ns y.steps) e
list_in ns x next view.Nothing b h = absurd (cc h)
list_in ns x next (view.Assign numbers) b h = absurd (cc h)
list_in ns x next (view.Call f) b h = absurd (cc h)
list_in ns x next (view.Switch numbers) b h = absurd (cc h)
list_in ns x next (view.Raise t) b h = absurd (cc h)
list_in ns x next (view.Return t) b h = absurd (cc h)
list_in ns x next (view.Arm t) b h = absurd (cc h)
list_in ns x next (view.Entry e) b h = absurd (cc h)

pub list_is : (ns : List Spot) (nodes : List Node) (n : ℕ) (b : Listed) → Resolves ns nodes → list_at nodes n ≡ Some b → part_list (part_at ns n) ≡ steps_by ns b.steps
list_is ns nodes n b r h =
    let s = seen_list nodes n b h in
    ap part_list (part_is ns nodes n s.node r s.at) ∙ list_in ns s.node.name s.node.next (node_view s.node).kind b (sym (list_of nodes n s.node s.at) ∙ h)

-- where a list and its steps stand
pub record Stood (ns : List Spot) (nodes : List Node) (n : ℕ) (b : Listed) : Type 0 where
  pub below : AreBelow (length nodes) b.steps
  pub inside : StandIn ns (n ∷ outside_at ns nodes n) b.steps
  pub depth : b.depth ≡ suc (length (outside_at ns nodes n))

pub list_stands : (ns : List Spot) (nodes : List Node) (n : ℕ) (b : Listed) → Resolves ns nodes → list_at nodes n ≡ Some b → Stood ns nodes n b
list_stands ns nodes n b r h =
    let s = seen_list nodes n b h in
    let is = sym (list_of nodes n s.node s.at) ∙ h in
    let out : outside_at ns nodes n ≡ outside (node_view s.node).kind (owners_at ns n) = ap (λ o. view_outside o (owners_at ns n)) (view_is nodes n s.node s.at) in
    let all = subst (λ o. ListStands ns (length nodes) n (outside (node_view s.node).kind (owners_at ns n)) o) is (r.each n s.node s.at).list in
    record {
      below = all.0;
      inside = subst (λ (os : List ℕ). StandIn ns (n ∷ os) b.steps) (sym out) all.2;
      depth = all.3 ∙ sym (ap (λ (os : List ℕ). suc (length os)) out);
    }

pub below_get : (len : ℕ) (xs : List ℕ) (i : ℕ) → AreBelow len xs → i < length xs → get_or xs i 0 < len
below_get len [] i a h = absurd (omega (arith, h))
below_get len (x ∷ xs) zero a h = a.0
below_get len (x ∷ xs) (suc i) a h = below_get len xs i a.1 (omega (arith, h))

pub stand_get : (ns : List Spot) (os xs : List ℕ) (i : ℕ) → StandIn ns os xs → i < length xs → owners_at ns (get_or xs i 0) ≡ os
stand_get ns os [] i a h = absurd (omega (arith, h))
stand_get ns os (x ∷ xs) zero a h = a.0
stand_get ns os (x ∷ xs) (suc i) a h = stand_get ns os xs i a.1 (omega (arith, h))

-- ## Entries
entries_in : (ns : List Spot) (x : Text) (next : Option Text) (k : Kind) (b : List ℕ) → kind_entries k ≡ Some b → part_by ns x next k ≡ part_by ns x next (view.Assign b)
entries_in ns x next (view.Assign numbers) b h = let e : numbers ≡ b = cc h in ap (λ (ys : List ℕ). part_by ns x next (view.Assign ys)) e
entries_in ns x next (view.Flow params d) b h = absurd (cc h)
entries_in ns x next (view.For l) b h = absurd (cc h)
entries_in ns x next (view.Parallel shared limit w) b h = absurd (cc h)
entries_in ns x next (view.Block d) b h = absurd (cc h)
entries_in ns x next (view.Try n policy y) b h = absurd (cc h)
entries_in ns x next (view.Branch d) b h = absurd (cc h)
entries_in ns x next view.Nothing b h = absurd (cc h)
entries_in ns x next (view.Call f) b h = absurd (cc h)
entries_in ns x next (view.Switch numbers) b h = absurd (cc h)
entries_in ns x next (view.Raise t) b h = absurd (cc h)
entries_in ns x next (view.Return t) b h = absurd (cc h)
entries_in ns x next (view.Arm t) b h = absurd (cc h)
entries_in ns x next (view.Entry e) b h = absurd (cc h)

pub entries_is : (ns : List Spot) (nodes : List Node) (n : ℕ) (b : List ℕ) → Resolves ns nodes → entries_at nodes n ≡ Some b → body_entries (part_body (part_at ns n)) ≡ entries_by ns b
entries_is ns nodes n b r h =
    let s = seen_entries nodes n b h in
    ap (λ p. body_entries (part_body p)) (part_is ns nodes n s.node r s.at ∙ entries_in ns s.node.name s.node.next (node_view s.node).kind b (sym (entries_of nodes n s.node s.at) ∙ h))

-- a node of another kind is no call
pub other_node : (nodes : List Node) (n : ℕ) (x : Node) → slice_get nodes n ≡ Some x → ((f : CallNode) → x.kind ≡ kind.Call f → ⊥) → (f : CallNode) → IsCall nodes n f → ⊥
other_node nodes n x at other f h = (
    let same : h.node ≡ x = cc (sym h.at ∙ at) in
    other f (ap (λ (y : Node). y.kind) (sym same) ∙ h.is)
    )
