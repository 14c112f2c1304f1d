-- Frames that are put on fit the table.
use Rattle.std.proofs.Common.{◌≡◌, ℕ, ◌<◌, ◌≤◌, true, List, ◌∷◌, length, get_or, Some, sym, ap, subst, ◌∙◌, arith}
use Rattle.std.specs.Prelude.{is_some, slice_get, Box, Vec}
use Rattle.std.specs.declared.alloc.Global.{Global}
use Rattle.std.proofs.lemmas.Option.{slice_get_within}
use Rattle.wf_frames.specs.Fits.{Fits, FrameFits, IsLoop, IsTry, entries_at, has_next, kind_entries, outside_at, reach, view_at, view_outside}
use Rattle.wf_frames.specs.declared.frames.Frame.{Frame}
use Rattle.wf_frames.specs.declared.frames.Frame.TheVariants as frame
use Rattle.wf_frames.specs.declared.frames.Looping.{Looping}
use Rattle.wf_frames.specs.declared.frames.Trying.{Trying}
use Rattle.wf_frames.proofs.Parts.{below_get, entries_of, list_of, view_is}
use Rattle.wf_frames.specs.Steps.{IsJump}
use Rattle.wf_model.specs.NodeKinds as view
use Rattle.wf_model.specs.NodeKinds.{Kind, block_view, kind_by, node_view}
use Rattle.wf_model.specs.Spots.{Spot, owners_at}
use Rattle.wf_model.specs.Table.{AreBelow, PartsStand, Resolves, kind_list, outside}
use Rattle.wf_model.specs.declared.node.Block.{Block}
use Rattle.wf_model.specs.declared.node.LoopNode.{LoopNode}
use Rattle.wf_model.specs.declared.node.Node.{Node}
use Rattle.wf_model.specs.declared.node.NodeKind.{NodeKind}
use Rattle.wf_model.specs.declared.node.NodeKind.TheVariants as kind
use Rattle.wf_model.specs.declared.node.TryNode.{TryNode}
use Rattle.wf_value.specs.Pairs.{Text}

module _ (ns : List Spot) (nodes : List Node) (n : ℕ) (x : Node) (old new : List Frame) (at : slice_get nodes n ≡ Some x) (fits : Fits ns nodes old) where
  pub block_fits : (b : Block) → x.kind ≡ kind.Block b → owners_at ns n ≡ reach old → new ≡ frame.Do n 0 ∷ old → Fits ns nodes new
  block_fits b is inside e =
      let list = list_of nodes n x at ∙ ap (λ (k : NodeKind). kind_list (kind_by x.codes.items.items k)) is in
      let out : outside_at ns nodes n ≡ owners_at ns n = ap (λ o. view_outside o (owners_at ns n)) (view_is nodes n x at) ∙ ap (λ (k : NodeKind). outside (kind_by x.codes.items.items k) (owners_at ns n)) is in
      subst (Fits ns nodes) (sym e) (((block_view b, list, omega arith), out ∙ inside), fits)

  pub entries_fits : (v : Vec ℕ Global) → x.kind ≡ kind.Assign v → 1 ≤ length v.items → new ≡ frame.Entries n 1 ∷ old → Fits ns nodes new
  entries_fits v is h e =
      subst (Fits ns nodes) (sym e) (((v.items, entries_of nodes n x at ∙ ap (λ (k : NodeKind). kind_entries (kind_by x.codes.items.items k)) is, h), tt), fits)

  pub then_next : (y : Text) → x.next ≡ Some y → has_next (view_at nodes n) ≡ true
  then_next y h = ap has_next (view_is nodes n x at) ∙ ap is_some h

  pub then_fits : (y : Text) → x.next ≡ Some y → owners_at ns n ≡ reach old → new ≡ frame.Then n ∷ old → Fits ns nodes new
  then_fits y h inside e = subst (Fits ns nodes) (sym e) (((slice_get_within nodes n x at, then_next y h), inside), fits)

  pub jump_ready : (y : Text) → x.next ≡ Some y → owners_at ns n ≡ reach old → IsJump ns nodes n old
  jump_ready y h here = record { within = slice_get_within nodes n x at; next = then_next y h; inside = here }

-- a block's frame
pub block_frame : (ns : List Spot) (nodes : List Node) (n : ℕ) (x : Node) (fs : List Frame) → slice_get nodes n ≡ Some x → (b : Block) → x.kind ≡ kind.Block b → owners_at ns n ≡ reach fs → FrameFits ns nodes (frame.Do n 0) fs
block_frame ns nodes n x fs at b is inside =
    let list = list_of nodes n x at ∙ ap (λ (k : NodeKind). kind_list (kind_by x.codes.items.items k)) is in
    let out : outside_at ns nodes n ≡ owners_at ns n = ap (λ o. view_outside o (owners_at ns n)) (view_is nodes n x at) ∙ ap (λ (k : NodeKind). outside (kind_by x.codes.items.items k) (owners_at ns n)) is in
    ((block_view b, list, omega arith), out ∙ inside)

pub loop_fits : (ns : List Spot) (nodes : List Node) (n : ℕ) (held : Box Looping Global) (b : LoopNode) (old new : List Frame) → IsLoop nodes n b → held.value.node ≡ n → new ≡ frame.Loop held ∷ old → Fits ns nodes old → Fits ns nodes new
loop_fits ns nodes n held b old new is same e fits = subst (Fits ns nodes) (sym e) (((b, subst (λ (m : ℕ). IsLoop nodes m b) (sym same) is), tt), fits)

-- a `try` and its body
pub try_fits : (ns : List Spot) (nodes : List Node) (n : ℕ) (held : Box Trying Global) (t : TryNode) (f : Frame) (old mid new : List Frame) → IsTry nodes n t → held.value.node ≡ n → owners_at ns n ≡ reach old → mid ≡ frame.Try held ∷ old → new ≡ f ∷ mid
    → FrameFits ns nodes f mid → Fits ns nodes old → Fits ns nodes new
try_fits ns nodes n held t f old mid new is same inside m e h fits =
    subst (Fits ns nodes) (sym e) (h, subst (Fits ns nodes) (sym m) (((t, subst (λ (k : ℕ). IsTry nodes k t) (sym same) is), ap (owners_at ns) same ∙ inside), fits))

-- the first entry of an assign
pub entry_ready : (ns : List Spot) (nodes : List Node) (n : ℕ) (x : Node) (v : Vec ℕ Global) → Resolves ns nodes → slice_get nodes n ≡ Some x → x.kind ≡ kind.Assign v → 1 ≤ length v.items → get_or v.items 0 0 < length nodes
entry_ready ns nodes n x v r at is h =
    below_get (length nodes) v.items 0 (subst (λ (k : NodeKind). PartsStand ns (length nodes) (owners_at ns n) (kind_by x.codes.items.items k)) is (r.each n x at).parts) (omega (arith, h))

pub entry_below : (ns : List Spot) (nodes : List Node) (n i : ℕ) (b : List ℕ) (x : Node) → Resolves ns nodes → slice_get nodes n ≡ Some x → entries_at nodes n ≡ Some b → i < length b → get_or b i 0 < length nodes
entry_below ns nodes n i b x r at is h = below_get (length nodes) b i (by (node_view x).kind (sym (entries_of nodes n x at) ∙ is) (r.each n x at).parts) h
  where
    by : (k : Kind) → kind_entries k ≡ Some b → PartsStand ns (length nodes) (owners_at ns n) k → AreBelow (length nodes) b
    by (view.Assign numbers) q p = let same : numbers ≡ b = cc q in subst (AreBelow (length nodes)) same p
    by (view.Flow params d) q p = absurd (cc q)
    by (view.For l) q p = absurd (cc q)
    by (view.Parallel shared limit w) q p = absurd (cc q)
    by (view.Block d) q p = absurd (cc q)
    by (view.Try m policy y) q p = absurd (cc q)
    by (view.Branch d) q p = absurd (cc q)
    by view.Nothing q p = absurd (cc q)
    by (view.Call f) q p = absurd (cc q)
    by (view.Switch numbers) q p = absurd (cc q)
    by (view.Raise t) q p = absurd (cc q)
    by (view.Return t) q p = absurd (cc q)
    by (view.Arm t) q p = absurd (cc q)
    by (view.Entry e) q p = absurd (cc q)
