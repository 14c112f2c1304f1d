-- What nodes of a table are, and what they want.
use Rattle.std.proofs.Common.{◌≡◌, ℕ, Bool, true, false, Some, refl, sym, ap, ◌∙◌, List, Option}
use Rattle.std.specs.Prelude.{◌||◌, slice_get}
use Rattle.wf_ast.specs.Tree.{Program}
use Rattle.wf_frames.proofs.Parts.{as_part, part_is}
use Rattle.wf_model.specs.Kinds.{body_kind, entry_now}
use Rattle.wf_model.specs.NodeKinds.{kind_by}
use Rattle.wf_model.specs.Shapes.{Compiled}
use Rattle.wf_model.specs.Spots.{Spot, part_at, part_body, part_entry}
use Rattle.wf_model.specs.Table.{Resolves, part_by}
use Rattle.wf_model.specs.declared.node.EntryNode.{EntryNode}
use Rattle.wf_model.specs.declared.node.Node.{Node}
use Rattle.wf_model.specs.declared.node.NodeKind.{NodeKind}
use Rattle.wf_model.specs.declared.node.NodeKind.TheVariants as kind
use Rattle.wf_value.specs.Pairs.{Text}

-- ## Entries
no_entry : (ns : List Spot) (cs : Compiled) (x : Text) (next : Option Text) (k : NodeKind) → ((e : EntryNode) → k ≡ kind.Entry e → ⊥) → entry_now (part_entry (part_by ns x next (kind_by cs k))) ≡ false
no_entry ns cs x next (kind.Entry e) h = absurd (h e refl)
no_entry ns cs x next kind.Nothing h = refl
no_entry ns cs x next (kind.Flow f) h = refl
no_entry ns cs x next (kind.Assign v) h = refl
no_entry ns cs x next (kind.Call f) h = refl
no_entry ns cs x next (kind.Switch v) h = refl
no_entry ns cs x next (kind.For l) h = refl
no_entry ns cs x next (kind.Parallel p) h = refl
no_entry ns cs x next (kind.Block b) h = refl
no_entry ns cs x next (kind.Try t) h = refl
no_entry ns cs x next (kind.Raise t) h = refl
no_entry ns cs x next (kind.Return t) h = refl
no_entry ns cs x next (kind.Arm t) h = refl
no_entry ns cs x next (kind.Branch b) h = refl

pub entry_absent : (ns : List Spot) (nodes : List Node) (n : ℕ) (x : Node) → Resolves ns nodes → slice_get nodes n ≡ Some x → ((e : EntryNode) → x.kind ≡ kind.Entry e → ⊥) → entry_now (part_entry (part_at ns n)) ≡ false
entry_absent ns nodes n x r at h = ap (λ p. entry_now (part_entry p)) (part_is ns nodes n x r at) ∙ no_entry ns x.codes.items.items x.name x.next x.kind h

-- ## Bodies
module _ (ns : List Spot) (nodes : List Node) (n : ℕ) (x : Node) (r : Resolves ns nodes) (at : slice_get nodes n ≡ Some x) (p : Program) where
  -- the kind of a body, by the node's
  pub body_so : (k : NodeKind) → x.kind ≡ k → body_kind p (part_body (part_at ns n)) ≡ body_kind p (part_body (part_by ns x.name x.next (kind_by x.codes.items.items k)))
  body_so k is = ap (λ q. body_kind p (part_body q)) (as_part ns nodes n x k r at is)

-- a test or another
pub either_true : (a b v : Bool) → a ≡ true → v ≡ true → v ≡ (a || b)
either_true a b v t e = e ∙ sym (ap (λ (c : Bool). c || b) t)

pub either_false : (a b v : Bool) → a ≡ false → v ≡ b → v ≡ (a || b)
either_false a b v t e = e ∙ sym (ap (λ (c : Bool). c || b) t)
