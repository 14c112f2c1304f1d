-- A task at the start of a workflow.
use Rattle.std.proofs.Common.{◌≡◌, ℕ, ◌+◌, ◌<◌, Bool, true, false, List, [], ◌∷◌, length, Some, None, refl, sym, ap, subst, ◌∙◌, arith}
use Rattle.std.specs.Prelude.{if◌then◌else◌, is_some, nat_eq, slice_get}
use Rattle.wf_ast.specs.Tree.{Param}
use Rattle.wf_frames.proofs.Sums.{SumIs}
use Rattle.wf_frames.specs.Fits.{Fits, list_at, outside_at, view_outside}
use Rattle.wf_frames.specs.Frames.{control, own, topped}
use Rattle.wf_frames.specs.Held.{standing}
use Rattle.wf_frames.specs.Owned.{Around, IsLinked, Linked, besides, held_of}
use Rattle.wf_frames.specs.declared.frames.Frame.{Frame}
use Rattle.wf_frames.specs.declared.frames.Frame.TheVariants as frame
use Rattle.wf_model.specs.Config.{Do}
use Rattle.wf_model.specs.Local.{Local, outers_total, settle}
use Rattle.wf_model.specs.Run.{argument_in}
use Rattle.wf_frames.proofs.Parts.{list_within, part_is, view_is}
use Rattle.wf_moves.specs.Tasks.{IsFirst, IsFlow, argued, begun, has_ended, part_params}
use Rattle.wf_model.specs.NodeKinds as view
use Rattle.wf_model.specs.NodeKinds.{Kind, Listed, View, kind_by, node_view}
use Rattle.wf_model.specs.Shapes.{Compiled}
use Rattle.wf_model.specs.Spots.{Spot, owners_at, part_at, part_list}
use Rattle.wf_model.specs.Table.{Resolves, kind_list, outside, part_by, view_list}
use Rattle.wf_model.specs.declared.node.FlowNode.{FlowNode}
use Rattle.wf_model.specs.declared.node.Node.{Node}
use Rattle.wf_model.specs.declared.node.NodeKind.{NodeKind}
use Rattle.wf_model.specs.declared.node.NodeKind.TheVariants as kind
use Rattle.wf_scope.specs.Layers.{Layer, opened, vars_at, vars_in}
use Rattle.wf_scope.specs.Store.{layers_of}
use Rattle.wf_frames.specs.Tasks.{Far, Own, far_layers, numbers}
use Rattle.wf_scope.specs.declared.scopes.Scopes.{Scopes}
use Rattle.wf_value.proofs.Order.{in_order_empty, in_order_with_value}
use Rattle.wf_value.specs.Data.{Data, Pairs, pairs_of, pairs_size}
use Rattle.wf_value.specs.Maps.{IsInOrder, with_value}
use Rattle.wf_value.specs.Pairs.{Text}

-- ## The frame
pub flow_list : (nodes : List Node) (n : ℕ) (f : IsFlow nodes n) → list_at nodes n ≡ Some f.list
flow_list nodes n f = ap view_list f.at ∙ ap kind_list f.is

pub flow_fits : (ns : List Spot) (nodes : List Node) (n : ℕ) (fs : List Frame) → IsFlow nodes n → fs ≡ frame.Do n 0 ∷ [] → Fits ns nodes fs
flow_fits ns nodes n fs f e =
    let out : outside_at ns nodes n ≡ [] = ap (λ o. view_outside o (owners_at ns n)) f.at ∙ ap (λ (k : Kind). outside k (owners_at ns n)) f.is in
    subst (Fits ns nodes) (sym e) (((f.list, flow_list nodes n f, omega arith), out), tt)

-- ## The node
pub flow_params : (ns : List Spot) (nodes : List Node) (n : ℕ) (x : Node) (ps : List Param) (b : Listed) → Resolves ns nodes → slice_get nodes n ≡ Some x → (node_view x).kind ≡ view.Flow ps b → part_params (part_at ns n) ≡ ps
flow_params ns nodes n x ps b r at is = ap part_params (part_is ns nodes n x r at ∙ ap (part_by ns x.name x.next) is)

-- the workflow's node is of that kind
pub flow_is : (nodes : List Node) (n : ℕ) (x : Node) (f : IsFlow nodes n) → slice_get nodes n ≡ Some x → (node_view x).kind ≡ view.Flow f.params f.list
flow_is nodes n x f at =
    let same : node_view x ≡ f.view = cc (sym (view_is nodes n x at) ∙ f.at) in
    ap (λ (v : View). v.kind) same ∙ f.is

pub flow_within : (nodes : List Node) (n : ℕ) → IsFlow nodes n → n < length nodes
flow_within nodes n f = list_within nodes n (ap is_some (flow_list nodes n f))

pub only_flow : (cs : Compiled) (k : NodeKind) (ps : List Param) (b : Listed) → kind_by cs k ≡ view.Flow ps b → ((f : FlowNode) → k ≡ kind.Flow f → ⊥) → ⊥
only_flow cs (kind.Flow f) ps b e h = h f refl
only_flow cs kind.Nothing ps b e h = cc e
only_flow cs (kind.Assign v) ps b e h = cc e
only_flow cs (kind.Call f) ps b e h = cc e
only_flow cs (kind.Switch v) ps b e h = cc e
only_flow cs (kind.For l) ps b e h = cc e
only_flow cs (kind.Parallel p) ps b e h = cc e
only_flow cs (kind.Block d) ps b e h = cc e
only_flow cs (kind.Try t) ps b e h = cc e
only_flow cs (kind.Raise t) ps b e h = cc e
only_flow cs (kind.Return t) ps b e h = cc e
only_flow cs (kind.Arm t) ps b e h = cc e
only_flow cs (kind.Entry x) ps b e h = cc e
only_flow cs (kind.Branch d) ps b e h = cc e

-- ## The layer
abbrev layer_with : List (Text × Data) → Layer
layer_with ps = record { number = 0; outer = None; depth = 0; vars = ps }

-- the argument's variables
abbrev arguments : List Param → Data → List (Text × Data)
arguments [] v = []
arguments (x ∷ xs) v = with_value x.name v []

argued_is : (ps : List Param) (v : Data) → argued 0 ps v (opened None 0 []) ≡ layer_with (arguments ps v) ∷ []
argued_is [] v = refl
argued_is (x ∷ xs) v = refl

arguments_are : (ps : List Param) (v : Data) → pairs_of (arguments ps v) ≡ argument_in ps v
arguments_are [] v = refl
arguments_are (x ∷ xs) v = refl

arguments_order : (ps : List Param) (v : Data) → IsInOrder (arguments ps v)
arguments_order [] v = in_order_empty {X = Data} [] refl
arguments_order (x ∷ xs) v = in_order_with_value x.name v [] (in_order_empty {X = Data} [] refl)

one_order : (ps : List (Text × Data)) (n : ℕ) → IsInOrder ps → IsInOrder (vars_at n (layer_with ps ∷ []))
one_order ps n h = by (nat_eq 0 n)
  where
    by : (b : Bool) → IsInOrder (vars_in (if b then Some (layer_with ps) else None))
    by true = h
    by false = in_order_empty {X = Data} [] refl

module _ (a : Around) (x y : Scopes) (n : ℕ) (ps : List Param) (v : Data) (f : IsFirst a x) (number : n ≡ 0) (is : layers_of y ≡ argued n ps v (opened None 0 [])) where
  layers : layers_of y ≡ layer_with (arguments ps v) ∷ []
  layers = is ∙ ap (λ (m : ℕ). argued m ps v (opened None 0 [])) number ∙ argued_is ps v

  pub first_begun : begun ps v ≡ standing [] (held_of a.keys (own n false ∷ []) (layers_of y))
  first_begun =
      ap (λ (qs : Pairs). standing [] (record { own = record { vars = qs; by_call = false } ∷ []; outside = [] })) (sym (arguments_are ps v))
      ∙ sym (ap (λ (ks : List Far). standing [] (held_of ks (own n false ∷ []) (layers_of y))) f.keys ∙ ap (λ (m : ℕ). standing [] (held_of [] (own m false ∷ []) (layers_of y))) number ∙ ap (λ ls. standing [] (held_of [] (own 0 false ∷ []) ls)) layers)

  one_linked : Linked [] (own 0 false ∷ []) (layer_with (arguments ps v) ∷ [])
  one_linked = record { stand = ((layer_with (arguments ps v), refl, refl), tt); keys = tt; apart = (tt, tt); alone = (((λ e. absurd (cc e)), tt), tt) }

  pub first_linked : y.limit ≡ x.limit → IsLinked a (own n false ∷ []) y
  first_linked same = record {
    layers = subst (λ (ks : List Far). Linked ks (own n false ∷ []) (layers_of y)) (sym f.keys) (subst (λ (m : ℕ). Linked [] (own m false ∷ []) (layers_of y)) (sym number) (subst (λ ls. Linked [] (own 0 false ∷ []) ls) (sym layers) one_linked));
    limit = same ∙ f.limit;
    order = λ m. subst (λ ls. IsInOrder (vars_at m ls)) (sym layers) (one_order (arguments ps v) m (arguments_order ps v));
    unseen = ap (λ (ks : List Far). besides (numbers (own n false ∷ []) ks) (layers_of y)) f.keys ∙ ap (λ (m : ℕ). besides (m ∷ []) (layers_of y)) number ∙ ap (besides (0 ∷ [])) layers ∙ sym f.rest;
    sum = subst (λ ls. SumIs a (own n false ∷ []) ls) (sym layers) one_sum;
  }
    where
      shift : (p k o : ℕ) → k ≡ 0 → o ≡ 0 → (p + 0) + k + o ≡ p + 0
      shift p k o e h = omega (arith, e, h)

      one_sum : SumIs a (own n false ∷ []) (layer_with (arguments ps v) ∷ [])
      one_sum =
          let ls = layer_with (arguments ps v) ∷ [] in
          let none : outers_total (far_layers a.keys ls) ≡ 0 = ap (λ (ks : List Far). outers_total (far_layers ks ls)) f.keys in
          subst (λ (m : ℕ). SumIs a (own m false ∷ []) ls) (sym number) (shift (pairs_size (pairs_of (arguments ps v))) (outers_total (far_layers a.keys ls)) a.others none f.others)

-- ## The steps
pub begins_so : (a : Around) (n number : ℕ) (fs : List Frame) (os : List Own) (ls : List Layer) (qs ps : List Param) (v : Data) (l : Local) → fs ≡ frame.Do n 0 ∷ [] → os ≡ own number false ∷ [] → qs ≡ ps
    → begun qs v ≡ standing [] (held_of a.keys (own number false ∷ []) ls) → settle (control a.spots fs) (standing [] (held_of a.keys os ls)) ≡ l
    → settle (Do (part_list (part_at a.spots n)) (part_list (part_at a.spots n)) ∷ []) (begun ps v) ≡ l
begins_so a n number fs os ls qs ps v l f o q b s =
    ap (settle (Do (part_list (part_at a.spots n)) (part_list (part_at a.spots n)) ∷ [])) (ap (λ (ys : List Param). begun ys v) (sym q) ∙ b ∙ ap (λ (ys : List Own). standing [] (held_of a.keys ys ls)) (sym o))
    ∙ ap (λ ys. settle (control a.spots ys) (standing [] (held_of a.keys os ls))) (sym f) ∙ s

-- ## The end
pub none_left : (fs : List Frame) → topped fs ≡ None → true ≡ has_ended fs
none_left [] e = refl
none_left (f ∷ fs) e = absurd (cc e)

pub one_left : (f : Frame) (fs : List Frame) → topped fs ≡ Some f → false ≡ has_ended fs
one_left f [] e = absurd (cc e)
one_left f (g ∷ fs) e = refl
