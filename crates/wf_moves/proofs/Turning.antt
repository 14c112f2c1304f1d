-- The turns of a loop.
use Rattle.std.proofs.Common.{◌≡◌, ℕ, ◌+◌, false, List, [], ◌∷◌, Some, None, refl, sym, ap, subst, ◌∙◌, arith, add-one}
use Rattle.std.specs.Prelude.{suc, pos, Box, IfNone, Option, slice_get}
use Rattle.std.specs.Global.{Global}
use Rattle.wf_ast.specs.Tree.{Body, LoopBody, loop}
use Rattle.wf_frames.specs.Fits.{Fits, IsLoop, list_at, outside_at, view_outside}
use Rattle.wf_frames.specs.Frames.{body_loop, control, left_view, loop_item, own, owned, popped}
use Rattle.wf_frames.specs.Held.{Held, standing}
use Rattle.wf_frames.specs.Loops.{TakesTurn}
use Rattle.wf_frames.specs.Turns.{Enters, names_of, with_layer}
use Rattle.wf_frames.specs.declared.frames.Frame.{Frame}
use Rattle.wf_frames.specs.declared.frames.Frame.TheVariants as frame
use Rattle.wf_frames.specs.declared.frames.Looping.{Looping}
use Rattle.wf_frames.specs.declared.frames.Left as declared
use Rattle.wf_frames.specs.declared.turning.Turn.{Turn}
use Rattle.wf_model.specs.Config.{Item, Do, Loop, Mark, next_of}
use Rattle.wf_model.specs.Layers.{opened}
use Rattle.wf_model.specs.Leave.{on, raises}
use Rattle.wf_model.specs.Local.{Local, Scene, goes}
use Rattle.wf_model.specs.Move.{loop_names, moves, turns}
use Rattle.wf_frames.proofs.Parts.{as_part, list_of, view_is}
use Rattle.wf_moves.specs.Moved.{IsMove}
use Rattle.wf_moves.specs.declared.finish.Went.{Went}
use Rattle.wf_model.specs.NodeKinds.{block_view, kind_by, node_view, over_by}
use Rattle.wf_model.specs.Spots.{Spot, BodyAt, owners_at, part_at, part_body, part_list, steps_by}
use Rattle.wf_model.specs.Table.{Resolves, kind_list, outside}
use Rattle.wf_model.specs.declared.node.LoopNode.{LoopNode}
use Rattle.wf_model.specs.declared.node.Node.{Node}
use Rattle.wf_model.specs.declared.node.NodeKind.{NodeKind}
use Rattle.wf_model.specs.declared.node.NodeKind.TheVariants as kind
use Rattle.wf_value.specs.Data.{Data}
use Rattle.wf_value.specs.Errors.{error_map}
use Rattle.wf_value.specs.Pairs.{Text}
use Rattle.wf_value.specs.declared.Tag.TheVariants.{ResourceLimitError}

-- ## A turn
module _ (ns : List Spot) (n : ℕ) (left : declared.Left) (i : ℕ) (old : List Frame) (s : Scene) (c : List Item) (h : Held) where
  pub turn_ended : (w : Went) (l : Local) → next_of (left_view left) ≡ None → IsMove s (goes (control ns old) (standing c h)) w l → IsMove s (moves s (loop_item ns n left i ∷ control ns old) (standing c h)) w l
  turn_ended w l e m = subst (λ o. IsMove s (turns s (body_loop (part_body (part_at ns n))) o i (control ns old) (standing c h)) w l) (sym e) m

  module _ (nodes : List Node) (x : Node) (b : LoopNode) (r : Resolves ns nodes) (at : slice_get nodes n ≡ Some x) (is : x.kind ≡ kind.For b) (v : Data) (rest : declared.Left) (left_is : next_of (left_view left) ≡ Some (v, left_view rest)) where
    tree : LoopBody
    tree = loop b.value b.index (over_by x.codes.items.items b.over) (steps_by ns b.block.steps.items)

    part : part_at ns n ≡ BodyAt x.name (Body.For (loop b.value b.index (over_by x.codes.items.items b.over) (steps_by ns b.block.steps.items))) x.next
    part = as_part ns nodes n x (kind.For b) r at is

    same_names : (y : Option Text) → loop_names (loop b.value y (over_by x.codes.items.items b.over) (steps_by ns b.block.steps.items)) v i ≡ names_of b.value v y (pos i)
    same_names None = refl
    same_names (Some y) = refl

    opens : moves s (loop_item ns n left i ∷ control ns old) (standing c h) ≡ on s (control ns old) (standing c h) (opened s (standing [] h) (names_of b.value v b.index (pos i)))
        (λ ps. goes (Do (part_list (part_at ns n)) (part_list (part_at ns n)) ∷ Mark ∷ Loop (body_loop (part_body (part_at ns n))) (left_view rest) (suc i) ∷ control ns old) (standing c (with_layer false ps h)))
    opens =
        ap (λ o. turns s (body_loop (part_body (part_at ns n))) o i (control ns old) (standing c h)) left_is
        ∙ ap (λ p. turns s (body_loop (part_body p)) (Some (v, left_view rest)) i (control ns old) (standing c h)) part
        ∙ ap (λ xs. on s (control ns old) (standing c h) (opened s (standing [] h) xs) (λ ps. goes (Do (steps_by ns b.block.steps.items) (steps_by ns b.block.steps.items) ∷ Mark ∷ Loop (loop b.value b.index (over_by x.codes.items.items b.over) (steps_by ns b.block.steps.items)) (left_view rest) (suc i) ∷ control ns old) (standing c (with_layer false ps h)))) (same_names b.index)
        ∙ ap (λ p. on s (control ns old) (standing c h) (opened s (standing [] h) (names_of b.value v b.index (pos i))) (λ ps. goes (Do (part_list p) (part_list p) ∷ Mark ∷ Loop (body_loop (part_body p)) (left_view rest) (suc i) ∷ control ns old) (standing c (with_layer false ps h)))) (sym part)

    pub turn_refused : (g : Held) (w : Went) (l : Local) → Enters false s None h (names_of b.value v b.index (pos i)) g
        → IsMove s (raises s (control ns old) (standing c g) (error_map ResourceLimitError)) w l → IsMove s (moves s (loop_item ns n left i ∷ control ns old) (standing c h)) w l
    turn_refused g w l q m =
        subst (λ y. IsMove s y w l) (sym (opens ∙ ap (λ y. on s (control ns old) (standing c h) y (λ ps. goes (Do (part_list (part_at ns n)) (part_list (part_at ns n)) ∷ Mark ∷ Loop (body_loop (part_body (part_at ns n))) (left_view rest) (suc i) ∷ control ns old) (standing c (with_layer false ps h)))) q.0
        ∙ ap (λ y. raises s (control ns old) (standing c y) (error_map ResourceLimitError)) (sym q.1))) m

    pub turn_entered : (held : Box Looping Global) (layer : ℕ) (g : Held) (w : Went) (l : Local) (new : List Frame) → Enters false s (Some layer) h (names_of b.value v b.index (pos i)) g
        → held.value.node ≡ n → held.value.left ≡ rest → held.value.index ≡ i + 1 → new ≡ frame.Do n 0 ∷ frame.Mark layer ∷ frame.Loop held ∷ old
        → IsMove s (goes (control ns new) (standing c g)) w l → IsMove s (moves s (loop_item ns n left i ∷ control ns old) (standing c h)) w l
    turn_entered held layer g w l new q node behind index p m =
        subst (λ y. IsMove s y w l) (sym (opens ∙ ap (λ y. on s (control ns old) (standing c h) y (λ ps. goes (Do (part_list (part_at ns n)) (part_list (part_at ns n)) ∷ Mark ∷ Loop (body_loop (part_body (part_at ns n))) (left_view rest) (suc i) ∷ control ns old) (standing c (with_layer false ps h)))) q.1
        ∙ ap (λ (j : ℕ). goes (Do (part_list (part_at ns n)) (part_list (part_at ns n)) ∷ Mark ∷ Loop (body_loop (part_body (part_at ns n))) (left_view rest) j ∷ control ns old) (standing c (with_layer false q.0 h))) (sym (index ∙ add-one i))
        ∙ ap (λ y. goes (Do (part_list (part_at ns n)) (part_list (part_at ns n)) ∷ Mark ∷ Loop (body_loop (part_body (part_at ns n))) (left_view y) held.value.index ∷ control ns old) (standing c (with_layer false q.0 h))) (sym behind)
        ∙ ap (λ (k : ℕ). goes (Do (part_list (part_at ns n)) (part_list (part_at ns n)) ∷ Mark ∷ Loop (body_loop (part_body (part_at ns k))) (left_view held.value.left) held.value.index ∷ control ns old) (standing c (with_layer false q.0 h))) (sym node)
        ∙ ap (λ y. goes (control ns y) (standing c (with_layer false q.0 h))) (sym p) ∙ ap (λ y. goes (control ns new) (standing c y)) (sym q.2))) m

pub turn_fits : (ns : List Spot) (nodes : List Node) (n layer : ℕ) (held : Box Looping Global) (b : LoopNode) (old one two three : List Frame) → IsLoop nodes n b → held.value.node ≡ n
    → one ≡ frame.Loop held ∷ old → two ≡ frame.Mark layer ∷ one → three ≡ frame.Do n 0 ∷ two → Fits ns nodes old → Fits ns nodes three
turn_fits ns nodes n layer held b old one two three is same e1 e2 e3 fits =
    let all : three ≡ frame.Do n 0 ∷ frame.Mark layer ∷ frame.Loop held ∷ old = e3 ∙ ap (λ fs. frame.Do n 0 ∷ fs) (e2 ∙ ap (λ fs. frame.Mark layer ∷ fs) e1) in
    let listed : kind_list (node_view is.node).kind ≡ Some (block_view b.block) = ap (λ (k : NodeKind). kind_list (kind_by is.node.codes.items.items k)) is.is in
    let here : list_at nodes n ≡ Some (block_view b.block) = list_of nodes n is.node is.at ∙ listed in
    let none : outside_at ns nodes n ≡ [] = ap (λ o. view_outside o (owners_at ns n)) (view_is nodes n is.node is.at) ∙ ap (λ (k : NodeKind). outside (kind_by is.node.codes.items.items k) (owners_at ns n)) is.is in
    subst (Fits ns nodes) (sym all) (((block_view b.block, here, omega arith), none), ((tt, tt), (((b, subst (λ (m : ℕ). IsLoop nodes m b) (sym same) is), tt), fits)))

-- the own layers behind the three frames
pub turn_owned : (p q n layer : ℕ) (held : Box Looping Global) (old one two three : List Frame) → one ≡ frame.Loop held ∷ old → two ≡ frame.Mark layer ∷ one → three ≡ frame.Do n 0 ∷ two → q ≡ p → owned q three ≡ own layer false ∷ owned p old
turn_owned p q n layer held old one two three e1 e2 e3 same =
    ap (λ (k : ℕ). owned k three) same ∙ ap (owned p) (e3 ∙ ap (λ fs. frame.Do n 0 ∷ fs) (e2 ∙ ap (λ fs. frame.Mark layer ∷ fs) e1))

-- ## What a turn leaves
-- the innermost frame is taken
pub taken_off : (fs new gs : List Frame) (f : Frame) (o : Option Frame) → fs ≡ f ∷ gs → fs ≡ popped o new → IfNone o (new ≡ []) → new ≡ gs
taken_off fs new gs f None e p none = let no : f ∷ gs ≡ [] = sym e ∙ p ∙ none in absurd (cc no)
taken_off fs new gs f (Some g) e p none = let same : g ∷ new ≡ f ∷ gs = sym p ∙ e in cc same

-- a loop that goes on behind a turn, or that has nothing left
module _ (ns : List Spot) (nodes : List Node) (t : Turn) (old new : List Frame) (x : TakesTurn (Some t) old new) where
  pub turning_fits : Fits ns nodes old → Fits ns nodes new
  turning_fits fits =
      let all : Fits ns nodes (frame.Loop x.before ∷ x.outside) = subst (Fits ns nodes) x.was fits in
      subst (Fits ns nodes) (sym x.is) ((subst (λ (k : ℕ). (b : LoopNode) × IsLoop nodes k b) (x.turns.was_node ∙ sym x.turns.node) all.0.0, tt), all.1)

  pub turning_outside : Fits ns nodes new → Fits ns nodes x.outside
  turning_outside fits =
      let all : Fits ns nodes (frame.Loop x.behind ∷ x.outside) = subst (Fits ns nodes) x.is fits in
      all.1

  pub turning_there : Fits ns nodes new → (b : LoopNode) × IsLoop nodes t.node b
  turning_there fits =
      let all : Fits ns nodes (frame.Loop x.behind ∷ x.outside) = subst (Fits ns nodes) x.is fits in
      subst (λ (k : ℕ). (b : LoopNode) × IsLoop nodes k b) x.turns.node all.0.0

  pub turning_owned : (first : ℕ) → owned first new ≡ owned first x.outside
  turning_owned first = ap (owned first) x.is

  -- its move is that of the loop of which the turn tells
  pub turning_moves : (s : Scene) (c : List Item) (h : Held) (w : Went) (l : Local) → IsMove s (moves s (loop_item ns t.node x.before.value.left t.index ∷ control ns x.outside) (standing c h)) w l → IsMove s (moves s (control ns old) (standing c h)) w l
  turning_moves s c h w l m =
      subst (λ ys. IsMove s (moves s (control ns ys) (standing c h)) w l) (sym x.was)
      (subst (λ (k : ℕ). IsMove s (moves s (loop_item ns k x.before.value.left x.before.value.index ∷ control ns x.outside) (standing c h)) w l) (sym x.turns.was_node)
      (subst (λ (k : ℕ). IsMove s (moves s (loop_item ns t.node x.before.value.left k ∷ control ns x.outside) (standing c h)) w l) (sym x.turns.was_index) m))

module _ (ns : List Spot) (nodes : List Node) (old new : List Frame) (x : TakesTurn None old new) where
  pub spent_outside : Fits ns nodes old → Fits ns nodes x.outside
  spent_outside fits =
      let all : Fits ns nodes (frame.Loop x.before ∷ x.outside) = subst (Fits ns nodes) x.was fits in
      all.1

  pub spent_owned : (first : ℕ) → owned first new ≡ owned first x.outside
  spent_owned first = ap (owned first) x.is
