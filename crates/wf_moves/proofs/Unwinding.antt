-- Errors that go outward.
use Rattle.std.proofs.Common.{◌≡◌, ◌≤◌, ◌<◌, ℕ, Bool, true, false, List, [], ◌∷◌, length, Some, None, refl, sym, ap, subst, ◌∙◌, arith}
use Rattle.std.specs.Prelude.{IfSome, Option, is_some, Box}
use Rattle.std.specs.Global.{Global}
use Rattle.wf_ast.specs.Tree.{except, try}
use Rattle.wf_ast.specs.View.{policy_option_view}
use Rattle.wf_frames.specs.Fits.{Fits, IsTry, list_at, outside_at, reach, view_outside}
use Rattle.wf_frames.specs.Frames.{body_try, control, items, own, owned, topped}
use Rattle.wf_frames.specs.Held.{Held, standing}
use Rattle.wf_frames.specs.Turns.{Enters, Leaves, dropped, left_by, with_layer}
use Rattle.wf_frames.specs.declared.frames.Frame.{Frame}
use Rattle.wf_frames.specs.declared.frames.Frame.TheVariants as frame
use Rattle.wf_frames.specs.declared.frames.Trying.{Trying}
use Rattle.wf_model.specs.Config.{Do, Item, Mark}
use Rattle.wf_model.specs.Layers.{opened}
use Rattle.wf_model.specs.Local.{Local, Moved, Scene, goes}
use Rattle.wf_model.specs.Unwind.{excepted, handled, unwind}
use Rattle.wf_moves.proofs.Leaving.{stands_on}
use Rattle.wf_moves.specs.Retries.{Handler, TriedAt, caught_at, decide_at, tried_of, tried_by}
use Rattle.wf_moves.specs.declared.unwind.Tried.{Tried}
use Rattle.wf_model.specs.NodeKinds.{block_view, handler_view, kind_by}
use Rattle.wf_model.specs.Spots.{Spot, owners_at, part_at, part_body, part_list, steps_by}
use Rattle.wf_model.specs.Table.{except_of, handler_list, kind_list, outside}
use Rattle.wf_model.specs.declared.node.Node.{Node}
use Rattle.wf_model.specs.declared.node.NodeKind.{NodeKind}
use Rattle.wf_model.specs.declared.node.TryNode.{TryNode}
use Rattle.wf_frames.proofs.Parts.{list_is, list_of, tried_body, view_is}
use Rattle.wf_frames.specs.Built.{IsTableOf}
use Rattle.wf_value.specs.Data.{Data}
use Rattle.wf_value.specs.Errors.{error_map}
use Rattle.wf_value.specs.declared.Tag.TheVariants.{ResourceLimitError}

-- ## One frame
module _ (ns : List Spot) where
  passes_one : (s : Scene) (f : Frame) (k : List Item) (l : Local) (e : Data) → tried_of f ≡ None → unwind s (items ns f k) l e ≡ unwind s k (left_by f l) e
  passes_one s (frame.Do n at) k l e h = refl
  passes_one s (frame.Lone n b) k l e h = refl
  passes_one s (frame.Entries n at) k l e h = refl
  passes_one s (frame.Then n) k l e h = refl
  passes_one s (frame.Loop looping) k l e h = refl
  passes_one s (frame.Mark m) k l e h = refl
  passes_one s (frame.Back c m) k l e h = refl
  passes_one s (frame.Judge judging) k l e h = refl
  passes_one s (frame.Try trying) k l e h = absurd (cc h)

  -- the `try` of a frame
  is_try : (f : Frame) (t : Tried) → tried_of f ≡ Some t → (held : Box Trying Global) × (f ≡ frame.Try held) × (tried_by held.value ≡ t)
  is_try (frame.Do n at) t h = absurd (cc h)
  is_try (frame.Lone n b) t h = absurd (cc h)
  is_try (frame.Entries n at) t h = absurd (cc h)
  is_try (frame.Then n) t h = absurd (cc h)
  is_try (frame.Loop looping) t h = absurd (cc h)
  is_try (frame.Mark m) t h = absurd (cc h)
  is_try (frame.Back c m) t h = absurd (cc h)
  is_try (frame.Judge judging) t h = absurd (cc h)
  is_try (frame.Try trying) t h = let same : tried_by trying.value ≡ t = cc h in (trying, refl, same)

  -- ## The innermost frame is left
  pub passes_on : (f : Frame) (b : Bool) (old new : List Frame) (h g : Held) → topped old ≡ Some f → tried_of f ≡ None → Leaves b old h new g
      → (s : Scene) (c : List Item) (e : Data) → unwind s (control ns old) (standing c h) e ≡ unwind s (control ns new) (standing c g) e
  passes_on f false old new h g p q w s c e = absurd (cc (sym p ∙ ap topped w.0))
  passes_on f true old new h g p q w s c e =
      let same : w.0 ≡ f = cc (sym (ap topped w.1) ∙ p) in
      ap (λ fs. unwind s (control ns fs) (standing c h) e) w.1 ∙ passes_one s w.0 (control ns new) (standing c h) e (ap tried_of same ∙ q)
      ∙ ap (λ l. unwind s (control ns new) l e) (stands_on w.0 c h ∙ ap (standing c) (sym w.2))

  takes_on : (f : Frame) (t : Tried) (b : Bool) (old new : List Frame) (h g : Held) → topped old ≡ Some f → tried_of f ≡ Some t → Leaves b old h new g
      → (s : Scene) (c : List Item) (e : Data) → unwind s (control ns old) (standing c h) e ≡ decide_at ns t s e (control ns new) (standing c g)
  takes_on f t false old new h g p q w s c e = absurd (cc (sym p ∙ ap topped w.0))
  takes_on f t true old new h g p q w s c e =
      let same : w.0 ≡ f = cc (sym (ap topped w.1) ∙ p) in
      let x = is_try f t q in
      let is : w.0 ≡ frame.Try x.0 = same ∙ x.1 in
      let held : h ≡ g = sym (w.2 ∙ ap (λ y. dropped y h) is) in
      ap (λ fs. unwind s (control ns fs) (standing c h) e) (w.1 ∙ ap (λ y. y ∷ new) is) ∙ ap (λ (y : Held). decide_at ns (tried_by x.0.value) s e (control ns new) (standing c y)) held
      ∙ ap (λ (y : Tried). decide_at ns y s e (control ns new) (standing c g)) x.2

  tried_at : (nodes : List Node) (f : Frame) (t : Tried) (b : Bool) (old new : List Frame) (h g : Held) → topped old ≡ Some f → tried_of f ≡ Some t → Leaves b old h new g → Fits ns nodes old → TriedAt ns nodes t new
  tried_at nodes f t false old new h g p q w fits = absurd (cc (sym p ∙ ap topped w.0))
  tried_at nodes f t true old new h g p q w fits =
      let same : w.0 ≡ f = cc (sym (ap topped w.1) ∙ p) in
      let x = is_try f t q in
      let all : Fits ns nodes (frame.Try x.0 ∷ new) = subst (λ y. Fits ns nodes (y ∷ new)) (same ∙ x.1) (subst (Fits ns nodes) w.1 fits) in
      subst (λ (y : Tried). TriedAt ns nodes y new) x.2 (record { node = all.0.0.0; is = all.0.0.1; inside = all.0.1 })

  -- ## Where one was looked for
  pub caught_on : (f : Frame) (o : Option Tried) (b : Bool) (old new : List Frame) (h g : Held) → topped old ≡ Some f → is_some o ≡ true → o ≡ tried_of f → Leaves b old h new g
      → (s : Scene) (c : List Item) (e : Data) → unwind s (control ns old) (standing c h) e ≡ caught_at ns o s e (control ns new) (standing c g)
  caught_on f None b old new h g p t q w s c e = absurd (cc t)
  caught_on f (Some n) b old new h g p t q w s c e = takes_on f n b old new h g p (sym q) w s c e

  pub some_at : (nodes : List Node) (f : Frame) (o : Option Tried) (b : Bool) (old new : List Frame) (h g : Held) → topped old ≡ Some f → is_some o ≡ true → o ≡ tried_of f → Leaves b old h new g → Fits ns nodes old → IfSome o (λ t. TriedAt ns nodes t new)
  some_at nodes f None b old new h g p t q w fits = absurd (cc t)
  some_at nodes f (Some n) b old new h g p t q w fits = tried_at nodes f n b old new h g p (sym q) w fits

  pub caught_out : (fs : List Frame) (l : Local) → topped fs ≡ None → (s : Scene) (e : Data) → unwind s (control ns fs) l e ≡ caught_at ns None s e (control ns fs) l
  caught_out [] l t s e = refl
  caught_out (f ∷ fs) l t s e = absurd (cc t)

-- ## The steps that take the error
module _ (ns : List Spot) (nodes : List Node) (t : IsTableOf ns nodes) where
  pub try_is : (n : ℕ) (y : TryNode) → IsTry nodes n y → body_try (part_body (part_at ns n)) ≡ try (part_body (part_at ns y.body)) (policy_option_view y.policy) (except_of ns (handler_view y.except))
  try_is n y h = ap body_try (tried_body ns nodes n y t.resolves h)

  module _ (n : ℕ) (y : Handler nodes n) where
    handler_try : body_try (part_body (part_at ns n)) ≡ try (part_body (part_at ns y.tried.body)) (policy_option_view y.tried.policy) (except y.except.name (steps_by ns y.except.block.steps.items))
    handler_try = try_is n y.tried y.is ∙ ap (λ x. try (part_body (part_at ns y.tried.body)) (policy_option_view y.tried.policy) (except_of ns (handler_view x))) y.has

    handler_at : list_at nodes n ≡ Some (block_view y.except.block)
    handler_at =
        list_of nodes n y.is.node y.is.at ∙ ap (λ (k : NodeKind). kind_list (kind_by y.is.node.codes.items.items k)) y.is.is ∙ ap (λ x. handler_list (handler_view x)) y.has

    handler_steps : part_list (part_at ns n) ≡ steps_by ns y.except.block.steps.items
    handler_steps = list_is ns nodes n (block_view y.except.block) t.resolves handler_at

    handled_so : (s : Scene) (e : Data) (k : List Item) (l : Local) (f : Data → Moved) → handled s e (body_try (part_body (part_at ns n))) k l f ≡ excepted (opened s l ((y.except.name, e) ∷ [])) (steps_by ns y.except.block.steps.items) k l f
    handled_so s e k l f = ap (λ z. handled s e z k l f) handler_try

    pub handled_in : (s : Scene) (c : List Item) (e : Data) (layer : ℕ) (old new : List Frame) (h g : Held) (f : Data → Moved) → Enters false s (Some layer) h ((y.except.name, e) ∷ []) g → new ≡ frame.Do n 0 ∷ frame.Mark layer ∷ old
        → handled s e (body_try (part_body (part_at ns n))) (control ns old) (standing c h) f ≡ goes (control ns new) (standing c g)
    handled_in s c e layer old new h g f q p =
        handled_so s e (control ns old) (standing c h) f
        ∙ ap (λ r. excepted r (steps_by ns y.except.block.steps.items) (control ns old) (standing c h) f) q.1
        ∙ ap (λ ss. goes (Do ss ss ∷ Mark ∷ control ns old) (standing c (with_layer false q.0 h))) (sym handler_steps)
        ∙ ap (λ fs. goes (control ns fs) (standing c (with_layer false q.0 h))) (sym p) ∙ ap (λ (z : Held). goes (control ns new) (standing c z)) (sym q.2)

    pub handled_out : (s : Scene) (c : List Item) (e : Data) (old : List Frame) (h g : Held) → Enters false s None h ((y.except.name, e) ∷ []) g
        → handled s e (body_try (part_body (part_at ns n))) (control ns old) (standing c h) (unwind s (control ns old) (standing c h)) ≡ unwind s (control ns old) (standing c g) (error_map ResourceLimitError)
    handled_out s c e old h g q =
        handled_so s e (control ns old) (standing c h) (unwind s (control ns old) (standing c h))
        ∙ ap (λ r. excepted r (steps_by ns y.except.block.steps.items) (control ns old) (standing c h) (unwind s (control ns old) (standing c h))) q.0
        ∙ ap (λ (z : Held). unwind s (control ns old) (standing c z) (error_map ResourceLimitError)) (sym q.1)

    pub handler_fits : (layer : ℕ) (old mid new : List Frame) → owners_at ns n ≡ reach old → mid ≡ frame.Mark layer ∷ old → new ≡ frame.Do n 0 ∷ mid → Fits ns nodes old → Fits ns nodes new
    handler_fits layer old mid new inside m e fits =
        let out : outside_at ns nodes n ≡ owners_at ns n = ap (λ o. view_outside o (owners_at ns n)) (view_is nodes n y.is.node y.is.at) ∙ ap (λ (k : NodeKind). outside (kind_by y.is.node.codes.items.items k) (owners_at ns n)) y.is.is in
        let all : new ≡ frame.Do n 0 ∷ frame.Mark layer ∷ old = e ∙ ap (λ fs. frame.Do n 0 ∷ fs) m in
        subst (Fits ns nodes) (sym all) (((block_view y.except.block, handler_at, omega arith), out ∙ inside), ((tt, tt), fits))

pub handler_owned : (p q n layer : ℕ) (old mid new : List Frame) → mid ≡ frame.Mark layer ∷ old → new ≡ frame.Do n 0 ∷ mid → q ≡ p → owned q new ≡ own layer false ∷ owned p old
handler_owned p q n layer old mid new m e same = ap (λ (k : ℕ). owned k new) same ∙ ap (owned p) (e ∙ ap (λ fs. frame.Do n 0 ∷ fs) m)

-- without them the error goes on
pub handled_past : (ns : List Spot) (nodes : List Node) (t : IsTableOf ns nodes) (n : ℕ) (y : TryNode) → IsTry nodes n y → y.except ≡ None → (s : Scene) (e : Data) (k : List Item) (l : Local) (f : Data → Moved) → handled s e (body_try (part_body (part_at ns n))) k l f ≡ f e
handled_past ns nodes t n y h none s e k l f =
    ap (λ z. handled s e z k l f) (try_is ns nodes t n y h ∙ ap (λ x. try (part_body (part_at ns y.body)) (policy_option_view y.policy) (except_of ns (handler_view x))) none)

-- ## Fewer frames
pub fewer_by : (b : Bool) (f : Frame) (old new : List Frame) (h g : Held) → topped old ≡ Some f → Leaves b old h new g → length new < length old
fewer_by false f old new h g p w = absurd (cc (sym p ∙ ap topped w.0))
fewer_by true f old new h g p w = let e = ap length w.1 in omega (arith, e)

pub some_fewer : (o : Option Tried) (new old start : List Frame) → length new < length old → length old ≤ length start → IfSome o (λ n. length new < length start)
some_fewer None new old start h k = tt
some_fewer (Some n) new old start h k = omega (arith, h, k)
