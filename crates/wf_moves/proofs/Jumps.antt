-- The way of a jump.
use Rattle.std.proofs.Common.{◌≡◌, ℕ, ◌≤◌, Bool, true, false, List, [], ◌∷◌, length, Some, None, refl, sym, ap, subst, ◌∙◌, arith}
use Rattle.std.proofs.lemmas.Bool.{eqb-true, eq-eqb}
use Rattle.std.proofs.lemmas.Option.{slice_get-map, slice_get_within}
use mathlib.Core.Logic.{inl, inr}
use Rattle.std.specs.Prelude.{suc, slice_get, nat_eq, if◌then◌else◌, bytes_eq, codes, is_some}
use Rattle.wf_ast.specs.Accept.{BreakOutsideLoop}
use Rattle.wf_frames.specs.Fits.{Fits, FrameFits, list_at, outside_at, reach, views}
use Rattle.wf_frames.specs.Frames.{control, items, topped}
use Rattle.wf_frames.specs.Held.{Held, standing}
use Rattle.wf_frames.specs.Turns.{Leaves, dropped, left_by}
use Rattle.wf_frames.specs.declared.frames.Frame.{Frame}
use Rattle.wf_frames.specs.declared.frames.Frame.TheVariants as frame
use Rattle.wf_model.specs.Config.{Item, Do}
use Rattle.wf_model.specs.Leave.{continues, breaks, jumps, jumps_to, returns}
use Rattle.wf_model.specs.Local.{Local, Scene, Root, Main, Branch, Iteration, Breaks, goes, leave}
use Rattle.wf_model.specs.Unwind.{NotFound, Stands, cut_at, to_loop, to_step}
use Rattle.wf_moves.proofs.Leaving.{stands_on, same_outside}
use Rattle.wf_frames.proofs.Parts.{list_stands}
use Rattle.wf_moves.specs.Moved.{FoundIn, IsLoopTop, IsMove, IsThrough, if_at, is_loop, loop_found, target}
use Rattle.wf_moves.specs.declared.finish.Went.{Went}
use Rattle.wf_moves.specs.declared.finish.Went.TheVariants as went
use Rattle.wf_model.specs.NodeKinds.{Listed, node_view}
use Rattle.wf_model.specs.Spots.{Spot, owners_at, part_at, part_list}
use Rattle.wf_model.specs.Table as table
use Rattle.wf_model.specs.Table.{Leads, NextLeads, Resolves, view_list}
use Rattle.wf_model.specs.declared.node.Jump.{Jump}
use Rattle.wf_model.specs.declared.node.Node.{Node}
use Rattle.wf_value.specs.Data.{null}
use Rattle.wf_value.specs.Pairs.{Text}

-- the list of an owner, by the views of all nodes
owned_at : (nodes : List Node) (o : ℕ) (b : Listed) → table.list_at (views nodes) o ≡ Some b → list_at nodes o ≡ Some b
owned_at nodes o b h = ap view_list (sym (slice_get-map node_view nodes o)) ∙ h

-- ## How many lists stand around one
keep_most : (ns : List Spot) (nodes : List Node) (x : Text) (j : Jump) (os : List ℕ) → Leads ns (views nodes) x (Some j) os → j.keep ≤ length os
keep_most ns nodes x j [] h = absurd h
keep_most ns nodes x j (o ∷ os) (inl i) = omega (arith, i.keeps)
keep_most ns nodes x j (o ∷ os) (inr r) = omega (arith, keep_most ns nodes x j os r.1)

-- ## A frame that isn't the list
if_not : (n : ℕ) (b : Listed) (keep : ℕ) → if_at n (Some b) keep ≡ None → b.depth ≡ keep → ⊥
if_not n b keep h e = absurd (cc (sym (ap (λ (t : Bool). if t then Some n else None) (eq-eqb b.depth keep e)) ∙ h))

module _ (ns : List Spot) (nodes : List Node) (x : Text) (j : Jump) (r : Resolves ns nodes) where
  pub record Passes (f : Frame) (fs : List Frame) : Type 0 where
    pub goes : (k : List Item) (l : Local) → to_step x (items ns f k) l ≡ to_step x k (left_by f l)
    pub leads : Leads ns (views nodes) x (Some j) (reach fs)

  do_passes : (o at : ℕ) (fs : List Frame) → FrameFits ns nodes (frame.Do o at) fs → target nodes j.keep (frame.Do o at) ≡ None → Leads ns (views nodes) x (Some j) (o ∷ reach fs) → Passes (frame.Do o at) fs
  do_passes o at fs h t (inl i) =
      let deep : i.list.depth ≡ suc (length (reach fs)) = (list_stands ns nodes o i.list r (owned_at nodes o i.list i.owned)).depth ∙ ap (λ (os : List ℕ). suc (length os)) h.1 in
      absurd (if_not o i.list j.keep (sym (ap (λ b. if_at o b j.keep) (owned_at nodes o i.list i.owned)) ∙ t) (deep ∙ sym i.keeps))
  do_passes o at fs h t (inr q) =
      record { goes = λ k l. ap (λ ss. cut_at (part_list (part_at ns o)) ss k l (to_step x k l)) q.0; leads = q.1 }

  pub passes : (f : Frame) (fs : List Frame) → FrameFits ns nodes f fs → target nodes j.keep f ≡ None → Leads ns (views nodes) x (Some j) (reach (f ∷ fs)) → Passes f fs
  passes (frame.Do o at) fs h t w = do_passes o at fs h t w
  passes (frame.Lone n b) fs h t w = record { goes = λ k l. refl; leads = w }
  passes (frame.Entries n at) fs h t w = record { goes = λ k l. refl; leads = w }
  passes (frame.Then n) fs h t w = record { goes = λ k l. refl; leads = w }
  passes (frame.Loop looping) fs h t w = absurd w
  passes (frame.Try trying) fs h t w = record { goes = λ k l. refl; leads = w }
  passes (frame.Mark mk) fs h t w = record { goes = λ k l. refl; leads = w }
  passes (frame.Back c mk) fs h t w = absurd w
  passes (frame.Judge judging) fs h t w = absurd w

  -- a turn of the loop
  pub passes_on : (f : Frame) (fs : List Frame) (c : List Item) (h g : Held) → Passes f fs → g ≡ dropped f h → to_step x (control ns (f ∷ fs)) (standing c h) ≡ to_step x (control ns fs) (standing c g)
  passes_on f fs c h g p e = p.goes (control ns fs) (standing c h) ∙ ap (λ l. to_step x (control ns fs) l) (stands_on f c h ∙ ap (standing c) (sym e))

  -- ## The list
  if_is : (n m : ℕ) (b : Listed) (keep : ℕ) → if_at n (Some b) keep ≡ Some m → (b.depth ≡ keep) × (n ≡ m)
  if_is n m b keep h = by_test (nat_eq b.depth keep) refl
    where
      by_test : (t : Bool) → nat_eq b.depth keep ≡ t → (b.depth ≡ keep) × (n ≡ m)
      by_test true q = (eqb-true b.depth keep q, let e : Some n ≡ Some m = sym (ap (λ (t : Bool). if t then Some n else None) q) ∙ h in cc e)
      by_test false q = let e : None ≡ Some m = sym (ap (λ (t : Bool). if t then Some n else None) q) ∙ h in absurd (cc e)

  do_found : (o at m : ℕ) (fs : List Frame) → FrameFits ns nodes (frame.Do o at) fs → target nodes j.keep (frame.Do o at) ≡ Some m → Leads ns (views nodes) x (Some j) (o ∷ reach fs)
      → (h : Held) → FoundIn ns nodes x j (Some m) (frame.Do o at ∷ fs) h fs h
  do_found o at m fs f t (inl i) h =
      let two = if_is o m i.list j.keep (sym (ap (λ b. if_at o b j.keep) (owned_at nodes o i.list i.owned)) ∙ t) in
      subst (λ (n : ℕ). FoundIn ns nodes x j (Some n) (frame.Do o at ∷ fs) h fs h) two.1 (
        i.list,
        (owned_at nodes o i.list i.owned),
        i.has,
        λ p e c. ap (λ ss. cut_at (part_list (part_at ns o)) ss (control ns fs) (standing c h) (to_step x (control ns fs) (standing c h))) i.first
            ∙ ap (λ ss. Stands (Do (part_list (part_at ns o)) ss ∷ control ns fs) (standing c h)) (sym (i.only p e)),
      )
  do_found o at m fs f t (inr q) h =
      let b = f.0.0 in
      let two = if_is o m b j.keep (sym (ap (λ d. if_at o d j.keep) f.0.1) ∙ t) in
      let deep : b.depth ≡ suc (length (reach fs)) = (list_stands ns nodes o b r f.0.1).depth ∙ ap (λ (os : List ℕ). suc (length os)) f.1 in
      absurd (omega (arith, keep_most ns nodes x j (reach fs) q.1, two.0, deep))

  pub found_at : (f : Frame) (m : ℕ) (fs : List Frame) → FrameFits ns nodes f fs → target nodes j.keep f ≡ Some m → Leads ns (views nodes) x (Some j) (reach (f ∷ fs)) → (h : Held) → FoundIn ns nodes x j (Some m) (f ∷ fs) h fs h
  found_at (frame.Do o at) m fs f t w h = do_found o at m fs f t w h
  found_at (frame.Lone n b) m fs f t w h = absurd (cc t)
  found_at (frame.Entries n at) m fs f t w h = absurd (cc t)
  found_at (frame.Then n) m fs f t w h = absurd (cc t)
  found_at (frame.Loop looping) m fs f t w h = absurd (cc t)
  found_at (frame.Try trying) m fs f t w h = absurd (cc t)
  found_at (frame.Mark mk) m fs f t w h = absurd (cc t)
  found_at (frame.Back c mk) m fs f t w h = absurd (cc t)
  found_at (frame.Judge judging) m fs f t w h = absurd (cc t)

  pub record Turned (old new : List Frame) (h g : Held) : Type 0 where
    pub fits : Fits ns nodes new
    pub goes : (c : List Item) → to_step x (control ns old) (standing c h) ≡ to_step x (control ns new) (standing c g)
    pub leads : Leads ns (views nodes) x (Some j) (reach new)

  pub turned : (f : Frame) (b : Bool) (old new : List Frame) (h g : Held) → topped old ≡ Some f → target nodes j.keep f ≡ None → Leaves b old h new g → Fits ns nodes old → Leads ns (views nodes) x (Some j) (reach old) → Turned old new h g
  turned f false old new h g t other w fits lead = absurd (cc (sym t ∙ ap topped w.0))
  turned f true old new h g t other w fits lead =
      let same : w.0 ≡ f = cc (sym (ap topped w.1) ∙ t) in
      let all : Fits ns nodes (w.0 ∷ new) = subst (Fits ns nodes) w.1 fits in
      let p = passes w.0 new all.0 (ap (target nodes j.keep) same ∙ other) (subst (λ fs. Leads ns (views nodes) x (Some j) (reach fs)) w.1 lead) in
      record { fits = all.1; goes = λ c. ap (λ fs. to_step x (control ns fs) (standing c h)) w.1 ∙ passes_on w.0 new c h g p w.2; leads = p.leads }

  kept_held : (f : Frame) (m : ℕ) (h : Held) → target nodes j.keep f ≡ Some m → dropped f h ≡ h
  kept_held (frame.Do o at) m h t = refl
  kept_held (frame.Lone n b) m h t = refl
  kept_held (frame.Entries n at) m h t = refl
  kept_held (frame.Then n) m h t = refl
  kept_held (frame.Loop looping) m h t = refl
  kept_held (frame.Try trying) m h t = refl
  kept_held (frame.Mark mk) m h t = absurd (cc t)
  kept_held (frame.Back c mk) m h t = absurd (cc t)
  kept_held (frame.Judge judging) m h t = absurd (cc t)

  pub found_in : (f : Frame) (m : ℕ) (b : Bool) (start old new : List Frame) (k h g : Held) → topped old ≡ Some f → target nodes j.keep f ≡ Some m → Leaves b old h new g → Fits ns nodes old → Leads ns (views nodes) x (Some j) (reach old)
      → ((c : List Item) → to_step x (control ns start) (standing c k) ≡ to_step x (control ns old) (standing c h)) → FoundIn ns nodes x j (Some m) start k new g
  found_in f m false start old new k h g t is w fits lead on = absurd (cc (sym t ∙ ap topped w.0))
  found_in f m true start old new k h g t is w fits lead on =
      let same : w.0 ≡ f = cc (sym (ap topped w.1) ∙ t) in
      let here : target nodes j.keep w.0 ≡ Some m = ap (target nodes j.keep) same ∙ is in
      let all : Fits ns nodes (w.0 ∷ new) = subst (Fits ns nodes) w.1 fits in
      let q = found_at w.0 m new all.0 here (subst (λ fs. Leads ns (views nodes) x (Some j) (reach fs)) w.1 lead) h in
      let e : g ≡ h = w.2 ∙ kept_held w.0 m h here in
      (q.0, q.1, q.2, λ i p c. on c ∙ ap (λ fs. to_step x (control ns fs) (standing c h)) w.1 ∙ q.3 i p c ∙ ap (λ y. Stands (control ns (frame.Do m i ∷ new)) (standing c y)) (sym e))

  -- what stands around the list, once it is left
  target_in : (f : Frame) (m : ℕ) (fs : List Frame) → target nodes j.keep f ≡ Some m → FrameFits ns nodes f fs → (is_some (list_at nodes m) ≡ true) × (outside_at ns nodes m ≡ reach fs)
  target_in (frame.Do o at) m fs t h =
      let two = if_is o m h.0.0 j.keep (sym (ap (λ d. if_at o d j.keep) h.0.1) ∙ t) in
      subst (λ (n : ℕ). (is_some (list_at nodes n) ≡ true) × (outside_at ns nodes n ≡ reach fs)) two.1 (ap is_some h.0.1, h.1)
  target_in (frame.Lone n b) m fs t h = absurd (cc t)
  target_in (frame.Entries n at) m fs t h = absurd (cc t)
  target_in (frame.Then n) m fs t h = absurd (cc t)
  target_in (frame.Loop looping) m fs t h = absurd (cc t)
  target_in (frame.Try trying) m fs t h = absurd (cc t)
  target_in (frame.Mark mk) m fs t h = absurd (cc t)
  target_in (frame.Back c mk) m fs t h = absurd (cc t)
  target_in (frame.Judge judging) m fs t h = absurd (cc t)

  pub target_left : (f : Frame) (m : ℕ) (b : Bool) (old new : List Frame) (h g : Held) → topped old ≡ Some f → target nodes j.keep f ≡ Some m → Leaves b old h new g → Fits ns nodes old → (is_some (list_at nodes m) ≡ true) × (outside_at ns nodes m ≡ reach new)
  target_left f m false old new h g t is w fits = absurd (cc (sym t ∙ ap topped w.0))
  target_left f m true old new h g t is w fits =
      let same : w.0 ≡ f = cc (sym (ap topped w.1) ∙ t) in
      let all : Fits ns nodes (w.0 ∷ new) = subst (Fits ns nodes) w.1 fits in
      target_in w.0 m new (ap (target nodes j.keep) same ∙ is) all.0

  pub no_top : (fs : List Frame) → topped fs ≡ None → Leads ns (views nodes) x (Some j) (reach fs) → ⊥
  no_top [] t w = w
  no_top (f ∷ fs) t w = absurd (cc t)

-- ## The index

pub stands_before : (ns : List Spot) (nodes : List Node) (x : Text) (j : Jump) (o place : ℕ) (b : Listed) (xs : List ℕ) (old new : List Frame) (h g : Held) → FoundIn ns nodes x j (Some o) old h new g → list_at nodes o ≡ Some b → xs ≡ b.steps
    → ((i : ℕ) → slice_get xs i ≡ Some j.to → slice_get xs place ≡ Some j.to) → (c : List Item) → to_step x (control ns old) (standing c h) ≡ Stands (control ns (frame.Do o place ∷ new)) (standing c g)
stands_before ns nodes x j o place b xs old new h g f e is at c =
    let same : f.0 ≡ b = cc (sym f.1 ∙ e) in
    let list : xs ≡ f.0.steps = is ∙ ap (λ (y : Listed). y.steps) (sym same) in
    f.3 place (subst (λ (ys : List ℕ). slice_get ys place ≡ Some j.to) list (at f.2.0 (subst (λ (ys : List ℕ). slice_get ys f.2.0 ≡ Some j.to) (sym list) f.2.1))) c

-- the list before the step of the jump, inside what it stands in
pub before_fits : (ns : List Spot) (nodes : List Node) (x : Text) (j : Jump) (o place : ℕ) (b : Listed) (xs : List ℕ) (old new : List Frame) (h g : Held) → FoundIn ns nodes x j (Some o) old h new g → list_at nodes o ≡ Some b → xs ≡ b.steps
    → ((i : ℕ) → slice_get xs i ≡ Some j.to → slice_get xs place ≡ Some j.to) → outside_at ns nodes o ≡ reach new → Fits ns nodes new → Fits ns nodes (frame.Do o place ∷ new)
before_fits ns nodes x j o place b xs old new h g f e is at out fits =
    let same : f.0 ≡ b = cc (sym f.1 ∙ e) in
    let list : xs ≡ f.0.steps = is ∙ ap (λ (y : Listed). y.steps) (sym same) in
    let here = at f.2.0 (subst (λ (ys : List ℕ). slice_get ys f.2.0 ≡ Some j.to) (sym list) f.2.1) in
    let lt = slice_get_within xs place j.to here in
    (((b, e, omega (arith, lt, ap (λ (ys : List ℕ). length ys) is)), out), fits)

-- ## Loops
loop_one : (ns : List Spot) (f : Frame) (k : List Item) (l : Local) → is_loop f ≡ false → to_loop (items ns f k) l ≡ to_loop k (left_by f l)
loop_one ns (frame.Do n at) k l h = refl
loop_one ns (frame.Lone n b) k l h = refl
loop_one ns (frame.Entries n at) k l h = refl
loop_one ns (frame.Then n) k l h = refl
loop_one ns (frame.Loop looping) k l h = absurd (cc h)
loop_one ns (frame.Try trying) k l h = refl
loop_one ns (frame.Mark mk) k l h = refl
loop_one ns (frame.Back c mk) k l h = absurd (cc h)
loop_one ns (frame.Judge judging) k l h = absurd (cc h)

pub record LoopTurned (old new : List Frame) (h g : Held) : Type 0 where
  pub outside : g.outside ≡ h.outside
  pub fits : (ns : List Spot) (nodes : List Node) → Fits ns nodes old → Fits ns nodes new
  pub goes : (ns : List Spot) (c : List Item) → to_loop (control ns old) (standing c h) ≡ to_loop (control ns new) (standing c g)

pub loop_turned : (f : Frame) (b : Bool) (old new : List Frame) (h g : Held) → topped old ≡ Some f → is_loop f ≡ false → Leaves b old h new g → LoopTurned old new h g
loop_turned f false old new h g t other w = absurd (cc (sym t ∙ ap topped w.0))
loop_turned f true old new h g t other w =
    let same : w.0 ≡ f = cc (sym (ap topped w.1) ∙ t) in
    record {
      outside = ap (λ (y : Held). y.outside) w.2 ∙ same_outside w.0 h;
      fits = λ ns nodes fit. (let all : Fits ns nodes (w.0 ∷ new) = subst (Fits ns nodes) w.1 fit in all.1);
      goes = λ ns c. ap (λ fs. to_loop (control ns fs) (standing c h)) w.1 ∙ loop_one ns w.0 (control ns new) (standing c h) (ap is_loop same ∙ other) ∙ ap (λ l. to_loop (control ns new) l) (stands_on w.0 c h ∙ ap (standing c) (sym w.2));
    }

ends_so : (s : Scene) (h g : Held) (w : Went) (l : Local) → IsThrough w → g.outside ≡ h.outside → IsMove s (goes [] (standing [] g)) w l → IsMove s (goes [] (standing [] h)) w l
ends_so s h g went.Ends l t o m = (m.0, m.1, sym o ∙ m.2)
ends_so s h g went.Goes l t o m = absurd m
ends_so s h g (went.Turned x) l t o m = absurd t

by_root : (s : Scene) (r : Root) (h g : Held) (d : List Item) (w : Went) (l : Local) → IsThrough w → g.outside ≡ h.outside → IsMove s (goes [] (standing [] g)) w l → IsMove s (elim r [ Iteration ↦ goes [] (standing d h) | _ ↦ Breaks BreakOutsideLoop ]) w l
by_root s Main h g d w l t o m = tt
by_root s Branch h g d w l t o m = tt
by_root s Iteration h g d w l t o m = ends_so s h g w l t o m

pub continued : (ns : List Spot) (s : Scene) (fs : List Frame) (d : List Item) (h g : Held) (w : Went) (l : Local) → IsThrough w → ((c : List Item) → IsMove s (goes (control ns fs) (standing c g)) w l) → g.outside ≡ h.outside
    → IsMove s (continues s (standing d h) (loop_found ns fs (standing d g))) w l
continued ns s [] d h g w l t m o = by_root s s.root h g d w l t o (m [])
continued ns s (frame.Back c mk ∷ fs) d h g w l t m o = tt
continued ns s (frame.Judge judging ∷ fs) d h g w l t m o = tt
continued ns s (frame.Do n at ∷ fs) d h g w l t m o = m d
continued ns s (frame.Lone n b ∷ fs) d h g w l t m o = m d
continued ns s (frame.Entries n at ∷ fs) d h g w l t m o = m d
continued ns s (frame.Then n ∷ fs) d h g w l t m o = m d
continued ns s (frame.Loop looping ∷ fs) d h g w l t m o = m d
continued ns s (frame.Try trying ∷ fs) d h g w l t m o = m d
continued ns s (frame.Mark mk ∷ fs) d h g w l t m o = m d

pub broken : (s : Scene) (ns : List Spot) (b : Bool) (mid new : List Frame) (d : List Item) (h g : Held) (w : Went) (l : Local) → IsLoopTop mid → Leaves b mid h new g → ((c : List Item) → IsMove s (goes (control ns new) (standing c g)) w l)
    → IsMove s (breaks (loop_found ns mid (standing d h))) w l
broken s ns b [] new d h g w l top left m = tt
broken s ns false (f ∷ fs) new d h g w l top left m = absurd (cc left.0)
broken s ns true (frame.Loop looping ∷ fs) new d h g w l top left m =
    let same : frame.Loop looping ≡ left.0 = cc left.1 in
    let rest : fs ≡ new = cc left.1 in
    let e : g ≡ h = left.2 ∙ ap (λ f. dropped f h) (sym same) in
    subst (λ ys. IsMove s (goes (control ns ys) (standing d h)) w l) (sym rest) (subst (λ y. IsMove s (goes (control ns new) (standing d y)) w l) e (m d))
broken s ns true (frame.Back c mk ∷ fs) new d h g w l top left m = tt
broken s ns true (frame.Judge judging ∷ fs) new d h g w l top left m = tt
broken s ns true (frame.Do n at ∷ fs) new d h g w l top left m = absurd (cc top)
broken s ns true (frame.Lone n q ∷ fs) new d h g w l top left m = absurd (cc top)
broken s ns true (frame.Entries n at ∷ fs) new d h g w l top left m = absurd (cc top)
broken s ns true (frame.Then n ∷ fs) new d h g w l top left m = absurd (cc top)
broken s ns true (frame.Try trying ∷ fs) new d h g w l top left m = absurd (cc top)
broken s ns true (frame.Mark mk ∷ fs) new d h g w l top left m = absurd (cc top)

-- ## Without a step of the name
module _ (ns : List Spot) (nodes : List Node) (x : Text) where
  pub nowhere : (fs : List Frame) (l : Local) → Leads ns (views nodes) x None (reach fs) → to_step x (control ns fs) l ≡ NotFound
  nowhere [] l h = refl
  nowhere (frame.Do n at ∷ fs) l h = ap (λ ss. cut_at (part_list (part_at ns n)) ss (control ns fs) l (to_step x (control ns fs) l)) h.0 ∙ nowhere fs l h.1
  nowhere (frame.Lone n b ∷ fs) l h = nowhere fs l h
  nowhere (frame.Entries n at ∷ fs) l h = nowhere fs l h
  nowhere (frame.Then n ∷ fs) l h = nowhere fs l h
  nowhere (frame.Loop looping ∷ fs) l h = refl
  nowhere (frame.Try trying ∷ fs) l h = nowhere fs l h
  nowhere (frame.Mark m ∷ fs) l h = nowhere fs (leave l) h
  nowhere (frame.Back c m ∷ fs) l h = refl
  nowhere (frame.Judge judging ∷ fs) l h = refl

  pub breaks_so : (s : Scene) (fs : List Frame) (l m : Local) (w : Went) → Leads ns (views nodes) x None (reach fs) → IsMove s (jumps_to s x (to_step x (control ns fs) l)) w m
  breaks_so s fs l m w h = subst (λ f. IsMove s (jumps_to s x f) w m) (sym (nowhere fs l h)) tt

-- ## By the text of a `next`
module _ (s : Scene) (x : Text) (k : List Item) (l : Local) where
  pub jumps_end : bytes_eq x (codes "end") ≡ true → jumps s x k l ≡ returns s null k l
  jumps_end e =
      ap (λ (b : Bool). if b then returns s null k l else (if bytes_eq x (codes "continue") then continues s l (to_loop k l) else (if bytes_eq x (codes "break") then breaks (to_loop k l) else jumps_to s x (to_step x k l)))) e

  past_end : bytes_eq x (codes "end") ≡ false → jumps s x k l ≡ (if bytes_eq x (codes "continue") then continues s l (to_loop k l) else (if bytes_eq x (codes "break") then breaks (to_loop k l) else jumps_to s x (to_step x k l)))
  past_end e =
      ap (λ (b : Bool). if b then returns s null k l else (if bytes_eq x (codes "continue") then continues s l (to_loop k l) else (if bytes_eq x (codes "break") then breaks (to_loop k l) else jumps_to s x (to_step x k l)))) e

  pub jumps_continue : bytes_eq x (codes "end") ≡ false → bytes_eq x (codes "continue") ≡ true → jumps s x k l ≡ continues s l (to_loop k l)
  jumps_continue e f = past_end e ∙ ap (λ (b : Bool). if b then continues s l (to_loop k l) else (if bytes_eq x (codes "break") then breaks (to_loop k l) else jumps_to s x (to_step x k l))) f

  past_continue : bytes_eq x (codes "end") ≡ false → bytes_eq x (codes "continue") ≡ false → jumps s x k l ≡ (if bytes_eq x (codes "break") then breaks (to_loop k l) else jumps_to s x (to_step x k l))
  past_continue e f = past_end e ∙ ap (λ (b : Bool). if b then continues s l (to_loop k l) else (if bytes_eq x (codes "break") then breaks (to_loop k l) else jumps_to s x (to_step x k l))) f

  pub jumps_break : bytes_eq x (codes "end") ≡ false → bytes_eq x (codes "continue") ≡ false → bytes_eq x (codes "break") ≡ true → jumps s x k l ≡ breaks (to_loop k l)
  jumps_break e f g = past_continue e f ∙ ap (λ (b : Bool). if b then breaks (to_loop k l) else jumps_to s x (to_step x k l)) g

  pub jumps_step : bytes_eq x (codes "end") ≡ false → bytes_eq x (codes "continue") ≡ false → bytes_eq x (codes "break") ≡ false → jumps s x k l ≡ jumps_to s x (to_step x k l)
  jumps_step e f g = past_continue e f ∙ ap (λ (b : Bool). if b then breaks (to_loop k l) else jumps_to s x (to_step x k l)) g

-- where the node's jump leads, from the frames that reach what the node stands in
pub node_leads : (ns : List Spot) (nodes : List Node) (n : ℕ) (x : Node) (y : Text) (fs : List Frame) → Resolves ns nodes → slice_get nodes n ≡ Some x → x.next ≡ Some y → owners_at ns n ≡ reach fs → Leads ns (views nodes) y x.jump (reach fs)
node_leads ns nodes n x y fs r at next inside =
    let there = subst (λ o. NextLeads ns (views nodes) o x.jump (owners_at ns n)) next (r.jumps n x at) in
    subst (λ (os : List ℕ). Leads ns (views nodes) y x.jump os) inside there
