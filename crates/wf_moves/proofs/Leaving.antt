-- Frames that are left.
use Rattle.std.proofs.Common.{◌≡◌, ℕ, ◌<◌, ◌≤◌, Bool, true, false, List, [], ◌∷◌, length, Some, None, refl, sym, ap, subst, ◌∙◌, arith}
use Rattle.std.proofs.lemmas.Option.{slice_get_within}
use Rattle.std.specs.Prelude.{Option, option_map, slice_get, unwrap_or}
use Rattle.wf_lemmas.proofs.Lists.{drop_end, none_past}
use Rattle.wf_ast.specs.Tree.{more}
use Rattle.wf_frames.specs.Fits.{Fits, HasNode, entries_at, list_at}
use Rattle.wf_frames.specs.Foreseen.{next_by, next_in}
use Rattle.wf_frames.specs.Frames.{body_entries, control, items, topped}
use Rattle.wf_frames.specs.Held.{Held, standing}
use Rattle.wf_frames.specs.Loops.{is_at_loop}
use Rattle.wf_frames.specs.Standing.{steps_of}
use Rattle.wf_frames.specs.Turns.{Leaves, dropped, left_by}
use Rattle.wf_frames.specs.declared.frames.Frame.{Frame}
use Rattle.wf_frames.specs.declared.frames.Frame.TheVariants as frame
use Rattle.wf_frames.specs.declared.next.Next.{Next}
use Rattle.wf_frames.specs.declared.next.Next.TheVariants as next
use Rattle.wf_model.specs.Config.{Item, Do, Entries}
use Rattle.wf_model.specs.Local.{Goes, Local, Scene, ended, settle, settled}
use Rattle.wf_frames.proofs.Lists.{drop_more, entries_long, from_end, from_more}
use Rattle.wf_frames.proofs.Parts.{entries_is, list_is}
use Rattle.wf_moves.specs.Moved.{HasMove, IsEnd, IsGoing, IsMove, IsSettled, Settled, is_at_back}
use Rattle.wf_moves.specs.declared.finish.End.TheVariants as end
use Rattle.wf_moves.specs.declared.finish.Went.TheVariants as went
use Rattle.wf_frames.specs.Steps.{HasStepOnTop}
use Rattle.wf_model.specs.NodeKinds.{Listed}
use Rattle.wf_model.specs.Spots.{Spot, part_at, part_list, part_body, steps_by, from}
use Rattle.wf_model.specs.Table.{Resolves}
use Rattle.wf_model.specs.declared.node.Node.{Node}
use Rattle.wf_value.specs.declared.Value.TheVariants as value

-- ## One frame
pub stands_on : (f : Frame) (c : List Item) (h : Held) → left_by f (standing c h) ≡ standing c (dropped f h)
stands_on (frame.Do n at) c h = refl
stands_on (frame.Lone n b) c h = refl
stands_on (frame.Entries n at) c h = refl
stands_on (frame.Then n) c h = refl
stands_on (frame.Loop looping) c h = refl
stands_on (frame.Try trying) c h = refl
stands_on (frame.Mark m) c h = refl
stands_on (frame.Back k m) c h = refl
stands_on (frame.Judge judging) c h = refl

pub same_outside : (f : Frame) (h : Held) → (dropped f h).outside ≡ h.outside
same_outside (frame.Do n at) h = refl
same_outside (frame.Lone n b) h = refl
same_outside (frame.Entries n at) h = refl
same_outside (frame.Then n) h = refl
same_outside (frame.Loop looping) h = refl
same_outside (frame.Try trying) h = refl
same_outside (frame.Mark m) h = refl
same_outside (frame.Back k m) h = refl
same_outside (frame.Judge judging) h = refl

-- ## What has ended
pub do_ended : (ns : List Spot) (n at : ℕ) (xs : List ℕ) → part_list (part_at ns n) ≡ steps_by ns xs → length xs ≤ at → Settled ns true (frame.Do n at)
do_ended ns n at xs is h k l = ap (λ ss. settle (Do (part_list (part_at ns n)) ss ∷ k) l) (ap (from at) is ∙ from_end ns xs at h)

pub do_stands : (ns : List Spot) (n at : ℕ) (xs : List ℕ) → part_list (part_at ns n) ≡ steps_by ns xs → at < length xs → Settled ns false (frame.Do n at)
do_stands ns n at xs is h k l =
    let r = from_more ns xs at h in
    let e : from at (part_list (part_at ns n)) ≡ more r.first r.rest = ap (from at) is ∙ r.is in
    subst (λ ss. settle (Do (part_list (part_at ns n)) ss ∷ k) l ≡ record l { control = Do (part_list (part_at ns n)) ss ∷ k }) (sym e) refl

pub entries_ended : (ns : List Spot) (n at : ℕ) → length (body_entries (part_body (part_at ns n))) ≤ at → Settled ns true (frame.Entries n at)
entries_ended ns n at h k l = ap (λ es. settle (Entries es ∷ k) l) (drop_end (body_entries (part_body (part_at ns n))) at h)

pub entries_stand : (ns : List Spot) (n at : ℕ) → at < length (body_entries (part_body (part_at ns n))) → Settled ns false (frame.Entries n at)
entries_stand ns n at h k l =
    let r = drop_more (body_entries (part_body (part_at ns n))) at h in
    subst (λ es. settle (Entries es ∷ k) l ≡ record l { control = Entries es ∷ k }) (sym r.is) refl

-- ## By what is next
none_in : {A : Type 0} (f : ℕ → A) (o : Option ℕ) → option_map f o ≡ None → o ≡ None
none_in f None e = refl
none_in f (Some m) e = absurd (cc e)

some_in : {A : Type 0} (f : ℕ → A) (o : Option ℕ) (x : A) → option_map f o ≡ Some x → (m : ℕ) × (o ≡ Some m)
some_in f None x e = absurd (cc e)
some_in f (Some m) x e = (m, refl)

-- a place in a list, and one in an assign
listed_at : (nodes : List Node) (n at : ℕ) (b : Listed) (o : Option ℕ) → list_at nodes n ≡ Some b → slice_get (steps_of (list_at nodes n)) at ≡ o → slice_get b.steps at ≡ o
listed_at nodes n at b o h e = ap (λ (q : Option Listed). slice_get (steps_of q) at) (sym h) ∙ e

entered_at : (nodes : List Node) (n at : ℕ) (b : List ℕ) (o : Option ℕ) → entries_at nodes n ≡ Some b → slice_get (unwrap_or (entries_at nodes n) []) at ≡ o → slice_get b at ≡ o
entered_at nodes n at b o h e = ap (λ (q : Option (List ℕ)). slice_get (unwrap_or q []) at) (sym h) ∙ e

module _ (ns : List Spot) (nodes : List Node) (r : Resolves ns nodes) where
  entries_many : (n : ℕ) (b : List ℕ) → entries_at nodes n ≡ Some b → length (body_entries (part_body (part_at ns n))) ≡ length b
  entries_many n b h = ap length (entries_is ns nodes n b r h) ∙ entries_long ns b

  -- a frame that does nothing next has ended
  pub none_ended : (f : Frame) → HasNode nodes f → next_in nodes f ≡ None → Settled ns true f
  none_ended (frame.Do n at) h e =
      let none = listed_at nodes n at h.0 None h.1 (none_in next.Body (slice_get (steps_of (list_at nodes n)) at) e) in
      do_ended ns n at h.0.steps (list_is ns nodes n h.0 r h.1) (none_past h.0.steps at none)
  none_ended (frame.Lone n true) h e = λ k l. refl
  none_ended (frame.Lone n false) h e = absurd (cc e)
  none_ended (frame.Entries n at) h e =
      let none = entered_at nodes n at h.0 None h.1 (none_in next.Entry (slice_get (unwrap_or (entries_at nodes n) []) at) e) in
      entries_ended ns n at (omega (arith, none_past h.0 at none, entries_many n h.0 h.1))
  none_ended (frame.Then n) h e = absurd (cc e)
  none_ended (frame.Loop looping) h e = absurd (cc e)
  none_ended (frame.Try trying) h e = λ k l. refl
  none_ended (frame.Mark m) h e = λ k l. refl
  none_ended (frame.Back c m) h e = absurd (cc e)
  none_ended (frame.Judge judging) h e = absurd (cc e)

  -- another one stands
  pub next_stands : (f : Frame) (x : Next) → HasNode nodes f → next_in nodes f ≡ Some x → Settled ns false f
  next_stands (frame.Do n at) x h e =
      let m = some_in next.Body (slice_get (steps_of (list_at nodes n)) at) x e in
      do_stands ns n at h.0.steps (list_is ns nodes n h.0 r h.1) (slice_get_within h.0.steps at m.0 (listed_at nodes n at h.0 (Some m.0) h.1 m.1))
  next_stands (frame.Lone n true) x h e = absurd (cc e)
  next_stands (frame.Lone n false) x h e = λ k l. refl
  next_stands (frame.Entries n at) x h e =
      let m = some_in next.Entry (slice_get (unwrap_or (entries_at nodes n) []) at) x e in
      let lt = slice_get_within h.0 at m.0 (entered_at nodes n at h.0 (Some m.0) h.1 m.1) in
      entries_stand ns n at (omega (arith, lt, entries_many n h.0 h.1))
  next_stands (frame.Then n) x h e = λ k l. refl
  next_stands (frame.Loop looping) x h e = λ k l. refl
  next_stands (frame.Try trying) x h e = absurd (cc e)
  next_stands (frame.Mark m) x h e = absurd (cc e)
  next_stands (frame.Back c m) x h e = λ k l. refl
  next_stands (frame.Judge judging) x h e = λ k l. refl

-- and has a move
pub next_moves : (nodes : List Node) (f : Frame) (x : Next) → HasNode nodes f → next_in nodes f ≡ Some x → HasMove nodes f
next_moves nodes (frame.Do n at) x h e =
    let m = some_in next.Body (slice_get (steps_of (list_at nodes n)) at) x e in
    (h.0, h.1, slice_get_within h.0.steps at m.0 (listed_at nodes n at h.0 (Some m.0) h.1 m.1))
next_moves nodes (frame.Lone n true) x h e = absurd (cc e)
next_moves nodes (frame.Lone n false) x h e = tt
next_moves nodes (frame.Entries n at) x h e =
    let m = some_in next.Entry (slice_get (unwrap_or (entries_at nodes n) []) at) x e in
    (h.0, h.1, slice_get_within h.0 at m.0 (entered_at nodes n at h.0 (Some m.0) h.1 m.1))
next_moves nodes (frame.Then n) x h e = tt
next_moves nodes (frame.Loop looping) x h e = tt
next_moves nodes (frame.Try trying) x h e = absurd (cc e)
next_moves nodes (frame.Mark m) x h e = absurd (cc e)
next_moves nodes (frame.Back c m) x h e = tt
next_moves nodes (frame.Judge judging) x h e = tt

-- what is kept
pub next_kept : (nodes : List Node) (f : Frame) (x : Next) (fs : List Frame) → topped fs ≡ Some f → next_in nodes f ≡ Some x → x ≡ next_by nodes fs
next_kept nodes f x [] t e = absurd (cc t)
next_kept nodes f x (g ∷ fs) t e = let same : g ≡ f = cc t in ap (λ o. unwrap_or o next.Nothing) (sym e) ∙ ap (λ y. unwrap_or (next_in nodes y) next.Nothing) (sym same)

pub nothing_kept : (nodes : List Node) (fs : List Frame) → topped fs ≡ None → next.Nothing ≡ next_by nodes fs
nothing_kept nodes [] t = refl
nothing_kept nodes (g ∷ fs) t = absurd (cc t)

-- the end of a call, and a loop's turn
pub back_kept : (nodes : List Node) (fs : List Frame) → next_by nodes fs ≡ next.Back → is_at_back fs ≡ true
back_kept nodes [] e = absurd (cc e)
back_kept nodes (frame.Do n at ∷ fs) e = absurd (in_list_not (slice_get (steps_of (list_at nodes n)) at) e)
  where
    in_list_not : (o : Option ℕ) → unwrap_or (option_map next.Body o) next.Nothing ≡ next.Back → ⊥
    in_list_not None q = cc q
    in_list_not (Some m) q = cc q
back_kept nodes (frame.Lone n true ∷ fs) e = absurd (cc e)
back_kept nodes (frame.Lone n false ∷ fs) e = absurd (cc e)
back_kept nodes (frame.Entries n at ∷ fs) e = absurd (in_entries_not (slice_get (unwrap_or (entries_at nodes n) []) at) e)
  where
    in_entries_not : (o : Option ℕ) → unwrap_or (option_map next.Entry o) next.Nothing ≡ next.Back → ⊥
    in_entries_not None q = cc q
    in_entries_not (Some m) q = cc q
back_kept nodes (frame.Then n ∷ fs) e = absurd (cc e)
back_kept nodes (frame.Loop looping ∷ fs) e = absurd (cc e)
back_kept nodes (frame.Try trying ∷ fs) e = absurd (cc e)
back_kept nodes (frame.Mark m ∷ fs) e = absurd (cc e)
back_kept nodes (frame.Back c m ∷ fs) e = refl
back_kept nodes (frame.Judge judging ∷ fs) e = refl

pub loop_kept : (nodes : List Node) (fs : List Frame) → next_by nodes fs ≡ next.Loop → is_at_loop fs ≡ true
loop_kept nodes [] e = absurd (cc e)
loop_kept nodes (frame.Do n at ∷ fs) e = absurd (in_list_not (slice_get (steps_of (list_at nodes n)) at) e)
  where
    in_list_not : (o : Option ℕ) → unwrap_or (option_map next.Body o) next.Nothing ≡ next.Loop → ⊥
    in_list_not None q = cc q
    in_list_not (Some m) q = cc q
loop_kept nodes (frame.Lone n true ∷ fs) e = absurd (cc e)
loop_kept nodes (frame.Lone n false ∷ fs) e = absurd (cc e)
loop_kept nodes (frame.Entries n at ∷ fs) e = absurd (in_entries_not (slice_get (unwrap_or (entries_at nodes n) []) at) e)
  where
    in_entries_not : (o : Option ℕ) → unwrap_or (option_map next.Entry o) next.Nothing ≡ next.Loop → ⊥
    in_entries_not None q = cc q
    in_entries_not (Some m) q = cc q
loop_kept nodes (frame.Then n ∷ fs) e = absurd (cc e)
loop_kept nodes (frame.Loop looping ∷ fs) e = refl
loop_kept nodes (frame.Try trying ∷ fs) e = absurd (cc e)
loop_kept nodes (frame.Mark m ∷ fs) e = absurd (cc e)
loop_kept nodes (frame.Back c m ∷ fs) e = absurd (cc e)
loop_kept nodes (frame.Judge judging ∷ fs) e = absurd (cc e)

-- where neither is next, there is a step
pub step_kept : (nodes : List Node) (fs : List Frame) → IsGoing nodes fs → (next_by nodes fs ≡ next.Back → ⊥) → (next_by nodes fs ≡ next.Loop → ⊥) → HasStepOnTop nodes fs
step_kept nodes [] h back loop = h
step_kept nodes (frame.Do n at ∷ fs) h back loop = h
step_kept nodes (frame.Lone n true ∷ fs) h back loop = h
step_kept nodes (frame.Lone n false ∷ fs) h back loop = h
step_kept nodes (frame.Entries n at ∷ fs) h back loop = h
step_kept nodes (frame.Then n ∷ fs) h back loop = h
step_kept nodes (frame.Loop looping ∷ fs) h back loop = absurd (loop refl)
step_kept nodes (frame.Try trying ∷ fs) h back loop = absurd h
step_kept nodes (frame.Mark m ∷ fs) h back loop = absurd h
step_kept nodes (frame.Back c m ∷ fs) h back loop = absurd (back refl)
step_kept nodes (frame.Judge judging ∷ fs) h back loop = absurd (back refl)

-- ## The innermost frame is left
pub fits_after : (ns : List Spot) (nodes : List Node) (b : Bool) (old new : List Frame) (h g : Held) → Leaves b old h new g → Fits ns nodes old → Fits ns nodes new
fits_after ns nodes false old new h g w fits = subst (Fits ns nodes) (sym w.1) tt
fits_after ns nodes true old new h g w fits = (let all : Fits ns nodes (w.0 ∷ new) = subst (Fits ns nodes) w.1 fits in all.1)

pub top_node : (ns : List Spot) (nodes : List Node) (f : Frame) (fs : List Frame) → topped fs ≡ Some f → Fits ns nodes fs → HasNode nodes f
top_node ns nodes f [] t fits = absurd (cc t)
top_node ns nodes f (g ∷ fs) t fits = let same : g ≡ f = cc t in subst (HasNode nodes) same fits.0.0

pub top_settled : (nodes : List Node) (f : Frame) (fs : List Frame) → topped fs ≡ Some f → HasMove nodes f → IsSettled nodes fs
top_settled nodes f [] t h = tt
top_settled nodes f (g ∷ fs) t h = let same : g ≡ f = cc t in subst (HasMove nodes) (sym same) h

pub none_settled : (nodes : List Node) (fs : List Frame) → topped fs ≡ None → IsSettled nodes fs
none_settled nodes [] t = tt
none_settled nodes (g ∷ fs) t = absurd (cc t)

pub none_there : (fs : List Frame) → topped fs ≡ None → fs ≡ []
none_there [] t = refl
none_there (g ∷ fs) t = absurd (cc t)

-- settling goes on
pub settles_on : (ns : List Spot) (f : Frame) (b : Bool) (old new : List Frame) (h g : Held) → topped old ≡ Some f → Settled ns true f → Leaves b old h new g → (c : List Item) → settle (control ns old) (standing c h) ≡ settle (control ns new) (standing c g)
settles_on ns f false old new h g t s w c = absurd (cc (sym t ∙ ap topped w.0))
settles_on ns f true old new h g t s w c =
    let same : w.0 ≡ f = cc (sym (ap topped w.1) ∙ t) in
    ap (λ fs. settle (control ns fs) (standing c h)) w.1 ∙ subst (Settled ns true) (sym same) s (control ns new) (standing c h) ∙ ap (settle (control ns new)) (stands_on w.0 c h ∙ ap (standing c) (sym w.2))

pub settles_here : (ns : List Spot) (f : Frame) (fs : List Frame) (h : Held) → topped fs ≡ Some f → Settled ns false f → (c : List Item) → settle (control ns fs) (standing c h) ≡ standing (control ns fs) h
settles_here ns f [] h t s c = absurd (cc t)
settles_here ns f (g ∷ fs) h t s c = let same : g ≡ f = cc t in subst (Settled ns false) (sym same) s (control ns fs) (standing c h)

pub settles_out : (ns : List Spot) (fs : List Frame) (h : Held) → topped fs ≡ None → (c : List Item) → settle (control ns fs) (standing c h) ≡ standing (control ns fs) h
settles_out ns [] h t c = refl
settles_out ns (g ∷ fs) h t c = absurd (cc t)

-- the task goes on, or has ended
pub going_there : (nodes : List Node) (f : Frame) (fs : List Frame) → topped fs ≡ Some f → IsSettled nodes fs → IsGoing nodes fs
going_there nodes f [] t h = absurd (cc t)
going_there nodes f (g ∷ fs) t h = h

pub ended_items : (ns : List Spot) (f : Frame) (k : List Item) (l : Local) → ended (items ns f k) l ≡ Goes l
ended_items ns (frame.Do n at) k l = refl
ended_items ns (frame.Lone n b) k l = refl
ended_items ns (frame.Entries n at) k l = refl
ended_items ns (frame.Then n) k l = refl
ended_items ns (frame.Loop looping) k l = refl
ended_items ns (frame.Try trying) k l = refl
ended_items ns (frame.Mark m) k l = refl
ended_items ns (frame.Back c m) k l = refl
ended_items ns (frame.Judge judging) k l = refl

pub went_on : (s : Scene) (ns : List Spot) (f : Frame) (fs : List Frame) (h : Held) → topped fs ≡ Some f → IsMove s (settled (standing (control ns fs) h)) went.Goes (standing (control ns fs) h)
went_on s ns f [] h t = absurd (cc t)
went_on s ns f (g ∷ fs) h t = subst (λ m. IsMove s m went.Goes (standing (control ns (g ∷ fs)) h)) (sym (ended_items ns g (control ns fs) (standing (control ns (g ∷ fs)) h))) refl

pub went_out : (s : Scene) (ns : List Spot) (fs : List Frame) (h : Held) → topped fs ≡ None → IsMove s (settled (standing (control ns fs) h)) went.Ends (standing (control ns fs) h)
went_out s ns [] h t = (refl, omega arith, refl)
went_out s ns (g ∷ fs) h t = absurd (cc t)

pub ended_there : (ns : List Spot) (fs : List Frame) (h : Held) → topped fs ≡ None → IsEnd (settled (standing (control ns fs) h)) (end.Value value.Null) (standing (control ns fs) h)
ended_there ns [] h t = (refl, omega arith, refl)
ended_there ns (g ∷ fs) h t = absurd (cc t)
