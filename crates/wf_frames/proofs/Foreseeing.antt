-- What the innermost frame does next, and what that comes to.
use Rattle.std.proofs.Common.{◌≡◌, ◌⊎◌, inl, inr, ℕ, ◌<◌, true, false, List, [], ◌∷◌, length, get_or, Some, None, refl, sym, ap, subst, ◌∙◌, arith}
use Rattle.std.specs.Prelude.{zero, suc, Option, Vec, option_map, slice_get, unwrap_or}
use Rattle.std.specs.declared.alloc.Global.{Global}
use Rattle.std.proofs.lemmas.Option.{get_or_from_slice_get, slice_get_within}
use Rattle.wf_ast.specs.Apply.{View}
use Rattle.wf_ast.specs.Tree.{Program}
use Rattle.wf_ast.specs.View.{policy_option_view, texts_view}
use Rattle.wf_frames.proofs.Advancing.{do_moves, entry_fits, entry_moves, lone_moves, step_fits, step_inside, step_within}
use Rattle.wf_frames.proofs.Asking.{do_issues, do_wants, entries_issue, lone_issues, of_same}
use Rattle.wf_frames.proofs.Clocked.{do_plain, entry_kind, entry_plain}
use Rattle.wf_frames.proofs.Fitting.{entry_below}
use Rattle.wf_frames.proofs.Parts.{entries_of, list_of, seen_entries, seen_list}
use Rattle.wf_frames.specs.Fits.{Fits, entries_at, kind_entries, list_at, reach}
use Rattle.wf_frames.specs.Foreseen.{next_by}
use Rattle.wf_frames.specs.Frames.{HasRoomOnTop, control, moved_on, topped}
use Rattle.wf_frames.specs.Standing.{steps_of}
use Rattle.wf_frames.specs.Steps.{CarriesCall, CarriesOut, HasStepOnTop, IsOf, Issues, Moves, WantsSame}
use Rattle.wf_frames.specs.declared.frames.Frame.{Frame}
use Rattle.wf_frames.specs.declared.frames.Frame.TheVariants as frame
use Rattle.wf_frames.specs.declared.next.Next.{Next}
use Rattle.wf_frames.specs.declared.next.Next.TheVariants as next
use Rattle.wf_frames.specs.declared.step.Step.{Step}
use Rattle.wf_frames.specs.declared.step.Step.TheVariants as step
use Rattle.wf_model.specs.Kinds.{Plainly, body_kind, by_clock, entry_now, next_kind}
use Rattle.wf_model.specs.NodeKinds.{Listed, block_view, handler_view, kind_by, side_by}
use Rattle.wf_model.specs.NodeKinds as view
use Rattle.wf_model.specs.Shapes.{Compiled}
use Rattle.wf_model.specs.Spots.{Spot, owners_at, part_at, part_body, part_entry, part_next}
use Rattle.wf_model.specs.Table.{Resolves, kind_list}
use Rattle.wf_model.specs.declared.node.ExceptNode.{ExceptNode}
use Rattle.wf_model.specs.declared.node.Node.{Node}
use Rattle.wf_model.specs.declared.node.NodeKind.{NodeKind}
use Rattle.wf_model.specs.declared.node.NodeKind.TheVariants as kind
use Rattle.wf_model.specs.declared.node.WorkNode.{WorkNode}
use Rattle.wf_model.specs.declared.node.WorkNode.TheVariants as work

-- ## Room
-- a place in a list is a number that a frame can hold, and so is the one behind
room_in : (v : Vec ℕ Global) (at : ℕ) → at < length v.items → at < 18446744073709551615
room_in v at lt = omega (arith, lt, v.ok.0, v.ok.1, v.small)

room_by : (v : Vec ℕ Global) (b : Listed) (at : ℕ) → v.items ≡ b.steps → at < length b.steps → at < 18446744073709551615
room_by v b at e lt = room_in v at (subst (λ (xs : List ℕ). at < length xs) (sym e) lt)

list_room : (cs : Compiled) (k : NodeKind) (b : Listed) (at : ℕ) → kind_list (kind_by cs k) ≡ Some b → at < length b.steps → at < 18446744073709551615
list_room cs (kind.Flow f) b at h lt = let e : block_view f.block ≡ b = cc h in room_by f.block.steps b at (ap (λ (d : Listed). d.steps) e) lt
list_room cs (kind.For l) b at h lt = let e : block_view l.block ≡ b = cc h in room_by l.block.steps b at (ap (λ (d : Listed). d.steps) e) lt
list_room cs (kind.Block d) b at h lt = let e : block_view d ≡ b = cc h in room_by d.steps b at (ap (λ (y : Listed). y.steps) e) lt
list_room cs (kind.Branch d) b at h lt = let e : block_view d ≡ b = cc h in room_by d.steps b at (ap (λ (y : Listed). y.steps) e) lt
list_room cs (kind.Parallel p) b at h lt = by p.work h
  where
    by : (w : WorkNode) → kind_list (view.Parallel (texts_view p.shared) p.limit (side_by cs w)) ≡ Some b → at < 18446744073709551615
    by (work.Loop l) g = let e : block_view l.block ≡ b = cc g in room_by l.block.steps b at (ap (λ (d : Listed). d.steps) e) lt
    by (work.Branches v) g = absurd (cc g)
list_room cs (kind.Try t) b at h lt = by t.except h
  where
    by : (x : Option ExceptNode) → kind_list (view.Try t.body (policy_option_view t.policy) (handler_view x)) ≡ Some b → at < 18446744073709551615
    by None g = absurd (cc g)
    by (Some x) g = let e : block_view x.block ≡ b = cc g in room_by x.block.steps b at (ap (λ (d : Listed). d.steps) e) lt
list_room cs kind.Nothing b at h lt = absurd (cc h)
list_room cs (kind.Assign v) b at h lt = absurd (cc h)
list_room cs (kind.Call f) b at h lt = absurd (cc h)
list_room cs (kind.Switch v) b at h lt = absurd (cc h)
list_room cs (kind.Raise t) b at h lt = absurd (cc h)
list_room cs (kind.Return t) b at h lt = absurd (cc h)
list_room cs (kind.Arm t) b at h lt = absurd (cc h)
list_room cs (kind.Entry e) b at h lt = absurd (cc h)

entries_room : (cs : Compiled) (k : NodeKind) (b : List ℕ) (at : ℕ) → kind_entries (kind_by cs k) ≡ Some b → at < length b → at < 18446744073709551615
entries_room cs (kind.Assign v) b at h lt = let e : v.items ≡ b = cc h in room_in v at (subst (λ (xs : List ℕ). at < length xs) (sym e) lt)
entries_room cs (kind.Flow f) b at h lt = absurd (cc h)
entries_room cs (kind.For l) b at h lt = absurd (cc h)
entries_room cs (kind.Block d) b at h lt = absurd (cc h)
entries_room cs (kind.Branch d) b at h lt = absurd (cc h)
entries_room cs (kind.Parallel p) b at h lt = absurd (cc h)
entries_room cs (kind.Try t) b at h lt = absurd (cc h)
entries_room cs kind.Nothing b at h lt = absurd (cc h)
entries_room cs (kind.Call f) b at h lt = absurd (cc h)
entries_room cs (kind.Switch v) b at h lt = absurd (cc h)
entries_room cs (kind.Raise t) b at h lt = absurd (cc h)
entries_room cs (kind.Return t) b at h lt = absurd (cc h)
entries_room cs (kind.Arm t) b at h lt = absurd (cc h)
entries_room cs (kind.Entry e) b at h lt = absurd (cc h)

-- ## Which frame it is
-- the place of a list from which the body of the node is carried out
pub record InList (nodes : List Node) (n : ℕ) (fs : List Frame) : Type 0 where
  pub list : ℕ
  pub at : ℕ
  pub block : Listed
  pub rest : List Frame
  pub is : fs ≡ frame.Do list at ∷ rest
  pub listed : list_at nodes list ≡ Some block
  pub here : slice_get block.steps at ≡ Some n

-- or the body stands alone
abbrev pub Alone : ℕ → List Frame → Type 0
Alone n fs = (rest : List Frame) × (fs ≡ frame.Lone n false ∷ rest)

-- the place of an assign from which the entry of the node is assigned
pub record InEntries (nodes : List Node) (n : ℕ) (fs : List Frame) : Type 0 where
  pub assign : ℕ
  pub at : ℕ
  pub numbers : List ℕ
  pub rest : List Frame
  pub is : fs ≡ frame.Entries assign at ∷ rest
  pub listed : entries_at nodes assign ≡ Some numbers
  pub here : slice_get numbers at ≡ Some n

-- what is next in a list, and in an assign
abbrev in_list : Option ℕ → Next
in_list o = unwrap_or (option_map next.Body o) next.Nothing

abbrev in_entries : Option ℕ → Next
in_entries o = unwrap_or (option_map next.Entry o) next.Nothing

some_body : (o : Option ℕ) (n : ℕ) → in_list o ≡ next.Body n → o ≡ Some n
some_body None n e = absurd (cc e)
some_body (Some m) n e = let same : m ≡ n = cc e in ap Some same

list_enters_not : (o : Option ℕ) (n : ℕ) → in_list o ≡ next.Entry n → ⊥
list_enters_not None n e = cc e
list_enters_not (Some m) n e = cc e

list_goes_not : (o : Option ℕ) (n : ℕ) → in_list o ≡ next.Then n → ⊥
list_goes_not None n e = cc e
list_goes_not (Some m) n e = cc e

some_entry : (o : Option ℕ) (n : ℕ) → in_entries o ≡ next.Entry n → o ≡ Some n
some_entry None n e = absurd (cc e)
some_entry (Some m) n e = let same : m ≡ n = cc e in ap Some same

entries_carry_not : (o : Option ℕ) (n : ℕ) → in_entries o ≡ next.Body n → ⊥
entries_carry_not None n e = cc e
entries_carry_not (Some m) n e = cc e

entries_go_not : (o : Option ℕ) (n : ℕ) → in_entries o ≡ next.Then n → ⊥
entries_go_not None n e = cc e
entries_go_not (Some m) n e = cc e

module _ (ns : List Spot) (nodes : List Node) where
  body_first : (fs : List Frame) (n : ℕ) → Fits ns nodes fs → next_by nodes fs ≡ next.Body n → InList nodes n fs ⊎ Alone n fs
  body_first [] n fits e = absurd (cc e)
  body_first (frame.Do l at ∷ fs) n fits e =
      inl (record {
        list = l;
        at = at;
        block = fits.0.0.0;
        rest = fs;
        is = refl;
        listed = fits.0.0.1;
        here = ap (λ (o : Option Listed). slice_get (steps_of o) at) (sym fits.0.0.1) ∙ some_body (slice_get (steps_of (list_at nodes l)) at) n e;
      })
  body_first (frame.Lone m true ∷ fs) n fits e = absurd (cc e)
  body_first (frame.Lone m false ∷ fs) n fits e = let same : m ≡ n = cc e in inr (fs, ap (λ (i : ℕ). frame.Lone i false ∷ fs) same)
  body_first (frame.Entries l at ∷ fs) n fits e = absurd (entries_carry_not (slice_get (unwrap_or (entries_at nodes l) []) at) n e)
  body_first (frame.Then m ∷ fs) n fits e = absurd (cc e)
  body_first (frame.Loop looping ∷ fs) n fits e = absurd (cc e)
  body_first (frame.Try trying ∷ fs) n fits e = absurd (cc e)
  body_first (frame.Mark number ∷ fs) n fits e = absurd (cc e)
  body_first (frame.Back call number ∷ fs) n fits e = absurd (cc e)
  body_first (frame.Judge judging ∷ fs) n fits e = absurd (cc e)

  entry_first : (fs : List Frame) (n : ℕ) → Fits ns nodes fs → next_by nodes fs ≡ next.Entry n → InEntries nodes n fs
  entry_first [] n fits e = absurd (cc e)
  entry_first (frame.Do l at ∷ fs) n fits e = absurd (list_enters_not (slice_get (steps_of (list_at nodes l)) at) n e)
  entry_first (frame.Lone m true ∷ fs) n fits e = absurd (cc e)
  entry_first (frame.Lone m false ∷ fs) n fits e = absurd (cc e)
  entry_first (frame.Entries l at ∷ fs) n fits e = record {
    assign = l;
    at = at;
    numbers = fits.0.0.0;
    rest = fs;
    is = refl;
    listed = fits.0.0.1;
    here = ap (λ (o : Option (List ℕ)). slice_get (unwrap_or o []) at) (sym fits.0.0.1) ∙ some_entry (slice_get (unwrap_or (entries_at nodes l) []) at) n e;
  }
  entry_first (frame.Then m ∷ fs) n fits e = absurd (cc e)
  entry_first (frame.Loop looping ∷ fs) n fits e = absurd (cc e)
  entry_first (frame.Try trying ∷ fs) n fits e = absurd (cc e)
  entry_first (frame.Mark number ∷ fs) n fits e = absurd (cc e)
  entry_first (frame.Back call number ∷ fs) n fits e = absurd (cc e)
  entry_first (frame.Judge judging ∷ fs) n fits e = absurd (cc e)

-- the `next` of the node
pub then_first : (nodes : List Node) (fs : List Frame) (n : ℕ) → next_by nodes fs ≡ next.Then n → topped fs ≡ Some (frame.Then n)
then_first nodes [] n e = absurd (cc e)
then_first nodes (frame.Do l at ∷ fs) n e = absurd (list_goes_not (slice_get (steps_of (list_at nodes l)) at) n e)
then_first nodes (frame.Lone m true ∷ fs) n e = absurd (cc e)
then_first nodes (frame.Lone m false ∷ fs) n e = absurd (cc e)
then_first nodes (frame.Entries l at ∷ fs) n e = absurd (entries_go_not (slice_get (unwrap_or (entries_at nodes l) []) at) n e)
then_first nodes (frame.Then m ∷ fs) n e = let same : m ≡ n = cc e in ap (λ (i : ℕ). Some (frame.Then i)) same
then_first nodes (frame.Loop looping ∷ fs) n e = absurd (cc e)
then_first nodes (frame.Try trying ∷ fs) n e = absurd (cc e)
then_first nodes (frame.Mark number ∷ fs) n e = absurd (cc e)
then_first nodes (frame.Back call number ∷ fs) n e = absurd (cc e)
then_first nodes (frame.Judge judging ∷ fs) n e = absurd (cc e)

-- ## A body
module _ (ns : List Spot) (nodes : List Node) (r : Resolves ns nodes) (fs : List Frame) (n : ℕ) (fits : Fits ns nodes fs) (e : next_by nodes fs ≡ next.Body n) where
  within_list : (x : InList nodes n fs) → x.at < length x.block.steps
  within_list x = slice_get_within x.block.steps x.at n x.here

  in_place : (x : InList nodes n fs) → get_or x.block.steps x.at 0 ≡ n
  in_place x = get_or_from_slice_get x.block.steps x.at n 0 x.here

  fits_list : (x : InList nodes n fs) → Fits ns nodes (frame.Do x.list x.at ∷ x.rest)
  fits_list x = subst (Fits ns nodes) x.is fits

  fits_alone : (x : Alone n fs) → Fits ns nodes (frame.Lone n false ∷ x.0)
  fits_alone x = subst (Fits ns nodes) x.1 fits

  pub body_within : n < length nodes
  body_within = by (body_first ns nodes fs n fits e)
    where
      by : InList nodes n fs ⊎ Alone n fs → n < length nodes
      by (inl x) = subst (λ (m : ℕ). m < length nodes) (in_place x) (step_within ns nodes x.list x.at x.block r x.listed (within_list x))
      by (inr x) = (fits_alone x).0.0

  pub body_room : HasRoomOnTop fs
  body_room = by (body_first ns nodes fs n fits e)
    where
      by : InList nodes n fs ⊎ Alone n fs → HasRoomOnTop fs
      by (inl x) =
          let s = seen_list nodes x.list x.block x.listed in
          subst HasRoomOnTop (sym x.is) (list_room s.node.codes.items.items s.node.kind x.block x.at (sym (list_of nodes x.list s.node s.at) ∙ x.listed) (within_list x))
      by (inr x) = subst HasRoomOnTop (sym x.1) tt

  pub body_fits : (mid : List Frame) → mid ≡ moved_on fs → Fits ns nodes mid
  body_fits mid on = by (body_first ns nodes fs n fits e)
    where
      by : InList nodes n fs ⊎ Alone n fs → Fits ns nodes mid
      by (inl x) = step_fits ns nodes x.list x.at x.block x.rest mid x.listed (within_list x) (on ∙ ap moved_on x.is) (fits_list x)
      by (inr x) = let all = fits_alone x in subst (Fits ns nodes) (sym (on ∙ ap moved_on x.1)) ((all.0.0, all.0.1), all.1)

  pub body_inside : (mid : List Frame) → mid ≡ moved_on fs → owners_at ns n ≡ reach mid
  body_inside mid on = by (body_first ns nodes fs n fits e)
    where
      by : InList nodes n fs ⊎ Alone n fs → owners_at ns n ≡ reach mid
      by (inl x) =
          subst (λ (m : ℕ). owners_at ns m ≡ reach mid) (in_place x)
          (step_inside ns nodes x.list x.at x.block x.rest r x.listed (within_list x) (fits_list x).0.1 ∙ ap reach (sym (on ∙ ap moved_on x.is)))
      by (inr x) = (fits_alone x).0.1 ∙ ap reach (sym (on ∙ ap moved_on x.1))

  pub body_moves : (v : View) (mid new : List Frame) (st : Step) → mid ≡ moved_on fs → CarriesOut ns (part_body (part_at ns n)) (part_next (part_at ns n)) v mid new st → Moves ns fs v new st
  body_moves v mid new st on h = by (body_first ns nodes fs n fits e)
    where
      by : InList nodes n fs ⊎ Alone n fs → Moves ns fs v new st
      by (inl x) =
          subst (λ gs. Moves ns gs v new st) (sym x.is) (do_moves ns nodes x.list x.at n x.block v x.rest mid new st r x.listed (within_list x) (in_place x) (on ∙ ap moved_on x.is) h)
      by (inr x) = subst (λ gs. Moves ns gs v new st) (sym x.1) (lone_moves ns n v x.0 mid new st (on ∙ ap moved_on x.1) h)

  pub body_issues : (v : View) (mid new : List Frame) (st : Step) → mid ≡ moved_on fs → CarriesCall ns (part_body (part_at ns n)) (part_next (part_at ns n)) v mid new st → Issues ns fs v new st
  body_issues v mid new st on h = by (body_first ns nodes fs n fits e)
    where
      by : InList nodes n fs ⊎ Alone n fs → Issues ns fs v new st
      by (inl x) =
          subst (λ gs. Issues ns gs v new st) (sym x.is) (do_issues ns nodes x.list x.at n x.block r x.listed (within_list x) (in_place x) x.rest v mid new st (on ∙ ap moved_on x.is) h)
      by (inr x) = subst (λ gs. Issues ns gs v new st) (sym x.1) (lone_issues ns n v x.0 mid new st (on ∙ ap moved_on x.1) h)

  pub body_kinds : (p : Program) → next_kind p (control ns fs) ≡ body_kind p (part_body (part_at ns n))
  body_kinds p = by (body_first ns nodes fs n fits e)
    where
      by : InList nodes n fs ⊎ Alone n fs → next_kind p (control ns fs) ≡ body_kind p (part_body (part_at ns n))
      by (inl x) = ap (λ gs. next_kind p (control ns gs)) x.is ∙ do_wants ns nodes x.list x.at n x.block r x.listed (within_list x) (in_place x) x.rest p
      by (inr x) = ap (λ gs. next_kind p (control ns gs)) x.1

  pub body_same : (st : Step) → IsOf n st → WantsSame ns fs st
  body_same st h = of_same ns fs n st h body_kinds

-- ## An entry
module _ (ns : List Spot) (nodes : List Node) (r : Resolves ns nodes) (fs : List Frame) (n : ℕ) (fits : Fits ns nodes fs) (e : next_by nodes fs ≡ next.Entry n) where
  abbrev found : InEntries nodes n fs
  found = entry_first ns nodes fs n fits e

  within_assign : found.at < length found.numbers
  within_assign = slice_get_within found.numbers found.at n found.here

  in_turn : get_or found.numbers found.at 0 ≡ n
  in_turn = get_or_from_slice_get found.numbers found.at n 0 found.here

  pub entry_within : n < length nodes
  entry_within =
      let s = seen_entries nodes found.assign found.numbers found.listed in
      subst (λ (m : ℕ). m < length nodes) in_turn (entry_below ns nodes found.assign found.at found.numbers s.node r s.at found.listed within_assign)

  pub entry_room : HasRoomOnTop fs
  entry_room =
      let s = seen_entries nodes found.assign found.numbers found.listed in
      subst HasRoomOnTop (sym found.is) (entries_room s.node.codes.items.items s.node.kind found.numbers found.at (sym (entries_of nodes found.assign s.node s.at) ∙ found.listed) within_assign)

  pub entry_keeps : (mid : List Frame) → mid ≡ moved_on fs → Fits ns nodes mid
  entry_keeps mid on =
      let all : Fits ns nodes (frame.Entries found.assign found.at ∷ found.rest) = subst (Fits ns nodes) found.is fits in
      entry_fits ns nodes found.assign found.at found.numbers found.rest mid found.listed within_assign (on ∙ ap moved_on found.is) all.1

  pub entry_goes : (v : View) (mid : List Frame) → mid ≡ moved_on fs → Moves ns fs v mid (step.Assigns n)
  entry_goes v mid on =
      subst (λ gs. Moves ns gs v mid (step.Assigns n)) (sym found.is) (entry_moves ns nodes found.assign found.at n found.numbers v found.rest mid r found.listed within_assign in_turn (on ∙ ap moved_on found.is))

  pub entry_issues : (v : View) (new : List Frame) (st : Step) → Issues ns fs v new st
  entry_issues v new st = subst (λ gs. Issues ns gs v new st) (sym found.is) (entries_issue ns found.assign found.at v found.rest new st)

  pub entry_kinds : (p : Program) → next_kind p (control ns fs) ≡ by_clock (entry_now (part_entry (part_at ns n)))
  entry_kinds p = ap (λ gs. next_kind p (control ns gs)) found.is ∙ entry_kind ns nodes found.assign found.at r p (control ns found.rest) found.numbers n found.listed found.here

-- ## Neither
module _ (ns : List Spot) (nodes : List Node) (r : Resolves ns nodes) (p : Program) where
  pub plain_kinds : (fs : List Frame) → Fits ns nodes fs → ((n : ℕ) → next_by nodes fs ≡ next.Body n → ⊥) → ((n : ℕ) → next_by nodes fs ≡ next.Entry n → ⊥) → next_kind p (control ns fs) ≡ Plainly
  plain_kinds [] fits body entry = refl
  plain_kinds (frame.Do l at ∷ fs) fits body entry = by (slice_get (steps_of (list_at nodes l)) at) refl
    where
      by : (o : Option ℕ) → slice_get (steps_of (list_at nodes l)) at ≡ o → next_kind p (control ns (frame.Do l at ∷ fs)) ≡ Plainly
      by (Some m) q = absurd (body m (ap in_list q))
      by None q = do_plain ns nodes l at r p (control ns fs) fits.0.0.0 fits.0.0.1 (ap (λ (o : Option Listed). slice_get (steps_of o) at) (sym fits.0.0.1) ∙ q)
  plain_kinds (frame.Lone m true ∷ fs) fits body entry = refl
  plain_kinds (frame.Lone m false ∷ fs) fits body entry = absurd (body m refl)
  plain_kinds (frame.Entries l at ∷ fs) fits body entry = by (slice_get (unwrap_or (entries_at nodes l) []) at) refl
    where
      by : (o : Option ℕ) → slice_get (unwrap_or (entries_at nodes l) []) at ≡ o → next_kind p (control ns (frame.Entries l at ∷ fs)) ≡ Plainly
      by (Some m) q = absurd (entry m (ap in_entries q))
      by None q = entry_plain ns nodes l at r p (control ns fs) fits.0.0.0 fits.0.0.1 (ap (λ (o : Option (List ℕ)). slice_get (unwrap_or o []) at) (sym fits.0.0.1) ∙ q)
  plain_kinds (frame.Then m ∷ fs) fits body entry = refl
  plain_kinds (frame.Loop looping ∷ fs) fits body entry = refl
  plain_kinds (frame.Try trying ∷ fs) fits body entry = refl
  plain_kinds (frame.Mark number ∷ fs) fits body entry = refl
  plain_kinds (frame.Back call number ∷ fs) fits body entry = refl
  plain_kinds (frame.Judge judging ∷ fs) fits body entry = refl

-- ## What has a step
some_at : (xs : List ℕ) (at : ℕ) → at < length xs → (m : ℕ) × (slice_get xs at ≡ Some m)
some_at [] at lt = absurd (omega (arith, lt))
some_at (x ∷ xs) zero lt = (x, refl)
some_at (x ∷ xs) (suc at) lt = some_at xs at (omega (arith, lt))

-- the innermost frame that has a step, and isn't a loop, goes on to a body, to an entry or to a `next`
some_next : (nodes : List Node) (fs : List Frame) → HasStepOnTop nodes fs → ((n : ℕ) → next_by nodes fs ≡ next.Body n → ⊥) → ((n : ℕ) → next_by nodes fs ≡ next.Entry n → ⊥) → ((n : ℕ) → next_by nodes fs ≡ next.Then n → ⊥) → ⊥
some_next nodes [] h body entry goes = h
some_next nodes (frame.Do l at ∷ fs) h body entry goes = let m = some_at h.0.steps at h.2 in body m.0 (ap in_list (ap (λ (o : Option Listed). slice_get (steps_of o) at) h.1 ∙ m.1))
some_next nodes (frame.Lone m true ∷ fs) h body entry goes = h
some_next nodes (frame.Lone m false ∷ fs) h body entry goes = body m refl
some_next nodes (frame.Entries l at ∷ fs) h body entry goes = let m = some_at h.0 at h.2 in entry m.0 (ap in_entries (ap (λ (o : Option (List ℕ)). slice_get (unwrap_or o []) at) h.1 ∙ m.1))
some_next nodes (frame.Then m ∷ fs) h body entry goes = goes m refl
some_next nodes (frame.Loop looping ∷ fs) h body entry goes = h
some_next nodes (frame.Try trying ∷ fs) h body entry goes = h
some_next nodes (frame.Mark number ∷ fs) h body entry goes = h
some_next nodes (frame.Back call number ∷ fs) h body entry goes = h
some_next nodes (frame.Judge judging ∷ fs) h body entry goes = h

pub no_other : (nodes : List Node) (fs : List Frame) (x : Next) → HasStepOnTop nodes fs → x ≡ next_by nodes fs → (x ≡ next.Nothing) ⊎ ((x ≡ next.Loop) ⊎ (x ≡ next.Back)) → ⊥
no_other nodes fs x h is (inl e) = some_next nodes fs h (λ n q. cc (sym e ∙ is ∙ q)) (λ n q. cc (sym e ∙ is ∙ q)) (λ n q. cc (sym e ∙ is ∙ q))
no_other nodes fs x h is (inr (inl e)) = some_next nodes fs h (λ n q. cc (sym e ∙ is ∙ q)) (λ n q. cc (sym e ∙ is ∙ q)) (λ n q. cc (sym e ∙ is ∙ q))
no_other nodes fs x h is (inr (inr e)) = some_next nodes fs h (λ n q. cc (sym e ∙ is ∙ q)) (λ n q. cc (sym e ∙ is ∙ q)) (λ n q. cc (sym e ∙ is ∙ q))
