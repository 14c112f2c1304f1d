-- Where a jump leads, by the names of the steps of each list.
use Rattle.std.proofs.Common.{◌≡◌, ℕ, zero, suc, ◌+◌, ◌<◌, ◌≤◌, Bool, true, false, cond, List, [], ◌∷◌, length, map, slice_get, Option, option_map, None, Some, ◌⊎◌, inl, inr, refl, sym, ap, ◌∙◌, subst, bytes_eq, arith}
use Rattle.std.proofs.lemmas.Bool.Decides.{Decides-ltb}
use Rattle.std.proofs.lemmas.List.{length-map}
use Rattle.std.proofs.lemmas.Option.{slice_get-map, slice_get_within}
use Rattle.std.proofs.Math.Nat.{add-zero}
use Rattle.wf_lemmas.proofs.Numbers.{suc_taken}
use Rattle.wf_ast.specs.Tree.{Step, Steps, no_steps, more, Body, parallel, try, Flow}
use Rattle.wf_model.specs.Unwind.{from_step}
use Rattle.wf_value.specs.HttpUrl.{first_of_two}
use Rattle.wf_table.proofs.Adding.{views_length}
use Rattle.wf_table.proofs.Sound.{Nested, later, outside_of, sound}
use Rattle.wf_model.specs.NodeKinds as kind
use Rattle.wf_model.specs.NodeKinds.{Handler, Kind, Listed, Side, View, node_view}
use Rattle.wf_table.specs.Made.{kind_for, view_for, views_for}
use Rattle.wf_table.specs.Named.{below, depth_of, first_named, node_named, numbers_of, outer_of, owner_outside, when_named}
use Rattle.wf_model.specs.Spots.{Part, FlowAt, BodyAt, ArmAt, EntryAt, BranchAt, NoPart, Spot, except_list, from, owners_at, part_at, part_list, part_name, part_next, part_step, spot_owners, spot_part, spots, steps_by, work_list}
use Rattle.wf_model.specs.Table.{AreAbove, AreBelow, AreRising, Lacks, Leads, LeadsInto, ListStands, except_of, handler_list, innermost, kind_list, list_at, outside, part_by, side_list, view_list, work_of}
use Rattle.wf_model.specs.declared.node.Jump.{Jump}
use Rattle.wf_model.specs.declared.node.Node.{Node}
use Rattle.wf_value.specs.Pairs.{Text}

-- ## Nodes of parts

views_at : (xs : List Spot) (n i : ℕ) → slice_get (views_for n xs) i ≡ option_map (view_for (n + i)) (slice_get xs i)
views_at [] n i = refl
views_at (s ∷ xs) n zero = ap (λ m. Some (view_for m s)) (sym (add-zero n))
views_at (s ∷ xs) n (suc i) = views_at xs (suc n) i ∙ ap (λ m. option_map (view_for m) (slice_get xs i)) (sym (suc_taken n i))

no_more : (n : ℕ) → 0 + n ≡ n
no_more n = omega arith

pub view_at : (views : List View) (ns : List Spot) (i : ℕ) → views ≡ views_for 0 ns → slice_get views i ≡ option_map (view_for i) (slice_get ns i)
view_at views ns i made = ap (λ l. slice_get l i) made ∙ views_at ns 0 i ∙ ap (λ m. option_map (view_for m) (slice_get ns i)) (no_more i)

-- the part of a node
pub spot_of : (nodes : List Node) (ns : List Spot) (i : ℕ) (x : Node) → map node_view nodes ≡ views_for 0 ns → slice_get nodes i ≡ Some x → (s : Spot) × (slice_get ns i ≡ Some s) × (node_view x ≡ view_for i s)
spot_of nodes ns i x made is = by (slice_get ns i) refl (sym (slice_get-map node_view nodes i ∙ ap (option_map node_view) is) ∙ view_at (map node_view nodes) ns i made)
  where
    by : (o : Option Spot) → slice_get ns i ≡ o → Some (node_view x) ≡ option_map (view_for i) o → (s : Spot) × (slice_get ns i ≡ Some s) × (node_view x ≡ view_for i s)
    by None e h = absurd (cc)
    by (Some s) e h = (s, e, cc)

pub part_within : (ns : List Spot) (n : ℕ) → n < length ns → (s : Spot) × (slice_get ns n ≡ Some s)
part_within [] n h = absurd (omega arith)
part_within (s ∷ ns) zero h = (s, refl)
part_within (s ∷ ns) (suc n) h = part_within ns n (omega arith)

-- ## Names
-- a step's name is that of its node
pub named_at : (views : List View) (ns : List Spot) (x : Text) (n : ℕ) → views ≡ views_for 0 ns → n < length ns → node_named x n (slice_get views n) ≡ when_named x (part_name (part_at ns n)) n
named_at views ns x n made h =
    let p = part_within ns n h in
    ap (node_named x n) (view_at views ns n made ∙ ap (option_map (view_for n)) p.1) ∙ ap (λ (o : Option Spot). when_named x (part_name (spot_part o)) n) (sym p.1)

pub record Found (x : Text) (ss : Steps) (numbers : List ℕ) (n : ℕ) : Type 0 where
  pub to : Step
  pub rest : Steps
  pub first : from_step x ss ≡ more to rest
  pub place : ℕ
  pub has : slice_get numbers place ≡ Some n
  pub here : from place ss ≡ more to rest

one_none : (b : Bool) (n : ℕ) (r : Option ℕ) → first_of_two (cond b (Some n) None) r ≡ None → (b ≡ false) × (r ≡ None)
one_none true n r h = absurd (cc)
one_none false n r h = (refl, h)

one_some : (b : Bool) (n m : ℕ) (r : Option ℕ) → first_of_two (cond b (Some n) None) r ≡ Some m → ((b ≡ true) × (n ≡ m)) ⊎ ((b ≡ false) × (r ≡ Some m))
one_some true n m r h = inl (refl, cc)
one_some false n m r h = inr (refl, h)

pub not_found : (views : List View) (ns : List Spot) (x : Text) (numbers : List ℕ) → views ≡ views_for 0 ns → AreBelow (length ns) numbers → first_named views x numbers ≡ None → from_step x (steps_by ns numbers) ≡ no_steps
not_found views ns x [] made h none = refl
not_found views ns x (n ∷ others) made h none =
    let name = part_name (part_at ns n) in
    let k = one_none (bytes_eq x name) n (first_named views x others) (ap (λ o. first_of_two o (first_named views x others)) (sym (named_at views ns x n made h.0)) ∙ none) in
    ap (λ b. cond b (more (part_step (part_at ns n)) (steps_by ns others)) (from_step x (steps_by ns others))) k.0 ∙ not_found views ns x others made h.1 k.1

found_by : (x : Text) (p : Part) (tail : Steps) (others : List ℕ) (n to : ℕ) (r : Option ℕ) → ((bytes_eq x (part_name p) ≡ true) × (n ≡ to)) ⊎ ((bytes_eq x (part_name p) ≡ false) × (r ≡ Some to)) → (r ≡ Some to → Found x tail others to)
    → Found x (more (part_step p) tail) (n ∷ others) to
found_by x p tail others n to r (inl k) again = record {
  to = part_step p;
  rest = tail;
  first = ap (λ b. cond b (more (part_step p) tail) (from_step x tail)) k.0;
  place = 0;
  has = ap Some k.1;
  here = refl;
}
found_by x p tail others n to r (inr k) again =
    let f = again k.1 in
    record {
      to = f.to;
      rest = f.rest;
      first = ap (λ b. cond b (more (part_step p) tail) (from_step x tail)) k.0 ∙ f.first;
      place = suc f.place;
      has = f.has;
      here = f.here;
    }

pub found : (views : List View) (ns : List Spot) (x : Text) (numbers : List ℕ) (to : ℕ) → views ≡ views_for 0 ns → AreBelow (length ns) numbers → first_named views x numbers ≡ Some to → Found x (steps_by ns numbers) numbers to
found views ns x [] to made h is = absurd (cc)
found views ns x (n ∷ others) to made h is =
    found_by x (part_at ns n) (steps_by ns others) others n to (first_named views x others)
    (one_some (bytes_eq x (part_name (part_at ns n))) n to (first_named views x others) (ap (λ o. first_of_two o (first_named views x others)) (sym (named_at views ns x n made h.0)) ∙ is))
    (λ k. found views ns x others to made h.1 k)

-- a number stands once among rising ones
is_above : (xs : List ℕ) (low k n : ℕ) → AreAbove low xs → slice_get xs k ≡ Some n → low < n
is_above [] low k n h is = absurd (cc)
is_above (x ∷ xs) low zero n h is = let e : x ≡ n = cc in subst (λ (m : ℕ). low < m) e h.0
is_above (x ∷ xs) low (suc k) n h is = is_above xs low k n h.1 is

pub once : (xs : List ℕ) (i k n : ℕ) → AreRising xs → slice_get xs i ≡ Some n → slice_get xs k ≡ Some n → i ≡ k
once [] i k n h a b = absurd (cc)
once (x ∷ xs) zero zero n h a b = refl
once (x ∷ xs) zero (suc k) n h a b = let e : x ≡ n = cc in let l : x < n = is_above xs x k n h.0 b in absurd (omega arith)
once (x ∷ xs) (suc i) zero n h a b = let e : x ≡ n = cc in let l : x < n = is_above xs x i n h.0 a in absurd (omega arith)
once (x ∷ xs) (suc i) (suc k) n h a b = ap suc (once xs i k n h.1 a b)

-- ## Lists of parts
side_steps : (ns : List Spot) (w : Side) → work_list (work_of ns w) ≡ steps_by ns (numbers_of (side_list w))
side_steps ns (kind.Branches numbers) = refl
side_steps ns (kind.Iterations l) = refl

handler_steps : (ns : List Spot) (x : Option Handler) → except_list (except_of ns x) ≡ steps_by ns (numbers_of (handler_list x))
handler_steps ns None = refl
handler_steps ns (Some x) = refl

pub list_steps : (ns : List Spot) (x : Text) (next : Option Text) (k : Kind) → part_list (part_by ns x next k) ≡ steps_by ns (numbers_of (kind_list k))
list_steps ns x next (kind.Flow params b) = refl
list_steps ns x next kind.Nothing = refl
list_steps ns x next (kind.Assign numbers) = refl
list_steps ns x next (kind.Call f) = refl
list_steps ns x next (kind.Switch numbers) = refl
list_steps ns x next (kind.For l) = refl
list_steps ns x next (kind.Parallel shared limit w) = side_steps ns w
list_steps ns x next (kind.Block b) = refl
list_steps ns x next (kind.Try n policy y) = handler_steps ns y
list_steps ns x next (kind.Raise t) = refl
list_steps ns x next (kind.Return t) = refl
list_steps ns x next (kind.Arm t) = refl
list_steps ns x next (kind.Entry e) = refl
list_steps ns x next (kind.Branch b) = refl

-- what owns the lists around, by kind and by part
outside_is : (n d : ℕ) (p : Part) (os : List ℕ) → outside (kind_for n d p) os ≡ outside_of p os
outside_is n d (FlowAt f) os = refl
outside_is n d (BodyAt x Body.Nothing next) os = refl
outside_is n d (BodyAt x (Body.Assign es) next) os = refl
outside_is n d (BodyAt x (Body.Call f) next) os = refl
outside_is n d (BodyAt x (Body.Switch arms) next) os = refl
outside_is n d (BodyAt x (Body.For l) next) os = refl
outside_is n d (BodyAt x (Body.Parallel (parallel shared limit w)) next) os = refl
outside_is n d (BodyAt x (Body.Block ss) next) os = refl
outside_is n d (BodyAt x (Body.Try (try body policy y)) next) os = refl
outside_is n d (BodyAt x (Body.Raise t) next) os = refl
outside_is n d (BodyAt x (Body.Return t) next) os = refl
outside_is n d (ArmAt t) os = refl
outside_is n d (EntryAt e) os = refl
outside_is n d (BranchAt x ss) os = refl
outside_is n d NoPart os = refl

outer_is : (n d : ℕ) (p : Part) (os : List ℕ) → owner_outside (kind_for n d p) (innermost os) ≡ innermost (outside_of p os)
outer_is n d (FlowAt f) os = refl
outer_is n d (BodyAt x Body.Nothing next) os = refl
outer_is n d (BodyAt x (Body.Assign es) next) os = refl
outer_is n d (BodyAt x (Body.Call f) next) os = refl
outer_is n d (BodyAt x (Body.Switch arms) next) os = refl
outer_is n d (BodyAt x (Body.For l) next) os = refl
outer_is n d (BodyAt x (Body.Parallel (parallel shared limit w)) next) os = refl
outer_is n d (BodyAt x (Body.Block ss) next) os = refl
outer_is n d (BodyAt x (Body.Try (try body policy y)) next) os = refl
outer_is n d (BodyAt x (Body.Raise t) next) os = refl
outer_is n d (BodyAt x (Body.Return t) next) os = refl
outer_is n d (ArmAt t) os = refl
outer_is n d (EntryAt e) os = refl
outer_is n d (BranchAt x ss) os = refl
outer_is n d NoPart os = refl

nested_outside : (ns : List Spot) (n : ℕ) (p : Part) (os : List ℕ) → Nested ns n os → Nested ns n (outside_of p os)
nested_outside ns n (FlowAt f) os h = tt
nested_outside ns n (BodyAt x Body.Nothing next) os h = tt
nested_outside ns n (BodyAt x (Body.Assign es) next) os h = tt
nested_outside ns n (BodyAt x (Body.Call f) next) os h = tt
nested_outside ns n (BodyAt x (Body.Switch arms) next) os h = tt
nested_outside ns n (BodyAt x (Body.For l) next) os h = tt
nested_outside ns n (BodyAt x (Body.Parallel q) next) os h = tt
nested_outside ns n (BodyAt x (Body.Block ss) next) os h = h
nested_outside ns n (BodyAt x (Body.Try t) next) os h = h
nested_outside ns n (BodyAt x (Body.Raise t) next) os h = tt
nested_outside ns n (BodyAt x (Body.Return t) next) os h = tt
nested_outside ns n (ArmAt t) os h = tt
nested_outside ns n (EntryAt e) os h = tt
nested_outside ns n (BranchAt x ss) os h = tt
nested_outside ns n NoPart os h = tt

-- ## On the way outward
-- these lists are still to be looked into, the innermost of which is that of the owner
pub record Outward (fs : List Flow) (views : List View) (x : Text) (all : List ℕ) (next : Option ℕ) : Type 0 where
  pub os : List ℕ
  pub next_is : next ≡ innermost os
  pub nested : Nested (spots fs) (length (spots fs)) os
  pub leads : (r : Option Jump) → Leads (spots fs) views x r os → Leads (spots fs) views x r all

pub starts : (fs : List Flow) (nodes : List Node) (x : Text) (i : ℕ) (node : Node) → map node_view nodes ≡ views_for 0 (spots fs) → slice_get nodes i ≡ Some node
    → Outward fs (map node_view nodes) x (owners_at (spots fs) i) node.owner
starts fs nodes x i node made is =
    let ns = spots fs in
    let s = spot_of nodes ns i node made is in
    let owners : owners_at ns i ≡ s.0.owners = ap spot_owners s.1 in
    let bound : i < length ns = slice_get_within ns i s.0 s.1 in
    record {
      os = s.0.owners;
      next_is = ap (λ (v : View). v.owner) s.2;
      nested = later ns s.0.owners i (length ns) (omega arith) (sound fs i s.0 s.1).nested;
      leads = λ r h. subst (λ (os : List ℕ). Leads ns (map node_view nodes) x r os) (sym owners) h;
    }

-- what is known of the innermost list
pub record Inner (fs : List Flow) (views : List View) (x : Text) (all : List ℕ) (o : ℕ) : Type 0 where
  pub os : List ℕ
  pub bound : o < length (spots fs)
  pub outer : outside_of (part_at (spots fs) o) (owners_at (spots fs) o) ≡ os
  pub leads : (r : Option Jump) → Leads (spots fs) views x r (o ∷ os) → Leads (spots fs) views x r all

pub inner : (fs : List Flow) (views : List View) (x : Text) (all : List ℕ) (next : Option ℕ) (o : ℕ) → next ≡ Some o → Outward fs views x all next → Inner fs views x all o
inner fs views x all next o some h = by h.os (sym h.next_is ∙ some) h.nested h.leads
  where
    by : (os : List ℕ) → innermost os ≡ Some o → Nested (spots fs) (length (spots fs)) os → ((r : Option Jump) → Leads (spots fs) views x r os → Leads (spots fs) views x r all) → Inner fs views x all o
    by [] e n f = absurd (cc)
    by (p ∷ os) e n f =
        let same : p ≡ o = cc in
        subst (λ (q : ℕ). Inner fs views x all q) same (record { os = os; bound = n.0; outer = n.1; leads = f })

-- the list of the owner, by its node
numbers_at : (views : List View) (ns : List Spot) (o : ℕ) (s : Spot) → views ≡ views_for 0 ns → slice_get ns o ≡ Some s → list_at views o ≡ kind_list (view_for o s).kind
numbers_at views ns o s made is = ap view_list (view_at views ns o made ∙ ap (option_map (view_for o)) is)

stands_below : (ns : List Spot) (len n : ℕ) (out : List ℕ) (l : Option Listed) → ListStands ns len n out l → AreBelow len (numbers_of l)
stands_below ns len n out None h = tt
stands_below ns len n out (Some b) h = h.0

below_is : (ns : List Spot) (o : ℕ) (os : List ℕ) → Nested ns o os → below o (innermost os) ≡ innermost os
below_is ns o [] n = refl
below_is ns o (q ∷ os) n = ap (λ b. cond b (Some q) None) ((Decides-ltb q o).1 n.0)

one_out : (ns : List Spot) (views : List View) (x : Text) (r : Option Jump) (o : ℕ) (os : List ℕ) → Lacks ns x o → Leads ns views x r os → Leads ns views x r (o ∷ os)
one_out ns views x None o os l j = (l, j)
one_out ns views x (Some r) o os l j = inr (l, j)

-- the list of the owner has no such step: what is outside is next
pub goes_out : (fs : List Flow) (nodes : List Node) (x : Text) (all : List ℕ) (o : ℕ) (node : Node) → map node_view nodes ≡ views_for 0 (spots fs) → slice_get nodes o ≡ Some node
    → first_named (map node_view nodes) x (numbers_of (list_at (map node_view nodes) o)) ≡ None → Inner fs (map node_view nodes) x all o
    → Outward fs (map node_view nodes) x all (below o (outer_of (node_view node)))
goes_out fs nodes x all o node made is none h =
    let ns = spots fs in
    let views = map node_view nodes in
    let s = spot_of nodes ns o node made is in
    let p = s.0.part in
    let so = sound fs o s.0 s.1 in
    let k = (view_for o s.0).kind in
    let lists : list_at views o ≡ kind_list k = numbers_at views ns o s.0 made s.1 in
    let part : part_at ns o ≡ p = ap spot_part s.1 in
    let owners : owners_at ns o ≡ s.0.owners = ap spot_owners s.1 in
    let outer : outside_of p s.0.owners ≡ h.os = (λ i. outside_of (sym part i) (sym owners i)) ∙ h.outer in
    let lacks : Lacks ns x o =
    ap (λ q. from_step x (part_list q)) so.describes.part ∙ ap (from_step x) (list_steps ns (part_name p) (part_next p) k)
    ∙ not_found views ns x (numbers_of (kind_list k)) made (stands_below ns (length ns) o _ (kind_list k) so.describes.list) (ap (λ l. first_named views x (numbers_of l)) (sym lists) ∙ none) in
    let nested : Nested ns o h.os = subst (λ (os : List ℕ). Nested ns o os) outer (nested_outside ns o p s.0.owners so.nested) in
    record {
      os = h.os;
      next_is =
          ap (λ (v : View). below o (outer_of v)) s.2
          ∙ ap (below o) (outer_is o (length s.0.owners) p s.0.owners ∙ ap innermost outer)
          ∙ below_is ns o h.os nested;
      nested = later ns h.os o (length ns) (let b : o < length ns = h.bound in omega arith) nested;
      leads = λ r j. h.leads r (one_out ns views x r o h.os lacks j);
    }

-- the list of the owner has it
into : (views : List View) (ns : List Spot) (x : Text) (j : Jump) (o : ℕ) (os out : List ℕ) (l : Option Listed) → views ≡ views_for 0 ns → out ≡ os → list_at views o ≡ l → part_list (part_at ns o) ≡ steps_by ns (numbers_of l)
    → ListStands ns (length ns) o out l → first_named views x (numbers_of l) ≡ Some j.to → j.keep ≡ depth_of l → LeadsInto ns views x j o (suc (length os))
into views ns x j o os out None made is at steps stands some keeps = absurd (cc)
into views ns x j o os out (Some b) made is at steps stands some keeps =
    let f : Found x (steps_by ns b.steps) b.steps j.to = found views ns x b.steps j.to made stands.0 some in
    record {
      to = f.to;
      rest = f.rest;
      list = b;
      first = ap (from_step x) steps ∙ f.first;
      owned = at;
      keeps = keeps ∙ stands.3 ∙ ap (λ l. suc (length l)) is;
      has = (f.place, f.has);
      only = λ i there. ap (from i) steps ∙ ap (λ m. from m (steps_by ns b.steps)) (sym (once b.steps f.place i j.to stands.1 f.has there)) ∙ f.here;
    }

pub leads_in : (fs : List Flow) (nodes : List Node) (x : Text) (all : List ℕ) (o : ℕ) (node : Node) (j : Jump) → map node_view nodes ≡ views_for 0 (spots fs) → slice_get nodes o ≡ Some node
    → first_named (map node_view nodes) x (numbers_of (list_at (map node_view nodes) o)) ≡ Some j.to → j.keep ≡ depth_of (kind_list (node_view node).kind) → Inner fs (map node_view nodes) x all o
    → Leads (spots fs) (map node_view nodes) x (Some j) all
leads_in fs nodes x all o node j made is some keeps h =
    let ns = spots fs in
    let views = map node_view nodes in
    let s = spot_of nodes ns o node made is in
    let p = s.0.part in
    let so = sound fs o s.0 s.1 in
    let k = (view_for o s.0).kind in
    let lists : list_at views o ≡ kind_list k = numbers_at views ns o s.0 made s.1 in
    let outer : outside k (owners_at ns o) ≡ h.os = outside_is o (length s.0.owners) p (owners_at ns o) ∙ ap (λ q. outside_of q (owners_at ns o)) (sym (ap spot_part s.1)) ∙ h.outer in
    h.leads (Some j) (inl (into views ns x j o h.os (outside k (owners_at ns o)) (kind_list k) made outer lists
    (ap part_list so.describes.part ∙ list_steps ns (part_name p) (part_next p) k) so.describes.list
    (ap (λ l. first_named views x (numbers_of l)) (sym lists) ∙ some) (keeps ∙ ap (λ (v : View). depth_of (kind_list v.kind)) s.2)))

-- an owner has a node
pub has_node : (fs : List Flow) (nodes : List Node) (x : Text) (all : List ℕ) (next : Option ℕ) (o : ℕ) → map node_view nodes ≡ views_for 0 (spots fs) → next ≡ Some o → Outward fs (map node_view nodes) x all next
    → length nodes ≤ o → ⊥
has_node fs nodes x all next o made some h past =
    let long : length nodes ≡ length (spots fs) = sym (length-map nodes node_view) ∙ ap length made ∙ views_length 0 (spots fs) in
    let bound : o < length (spots fs) = (inner fs (map node_view nodes) x all next o some h).bound in
    omega arith

-- ## That the way ends
abbrev pub rank : Option ℕ → ℕ
rank None = 0
rank (Some o) = suc o
