-- What a table says of a part holds of each part of a program.
--     Sound        what it says of the part of a number
--     sound        it holds of each
use Rattle.std.proofs.Common.{◌≡◌, ℕ, zero, suc, ◌+◌, ◌<◌, List, [], ◌∷◌, ◌++◌, length, slice_get, Option, None, Some, refl, sym, ap, ◌∙◌, subst, arith}
use Rattle.std.proofs.lemmas.List.{append-nil}
use Rattle.std.proofs.Math.Nat.{add-zero}
use Rattle.wf_lemmas.proofs.Numbers.{suc_taken, two_taken}
use Rattle.wf_ast.specs.Tree.{Template, Entry, Step, step, Steps, no_steps, more, Body, Arms, no_arms, arm, LoopBody, loop, ParallelBody, parallel, Work, OfBranches, OfLoop, Branches, no_branches, branch, TryBody, try, Except, no_except, except, Flow, Policy}
use Rattle.wf_value.specs.Pairs.{Text}
use Rattle.wf_table.proofs.Found.{arm_body, arms_found, arms_stand, behind_arm, behind_branch, behind_step, branch_steps, branches_below, branches_found, entries_below, entries_found, steps_below, steps_found, steps_rising, steps_stand}
use Rattle.wf_table.proofs.Lying.{Lies, behind, left, others, owners_are, part_is, within}
use Rattle.wf_table.proofs.Sizes.{body_long, step_long, steps_long}
use Rattle.wf_model.specs.NodeKinds.{listed}
use Rattle.wf_table.specs.Made.{arm_numbers, handler_for, step_numbers, view_for}
use Rattle.wf_model.specs.Spots.{Part, part_next, FlowAt, BodyAt, ArmAt, EntryAt, BranchAt, Spot, arms_spots, body_size, body_spots, branches_spots, entries_spots, except_spots, flow_spots, flows_spots, loop_spots, owners_at, parallel_spots, part_at, part_body, part_next, spot, spots, step_size, step_spots, steps_size, steps_spots, try_spots, work_spots}
use Rattle.wf_model.specs.Table.{ArmsStandIn, Describes, ListStands, handler_list, StandIn, except_of, innermost}

-- ## What is said
-- what owns the lists around the list of a part
abbrev pub outside_of : Part → List ℕ → List ℕ
outside_of (BodyAt x (Body.Block ss) next) os = os
outside_of (BodyAt x (Body.Try t) next) os = os
outside_of p os = []

-- these own lists one in another
abbrev pub Nested : List Spot → ℕ → List ℕ → Type 0
Nested ns n [] = Unit {0}
Nested ns n (o ∷ os) = (o < n) × (outside_of (part_at ns o) (owners_at ns o) ≡ os)

pub record Sound (ns : List Spot) (n : ℕ) (s : Spot) : Type 0 where
  pub describes : Describes ns (length ns) n (view_for n s)
  pub nested : Nested ns n s.owners

abbrev pub AllSound : List Spot → ℕ → List Spot → Type 0
AllSound ns n [] = Unit {0}
AllSound ns n (s ∷ xs) = Sound ns n s × AllSound ns (suc n) xs

all_append : (ns : List Spot) (xs ys : List Spot) (n m : ℕ) → n + length xs ≡ m → AllSound ns n xs → AllSound ns m ys → AllSound ns n (xs ++ ys)
all_append ns [] ys n m is h k = subst (λ (z : ℕ). AllSound ns z ys) (sym is ∙ add-zero n) k
all_append ns (x ∷ xs) ys n m is h k = (h.0, all_append ns xs ys (suc n) m (sym (suc_taken n (length xs)) ∙ is) h.1 k)

pub later : (ns : List Spot) (os : List ℕ) (n m : ℕ) → n < suc m → Nested ns n os → Nested ns m os
later ns [] n m le h = tt
later ns (o ∷ os) n m le h = (below h.0, h.1)
  where
    below : o < n → o < m
    below k = omega arith

-- ## Each part
list_alone : (ns : List Spot) (ss : Steps) (n m : ℕ) → Lies ns m (steps_spots ss m (n ∷ []))
    → ListStands ns (length ns) n [] (Some (listed (step_numbers ss m) 1))
list_alone ns ss n m h = (steps_below ns ss m (n ∷ []) h, steps_rising ss m, steps_stand ns ss m (n ∷ []) h, refl)

list_inside : (ns : List Spot) (ss : Steps) (n m : ℕ) (os out : List ℕ) → out ≡ os → Lies ns m (steps_spots ss m (n ∷ os))
    → ListStands ns (length ns) n out (Some (listed (step_numbers ss m) (suc (length os))))
list_inside ns ss n m os out is h = (
  steps_below ns ss m (n ∷ os) h,
  steps_rising ss m,
  subst (λ (z : List ℕ). StandIn ns (n ∷ z) (step_numbers ss m)) (sym is) (steps_stand ns ss m (n ∷ os) h),
  ap (λ z. suc (length z)) (sym is),
)

two_on : (n k : ℕ) → n + suc (suc k) ≡ suc n + suc k
two_on n k = omega arith

-- the steps that take an error lie behind the body
handler_lies : (ns : List Spot) (body : Body) (policy : Option Policy) (x : Except) (n : ℕ) (os : List ℕ) → Lies ns (suc n) (try_spots (try body policy x) n os)
    → Lies ns (n + suc (suc (body_size body))) (except_spots x (n + suc (suc (body_size body))) (n ∷ os))
handler_lies ns body policy x n os h =
    behind ns (spot (BodyAt [] body None) os ∷ body_spots body (suc n) os) (except_spots x (n + suc (suc (body_size body))) (n ∷ os)) (suc n) (n + suc (suc (body_size body)))
    (two_on n (body_size body) ∙ ap (λ m. suc n + suc m) (sym (body_long body (suc n) os))) h

handler_found : (ns : List Spot) (x : Except) (m d : ℕ) (os : List ℕ) → Lies ns m (except_spots x m os) → except_of ns (handler_for m d x) ≡ x
handler_found ns no_except m d os h = refl
handler_found ns (except y ss) m d os h = ap (except y) (steps_found ns ss m os h)

handler_stands : (ns : List Spot) (x : Except) (n m : ℕ) (os out : List ℕ) → out ≡ os → Lies ns m (except_spots x m (n ∷ os))
    → ListStands ns (length ns) n out (handler_list (handler_for m (length os) x))
handler_stands ns no_except n m os out is h = tt
handler_stands ns (except y ss) n m os out is h = list_inside ns ss n m os out is h

describes_body : (ns : List Spot) (x : Text) (body : Body) (next : Option Text) (n : ℕ) (os : List ℕ) → part_at ns n ≡ BodyAt x body next → owners_at ns n ≡ os → Lies ns (suc n) (body_spots body n os)
    → Describes ns (length ns) n (view_for n (spot (BodyAt x body next) os))
describes_body ns x Body.Nothing next n os p o h = record { part = p; next = sym (ap part_next p); owner = ap innermost (sym o); list = tt; parts = tt }
describes_body ns x (Body.Assign es) next n os p o h = record {
  part = p ∙ ap (λ l. BodyAt x (Body.Assign l) next) (sym (entries_found ns es (suc n) os h));
  next = sym (ap part_next p);
  owner = ap innermost (sym o);
  list = tt;
  parts = entries_below ns es (suc n) os h;
}
describes_body ns x (Body.Call f) next n os p o h = record { part = p; next = sym (ap part_next p); owner = ap innermost (sym o); list = tt; parts = tt }
describes_body ns x (Body.Switch arms) next n os p o h = record {
  part = p ∙ ap (λ l. BodyAt x (Body.Switch l) next) (sym (arms_found ns arms (suc n) os h));
  next = sym (ap part_next p);
  owner = ap innermost (sym o);
  list = tt;
  parts = subst (λ (z : List ℕ). ArmsStandIn ns (length ns) z (arm_numbers arms (suc n))) (sym o) (arms_stand ns arms (suc n) os h);
}
describes_body ns x (Body.For (loop v i e ss)) next n os p o h = record {
  part = p ∙ ap (λ l. BodyAt x (Body.For (loop v i e l)) next) (sym (steps_found ns ss (suc n) (n ∷ []) h));
  next = sym (ap part_next p);
  owner = ap innermost (sym o);
  list = list_alone ns ss n (suc n) h;
  parts = tt;
}
describes_body ns x (Body.Parallel (parallel shared limit (OfBranches bs))) next n os p o h = record {
  part = p ∙ ap (λ l. BodyAt x (Body.Parallel (parallel shared limit (OfBranches l))) next) (sym (branches_found ns bs (suc n) os h));
  next = sym (ap part_next p);
  owner = ap innermost (sym o);
  list = tt;
  parts = branches_below ns bs (suc n) os h;
}
describes_body ns x (Body.Parallel (parallel shared limit (OfLoop (loop v i e ss)))) next n os p o h = record {
  part = p ∙ ap (λ l. BodyAt x (Body.Parallel (parallel shared limit (OfLoop (loop v i e l)))) next) (sym (steps_found ns ss (suc n) (n ∷ []) h));
  next = sym (ap part_next p);
  owner = ap innermost (sym o);
  list = list_alone ns ss n (suc n) h;
  parts = tt;
}
describes_body ns x (Body.Block ss) next n os p o h = record {
  part = p ∙ ap (λ l. BodyAt x (Body.Block l) next) (sym (steps_found ns ss (suc n) (n ∷ os) h));
  next = sym (ap part_next p);
  owner = ap innermost (sym o);
  list = list_inside ns ss n (suc n) os (owners_at ns n) o h;
  parts = tt;
}
describes_body ns x (Body.Try (try body policy y)) next n os p o h = record {
  part =
      p
      ∙ (λ i. BodyAt x (Body.Try (try (part_body (sym (part_is ns (suc n) (BodyAt [] body None) os _ h) i)) policy
      (sym (handler_found ns y (n + suc (suc (body_size body))) (length os) (n ∷ os) (handler_lies ns body policy y n os h)) i))) next);
  next = sym (ap part_next p);
  owner = ap innermost (sym o);
  list = handler_stands ns y n (n + suc (suc (body_size body))) os (owners_at ns n) o (handler_lies ns body policy y n os h);
  parts = (within ns (suc n) _ _ h, owners_are ns (suc n) (BodyAt [] body None) os _ h ∙ sym o);
}
describes_body ns x (Body.Raise t) next n os p o h = record { part = p; next = sym (ap part_next p); owner = ap innermost (sym o); list = tt; parts = tt }
describes_body ns x (Body.Return t) next n os p o h = record { part = p; next = sym (ap part_next p); owner = ap innermost (sym o); list = tt; parts = tt }

describes_flow : (ns : List Spot) (f : Flow) (n : ℕ) (xs : List Spot) → Lies ns n (spot (FlowAt f) [] ∷ xs) → Lies ns (suc n) (steps_spots f.steps (suc n) (n ∷ []))
    → Describes ns (length ns) n (view_for n (spot (FlowAt f) []))
describes_flow ns f n xs h k = record {
  part = part_is ns n (FlowAt f) [] xs h ∙ ap (λ l. FlowAt (record { name = f.name; params = f.params; steps = l })) (sym (steps_found ns f.steps (suc n) (n ∷ []) k));
  next = sym (ap part_next (part_is ns n (FlowAt f) [] xs h));
  owner = ap innermost (sym (owners_are ns n (FlowAt f) [] xs h));
  list = list_alone ns f.steps n (suc n) k;
  parts = tt;
}

describes_branch : (ns : List Spot) (x : Text) (ss : Steps) (n : ℕ) (os : List ℕ) (xs : List Spot) → Lies ns n (spot (BranchAt x ss) os ∷ xs) → Lies ns (suc n) (steps_spots ss (suc n) (n ∷ []))
    → Describes ns (length ns) n (view_for n (spot (BranchAt x ss) os))
describes_branch ns x ss n os xs h k = record {
  part = part_is ns n (BranchAt x ss) os xs h ∙ ap (BranchAt x) (sym (steps_found ns ss (suc n) (n ∷ []) k));
  next = sym (ap part_next (part_is ns n (BranchAt x ss) os xs h));
  owner = ap innermost (sym (owners_are ns n (BranchAt x ss) os xs h));
  list = list_alone ns ss n (suc n) k;
  parts = tt;
}

-- an arm or an entry
describes_arm : (ns : List Spot) (t : Template) (n : ℕ) (os : List ℕ) (xs : List Spot) → Lies ns n (spot (ArmAt t) os ∷ xs) → Describes ns (length ns) n (view_for n (spot (ArmAt t) os))
describes_arm ns t n os xs h = record { part = part_is ns n (ArmAt t) os xs h; next = sym (ap part_next (part_is ns n (ArmAt t) os xs h)); owner = ap innermost (sym (owners_are ns n (ArmAt t) os xs h)); list = tt; parts = tt }

describes_entry : (ns : List Spot) (e : Entry) (n : ℕ) (os : List ℕ) (xs : List Spot) → Lies ns n (spot (EntryAt e) os ∷ xs) → Describes ns (length ns) n (view_for n (spot (EntryAt e) os))
describes_entry ns e n os xs h = record { part = part_is ns n (EntryAt e) os xs h; next = sym (ap part_next (part_is ns n (EntryAt e) os xs h)); owner = ap innermost (sym (owners_are ns n (EntryAt e) os xs h)); list = tt; parts = tt }

-- ## All parts
entries_sound : (ns : List Spot) (es : List Entry) (n : ℕ) (os : List ℕ) → Nested ns n os → Lies ns n (entries_spots es os) → AllSound ns n (entries_spots es os)
entries_sound ns [] n os nest h = tt
entries_sound ns (e ∷ es) n os nest h = (record { describes = describes_entry ns e n os _ h; nested = nest }, entries_sound ns es (suc n) os (later ns os n (suc n) (omega arith) nest) (others ns n _ _ h))

mutual
  steps_sound : (ns : List Spot) (ss : Steps) (n : ℕ) (os : List ℕ) → Nested ns n os → Lies ns n (steps_spots ss n os) → AllSound ns n (steps_spots ss n os)
  steps_sound ns no_steps n os nest h = tt
  steps_sound ns (more s ss) n os nest h =
      all_append ns (step_spots s n os) (steps_spots ss (n + step_size s) os) n (n + step_size s) (ap (λ m. n + m) (step_long s n os))
      (step_sound ns s n os nest (left ns n (step_spots s n os) (steps_spots ss (n + step_size s) os) h))
      (steps_sound ns ss (n + step_size s) os (later ns os n (n + step_size s) (omega arith) nest) (behind_step ns s ss n os h))

  step_sound : (ns : List Spot) (s : Step) (n : ℕ) (os : List ℕ) → Nested ns n os → Lies ns n (step_spots s n os) → AllSound ns n (step_spots s n os)
  step_sound ns (step x body next) n os nest h =
      let p = part_is ns n (BodyAt x body next) os _ h in
      let o = owners_are ns n (BodyAt x body next) os _ h in
      (record { describes = describes_body ns x body next n os p o (others ns n _ _ h); nested = nest }, body_sound ns body x next n os nest p o (others ns n _ _ h))

  -- what a body holds
  body_sound : (ns : List Spot) (body : Body) (x : Text) (next : Option Text) (n : ℕ) (os : List ℕ) → Nested ns n os → part_at ns n ≡ BodyAt x body next → owners_at ns n ≡ os → Lies ns (suc n) (body_spots body n os)
      → AllSound ns (suc n) (body_spots body n os)
  body_sound ns Body.Nothing x next n os nest p o h = tt
  body_sound ns (Body.Assign es) x next n os nest p o h = entries_sound ns es (suc n) os (later ns os n (suc n) (omega arith) nest) h
  body_sound ns (Body.Call f) x next n os nest p o h = tt
  body_sound ns (Body.Switch arms) x next n os nest p o h = arms_sound ns arms (suc n) os (later ns os n (suc n) (omega arith) nest) h
  body_sound ns (Body.For l) x next n os nest p o h = loop_sound ns l n (ap (λ q. outside_of q (owners_at ns n)) p) h
  body_sound ns (Body.Parallel q) x next n os nest p o h = parallel_sound ns q n os (later ns os n (suc n) (omega arith) nest) (ap (λ r. outside_of r (owners_at ns n)) p) h
  body_sound ns (Body.Block ss) x next n os nest p o h = steps_sound ns ss (suc n) (n ∷ os) (omega arith, λ i. outside_of (p i) (o i)) h
  body_sound ns (Body.Try t) x next n os nest p o h = try_sound ns t n os (later ns os n (suc n) (omega arith) nest) (λ i. outside_of (p i) (o i)) h
  body_sound ns (Body.Raise t) x next n os nest p o h = tt
  body_sound ns (Body.Return t) x next n os nest p o h = tt

  arms_sound : (ns : List Spot) (arms : Arms) (n : ℕ) (os : List ℕ) → Nested ns n os → Lies ns n (arms_spots arms n os) → AllSound ns n (arms_spots arms n os)
  arms_sound ns no_arms n os nest h = tt
  arms_sound ns (arm t body next rest) n os nest h =
      let k = arm_body ns t body next rest n os h in
      let nest_body = later ns os n (suc n) (omega arith) nest in
      let p = part_is ns (suc n) (BodyAt [] body next) os _ k in
      let o = owners_are ns (suc n) (BodyAt [] body next) os _ k in
      let m = n + suc (suc (body_size body)) in (
        record { describes = describes_arm ns t n os _ h; nested = nest },
        (
          record { describes = describes_body ns [] body next (suc n) os p o (others ns (suc n) _ _ k); nested = nest_body },
          all_append ns (body_spots body (suc n) os) (arms_spots rest m os) (suc (suc n)) m (ap (λ z. suc (suc n) + z) (body_long body (suc n) os) ∙ sym (two_taken n (body_size body)))
              (body_sound ns body [] next (suc n) os nest_body p o (others ns (suc n) _ _ k))
              (arms_sound ns rest m os (later ns os n m (omega arith) nest) (behind_arm ns t body next rest n os h)),
        ),
      )

  -- its list begins behind it
  loop_sound : (ns : List Spot) (l : LoopBody) (n : ℕ) → outside_of (part_at ns n) (owners_at ns n) ≡ [] → Lies ns (suc n) (loop_spots l n) → AllSound ns (suc n) (loop_spots l n)
  loop_sound ns (loop v i e ss) n out h = steps_sound ns ss (suc n) (n ∷ []) (omega arith, out) h

  parallel_sound : (ns : List Spot) (q : ParallelBody) (n : ℕ) (os : List ℕ) → Nested ns (suc n) os → outside_of (part_at ns n) (owners_at ns n) ≡ [] → Lies ns (suc n) (parallel_spots q n os)
      → AllSound ns (suc n) (parallel_spots q n os)
  parallel_sound ns (parallel shared limit w) n os nest out h = work_sound ns w n os nest out h

  work_sound : (ns : List Spot) (w : Work) (n : ℕ) (os : List ℕ) → Nested ns (suc n) os → outside_of (part_at ns n) (owners_at ns n) ≡ [] → Lies ns (suc n) (work_spots w n os) → AllSound ns (suc n) (work_spots w n os)
  work_sound ns (OfBranches bs) n os nest out h = branches_sound ns bs (suc n) os nest h
  work_sound ns (OfLoop l) n os nest out h = loop_sound ns l n out h

  branches_sound : (ns : List Spot) (bs : Branches) (n : ℕ) (os : List ℕ) → Nested ns n os → Lies ns n (branches_spots bs n os) → AllSound ns n (branches_spots bs n os)
  branches_sound ns no_branches n os nest h = tt
  branches_sound ns (branch x ss bs) n os nest h =
      let k = branch_steps ns x ss bs n os h in
      let m = n + suc (steps_size ss) in (
        record { describes = describes_branch ns x ss n os _ h k; nested = nest },
        all_append ns (steps_spots ss (suc n) (n ∷ [])) (branches_spots bs m os) (suc n) m (ap (λ z. suc n + z) (steps_long ss (suc n) (n ∷ [])) ∙ sym (suc_taken n (steps_size ss)))
            (steps_sound ns ss (suc n) (n ∷ []) (omega arith, ap (λ q. outside_of q (owners_at ns n)) (part_is ns n (BranchAt x ss) os _ h)) k)
            (branches_sound ns bs m os (later ns os n m (omega arith) nest) (behind_branch ns x ss bs n os h)),
      )

  try_sound : (ns : List Spot) (t : TryBody) (n : ℕ) (os : List ℕ) → Nested ns (suc n) os → outside_of (part_at ns n) (owners_at ns n) ≡ os → Lies ns (suc n) (try_spots t n os) → AllSound ns (suc n) (try_spots t n os)
  try_sound ns (try body policy y) n os nest out h =
      let m = n + suc (suc (body_size body)) in
      let k = left ns (suc n) (spot (BodyAt [] body None) os ∷ body_spots body (suc n) os) (except_spots y m (n ∷ os)) h in
      let p = part_is ns (suc n) (BodyAt [] body None) os _ k in
      let o = owners_are ns (suc n) (BodyAt [] body None) os _ k in (
        record { describes = describes_body ns [] body None (suc n) os p o (others ns (suc n) _ _ k); nested = nest },
        all_append ns (body_spots body (suc n) os) (except_spots y m (n ∷ os)) (suc (suc n)) m (ap (λ z. suc (suc n) + z) (body_long body (suc n) os) ∙ sym (two_taken n (body_size body)))
            (body_sound ns body [] None (suc n) os nest p o (others ns (suc n) _ _ k))
            (except_sound ns y m (n ∷ os) (omega arith, out) (handler_lies ns body policy y n os h)),
      )

  except_sound : (ns : List Spot) (y : Except) (n : ℕ) (os : List ℕ) → Nested ns n os → Lies ns n (except_spots y n os) → AllSound ns n (except_spots y n os)
  except_sound ns no_except n os nest h = tt
  except_sound ns (except x ss) n os nest h = steps_sound ns ss n os nest h

flows_sound : (ns : List Spot) (fs : List Flow) (n : ℕ) → Lies ns n (flows_spots fs n) → AllSound ns n (flows_spots fs n)
flows_sound ns [] n h = tt
flows_sound ns (f ∷ fs) n h =
    let m = n + suc (steps_size f.steps) in
    let own = left ns n (flow_spots f n) (flows_spots fs m) h in
    let k = others ns n _ _ own in
    all_append ns (flow_spots f n) (flows_spots fs m) n m (ap (λ z. n + suc z) (steps_long f.steps (suc n) (n ∷ []))) (
      record { describes = describes_flow ns f n _ own k; nested = tt },
      steps_sound ns f.steps (suc n) (n ∷ []) (omega arith, ap (λ q. outside_of q (owners_at ns n)) (part_is ns n (FlowAt f) [] _ own)) k,
    )
    (flows_sound ns fs m (behind ns (flow_spots f n) (flows_spots fs m) n m (ap (λ z. n + suc z) (sym (steps_long f.steps (suc n) (n ∷ [])))) h))

at : (ns : List Spot) (xs : List Spot) (n i : ℕ) (s : Spot) → AllSound ns n xs → slice_get xs i ≡ Some s → Sound ns (n + i) s
at ns [] n i s h is = absurd (cc)
at ns (x ∷ xs) n zero s h is = let e : x ≡ s = cc in subst (λ (m : ℕ). Sound ns m s) (sym (add-zero n)) (subst (λ (y : Spot). Sound ns n y) e h.0)
at ns (x ∷ xs) n (suc i) s h is = subst (λ (m : ℕ). Sound ns m s) (sym (suc_taken n i)) (at ns xs (suc n) i s h.1 is)

-- each part of a program
pub sound : (fs : List Flow) (i : ℕ) (s : Spot) → slice_get (spots fs) i ≡ Some s → Sound (spots fs) i s
sound fs i s is =
    let ns = spots fs in
    let all : Lies ns 0 ns = record { after = []; from = sym (append-nil ns) } in
    subst (λ (m : ℕ). Sound ns m s) (none i) (at ns ns 0 i s (flows_sound ns fs 0 all) is)
  where
    none : (j : ℕ) → 0 + j ≡ j
    none j = omega arith
