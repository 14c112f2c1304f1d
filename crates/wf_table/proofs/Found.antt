-- Parts of a list are found at their numbers.
use Rattle.std.proofs.Common.{◌≡◌, ℕ, suc, ◌+◌, ◌<◌, List, [], ◌∷◌, length, Option, refl, sym, ap, arith}
use Rattle.wf_ast.specs.Tree.{Template, Entry, Step, step, Steps, no_steps, more, Body, Arms, no_arms, arm, Branches, no_branches, branch}
use Rattle.wf_value.specs.Pairs.{Text}
use Rattle.wf_table.proofs.Lying.{Lies, behind, left, others, owners_are, part_is, within}
use Rattle.wf_table.proofs.Sizes.{body_long, step_long, steps_long}
use Rattle.wf_table.specs.Made.{arm_numbers, branch_numbers, entry_numbers, step_numbers}
use Rattle.wf_model.specs.Spots.{ArmAt, BodyAt, BranchAt, EntryAt, Spot, arms_by, arms_spots, body_size, body_spots, branches_by, branches_spots, entries_by, entries_spots, part_body, part_branch, part_condition, part_entry, part_next, part_step, spot, step_size, step_spots, steps_by, steps_size, steps_spots}
use Rattle.wf_model.specs.Table.{AreAbove, AreBelow, AreRising, ArmsStandIn, StandIn}

-- ## Steps
-- the steps behind the first
pub behind_step : (ns : List Spot) (s : Step) (ss : Steps) (n : ℕ) (os : List ℕ) → Lies ns n (steps_spots (more s ss) n os) → Lies ns (n + step_size s) (steps_spots ss (n + step_size s) os)
behind_step ns s ss n os h = behind ns (step_spots s n os) (steps_spots ss (n + step_size s) os) n (n + step_size s) (ap (λ m. n + m) (sym (step_long s n os))) h

pub steps_found : (ns : List Spot) (ss : Steps) (n : ℕ) (os : List ℕ) → Lies ns n (steps_spots ss n os) → steps_by ns (step_numbers ss n) ≡ ss
steps_found ns no_steps n os h = refl
steps_found ns (more (step x body next) ss) n os h =
    let s = step x body next in
    (λ i. more (part_step (part_is ns n (BodyAt x body next) os _ h i)) (steps_found ns ss (n + step_size s) os (behind_step ns s ss n os h) i))

pub steps_below : (ns : List Spot) (ss : Steps) (n : ℕ) (os : List ℕ) → Lies ns n (steps_spots ss n os) → AreBelow (length ns) (step_numbers ss n)
steps_below ns no_steps n os h = tt
steps_below ns (more (step x body next) ss) n os h = (within ns n _ _ h, steps_below ns ss (n + step_size (step x body next)) os (behind_step ns (step x body next) ss n os h))

pub steps_stand : (ns : List Spot) (ss : Steps) (n : ℕ) (os : List ℕ) → Lies ns n (steps_spots ss n os) → StandIn ns os (step_numbers ss n)
steps_stand ns no_steps n os h = tt
steps_stand ns (more (step x body next) ss) n os h = (owners_are ns n (BodyAt x body next) os _ h, steps_stand ns ss (n + step_size (step x body next)) os (behind_step ns (step x body next) ss n os h))

above : (ss : Steps) (low n : ℕ) → low < n → AreAbove low (step_numbers ss n)
above no_steps low n h = tt
above (more s ss) low n h = (h, above ss low (n + step_size s) (omega arith))

pub steps_rising : (ss : Steps) (n : ℕ) → AreRising (step_numbers ss n)
steps_rising no_steps n = tt
steps_rising (more (step x body next) ss) n = (above ss n (n + suc (body_size body)) (omega arith), steps_rising ss (n + suc (body_size body)))

-- ## Entries
pub entries_found : (ns : List Spot) (es : List Entry) (n : ℕ) (os : List ℕ) → Lies ns n (entries_spots es os) → entries_by ns (entry_numbers es n) ≡ es
entries_found ns [] n os h = refl
entries_found ns (e ∷ es) n os h = λ i. part_entry (part_is ns n (EntryAt e) os _ h i) ∷ entries_found ns es (suc n) os (others ns n _ _ h) i

pub entries_below : (ns : List Spot) (es : List Entry) (n : ℕ) (os : List ℕ) → Lies ns n (entries_spots es os) → AreBelow (length ns) (entry_numbers es n)
entries_below ns [] n os h = tt
entries_below ns (e ∷ es) n os h = (within ns n _ _ h, entries_below ns es (suc n) os (others ns n _ _ h))

-- ## Arms

-- the parts of the body of the first arm, and those behind it
pub arm_body : (ns : List Spot) (t : Template) (body : Body) (next : Option Text) (rest : Arms) (n : ℕ) (os : List ℕ) → Lies ns n (arms_spots (arm t body next rest) n os) → Lies ns (suc n) (spot (BodyAt [] body next) os ∷ body_spots body (suc n) os)
arm_body ns t body next rest n os h = left ns (suc n) (spot (BodyAt [] body next) os ∷ body_spots body (suc n) os) (arms_spots rest (n + suc (suc (body_size body))) os) (others ns n _ _ h)

pub behind_arm : (ns : List Spot) (t : Template) (body : Body) (next : Option Text) (rest : Arms) (n : ℕ) (os : List ℕ) → Lies ns n (arms_spots (arm t body next rest) n os)
    → Lies ns (n + suc (suc (body_size body))) (arms_spots rest (n + suc (suc (body_size body))) os)
behind_arm ns t body next rest n os h =
    behind ns (spot (ArmAt t) os ∷ spot (BodyAt [] body next) os ∷ body_spots body (suc n) os) (arms_spots rest (n + suc (suc (body_size body))) os) n (n + suc (suc (body_size body)))
    (ap (λ m. n + suc (suc m)) (sym (body_long body (suc n) os))) h

pub arms_found : (ns : List Spot) (arms : Arms) (n : ℕ) (os : List ℕ) → Lies ns n (arms_spots arms n os) → arms_by ns (arm_numbers arms n) ≡ arms
arms_found ns no_arms n os h = refl
arms_found ns (arm t body next rest) n os h =
    let second = part_is ns (suc n) (BodyAt [] body next) os _ (others ns n _ _ h) in
    λ i. arm (part_condition (part_is ns n (ArmAt t) os _ h i)) (part_body (second i)) (part_next (second i)) (arms_found ns rest (n + suc (suc (body_size body))) os (behind_arm ns t body next rest n os h) i)

pub arms_stand : (ns : List Spot) (arms : Arms) (n : ℕ) (os : List ℕ) → Lies ns n (arms_spots arms n os) → ArmsStandIn ns (length ns) os (arm_numbers arms n)
arms_stand ns no_arms n os h = tt
arms_stand ns (arm t body next rest) n os h = (
  owners_are ns (suc n) (BodyAt [] body next) os _ (others ns n _ _ h),
  within ns (suc n) _ _ (others ns n _ _ h),
  arms_stand ns rest (n + suc (suc (body_size body))) os (behind_arm ns t body next rest n os h),
)

-- ## Branches
pub branch_steps : (ns : List Spot) (x : Text) (ss : Steps) (bs : Branches) (n : ℕ) (os : List ℕ) → Lies ns n (branches_spots (branch x ss bs) n os) → Lies ns (suc n) (steps_spots ss (suc n) (n ∷ []))
branch_steps ns x ss bs n os h = left ns (suc n) (steps_spots ss (suc n) (n ∷ [])) (branches_spots bs (n + suc (steps_size ss)) os) (others ns n _ _ h)

pub behind_branch : (ns : List Spot) (x : Text) (ss : Steps) (bs : Branches) (n : ℕ) (os : List ℕ) → Lies ns n (branches_spots (branch x ss bs) n os) → Lies ns (n + suc (steps_size ss)) (branches_spots bs (n + suc (steps_size ss)) os)
behind_branch ns x ss bs n os h =
    behind ns (spot (BranchAt x ss) os ∷ steps_spots ss (suc n) (n ∷ [])) (branches_spots bs (n + suc (steps_size ss)) os) n (n + suc (steps_size ss)) (ap (λ m. n + suc m) (sym (steps_long ss (suc n) (n ∷ [])))) h

pub branches_found : (ns : List Spot) (bs : Branches) (n : ℕ) (os : List ℕ) → Lies ns n (branches_spots bs n os) → branches_by ns (branch_numbers bs n) ≡ bs
branches_found ns no_branches n os h = refl
branches_found ns (branch x ss bs) n os h =
    let own = part_is ns n (BranchAt x ss) os _ h in
    λ i. branch (part_branch (own i)).0 (part_branch (own i)).1 (branches_found ns bs (n + suc (steps_size ss)) os (behind_branch ns x ss bs n os h) i)

pub branches_below : (ns : List Spot) (bs : Branches) (n : ℕ) (os : List ℕ) → Lies ns n (branches_spots bs n os) → AreBelow (length ns) (branch_numbers bs n)
branches_below ns no_branches n os h = tt
branches_below ns (branch x ss bs) n os h = (within ns n _ _ h, branches_below ns bs (n + suc (steps_size ss)) os (behind_branch ns x ss bs n os h))
