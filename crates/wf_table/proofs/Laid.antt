-- How the nodes of each kind of list lie.
use Rattle.std.proofs.Common.{◌≡◌, ℕ, suc, ◌+◌, List, [], ◌∷◌, ◌++◌, map, refl, sym, ap, arith}
use Rattle.wf_ast.specs.Tree as t
use Rattle.wf_ast.specs.View.{arm_view, body_view, branch_view, entry_view, flow_view, step_view, template_view}
use Rattle.wf_ast.specs.declared.body.Arm.{Arm}
use Rattle.wf_ast.specs.declared.body.Branch.{Branch}
use Rattle.wf_ast.specs.declared.body.Step.{Step}
use Rattle.wf_ast.specs.declared.entry.Entry.{Entry}
use Rattle.wf_ast.specs.declared.program.Flow.{Flow}
use Rattle.wf_table.proofs.Going.{Lays}
use Rattle.wf_table.proofs.Sizes.{body_long, step_long, steps_long}
use Rattle.wf_table.specs.Made.{arm_numbers, branch_numbers, entry_numbers, flow_numbers, step_numbers}
use Rattle.wf_model.specs.Spots.{ArmAt, BodyAt, BranchAt, EntryAt, Spot, arms_spots, body_spots, branches_spots, entries_spots, flow_spots, flows_spots, spot, step_spots, steps_spots}

-- ## Steps
abbrev pub step_parts : List ℕ → List Step → ℕ → List Spot
step_parts os l n = steps_spots (t.steps (map step_view l)) n os

abbrev pub numbers_of_steps : List Step → ℕ → List ℕ
numbers_of_steps l n = step_numbers (t.steps (map step_view l)) n

abbrev pub step_own : List ℕ → Step → ℕ → List Spot
step_own os s n = step_spots (step_view s) n os

pub steps_lay : (os : List ℕ) → Lays (step_parts os) numbers_of_steps (step_own os)
steps_lay os = record {
  no_parts = λ n. refl;
  no_numbers = λ n. refl;
  more_parts = λ x xs n. ap (λ m. step_own os x n ++ step_parts os xs (n + m)) (sym (step_long (step_view x) n os));
  more_numbers = λ x xs n. ap (λ m. n ∷ numbers_of_steps xs (n + m)) (sym (step_long (step_view x) n os));
}

-- ## Arms
abbrev pub arm_parts : List ℕ → List Arm → ℕ → List Spot
arm_parts os l n = arms_spots (t.arms (map arm_view l)) n os

abbrev pub numbers_of_arms : List Arm → ℕ → List ℕ
numbers_of_arms l n = arm_numbers (t.arms (map arm_view l)) n

abbrev pub arm_own : List ℕ → Arm → ℕ → List Spot
arm_own os a n = spot (ArmAt (template_view a.condition)) os ∷ spot (BodyAt [] (body_view a.body) a.next) os ∷ body_spots (body_view a.body) (suc n) os

pub arms_lay : (os : List ℕ) → Lays (arm_parts os) numbers_of_arms (arm_own os)
arms_lay os = record {
  no_parts = λ n. refl;
  no_numbers = λ n. refl;
  more_parts = λ x xs n. ap (λ m. arm_own os x n ++ arm_parts os xs (n + suc (suc m))) (sym (body_long (body_view x.body) (suc n) os));
  more_numbers = λ x xs n. ap (λ m. n ∷ numbers_of_arms xs (n + suc (suc m))) (sym (body_long (body_view x.body) (suc n) os));
}

-- ## Branches
abbrev pub branch_parts : List ℕ → List Branch → ℕ → List Spot
branch_parts os l n = branches_spots (t.branches (map branch_view l)) n os

abbrev pub numbers_of_branches : List Branch → ℕ → List ℕ
numbers_of_branches l n = branch_numbers (t.branches (map branch_view l)) n

abbrev pub branch_own : List ℕ → Branch → ℕ → List Spot
branch_own os b n = spot (BranchAt (branch_view b).0 (branch_view b).1) os ∷ steps_spots (branch_view b).1 (suc n) (n ∷ [])

pub branches_lay : (os : List ℕ) → Lays (branch_parts os) numbers_of_branches (branch_own os)
branches_lay os = record {
  no_parts = λ n. refl;
  no_numbers = λ n. refl;
  more_parts = λ x xs n. ap (λ m. branch_own os x n ++ branch_parts os xs (n + suc m)) (sym (steps_long (branch_view x).1 (suc n) (n ∷ [])));
  more_numbers = λ x xs n. ap (λ m. n ∷ numbers_of_branches xs (n + suc m)) (sym (steps_long (branch_view x).1 (suc n) (n ∷ [])));
}

-- ## Entries
abbrev pub entry_parts : List ℕ → List Entry → ℕ → List Spot
entry_parts os l n = entries_spots (map entry_view l) os

abbrev pub numbers_of_entries : List Entry → ℕ → List ℕ
numbers_of_entries l n = entry_numbers (map entry_view l) n

abbrev pub entry_own : List ℕ → Entry → ℕ → List Spot
entry_own os e n = spot (EntryAt (entry_view e)) os ∷ []

next : (n : ℕ) → suc n ≡ n + 1
next n = omega arith

pub entries_lay : (os : List ℕ) → Lays (entry_parts os) numbers_of_entries (entry_own os)
entries_lay os = record {
  no_parts = λ n. refl;
  no_numbers = λ n. refl;
  more_parts = λ x xs n. refl;
  more_numbers = λ x xs n. ap (λ m. n ∷ numbers_of_entries xs m) (next n);
}

-- ## Workflows
abbrev pub flow_parts : List Flow → ℕ → List Spot
flow_parts l n = flows_spots (map flow_view l) n

abbrev pub numbers_of_flows : List Flow → ℕ → List ℕ
numbers_of_flows l n = flow_numbers (map flow_view l) n

abbrev pub flow_own : Flow → ℕ → List Spot
flow_own f n = flow_spots (flow_view f) n

pub flows_lay : Lays flow_parts numbers_of_flows flow_own
flows_lay = record {
  no_parts = λ n. refl;
  no_numbers = λ n. refl;
  more_parts = λ x xs n. ap (λ m. flow_own x n ++ flow_parts xs (n + suc m)) (sym (steps_long (flow_view x).steps (suc n) (n ∷ [])));
  more_numbers = λ x xs n. ap (λ m. n ∷ numbers_of_flows xs (n + suc m)) (sym (steps_long (flow_view x).steps (suc n) (n ∷ [])));
}
