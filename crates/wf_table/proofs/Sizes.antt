-- How many parts there are.
use Rattle.std.proofs.Common.{◌≡◌, ℕ, suc, ◌+◌, List, [], ◌∷◌, ◌++◌, length, refl, ap, ◌∙◌, arith, length-append}
use Rattle.wf_ast.specs.Tree.{Entry, Step, step, Steps, no_steps, more, Body, Arms, no_arms, arm, LoopBody, loop, ParallelBody, parallel, Work, OfBranches, OfLoop, Branches, no_branches, branch, TryBody, try, Except, no_except, except}
use Rattle.wf_model.specs.Spots.{Spot, arms_size, arms_spots, body_size, body_spots, branches_size, branches_spots, entries_size, entries_spots, except_size, except_spots, loop_size, loop_spots, parallel_size, parallel_spots, step_size, step_spots, steps_size, steps_spots, try_size, try_spots, work_size, work_spots}

pub entries_long : (es : List Entry) (os : List ℕ) → length (entries_spots es os) ≡ entries_size es
entries_long [] os = refl
entries_long (e ∷ es) os = ap suc (entries_long es os)

joined : (xs ys : List Spot) (m n : ℕ) → length xs ≡ m → length ys ≡ n → length (xs ++ ys) ≡ m + n
joined xs ys m n h k = length-append xs ys ∙ ap (λ a. a + length ys) h ∙ ap (λ b. m + b) k

-- one or two in front
after_one : (xs ys : List Spot) (m n : ℕ) → length xs ≡ m → length ys ≡ n → suc (length (xs ++ ys)) ≡ suc m + n
after_one xs ys m n h k = ap suc (joined xs ys m n h k) ∙ (let e : suc (m + n) ≡ suc m + n = omega arith in e)

after_two : (xs ys : List Spot) (m n : ℕ) → length xs ≡ m → length ys ≡ n → suc (suc (length (xs ++ ys))) ≡ suc (suc m) + n
after_two xs ys m n h k = ap (λ a. suc (suc a)) (joined xs ys m n h k) ∙ (let e : suc (suc (m + n)) ≡ suc (suc m) + n = omega arith in e)

mutual
  pub steps_long : (ss : Steps) (n : ℕ) (os : List ℕ) → length (steps_spots ss n os) ≡ steps_size ss
  steps_long no_steps n os = refl
  steps_long (more s ss) n os = joined (step_spots s n os) (steps_spots ss (n + step_size s) os) (step_size s) (steps_size ss) (step_long s n os) (steps_long ss (n + step_size s) os)

  pub step_long : (s : Step) (n : ℕ) (os : List ℕ) → length (step_spots s n os) ≡ step_size s
  step_long (step x body next) n os = ap suc (body_long body n os)

  pub body_long : (body : Body) (n : ℕ) (os : List ℕ) → length (body_spots body n os) ≡ body_size body
  body_long Body.Nothing n os = refl
  body_long (Body.Assign es) n os = entries_long es os
  body_long (Body.Call f) n os = refl
  body_long (Body.Switch arms) n os = arms_long arms (suc n) os
  body_long (Body.For l) n os = loop_long l n
  body_long (Body.Parallel p) n os = parallel_long p n os
  body_long (Body.Block ss) n os = steps_long ss (suc n) (n ∷ os)
  body_long (Body.Try t) n os = try_long t n os
  body_long (Body.Raise t) n os = refl
  body_long (Body.Return t) n os = refl

  pub arms_long : (arms : Arms) (n : ℕ) (os : List ℕ) → length (arms_spots arms n os) ≡ arms_size arms
  arms_long no_arms n os = refl
  arms_long (arm t body next rest) n os =
      after_two (body_spots body (suc n) os) (arms_spots rest (n + suc (suc (body_size body))) os) (body_size body) (arms_size rest) (body_long body (suc n) os) (arms_long rest (n + suc (suc (body_size body))) os)

  pub loop_long : (l : LoopBody) (n : ℕ) → length (loop_spots l n) ≡ loop_size l
  loop_long (loop x i o ss) n = steps_long ss (suc n) (n ∷ [])

  pub parallel_long : (p : ParallelBody) (n : ℕ) (os : List ℕ) → length (parallel_spots p n os) ≡ parallel_size p
  parallel_long (parallel shared limit w) n os = work_long w n os

  pub work_long : (w : Work) (n : ℕ) (os : List ℕ) → length (work_spots w n os) ≡ work_size w
  work_long (OfBranches bs) n os = branches_long bs (suc n) os
  work_long (OfLoop l) n os = loop_long l n

  pub branches_long : (bs : Branches) (n : ℕ) (os : List ℕ) → length (branches_spots bs n os) ≡ branches_size bs
  branches_long no_branches n os = refl
  branches_long (branch x ss bs) n os =
      after_one (steps_spots ss (suc n) (n ∷ [])) (branches_spots bs (n + suc (steps_size ss)) os) (steps_size ss) (branches_size bs) (steps_long ss (suc n) (n ∷ [])) (branches_long bs (n + suc (steps_size ss)) os)

  pub try_long : (t : TryBody) (n : ℕ) (os : List ℕ) → length (try_spots t n os) ≡ try_size t
  try_long (try body policy x) n os =
      after_one (body_spots body (suc n) os) (except_spots x (n + suc (suc (body_size body))) (n ∷ os)) (body_size body) (except_size x) (body_long body (suc n) os) (except_long x (n + suc (suc (body_size body))) (n ∷ os))

  pub except_long : (x : Except) (n : ℕ) (os : List ℕ) → length (except_spots x n os) ≡ except_size x
  except_long no_except n os = refl
  except_long (except x ss) n os = steps_long ss n os
