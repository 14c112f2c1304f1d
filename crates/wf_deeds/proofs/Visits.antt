-- The visits that were heard, with one more piece.
use Rattle.std.specs.Prelude.{◌≡◌, ◌+◌, ◌||◌, ℕ, suc, Bool, true, false, nat_eq, is_some, if◌then◌else◌, List, [], ◌∷◌, Option, Some, None, option_map, option_and_then}
use Rattle.std.proofs.Common.{refl, sym, ◌∙◌, ap, arith}
use Rattle.std.proofs.lemmas.Bool.{eq-eqb, eqb-true, ne_eqb}
use Rattle.wf_deeds.specs.Deeds.{Told, nothing_told, Visit, tells_visit, undecided, find_visit, put_visit, decision_of, decision, with_piece}
use Rattle.wf_host.specs.World.{visit_of}
use Rattle.wf_deeds.specs.Memory.{forgotten, decision_by, visit_by}
use Rattle.wf_deeds.specs.Outside.{Outside}
use Rattle.wf_deeds.specs.Steps.{weight}
use Rattle.wf_host.specs.declared.data.What.{What}

-- ## Cases
pub bool_case : (P : Bool → Type 0) (b : Bool) → (b ≡ true → P true) → (b ≡ false → P false) → P b
bool_case P true if_true if_false = if_true refl
bool_case P false if_true if_false = if_false refl

not_equal : (a b : ℕ) → nat_eq a b ≡ false → a ≡ b → ⊥
not_equal a b is same = let f : true ≡ false = sym (eq-eqb a b same) ∙ is in cc f

-- ## A visit is put in its place
pub find_put : (x : Visit) (vs : List Visit) (j : ℕ) → find_visit j (put_visit x vs) ≡ (if nat_eq x.number j then Some x else find_visit j vs)
find_put x [] j = refl
find_put x (v ∷ vs) j =
    bool_case (λ b. find_visit j (if b then x ∷ vs else v ∷ put_visit x vs) ≡ (if nat_eq x.number j then Some x else (if nat_eq v.number j then Some v else find_visit j vs))) (nat_eq v.number x.number)
    (λ same. bool_case (λ b. (if b then Some x else find_visit j vs) ≡ (if b then Some x else (if nat_eq v.number j then Some v else find_visit j vs))) (nat_eq x.number j)
    (λ _. refl)
    (λ other. ap (λ b. if b then Some v else find_visit j vs) (sym (ne_eqb v.number j (λ is. not_equal x.number j other (sym (eqb-true v.number x.number same) ∙ is))))))
    (λ apart. bool_case (λ b. (if b then Some v else find_visit j (put_visit x vs)) ≡ (if nat_eq x.number j then Some x else (if b then Some v else find_visit j vs))) (nat_eq v.number j)
    (λ this. ap (λ b. if b then Some x else Some v) (sym (ne_eqb x.number j (λ is. not_equal v.number x.number apart (eqb-true v.number j this ∙ sym is)))))
    (λ _. find_put x vs j))

light : (v : Visit) (vs : List Visit) → undecided (v ∷ vs) ≡ weight (Some v) + undecided vs
light v vs = bool_case (λ b. (if b then undecided vs else suc (undecided vs)) ≡ (if b then 0 else 1) + undecided vs) v.decided (λ _. omega arith) (λ _. omega arith)

pub undecided_put : (x : Visit) (vs : List Visit) → undecided (put_visit x vs) + weight (find_visit x.number vs) ≡ undecided vs + weight (Some x)
undecided_put x [] = omega (arith, light x [])
undecided_put x (v ∷ vs) =
    bool_case (λ b. undecided (if b then x ∷ vs else v ∷ put_visit x vs) + weight (if b then Some v else find_visit x.number vs) ≡ undecided (v ∷ vs) + weight (Some x)) (nat_eq v.number x.number)
    (λ _. omega (arith, light x vs, light v vs))
    (λ _. omega (arith, light v vs, light v (put_visit x vs), undecided_put x vs))

-- ## By what is kept of visits
abbrev visit : ℕ → Told → Bool → Visit
visit n t d = record { number = n; told = t; decided = d }

weight_kept : (n : ℕ) (t : Told) (d : Bool) → weight (Some (forgotten (visit n t d))) ≡ weight (Some (visit n t d))
weight_kept n t true = refl
weight_kept n t false = refl

pub weight_of : (f : Option Visit) → weight (option_map forgotten f) ≡ weight f
weight_of None = refl
weight_of (Some v) = weight_kept v.number v.told v.decided

module _ (O : Outside) where
  decides_kept : (vs : List Visit) (n : ℕ) (w : What) (k : ℕ) (t : Told) (d : Bool) → decision_of O vs n w (Some (visit k t d)) ≡ decision_by O (undecided vs) n w (Some (forgotten (visit k t d)))
  decides_kept vs n w k t true = refl
  decides_kept vs n w k t false = refl

  decides_by : (vs : List Visit) (n : ℕ) (w : What) (f : Option Visit) → decision_of O vs n w f ≡ decision_by O (undecided vs) n w (option_map forgotten f)
  decides_by vs n w None = refl
  decides_by vs n w (Some v) = decides_kept vs n w v.number v.told v.decided

  -- what is decided
  pub decision_is : (vs : List Visit) (w : What) (crowd : ℕ) (seen : ℕ → Option Visit) → crowd ≡ undecided vs → ((n : ℕ) → seen n ≡ option_map forgotten (find_visit n vs))
      → decision O vs w ≡ option_and_then (λ n. decision_by O crowd n w (seen n)) (visit_of w)
  decision_is vs w crowd seen count are = of (visit_of w)
    where
      of : (o : Option ℕ) → option_and_then (λ n. decision_of O vs n w (find_visit n vs)) o ≡ option_and_then (λ n. decision_by O crowd n w (seen n)) o
      of None = refl
      of (Some n) = decides_by vs n w (find_visit n vs) ∙ ap (λ c. decision_by O c n w (option_map forgotten (find_visit n vs))) (sym count) ∙ ap (λ f. decision_by O crowd n w f) (sym (are n))

-- the visit with its piece
abbrev pub piece : What → ℕ → Option Visit → Bool → Visit
piece w n None b = visit n (tells_visit w nothing_told) b
piece w n (Some v) b = visit n (tells_visit w v.told) (v.decided || b)

piece_kept : (w : What) (n k : ℕ) (t : Told) (d b : Bool) → forgotten (piece w n (Some (visit k t d)) b) ≡ visit_by w n (Some (forgotten (visit k t d))) b
piece_kept w n k t true b = refl
piece_kept w n k t false b = refl

pub piece_by : (w : What) (n : ℕ) (f : Option Visit) (b : Bool) → forgotten (piece w n f b) ≡ visit_by w n (option_map forgotten f) b
piece_by w n None b = refl
piece_by w n (Some v) b = piece_kept w n v.number v.told v.decided b

pub heard_is : (O : Outside) (vs : List Visit) (w : What) (n : ℕ) (f : Option Visit) → with_piece O vs w n f ≡ put_visit (piece w n f (is_some (decision O vs w))) vs
heard_is O vs w n None = refl
heard_is O vs w n (Some v) = refl

pub piece_number : (w : What) (n : ℕ) (f : Option Visit) (b : Bool) → (piece w n f b).number ≡ n
piece_number w n None b = refl
piece_number w n (Some v) b = refl
