-- The code of an expression does what the expression means.
use Rattle.std.proofs.Common.{◌≡◌, ℕ, suc, Bool, true, false, not, List, [], ◌∷◌, ◌++◌, length, Ok, Err, refl, sym, ap, ◌∙◌, append_assoc, append-nil, zero-add, arith, ◌+◌}
use Rattle.wf_ast.specs.Tree.{Expr, Exprs, no_exprs, expr}
use Rattle.wf_ast.specs.Apply.{View, apply}
use Rattle.wf_ast.specs.Eval.{truth, whole, operate, at_key, at_index, eval, eval_all}
use Rattle.wf_ast.specs.Machine.{Instr, negate, invert, combine, member, index, call, and_skip, or_skip, check, many, code, all_code, Stack, with_args, exec}
use Rattle.wf_value.specs.Data.{Data, boolean}
use Rattle.wf_value.specs.Errors.{Answer, ◌>>=◌, kept}
use Rattle.wf_value.specs.Numbers.{whole_negative, as_answer}

module _ {A B C : Type 0} where
  in_turn : (m : Answer A) (f : A → Answer B) (g : B → Answer C) → (m >>= λ x. f x >>= g) ≡ (m >>= f >>= g)
  in_turn (Ok a) f g = refl
  in_turn (Err t) f g = refl

  -- what goes on behind each value goes on behind the whole
  one : (m : Answer A) (f : A → Answer B) (k : A → Answer C) (g : B → Answer C) → ((a : A) → k a ≡ (f a >>= g)) → (m >>= k) ≡ (m >>= f >>= g)
  one (Ok a) f k g h = h a
  one (Err t) f k g h = refl

  one_ok : (m : Answer A) (f : A → Answer B) (k : A → Answer C) (g : B → Answer C) → ((a : A) → m ≡ Ok a → k a ≡ (f a >>= g)) → (m >>= k) ≡ (m >>= f >>= g)
  one_ok (Ok a) f k g h = h a refl
  one_ok (Err t) f k g h = refl

skip_all : (s : View) (xs is : List Instr) (st : Stack) → exec s (xs ++ is) (length xs) st ≡ exec s is 0 st
skip_all s [] is st = refl
skip_all s (x ∷ xs) is st = skip_all s xs is st

-- ## Arguments
unfoldable push_all : List Data → Stack → Stack
push_all [] st = st
push_all (v ∷ vs) st = push_all vs (v ∷ st)

args_back : (vs : List Data) (m : ℕ) (st : Stack) (acc : List Data) (k : List Data → Stack → Answer Stack) → with_args (length vs + m) (push_all vs st) acc k ≡ with_args m st (vs ++ acc) k
unfolding push_all
args_back [] m st acc k = ap (λ n. with_args n st acc k) (zero-add m)
args_back (v ∷ vs) m st acc k =
    let e : length (v ∷ vs) + m ≡ length vs + suc m = omega arith in
    ap (λ n. with_args n (push_all vs (v ∷ st)) acc k) e ∙ args_back vs (suc m) (v ∷ st) acc k

args_are : (n : ℕ) (vs : List Data) (st : Stack) (k : List Data → Stack → Answer Stack) → length vs ≡ n → with_args n (push_all vs st) [] k ≡ k vs st
args_are n vs st k h =
    let e : n ≡ length vs + 0 = omega (arith, h) in
    ap (λ m. with_args m (push_all vs st) [] k) e ∙ args_back vs 0 st [] k ∙ ap (λ l. k l st) (append-nil vs)

unfoldable values_in : Answer (List Data) → List Data
values_in (Ok vs) = vs
values_in (Err t) = []

longer : (m : Answer Data) (n : Answer (List Data)) (vs : List Data) (k : ℕ) → ((us : List Data) → n ≡ Ok us → length us ≡ k) → (m >>= λ v. n >>= λ us. Ok (v ∷ us)) ≡ Ok vs → length vs ≡ suc k
unfolding values_in
longer (Ok v) (Ok us) vs k ih h = let e : v ∷ us ≡ vs = ap values_in h in sym (ap length e) ∙ ap suc (ih us refl)
longer (Ok v) (Err t) vs k ih h = let p : ⊥ = cc in absurd p
longer (Err t) n vs k ih h = let p : ⊥ = cc in absurd p

none_long : (s : View) (vs : List Data) → eval_all no_exprs s ≡ Ok vs → length vs ≡ 0
unfolding values_in
none_long s vs h = let e : [] ≡ vs = ap values_in h in sym (ap length e)

counted : (es : Exprs) (s : View) (vs : List Data) → eval_all es s ≡ Ok vs → length vs ≡ many es
counted no_exprs s vs h = none_long s vs h
counted (expr e es) s vs h = longer (eval e s) (eval_all es s) vs (many es) (counted es s) h

-- ## Layouts
one_last : (a : List Instr) (i : Instr) (is : List Instr) → (a ++ i ∷ []) ++ is ≡ a ++ i ∷ is
one_last a i is = append_assoc a (i ∷ []) is

two_last : (a b : List Instr) (i : Instr) (is : List Instr) → (a ++ (b ++ i ∷ [])) ++ is ≡ a ++ (b ++ i ∷ is)
two_last a b i is = append_assoc a (b ++ i ∷ []) is ∙ ap (λ l. a ++ l) (append_assoc b (i ∷ []) is)

module _ (s : View) where
  -- the right side of an `and` or an `or`, which ends with a check
  checked : (b : Answer Data) (cb is : List Instr) (st : Stack) → exec s (cb ++ check ∷ is) 0 st ≡ (b >>= λ v. exec s (check ∷ is) 0 (v ∷ st)) → exec s ((cb ++ check ∷ []) ++ is) 0 st ≡ ((b >>= λ w. truth w >>= λ c. Ok (boolean c)) >>= λ v. exec s is 0 (v ∷ st))
  checked b cb is st h =
      ap (λ l. exec s l 0 st) (one_last cb check is) ∙ h
      ∙ one b (λ w. truth w >>= λ c. Ok (boolean c)) (λ v. exec s (check ∷ is) 0 (v ∷ st)) (λ v. exec s is 0 (v ∷ st)) (λ w. one (truth w) (λ c. Ok (boolean c)) (λ c. exec s is 0 (boolean c ∷ st)) (λ v. exec s is 0 (v ∷ st)) (λ c. refl))

  and_side : (b : Answer Data) (cb is : List Instr) (st : Stack) (c : Bool) → exec s (cb ++ check ∷ is) 0 st ≡ (b >>= λ v. exec s (check ∷ is) 0 (v ∷ st)) → elim c [ false ↦ exec s ((cb ++ check ∷ []) ++ is) (length (cb ++ check ∷ [])) (boolean false ∷ st) | true ↦ exec s ((cb ++ check ∷ []) ++ is) 0 st ] ≡ (elim c [ false ↦ Ok (boolean false) | true ↦ b >>= λ w. truth w >>= λ c. Ok (boolean c) ] >>= λ v. exec s is 0 (v ∷ st))
  and_side b cb is st false h = skip_all s (cb ++ check ∷ []) is (boolean false ∷ st)
  and_side b cb is st true h = checked b cb is st h

  or_side : (b : Answer Data) (cb is : List Instr) (st : Stack) (c : Bool) → exec s (cb ++ check ∷ is) 0 st ≡ (b >>= λ v. exec s (check ∷ is) 0 (v ∷ st)) → elim c [ true ↦ exec s ((cb ++ check ∷ []) ++ is) (length (cb ++ check ∷ [])) (boolean true ∷ st) | false ↦ exec s ((cb ++ check ∷ []) ++ is) 0 st ] ≡ (elim c [ true ↦ Ok (boolean true) | false ↦ b >>= λ w. truth w >>= λ c. Ok (boolean c) ] >>= λ v. exec s is 0 (v ∷ st))
  or_side b cb is st true h = skip_all s (cb ++ check ∷ []) is (boolean true ∷ st)
  or_side b cb is st false h = checked b cb is st h

  no_args : (is : List Instr) (st : Stack) → exec s is 0 st ≡ exec s is 0 (push_all [] st)
  unfolding push_all
  no_args is st = refl

  more_args : (is : List Instr) (st : Stack) (v : Data) (vs : List Data) → exec s is 0 (push_all vs (v ∷ st)) ≡ exec s is 0 (push_all (v ∷ vs) st)
  unfolding push_all
  more_args is st v vs = refl

  mutual
    runs : (e : Expr) (is : List Instr) (st : Stack) → exec s (code e ++ is) 0 st ≡ (eval e s >>= λ v. exec s is 0 (v ∷ st))
    runs (Expr.Lit v) is st = refl
    runs (Expr.Name x) is st = refl
    runs (Expr.Neg a) is st =
        ap (λ l. exec s l 0 st) (one_last (code a) negate is) ∙ runs a (negate ∷ is) st
        ∙ one (eval a s) (λ v. whole v >>= λ n. as_answer (whole_negative n)) (λ v. exec s (negate ∷ is) 0 (v ∷ st)) (λ v. exec s is 0 (v ∷ st)) (λ v. in_turn (whole v) (λ n. as_answer (whole_negative n)) (λ w. exec s is 0 (w ∷ st)))
    runs (Expr.Not a) is st =
        ap (λ l. exec s l 0 st) (one_last (code a) invert is) ∙ runs a (invert ∷ is) st
        ∙ one (eval a s) (λ v. truth v >>= λ b. Ok (boolean (not b))) (λ v. exec s (invert ∷ is) 0 (v ∷ st)) (λ v. exec s is 0 (v ∷ st)) (λ v. one (truth v) (λ b. Ok (boolean (not b))) (λ b. exec s is 0 (boolean (not b) ∷ st)) (λ w. exec s is 0 (w ∷ st)) (λ b. refl))
    runs (Expr.And a b) is st =
        ap (λ l. exec s l 0 st) (append_assoc (code a) (and_skip (length (code b ++ check ∷ [])) ∷ (code b ++ check ∷ [])) is)
        ∙ runs a (and_skip (length (code b ++ check ∷ [])) ∷ ((code b ++ check ∷ []) ++ is)) st
        ∙ one (eval a s) (λ v. truth v >>= elim [ false ↦ Ok (boolean false) | true ↦ eval b s >>= λ w. truth w >>= λ c. Ok (boolean c) ]) (λ v. exec s (and_skip (length (code b ++ check ∷ [])) ∷ ((code b ++ check ∷ []) ++ is)) 0 (v ∷ st)) (λ v. exec s is 0 (v ∷ st))
        (λ v. one (truth v) (elim [ false ↦ Ok (boolean false) | true ↦ eval b s >>= λ w. truth w >>= λ c. Ok (boolean c) ]) (elim [ false ↦ exec s ((code b ++ check ∷ []) ++ is) (length (code b ++ check ∷ [])) (boolean false ∷ st) | true ↦ exec s ((code b ++ check ∷ []) ++ is) 0 st ]) (λ w. exec s is 0 (w ∷ st)) (λ c. and_side (eval b s) (code b) is st c (runs b (check ∷ is) st)))
    runs (Expr.Or a b) is st =
        ap (λ l. exec s l 0 st) (append_assoc (code a) (or_skip (length (code b ++ check ∷ [])) ∷ (code b ++ check ∷ [])) is)
        ∙ runs a (or_skip (length (code b ++ check ∷ [])) ∷ ((code b ++ check ∷ []) ++ is)) st
        ∙ one (eval a s) (λ v. truth v >>= elim [ true ↦ Ok (boolean true) | false ↦ eval b s >>= λ w. truth w >>= λ c. Ok (boolean c) ]) (λ v. exec s (or_skip (length (code b ++ check ∷ [])) ∷ ((code b ++ check ∷ []) ++ is)) 0 (v ∷ st)) (λ v. exec s is 0 (v ∷ st))
        (λ v. one (truth v) (elim [ true ↦ Ok (boolean true) | false ↦ eval b s >>= λ w. truth w >>= λ c. Ok (boolean c) ]) (elim [ true ↦ exec s ((code b ++ check ∷ []) ++ is) (length (code b ++ check ∷ [])) (boolean true ∷ st) | false ↦ exec s ((code b ++ check ∷ []) ++ is) 0 st ]) (λ w. exec s is 0 (w ∷ st)) (λ c. or_side (eval b s) (code b) is st c (runs b (check ∷ is) st)))
    runs (Expr.Bin o a b) is st =
        ap (λ l. exec s l 0 st) (two_last (code a) (code b) (combine o) is) ∙ runs a (code b ++ combine o ∷ is) st
        ∙ one (eval a s) (λ v. eval b s >>= λ w. operate o v w >>= kept) (λ v. exec s (code b ++ combine o ∷ is) 0 (v ∷ st)) (λ v. exec s is 0 (v ∷ st))
        (λ v. runs b (combine o ∷ is) (v ∷ st) ∙ in_turn (eval b s) (λ w. operate o v w >>= kept) (λ x. exec s is 0 (x ∷ st)))
    runs (Expr.Key a k) is st =
        ap (λ l. exec s l 0 st) (one_last (code a) (member k) is) ∙ runs a (member k ∷ is) st
        ∙ in_turn (eval a s) (λ v. at_key v k >>= kept) (λ v. exec s is 0 (v ∷ st))
    runs (Expr.Index a b) is st =
        ap (λ l. exec s l 0 st) (two_last (code a) (code b) index is) ∙ runs a (code b ++ index ∷ is) st
        ∙ one (eval a s) (λ v. eval b s >>= λ w. at_index v w >>= kept) (λ v. exec s (code b ++ index ∷ is) 0 (v ∷ st)) (λ v. exec s is 0 (v ∷ st))
        (λ v. runs b (index ∷ is) (v ∷ st) ∙ in_turn (eval b s) (λ w. at_index v w >>= kept) (λ x. exec s is 0 (x ∷ st)))
    runs (Expr.Call f es) is st =
        ap (λ l. exec s l 0 st) (one_last (all_code es) (call f (many es)) is) ∙ runs_all es (call f (many es) ∷ is) st
        ∙ one_ok (eval_all es s) (λ vs. apply s f vs >>= kept) (λ vs. exec s (call f (many es) ∷ is) 0 (push_all vs st)) (λ v. exec s is 0 (v ∷ st))
        (λ vs h. args_are (many es) vs st (λ us rest. apply s f us >>= kept >>= λ x. exec s is 0 (x ∷ rest)) (counted es s vs h))

    runs_all : (es : Exprs) (is : List Instr) (st : Stack) → exec s (all_code es ++ is) 0 st ≡ (eval_all es s >>= λ vs. exec s is 0 (push_all vs st))
    runs_all no_exprs is st = no_args is st
    runs_all (expr e es) is st =
        ap (λ l. exec s l 0 st) (append_assoc (code e) (all_code es) is) ∙ runs e (all_code es ++ is) st
        ∙ one (eval e s) (λ v. eval_all es s >>= λ vs. Ok (v ∷ vs)) (λ v. exec s (all_code es ++ is) 0 (v ∷ st)) (λ vs. exec s is 0 (push_all vs st))
        (λ v. runs_all es is (v ∷ st) ∙ one (eval_all es s) (λ vs. Ok (v ∷ vs)) (λ vs. exec s is 0 (push_all vs (v ∷ st))) (λ vs. exec s is 0 (push_all vs st)) (λ vs. more_args is st v vs))

-- the stack behind the whole code
pub compiled : (e : Expr) (s : View) → exec s (code e) 0 [] ≡ (eval e s >>= λ v. Ok (v ∷ []))
compiled e s = ap (λ l. exec s l 0 []) (sym (append-nil (code e))) ∙ runs s e [] []
