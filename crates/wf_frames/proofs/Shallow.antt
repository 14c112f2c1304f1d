-- The value of a template nests at most 100 deep.
use Rattle.std.proofs.Common.{◌≡◌, ◌≤◌, Bool, true, false, ◌&&◌, List, [], ◌∷◌, Ordering, Less, Equal, Greater, Result, Ok, Err, refl, sym, ap, subst, arith}
use Rattle.std.specs.Ordering.{match_ordering}
use Rattle.std.specs.Prelude.{nat_le, not, if◌then◌else◌}
use Rattle.std.proofs.lemmas.Bool.{leb-true}
use Rattle.wf_ast.specs.Apply.{View, apply}
use Rattle.wf_ast.specs.Eval.{truth, whole, operate, at_key, at_index, eval, eval_all, joined, fill, fill_all, fill_fields}
use Rattle.wf_ast.specs.Tree.{Expr, Template, Scalar, Whole, Joined, Listed, Mapped, Fields, no_fields, field}
use Rattle.wf_value.specs.Data.{Data, boolean, text, list, map, depth, size, Pairs, no_pairs, pair, pairs_depth, pairs_of}
use Rattle.wf_value.specs.Errors.{Answer, ◌>>=◌, error_map, or_error, kept}
use Rattle.wf_value.specs.Maps.{key_cmp, with_value}
use Rattle.wf_value.specs.Pairs.{Text, pair_list, put}
use Rattle.wf_value.specs.Numbers.{whole_negative, as_answer}
use Rattle.wf_value.specs.declared.NumFault.{NumFault}
use Rattle.wf_value.specs.declared.Tag.{Tag}
use Rattle.wf_value.specs.declared.Tag.TheVariants.{KeyError, ResourceLimitError}

-- a value doesn't nest past the limit
abbrev Shallow : Answer Data → Type 0
Shallow (Ok v) = depth v ≤ 100
Shallow (Err t) = Unit {0}

-- what was kept doesn't
kept_shallow : (v : Data) → Shallow (kept v)
kept_shallow v = by_tests (nat_le (size v) 4194304) (nat_le (depth v) 100) (λ is. leb-true (depth v) 100 is)
  where
    by_tests : (a b : Bool) → (b ≡ true → depth v ≤ 100) → Shallow (if a && b then Ok v else Err ResourceLimitError)
    by_tests true true is = is refl
    by_tests true false is = tt
    by_tests false b is = tt

-- nor what comes of steps whose last does not
steps_shallow : {A : Type 0} (r : Answer A) (f : A → Answer Data) → ((a : A) → Shallow (f a)) → Shallow (r >>= f)
steps_shallow (Ok a) f is = is a
steps_shallow (Err t) f is = tt

-- a whole number and a truth value don't nest
number_shallow : (r : Result _ NumFault) → Shallow (as_answer r)
number_shallow (Ok n) = omega arith
number_shallow (Err e) = tt

truth_shallow : (b : Bool) → Shallow (Ok (boolean b))
truth_shallow b = omega arith

module _ (s : View) where
  -- what follows the left side of `and`, and of `or`
  abbrev AndRest : Expr → Bool → Answer Data
  AndRest b = elim [ false ↦ Ok (boolean false) | true ↦ eval b s >>= λ w. truth w >>= λ c. Ok (boolean c) ]

  abbrev OrRest : Expr → Bool → Answer Data
  OrRest b = elim [ true ↦ Ok (boolean true) | false ↦ eval b s >>= λ w. truth w >>= λ c. Ok (boolean c) ]

  tested_shallow : (b : Expr) → Shallow (eval b s >>= λ w. truth w >>= λ c. Ok (boolean c))
  tested_shallow b = steps_shallow (eval b s) (λ w. truth w >>= λ c. Ok (boolean c)) (λ w. steps_shallow (truth w) (λ c. Ok (boolean c)) truth_shallow)

  and_shallow : (b : Expr) (x : Bool) → Shallow (AndRest b x)
  and_shallow b false = truth_shallow false
  and_shallow b true = tested_shallow b

  or_shallow : (b : Expr) (x : Bool) → Shallow (OrRest b x)
  or_shallow b true = truth_shallow true
  or_shallow b false = tested_shallow b

  eval_shallow : (e : Expr) → Shallow (eval e s)
  eval_shallow (Expr.Lit v) = kept_shallow v
  eval_shallow (Expr.Name x) = steps_shallow (or_error KeyError (s.look x)) kept kept_shallow
  eval_shallow (Expr.Neg a) = steps_shallow (eval a s) (λ v. whole v >>= λ n. as_answer (whole_negative n)) (λ v. steps_shallow (whole v) (λ n. as_answer (whole_negative n)) (λ n. number_shallow (whole_negative n)))
  eval_shallow (Expr.Not a) = steps_shallow (eval a s) (λ v. truth v >>= λ b. Ok (boolean (not b))) (λ v. steps_shallow (truth v) (λ b. Ok (boolean (not b))) (λ b. truth_shallow (not b)))
  eval_shallow (Expr.And a b) = steps_shallow (eval a s) (λ v. truth v >>= AndRest b) (λ v. steps_shallow (truth v) (AndRest b) (and_shallow b))
  eval_shallow (Expr.Or a b) = steps_shallow (eval a s) (λ v. truth v >>= OrRest b) (λ v. steps_shallow (truth v) (OrRest b) (or_shallow b))
  eval_shallow (Expr.Bin o a b) =
      steps_shallow (eval a s) (λ v. eval b s >>= λ w. operate o v w >>= kept) (λ v. steps_shallow (eval b s) (λ w. operate o v w >>= kept) (λ w. steps_shallow (operate o v w) kept kept_shallow))
  eval_shallow (Expr.Key a k) = steps_shallow (eval a s) (λ v. at_key v k >>= kept) (λ v. steps_shallow (at_key v k) kept kept_shallow)
  eval_shallow (Expr.Index a b) =
      steps_shallow (eval a s) (λ v. eval b s >>= λ w. at_index v w >>= kept) (λ v. steps_shallow (eval b s) (λ w. at_index v w >>= kept) (λ w. steps_shallow (at_index v w) kept kept_shallow))
  eval_shallow (Expr.Call f es) = steps_shallow (eval_all es s) (λ vs. apply s f vs >>= kept) (λ vs. steps_shallow (apply s f vs) kept kept_shallow)

  fill_shallow : (t : Template) → Shallow (fill t s)
  fill_shallow (Scalar v) = kept_shallow v
  fill_shallow (Whole e) = eval_shallow e
  fill_shallow (Joined ps) = steps_shallow (joined s ps) (λ t. kept (text t)) (λ t. kept_shallow (text t))
  fill_shallow (Listed ts) = steps_shallow (fill_all ts s) (λ vs. kept (list vs)) (λ vs. kept_shallow (list vs))
  fill_shallow (Mapped fs) = steps_shallow (fill_fields fs s) (λ ps. kept (map ps)) (λ ps. kept_shallow (map ps))

-- the value of a template
pub value_shallow : (t : Template) (s : View) (v : Data) → fill t s ≡ Ok v → depth v ≤ 100
value_shallow t s v is = subst Shallow is (fill_shallow s t)

-- ## Arguments
-- those of a map, with one more
module _ (k : Text) (d : Data) (low : depth d ≤ 100) where
  placed : (o : Ordering) (p : Text × Data) (ps : List (Text × Data)) → pairs_depth (pairs_of (p ∷ ps)) ≤ 100 → (pairs_depth (pairs_of ps) ≤ 100 → pairs_depth (pairs_of (with_value k d ps)) ≤ 100)
      → pairs_depth (pairs_of (match_ordering o ((k, d) ∷ p ∷ ps) ((p.0, d) ∷ ps) (p ∷ with_value k d ps))) ≤ 100
  placed Less p ps h later = omega (arith, low, h)
  placed Equal p ps h later = omega (arith, low, h)
  placed Greater p ps h later = let rest = later (omega (arith, h)) in omega (arith, h, rest)

  put_shallow : (ps : List (Text × Data)) → pairs_depth (pairs_of ps) ≤ 100 → pairs_depth (pairs_of (with_value k d ps)) ≤ 100
  put_shallow [] h = omega (arith, low)
  put_shallow (p ∷ ps) h = placed (key_cmp k p.0) p ps h (put_shallow ps)

as_listed : (ps : Pairs) → pairs_of (pair_list ps) ≡ ps
as_listed no_pairs = refl
as_listed (pair k d ps) = ap (pair k d) (as_listed ps)

-- the arguments of a call
pub args_shallow : (fs : Fields) (s : View) (ps : Pairs) → fill_fields fs s ≡ Ok ps → pairs_depth ps ≤ 100
args_shallow no_fields s ps is = let none : no_pairs ≡ ps = cc is in subst (λ (qs : Pairs). pairs_depth qs ≤ 100) none (omega arith)
args_shallow (field k t fs) s ps is = first (fill t s) (value_shallow t s) (args_shallow fs s) is
  where
    rest : (d : Data) → depth d ≤ 100 → (r : Answer Pairs) → ((qs : Pairs) → r ≡ Ok qs → pairs_depth qs ≤ 100) → (r >>= λ qs. Ok (put k d qs)) ≡ Ok ps → pairs_depth ps ≤ 100
    rest d low (Err t) h e = absurd (cc e)
    rest d low (Ok qs) h e =
        let same : put k d qs ≡ ps = cc e in
        subst (λ (xs : Pairs). pairs_depth xs ≤ 100) same (put_shallow k d low (pair_list qs) (subst (λ (xs : Pairs). pairs_depth xs ≤ 100) (sym (as_listed qs)) (h qs refl)))

    first : (r : Answer Data) → ((d : Data) → r ≡ Ok d → depth d ≤ 100) → ((qs : Pairs) → fill_fields fs s ≡ Ok qs → pairs_depth qs ≤ 100) → (r >>= λ d. fill_fields fs s >>= λ qs. Ok (put k d qs)) ≡ Ok ps → pairs_depth ps ≤ 100
    first (Err t) h others e = absurd (cc e)
    first (Ok d) h others e = rest d (h d refl) (fill_fields fs s) others e

-- and so the map of an error
pub error_shallow : (t : Tag) → depth (error_map t) ≤ 100
error_shallow t = let two : depth (error_map t) ≡ 2 = refl in omega (arith, two)
