-- The machine reads each derivation, wherever it stands.
use Rattle.std.proofs.Common.{◌≡◌, ℤ, Bool, true, false, List, [], ◌∷◌, ◌++◌, Option, Some, None, option_map, if◌then◌else◌, refl, sym, ap, ◌∙◌, append_assoc, append-nil}
use Rattle.wf_ast.specs.declared.expr.Op.TheVariants as op
use Rattle.wf_expr.specs.Grammar.{Ors, or_one, or_more, Ands, and_one, and_more, Nots, not_one, negated, alone, compared, Sums, sum_one, sum_more, Terms, term_one, term_more, Unary, plain, minus, Access, first, at_name, at_index, Atom, number, decimal, quoted, literal, name, call, group, Args, no_args, args, Given, given_one, given_more, names_text, or_text, and_text, not_text, sum_text, term_text, unary_text, access_text, atom_text, args_text, given_text}
use Rattle.wf_expr.specs.Machine.{InOr, top, in_place, in_group, in_index, in_args, InAnd, first_and, next_and, InNot, first_not, next_not, after_not, InSum, left, right, InTerm, first_term, next_term, InUnary, first_unary, next_unary, after_minus, State, want_not, want_unary, have_access, want_args, want_target, have_target, Next, goes, want_and, want_or, want_term, want_sum, head, is_or, is_and, is_not, is_point, is_left_paren, is_right_paren, is_left_bracket, relation_of, sign_of, product_of, by_op, with_arg, after_or, whole_and, after_and, whole_not, whole_sum, after_sum, whole_term, after_term, whole_unary, chain_of, by_chain, after_access, after_given, access_or, after_target, step, Outcome, whole, stuck, go_on, run, resume}
use Rattle.wf_expr.specs.Parsing.{OneDerivation}
use Rattle.wf_expr.specs.Symbols.{Sym}
use Rattle.wf_expr.specs.Symbols as s
use Rattle.wf_expr.specs.Targets.{is_target}
use Rattle.wf_value.specs.Data.{Data}
use Rattle.wf_value.specs.Pairs.{Text}

pub run-resume : (ts : List Sym) (st : State) → run ts st ≡ resume ts (step st)
run-resume [] st = refl
run-resume (t ∷ ts) st = refl

pub resume-head : (ts : List Sym) (f g : Option Sym → Next) → f (head ts) ≡ g (head ts) → resume ts f ≡ resume ts g
resume-head [] f g h = ap (λ o. go_on o [] (λ _. stuck [])) h
resume-head (t ∷ ts) f g h = ap (λ o. go_on o (t ∷ ts) (run ts)) h

-- ## What doesn't go on with a part
abbrev pub NoAccess : Option Sym → Type 0
NoAccess t = (is_point t ≡ false) × (is_left_bracket t ≡ false) × (is_left_paren t ≡ false)

abbrev pub NoTerm : Option Sym → Type 0
NoTerm t = NoAccess t × (product_of t ≡ None)

abbrev pub NoSum : Option Sym → Type 0
NoSum t = NoTerm t × (sign_of t ≡ None)

abbrev pub NoNot : Option Sym → Type 0
NoNot t = NoSum t × (relation_of t ≡ None)

abbrev pub NoAnd : Option Sym → Type 0
NoAnd t = NoNot t × (is_and t ≡ false)

pub after_and-whole : (c : InAnd) (a : Ands) (t : Option Sym) → is_and t ≡ false → after_and c a t ≡ whole_and c a t
after_and-whole c a t h = ap (λ b. if b then goes (want_not (next_not a c)) else whole_and c a t) h

pub left-whole : (c : InNot) (a : Sums) (t : Option Sym) → relation_of t ≡ None → whole_sum (left c) a t ≡ whole_not c (not_one (alone a)) t
left-whole c a t h = ap (λ o. by_op o (λ r. want_sum (right a r c)) (whole_not c (not_one (alone a)) t)) h

pub after_sum-whole : (c : InSum) (a : Sums) (t : Option Sym) → sign_of t ≡ None → after_sum c a t ≡ whole_sum c a t
after_sum-whole c a t h = ap (λ o. by_op o (λ r. want_term (next_term a r c)) (whole_sum c a t)) h

pub after_term-whole : (c : InTerm) (a : Terms) (t : Option Sym) → product_of t ≡ None → after_term c a t ≡ whole_term c a t
after_term-whole c a t h = ap (λ o. by_op o (λ r. want_unary (next_unary a r c)) (whole_term c a t)) h

pub if_false : (b : Bool) (x y : Next) → b ≡ false → (if b then x else y) ≡ y
if_false b x y h = ap (λ b. if b then x else y) h

pub after_access-whole : (c : InUnary) (a : Access) (t : Option Sym) → NoAccess t → after_access c a t ≡ whole_unary c (plain a) t
after_access-whole c a t h =
    if_false (is_point t) _ _ h.0
    ∙ if_false (is_left_bracket t) _ _ h.1
    ∙ if_false (is_left_paren t) _ _ h.2

-- ## What parts begin with
-- a test that each symbol fails which an operand begins with
record Denies (p : Option Sym → Bool) : Type 0 where
  number : (n : ℤ) → p (Some (s.number n)) ≡ false
  decimal : p (Some s.decimal) ≡ false
  quoted : (x : Text) → p (Some (s.quoted x)) ≡ false
  literal : (v : Data) → p (Some (s.literal v)) ≡ false
  name : (x : Text) → p (Some (s.name x)) ≡ false
  group : p (Some s.left_paren) ≡ false
  minus : p (Some (s.sign op.Sub)) ≡ false

atom_start : (p : Option Sym → Bool) → Denies p → (a : Atom) (ts : List Sym) → p (head (atom_text a ++ ts)) ≡ false
atom_start p k (number n) ts = k.number n
atom_start p k decimal ts = k.decimal
atom_start p k (quoted x) ts = k.quoted x
atom_start p k (literal v) ts = k.literal v
atom_start p k (name x) ts = k.name x
atom_start p k (call x xs a) ts = k.name x
atom_start p k (group d) ts = k.group

access_start : (p : Option Sym → Bool) → Denies p → (d : Access) (ts : List Sym) → p (head (access_text d ++ ts)) ≡ false
access_start p k (first a) ts = atom_start p k a ts
access_start p k (at_name d x) ts = ap (λ l. p (head l)) (append_assoc (access_text d) (s.point ∷ s.name x ∷ []) ts) ∙ access_start p k d (s.point ∷ s.name x ∷ ts)
access_start p k (at_index d i) ts = ap (λ l. p (head l)) (append_assoc (access_text d) (s.left_bracket ∷ (or_text i ++ s.right_bracket ∷ [])) ts) ∙ access_start p k d (s.left_bracket ∷ ((or_text i ++ s.right_bracket ∷ []) ++ ts))

unary_start : (p : Option Sym → Bool) → Denies p → (d : Unary) (ts : List Sym) → p (head (unary_text d ++ ts)) ≡ false
unary_start p k (plain a) ts = access_start p k a ts
unary_start p k (minus a) ts = k.minus

term_start : (p : Option Sym → Bool) → Denies p → (d : Terms) (ts : List Sym) → p (head (term_text d ++ ts)) ≡ false
term_start p k (term_one a) ts = unary_start p k a ts
term_start p k (term_more d o a) ts = ap (λ l. p (head l)) (append_assoc (term_text d) (s.product o ∷ unary_text a) ts) ∙ term_start p k d (s.product o ∷ (unary_text a ++ ts))

sum_start : (p : Option Sym → Bool) → Denies p → (d : Sums) (ts : List Sym) → p (head (sum_text d ++ ts)) ≡ false
sum_start p k (sum_one a) ts = term_start p k a ts
sum_start p k (sum_more d o a) ts = ap (λ l. p (head l)) (append_assoc (sum_text d) (s.sign o ∷ term_text a) ts) ∙ sum_start p k d (s.sign o ∷ (term_text a ++ ts))

not_start : (p : Option Sym → Bool) → Denies p → p (Some s.not) ≡ false → (d : Nots) (ts : List Sym) → p (head (not_text d ++ ts)) ≡ false
not_start p k n (not_one (alone a)) ts = sum_start p k a ts
not_start p k n (not_one (compared a o b)) ts = ap (λ l. p (head l)) (append_assoc (sum_text a) (s.relation o ∷ sum_text b) ts) ∙ sum_start p k a (s.relation o ∷ (sum_text b ++ ts))
not_start p k n (negated a) ts = n

and_start : (p : Option Sym → Bool) → Denies p → p (Some s.not) ≡ false → (d : Ands) (ts : List Sym) → p (head (and_text d ++ ts)) ≡ false
and_start p k n (and_one a) ts = not_start p k n a ts
and_start p k n (and_more d a) ts = ap (λ l. p (head l)) (append_assoc (and_text d) (s.and ∷ not_text a) ts) ∙ and_start p k n d (s.and ∷ (not_text a ++ ts))

or_start : (p : Option Sym → Bool) → Denies p → p (Some s.not) ≡ false → (d : Ors) (ts : List Sym) → p (head (or_text d ++ ts)) ≡ false
or_start p k n (or_one a) ts = and_start p k n a ts
or_start p k n (or_more d a) ts = ap (λ l. p (head l)) (append_assoc (or_text d) (s.or ∷ and_text a) ts) ∙ or_start p k n d (s.or ∷ (and_text a ++ ts))

denies_not : Denies is_not
denies_not = record { number = λ n. refl; decimal = refl; quoted = λ x. refl; literal = λ v. refl; name = λ x. refl; group = refl; minus = refl }

denies_close : Denies is_right_paren
denies_close = record { number = λ n. refl; decimal = refl; quoted = λ x. refl; literal = λ v. refl; name = λ x. refl; group = refl; minus = refl }

-- where no `not` comes, a sum begins
pub begin_left : (ts : List Sym) (c : InNot) → is_not (head ts) ≡ false → run ts (want_not c) ≡ run ts (want_sum (left c))
begin_left ts c h =
    run-resume ts (want_not c)
    ∙ resume-head ts (step (want_not c)) (step (want_sum (left c))) (if_false (is_not (head ts)) _ _ h)
    ∙ sym (run-resume ts (want_sum (left c)))

-- where no `)` comes, an argument begins
pub begin_arg : (ts : List Sym) (x : Text) (xs : List Text) (c : InUnary) → is_right_paren (head ts) ≡ false → run ts (want_args x xs c) ≡ run ts (want_or (in_args x xs no_args c))
begin_arg ts x xs c h =
    run-resume ts (want_args x xs c)
    ∙ resume-head ts (step (want_args x xs c)) (step (want_or (in_args x xs no_args c))) (if_false (is_right_paren (head ts)) _ _ h)
    ∙ sym (run-resume ts (want_or (in_args x xs no_args c)))

-- ## Calls
-- a call's name is read
pub chain_read : (xs : List Text) (d : Access) (c : InUnary) (x : Text) (ys : List Text) (ts : List Sym) → chain_of d ≡ Some (x, ys) → run (names_text xs ++ s.left_paren ∷ ts) (have_access d c) ≡ run ts (want_args x (ys ++ xs) c)
chain_read [] d c x ys ts h =
    ap (λ o. go_on (by_chain o c (whole_unary c (plain d) (Some s.left_paren))) (s.left_paren ∷ ts) (run ts)) h
    ∙ ap (λ l. run ts (want_args x l c)) (sym (append-nil ys))
chain_read (y ∷ xs) d c x ys ts h =
    chain_read xs (at_name d y) c x (ys ++ y ∷ []) ts (ap (λ o. option_map (λ f. (f.0, f.1 ++ y ∷ [])) o) h)
    ∙ ap (λ l. run ts (want_args x l c)) (append_assoc ys (y ∷ []) xs)

-- ## The parts
arg_closes : (x : Text) (xs : List Text) (a : Args) (c : InUnary) (d : Ors) (t : Option Sym) → is_or t ≡ false → after_or (in_args x xs a c) d t ≡ after_given x xs (with_arg a d) c t
arg_closes x xs a c d t h = if_false (is_or t) _ _ h

mutual
  pub or_read : (d : Ors) (c : InOr) (ts : List Sym) → NoAnd (head ts) → run (or_text d ++ ts) (want_or c) ≡ resume ts (after_or c d)
  or_read (or_one a) c ts h =
      and_read a (first_and c) ts h.0 ∙ resume-head ts (after_and (first_and c) a) (after_or c (or_one a)) (after_and-whole (first_and c) a (head ts) h.1)
  or_read (or_more d a) c ts h =
      ap (λ l. run l (want_or c)) (append_assoc (or_text d) (s.or ∷ and_text a) ts)
      ∙ or_read d c (s.or ∷ (and_text a ++ ts)) (((((refl, refl, refl), refl), refl), refl), refl)
      ∙ and_read a (next_and d c) ts h.0
      ∙ resume-head ts (after_and (next_and d c) a) (after_or c (or_more d a)) (after_and-whole (next_and d c) a (head ts) h.1)

  pub and_read : (d : Ands) (c : InAnd) (ts : List Sym) → NoNot (head ts) → run (and_text d ++ ts) (want_and c) ≡ resume ts (after_and c d)
  and_read (and_one a) c ts h = not_read a (first_not c) ts h
  and_read (and_more d a) c ts h =
      ap (λ l. run l (want_and c)) (append_assoc (and_text d) (s.and ∷ not_text a) ts)
      ∙ and_read d c (s.and ∷ (not_text a ++ ts)) ((((refl, refl, refl), refl), refl), refl)
      ∙ not_read a (next_not d c) ts h

  pub not_read : (d : Nots) (c : InNot) (ts : List Sym) → NoNot (head ts) → run (not_text d ++ ts) (want_not c) ≡ resume ts (whole_not c d)
  not_read (negated a) c ts h = not_read a (after_not c) ts h
  not_read (not_one (alone a)) c ts h =
      begin_left (sum_text a ++ ts) c (sum_start is_not denies_not a ts)
      ∙ sum_read a (left c) ts h.0.0
      ∙ resume-head ts (after_sum (left c) a) (whole_sum (left c) a) (after_sum-whole (left c) a (head ts) h.0.1)
      ∙ resume-head ts (whole_sum (left c) a) (whole_not c (not_one (alone a))) (left-whole c a (head ts) h.1)
  not_read (not_one (compared a o b)) c ts h =
      ap (λ l. run l (want_not c)) (append_assoc (sum_text a) (s.relation o ∷ sum_text b) ts)
      ∙ begin_left (sum_text a ++ s.relation o ∷ (sum_text b ++ ts)) c (sum_start is_not denies_not a (s.relation o ∷ (sum_text b ++ ts)))
      ∙ sum_read a (left c) (s.relation o ∷ (sum_text b ++ ts)) ((refl, refl, refl), refl)
      ∙ sum_read b (right a o c) ts h.0.0
      ∙ resume-head ts (after_sum (right a o c) b) (whole_sum (right a o c) b) (after_sum-whole (right a o c) b (head ts) h.0.1)

  pub sum_read : (d : Sums) (c : InSum) (ts : List Sym) → NoTerm (head ts) → run (sum_text d ++ ts) (want_sum c) ≡ resume ts (after_sum c d)
  sum_read (sum_one a) c ts h =
      term_read a (first_term c) ts h.0 ∙ resume-head ts (after_term (first_term c) a) (after_sum c (sum_one a)) (after_term-whole (first_term c) a (head ts) h.1)
  sum_read (sum_more d o a) c ts h =
      ap (λ l. run l (want_sum c)) (append_assoc (sum_text d) (s.sign o ∷ term_text a) ts)
      ∙ sum_read d c (s.sign o ∷ (term_text a ++ ts)) ((refl, refl, refl), refl)
      ∙ term_read a (next_term d o c) ts h.0
      ∙ resume-head ts (after_term (next_term d o c) a) (after_sum c (sum_more d o a)) (after_term-whole (next_term d o c) a (head ts) h.1)

  pub term_read : (d : Terms) (c : InTerm) (ts : List Sym) → NoAccess (head ts) → run (term_text d ++ ts) (want_term c) ≡ resume ts (after_term c d)
  term_read (term_one a) c ts h = unary_read a (first_unary c) ts h
  term_read (term_more d o a) c ts h =
      ap (λ l. run l (want_term c)) (append_assoc (term_text d) (s.product o ∷ unary_text a) ts)
      ∙ term_read d c (s.product o ∷ (unary_text a ++ ts)) (refl, refl, refl)
      ∙ unary_read a (next_unary d o c) ts h

  pub unary_read : (d : Unary) (c : InUnary) (ts : List Sym) → NoAccess (head ts) → run (unary_text d ++ ts) (want_unary c) ≡ resume ts (whole_unary c d)
  unary_read (plain a) c ts h =
      access_read a c ts ∙ resume-head ts (after_access c a) (whole_unary c (plain a)) (after_access-whole c a (head ts) h)
  unary_read (minus a) c ts h = unary_read a (after_minus c) ts h

  pub access_read : (d : Access) (c : InUnary) (ts : List Sym) → run (access_text d ++ ts) (want_unary c) ≡ resume ts (after_access c d)
  access_read (first a) c ts = atom_read a c ts
  access_read (at_name d x) c ts =
      ap (λ l. run l (want_unary c)) (append_assoc (access_text d) (s.point ∷ s.name x ∷ []) ts)
      ∙ access_read d c (s.point ∷ s.name x ∷ ts)
      ∙ run-resume ts (have_access (at_name d x) c)
  access_read (at_index d i) c ts =
      ap (λ l. run l (want_unary c)) (append_assoc (access_text d) (s.left_bracket ∷ (or_text i ++ s.right_bracket ∷ [])) ts)
      ∙ access_read d c (s.left_bracket ∷ ((or_text i ++ s.right_bracket ∷ []) ++ ts))
      ∙ ap (λ l. run l (want_or (in_index d c))) (append_assoc (or_text i) (s.right_bracket ∷ []) ts)
      ∙ or_read i (in_index d c) (s.right_bracket ∷ ts) (((((refl, refl, refl), refl), refl), refl), refl)
      ∙ run-resume ts (have_access (at_index d i) c)

  pub atom_read : (a : Atom) (c : InUnary) (ts : List Sym) → run (atom_text a ++ ts) (want_unary c) ≡ resume ts (after_access c (first a))
  atom_read (number n) c ts = run-resume ts (have_access (first (number n)) c)
  atom_read decimal c ts = run-resume ts (have_access (first decimal) c)
  atom_read (quoted x) c ts = run-resume ts (have_access (first (quoted x)) c)
  atom_read (literal v) c ts = run-resume ts (have_access (first (literal v)) c)
  atom_read (name x) c ts = run-resume ts (have_access (first (name x)) c)
  atom_read (group d) c ts =
      ap (λ l. run l (want_or (in_group c))) (append_assoc (or_text d) (s.right_paren ∷ []) ts)
      ∙ or_read d (in_group c) (s.right_paren ∷ ts) (((((refl, refl, refl), refl), refl), refl), refl)
      ∙ run-resume ts (have_access (first (group d)) c)
  atom_read (call x xs a) c ts =
      ap (λ l. run l (have_access (first (name x)) c)) (append_assoc (names_text xs) (s.left_paren ∷ (args_text a ++ s.right_paren ∷ [])) ts)
      ∙ chain_read xs (first (name x)) c x [] ((args_text a ++ s.right_paren ∷ []) ++ ts) refl
      ∙ ap (λ l. run l (want_args x xs c)) (append_assoc (args_text a) (s.right_paren ∷ []) ts)
      ∙ args_read a x xs c ts
      ∙ run-resume ts (have_access (first (call x xs a)) c)

  pub args_read : (a : Args) (x : Text) (xs : List Text) (c : InUnary) (ts : List Sym) → run (args_text a ++ s.right_paren ∷ ts) (want_args x xs c) ≡ run ts (have_access (first (call x xs a)) c)
  args_read no_args x xs c ts = refl
  args_read (args g) x xs c ts =
      given_read g x xs c (s.right_paren ∷ ts) (((((refl, refl, refl), refl), refl), refl), refl) refl

  pub given_read : (g : Given) (x : Text) (xs : List Text) (c : InUnary) (ts : List Sym) → NoAnd (head ts) → is_or (head ts) ≡ false → run (given_text g ++ ts) (want_args x xs c) ≡ resume ts (after_given x xs g c)
  given_read (given_one d) x xs c ts h k =
      begin_arg (or_text d ++ ts) x xs c (or_start is_right_paren denies_close refl d ts)
      ∙ or_read d (in_args x xs no_args c) ts h
      ∙ resume-head ts (after_or (in_args x xs no_args c) d) (after_given x xs (given_one d) c) (arg_closes x xs no_args c d (head ts) k)
  given_read (given_more g d) x xs c ts h k =
      ap (λ l. run l (want_args x xs c)) (append_assoc (given_text g) (s.comma ∷ or_text d) ts)
      ∙ given_read g x xs c (s.comma ∷ (or_text d ++ ts)) (((((refl, refl, refl), refl), refl), refl), refl) refl
      ∙ or_read d (in_args x xs (args g) c) ts h
      ∙ resume-head ts (after_or (in_args x xs (args g) c) d) (after_given x xs (given_more g d) c) (arg_closes x xs (args g) c d (head ts) k)

-- ## Targets
target_start : (a : Access) (ts : List Sym) → is_target a ≡ true → run (access_text a ++ ts) want_target ≡ resume ts (after_target a)
target_start (first (name x)) ts h = run-resume ts (have_target (first (name x)))
target_start (first a) ts h = let p : ⊥ = cc in absurd p
target_start (at_name d x) ts h =
    ap (λ l. run l want_target) (append_assoc (access_text d) (s.point ∷ s.name x ∷ []) ts)
    ∙ target_start d (s.point ∷ s.name x ∷ ts) h
    ∙ run-resume ts (have_target (at_name d x))
target_start (at_index d i) ts h =
    ap (λ l. run l want_target) (append_assoc (access_text d) (s.left_bracket ∷ (or_text i ++ s.right_bracket ∷ [])) ts)
    ∙ target_start d (s.left_bracket ∷ ((or_text i ++ s.right_bracket ∷ []) ++ ts)) h
    ∙ ap (λ l. run l (want_or (in_place d))) (append_assoc (or_text i) (s.right_bracket ∷ []) ts)
    ∙ or_read i (in_place d) (s.right_bracket ∷ ts) (((((refl, refl, refl), refl), refl), refl), refl)
    ∙ run-resume ts (have_target (at_index d i))

pub target_read : (a : Access) → is_target a ≡ true → run (access_text a) want_target ≡ whole (access_or a)
target_read a h = ap (λ l. run l want_target) (sym (append-nil (access_text a))) ∙ target_start a [] h

-- ## Derivations
-- each expression is read, and by one derivation alone
pub expr_read : (d : Ors) → run (or_text d) (want_or top) ≡ whole d
expr_read d = ap (λ l. run l (want_or top)) (sym (append-nil (or_text d))) ∙ or_read d top [] (((((refl, refl, refl), refl), refl), refl), refl)

module _ where
  which : Ors → Outcome → Ors
  which d (whole e) = e
  which d (stuck ts) = d

  pub whole_injective : (d e : Ors) → whole d ≡ whole e → d ≡ e
  unfolding which
  whole_injective d e p = ap (which d) p

pub one_derivation : OneDerivation
one_derivation d e p = whole_injective d e (sym (expr_read d) ∙ ap (λ l. run l (want_or top)) p ∙ expr_read e)

module _ where
  access_in : Access → Ors → Access
  access_in a (or_one (and_one (not_one (alone (sum_one (term_one (plain b))))))) = b
  access_in a d = a

  access_injective : (a b : Access) → access_or a ≡ access_or b → a ≡ b
  unfolding access_in
  access_injective a b p = ap (access_in a) p

pub one_access : (a b : Access) → access_text a ≡ access_text b → a ≡ b
one_access a b p = access_injective a b (one_derivation (access_or a) (access_or b) p)
