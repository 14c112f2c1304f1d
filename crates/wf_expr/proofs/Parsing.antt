-- What the parser's functions answer, put together.
use Rattle.std.proofs.Common.{◌≡◌, ◌+◌, true, false, List, [], ◌∷◌, ◌++◌, length, drop, codes, Option, Some, None, Result, Ok, Err, option_map, refl, sym, ap, ◌∙◌, arith}
use Rattle.std.specs.Result.{MatchResult}
use Rattle.std.proofs.lemmas.Option.{same_Some}
use Rattle.wf_ast.specs.Func.{func_named}
use Rattle.wf_ast.specs.Tree.{Expr}
use Rattle.wf_ast.specs.declared.expr.Op.{Op}
use Rattle.wf_ast.specs.declared.expr.Op.TheVariants as op
use Rattle.wf_expr.proofs.Kept.{or_is, and_is, not_is, point_is, comma_is, left_paren_is, right_paren_is, left_bracket_is, minus_is, relation_is, sign_is, product_is}
use Rattle.wf_expr.proofs.Reading.{run-resume, resume-head, left-whole, if_false, begin_left, begin_arg}
use Rattle.wf_expr.specs.Grammar.{Ors, or_one, or_more, Ands, and_one, and_more, not_one, negated, alone, compared, Sums, sum_one, sum_more, Terms, term_one, term_more, plain, minus, Access, first, at_name, at_index, Atom, call, group, Args, no_args, args, Given, given_one, given_more, joined, call_of, or_expr, and_expr, not_expr, sum_expr, term_expr, unary_expr, atom_expr, args_exprs}
use Rattle.wf_expr.specs.Machine.{InOr, in_index, in_args, InAnd, first_and, next_and, InNot, first_not, next_not, after_not, InSum, left, right, InTerm, first_term, next_term, InUnary, first_unary, next_unary, after_minus, State, want_not, want_unary, have_access, want_name, want_args, Next, nowhere, goes, want_and, want_or, want_term, want_sum, head, is_or, is_and, is_not, is_point, is_comma, is_left_paren, is_right_paren, is_left_bracket, is_minus, relation_of, sign_of, product_of, name_of, atom_of, begin_unary, with_arg, after_or, after_and, whole_not, whole_sum, after_sum, after_term, whole_unary, chain_of, by_chain, after_access, after_given, step, stuck, go_on, run, resume}
use Rattle.wf_expr.specs.Parts.{Fails, OrSoFar, OrRead, AndSoFar, AndRead, NotRead, want_cmp, CmpRead, SumSoFar, SumRead, TermSoFar, TermRead, UnaryRead, chain_name, longer_by, AccessSoFar, AccessRead, AtomRead, want_group, GroupRead, want_index, IndexRead, want_key, KeyRead, Called, want_call, GivenSoFar, ArgsRead}
use Rattle.wf_expr.specs.Symbols.{Sym}
use Rattle.wf_expr.specs.Symbols as s
use Rattle.wf_expr.specs.declared.stop.Stop.{Stop}
use Rattle.wf_expr.specs.declared.stop.Stop.TheVariants as stop
use Rattle.wf_value.specs.Pairs.{Text}

-- ## Symbols that come
pub one_less : (ts : List Sym) (t : Sym) → head ts ≡ Some t → length (drop 1 ts) + 1 ≡ length ts
one_less [] t h = let p : ⊥ = cc in absurd p
one_less (u ∷ ts) t h = omega arith

-- a symbol that comes leads on
pub taken : (ts : List Sym) (t : Sym) (f : Option Sym → Next) (st : State) → head ts ≡ Some t → f (Some t) ≡ goes st → resume ts f ≡ run (drop 1 ts) st
taken [] t f st h e = let p : ⊥ = cc in absurd p
taken (u ∷ ts) t f st h e = ap (λ o. go_on o (u ∷ ts) (run ts)) (ap f h ∙ e)

pub stuck_at : (ts : List Sym) (f : Option Sym → Next) → f (head ts) ≡ nowhere → resume ts f ≡ stuck ts
stuck_at [] f h = ap (λ o. go_on o [] (λ _. stuck [])) h
stuck_at (t ∷ ts) f h = ap (λ o. go_on o (t ∷ ts) (run ts)) h

-- a part that comes to another one fails with it
fails_within : {C K : Type 0} → (want : C → State) (outer : K → State) (inner : K → C) (ts us : List Sym) (f : Stop) → ((c : K) → run ts (outer c) ≡ run us (want (inner c))) → Fails want us f → Fails outer ts f
fails_within {C} {K} want outer inner ts us (stop.Syntax n) e h = (h.0, h.1, λ c. e c ∙ h.2 (inner c))
fails_within {C} {K} want outer inner ts us stop.OutOfMemory e h = tt

-- what an answer says, said otherwise
pub both_ways : {T E : Type 0} → (r : Result T E) (P Q : T → Type 0) (R S : E → Type 0) → ((x : T) → P x → Q x) → ((e : E) → R e → S e) → MatchResult r P R → MatchResult r Q S
both_ways {T} {E} (Ok x) P Q R S f g h = f x h
both_ways {T} {E} (Err e) P Q R S f g h = g e h

-- ## or
pub or_first : (ts rest : List Sym) (e : Expr) → AndRead ts e rest → OrSoFar ts e rest
or_first ts rest e h = (or_one h.0, h.1, h.2, λ c. h.3 (first_and c))

or_taken : (c : InOr) (d : Ors) (ts : List Sym) → is_or (head ts) ≡ true → resume ts (after_or c d) ≡ run (drop 1 ts) (want_and (next_and d c))
or_taken c d ts h = taken ts s.or (after_or c d) (want_and (next_and d c)) (or_is (head ts) h) refl

pub or_next : (ts mid rest : List Sym) (e g : Expr) → OrSoFar ts e mid → is_or (head mid) ≡ true → AndRead (drop 1 mid) g rest → OrSoFar ts (Expr.Or e g) rest
or_next ts mid rest e g h k a =
    let n = one_less mid s.or (or_is (head mid) k) in
    (or_more h.0 a.0, ap (λ x. Expr.Or x (and_expr a.0)) h.1 ∙ ap (Expr.Or e) a.1, omega (arith, h.2, a.2, n), λ c. h.3 c ∙ or_taken c h.0 mid k ∙ a.3 (next_and h.0 c))

-- ## and
pub and_first : (ts rest : List Sym) (e : Expr) → NotRead ts e rest → AndSoFar ts e rest
and_first ts rest e h = (and_one h.0, h.1, h.2, λ c. h.3 (first_not c))

and_taken : (c : InAnd) (d : Ands) (ts : List Sym) → is_and (head ts) ≡ true → resume ts (after_and c d) ≡ run (drop 1 ts) (want_not (next_not d c))
and_taken c d ts h = taken ts s.and (after_and c d) (want_not (next_not d c)) (and_is (head ts) h) refl

pub and_next : (ts mid rest : List Sym) (e g : Expr) → AndSoFar ts e mid → is_and (head mid) ≡ true → NotRead (drop 1 mid) g rest → AndSoFar ts (Expr.And e g) rest
and_next ts mid rest e g h k a =
    let n = one_less mid s.and (and_is (head mid) k) in
    (and_more h.0 a.0, ap (λ x. Expr.And x (not_expr a.0)) h.1 ∙ ap (Expr.And e) a.1, omega (arith, h.2, a.2, n), λ c. h.3 c ∙ and_taken c h.0 mid k ∙ a.3 (next_not h.0 c))

-- ## not
not_taken : (ts : List Sym) (c : InNot) → is_not (head ts) ≡ true → run ts (want_not c) ≡ run (drop 1 ts) (want_not (after_not c))
not_taken ts c h = run-resume ts (want_not c) ∙ taken ts s.not (step (want_not c)) (want_not (after_not c)) (not_is (head ts) h) refl

pub not_more : (ts rest : List Sym) (e : Expr) → is_not (head ts) ≡ true → NotRead (drop 1 ts) e rest → NotRead ts (Expr.Not e) rest
not_more ts rest e h a = let n = one_less ts s.not (not_is (head ts) h) in (negated a.0, ap Expr.Not a.1, omega (arith, a.2, n), λ c. not_taken ts c h ∙ a.3 (after_not c))

pub not_single : (ts rest : List Sym) (e : Expr) → is_not (head ts) ≡ false → CmpRead ts e rest → NotRead ts e rest
not_single ts rest e h a = (not_one a.0, a.1, a.2, λ c. begin_left ts c h ∙ a.3 c)

pub not_single_fails : (ts : List Sym) (f : Stop) → is_not (head ts) ≡ false → Fails want_cmp ts f → Fails want_not ts f
not_single_fails ts f h a = fails_within want_cmp want_not (λ c. c) ts ts f (λ c. begin_left ts c h) a

-- ## cmp
pub cmp_alone : (ts rest : List Sym) (e : Expr) → relation_of (head rest) ≡ None → SumRead ts e rest → CmpRead ts e rest
cmp_alone ts rest e k a = (alone a.0, a.1, a.2, λ c. a.3 (left c) ∙ resume-head rest (whole_sum (left c) a.0) (whole_not c (not_one (alone a.0))) (left-whole c a.0 (head rest) k))

relation_taken : (ts : List Sym) (o : Op) (c : InNot) (a : Sums) → relation_of (head ts) ≡ Some o → resume ts (whole_sum (left c) a) ≡ run (drop 1 ts) (want_sum (right a o c))
relation_taken ts o c a h = taken ts (s.relation o) (whole_sum (left c) a) (want_sum (right a o c)) (relation_is (head ts) o h) refl

pub cmp_pair : (ts mid rest : List Sym) (e g : Expr) (o : Op) → relation_of (head mid) ≡ Some o → SumRead ts e mid → SumRead (drop 1 mid) g rest → CmpRead ts (Expr.Bin o e g) rest
cmp_pair ts mid rest e g o k a b =
    let n = one_less mid (s.relation o) (relation_is (head mid) o k) in
    (compared a.0 o b.0, ap (λ x. Expr.Bin o x (sum_expr b.0)) a.1 ∙ ap (Expr.Bin o e) b.1, omega (arith, a.2, b.2, n), λ c. a.3 (left c) ∙ relation_taken mid o c a.0 k ∙ b.3 (right a.0 o c))

-- ## sum
pub sum_first : (ts rest : List Sym) (e : Expr) → TermRead ts e rest → SumSoFar ts e rest
sum_first ts rest e h = (sum_one h.0, h.1, h.2, λ c. h.3 (first_term c))

sign_taken : (c : InSum) (d : Sums) (o : Op) (ts : List Sym) → sign_of (head ts) ≡ Some o → resume ts (after_sum c d) ≡ run (drop 1 ts) (want_term (next_term d o c))
sign_taken c d o ts h = taken ts (s.sign o) (after_sum c d) (want_term (next_term d o c)) (sign_is (head ts) o h) refl

pub sum_next : (ts mid rest : List Sym) (e g : Expr) (o : Op) → SumSoFar ts e mid → sign_of (head mid) ≡ Some o → TermRead (drop 1 mid) g rest → SumSoFar ts (Expr.Bin o e g) rest
sum_next ts mid rest e g o h k a =
    let n = one_less mid (s.sign o) (sign_is (head mid) o k) in
    (sum_more h.0 o a.0, ap (λ x. Expr.Bin o x (term_expr a.0)) h.1 ∙ ap (Expr.Bin o e) a.1, omega (arith, h.2, a.2, n), λ c. h.3 c ∙ sign_taken c h.0 o mid k ∙ a.3 (next_term h.0 o c))

-- ## term
pub term_first : (ts rest : List Sym) (e : Expr) → UnaryRead ts e rest → TermSoFar ts e rest
term_first ts rest e h = (term_one h.0, h.1, h.2, λ c. h.3 (first_unary c))

product_taken : (c : InTerm) (d : Terms) (o : Op) (ts : List Sym) → product_of (head ts) ≡ Some o → resume ts (after_term c d) ≡ run (drop 1 ts) (want_unary (next_unary d o c))
product_taken c d o ts h = taken ts (s.product o) (after_term c d) (want_unary (next_unary d o c)) (product_is (head ts) o h) refl

pub term_next : (ts mid rest : List Sym) (e g : Expr) (o : Op) → TermSoFar ts e mid → product_of (head mid) ≡ Some o → UnaryRead (drop 1 mid) g rest → TermSoFar ts (Expr.Bin o e g) rest
term_next ts mid rest e g o h k a =
    let n = one_less mid (s.product o) (product_is (head mid) o k) in
    (term_more h.0 o a.0, ap (λ x. Expr.Bin o x (unary_expr a.0)) h.1 ∙ ap (Expr.Bin o e) a.1, omega (arith, h.2, a.2, n), λ c. h.3 c ∙ product_taken c h.0 o mid k ∙ a.3 (next_unary h.0 o c))

-- ## unary
minus_taken : (ts : List Sym) (c : InUnary) → is_minus (head ts) ≡ true → run ts (want_unary c) ≡ run (drop 1 ts) (want_unary (after_minus c))
minus_taken ts c h = run-resume ts (want_unary c) ∙ taken ts (s.sign op.Sub) (step (want_unary c)) (want_unary (after_minus c)) (minus_is (head ts) h) refl

pub minus_more : (ts rest : List Sym) (e : Expr) → is_minus (head ts) ≡ true → UnaryRead (drop 1 ts) e rest → UnaryRead ts (Expr.Neg e) rest
minus_more ts rest e h a = let n = one_less ts (s.sign op.Sub) (minus_is (head ts) h) in (minus a.0, ap Expr.Neg a.1, omega (arith, a.2, n), λ c. minus_taken ts c h ∙ a.3 (after_minus c))

pub unary_plain : (ts rest : List Sym) (e : Expr) → AccessRead ts e rest → UnaryRead ts e rest
unary_plain ts rest e a = (plain a.0, a.1, a.2, a.3)

-- ## access
pub access_first : (ts rest : List Sym) (e : Expr) (x : Option Text) → AtomRead ts e rest → x ≡ name_of (head ts) → AccessSoFar ts e x rest
access_first ts rest e x a h = (first a.0, a.1, a.2 ∙ sym h, a.3, a.4)

point_taken : (c : InUnary) (a : Access) (ts : List Sym) → is_point (head ts) ≡ true → resume ts (after_access c a) ≡ run (drop 1 ts) (want_name a c)
point_taken c a ts h = taken ts s.point (after_access c a) (want_name a c) (point_is (head ts) h) refl

bracket_taken : (c : InUnary) (a : Access) (ts : List Sym) → is_left_bracket (head ts) ≡ true → resume ts (after_access c a) ≡ run (drop 1 ts) (want_or (in_index a c))
bracket_taken c a ts h = taken ts s.left_bracket (after_access c a) (want_or (in_index a c)) (left_bracket_is (head ts) h) refl

paren_taken : (c : InUnary) (a : Access) (f : Text × List Text) (ts : List Sym) → chain_of a ≡ Some f → is_left_paren (head ts) ≡ true → resume ts (after_access c a) ≡ run (drop 1 ts) (want_args f.0 f.1 c)
paren_taken c a f ts h k = taken ts s.left_paren (after_access c a) (want_args f.0 f.1 c) (left_paren_is (head ts) k) (ap (λ o. by_chain o c (whole_unary c (plain a) (Some s.left_paren))) h)

joined_more : (xs : List Text) (x y : Text) → joined x (xs ++ y ∷ []) ≡ joined x xs ++ codes "." ++ y
joined_more [] x y = refl
joined_more (z ∷ xs) x y = joined_more xs (x ++ codes "." ++ z) y

chain_longer : (o : Option (Text × List Text)) (x : Text) → option_map (λ (f : Text × List Text). joined f.0 f.1) (option_map (λ (f : Text × List Text). (f.0, f.1 ++ x ∷ [])) o) ≡ longer_by (option_map (λ (f : Text × List Text). joined f.0 f.1) o) x
chain_longer None x = refl
chain_longer (Some f) x = ap Some (joined_more f.1 f.0 x)

pub access_name : (ts mid rest : List Sym) (e : Expr) (o : Option Text) (x : Text) → AccessSoFar ts e o mid → is_point (head mid) ≡ true → KeyRead (drop 1 mid) x rest → AccessSoFar ts (Expr.Key e x) (longer_by o x) rest
access_name ts mid rest e o x h k a =
    let n = one_less mid s.point (point_is (head mid) k) in
    (at_name h.0 x, ap (λ y. Expr.Key y x) h.1, chain_longer (chain_of h.0) x ∙ ap (λ y. longer_by y x) h.2, omega (arith, h.3, a.0, n), λ c. h.4 c ∙ point_taken c h.0 mid k ∙ a.1 (h.0, c) ∙ run-resume rest (have_access (at_name h.0 x) c))

pub access_name_fails : (ts mid : List Sym) (e : Expr) (o : Option Text) (f : Stop) → AccessSoFar ts e o mid → is_point (head mid) ≡ true → Fails want_key (drop 1 mid) f → Fails want_unary ts f
access_name_fails ts mid e o f h k a = fails_within want_key want_unary (λ c. (h.0, c)) ts (drop 1 mid) f (λ c. h.4 c ∙ point_taken c h.0 mid k) a

pub access_index : (ts mid rest : List Sym) (e i : Expr) (o : Option Text) → AccessSoFar ts e o mid → is_left_bracket (head mid) ≡ true → IndexRead (drop 1 mid) i rest → AccessSoFar ts (Expr.Index e i) None rest
access_index ts mid rest e i o h k a =
    let n = one_less mid s.left_bracket (left_bracket_is (head mid) k) in
    (at_index h.0 a.0, ap (λ x. Expr.Index x (or_expr a.0)) h.1 ∙ ap (Expr.Index e) a.1, refl, omega (arith, h.3, a.2, n), λ c. h.4 c ∙ bracket_taken c h.0 mid k ∙ a.3 (h.0, c) ∙ run-resume rest (have_access (at_index h.0 a.0) c))

pub access_index_fails : (ts mid : List Sym) (e : Expr) (o : Option Text) (f : Stop) → AccessSoFar ts e o mid → is_left_bracket (head mid) ≡ true → Fails want_index (drop 1 mid) f → Fails want_unary ts f
access_index_fails ts mid e o f h k a = fails_within want_index want_unary (λ c. (h.0, c)) ts (drop 1 mid) f (λ c. h.4 c ∙ bracket_taken c h.0 mid k) a

call_named : (o : Option (Text × List Text)) (x : Text) → option_map (λ f. joined f.0 f.1) o ≡ Some x → (f : Text × List Text) × (o ≡ Some f) × (joined f.0 f.1 ≡ x)
call_named None x h = let p : ⊥ = cc in absurd p
call_named (Some f) x h = (f, refl, same_Some (joined f.0 f.1) x h)

pub access_call : (ts mid rest : List Sym) (e g : Expr) (x : Text) (es : List Expr) → AccessSoFar ts e (Some x) mid → is_left_paren (head mid) ≡ true → ArgsRead (drop 1 mid) es rest → g ≡ call_of (func_named x) es → AccessSoFar ts g None rest
access_call ts mid rest e g x es h k a q =
    let n = one_less mid s.left_paren (left_paren_is (head mid) k) in
    let w = call_named (chain_of h.0) x h.2 in (
      first (call w.0.0 w.0.1 a.0),
      ap (λ y. call_of (func_named y) (args_exprs a.0)) w.2 ∙ ap (call_of (func_named x)) a.1 ∙ sym q,
      refl,
      omega (arith, h.3, a.2, n),
      λ c. h.4 c ∙ paren_taken c h.0 w.0 mid w.1 k ∙ a.3 (w.0.0, w.0.1, c) ∙ run-resume rest (have_access (first (call w.0.0 w.0.1 a.0)) c),
    )

pub access_call_fails : (ts mid : List Sym) (e : Expr) (x : Text) (f : Stop) → AccessSoFar ts e (Some x) mid → is_left_paren (head mid) ≡ true → Fails want_call (drop 1 mid) f → Fails want_unary ts f
access_call_fails ts mid e x f h k a =
    let w = call_named (chain_of h.0) x h.2 in
    fails_within want_call want_unary (λ c. (w.0.0, w.0.1, c)) ts (drop 1 mid) f (λ c. h.4 c ∙ paren_taken c h.0 w.0 mid w.1 k) a

-- ## atom
group_taken : (ts : List Sym) (c : InUnary) → is_left_paren (head ts) ≡ true → run ts (want_unary c) ≡ run (drop 1 ts) (want_group c)
group_taken ts c h = run-resume ts (want_unary c) ∙ taken ts s.left_paren (step (want_unary c)) (want_group c) (left_paren_is (head ts) h) refl

pub atom_group : (ts rest : List Sym) (e : Expr) → is_left_paren (head ts) ≡ true → GroupRead (drop 1 ts) e rest → AtomRead ts e rest
atom_group ts rest e h a =
    let n = one_less ts s.left_paren (left_paren_is (head ts) h) in
    (group a.0, a.1, ap name_of (sym (left_paren_is (head ts) h)), omega (arith, a.2, n), λ c. group_taken ts c h ∙ a.3 c ∙ run-resume rest (have_access (first (group a.0)) c))

pub atom_group_fails : (ts : List Sym) (f : Stop) → is_left_paren (head ts) ≡ true → Fails want_group (drop 1 ts) f → Fails want_unary ts f
atom_group_fails ts f h a = fails_within want_group want_unary (λ c. c) ts (drop 1 ts) f (λ c. group_taken ts c h) a

atom_begins : (t : Option Sym) (a : Atom) (c : InUnary) → atom_of t ≡ Some a → begin_unary t c ≡ goes (have_access (first a) c)
atom_begins (Some (s.number n)) a c h = ap (λ b. goes (have_access (first b) c)) (same_Some _ a h)
atom_begins (Some s.decimal) a c h = ap (λ b. goes (have_access (first b) c)) (same_Some _ a h)
atom_begins (Some (s.quoted x)) a c h = ap (λ b. goes (have_access (first b) c)) (same_Some _ a h)
atom_begins (Some (s.literal v)) a c h = ap (λ b. goes (have_access (first b) c)) (same_Some _ a h)
atom_begins (Some (s.name x)) a c h = ap (λ b. goes (have_access (first b) c)) (same_Some _ a h)
atom_begins t a c h = let p : ⊥ = cc in absurd p

atom_named : (t : Option Sym) (a : Atom) → atom_of t ≡ Some a → chain_name (first a) ≡ name_of t
atom_named (Some (s.number n)) a h = ap (λ b. chain_name (first b)) (sym (same_Some _ a h))
atom_named (Some s.decimal) a h = ap (λ b. chain_name (first b)) (sym (same_Some _ a h))
atom_named (Some (s.quoted x)) a h = ap (λ b. chain_name (first b)) (sym (same_Some _ a h))
atom_named (Some (s.literal v)) a h = ap (λ b. chain_name (first b)) (sym (same_Some _ a h))
atom_named (Some (s.name x)) a h = ap (λ b. chain_name (first b)) (sym (same_Some _ a h))
atom_named t a h = let p : ⊥ = cc in absurd p

atom_leads : (ts : List Sym) (a : Atom) (c : InUnary) → atom_of (head ts) ≡ Some a → run ts (want_unary c) ≡ run (drop 1 ts) (have_access (first a) c)
atom_leads [] a c h = let p : ⊥ = cc in absurd p
atom_leads (t ∷ ts) a c h = ap (λ o. go_on o (t ∷ ts) (run ts)) (atom_begins (Some t) a c h)

pub atom_read : (ts : List Sym) (o : Option Atom) (e : Expr) → atom_of (head ts) ≡ o → Some e ≡ option_map atom_expr o → AtomRead ts e (drop 1 ts)
atom_read ts None e h k = let p : ⊥ = cc in absurd p
atom_read [] (Some a) e h k = let p : ⊥ = cc in absurd p
atom_read (t ∷ ts) (Some a) e h k = (a, sym (same_Some e (atom_expr a) k), atom_named (Some t) a h, omega arith, λ c. atom_leads (t ∷ ts) a c h ∙ run-resume ts (have_access (first a) c))

-- ## arguments
none_taken : (ts : List Sym) (k : Called) → is_right_paren (head ts) ≡ true → run ts (want_call k) ≡ run (drop 1 ts) (have_access (first (call k.0 k.1 no_args)) k.2)
none_taken ts k h = run-resume ts (want_call k) ∙ taken ts s.right_paren (step (want_call k)) (have_access (first (call k.0 k.1 no_args)) k.2) (right_paren_is (head ts) h) refl

pub args_none : (ts : List Sym) → is_right_paren (head ts) ≡ true → ArgsRead ts [] (drop 1 ts)
args_none ts h = let n = one_less ts s.right_paren (right_paren_is (head ts) h) in (no_args, refl, omega (arith, n), λ k. none_taken ts k h)

given_closes : (k : Called) (a : Args) (d : Ors) (rest : List Sym) → is_or (head rest) ≡ false → resume rest (after_or (in_args k.0 k.1 a k.2) d) ≡ resume rest (after_given k.0 k.1 (with_arg a d) k.2)
given_closes k a d rest h = resume-head rest (after_or (in_args k.0 k.1 a k.2) d) (after_given k.0 k.1 (with_arg a d) k.2) (if_false (is_or (head rest)) _ _ h)

pub given_first : (ts rest : List Sym) (e : Expr) → is_right_paren (head ts) ≡ false → OrRead ts e rest → GivenSoFar ts (e ∷ []) rest
given_first ts rest e h a =
    (given_one a.0.0, ap (λ x. x ∷ []) a.0.1, a.0.2, λ k. begin_arg ts k.0 k.1 k.2 h ∙ a.0.3 (in_args k.0 k.1 no_args k.2) ∙ given_closes k no_args a.0.0 rest a.1)

pub given_first_fails : (ts : List Sym) (f : Stop) → is_right_paren (head ts) ≡ false → Fails want_or ts f → Fails want_call ts f
given_first_fails ts f h a = fails_within want_or want_call (λ k. in_args k.0 k.1 no_args k.2) ts ts f (λ k. begin_arg ts k.0 k.1 k.2 h) a

comma_taken : (ts : List Sym) (g : Given) (k : Called) → is_comma (head ts) ≡ true → resume ts (after_given k.0 k.1 g k.2) ≡ run (drop 1 ts) (want_or (in_args k.0 k.1 (args g) k.2))
comma_taken ts g k h = taken ts s.comma (after_given k.0 k.1 g k.2) (want_or (in_args k.0 k.1 (args g) k.2)) (comma_is (head ts) h) refl

pub given_next : (ts mid rest : List Sym) (es : List Expr) (e : Expr) → GivenSoFar ts es mid → is_comma (head mid) ≡ true → OrRead (drop 1 mid) e rest → GivenSoFar ts (es ++ e ∷ []) rest
given_next ts mid rest es e g h a =
    let n = one_less mid s.comma (comma_is (head mid) h) in (
      given_more g.0 a.0.0,
      ap (λ l. l ++ or_expr a.0.0 ∷ []) g.1 ∙ ap (λ x. es ++ x ∷ []) a.0.1,
      omega (arith, g.2, a.0.2, n),
      λ k. g.3 k ∙ comma_taken mid g.0 k h ∙ a.0.3 (in_args k.0 k.1 (args g.0) k.2) ∙ given_closes k (args g.0) a.0.0 rest a.1,
    )

args_taken : (ts : List Sym) (g : Given) (k : Called) → is_right_paren (head ts) ≡ true → resume ts (after_given k.0 k.1 g k.2) ≡ run (drop 1 ts) (have_access (first (call k.0 k.1 (args g))) k.2)
args_taken ts g k h = taken ts s.right_paren (after_given k.0 k.1 g k.2) (have_access (first (call k.0 k.1 (args g))) k.2) (right_paren_is (head ts) h) refl

pub args_closed : (ts mid : List Sym) (es : List Expr) → GivenSoFar ts es mid → is_right_paren (head mid) ≡ true → ArgsRead ts es (drop 1 mid)
args_closed ts mid es g h =
    let n = one_less mid s.right_paren (right_paren_is (head mid) h) in
    (args g.0, g.1, omega (arith, g.2, n), λ k. g.3 k ∙ args_taken mid g.0 k h)
