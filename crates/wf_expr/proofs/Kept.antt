-- What the machine has read is kept in the place that it has come to.
use Rattle.std.proofs.Common.{◌≡◌, Bool, true, false, List, [], ◌∷◌, ◌++◌, Option, Some, None, option_map, if◌then◌else◌, refl, sym, ap, ◌∙◌, subst, append_assoc, append-nil}
use Rattle.std.proofs.lemmas.Option.{same_Some}
use Rattle.wf_ast.specs.declared.expr.Op.{Op}
use Rattle.wf_ast.specs.declared.expr.Op.TheVariants as op
use Rattle.wf_expr.specs.Grammar.{Ors, or_one, or_more, Ands, and_one, and_more, Nots, not_one, negated, alone, compared, Sums, sum_one, sum_more, Terms, term_one, term_more, Unary, plain, minus, Access, first, at_name, at_index, number, decimal, quoted, literal, name, call, group, Args, no_args, args, names_text, or_text, and_text, not_text, sum_text, term_text, unary_text, access_text, args_text, given_text}
use Rattle.wf_expr.specs.Machine.{InOr, top, in_place, in_group, in_index, in_args, InAnd, first_and, next_and, InNot, first_not, next_not, after_not, InSum, left, right, InTerm, first_term, next_term, InUnary, first_unary, next_unary, after_minus, State, want_not, want_unary, have_access, want_name, want_args, want_target, have_target, want_target_name, Next, nowhere, goes, ends, is_end, is_or, is_and, is_not, is_point, is_comma, is_left_paren, is_right_paren, is_left_bracket, is_right_bracket, is_minus, relation_of, sign_of, product_of, name_of, atom_of, by_atom, begin_unary, begin_not, begin_args, begin_name, by_op, with_arg, close_or, after_or, whole_and, after_and, whole_not, whole_sum, after_sum, whole_term, after_term, whole_unary, chain_of, by_chain, after_access, begin_target, begin_target_name, after_target, step}
use Rattle.wf_expr.specs.Symbols.{Sym}
use Rattle.wf_expr.specs.Symbols as s
use Rattle.wf_expr.specs.Targets.{is_target}
use Rattle.wf_value.specs.Pairs.{Text}

-- ## What was read so far
-- the arguments before another one
abbrev pub before_arg : Args → List Sym
before_arg no_args = []
before_arg (args g) = given_text g ++ s.comma ∷ []

-- a call up to its `(`
abbrev pub call_begun : Text → List Text → List Sym
call_begun x xs = s.name x ∷ (names_text xs ++ s.left_paren ∷ [])

abbrev mutual
  pub before_or : InOr → List Sym
  before_or top = []
  before_or (in_place a) = access_text a ++ s.left_bracket ∷ []
  before_or (in_group c) = before_unary c ++ s.left_paren ∷ []
  before_or (in_index a c) = before_unary c ++ (access_text a ++ s.left_bracket ∷ [])
  before_or (in_args x xs a c) = before_unary c ++ (call_begun x xs ++ before_arg a)

  pub before_and : InAnd → List Sym
  before_and (first_and c) = before_or c
  before_and (next_and d c) = before_or c ++ (or_text d ++ s.or ∷ [])

  pub before_not : InNot → List Sym
  before_not (first_not c) = before_and c
  before_not (next_not d c) = before_and c ++ (and_text d ++ s.and ∷ [])
  before_not (after_not c) = before_not c ++ s.not ∷ []

  pub before_sum : InSum → List Sym
  before_sum (left c) = before_not c
  before_sum (right a o c) = before_not c ++ (sum_text a ++ s.relation o ∷ [])

  pub before_term : InTerm → List Sym
  before_term (first_term c) = before_sum c
  before_term (next_term d o c) = before_sum c ++ (sum_text d ++ s.sign o ∷ [])

  pub before_unary : InUnary → List Sym
  before_unary (first_unary c) = before_term c
  before_unary (next_unary d o c) = before_term c ++ (term_text d ++ s.product o ∷ [])
  before_unary (after_minus c) = before_unary c ++ s.sign op.Sub ∷ []

abbrev pub so_far : State → List Sym
so_far (want_not c) = before_not c
so_far (want_unary c) = before_unary c
so_far (have_access a c) = before_unary c ++ access_text a
so_far (want_name a c) = before_unary c ++ (access_text a ++ s.point ∷ [])
so_far (want_args x xs c) = before_unary c ++ call_begun x xs
so_far want_target = []
so_far (have_target a) = access_text a
so_far (want_target_name a) = access_text a ++ s.point ∷ []

-- ## What is read: an expression, or a target
-- None where an expression is read; where it is a target, whether what was read of it is one
abbrev mutual
  pub aim_or : InOr → Option Bool
  aim_or top = None
  aim_or (in_place a) = Some (is_target a)
  aim_or (in_group c) = aim_unary c
  aim_or (in_index a c) = aim_unary c
  aim_or (in_args x xs a c) = aim_unary c

  pub aim_and : InAnd → Option Bool
  aim_and (first_and c) = aim_or c
  aim_and (next_and d c) = aim_or c

  pub aim_not : InNot → Option Bool
  aim_not (first_not c) = aim_and c
  aim_not (next_not d c) = aim_and c
  aim_not (after_not c) = aim_not c

  pub aim_sum : InSum → Option Bool
  aim_sum (left c) = aim_not c
  aim_sum (right a o c) = aim_not c

  pub aim_term : InTerm → Option Bool
  aim_term (first_term c) = aim_sum c
  aim_term (next_term d o c) = aim_sum c

  pub aim_unary : InUnary → Option Bool
  aim_unary (first_unary c) = aim_term c
  aim_unary (next_unary d o c) = aim_term c
  aim_unary (after_minus c) = aim_unary c

abbrev pub aim : State → Option Bool
aim (want_not c) = aim_not c
aim (want_unary c) = aim_unary c
aim (have_access a c) = aim_unary c
aim (want_name a c) = aim_unary c
aim (want_args x xs c) = aim_unary c
aim want_target = Some true
aim (have_target a) = Some (is_target a)
aim (want_target_name a) = Some (is_target a)

-- a symbol leads to a place with that symbol behind what was read, and the same is read there; at the end the text stays
abbrev pub one_more : List Sym → Option Sym → List Sym
one_more ts None = ts
one_more ts (Some t) = ts ++ t ∷ []

abbrev pub Reads : Option Bool → List Sym → Option Sym → Next → Type 0
Reads b ts t nowhere = Unit {0}
Reads b ts t (goes st) = (so_far st ≡ one_more ts t) × (aim st ≡ b)
Reads b ts t (ends d) = (t ≡ None) × (or_text d ≡ ts)

if_reads : (b : Option Bool) (p : Bool) (ts : List Sym) (t : Option Sym) (x y : Next) → (p ≡ true → Reads b ts t x) → Reads b ts t y → Reads b ts t (if p then x else y)
if_reads b true ts t x y h k = h refl
if_reads b false ts t x y h k = k

by_op_reads : (b : Option Bool) (o : Option Op) (ts : List Sym) (t : Option Sym) (f : Op → State) (y : Next) → ((r : Op) → o ≡ Some r → (so_far (f r) ≡ one_more ts t) × (aim (f r) ≡ b)) → Reads b ts t y → Reads b ts t (by_op o f y)
by_op_reads b None ts t f y h k = k
by_op_reads b (Some r) ts t f y h k = h r refl

moved : (b : Option Bool) (ts us : List Sym) (t : Option Sym) (o : Next) → ts ≡ us → Reads b ts t o → Reads b us t o
moved b ts us t o e h = subst (λ (l : List Sym). Reads b l t o) e h

-- ## What a symbol is that passes a test
pub or_is : (t : Option Sym) → is_or t ≡ true → t ≡ Some s.or
or_is (Some s.or) h = refl
or_is t h = cc

pub and_is : (t : Option Sym) → is_and t ≡ true → t ≡ Some s.and
and_is (Some s.and) h = refl
and_is t h = cc

pub not_is : (t : Option Sym) → is_not t ≡ true → t ≡ Some s.not
not_is (Some s.not) h = refl
not_is t h = cc

pub point_is : (t : Option Sym) → is_point t ≡ true → t ≡ Some s.point
point_is (Some s.point) h = refl
point_is t h = cc

pub comma_is : (t : Option Sym) → is_comma t ≡ true → t ≡ Some s.comma
comma_is (Some s.comma) h = refl
comma_is t h = cc

pub left_paren_is : (t : Option Sym) → is_left_paren t ≡ true → t ≡ Some s.left_paren
left_paren_is (Some s.left_paren) h = refl
left_paren_is t h = cc

pub right_paren_is : (t : Option Sym) → is_right_paren t ≡ true → t ≡ Some s.right_paren
right_paren_is (Some s.right_paren) h = refl
right_paren_is t h = cc

pub left_bracket_is : (t : Option Sym) → is_left_bracket t ≡ true → t ≡ Some s.left_bracket
left_bracket_is (Some s.left_bracket) h = refl
left_bracket_is t h = cc

pub right_bracket_is : (t : Option Sym) → is_right_bracket t ≡ true → t ≡ Some s.right_bracket
right_bracket_is (Some s.right_bracket) h = refl
right_bracket_is t h = cc

pub minus_is : (t : Option Sym) → is_minus t ≡ true → t ≡ Some (s.sign op.Sub)
minus_is (Some (s.sign op.Sub)) h = refl
minus_is t h = cc

end_is : (t : Option Sym) → is_end t ≡ true → t ≡ None
end_is None h = refl
end_is (Some t) h = cc

pub relation_is : (t : Option Sym) (o : Op) → relation_of t ≡ Some o → t ≡ Some (s.relation o)
relation_is (Some (s.relation r)) o h = ap (λ x. Some (s.relation x)) (same_Some r o h)
relation_is t o h = cc

pub sign_is : (t : Option Sym) (o : Op) → sign_of t ≡ Some o → t ≡ Some (s.sign o)
sign_is (Some (s.sign r)) o h = ap (λ x. Some (s.sign x)) (same_Some r o h)
sign_is t o h = cc

pub product_is : (t : Option Sym) (o : Op) → product_of t ≡ Some o → t ≡ Some (s.product o)
product_is (Some (s.product r)) o h = ap (λ x. Some (s.product x)) (same_Some r o h)
product_is t o h = cc

pub name_is : (t : Option Sym) (x : Text) → name_of t ≡ Some x → t ≡ Some (s.name x)
name_is (Some (s.name y)) x h = ap (λ z. Some (s.name z)) (same_Some y x h)
name_is t x h = cc

-- ## A symbol behind what was read
behind : (b c : List Sym) (t : Option Sym) (m : Sym) → t ≡ Some m → b ++ (c ++ m ∷ []) ≡ one_more (b ++ c) t
behind b c t m h = sym (append_assoc b c (m ∷ [])) ∙ ap (one_more (b ++ c)) (sym h)

just_behind : (b : List Sym) (t : Option Sym) (m : Sym) → t ≡ Some m → b ++ m ∷ [] ≡ one_more b t
just_behind b t m h = ap (one_more b) (sym h)

-- a part in brackets, or an index of a target
closed : (b c : List Sym) (x y : Sym) (t : Option Sym) → t ≡ Some y → b ++ (x ∷ (c ++ y ∷ [])) ≡ one_more ((b ++ x ∷ []) ++ c) t
closed b c x y t h = (simp append_assoc) ∙ ap (one_more ((b ++ x ∷ []) ++ c)) (sym h)

-- an index behind a part
indexed : (b a c : List Sym) (x y : Sym) (t : Option Sym) → t ≡ Some y → b ++ (a ++ (x ∷ (c ++ y ∷ []))) ≡ one_more ((b ++ (a ++ x ∷ [])) ++ c) t
indexed b a c x y t h = (simp append_assoc) ∙ ap (one_more ((b ++ (a ++ x ∷ [])) ++ c)) (sym h)

-- a part, a sign and a part, as one
pub three : (b x y : List Sym) (m : Sym) → b ++ (x ++ m ∷ y) ≡ (b ++ (x ++ m ∷ [])) ++ y
three b x y m = simp append_assoc

-- ## Calls
pub with_arg_text : (a : Args) (d : Ors) → given_text (with_arg a d) ≡ before_arg a ++ or_text d
with_arg_text no_args d = refl
with_arg_text (args g) d = sym (append_assoc (given_text g) (s.comma ∷ []) (or_text d))

pub names_more : (xs : List Text) (x : Text) → names_text (xs ++ x ∷ []) ≡ names_text xs ++ (s.point ∷ s.name x ∷ [])
names_more [] x = refl
names_more (y ∷ xs) x = ap (λ l. s.point ∷ s.name y ∷ l) (names_more xs x)

-- a chain of names is spelled as one
abbrev Spells : List Sym → Option (Text × List Text) → Type 0
Spells ts None = Unit {0}
Spells ts (Some f) = ts ≡ s.name f.0 ∷ names_text f.1

spells_more : (o : Option (Text × List Text)) (ts : List Sym) (x : Text) → Spells ts o → Spells (ts ++ (s.point ∷ s.name x ∷ [])) (option_map (λ f. (f.0, f.1 ++ x ∷ [])) o)
spells_more None ts x h = tt
spells_more (Some f) ts x h = ap (λ l. l ++ (s.point ∷ s.name x ∷ [])) h ∙ ap (λ l. s.name f.0 ∷ l) (sym (names_more f.1 x))

chain_spells : (a : Access) → Spells (access_text a) (chain_of a)
chain_spells (first (name x)) = refl
chain_spells (first (number n)) = tt
chain_spells (first decimal) = tt
chain_spells (first (quoted x)) = tt
chain_spells (first (literal v)) = tt
chain_spells (first (call x xs a)) = tt
chain_spells (first (group d)) = tt
chain_spells (at_name d x) = spells_more (chain_of d) (access_text d) x (chain_spells d)
chain_spells (at_index d i) = tt

chain_begun : (b : List Sym) (x : Text) (xs : List Text) (l : List Sym) (t : Option Sym) → l ≡ s.name x ∷ names_text xs → t ≡ Some s.left_paren → b ++ call_begun x xs ≡ one_more (b ++ l) t
chain_begun b x xs l t h k =
    sym (append_assoc b (s.name x ∷ names_text xs) (s.left_paren ∷ []))
    ∙ ap (λ m. (b ++ m) ++ s.left_paren ∷ []) (sym h)
    ∙ ap (one_more (b ++ l)) (sym k)

chain_reads : (o : Option (Text × List Text)) (c : InUnary) (l : List Sym) (t : Option Sym) (y : Next) → Spells l o → t ≡ Some s.left_paren → Reads (aim_unary c) (before_unary c ++ l) t y → Reads (aim_unary c) (before_unary c ++ l) t (by_chain o c y)
chain_reads None c l t y h k r = r
chain_reads (Some f) c l t y h k r = (chain_begun (before_unary c) f.0 f.1 l t h k, refl)

-- an argument that is closed, or a comma behind it
arg_text : (c : InUnary) (x : Text) (xs : List Text) (a : Args) (d : Ors) (m : Sym) → before_unary c ++ (call_begun x xs ++ (given_text (with_arg a d) ++ m ∷ [])) ≡ ((before_unary c ++ (call_begun x xs ++ before_arg a)) ++ or_text d) ++ m ∷ []
arg_text c x xs a d m = ap (λ l. before_unary c ++ (call_begun x xs ++ (l ++ m ∷ []))) (with_arg_text a d) ∙ (simp append_assoc)

pub call_text : (c : InUnary) (x : Text) (xs : List Text) (a : Args) → before_unary c ++ access_text (first (call x xs a)) ≡ before_unary c ++ (call_begun x xs ++ (args_text a ++ s.right_paren ∷ []))
call_text c x xs a = ap (λ l. before_unary c ++ s.name x ∷ l) (sym (append_assoc (names_text xs) (s.left_paren ∷ []) (args_text a ++ s.right_paren ∷ [])))

arg_more : (c : InUnary) (x : Text) (xs : List Text) (a : Args) (d : Ors) (t : Option Sym) → t ≡ Some s.comma → before_or (in_args x xs (args (with_arg a d)) c) ≡ one_more (before_or (in_args x xs a c) ++ or_text d) t
arg_more c x xs a d t h = arg_text c x xs a d s.comma ∙ ap (one_more (before_or (in_args x xs a c) ++ or_text d)) (sym h)

arg_last : (c : InUnary) (x : Text) (xs : List Text) (a : Args) (d : Ors) (t : Option Sym) → t ≡ Some s.right_paren → before_unary c ++ access_text (first (call x xs (args (with_arg a d)))) ≡ one_more (before_or (in_args x xs a c) ++ or_text d) t
arg_last c x xs a d t h = call_text c x xs (args (with_arg a d)) ∙ arg_text c x xs a d s.right_paren ∙ ap (one_more (before_or (in_args x xs a c) ++ or_text d)) (sym h)

-- ## Each part
close_reads : (c : InOr) (d : Ors) (t : Option Sym) → Reads (aim_or c) (before_or c ++ or_text d) t (close_or c d t)
close_reads top d t = if_reads _ (is_end t) _ t _ _ (λ h. (end_is t h, refl)) tt
close_reads (in_place a) d t = if_reads _ (is_right_bracket t) _ t _ _ (λ h. (closed (access_text a) (or_text d) s.left_bracket s.right_bracket t (right_bracket_is t h), refl)) tt
close_reads (in_group c) d t = if_reads _ (is_right_paren t) _ t _ _ (λ h. (closed (before_unary c) (or_text d) s.left_paren s.right_paren t (right_paren_is t h), refl)) tt
close_reads (in_index a c) d t = if_reads _ (is_right_bracket t) _ t _ _ (λ h. (indexed (before_unary c) (access_text a) (or_text d) s.left_bracket s.right_bracket t (right_bracket_is t h), refl)) tt
close_reads (in_args x xs a c) d t =
    if_reads _ (is_comma t) _ t _ _ (λ h. (arg_more c x xs a d t (comma_is t h), refl))
    (if_reads _ (is_right_paren t) _ t _ _ (λ h. (arg_last c x xs a d t (right_paren_is t h), refl)) tt)

reads_or : (c : InOr) (d : Ors) (t : Option Sym) → Reads (aim_or c) (before_or c ++ or_text d) t (after_or c d t)
reads_or c d t = if_reads _ (is_or t) _ t _ _ (λ h. (behind (before_or c) (or_text d) t s.or (or_is t h), refl)) (close_reads c d t)

reads_whole_and : (c : InAnd) (d : Ands) (t : Option Sym) → Reads (aim_and c) (before_and c ++ and_text d) t (whole_and c d t)
reads_whole_and (first_and c) d t = reads_or c (or_one d) t
reads_whole_and (next_and ds c) d t = moved _ _ _ t _ (three (before_or c) (or_text ds) (and_text d) s.or) (reads_or c (or_more ds d) t)

reads_and : (c : InAnd) (d : Ands) (t : Option Sym) → Reads (aim_and c) (before_and c ++ and_text d) t (after_and c d t)
reads_and c d t = if_reads _ (is_and t) _ t _ _ (λ h. (behind (before_and c) (and_text d) t s.and (and_is t h), refl)) (reads_whole_and c d t)

reads_whole_not : (c : InNot) (d : Nots) (t : Option Sym) → Reads (aim_not c) (before_not c ++ not_text d) t (whole_not c d t)
reads_whole_not (first_not c) d t = reads_and c (and_one d) t
reads_whole_not (next_not ds c) d t = moved _ _ _ t _ (three (before_and c) (and_text ds) (not_text d) s.and) (reads_and c (and_more ds d) t)
reads_whole_not (after_not c) d t = moved _ _ _ t _ (sym (append_assoc (before_not c) (s.not ∷ []) (not_text d))) (reads_whole_not c (negated d) t)

reads_whole_sum : (c : InSum) (d : Sums) (t : Option Sym) → Reads (aim_sum c) (before_sum c ++ sum_text d) t (whole_sum c d t)
reads_whole_sum (left c) d t = by_op_reads _ (relation_of t) _ t _ _ (λ o h. (behind (before_not c) (sum_text d) t (s.relation o) (relation_is t o h), refl)) (reads_whole_not c (not_one (alone d)) t)
reads_whole_sum (right a o c) d t = moved _ _ _ t _ (three (before_not c) (sum_text a) (sum_text d) (s.relation o)) (reads_whole_not c (not_one (compared a o d)) t)

reads_sum : (c : InSum) (d : Sums) (t : Option Sym) → Reads (aim_sum c) (before_sum c ++ sum_text d) t (after_sum c d t)
reads_sum c d t = by_op_reads _ (sign_of t) _ t _ _ (λ o h. (behind (before_sum c) (sum_text d) t (s.sign o) (sign_is t o h), refl)) (reads_whole_sum c d t)

reads_whole_term : (c : InTerm) (d : Terms) (t : Option Sym) → Reads (aim_term c) (before_term c ++ term_text d) t (whole_term c d t)
reads_whole_term (first_term c) d t = reads_sum c (sum_one d) t
reads_whole_term (next_term ds o c) d t = moved _ _ _ t _ (three (before_sum c) (sum_text ds) (term_text d) (s.sign o)) (reads_sum c (sum_more ds o d) t)

reads_term : (c : InTerm) (d : Terms) (t : Option Sym) → Reads (aim_term c) (before_term c ++ term_text d) t (after_term c d t)
reads_term c d t = by_op_reads _ (product_of t) _ t _ _ (λ o h. (behind (before_term c) (term_text d) t (s.product o) (product_is t o h), refl)) (reads_whole_term c d t)

reads_whole_unary : (c : InUnary) (d : Unary) (t : Option Sym) → Reads (aim_unary c) (before_unary c ++ unary_text d) t (whole_unary c d t)
reads_whole_unary (first_unary c) d t = reads_term c (term_one d) t
reads_whole_unary (next_unary ds o c) d t = moved _ _ _ t _ (three (before_term c) (term_text ds) (unary_text d) (s.product o)) (reads_term c (term_more ds o d) t)
reads_whole_unary (after_minus c) d t = moved _ _ _ t _ (sym (append_assoc (before_unary c) (s.sign op.Sub ∷ []) (unary_text d))) (reads_whole_unary c (minus d) t)

reads_access : (c : InUnary) (a : Access) (t : Option Sym) → Reads (aim_unary c) (before_unary c ++ access_text a) t (after_access c a t)
reads_access c a t =
    if_reads _ (is_point t) _ t _ _ (λ h. (behind (before_unary c) (access_text a) t s.point (point_is t h), refl))
    (if_reads _ (is_left_bracket t) _ t _ _ (λ h. (behind (before_unary c) (access_text a) t s.left_bracket (left_bracket_is t h), refl))
    (if_reads _ (is_left_paren t) _ t _ _ (λ h. chain_reads (chain_of a) c (access_text a) t _ (chain_spells a) (left_paren_is t h) (reads_whole_unary c (plain a) t))
    (reads_whole_unary c (plain a) t)))

reads_atom : (c : InUnary) (t : Option Sym) → Reads (aim_unary c) (before_unary c) t (by_atom (atom_of t) c)
reads_atom c (Some (s.number n)) = (refl, refl)
reads_atom c (Some s.decimal) = (refl, refl)
reads_atom c (Some (s.quoted x)) = (refl, refl)
reads_atom c (Some (s.literal v)) = (refl, refl)
reads_atom c (Some (s.name x)) = (refl, refl)
reads_atom c t = tt

reads_begin_unary : (c : InUnary) (t : Option Sym) → Reads (aim_unary c) (before_unary c) t (begin_unary t c)
reads_begin_unary c t =
    if_reads _ (is_minus t) _ t _ _ (λ h. (just_behind (before_unary c) t (s.sign op.Sub) (minus_is t h), refl))
    (if_reads _ (is_left_paren t) _ t _ _ (λ h. (just_behind (before_unary c) t s.left_paren (left_paren_is t h), refl)) (reads_atom c t))

reads_begin_not : (c : InNot) (t : Option Sym) → Reads (aim_not c) (before_not c) t (begin_not t c)
reads_begin_not c t = if_reads _ (is_not t) _ t _ _ (λ h. (just_behind (before_not c) t s.not (not_is t h), refl)) (reads_begin_unary (first_unary (first_term (left c))) t)

point_name : (b l : List Sym) (m n : Sym) → b ++ (l ++ m ∷ n ∷ []) ≡ (b ++ (l ++ m ∷ [])) ++ n ∷ []
point_name b l m n = simp append_assoc

reads_name : (a : Access) (c : InUnary) (t : Option Sym) → Reads (aim_unary c) (so_far (want_name a c)) t (begin_name (name_of t) a c)
reads_name a c (Some (s.name x)) = (point_name (before_unary c) (access_text a) s.point (s.name x), refl)
reads_name a c t = tt

no_more : (x : Text) (xs : List Text) (c : InUnary) → before_or (in_args x xs no_args c) ≡ so_far (want_args x xs c)
no_more x xs c = ap (λ l. before_unary c ++ l) (append-nil (call_begun x xs))

call_closed : (c : InUnary) (x : Text) (xs : List Text) (t : Option Sym) → t ≡ Some s.right_paren → before_unary c ++ access_text (first (call x xs no_args)) ≡ one_more (before_unary c ++ call_begun x xs) t
call_closed c x xs t h = call_text c x xs no_args ∙ behind (before_unary c) (call_begun x xs) t s.right_paren h

reads_args : (x : Text) (xs : List Text) (c : InUnary) (t : Option Sym) → Reads (aim_unary c) (so_far (want_args x xs c)) t (begin_args t x xs c)
reads_args x xs c t =
    if_reads _ (is_right_paren t) _ t _ _ (λ h. (call_closed c x xs t (right_paren_is t h), refl))
    (moved _ _ _ t _ (no_more x xs c) (reads_begin_not (first_not (first_and (in_args x xs no_args c))) t))

-- ## Targets
reads_target : (t : Option Sym) → Reads (Some true) [] t (begin_target (name_of t))
reads_target (Some (s.name x)) = (refl, refl)
reads_target t = tt

name_behind : (a : List Sym) (m n : Sym) → a ++ (m ∷ n ∷ []) ≡ (a ++ m ∷ []) ++ n ∷ []
name_behind a m n = simp append_assoc

reads_target_name : (a : Access) (t : Option Sym) → Reads (Some (is_target a)) (access_text a ++ s.point ∷ []) t (begin_target_name (name_of t) a)
reads_target_name a (Some (s.name x)) = (name_behind (access_text a) s.point (s.name x), refl)
reads_target_name a t = tt

reads_after_target : (a : Access) (t : Option Sym) → Reads (Some (is_target a)) (access_text a) t (after_target a t)
reads_after_target a t =
    if_reads _ (is_point t) _ t _ _ (λ h. (just_behind (access_text a) t s.point (point_is t h), refl))
    (if_reads _ (is_left_bracket t) _ t _ _ (λ h. (just_behind (access_text a) t s.left_bracket (left_bracket_is t h), refl))
    (if_reads _ (is_end t) _ t _ _ (λ h. (end_is t h, refl)) tt))

pub reads : (st : State) (t : Option Sym) → Reads (aim st) (so_far st) t (step st t)
reads (want_not c) t = reads_begin_not c t
reads (want_unary c) t = reads_begin_unary c t
reads (have_access a c) t = reads_access c a t
reads (want_name a c) t = reads_name a c t
reads (want_args x xs c) t = reads_args x xs c t
reads want_target t = reads_target t
reads (have_target a) t = reads_after_target a t
reads (want_target_name a) t = reads_target_name a t
