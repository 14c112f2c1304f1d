-- The places in symbols that are read from the left: what was read so far, and what comes next there.
--     step     where the next symbol leads
--     run      how the symbols go on from a place
-- A target is read as the expression that it is, from a place of its own.
use Rattle.std.specs.Prelude.{Bool, true, false, List, [], ◌∷◌, ◌++◌, Option, Some, None, option_map, if◌then◌else◌}
use Rattle.wf_ast.specs.declared.expr.Op.{Op}
use Rattle.wf_ast.specs.declared.expr.Op.TheVariants as op
use Rattle.wf_expr.specs.Grammar.{Ors, or_one, or_more, Ands, and_one, and_more, Nots, not_one, negated, alone, compared, Sums, sum_one, sum_more, Terms, term_one, term_more, Unary, plain, minus, Access, first, at_name, at_index, Atom, number, decimal, quoted, literal, name, call, group, Args, no_args, args, Given, given_one, given_more}
use Rattle.wf_expr.specs.Symbols.{Sym}
use Rattle.wf_expr.specs.Symbols as sym
use Rattle.wf_value.specs.Pairs.{Text}

-- ## Places
mutual
  -- where an `or` stands: it is the text, an index in a target, stands in brackets, is an index, or an argument behind others
  pub data InOr : Type 0 where
    top : InOr
    in_place : Access → InOr
    in_group : InUnary → InOr
    in_index : Access → InUnary → InOr
    in_args : Text → List Text → Args → InUnary → InOr

  pub data InAnd : Type 0 where
    first_and : InOr → InAnd
    next_and : Ors → InOr → InAnd

  pub data InNot : Type 0 where
    first_not : InAnd → InNot
    next_not : Ands → InAnd → InNot
    after_not : InNot → InNot

  pub data InSum : Type 0 where
    left : InNot → InSum
    right : Sums → Op → InNot → InSum

  pub data InTerm : Type 0 where
    first_term : InSum → InTerm
    next_term : Sums → Op → InSum → InTerm

  pub data InUnary : Type 0 where
    first_unary : InTerm → InUnary
    next_unary : Terms → Op → InTerm → InUnary
    after_minus : InUnary → InUnary

pub data State : Type 0 where
  want_not : InNot → State
  want_unary : InUnary → State
  have_access : Access → InUnary → State
  -- behind a point
  want_name : Access → InUnary → State
  -- behind the `(` of a call
  want_args : Text → List Text → InUnary → State
  want_target : State
  have_target : Access → State
  -- behind a point in a target
  want_target_name : Access → State

-- where a symbol leads, or the end
pub data Next : Type 0 where
  nowhere : Next
  goes : State → Next
  ends : Ors → Next

abbrev pub want_and : InAnd → State
want_and c = want_not (first_not c)

abbrev pub want_or : InOr → State
want_or c = want_and (first_and c)

abbrev pub want_term : InTerm → State
want_term c = want_unary (first_unary c)

abbrev pub want_sum : InSum → State
want_sum c = want_term (first_term c)

-- ## The symbol that comes, or none at the end
abbrev pub head : List Sym → Option Sym
head [] = None
head (t ∷ ts) = Some t

abbrev pub is_end : Option Sym → Bool
is_end None = true
is_end (Some t) = false

abbrev pub is_or : Option Sym → Bool
is_or (Some sym.or) = true
is_or t = false

abbrev pub is_and : Option Sym → Bool
is_and (Some sym.and) = true
is_and t = false

abbrev pub is_not : Option Sym → Bool
is_not (Some sym.not) = true
is_not t = false

abbrev pub is_point : Option Sym → Bool
is_point (Some sym.point) = true
is_point t = false

abbrev pub is_comma : Option Sym → Bool
is_comma (Some sym.comma) = true
is_comma t = false

abbrev pub is_left_paren : Option Sym → Bool
is_left_paren (Some sym.left_paren) = true
is_left_paren t = false

abbrev pub is_right_paren : Option Sym → Bool
is_right_paren (Some sym.right_paren) = true
is_right_paren t = false

abbrev pub is_left_bracket : Option Sym → Bool
is_left_bracket (Some sym.left_bracket) = true
is_left_bracket t = false

abbrev pub is_right_bracket : Option Sym → Bool
is_right_bracket (Some sym.right_bracket) = true
is_right_bracket t = false

abbrev pub is_minus : Option Sym → Bool
is_minus (Some (sym.sign op.Sub)) = true
is_minus t = false

abbrev pub relation_of : Option Sym → Option Op
relation_of (Some (sym.relation o)) = Some o
relation_of t = None

abbrev pub sign_of : Option Sym → Option Op
sign_of (Some (sym.sign o)) = Some o
sign_of t = None

abbrev pub product_of : Option Sym → Option Op
product_of (Some (sym.product o)) = Some o
product_of t = None

abbrev pub name_of : Option Sym → Option Text
name_of (Some (sym.name x)) = Some x
name_of t = None

-- the atom that the symbol is
abbrev pub atom_of : Option Sym → Option Atom
atom_of (Some (sym.number n)) = Some (number n)
atom_of (Some sym.decimal) = Some decimal
atom_of (Some (sym.quoted s)) = Some (quoted s)
atom_of (Some (sym.literal v)) = Some (literal v)
atom_of (Some (sym.name x)) = Some (name x)
atom_of t = None

-- ## A part begins
abbrev pub by_atom : Option Atom → InUnary → Next
by_atom None c = nowhere
by_atom (Some a) c = goes (have_access (first a) c)

abbrev pub begin_unary : Option Sym → InUnary → Next
begin_unary t c =
    if is_minus t then goes (want_unary (after_minus c))
    else if is_left_paren t then goes (want_or (in_group c))
    else by_atom (atom_of t) c

abbrev pub begin_not : Option Sym → InNot → Next
begin_not t c = if is_not t then goes (want_not (after_not c)) else begin_unary t (first_unary (first_term (left c)))

abbrev pub begin_args : Option Sym → Text → List Text → InUnary → Next
begin_args t x xs c =
    if is_right_paren t then goes (have_access (first (call x xs no_args)) c)
    else begin_not t (first_not (first_and (in_args x xs no_args c)))

abbrev pub begin_name : Option Text → Access → InUnary → Next
begin_name None a c = nowhere
begin_name (Some x) a c = goes (have_access (at_name a x) c)

-- ## A symbol behind a part: the part goes on, or is whole and what is around it goes on
abbrev pub by_op : Option Op → (Op → State) → Next → Next
by_op None f s = s
by_op (Some o) f s = goes (f o)

-- one more argument
abbrev pub with_arg : Args → Ors → Given
with_arg no_args d = given_one d
with_arg (args g) d = given_more g d

abbrev pub close_or : InOr → Ors → Option Sym → Next
close_or top d t = if is_end t then ends d else nowhere
close_or (in_place a) d t = if is_right_bracket t then goes (have_target (at_index a d)) else nowhere
close_or (in_group c) d t = if is_right_paren t then goes (have_access (first (group d)) c) else nowhere
close_or (in_index a c) d t = if is_right_bracket t then goes (have_access (at_index a d) c) else nowhere
close_or (in_args x xs a c) d t =
    if is_comma t then goes (want_or (in_args x xs (args (with_arg a d)) c))
    else if is_right_paren t then goes (have_access (first (call x xs (args (with_arg a d)))) c)
    else nowhere

abbrev pub after_or : InOr → Ors → Option Sym → Next
after_or c d t = if is_or t then goes (want_and (next_and d c)) else close_or c d t

abbrev pub whole_and : InAnd → Ands → Option Sym → Next
whole_and (first_and c) d t = after_or c (or_one d) t
whole_and (next_and ds c) d t = after_or c (or_more ds d) t

abbrev pub after_and : InAnd → Ands → Option Sym → Next
after_and c d t = if is_and t then goes (want_not (next_not d c)) else whole_and c d t

abbrev pub whole_not : InNot → Nots → Option Sym → Next
whole_not (first_not c) d t = after_and c (and_one d) t
whole_not (next_not ds c) d t = after_and c (and_more ds d) t
whole_not (after_not c) d t = whole_not c (negated d) t

abbrev pub whole_sum : InSum → Sums → Option Sym → Next
whole_sum (left c) d t = by_op (relation_of t) (λ o. want_sum (right d o c)) (whole_not c (not_one (alone d)) t)
whole_sum (right a o c) d t = whole_not c (not_one (compared a o d)) t

abbrev pub after_sum : InSum → Sums → Option Sym → Next
after_sum c d t = by_op (sign_of t) (λ o. want_term (next_term d o c)) (whole_sum c d t)

abbrev pub whole_term : InTerm → Terms → Option Sym → Next
whole_term (first_term c) d t = after_sum c (sum_one d) t
whole_term (next_term ds o c) d t = after_sum c (sum_more ds o d) t

abbrev pub after_term : InTerm → Terms → Option Sym → Next
after_term c d t = by_op (product_of t) (λ o. want_unary (next_unary d o c)) (whole_term c d t)

abbrev pub whole_unary : InUnary → Unary → Option Sym → Next
whole_unary (first_unary c) d t = after_term c (term_one d) t
whole_unary (next_unary ds o c) d t = after_term c (term_more ds o d) t
whole_unary (after_minus c) d t = whole_unary c (minus d) t

-- the name that a part is, with the names behind its points
abbrev pub chain_of : Access → Option (Text × List Text)
chain_of (first (name x)) = Some (x, [])
chain_of (first a) = None
chain_of (at_name d x) = option_map (λ f. (f.0, f.1 ++ x ∷ [])) (chain_of d)
chain_of (at_index d i) = None

abbrev pub by_chain : Option (Text × List Text) → InUnary → Next → Next
by_chain None c s = s
by_chain (Some f) c s = goes (want_args f.0 f.1 c)

abbrev pub after_access : InUnary → Access → Option Sym → Next
after_access c a t =
    if is_point t then goes (want_name a c)
    else if is_left_bracket t then goes (want_or (in_index a c))
    else if is_left_paren t then by_chain (chain_of a) c (whole_unary c (plain a) t)
    else whole_unary c (plain a) t

-- what comes behind an argument
abbrev pub after_given : Text → List Text → Given → InUnary → Option Sym → Next
after_given x xs g c t =
    if is_comma t then goes (want_or (in_args x xs (args g) c))
    else if is_right_paren t then goes (have_access (first (call x xs (args g))) c)
    else nowhere

-- ## A target
-- a part as the expression that it is
abbrev pub access_or : Access → Ors
access_or a = or_one (and_one (not_one (alone (sum_one (term_one (plain a))))))

abbrev pub begin_target : Option Text → Next
begin_target None = nowhere
begin_target (Some x) = goes (have_target (first (name x)))

abbrev pub begin_target_name : Option Text → Access → Next
begin_target_name None a = nowhere
begin_target_name (Some x) a = goes (have_target (at_name a x))

abbrev pub after_target : Access → Option Sym → Next
after_target a t =
    if is_point t then goes (want_target_name a)
    else if is_left_bracket t then goes (want_or (in_place a))
    else if is_end t then ends (access_or a)
    else nowhere

-- ## Each place
abbrev pub step : State → Option Sym → Next
step (want_not c) t = begin_not t c
step (want_unary c) t = begin_unary t c
step (have_access a c) t = after_access c a t
step (want_name a c) t = begin_name (name_of t) a c
step (want_args x xs c) t = begin_args t x xs c
step want_target t = begin_target (name_of t)
step (have_target a) t = after_target a t
step (want_target_name a) t = begin_target_name (name_of t) a

-- ## From a place to the end
-- the symbols are one `or`, or the rest whose first symbol fits nowhere
pub data Outcome : Type 0 where
  whole : Ors → Outcome
  stuck : List Sym → Outcome

abbrev pub go_on : Next → List Sym → (State → Outcome) → Outcome
go_on nowhere ts k = stuck ts
go_on (goes s) ts k = k s
go_on (ends d) ts k = whole d

abbrev pub run : List Sym → State → Outcome
run [] s = go_on (step s None) [] (λ _. stuck [])
run (t ∷ ts) s = go_on (step s (Some t)) (t ∷ ts) (run ts)

-- the same from a place that is told by where its next symbol leads
abbrev pub resume : List Sym → (Option Sym → Next) → Outcome
resume [] f = go_on (f None) [] (λ _. stuck [])
resume (t ∷ ts) f = go_on (f (Some t)) (t ∷ ts) (run ts)
