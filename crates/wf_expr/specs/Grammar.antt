-- The grammar: what stands at each level, as a tree, with the symbols that it is written in and the expression that it is. Repeated
-- operators group from the left.
--     or     = and { "or" and }
--     and    = not { "and" not }
--     not    = "not" not | cmp
--     cmp    = sum [ ( "==" | "!=" | "<" | "<=" | ">" | ">=" | "in" ) sum ]
--     sum    = term { ( "+" | "-" ) term }
--     term   = unary { ( "*" | "/" | "//" | "%" ) unary }
--     unary  = "-" unary | access
--     access = atom { "." name | "[" or "]" }
--     atom   = number | text | literal | name | call | "(" or ")"
--     call   = name { "." name } "(" [ or { "," or } ] ")"
use Rattle.std.specs.Prelude.{ℤ, List, [], ◌∷◌, ◌++◌, codes, Option, Some, None}
use Rattle.wf_ast.specs.Func.{Listing, func_named}
use Rattle.wf_ast.specs.Tree.{Expr, exprs}
use Rattle.wf_ast.specs.declared.expr.Op.{Op}
use Rattle.wf_ast.specs.declared.expr.Op.TheVariants as op
use Rattle.wf_expr.specs.Symbols.{Sym}
use Rattle.wf_expr.specs.Symbols as sym
use Rattle.wf_value.specs.Data.{Data, null, integer, text}
use Rattle.wf_value.specs.Pairs.{Text}

mutual
  pub data Ors : Type 0 where
    or_one : Ands → Ors
    or_more : Ors → Ands → Ors

  pub data Ands : Type 0 where
    and_one : Nots → Ands
    and_more : Ands → Nots → Ands

  pub data Nots : Type 0 where
    not_one : Cmps → Nots
    negated : Nots → Nots

  pub data Cmps : Type 0 where
    alone : Sums → Cmps
    compared : Sums → Op → Sums → Cmps

  pub data Sums : Type 0 where
    sum_one : Terms → Sums
    sum_more : Sums → Op → Terms → Sums

  pub data Terms : Type 0 where
    term_one : Unary → Terms
    term_more : Terms → Op → Unary → Terms

  pub data Unary : Type 0 where
    plain : Access → Unary
    minus : Unary → Unary

  pub data Access : Type 0 where
    first : Atom → Access
    at_name : Access → Text → Access
    at_index : Access → Ors → Access

  pub data Atom : Type 0 where
    number : ℤ → Atom
    decimal : Atom
    quoted : Text → Atom
    literal : Data → Atom
    name : Text → Atom
    -- the function's name with the names behind its points, and the arguments
    call : Text → List Text → Args → Atom
    group : Ors → Atom

  pub data Args : Type 0 where
    no_args : Args
    args : Given → Args

  pub data Given : Type 0 where
    given_one : Ors → Given
    given_more : Given → Ors → Given

-- ## The symbols
-- the names behind a name, each behind a point
abbrev pub names_text : List Text → List Sym
names_text [] = []
names_text (x ∷ xs) = sym.point ∷ sym.name x ∷ names_text xs

abbrev mutual
  pub or_text : Ors → List Sym
  or_text (or_one a) = and_text a
  or_text (or_more d a) = or_text d ++ (sym.or ∷ and_text a)

  pub and_text : Ands → List Sym
  and_text (and_one a) = not_text a
  and_text (and_more d a) = and_text d ++ (sym.and ∷ not_text a)

  pub not_text : Nots → List Sym
  not_text (not_one a) = cmp_text a
  not_text (negated a) = sym.not ∷ not_text a

  pub cmp_text : Cmps → List Sym
  cmp_text (alone a) = sum_text a
  cmp_text (compared a o b) = sum_text a ++ (sym.relation o ∷ sum_text b)

  pub sum_text : Sums → List Sym
  sum_text (sum_one a) = term_text a
  sum_text (sum_more d o a) = sum_text d ++ (sym.sign o ∷ term_text a)

  pub term_text : Terms → List Sym
  term_text (term_one a) = unary_text a
  term_text (term_more d o a) = term_text d ++ (sym.product o ∷ unary_text a)

  pub unary_text : Unary → List Sym
  unary_text (plain a) = access_text a
  unary_text (minus a) = sym.sign op.Sub ∷ unary_text a

  pub access_text : Access → List Sym
  access_text (first a) = atom_text a
  access_text (at_name d x) = access_text d ++ (sym.point ∷ sym.name x ∷ [])
  access_text (at_index d i) = access_text d ++ (sym.left_bracket ∷ (or_text i ++ sym.right_bracket ∷ []))

  pub atom_text : Atom → List Sym
  atom_text (number n) = sym.number n ∷ []
  atom_text decimal = sym.decimal ∷ []
  atom_text (quoted s) = sym.quoted s ∷ []
  atom_text (literal v) = sym.literal v ∷ []
  atom_text (name x) = sym.name x ∷ []
  atom_text (call x xs a) = sym.name x ∷ (names_text xs ++ (sym.left_paren ∷ (args_text a ++ sym.right_paren ∷ [])))
  atom_text (group d) = sym.left_paren ∷ (or_text d ++ sym.right_paren ∷ [])

  pub args_text : Args → List Sym
  args_text no_args = []
  args_text (args g) = given_text g

  pub given_text : Given → List Sym
  given_text (given_one d) = or_text d
  given_text (given_more g d) = given_text g ++ (sym.comma ∷ or_text d)

-- ## The expression
-- names joined by points
abbrev pub joined : Text → List Text → Text
joined x [] = x
joined x (y ∷ ys) = joined (x ++ codes "." ++ y) ys

-- a call; one of a name that no function has is of no accepted expression
abbrev pub call_of : Option Listing → List Expr → Expr
call_of (Some f) es = Expr.Call f.func (exprs es)
call_of None es = Expr.Lit null

abbrev mutual
  pub or_expr : Ors → Expr
  or_expr (or_one a) = and_expr a
  or_expr (or_more d a) = Expr.Or (or_expr d) (and_expr a)

  pub and_expr : Ands → Expr
  and_expr (and_one a) = not_expr a
  and_expr (and_more d a) = Expr.And (and_expr d) (not_expr a)

  pub not_expr : Nots → Expr
  not_expr (not_one a) = cmp_expr a
  not_expr (negated a) = Expr.Not (not_expr a)

  pub cmp_expr : Cmps → Expr
  cmp_expr (alone a) = sum_expr a
  cmp_expr (compared a o b) = Expr.Bin o (sum_expr a) (sum_expr b)

  pub sum_expr : Sums → Expr
  sum_expr (sum_one a) = term_expr a
  sum_expr (sum_more d o a) = Expr.Bin o (sum_expr d) (term_expr a)

  pub term_expr : Terms → Expr
  term_expr (term_one a) = unary_expr a
  term_expr (term_more d o a) = Expr.Bin o (term_expr d) (unary_expr a)

  pub unary_expr : Unary → Expr
  unary_expr (plain a) = access_expr a
  unary_expr (minus a) = Expr.Neg (unary_expr a)

  pub access_expr : Access → Expr
  access_expr (first a) = atom_expr a
  access_expr (at_name d x) = Expr.Key (access_expr d) x
  access_expr (at_index d i) = Expr.Index (access_expr d) (or_expr i)

  -- a decimal is of no accepted expression
  pub atom_expr : Atom → Expr
  atom_expr (number n) = Expr.Lit (integer n)
  atom_expr decimal = Expr.Lit null
  atom_expr (quoted s) = Expr.Lit (text s)
  atom_expr (literal v) = Expr.Lit v
  atom_expr (name x) = Expr.Name x
  atom_expr (call x xs a) = call_of (func_named (joined x xs)) (args_exprs a)
  atom_expr (group d) = or_expr d

  pub args_exprs : Args → List Expr
  args_exprs no_args = []
  args_exprs (args g) = given_exprs g

  pub given_exprs : Given → List Expr
  given_exprs (given_one d) = or_expr d ∷ []
  given_exprs (given_more g d) = given_exprs g ++ or_expr d ∷ []
