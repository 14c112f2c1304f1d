-- The expression that a list of instructions is the code of. Of what is no expression's code it says nothing.
--     undo       the expressions on the stack behind an instruction
--     decode     the expression whose code it is
use Rattle.std.specs.Prelude.{ℕ, zero, suc, List, [], ◌∷◌, drop}
use Rattle.wf_ast.specs.Tree.{Expr, Exprs, no_exprs, expr}
use Rattle.wf_ast.specs.Machine.{Instr, push, load, negate, invert, combine, member, index, call, and_skip, or_skip, check}
use Rattle.wf_value.specs.Data.{null}

-- the topmost expression
abbrev pub top : List Expr → Expr
top [] = Expr.Lit null
top (e ∷ es) = e

-- those below it
abbrev pub rest : List Expr → List Expr
rest [] = []
rest (e ∷ es) = es

-- the n topmost, the topmost last, before some others
abbrev pub topmost : ℕ → List Expr → Exprs → Exprs
topmost zero st es = es
topmost (suc n) st es = topmost n (rest st) (expr (top st) es)

-- an `and` or an `or` with this right side
abbrev pub with_right : Expr → Expr → Expr
with_right (Expr.And a b) right = Expr.And a right
with_right (Expr.Or a b) right = Expr.Or a right
with_right e right = e

-- The right side of an `and` and an `or` is read behind its left side: until then any stands there.
abbrev pub undo : Instr → List Expr → List Expr
undo (push v) st = Expr.Lit v ∷ st
undo (load x) st = Expr.Name x ∷ st
undo negate st = Expr.Neg (top st) ∷ rest st
undo invert st = Expr.Not (top st) ∷ rest st
undo (combine o) st = Expr.Bin o (top (rest st)) (top st) ∷ rest (rest st)
undo (member k) st = Expr.Key (top st) k ∷ rest st
undo index st = Expr.Index (top (rest st)) (top st) ∷ rest (rest st)
undo (call f n) st = Expr.Call f (topmost n st no_exprs) ∷ drop n st
undo (and_skip n) st = Expr.And (top st) (Expr.Lit null) ∷ rest st
undo (or_skip n) st = Expr.Or (top st) (Expr.Lit null) ∷ rest st
undo check st = with_right (top (rest st)) (top st) ∷ rest (rest st)

abbrev pub undo_all : List Instr → List Expr → List Expr
undo_all [] st = st
undo_all (i ∷ is) st = undo_all is (undo i st)

abbrev pub decode : List Instr → Expr
decode is = top (undo_all is [])
