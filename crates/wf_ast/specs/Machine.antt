-- The code of an expression for a stack of values, and what it does. A jump leads forward alone, and is told by how many instructions
-- it passes.
use Rattle.std.specs.Prelude.{ℕ, zero, suc, true, false, not, List, [], ◌∷◌, ◌++◌, length, Ok, Err}
use Rattle.wf_ast.specs.declared.expr.Op.{Op}
use Rattle.wf_ast.specs.declared.expr.Func.{Func}
use Rattle.wf_ast.specs.Tree.{Expr, Exprs, no_exprs, expr}
use Rattle.wf_ast.specs.Apply.{View, apply}
use Rattle.wf_ast.specs.Eval.{truth, whole, operate, at_key, at_index}
use Rattle.wf_value.specs.Data.{Data, boolean}
use Rattle.wf_value.specs.declared.Tag.TheVariants.{KeyError, TypeError}
use Rattle.wf_value.specs.Errors.{Answer, ◌>>=◌, or_error, kept}
use Rattle.wf_value.specs.Numbers.{whole_negative, as_answer}
use Rattle.wf_value.specs.Pairs.{Text}

pub data Instr : Type 0 where
  push : Data → Instr
  load : Text → Instr
  negate : Instr
  invert : Instr
  combine : Op → Instr
  member : Text → Instr
  index : Instr
  call : Func → ℕ → Instr
  -- false stays, and the jump is made; true is dropped
  and_skip : ℕ → Instr
  -- true stays, and the jump is made; false is dropped
  or_skip : ℕ → Instr
  -- a truth value stays
  check : Instr

abbrev pub many : Exprs → ℕ
many no_exprs = 0
many (expr e es) = suc (many es)

abbrev mutual
  pub code : Expr → List Instr
  code (Expr.Lit v) = push v ∷ []
  code (Expr.Name x) = load x ∷ []
  code (Expr.Neg a) = code a ++ negate ∷ []
  code (Expr.Not a) = code a ++ invert ∷ []
  code (Expr.And a b) = code a ++ (and_skip (length (code b ++ check ∷ [])) ∷ (code b ++ check ∷ []))
  code (Expr.Or a b) = code a ++ (or_skip (length (code b ++ check ∷ [])) ∷ (code b ++ check ∷ []))
  code (Expr.Bin o a b) = code a ++ (code b ++ combine o ∷ [])
  code (Expr.Key a k) = code a ++ member k ∷ []
  code (Expr.Index a b) = code a ++ (code b ++ index ∷ [])
  code (Expr.Call f es) = all_code es ++ call f (many es) ∷ []

  pub all_code : Exprs → List Instr
  all_code no_exprs = []
  all_code (expr e es) = code e ++ all_code es

-- ## What it does
abbrev pub Stack : Type 0
Stack = List Data

-- what comes next, behind so many instructions
abbrev pub Next : Type 0
Next = ℕ → Stack → Answer Stack

-- the n topmost values, the topmost last, before some others
abbrev pub with_args : ℕ → Stack → List Data → (List Data → Stack → Answer Stack) → Answer Stack
with_args zero st vs k = k vs st
with_args (suc n) [] vs k = Err TypeError
with_args (suc n) (v ∷ st) vs k = with_args n st (v ∷ vs) k

abbrev pub on_two : Stack → (Data → Data → Stack → Answer Stack) → Answer Stack
on_two [] k = Err TypeError
on_two (w ∷ []) k = Err TypeError
on_two (w ∷ v ∷ st) k = k v w st

abbrev pub on_one : Stack → (Data → Stack → Answer Stack) → Answer Stack
on_one [] k = Err TypeError
on_one (v ∷ st) k = k v st

abbrev pub act : View → Instr → Next → Stack → Answer Stack
act s (push v) next st = kept v >>= λ w. next 0 (w ∷ st)
act s (load x) next st = or_error KeyError (s.look x) >>= kept >>= λ w. next 0 (w ∷ st)
act s negate next st = on_one st (λ v rest. whole v >>= λ n. as_answer (whole_negative n) >>= λ w. next 0 (w ∷ rest))
act s invert next st = on_one st (λ v rest. truth v >>= λ b. next 0 (boolean (not b) ∷ rest))
act s (combine o) next st = on_two st (λ v w rest. operate o v w >>= kept >>= λ x. next 0 (x ∷ rest))
act s (member k) next st = on_one st (λ v rest. at_key v k >>= kept >>= λ w. next 0 (w ∷ rest))
act s index next st = on_two st (λ v w rest. at_index v w >>= kept >>= λ x. next 0 (x ∷ rest))
act s (call f n) next st = with_args n st [] (λ vs rest. apply s f vs >>= kept >>= λ x. next 0 (x ∷ rest))
act s (and_skip n) next st = on_one st (λ v rest. truth v >>= elim [ false ↦ next n (boolean false ∷ rest) | true ↦ next 0 rest ])
act s (or_skip n) next st = on_one st (λ v rest. truth v >>= elim [ true ↦ next n (boolean true ∷ rest) | false ↦ next 0 rest ])
act s check next st = on_one st (λ v rest. truth v >>= λ b. next 0 (boolean b ∷ rest))

-- the code, behind so many instructions
abbrev pub exec : View → List Instr → Next
exec s [] k st = Ok st
exec s (i ∷ is) zero st = act s i (exec s is) st
exec s (i ∷ is) (suc k) st = exec s is k st
