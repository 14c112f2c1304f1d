-- The code of an expression is the code of that expression alone.
use Rattle.std.proofs.Common.{◌≡◌, ℕ, suc, ◌+◌, List, [], ◌∷◌, ◌++◌, drop, length, refl, ap, ◌∙◌, arith}
use Rattle.wf_lemmas.proofs.Numbers.{plus_zero, suc_moved}
use Rattle.wf_ast.specs.Tree.{Expr, Exprs, no_exprs, expr}
use Rattle.wf_ast.specs.declared.expr.Func.{Func}
use Rattle.wf_ast.specs.Machine.{Instr, negate, invert, combine, member, index, call, and_skip, or_skip, check, many, code, all_code}
use Rattle.wf_model.specs.Decoded.{undo, undo_all, decode, topmost, top}

-- ## Arguments
pushed : Exprs → List Expr → List Expr
pushed no_exprs st = st
pushed (expr e es) st = pushed es (e ∷ st)

before : Exprs → Exprs → Exprs
before no_exprs fs = fs
before (expr e es) fs = expr e (before es fs)

before_none : (es : Exprs) → before es no_exprs ≡ es
unfolding before
before_none no_exprs = refl
before_none (expr e es) = ap (expr e) (before_none es)

taken : (es : Exprs) (n : ℕ) (st : List Expr) (fs : Exprs) → topmost (many es + n) (pushed es st) fs ≡ topmost n st (before es fs)
unfolding pushed before
taken no_exprs n st fs = ap (λ m. topmost m st fs) (let e : 0 + n ≡ n = omega arith in e)
taken (expr e es) n st fs = ap (λ m. topmost m (pushed es (e ∷ st)) fs) (suc_moved (many es) n) ∙ taken es (suc n) (e ∷ st) fs

left : (es : Exprs) (n : ℕ) (st : List Expr) → drop (many es + n) (pushed es st) ≡ drop n st
unfolding pushed
left no_exprs n st = ap (λ m. drop m st) (let e : 0 + n ≡ n = omega arith in e)
left (expr e es) n st = ap (λ m. drop m (pushed es (e ∷ st))) (suc_moved (many es) n) ∙ left es (suc n) (e ∷ st)

called : (f : Func) (es : Exprs) (st : List Expr) → undo (call f (many es)) (pushed es st) ≡ Expr.Call f es ∷ st
called f es st =
    ap (λ n. Expr.Call f (topmost n (pushed es st) no_exprs) ∷ drop n (pushed es st)) (plus_zero (many es))
    ∙ ap (λ (xs : Exprs). Expr.Call f xs ∷ drop (many es + 0) (pushed es st)) (taken es 0 st no_exprs ∙ before_none es)
    ∙ ap (λ (xs : List Expr). Expr.Call f es ∷ xs) (left es 0 st)

-- ## Expressions
undo_append : (xs ys : List Instr) (st : List Expr) → undo_all (xs ++ ys) st ≡ undo_all ys (undo_all xs st)
undo_append [] ys st = refl
undo_append (i ∷ is) ys st = undo_append is ys (undo i st)

mutual
  unfolding pushed

  undone : (e : Expr) (st : List Expr) → undo_all (code e) st ≡ e ∷ st
  undone (Expr.Lit v) st = refl
  undone (Expr.Name x) st = refl
  undone (Expr.Neg a) st = undo_append (code a) (negate ∷ []) st ∙ ap (undo negate) (undone a st)
  undone (Expr.Not a) st = undo_append (code a) (invert ∷ []) st ∙ ap (undo invert) (undone a st)
  undone (Expr.And a b) st =
      undo_append (code a) (and_skip (length (code b ++ check ∷ [])) ∷ (code b ++ check ∷ [])) st
      ∙ ap (undo_all (and_skip (length (code b ++ check ∷ [])) ∷ (code b ++ check ∷ []))) (undone a st)
      ∙ undo_append (code b) (check ∷ []) (undo (and_skip (length (code b ++ check ∷ []))) (a ∷ st))
      ∙ ap (undo check) (undone b (undo (and_skip (length (code b ++ check ∷ []))) (a ∷ st)))
  undone (Expr.Or a b) st =
      undo_append (code a) (or_skip (length (code b ++ check ∷ [])) ∷ (code b ++ check ∷ [])) st
      ∙ ap (undo_all (or_skip (length (code b ++ check ∷ [])) ∷ (code b ++ check ∷ []))) (undone a st)
      ∙ undo_append (code b) (check ∷ []) (undo (or_skip (length (code b ++ check ∷ []))) (a ∷ st))
      ∙ ap (undo check) (undone b (undo (or_skip (length (code b ++ check ∷ []))) (a ∷ st)))
  undone (Expr.Bin o a b) st =
      undo_append (code a) (code b ++ combine o ∷ []) st
      ∙ ap (undo_all (code b ++ combine o ∷ [])) (undone a st)
      ∙ undo_append (code b) (combine o ∷ []) (a ∷ st)
      ∙ ap (undo (combine o)) (undone b (a ∷ st))
  undone (Expr.Key a k) st = undo_append (code a) (member k ∷ []) st ∙ ap (undo (member k)) (undone a st)
  undone (Expr.Index a b) st =
      undo_append (code a) (code b ++ index ∷ []) st
      ∙ ap (undo_all (code b ++ index ∷ [])) (undone a st)
      ∙ undo_append (code b) (index ∷ []) (a ∷ st)
      ∙ ap (undo index) (undone b (a ∷ st))
  undone (Expr.Call f es) st = undo_append (all_code es) (call f (many es) ∷ []) st ∙ ap (undo (call f (many es))) (all_undone es st) ∙ called f es st

  all_undone : (es : Exprs) (st : List Expr) → undo_all (all_code es) st ≡ pushed es st
  all_undone no_exprs st = refl
  all_undone (expr e es) st = undo_append (code e) (all_code es) st ∙ ap (undo_all (all_code es)) (undone e st) ∙ all_undone es (e ∷ st)

pub decoded_code : (e : Expr) → decode (code e) ≡ e
decoded_code e = ap top (undone e [])
