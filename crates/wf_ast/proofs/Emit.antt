-- The code of a whole from the code of its parts.
use Rattle.std.proofs.Common.{◌≡◌, ℕ, List, [], ◌∷◌, ◌++◌, length, map, suc, refl, sym, ap, ◌∙◌, append_assoc}
use Rattle.wf_ast.specs.Machine as m
use Rattle.wf_ast.specs.Instrs.{instr, instrs}
use Rattle.wf_ast.specs.declared.code.Instr.{Instr}
use Rattle.wf_ast.specs.declared.code.Instr.TheVariants as i
use Rattle.wf_ast.specs.declared.expr.Expr.{Expr}
use Rattle.wf_ast.specs.declared.expr.Func.{Func}
use Rattle.wf_ast.specs.Tree as t
use Rattle.wf_ast.specs.Tree.{exprs}
use Rattle.wf_ast.specs.View.{expr_view}

pub joined : (xs ys : List Instr) → instrs (xs ++ ys) ≡ instrs xs ++ instrs ys
joined [] ys = refl
joined (x ∷ xs) ys = ap (λ l. instr x ∷ l) (joined xs ys)

pub last : (old mid new : List Instr) (i : Instr) (a : List m.Instr) → instrs mid ≡ instrs old ++ a → new ≡ mid ++ i ∷ [] → instrs new ≡ instrs old ++ (a ++ instr i ∷ [])
last old mid new i a h n = ap instrs n ∙ joined mid (i ∷ []) ∙ ap (λ l. l ++ instr i ∷ []) h ∙ append_assoc (instrs old) a (instr i ∷ [])

pub many_are : (es : List Expr) → m.many (exprs (map expr_view es)) ≡ length es
many_are [] = refl
many_are (e ∷ es) = ap suc (many_are es)

pub call_last : (old mid new : List Instr) (f : Func) (n : ℕ) (es : List Expr) → instrs mid ≡ instrs old ++ m.all_code (exprs (map expr_view es)) → n ≡ length es → new ≡ mid ++ i.Call f n ∷ [] → instrs new ≡ instrs old ++ m.code (t.Expr.Call f (exprs (map expr_view es)))
call_last old mid new f n es h k p =
    last old mid new (i.Call f n) (m.all_code (exprs (map expr_view es))) h p ∙ ap (λ x. instrs old ++ (m.all_code (exprs (map expr_view es)) ++ m.call f x ∷ [])) (k ∙ sym (many_are es))
