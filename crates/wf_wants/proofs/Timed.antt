-- What names the clock, by the code.
use Rattle.std.proofs.Common.{◌≡◌, ℕ, ◌+◌, ◌<◌, ◌≤◌, Bool, true, false, ◌||◌, List, [], ◌∷◌, ◌++◌, length, drop, get_or, refl, sym, ap, ◌∙◌}
use Rattle.std.proofs.Common as seq
use Rattle.std.proofs.lemmas.List.{drop_all}
use Rattle.wf_lemmas.proofs.Bools.{or_assoc, or_comm, or_none}
use Rattle.wf_lemmas.proofs.Lists.{item_at}
use Rattle.wf_ast.specs.Tree.{Expr, Exprs, no_exprs, expr, Scalar, templates, fields}
use Rattle.wf_model.specs.Kinds.{expr_now, exprs_now, is_now, template_now, templates_now, fields_now}
use Rattle.wf_ast.specs.Instrs.{instr, instrs}
use Rattle.wf_ast.specs.Machine.{Instr, and_skip, call, check, code, all_code, combine, index, invert, many, member, negate, or_skip}
use Rattle.wf_ast.specs.declared.code.Instr as declared
use Rattle.wf_frames.proofs.Coded.{coded}
use Rattle.wf_wants.specs.Clocks.{any_now, call_now}
use Rattle.wf_model.proofs.Views.{view_list, view_map}
use Rattle.wf_model.specs.Shapes.{Compiled, decoded, named_by, named_list, shape_by, shape_list}
use Rattle.wf_model.specs.declared.shape.NamedShape.{NamedShape}
use Rattle.wf_model.specs.declared.shape.NamedShapes.{NamedShapes}
use Rattle.wf_model.specs.declared.shape.Shape.{Shape, Literals, Map}
use Rattle.wf_model.specs.declared.shape.Shape.TheViews as shape
use Rattle.wf_model.specs.declared.shape.Shapes.{Shapes}
use Rattle.wf_value.specs.Data.{Data}

any_joined : (xs ys : List Instr) → any_now (xs ++ ys) ≡ any_now xs || any_now ys
any_joined [] ys = refl
any_joined (x ∷ xs) ys = ap (λ (b : Bool). call_now x || b) (any_joined xs ys) ∙ or_assoc (call_now x) (any_now xs) (any_now ys)

-- code that one instruction ends, which reads no clock
any_ended : (xs : List Instr) (i : Instr) → call_now i ≡ false → any_now (xs ++ i ∷ []) ≡ any_now xs
any_ended xs i h = any_joined xs (i ∷ []) ∙ ap (λ (b : Bool). any_now xs || (b || false)) h ∙ or_none (any_now xs)

mutual
  any_code : (e : Expr) → any_now (code e) ≡ expr_now e
  any_code (Expr.Lit v) = refl
  any_code (Expr.Name x) = refl
  any_code (Expr.Neg a) = any_ended (code a) negate refl ∙ any_code a
  any_code (Expr.Not a) = any_ended (code a) invert refl ∙ any_code a
  any_code (Expr.And a b) =
      any_joined (code a) (and_skip (length (code b ++ check ∷ [])) ∷ (code b ++ check ∷ []))
      ∙ ap (λ (c : Bool). any_now (code a) || c) (any_ended (code b) check refl ∙ any_code b) ∙ ap (λ (c : Bool). c || expr_now b) (any_code a)
  any_code (Expr.Or a b) =
      any_joined (code a) (or_skip (length (code b ++ check ∷ [])) ∷ (code b ++ check ∷ []))
      ∙ ap (λ (c : Bool). any_now (code a) || c) (any_ended (code b) check refl ∙ any_code b) ∙ ap (λ (c : Bool). c || expr_now b) (any_code a)
  any_code (Expr.Bin o a b) =
      any_joined (code a) (code b ++ combine o ∷ [])
      ∙ ap (λ (c : Bool). any_now (code a) || c) (any_ended (code b) (combine o) refl ∙ any_code b) ∙ ap (λ (c : Bool). c || expr_now b) (any_code a)
  any_code (Expr.Key a k) = any_ended (code a) (member k) refl ∙ any_code a
  any_code (Expr.Index a b) =
      any_joined (code a) (code b ++ index ∷ [])
      ∙ ap (λ (c : Bool). any_now (code a) || c) (any_ended (code b) index refl ∙ any_code b) ∙ ap (λ (c : Bool). c || expr_now b) (any_code a)
  any_code (Expr.Call f es) =
      any_joined (all_code es) (call f (many es) ∷ []) ∙ ap (λ (c : Bool). any_now (all_code es) || c) (or_none (is_now f)) ∙ ap (λ (c : Bool). c || is_now f) (any_codes es) ∙ or_comm (exprs_now es) (is_now f)

  any_codes : (es : Exprs) → any_now (all_code es) ≡ exprs_now es
  any_codes no_exprs = refl
  any_codes (expr e es) = any_joined (code e) (all_code es) ∙ ap (λ (c : Bool). any_now (code e) || c) (any_codes es) ∙ ap (λ (c : Bool). c || exprs_now es) (any_code e)

-- a compiled expression names the clock where its code reads it
pub clock_told : (is : List declared.Instr) (e : Expr) → instrs is ≡ code e → any_now (instrs is) ≡ expr_now (decoded is)
clock_told is e h = ap any_now (coded is e h) ∙ any_code (decoded is)

-- ## Shapes
pub list_told : (cs : Compiled) (x : Shape) (ss : Shapes) (xs : List Shape) → x ≡ shape.List ss → xs ≡ shape_list ss → templates_now (templates (seq.map (shape_by cs) xs)) ≡ template_now (shape_by cs x)
list_told cs x ss xs is seen = sym (ap (λ y. template_now (shape_by cs y)) is ∙ ap template_now (view_list cs ss) ∙ ap (λ l. templates_now (templates (seq.map (shape_by cs) l))) (sym seen))

-- a literal names no clock
literals_now : (ds : List Data) → templates_now (templates (seq.map Scalar ds)) ≡ false
literals_now [] = refl
literals_now (d ∷ ds) = literals_now ds

pub literals_told : (cs : Compiled) (x : Shape) (ds : List Data) → x ≡ Literals ds → false ≡ template_now (shape_by cs x)
literals_told cs x ds is = sym (ap (λ y. template_now (shape_by cs y)) is ∙ literals_now ds)

pub map_told : (cs : Compiled) (x : Shape) (ns : NamedShapes) (xs : List NamedShape) → x ≡ Map ns → xs ≡ named_list ns → fields_now (fields (seq.map (named_by cs) xs)) ≡ template_now (shape_by cs x)
map_told cs x ns xs is seen = sym (ap (λ y. template_now (shape_by cs y)) is ∙ ap template_now (view_map cs ns) ∙ ap (λ l. fields_now (fields (seq.map (named_by cs) l))) (sym seen))

-- ## Instruction by instruction
module _ (is items : List declared.Instr) (i : ℕ) (e : Expr) (same : items ≡ is) (of : instrs is ≡ code e) (seen : any_now (instrs items) ≡ any_now (instrs (drop i items))) where
  tells : any_now (instrs (drop i items)) ≡ expr_now (decoded is)
  tells = sym seen ∙ ap (λ l. any_now (instrs l)) same ∙ clock_told is e of

  pub told_there : (x : declared.Instr) → i < length items → x ≡ get_or items i x → call_now (instr x) ≡ true → true ≡ expr_now (decoded is)
  told_there x within here t = sym (ap (λ (c : Bool). c || any_now (instrs (drop (i + 1) items))) t) ∙ sym (ap (λ l. any_now (instrs l)) (item_at items i x within here)) ∙ tells

  pub told_nowhere : length items ≤ i → false ≡ expr_now (decoded is)
  told_nowhere past = sym (ap (λ l. any_now (instrs l)) (drop_all i items past)) ∙ tells
