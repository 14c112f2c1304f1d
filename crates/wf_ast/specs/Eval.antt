-- The meaning of expressions and templates: a value, or the tag of an error. Operands are evaluated from left to right, and the
-- first error is the outcome. Each value that is read or made keeps within the limits.
use Rattle.wf_ast.specs.declared.expr.Op.TheVariants as op
use Rattle.wf_ast.specs.declared.expr.Op.{Op}
use Rattle.std.specs.Prelude.{Bool, true, false, not, List, [], ◌∷◌, ◌++◌, ℤ, pos, negsuc, slice_get, int_lt, int_le, Ok, Err, Result}
use Rattle.std.specs.List.{list_any}
use Rattle.std.specs.Ordering.{nat_cmp, is_lt}
use Rattle.std.specs.Cmp.Lexicographic.{slice_cmp}
use Rattle.wf_ast.specs.Apply.{View, shown, apply}
use Rattle.wf_ast.specs.Tree.{Expr, Exprs, no_exprs, expr, Part, Said, Hole, Template, Scalar, Whole, Joined, Listed, Mapped, Templates, no_templates, template, Fields, no_fields, field}
use Rattle.wf_value.specs.Data.{Data, boolean, integer, text, list, map, Items, no_items, item, Pairs, no_pairs}
use Rattle.wf_value.specs.Errors.{Answer, ◌>>=◌, or_error, kept}
use Rattle.wf_value.specs.declared.Tag.TheVariants.{IndexError, KeyError, TypeError}
use Rattle.wf_value.specs.Numbers.{whole_sum, whole_difference, whole_product, whole_negative, exact_quotient, truncated_quotient, whole_rest, as_answer}
use Rattle.wf_value.specs.declared.NumFault.{NumFault}
use Rattle.wf_value.specs.Pairs.{Text, items, get, put, has_key, same}

-- a truth value, or a TypeError
abbrev pub truth : Data → Answer Bool
truth (boolean b) = Ok b
truth v = Err TypeError

-- a whole number, or a TypeError
abbrev pub whole : Data → Answer ℤ
whole (integer n) = Ok n
whole v = Err TypeError

-- `+`: the sum of two whole numbers, or two texts joined
abbrev pub added : Data → Data → Answer Data
added (integer a) (integer b) = as_answer (whole_sum a b)
added (text a) (text b) = Ok (text (a ++ b))
added v w = Err TypeError

-- texts by their bytes
abbrev pub is_below : Text → Text → Bool
is_below a b = is_lt (slice_cmp nat_cmp a b)

-- a comparison of two whole numbers or of two texts
abbrev pub compared : (ℤ → ℤ → Bool) → (Text → Text → Bool) → Data → Data → Answer Data
compared on_ints on_texts (integer a) (integer b) = Ok (boolean (on_ints a b))
compared on_ints on_texts (text a) (text b) = Ok (boolean (on_texts a b))
compared on_ints on_texts v w = Err TypeError

-- `in`: a text as a key of a map, or a value as an item of a list
abbrev pub found_in : Data → Data → Answer Data
found_in (text k) (map ps) = Ok (boolean (has_key k ps))
found_in v (list ws) = Ok (boolean (list_any (same v) (items ws)))
found_in v w = Err TypeError

-- an operator on two whole numbers
abbrev pub on_wholes : (ℤ → ℤ → Result ℤ NumFault) → Data → Data → Answer Data
on_wholes f v w = whole v >>= λ a. whole w >>= λ b. as_answer (f a b)

-- an operator on two values
abbrev pub operate : Op → Data → Data → Answer Data
operate op.Add v w = added v w
operate op.Sub v w = on_wholes whole_difference v w
operate op.Mul v w = on_wholes whole_product v w
operate op.Div v w = on_wholes exact_quotient v w
operate op.TruncDiv v w = on_wholes truncated_quotient v w
operate op.Rem v w = on_wholes whole_rest v w
operate op.Eq v w = Ok (boolean (same v w))
operate op.Ne v w = Ok (boolean (not (same v w)))
operate op.Lt v w = compared int_lt is_below v w
operate op.Le v w = compared int_le (λ a b. not (is_below b a)) v w
operate op.Gt v w = compared (λ a b. int_lt b a) (λ a b. is_below b a) v w
operate op.Ge v w = compared (λ a b. int_le b a) (λ a b. not (is_below a b)) v w
operate op.In v w = found_in v w

-- a map's value at a key
abbrev pub at_key : Data → Text → Answer Data
at_key (map ps) k = or_error KeyError (get k ps)
at_key v k = Err TypeError

-- a map's value at a key, or a list's item from 0
abbrev pub at_index : Data → Data → Answer Data
at_index (map ps) (text k) = or_error KeyError (get k ps)
at_index (list vs) (integer (pos i)) = or_error IndexError (slice_get (items vs) i)
at_index (list vs) (integer (negsuc i)) = Err IndexError
at_index v w = Err TypeError

-- ## Expressions
-- the right side of a decided `and` or `or` isn't evaluated
-- `and`
abbrev pub and_then : Answer Data → Answer Data → Answer Data
and_then a b = a >>= λ v. truth v >>= elim [ false ↦ Ok (boolean false) | true ↦ b >>= λ w. truth w >>= λ c. Ok (boolean c) ]

-- `or`
abbrev pub or_else : Answer Data → Answer Data → Answer Data
or_else a b = a >>= λ v. truth v >>= elim [ true ↦ Ok (boolean true) | false ↦ b >>= λ w. truth w >>= λ c. Ok (boolean c) ]

abbrev mutual
  -- the value of an expression
  pub eval : Expr → View → Answer Data
  eval (Expr.Lit v) s = kept v
  eval (Expr.Name x) s = or_error KeyError (s.look x) >>= kept
  eval (Expr.Neg a) s = eval a s >>= λ v. whole v >>= λ n. as_answer (whole_negative n)
  eval (Expr.Not a) s = eval a s >>= λ v. truth v >>= λ b. Ok (boolean (not b))
  eval (Expr.And a b) s = and_then (eval a s) (eval b s)
  eval (Expr.Or a b) s = or_else (eval a s) (eval b s)
  eval (Expr.Bin o a b) s = eval a s >>= λ v. eval b s >>= λ w. operate o v w >>= kept
  eval (Expr.Key a k) s = eval a s >>= λ v. at_key v k >>= kept
  eval (Expr.Index a b) s = eval a s >>= λ v. eval b s >>= λ w. at_index v w >>= kept
  eval (Expr.Call f es) s = eval_all es s >>= λ vs. apply s f vs >>= kept

  -- the values of expressions, in their order
  pub eval_all : Exprs → View → Answer (List Data)
  eval_all no_exprs s = Ok []
  eval_all (expr e es) s = eval e s >>= λ v. eval_all es s >>= λ vs. Ok (v ∷ vs)

-- ## Templates
-- the text of a part: a text, a whole number or a truth value
abbrev pub part_text : View → Part → Answer Text
part_text s (Said t) = Ok t
part_text s (Hole e) = eval e s >>= shown

-- the texts of the parts, joined
abbrev pub joined : View → List Part → Answer Text
joined s [] = Ok []
joined s (p ∷ ps) = part_text s p >>= λ t. joined s ps >>= λ u. Ok (t ++ u)

-- members of lists in order, members of maps in the order of their keys
abbrev mutual
  -- the value of a template
  pub fill : Template → View → Answer Data
  fill (Scalar v) s = kept v
  fill (Whole e) s = eval e s
  fill (Joined ps) s = joined s ps >>= λ t. kept (text t)
  fill (Listed ts) s = fill_all ts s >>= λ vs. kept (list vs)
  fill (Mapped fs) s = fill_fields fs s >>= λ ps. kept (map ps)

  -- the values of the members of a list
  pub fill_all : Templates → View → Answer Items
  fill_all no_templates s = Ok no_items
  fill_all (template t ts) s = fill t s >>= λ v. fill_all ts s >>= λ vs. Ok (item v vs)

  -- the values of the members of a map
  pub fill_fields : Fields → View → Answer Pairs
  fill_fields no_fields s = Ok no_pairs
  fill_fields (field k t fs) s = fill t s >>= λ v. fill_fields fs s >>= λ ps. Ok (put k v ps)
