-- What the calls of the library give, as answers; and more arguments than any function takes.
use Rattle.std.proofs.Common.{◌≡◌, ◌≤◌, List, [], ◌∷◌, length, Err, refl, sym, subst, arith}
use Rattle.wf_ast.specs.Apply.{View, apply}
use Rattle.wf_ast.specs.declared.expr.Func.{Func}
use Rattle.wf_ast.specs.declared.expr.Func.TheVariants as func
use Rattle.wf_value.specs.Data.{Data}
use Rattle.wf_value.specs.Errors.{Answer}
use Rattle.wf_value.specs.Plain.{plain, plain_items}
use Rattle.wf_value.specs.declared.errors.Raise.TheVariants.{Error}
use Rattle.wf_value.specs.declared.errors.Tag.{Tag}
use Rattle.wf_value.specs.declared.errors.Tag.TheVariants.{TypeError}
use Rattle.wf_value.specs.declared.value.Value.{Value}
use Rattle.wf_eval.specs.Answers.{Gives}

as_error : (t : Tag) (a : Answer Data) → a ≡ Err t → Gives (Err (Error t)) a
as_error t a h = subst (λ (x : Answer Data). Gives (Err (Error t)) x) (sym h) refl

-- ## Four arguments and more
none_takes : (s : View) (f : Func) (t u v w : Data) (ds : List Data) → apply s f (t ∷ u ∷ v ∷ w ∷ ds) ≡ Err TypeError
none_takes s func.Default t u v w ds = refl
none_takes s func.Keys t u v w ds = refl
none_takes s func.Len t u v w ds = refl
none_takes s func.GetType t u v w ds = refl
none_takes s func.Int t u v w ds = refl
none_takes s func.String t u v w ds = refl
none_takes s func.If t u v w ds = refl
none_takes s func.TextSplit t u v w ds = refl
none_takes s func.TextReplaceAll t u v w ds = refl
none_takes s func.TextSubstring t u v w ds = refl
none_takes s func.TextFindAll t u v w ds = refl
none_takes s func.TextToUpper t u v w ds = refl
none_takes s func.TextToLower t u v w ds = refl
none_takes s func.TextUrlEncode t u v w ds = refl
none_takes s func.TextUrlDecode t u v w ds = refl
none_takes s func.TextEncode t u v w ds = refl
none_takes s func.TextDecode t u v w ds = refl
none_takes s func.ListConcat t u v w ds = refl
none_takes s func.ListPrepend t u v w ds = refl
none_takes s func.MapGet t u v w ds = refl
none_takes s func.MapDelete t u v w ds = refl
none_takes s func.MapMerge t u v w ds = refl
none_takes s func.JsonEncode t u v w ds = refl
none_takes s func.JsonEncodeToString t u v w ds = refl
none_takes s func.JsonDecode t u v w ds = refl
none_takes s func.Base64Encode t u v w ds = refl
none_takes s func.Base64Decode t u v w ds = refl
none_takes s func.TimeFormat t u v w ds = refl
none_takes s func.TimeParse t u v w ds = refl
none_takes s func.SysNow t u v w ds = refl
none_takes s func.SysGetEnv t u v w ds = refl

pub too_many : (s : View) (f : Func) (vs : List Value) → 4 ≤ length vs → Gives (Err (Error TypeError)) (apply s f (plain_items vs))
too_many s f [] h = absurd (omega (arith, h))
too_many s f (t ∷ []) h = absurd (omega (arith, h))
too_many s f (t ∷ u ∷ []) h = absurd (omega (arith, h))
too_many s f (t ∷ u ∷ v ∷ []) h = absurd (omega (arith, h))
too_many s f (t ∷ u ∷ v ∷ w ∷ vs) h = as_error TypeError _ (none_takes s f (plain t) (plain u) (plain v) (plain w) (plain_items vs))
