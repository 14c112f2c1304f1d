-- Worked rows: what expressions and templates give where no name is bound.
--     somewhere     what they see: the id "t1" and a reading of 5,999 milliseconds
--     WorkedRows    all rows
use Rattle.wf_ast.specs.declared.expr.Func.TheVariants as func
use Rattle.wf_ast.specs.declared.expr.Func.{Func}
use Rattle.wf_ast.specs.declared.expr.Op.TheVariants as op
use Rattle.std.specs.Prelude.{◌≡◌, ℕ, true, false, List, [], ◌∷◌, pos, neg_ℤ, None, Ok, Err, codes}
use Rattle.wf_ast.specs.Apply.{View}
use Rattle.wf_ast.specs.Eval.{eval, fill}
use Rattle.wf_ast.specs.Tree.{Expr, Said, Hole, Joined, exprs}
use Rattle.wf_value.specs.Data.{null, boolean, integer, text, list, map, no_items, item, no_pairs, pair}
use Rattle.wf_value.specs.Pairs.{Text}
use Rattle.wf_value.specs.declared.Tag.TheVariants.{IndexError, KeyError, TypeError, ValueError, ZeroDivisionError}

abbrev pub somewhere : View
somewhere = record { look = λ x. None; env = []; id = codes "t1"; base = []; now = 5999 }

-- a whole number, a text, a call, and the least number
abbrev pub num : ℕ → Expr
num n = Expr.Lit (integer (pos n))

abbrev pub said : Text → Expr
said s = Expr.Lit (text s)

abbrev pub call : Func → List Expr → Expr
call f es = Expr.Call f (exprs es)

abbrev pub least : Expr
least = Expr.Lit (integer (neg_ℤ (pos 9223372036854775808)))

-- `7 // -2` is -3
abbrev pub TruncatesTowardZero : Type 0
TruncatesTowardZero = eval (Expr.Bin op.TruncDiv (num 7) (Expr.Neg (num 2))) somewhere ≡ Ok (integer (neg_ℤ (pos 3)))

-- `-7 % 3` is -1
abbrev pub RestHasLeftSign : Type 0
RestHasLeftSign = eval (Expr.Bin op.Rem (Expr.Neg (num 7)) (num 3)) somewhere ≡ Ok (integer (neg_ℤ (pos 1)))

-- `n${1}` is "n1"
abbrev pub JoinsParts : Type 0
JoinsParts = fill (Joined (Said (codes "n") ∷ Hole (num 1) ∷ [])) somewhere ≡ Ok (text (codes "n1"))

-- `"a" + "b" == "ab" and not false` is true
abbrev pub ComparesAndDenies : Type 0
ComparesAndDenies = eval (Expr.And (Expr.Bin op.Eq (Expr.Bin op.Add (said (codes "a")) (said (codes "b"))) (said (codes "ab"))) (Expr.Not (Expr.Lit (boolean false)))) somewhere ≡ Ok (boolean true)

-- `len(text.split("a,b,", ","))` is 3
abbrev pub SplitsToThree : Type 0
SplitsToThree = eval (call func.Len (call func.TextSplit (said (codes "a,b,") ∷ said (codes ",") ∷ []) ∷ [])) somewhere ≡ Ok (integer (pos 3))

-- `base64.encode(text.encode("hi"))` is "aGk="
abbrev pub EncodesBase64 : Type 0
EncodesBase64 = eval (call func.Base64Encode (call func.TextEncode (said (codes "hi") ∷ []) ∷ [])) somewhere ≡ Ok (text (codes "aGk="))

-- `text.url_encode("a b")` is "a%20b"
abbrev pub EncodesBlank : Type 0
EncodesBlank = eval (call func.TextUrlEncode (said (codes "a b") ∷ [])) somewhere ≡ Ok (text (codes "a%20b"))

-- `time.format(0)` is "1970-01-01T00:00:00Z"
abbrev pub FormatsZero : Type 0
FormatsZero = eval (call func.TimeFormat (num 0 ∷ [])) somewhere ≡ Ok (text (codes "1970-01-01T00:00:00Z"))

-- `time.parse("1970-01-02T00:00:00Z")` is 86400
abbrev pub ParsesDay : Type 0
ParsesDay = eval (call func.TimeParse (said (codes "1970-01-02T00:00:00Z") ∷ [])) somewhere ≡ Ok (integer (pos 86400))

-- `7 / 2` is a ValueError
abbrev pub DividesExactly : Type 0
DividesExactly = eval (Expr.Bin op.Div (num 7) (num 2)) somewhere ≡ Err ValueError

-- `1 % 0` is a ZeroDivisionError
abbrev pub RefusesZero : Type 0
RefusesZero = eval (Expr.Bin op.Rem (num 1) (num 0)) somewhere ≡ Err ZeroDivisionError

-- `1 + "a"` is a TypeError
abbrev pub RefusesTwoKinds : Type 0
RefusesTwoKinds = eval (Expr.Bin op.Add (num 1) (said (codes "a"))) somewhere ≡ Err TypeError

-- `x`, which nothing binds, is a KeyError
abbrev pub RefusesUnknownName : Type 0
RefusesUnknownName = eval (Expr.Name (codes "x")) somewhere ≡ Err KeyError

-- the least number `% -1` is 0
abbrev pub RestOfLeast : Type 0
RestOfLeast = eval (Expr.Bin op.Rem least (Expr.Neg (num 1))) somewhere ≡ Ok (integer (pos 0))

-- the least number `// -1` is a ValueError
abbrev pub QuotientOfLeast : Type 0
QuotientOfLeast = eval (Expr.Bin op.TruncDiv least (Expr.Neg (num 1))) somewhere ≡ Err ValueError

-- `sys.now()` is the whole seconds of the reading
abbrev pub ReadsClock : Type 0
ReadsClock = eval (call func.SysNow []) somewhere ≡ Ok (integer (pos 5))

-- the id stands in the environment
abbrev pub ReadsId : Type 0
ReadsId = eval (call func.SysGetEnv (said (codes "GOOGLE_CLOUD_WORKFLOW_EXECUTION_ID") ∷ [])) somewhere ≡ Ok (text (codes "t1"))

-- `json.decode("{\"n\":[3,null]}")` is that map
abbrev pub DecodesJson : Type 0
DecodesJson = eval (call func.JsonDecode (said (codes "{\"n\":[3,null]}") ∷ [])) somewhere
    ≡ Ok (map (pair (codes "n") (list (item (integer (pos 3)) (item null no_items))) no_pairs))

-- `map.get` follows a list of keys one by one
abbrev pub GetsWithin : Type 0
GetsWithin = eval (call func.MapGet (call func.JsonDecode (said (codes "{\"a\":{\"b\":7}}") ∷ []) ∷ Expr.Lit (list (item (text (codes "a")) (item (text (codes "b")) no_items))) ∷ [])) somewhere
    ≡ Ok (integer (pos 7))

-- `text.substring("abc", 5, "x")` is a TypeError: kinds are looked at before values
abbrev pub LooksAtKindsFirst : Type 0
LooksAtKindsFirst = eval (call func.TextSubstring (said (codes "abc") ∷ num 5 ∷ said (codes "x") ∷ [])) somewhere ≡ Err TypeError

-- `text.substring("abc", 2, 4)` is an IndexError
abbrev pub RefusesRange : Type 0
RefusesRange = eval (call func.TextSubstring (said (codes "abc") ∷ num 2 ∷ num 4 ∷ [])) somewhere ≡ Err IndexError

pub record WorkedRows : Type 0 where
  pub truncates : TruncatesTowardZero
  pub keeps_sign : RestHasLeftSign
  pub joins : JoinsParts
  pub compares : ComparesAndDenies
  pub splits : SplitsToThree
  pub encodes : EncodesBase64
  pub url_encodes : EncodesBlank
  pub formats : FormatsZero
  pub parses : ParsesDay
  pub divides_exactly : DividesExactly
  pub by_zero : RefusesZero
  pub of_two_kinds : RefusesTwoKinds
  pub unknown : RefusesUnknownName
  pub least_rest : RestOfLeast
  pub least_quotient : QuotientOfLeast
  pub reads_clock : ReadsClock
  pub reads_id : ReadsId
  pub decodes : DecodesJson
  pub gets : GetsWithin
  pub kind_first : LooksAtKindsFirst
  pub out_of_range : RefusesRange
