-- Each value that is read or made is shallow.
use Rattle.std.specs.Prelude.{◌≡◌, ℕ, suc, max, ◌≤◌, ◌&&◌, Bool, true, false, List, [], ◌∷◌, Some, None, Ok, Err, Option, Result, if◌then◌else◌, nat_le, nat_lt, ℤ}
use Rattle.std.specs.Ordering.{match_ordering, is_eq}
use Rattle.std.specs.declared.cmp.Ordering.{Ordering}
use Rattle.std.specs.declared.cmp.Ordering.TheVariants.{Less, Equal, Greater}
use Rattle.std.proofs.Common.{arith}
use Rattle.std.proofs.lemmas.Bool.{leb-true}
use mathlib.Core.Path.{refl}
use Rattle.wf_ast.specs.Apply.{View, apply}
use Rattle.wf_ast.specs.Eval.{truth, whole, operate, at_key, at_index, and_then, or_else, eval, eval_all, joined, fill, fill_all, fill_fields}
use Rattle.wf_ast.specs.Tree.{Expr, Template, Scalar, Whole, Joined, Listed, Mapped, Fields, no_fields, field}
use Rattle.wf_fits.specs.Limits.{Shallow, AllShallow, OptionShallow, PairsShallow}
use Rattle.wf_never_wrong.proofs.Arguments.{Each, each_bind, each_with}
use Rattle.wf_value.specs.Data.{Data, boolean, text, list, map, Items, no_items, item, Pairs, no_pairs, pair, depth, items_depth, size, pairs_of}
use Rattle.wf_value.specs.Decode.{shallow}
use Rattle.wf_value.specs.Errors.{Answer, ◌>>=◌, or_error, kept, as_result, nested_error, error_map, http_error}
use Rattle.wf_value.specs.HttpText.{body_value, response_result, reply_result, visit_kept, visit_result, header_map, result_map, visit_map}
use Rattle.wf_value.specs.HttpUrl.{first_of_two}
use Rattle.wf_value.specs.Events.{Visitor, Reply, Broken, TooLong, Response}
use Rattle.wf_value.specs.Maps.{key_cmp, value_at, with_value}
use Rattle.wf_value.specs.Numbers.{as_answer, whole_negative}
use Rattle.wf_value.specs.Pairs.{Text, items, get, put, pair_list}
use Rattle.wf_value.specs.declared.NumFault.{NumFault}
use Rattle.wf_value.specs.declared.Tag.{Tag}
use Rattle.wf_value.specs.declared.Tag.TheVariants.{ConnectionError, KeyError, ResourceLimitError}

-- ## Checks
kept_by : (v : Data) (q r : Bool) → nat_le (depth v) 100 ≡ r → Each Shallow (if q && r then Ok v else Err ResourceLimitError)
kept_by v true true e = leb-true (depth v) 100 e
kept_by v true false e = tt
kept_by v false r e = tt

pub kept_shallow : (v : Data) → Each Shallow (kept v)
kept_shallow v = kept_by v (nat_le (size v) 4194304) (nat_le (depth v) 100) refl

pub error_shallow : (t : Tag) → Shallow (error_map t)
error_shallow t = omega arith

abbrev pub ResultShallow : Result Data Data → Type 0
ResultShallow (Ok v) = Shallow v
ResultShallow (Err e) = Shallow e

as_by : (v : Data) (q r : Bool) → nat_le (depth v) 100 ≡ r → ResultShallow (if q && r then Ok v else Err (error_map ResourceLimitError))
as_by v true true e = leb-true (depth v) 100 e
as_by v true false e = error_shallow ResourceLimitError
as_by v false r e = error_shallow ResourceLimitError

as_shallow : (v : Data) → ResultShallow (as_result v)
as_shallow v = as_by v (nat_le (size v) 4194304) (nat_le (depth v) 100) refl

pub nested_shallow : (e : Data) → Shallow (nested_error e)
nested_shallow e = by (nat_le (depth e) 100) refl
  where
    by : (q : Bool) → nat_le (depth e) 100 ≡ q → Shallow (if q then e else error_map ResourceLimitError)
    by true i = leb-true (depth e) 100 i
    by false i = error_shallow ResourceLimitError

-- ## Answers and requests that came
response_by : (q : Bool) (v e : Data) → ResultShallow (if q then as_result v else Err (nested_error e))
response_by true v e = as_shallow v
response_by false v e = nested_shallow e

response_shallow : (code : ℕ) (headers : Data) (r : Answer Data) → ResultShallow (response_result code headers r)
response_shallow code headers (Err t) = error_shallow t
response_shallow code headers (Ok body) = response_by (nat_lt code 400) (result_map code headers body) (http_error code headers body)

pub reply_shallow : (a : Reply) → ResultShallow (reply_result a)
reply_shallow Broken = error_shallow ConnectionError
reply_shallow TooLong = error_shallow ResourceLimitError
reply_shallow (Response code fs b) = response_shallow code (map (header_map fs)) (body_value (nat_le 400 code) fs b)

visit_by : (v : Visitor) (r : Answer Data) → ResultShallow (visit_kept v r)
visit_by v (Err t) = error_shallow t
visit_by v (Ok body) = as_shallow (visit_map v body)

pub visit_shallow : (v : Visitor) → ResultShallow (visit_result v)
visit_shallow v = visit_by v _

-- ## Maps
abbrev EachShallow : List (Text × Data) → Type 0
EachShallow [] = Unit {0}
EachShallow (p ∷ ps) = Shallow p.1 × EachShallow ps

listed : (ps : Pairs) → PairsShallow ps → EachShallow (pair_list ps)
listed no_pairs h = tt
listed (pair k v ps) h = (h.0, listed ps h.1)

unlisted : (ps : List (Text × Data)) → EachShallow ps → PairsShallow (pairs_of ps)
unlisted [] h = tt
unlisted (p ∷ ps) h = (h.0, unlisted ps h.1)

with_by : (x : Text) (v : Data) (p : Text × Data) (ps more : List (Text × Data)) (o : Ordering) → Shallow v → EachShallow (p ∷ ps) → EachShallow more → EachShallow (match_ordering o ((x, v) ∷ p ∷ ps) ((p.0, v) ∷ ps) (p ∷ more))
with_by x v p ps more Less s h m = (s, h)
with_by x v p ps more Equal s h m = (s, h.1)
with_by x v p ps more Greater s h m = (h.0, m)

with_shallow : (x : Text) (v : Data) (ps : List (Text × Data)) → Shallow v → EachShallow ps → EachShallow (with_value x v ps)
with_shallow x v [] s h = (s, tt)
with_shallow x v (p ∷ ps) s h = with_by x v p ps (with_value x v ps) (key_cmp x p.0) s h (with_shallow x v ps s h.1)

pub put_shallow : (x : Text) (v : Data) (ps : Pairs) → Shallow v → PairsShallow ps → PairsShallow (put x v ps)
put_shallow x v ps s h = unlisted (with_value x v (pair_list ps)) (with_shallow x v (pair_list ps) s (listed ps h))

at_by : (q : Bool) (v : Data) (o : Option Data) → Shallow v → OptionShallow o → OptionShallow (if q then Some v else o)
at_by true v o s h = s
at_by false v o s h = h

value_shallow : (x : Text) (ps : List (Text × Data)) → EachShallow ps → OptionShallow (value_at x ps)
value_shallow x [] h = tt
value_shallow x (p ∷ ps) h = at_by (is_eq (key_cmp x p.0)) p.1 (value_at x ps) h.0 (value_shallow x ps h.1)

pub get_shallow : (x : Text) (ps : Pairs) → PairsShallow ps → OptionShallow (get x ps)
get_shallow x ps h = value_shallow x (pair_list ps) (listed ps h)

pub first_shallow : (a b : Option Data) → OptionShallow a → OptionShallow b → OptionShallow (first_of_two a b)
first_shallow None b h k = k
first_shallow (Some v) b h k = h

-- ## Lists
below_max : (a b n : ℕ) → suc (max a b) ≤ n → (a ≤ n) × (suc b ≤ n)
below_max a b n l = (omega (arith, l), omega (arith, l))

deep_items : (vs : Items) → suc (items_depth vs) ≤ 100 → AllShallow (items vs)
deep_items no_items l = tt
deep_items (item v vs) l = let b = below_max (depth v) (items_depth vs) 100 l in (b.0, deep_items vs b.1)

pub list_shallow : (vs : Items) → Shallow (list vs) → AllShallow (items vs)
list_shallow vs l = deep_items vs l

-- ## Expressions
number_shallow : (r : Result ℤ NumFault) → Each Shallow (as_answer r)
number_shallow (Ok n) = omega arith
number_shallow (Err e) = tt

and_shallow : (a b : Answer Data) → Each Shallow (and_then a b)
and_shallow a b = each_bind Shallow a _ λ v. each_bind Shallow (truth v) _ by
  where
    by : (q : Bool) → Each Shallow (elim q [ false ↦ Ok (boolean false) | true ↦ b >>= λ w. truth w >>= λ c. Ok (boolean c) ])
    by false = omega arith
    by true = each_bind Shallow b _ λ w. each_bind Shallow (truth w) _ λ c. omega arith

or_shallow : (a b : Answer Data) → Each Shallow (or_else a b)
or_shallow a b = each_bind Shallow a _ λ v. each_bind Shallow (truth v) _ by
  where
    by : (q : Bool) → Each Shallow (elim q [ true ↦ Ok (boolean true) | false ↦ b >>= λ w. truth w >>= λ c. Ok (boolean c) ])
    by true = omega arith
    by false = each_bind Shallow b _ λ w. each_bind Shallow (truth w) _ λ c. omega arith

eval_shallow : (e : Expr) (s : View) → Each Shallow (eval e s)
eval_shallow (Expr.Lit v) s = kept_shallow v
eval_shallow (Expr.Name x) s = each_bind Shallow (or_error KeyError (s.look x)) kept kept_shallow
eval_shallow (Expr.Neg a) s = each_bind Shallow (eval a s) _ λ v. each_bind Shallow (whole v) _ λ n. number_shallow (whole_negative n)
eval_shallow (Expr.Not a) s = each_bind Shallow (eval a s) _ λ v. each_bind Shallow (truth v) _ λ b. omega arith
eval_shallow (Expr.And a b) s = and_shallow (eval a s) (eval b s)
eval_shallow (Expr.Or a b) s = or_shallow (eval a s) (eval b s)
eval_shallow (Expr.Bin o a b) s = each_bind Shallow (eval a s) _ λ v. each_bind Shallow (eval b s) _ λ w. each_bind Shallow (operate o v w) kept kept_shallow
eval_shallow (Expr.Key a k) s = each_bind Shallow (eval a s) _ λ v. each_bind Shallow (at_key v k) kept kept_shallow
eval_shallow (Expr.Index a b) s = each_bind Shallow (eval a s) _ λ v. each_bind Shallow (eval b s) _ λ w. each_bind Shallow (at_index v w) kept kept_shallow
eval_shallow (Expr.Call f es) s = each_bind Shallow (eval_all es s) _ λ vs. each_bind Shallow (apply s f vs) kept kept_shallow

pub fill_shallow : (t : Template) (s : View) → Each Shallow (fill t s)
fill_shallow (Scalar v) s = kept_shallow v
fill_shallow (Whole e) s = eval_shallow e s
fill_shallow (Joined ps) s = each_bind Shallow (joined s ps) _ λ t. kept_shallow (text t)
fill_shallow (Listed ts) s = each_bind Shallow (fill_all ts s) _ λ vs. kept_shallow (list vs)
fill_shallow (Mapped fs) s = each_bind Shallow (fill_fields fs s) _ λ ps. kept_shallow (map ps)

pub fields_shallow : (fs : Fields) (s : View) → Each PairsShallow (fill_fields fs s)
fields_shallow no_fields s = tt
fields_shallow (field k t fs) s =
    each_with Shallow PairsShallow (fill t s) (λ v. fill_fields fs s >>= λ ps. Ok (put k v ps)) (fill_shallow t s)
    λ v h. each_with PairsShallow PairsShallow (fill_fields fs s) (λ ps. Ok (put k v ps)) (fields_shallow fs s) λ ps g. put_shallow k v ps h g

-- ## JSON
pub json_shallow : (o : Option Data) → OptionShallow (shallow o)
json_shallow None = tt
json_shallow (Some v) = by (nat_le (depth v) 100) refl
  where
    by : (q : Bool) → nat_le (depth v) 100 ≡ q → OptionShallow (if q then Some v else None)
    by true e = leb-true (depth v) 100 e
    by false e = tt
