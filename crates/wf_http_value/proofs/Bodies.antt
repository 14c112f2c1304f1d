-- Bodies as values.
use Rattle.std.proofs.Common.{◌≡◌, ℕ, suc, ◌+◌, ◌<◌, true, false, List, [], ◌∷◌, length, get_or, drop, Option, Some, None, ◌≢◌, refl, sym, ap, ◌∙◌, arith, subst}
use Rattle.std.specs.Prelude.{Bool, not, ◌==◌, bytes_eq, codes, if◌then◌else◌, Result, Ok, Err}
use Rattle.std.specs.Str.{IsUtf8, is_utf8}
use Rattle.std.proofs.lemmas.Bool.{false_from_ne_true, ne_eqb}
use Rattle.std.proofs.lemmas.Str.{IsUtf8-from_is_utf8, is_utf8-from_IsUtf8}
use Rattle.std.proofs.lemmas.List.{drop_more}
use Rattle.wf_value.specs.Events.{Headers}
use Rattle.wf_value.specs.HttpText.{body_value, content_type, is_field_named, json_body, json_type, media_type, text_or_bytes, typed_body, values_of}
use Rattle.wf_value.specs.LibText.{starts_with}
use Rattle.wf_value.specs.Data.{Data, null, bytes, pairs_of, text}
use Rattle.wf_value.specs.Decode.{json_value}
use Rattle.wf_value.specs.Errors.{Answer}
use Rattle.wf_value.specs.declared.errors.Tag.{Tag}
use Rattle.wf_value.specs.declared.errors.Tag.TheVariants.{ResponseTypeError}
use Rattle.wf_value.specs.Json.{IsValue}
use Rattle.wf_value.specs.JsonFaults.{IsFaultOf}
use Rattle.wf_value.specs.JsonLaws.{FindsTheValue, HasValue, NoTwoHold}
use Rattle.wf_value.specs.Maps.{value_at}
use Rattle.wf_value.specs.Pairs.{get, pair_list}
use Rattle.wf_value.specs.declared.json_text.JsonFault.{JsonFault}
use Rattle.wf_value.specs.declared.json_text.JsonFault.TheVariants.{NotJson, Decimal, TooDeep, OutOfMemory}
use Rattle.wf_http_value.specs.Gives.{GivesBody}
use Rattle.wf_http_value.specs.Media.{is_encoded, kind_of}
use Rattle.wf_value.specs.declared.value.Value.{Value}
use Rattle.wf_http_value.specs.declared.fault.BodyFault.{BodyFault}
use Rattle.wf_http_value.specs.declared.fault.BodyFault.TheVariants as fault
use Rattle.wf_http_value.specs.declared.media.Media.{Media}
use Rattle.wf_http_value.specs.declared.media.Media.TheVariants as media

-- ## JSON
none_read : (b : List ℕ) → ((d : Data) → ¬ (json_value b ≡ Some d)) → (o : Option Data) → json_value b ≡ o → o ≡ None
none_read b bare None is = refl
none_read b bare (Some d) is = absurd (bare d is)

no_value : FindsTheValue → (b : List ℕ) → ¬ (HasValue b) → json_value b ≡ None
no_value finds b none = none_read b (λ d is. none (d, (finds b d).0 is)) (json_value b) refl

pub read_value : FindsTheValue → (b : List ℕ) (d : Data) → IsValue b d → Some d ≡ json_value b
read_value finds b d is = sym ((finds b d).1 is)

pub no_json : FindsTheValue → (b : List ℕ) (f : JsonFault) → NoTwoHold b → IsFaultOf b f → f ≢ OutOfMemory → None ≡ json_value b
no_json finds b NotJson apart h other = sym (no_value finds b (λ v. apart.value_or_not_json v h))
no_json finds b Decimal apart h other = sym (no_value finds b (λ v. apart.value_or_decimal v h))
no_json finds b TooDeep apart h other = sym (no_value finds b (λ v. apart.value_or_too_deep v h))
no_json finds b OutOfMemory apart h other = absurd (other refl)

-- ## Texts
pub some_text : (b t : List ℕ) → IsUtf8 b → t ≡ b → text t ≡ text_or_bytes b
some_text b t u is = ap text is ∙ sym (ap (λ x. if x then text b else bytes b) (is_utf8-from_IsUtf8 b u))

pub no_text : (b : List ℕ) → ¬ (IsUtf8 b) → text_or_bytes b ≡ bytes b
no_text b none = ap (λ x. if x then text b else bytes b) (false_from_ne_true (is_utf8 b) (λ e. none (IsUtf8-from_is_utf8 b e)))

-- ## The fields as a map
pub pairs_listed : (ps : List (List ℕ × Data)) → pair_list (pairs_of ps) ≡ ps
pairs_listed [] = refl
pairs_listed (p ∷ ps) = ap (λ l. p ∷ l) (pairs_listed ps)

pub read_in : (o : Option Data) (m : Media) (ps : List (List ℕ × Data)) → m ≡ kind_of (media_type o) → o ≡ value_at (codes "Content-Type") ps → m ≡ kind_of (media_type (get (codes "Content-Type") (pairs_of ps)))
read_in o m ps is read = is ∙ ap (λ v. kind_of (media_type v)) (read ∙ ap (value_at (codes "Content-Type")) (sym (pairs_listed ps)))

-- ## Whether a body is encoded
abbrev IsOther : List ℕ × List ℕ → Type 0
IsOther f = is_field_named (codes "content-encoding") f ≡ false

skipped : (f : List ℕ × List ℕ) (fs : Headers) → IsOther f → is_encoded (f ∷ fs) ≡ is_encoded fs
skipped f fs other = rw other refl

pub passed : (fs : Headers) (i : ℕ) (f : List ℕ × List ℕ) → i < length fs → f ≡ get_or fs i f → IsOther f → is_encoded (drop i fs) ≡ is_encoded fs → is_encoded (drop (i + 1) fs) ≡ is_encoded fs
passed fs i f lt is other so =
    sym (skipped f (drop (i + 1) fs) other)
    ∙ ap (λ (g : List ℕ × List ℕ). is_encoded (g ∷ drop (i + 1) fs)) is
    ∙ ap is_encoded (sym (drop_more fs i f lt))
    ∙ so

-- ## JSON by the media type
apart : true ≡ false → ⊥
apart e = cc

not_coded : (x y : Answer Data) (vs : List (List ℕ)) → not (length vs == 0) ≡ false → elim vs [ [] ↦ x | v ∷ ws ↦ y ] ≡ x
not_coded x y [] e = refl
not_coded x y (v ∷ vs) e = absurd (apart (sym (ap not (ne_eqb (suc (length vs)) 0 (λ z. omega arith))) ∙ e))

typed : (lenient : Bool) (fs : Headers) (b : List ℕ) → (length b == 0) ≡ false → is_encoded fs ≡ false → body_value lenient fs b ≡ typed_body lenient (content_type fs) b
typed lenient fs [] some e = absurd (apart some)
typed lenient fs (b ∷ bs) some e = not_coded (typed_body lenient (content_type fs) (b ∷ bs)) (Ok (bytes (b ∷ bs))) (values_of (codes "content-encoding") fs) e

abbrev kind : Bool → Bool → Media
kind x y = if x then media.Json else if y then media.Text else media.Other

json_kind : (x y : Bool) → kind x y ≡ media.Json → x ≡ true
json_kind true y e = refl
json_kind false true e = cc
json_kind false false e = cc

abbrev by_type : Bool → List ℕ → Bool → Bool → Answer Data
by_type lenient b x y = elim x [ true ↦ json_body lenient b (json_value b) | false ↦ if y then Ok (text_or_bytes b) else Ok (bytes b) ]

pub given_json : (r : Result Value BodyFault) (lenient : Bool) (fs : Headers) (b : List ℕ) → (length b == 0) ≡ false → is_encoded fs ≡ false
    → kind_of (content_type fs) ≡ media.Json → GivesBody r (json_body lenient b (json_value b)) → GivesBody r (body_value lenient fs b)
given_json r lenient fs b some bare is h =
    let t = content_type fs in
    subst (λ (a : Answer Data). GivesBody r a)
    (sym (typed lenient fs b some bare
    ∙ ap (λ x. by_type lenient b x (starts_with (codes "text/") t)) (json_kind (bytes_eq t json_type) (starts_with (codes "text/") t) is))) h

-- ## A lenient reading gives each body a value
a_value : (v : Data) (t : Tag) (r : Answer Data) → r ≡ Ok v → ¬ (r ≡ Err t)
a_value v t r is e = cc

json_gives : (b : List ℕ) (o : Option Data) (t : Tag) → ¬ (json_body true b o ≡ Err t)
json_gives b (Some v) t e = a_value v t (Ok v) refl e
json_gives b None t e = a_value (text_or_bytes b) t (Ok (text_or_bytes b)) refl e

type_gives : (b : List ℕ) (x y : Bool) (t : Tag) → ¬ (by_type true b x y ≡ Err t)
type_gives b true y t e = json_gives b (json_value b) t e
type_gives b false true t e = a_value (text_or_bytes b) t (Ok (text_or_bytes b)) refl e
type_gives b false false t e = a_value (bytes b) t (Ok (bytes b)) refl e

code_gives : (x : Answer Data) (v : Data) (vs : List (List ℕ)) (t : Tag) → ¬ (x ≡ Err t) → ¬ ((elim vs [ [] ↦ x | w ∷ ws ↦ Ok v ]) ≡ Err t)
code_gives x v [] t gives e = gives e
code_gives x v (w ∷ ws) t gives e = a_value v t (Ok v) refl e

lenient_gives : (fs : Headers) (b : List ℕ) (t : Tag) → ¬ (body_value true fs b ≡ Err t)
lenient_gives fs [] t e = a_value null t (Ok null) refl e
lenient_gives fs (b ∷ bs) t e =
    let m = content_type fs in
    code_gives (typed_body true m (b ∷ bs)) (bytes (b ∷ bs)) (values_of (codes "content-encoding") fs) t
    (type_gives (b ∷ bs) (bytes_eq m json_type) (starts_with (codes "text/") m) t) e

pub lenient_value : (f : BodyFault) (fs : Headers) (b : List ℕ) → f ≡ fault.NoJson → ¬ (GivesBody (Err f) (body_value true fs b))
lenient_value f fs b is h = lenient_gives fs b ResponseTypeError (subst (λ (g : BodyFault). GivesBody (Err g) (body_value true fs b)) is h)
