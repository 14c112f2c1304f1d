-- Texts that are read: JSON and base64.
use Rattle.std.proofs.Common.{◌≡◌, ℕ, List, Option, Some, None, Result, Ok, Err, refl, sym, ap, ◌∙◌, subst}
use Rattle.base64.specs.Engines.{standard}
use Rattle.base64.specs.GeneralPurpose.{IsDecodeFailure, decode_of, decoded_of}
use Rattle.base64.specs.declared.decode.DecodeAllocError.{DecodeAllocError}
use Rattle.base64.specs.declared.decode.DecodeAllocError.TheVariants.{DecodeError as Failed}
use Rattle.base64.specs.declared.decode.DecodeError.{DecodeError}
use Rattle.std.specs.Result.{result_ok}
use Rattle.wf_value.specs.LibData.{base64_decode, json_decode}
use Rattle.wf_value.specs.Data.{Data, bytes, text}
use Rattle.wf_value.specs.Decode.{json_value}
use Rattle.wf_value.specs.Errors.{Answer, ◌>>=◌, or_error, sized}
use Rattle.wf_value.specs.Json.{IsValue}
use Rattle.wf_value.specs.JsonFaults.{IsFaultOf}
use Rattle.wf_value.specs.JsonLaws.{FindsTheValue, HasValue, NoTwoHold}
use Rattle.wf_value.specs.Plain.{plain}
use Rattle.wf_value.specs.declared.errors.Raise.{Raise}
use Rattle.wf_value.specs.declared.errors.Tag.TheVariants.{ValueError}
use Rattle.wf_value.specs.declared.json_text.JsonFault.{JsonFault}
use Rattle.wf_value.specs.declared.json_text.JsonFault.TheVariants.{NotJson, Decimal, TooDeep, OutOfMemory}
use Rattle.wf_value.specs.declared.value.Value.{Value}
use Rattle.wf_lib_data.specs.Lent.{raised}
use Rattle.wf_value.specs.Answers.{IsAnswerOf}
use Rattle.wf_lib_data.proofs.Giving.{gives_same}

-- ## JSON
abbrev read_as : Option Data → Answer Data
read_as o = or_error ValueError o >>= sized

pub json_gives : FindsTheValue → (r : Result Value Raise) (b : List ℕ) (v : Value) → IsValue b (plain v) → IsAnswerOf r (sized (plain v)) → IsAnswerOf r (json_decode (bytes b))
json_gives finds r b v is h = gives_same r (sized (plain v)) (json_decode (bytes b)) (ap read_as (sym ((finds b (plain v)).1 is))) h

none_read : (b : List ℕ) → ((d : Data) → ¬ (json_value b ≡ Some d)) → (o : Option Data) → json_value b ≡ o → o ≡ None
none_read b bare None is = refl
none_read b bare (Some d) is = absurd (bare d is)

not_a_value : FindsTheValue → (b : List ℕ) → ¬ (HasValue b) → json_decode (bytes b) ≡ Err ValueError
not_a_value finds b none = ap read_as (none_read b (λ d is. none (d, (finds b d).0 is)) (json_value b) refl)

fault_gives : FindsTheValue → (b : List ℕ) → NoTwoHold b → (f : JsonFault) → IsFaultOf b f → IsAnswerOf (Err (raised f)) (json_decode (bytes b))
fault_gives finds b apart NotJson h = not_a_value finds b (λ v. apart.value_or_not_json v h)
fault_gives finds b apart Decimal h = not_a_value finds b (λ v. apart.value_or_decimal v h)
fault_gives finds b apart TooDeep h = not_a_value finds b (λ v. apart.value_or_too_deep v h)
fault_gives finds b apart OutOfMemory h = tt

pub json_fails : FindsTheValue → (b : List ℕ) → NoTwoHold b → (f : JsonFault) (e : Raise) → e ≡ raised f → IsFaultOf b f → IsAnswerOf (Err e) (json_decode (bytes b))
json_fails finds b apart f e is h = rw is (fault_gives finds b apart f h)

-- ## Base64
abbrev decoded_as : Option (List ℕ) → Answer Data
decoded_as o = or_error ValueError o >>= λ b. sized (bytes b)

decodes : (s t : List ℕ) (r : Result (List ℕ) DecodeError) → t ≡ s → decode_of standard t ≡ r → decoded_of standard s ≡ result_ok r
unfolding decoded_of
decodes s t r same h = ap (λ x. result_ok (decode_of standard x)) (sym same) ∙ ap result_ok h

pub base64_gives : (r : Result Value Raise) (s t b c : List ℕ) → t ≡ s → decode_of standard t ≡ Ok b → c ≡ b → IsAnswerOf r (sized (bytes c)) → IsAnswerOf r (base64_decode (text s))
base64_gives r s t b c same h is g =
    gives_same r (sized (bytes c)) (base64_decode (text s)) (ap (λ x. sized (bytes x)) is ∙ ap decoded_as (sym (decodes s t (Ok b) same h))) g

failed : (t : List ℕ) (f : DecodeAllocError) (e : DecodeError) → f ≡ Failed e → IsDecodeFailure standard t f → decode_of standard t ≡ Err e
failed t f e is h = subst (λ (x : DecodeAllocError). IsDecodeFailure standard t x) is h

pub base64_fails : (s t : List ℕ) (f : DecodeAllocError) (e : DecodeError) → t ≡ s → f ≡ Failed e → IsDecodeFailure standard t f → base64_decode (text s) ≡ Err ValueError
base64_fails s t f e same is h = ap decoded_as (decodes s t (Err e) same (failed t f e is h))
