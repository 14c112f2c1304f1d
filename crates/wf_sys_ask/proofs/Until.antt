-- Sleeps until a time.
use Rattle.std.proofs.Common.{◌≡◌, ℕ, Ok, Err, None, Some, sym}
use Rattle.std.specs.Prelude.{◌*◌, pos, Option, Result}
use Rattle.wf_eval.specs.Answers.{Answers}
use Rattle.wf_value.specs.Answers.{IsAnswerOf}
use Rattle.wf_model.specs.Calls.{until_due}
use Rattle.wf_value.specs.LibTime.{parsed_time, time_parse}
use Rattle.wf_value.specs.Data.{Data, boolean, bytes, integer, list, map, null, text}
use Rattle.wf_value.specs.Errors.{Answer, ◌>>=◌, or_error}
use Rattle.wf_value.specs.Plain.{plain}
use Rattle.wf_value.specs.declared.Raise.{Raise}
use Rattle.wf_value.specs.declared.Raise.TheVariants.{Error, OutOfMemory}
use Rattle.wf_value.specs.declared.Tag.TheVariants.{TypeError, ValueError}
use Rattle.wf_value.specs.declared.Value.{Value}
use Rattle.wf_value.specs.declared.Tag.{Tag}

until_err_by : (t : Tag) (o : Option ℕ) → (or_error ValueError o >>= λ n. Ok (integer (pos n))) ≡ Err t → Answers (λ (n : ℕ). n) (Err (Error t)) (or_error ValueError o >>= λ n. Ok (n * 1000))
until_err_by t None h = let same : ValueError ≡ t = cc h in sym same
until_err_by t (Some n) h = absurd (cc h)

no_text : (t : Tag) → ◌≡◌ {A = Answer Data} (Err TypeError) (Err t) → t ≡ TypeError
no_text t h = let same : TypeError ≡ t = cc h in sym same

pub until_err : (d : Data) (t : Tag) → time_parse d ≡ Err t → Answers (λ (n : ℕ). n) (Err (Error t)) (until_due (Some d))
until_err null t h = no_text t h
until_err (boolean b) t h = no_text t h
until_err (integer n) t h = no_text t h
until_err (text s) t h = until_err_by t (parsed_time s) h
until_err (bytes s) t h = no_text t h
until_err (list vs) t h = no_text t h
until_err (map ps) t h = no_text t h

pub until_failed : (d : Data) (e : Raise) → IsAnswerOf (Err e) (time_parse d) → Answers (λ (n : ℕ). n) (Err e) (until_due (Some d))
until_failed d OutOfMemory h = tt
until_failed d (Error t) h = until_err d t h

until_ok_by : (v : Value) (r : Result ℕ Raise) (o : Option ℕ) → ((n : ℕ) → plain v ≡ integer (pos n) → Answers (λ (k : ℕ). k) r (Ok (n * 1000))) → (or_error ValueError o >>= λ n. Ok (integer (pos n))) ≡ Ok (plain v) → Answers (λ (n : ℕ). n) r (or_error ValueError o >>= λ n. Ok (n * 1000))
until_ok_by v r None f h = absurd (cc h)
until_ok_by v r (Some n) f h = let same : integer (pos n) ≡ plain v = cc h in f n (sym same)

pub until_ok : (d : Data) (v : Value) (r : Result ℕ Raise) → time_parse d ≡ Ok (plain v) → ((n : ℕ) → plain v ≡ integer (pos n) → Answers (λ (k : ℕ). k) r (Ok (n * 1000))) → Answers (λ (n : ℕ). n) r (until_due (Some d))
until_ok null v r h f = absurd (cc h)
until_ok (boolean b) v r h f = absurd (cc h)
until_ok (integer n) v r h f = absurd (cc h)
until_ok (text s) v r h f = until_ok_by v r (parsed_time s) f h
until_ok (bytes s) v r h f = absurd (cc h)
until_ok (list vs) v r h f = absurd (cc h)
until_ok (map ps) v r h f = absurd (cc h)
