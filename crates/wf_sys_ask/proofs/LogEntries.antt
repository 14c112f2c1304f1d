-- The entry for which the arguments of a log ask.
use Rattle.std.proofs.Common.{◌≡◌, ℕ, Ok, Err, Some, None, ap, sym, subst, ◌∙◌}
use Rattle.std.specs.Prelude.{Option, Result, codes, IsErr, IsErrAnd}
use Rattle.wf_eval.specs.Answers.{Answers}
use Rattle.wf_model.specs.Calls as calls
use Rattle.wf_model.specs.Calls.{log_entry, logged_any, logged_value, severity_text}
use Rattle.wf_sys_ask.specs.Logs.{entry_within, logged_view, severity_told, text_told, within_log}
use Rattle.wf_value.specs.Events.{severity_named}
use Rattle.wf_sys_ask.proofs.Answered.{gave}
use Rattle.wf_value.specs.Data.{Data, Pairs}
use Rattle.wf_value.specs.Errors.{Answer, ◌>>=◌, or_error}
use Rattle.wf_value.specs.Pairs.{Text, get}
use Rattle.wf_value.specs.Plain.{plain}
use Rattle.wf_value.specs.declared.Raise.{Raise}
use Rattle.wf_value.specs.declared.Raise.TheVariants.{Error, OutOfMemory}
use Rattle.wf_value.specs.declared.Severity.{Severity}
use Rattle.wf_value.specs.declared.Tag.TheVariants.{ValueError}
use Rattle.wf_value.specs.declared.Value.{Value}

-- the value that is logged, by the argument `text`
abbrev pub value_in : Pairs → Option Data → Answer Data
value_in args o = elim o [ None ↦ Ok (logged_any args) | Some v ↦ text_told v ]

abbrev entry_with : Severity → Data → calls.Logged
entry_with severity v = record { severity = severity; value = v }

-- the severity, and then the entry
abbrev entry_by : Data → Answer Text → Answer calls.Logged
entry_by v x = x >>= λ t. or_error ValueError (severity_named t) >>= λ severity. Ok (entry_with severity v)

-- what `?` passes on is the error
pub raised_on : {T E : Type 0} (r : Result T E) (cause : E) (P : Result T E → Type 0) → IsErr r × IsErrAnd r (λ x. x ≡ cause) → P (Err cause) → P r
raised_on (Ok x) cause P gives h = absurd cc
raised_on (Err e) cause P gives h = subst (λ y. P (Err y)) (sym gives.1) h

-- an error ends what follows
err_on : {A B C D : Type 0} (f : A → B) (g : C → D) (e : Raise) (r : Answer B) (k : B → Answer D) → Answers f (Err e) r → Answers g (Err e) (r >>= k)
err_on f g OutOfMemory r k h = tt
err_on f g (Error t) (Ok d) k h = absurd h
err_on f g (Error t) (Err u) k h = h

err_told : (e : Raise) (x : Answer Text) (v : Data) → Answers (λ (s : Severity). s) (Err e) (x >>= λ t. or_error ValueError (severity_named t)) → Answers logged_view (Err e) (entry_by v x)
err_told OutOfMemory x v h = tt
err_told (Error t) (Ok s) v h = err_on (λ (s : Severity). s) logged_view (Error t) (or_error ValueError (severity_named s)) (λ severity. Ok (entry_with severity v)) h
err_told (Error t) (Err u) v h = h

module _ (args : Pairs) (logged : ℕ) where
  abbrev after : Data → Answer calls.Logged
  after v = entry_by v (severity_text (get (codes "severity") args))

  pub value_failed : (e : Raise) → Answers plain (Err e) (logged_value args) → Answers logged_view (Err e) (entry_within logged args)
  value_failed e h = err_on logged_view logged_view e (log_entry args) (within_log logged) (err_on plain logged_view e (logged_value args) after h)

  pub severity_failed : (v : Value) (e : Raise) (o : Option Data) → Answers plain (Ok v) (logged_value args) → Answers (λ (s : Severity). s) (Err e) (severity_told o) → o ≡ get (codes "severity") args → Answers logged_view (Err e) (entry_within logged args)
  severity_failed v e o a b is =
      let named = subst (λ (p : Option Data). Answers (λ (s : Severity). s) (Err e) (severity_told p)) is b in
      subst (λ (r : Answer Data). Answers logged_view (Err e) ((r >>= after) >>= within_log logged)) (sym (gave plain v (logged_value args) a))
      (err_on logged_view logged_view e (after (plain v)) (within_log logged) (err_told e (severity_text (get (codes "severity") args)) (plain v) named))

  by_severity : (v : Data) (s : Severity) (x : Answer Text) → (x >>= λ t. or_error ValueError (severity_named t)) ≡ Ok s → entry_by v x ≡ Ok (entry_with s v)
  by_severity v s (Ok t) h = ap (λ (y : Answer Severity). y >>= λ severity. Ok (entry_with severity v)) h
  by_severity v s (Err u) h = absurd (cc h)

  pub entry_asked : (v : Value) (s : Severity) (o : Option Data) → Answers plain (Ok v) (logged_value args) → Answers (λ (s : Severity). s) (Ok s) (severity_told o) → o ≡ get (codes "severity") args → log_entry args ≡ Ok (entry_with s (plain v))
  entry_asked v s o a b is =
      let named = subst (λ (p : Option Data). Answers (λ (s : Severity). s) (Ok s) (severity_told p)) is b in
      ap (λ (r : Answer Data). r >>= after) (gave plain v (logged_value args) a)
      ∙ by_severity (plain v) s (severity_text (get (codes "severity") args)) (gave (λ (s : Severity). s) s (severity_told (get (codes "severity") args)) named)
