-- What steps log.
--     logged_view      an entry that a step logs
--     severity_told    the severity that an argument says
--     text_told        the text that an argument says
--     within_log       an entry that doesn't pass the limit, where so much was logged before
--     entry_within     the entry for which arguments ask, if it doesn't pass the limit
use Rattle.std.specs.Prelude.{ℕ, ◌+◌, nat_le, if◌then◌else◌, Option, Some, Ok, Err}
use Rattle.wf_model.specs.Calls as calls
use Rattle.wf_model.specs.Config.{log_limit}
use Rattle.wf_sys_ask.specs.declared.entry.Logged.{Logged}
use Rattle.wf_value.specs.Events.{severity_named}
use Rattle.wf_value.specs.HttpRequest.{as_text}
use Rattle.wf_value.specs.Data.{Data, Pairs, size, text}
use Rattle.wf_value.specs.Errors.{Answer, ◌>>=◌, or_error}
use Rattle.wf_value.specs.Plain.{plain}
use Rattle.wf_value.specs.declared.Severity.{Severity}
use Rattle.wf_value.specs.declared.Tag.TheVariants.{ResourceLimitError, ValueError}

abbrev pub logged_view : Logged → calls.Logged
logged_view e = record { severity = e.severity; value = plain e.value }

-- kinds first, and then the name
abbrev pub severity_told : Option Data → Answer Severity
severity_told o = calls.severity_text o >>= λ t. or_error ValueError (severity_named t)

abbrev pub text_told : Data → Answer Data
text_told v = as_text (Some v) >>= λ t. Ok (text t)

-- the same as the definition of steps has it, by the size of all that was logged
abbrev pub within_log : ℕ → calls.Logged → Answer calls.Logged
within_log logged e = if nat_le (logged + size e.value) log_limit then Ok e else Err ResourceLimitError

abbrev pub entry_within : ℕ → Pairs → Answer calls.Logged
entry_within logged args = calls.log_entry args >>= within_log logged
