-- Texts as answers: bytes that are texts or not, and texts that are too long.
use Rattle.std.proofs.Common.{◌≡◌, ◌<◌, ◌≤◌, ◌+◌, ◌++◌, ℕ, length, Err, sym, ap, ◌∙◌, subst, arith, length-append, append_assoc}
use Rattle.std.proofs.Common.{Bool, IsUtf8, true, false}
use Rattle.std.proofs.lemmas.Bool.{false_from_ne_true, lt-leb}
use Rattle.std.proofs.lemmas.Str.{IsUtf8-from_is_utf8, is_utf8-from_IsUtf8}
use Rattle.std.specs.Prelude.{if◌then◌else◌, Ok, Result}
use Rattle.std.specs.Str.{is_utf8}
use Rattle.wf_lib_text.specs.Long.{IsPast}
use Rattle.wf_value.specs.Answers.{IsAnswerOf}
use Rattle.wf_value.specs.LibText.{as_utf8}
use Rattle.wf_value.specs.Data.{Data, size_limit, text}
use Rattle.wf_value.specs.Errors.{Answer, sized}
use Rattle.wf_value.specs.Pairs.{Text}
use Rattle.wf_value.specs.declared.errors.Raise.{Raise}
use Rattle.wf_value.specs.declared.errors.Raise.TheVariants.{Error, OutOfMemory}
use Rattle.wf_value.specs.declared.errors.Tag.TheVariants.{ResourceLimitError, ValueError}
use Rattle.wf_value.specs.declared.value.Value.{Value}

-- ## Bytes
pub utf8_text : (r : Result Value Raise) (b s : Text) → IsUtf8 b → s ≡ b → IsAnswerOf r (sized (text s)) → IsAnswerOf r (as_utf8 b)
utf8_text r b s u e h =
    let same : sized (text s) ≡ as_utf8 b = ap (λ l. sized (text l)) e ∙ sym (ap (λ t. if t then sized (text b) else Err ValueError) (is_utf8-from_IsUtf8 b u)) in
    subst (λ (a : Answer Data). IsAnswerOf r a) same h

pub no_utf8 : (b : Text) → ¬ (IsUtf8 b) → as_utf8 b ≡ Err ValueError
no_utf8 b h = ap (λ t. if t then sized (text b) else Err ValueError) (false_from_ne_true (is_utf8 b) (λ e. h (IsUtf8-from_is_utf8 b e)))

-- ## Texts that are too long
past : (s : Text) → size_limit < 2 + length s → sized (text s) ≡ Err ResourceLimitError
past s h = ap (λ b. if b then Ok (text s) else Err ResourceLimitError) (lt-leb (2 + length s) size_limit h)

-- what was to be built goes on behind what is too long already
past_by : (e : Raise) (s rest whole : Text) → s ++ rest ≡ whole → IsPast s e → IsAnswerOf (Err e) (sized (text whole))
past_by (Error t) s rest whole h k =
    let long : size_limit < 2 + length whole = omega (arith, k.1, length-append s rest, ap length h) in
    past whole long ∙ ap Err (sym k.0)
past_by OutOfMemory s rest whole h k = tt

pub gives_past : (r : Result Value Raise) (e : Raise) (s rest whole : Text) → r ≡ Err e → s ++ rest ≡ whole → IsPast s e → IsAnswerOf r (sized (text whole))
gives_past r e s rest whole is h k = subst (λ (x : Result Value Raise). IsAnswerOf x (sized (text whole))) (sym is) (past_by e s rest whole h k)

pub gives_same : (r : Result Value Raise) (a b : Answer Data) → a ≡ b → IsAnswerOf r a → IsAnswerOf r b
gives_same r a b e h = subst (λ (x : Answer Data). IsAnswerOf r x) e h

pub regrouped : (a b c front between rest : Text) → b ≡ a ++ front → c ≡ b ++ between → c ++ rest ≡ a ++ (front ++ (between ++ rest))
regrouped a b c front between rest e f =
    ap (λ l. l ++ rest) f
    ∙ append_assoc b between rest
    ∙ ap (λ l. l ++ (between ++ rest)) e
    ∙ append_assoc a front (between ++ rest)
