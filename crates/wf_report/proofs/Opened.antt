-- What was read of a file that was opened.
use Rattle.std.proofs.Common.{◌≡◌, ◌≢◌, ◌∙◌, ℕ, List, [], take, Result, Ok, Err, IfOk, IfErr, String, Global, ap, sym, subst}
use Rattle.std.specs.Prelude.{string_bytes}
use Rattle.wf_history.specs.declared.history.History.{History}
use Rattle.wf_host.specs.Moments.{joined}
use Rattle.wf_host.specs.World.{World, LeavesOnly}
use Rattle.wf_journal.specs.Journal.{IsJournal, Stays}
use Rattle.wf_journal.specs.Records.{magic, records}
use Rattle.wf_deeds.proofs.Playing.{played_is_history}
use Rattle.wf_deeds.specs.History.{history, plays}
use Rattle.wf_deeds.specs.Language.{Language}
use Rattle.wf_machine.specs.Seen.{state_of}
use Rattle.wf_machine.specs.declared.machine.Machine.{Machine}
use Rattle.wf_replay.proofs.OnlyReads.{magic_found}
use Rattle.wf_replay.specs.Standing.{standing}
use Rattle.wf_replay.specs.declared.engine_fault.EngineFault.TheVariants as fault
use Rattle.wf_replay.specs.declared.engine_fault.EngineFault.{EngineFault}
use Rattle.wf_report.proofs.Fronts.{config_is}
use Rattle.wf_report.specs.Journals.{Reaches, Shows}

-- ## Moments
-- two calls that only read are one
pub stays_on : (w mid new : World) → LeavesOnly w mid (Stays w) → LeavesOnly mid new (Stays mid) → mid.seen ≡ w.seen → mid.deeds ≡ w.deeds → LeavesOnly w new (Stays w)
stays_on w mid new so_far more seen deeds = joined w mid new (Stays w) (Stays mid) so_far more (λ c d is. (is.0 ∙ seen, is.1 ∙ deeds))

-- ## Results
-- what holds of a result that is Ok
-- records that are none of a history are those of the file
pub no_history_for : {X : Type 0} (L : Language) (file : List ℕ) (J : List (List ℕ)) (r : Result X EngineFault) → J ≡ records file → IsJournal file
    → IfErr r (λ e. (n : ℕ) → e ≡ fault.NotAHistory n → (history L J ≡ Err n) × (J ≢ []))
    → IfErr r (λ e. (n : ℕ) → e ≡ fault.NotAHistory n → (history L (records file) ≡ Err n) × (records file ≢ []) × (take 4 file ≡ magic))
no_history_for L file J (Ok x) same may h = tt
no_history_for L file J (Err e) same may h = λ n is.
    let it = h n is in
    let some : records file ≢ [] = subst (λ K. K ≢ []) same it.1 in
    (ap (history L) (sym same) ∙ it.0, some, magic_found file may some)

-- and so they don't play
pub no_play_for : {X : Type 0} (L : Language) (file : List ℕ) (r : Result X EngineFault)
    → IfErr r (λ e. (n : ℕ) → e ≡ fault.NotAHistory n → (history L (records file) ≡ Err n) × (records file ≢ []) × (take 4 file ≡ magic))
    → IfErr r (λ e. (n : ℕ) → e ≡ fault.NotAHistory n → (plays L (records file) ≡ Err n) × (records file ≢ []) × (take 4 file ≡ magic))
no_play_for L file (Ok x) h = tt
no_play_for L file (Err e) h = λ n is. let it = h n is in (played_is_history L (records file) ∙ it.0, it.1, it.2)

-- where all records lead
pub leads_found : (L : Language) (file : List ℕ) (J : List (List ℕ)) (h : History) (r : Result Machine EngineFault) → J ≡ records file → IfOk r (λ m. history L J ≡ Ok (standing h m)) → IfOk r (λ m. Reaches L (records file) (state_of m).config)
leads_found L file J h (Ok m) same is = (standing h m, ap (history L) (sym same) ∙ is, config_is h m)
leads_found L file J h (Err e) same is = tt

pub shows_found : (L : Language) (file : List ℕ) (J : List (List ℕ)) (turns : ℕ) (r : Result (String Global) EngineFault) → J ≡ records file → IfOk r (λ text. Shows L J turns (string_bytes text)) → IfOk r (λ text. Shows L (records file) turns (string_bytes text))
shows_found L file J turns (Ok text) same shows = subst (λ K. Shows L K turns (string_bytes text)) same shows
shows_found L file J turns (Err e) same shows = tt
