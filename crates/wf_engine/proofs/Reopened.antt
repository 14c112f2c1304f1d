-- A history that was read to its end, and the session that goes on from it.
use Rattle.std.specs.Prelude.{◌≡◌, ◌≢◌, ◌⊎◌, ◌≤◌, ◌+◌, min, ℕ, zero, false, suc, if◌then◌else◌, List, [], ◌∷◌, ◌++◌, length, take, drop, Option, Some, None, Result, Ok, Err, IfErr, IsErr, IsErrAnd, unwrap_or}
use Rattle.std.proofs.Common.{inl, inr, refl, sym, ◌∙◌, ap, arith, length-drop}
use Rattle.wf_lemmas.proofs.Lists.{few_if}
use Rattle.wf_engine.proofs.NewSessions.{leads_opened, stands_opened}
use Rattle.wf_deeds.specs.Clauses.{Opened}
use Rattle.wf_deeds.specs.Laws.{OnlyReadings}
use Rattle.wf_deeds.specs.Outside.{Outside}
use Rattle.wf_deeds.specs.Steps.{FreshStands, fresh}
use Rattle.wf_engine.specs.Openings.{ReadsClock}
use Rattle.wf_history.specs.Stands.{Stands, ahead, last}
use Rattle.wf_history.specs.declared.history.History.{History}
use Rattle.wf_host.specs.World.{World, Only, longest}
use Rattle.wf_host.specs.declared.data.Deed.TheVariants.{Now}
use Rattle.wf_journal.specs.Journal.{IsJournal}
use Rattle.wf_journal.specs.Records.{magic, records, payloads, is_open, length_of}
use Rattle.wf_journal.specs.Standing.{stands_where}
use Rattle.wf_machine.specs.Seen.{state_of}
use Rattle.wf_machine.specs.declared.machine.Machine.{Machine}
use Rattle.wf_model.specs.Config.{Config, Active}
use Rattle.wf_deeds.specs.History.{Standing, history}
use Rattle.wf_deeds.specs.Language.{Language}
use Rattle.wf_deeds.specs.Moments.{HistoryStandsBefore, NoTurnsBehind, NumberIsCount, SessionIsNumbered}
use Rattle.wf_replay.proofs.OnlyReads.{magic_found}
use Rattle.wf_replay.specs.Standing.{session_of, standing, stands_at}
use Rattle.wf_replay.specs.declared.engine_fault.EngineFault.TheVariants.{NotAHistory}
use Rattle.wf_replay.specs.declared.engine_fault.EngineFault.{EngineFault}

-- ## What stands
program_at : (n : ℕ) (l : Option (ℕ × ℕ)) (m : Machine) → (stands_at n l m).program ≡ (state_of m).program
unfolding stands_at
program_at n l m = refl

format_at : (n : ℕ) (l : Option (ℕ × ℕ)) (m : Machine) → (stands_at n l m).two ≡ false
unfolding stands_at
format_at n l m = refl

config_at : (n : ℕ) (l : Option (ℕ × ℕ)) (m : Machine) → (stands_at n l m).config ≡ (state_of m).config
unfolding stands_at
config_at n l m = refl

session_at : (n : ℕ) (l : Option (ℕ × ℕ)) (m : Machine) → (stands_at n l m).session ≡ session_of l
unfolding stands_at
session_at n l m = refl

-- a history stands wherever the file reads as it did and a crash leaves just this
pub still_stands : (h : History) (w new : World) → Stands h w → new.seen ≡ w.seen → Only new.seen new.may_leave → Stands h new
still_stands h w new s same settled = record {
  journal = stands_where h.journal w new s.journal same settled;
  passed = s.passed;
  all = ap records same ∙ s.all ∙ ap (λ f. s.passed ++ ahead h f) (sym same);
  counted = s.counted;
}

-- ## The number of the session

-- there are no more payloads than bytes
few : (n : ℕ) (bytes : List ℕ) → length (payloads n bytes) ≤ n
unfolding payloads
few zero bytes = omega arith
few (suc n) [] = omega arith
few (suc n) (gate ∷ rest) = few_if (is_open gate rest) n (take (length_of rest) (drop 4 rest)) (payloads n (drop (4 + length_of rest) rest)) (few n (drop (4 + length_of rest) rest))

few_records : (image : List ℕ) → length (records image) ≤ length image
few_records image = omega (arith, few (length (drop 4 image)) (drop 4 image), length-drop 4 image)

session_in : (l : Option (ℕ × ℕ)) → (unwrap_or l (0, 0)).0 ≡ session_of l
session_in None = refl
session_in (Some p) = refl

-- it is the one behind that of the last turn
pub next_number : (L : Language) → NumberIsCount → SessionIsNumbered → (image : List ℕ) (h : History) (m : Machine) (n last_one : ℕ) → history L (records image) ≡ Ok (standing h m) → length image ≤ longest
    → last_one ≡ (unwrap_or (last h) (0, 0)).0 → n ≡ min (last_one + 1) 18446744073709551615 → n ≡ suc (standing h m).session
next_number L count numbered image h m n last_one is fits found next =
    let s = standing h m in
    let one : last_one ≡ s.session = found ∙ session_in (last h) ∙ sym (session_at h.place (last h) m) in
    omega (arith, few_records image, fits, count L (records image) s is, numbered L (records image) s is, one, next)

-- ## What was opened
module _ (L : Language) (O : Outside) (only : OnlyReadings) (stands : FreshStands) (stands_before : HistoryStandsBefore) (no_turns : NoTurnsBehind) (numbered : SessionIsNumbered) where
  pub opened : (old mid new : World) (h : History) (m : Machine) (n r : ℕ) → history L (records old.seen) ≡ Ok (standing h m) → new.seen ≡ old.seen → mid.deeds ≡ old.deeds → n ≡ suc (standing h m).session
      → ReadsClock (state_of m).config r mid new → Opened L O (fresh (state_of m).program (state_of m).config n r) old new
  opened old mid new h m n r is seen deeds next read = record {
    done = read.done;
    deeds = read.deeds ∙ ap (λ l. l ++ read.done) deeds;
    leads = leads_opened L numbered (records new.seen) (standing h m) (state_of m).program (state_of m).config n r (ap (λ l. history L (records l)) seen ∙ is) (program_at h.place (last h) m) (config_at h.place (last h) m) (format_at h.place (last h) m) next;
    stands = λ found handed. stands_opened L O handed only stands stands_before no_turns numbered (records new.seen) (standing h m) (state_of m).program (state_of m).config n r read.done
        (ap (λ l. history L (records l)) seen ∙ is) (program_at h.place (last h) m) (config_at h.place (last h) m) (format_at h.place (last h) m) next read.greatest read.clock;
    clock = read.clock;
  }

pub deeds_on : (old mid new : World) → mid.deeds ≡ old.deeds → (new.deeds ≡ mid.deeds) ⊎ ((t : ℕ) × (new.deeds ≡ mid.deeds ++ Now t ∷ [])) → (new.deeds ≡ old.deeds) ⊎ ((t : ℕ) × (new.deeds ≡ old.deeds ++ Now t ∷ []))
deeds_on old mid new same (inl none) = inl (none ∙ same)
deeds_on old mid new same (inr (t, one)) = inr (t, one ∙ ap (λ l. l ++ Now t ∷ []) same)

-- what was found to be no history is none, in a file with a record
pub no_history_told : {T : Type 0} (L : Language) (file : List ℕ) (J : List (List ℕ)) (r : Result T EngineFault) (cause : EngineFault) → IsErr r × IsErrAnd r (λ e. e ≡ cause) → J ≡ records file → IsJournal file
    → ((n : ℕ) → cause ≡ NotAHistory n → (history L J ≡ Err n) × (J ≢ [])) → IfErr r (λ e. (n : ℕ) → e ≡ NotAHistory n → (history L (records file) ≡ Err n) × (records file ≢ []) × (take 4 file ≡ magic))
no_history_told L file J (Ok x) cause gives same fit why = absurd gives.1
no_history_told L file J (Err e) cause gives same fit why = λ n is.
    let it = why n (sym gives.1 ∙ is) in
    let some : records file ≢ [] = λ none. it.1 (same ∙ none) in
    (ap (λ K. history L K) (sym same) ∙ it.0, some, magic_found file fit some)

-- the records of a file that reads as it did lead there
pub led_on : (L : Language) (w mid : World) (J : List (List ℕ)) (s : Standing) → mid.seen ≡ w.seen → J ≡ records mid.seen → history L J ≡ Ok s → history L (records w.seen) ≡ Ok s
led_on L w mid J s seen first leads = ap (λ l. history L (records l)) (sym seen) ∙ ap (λ K. history L K) (sym first) ∙ leads

-- a history with an outcome is that of its machine
pub has_ended : (L : Language) (J : List (List ℕ)) (h : History) (m : Machine) (s : Standing) → history L J ≡ Ok (standing h m) → history L J ≡ Ok s → s.config.outcome ≢ Active → (state_of m).config.outcome ≢ Active
has_ended L J h m s is other ended active =
    let same : Ok (standing h m) ≡ Ok s = sym is ∙ other in
    let one : standing h m ≡ s = cc same in
    ended (ap (λ (t : Standing). t.config.outcome) (sym one) ∙ ap (λ (c : Config). c.outcome) (config_at h.place (last h) m) ∙ active)
