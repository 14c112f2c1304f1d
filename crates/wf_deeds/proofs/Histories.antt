-- The number that is told, longer histories and shorter ones.
use Rattle.std.specs.Prelude.{◌≡◌, ◌<◌, ◌≤◌, ◌+◌, ℕ, zero, suc, Bool, false, IsTrue, List, [], ◌∷◌, ◌++◌, map, length, take, Option, Some, None, Result, Ok, Err}
use Rattle.std.proofs.Common.{inl, inr, refl, sym, ◌∙◌, ap, arith}
use Rattle.wf_events.specs.Reading.{meaning}
use Rattle.wf_events.specs.Records.{Record}
use Rattle.wf_model.specs.Config.{Config, To}
use Rattle.wf_model.specs.Run.{initial}
use Rattle.wf_deeds.proofs.Complete.{first_is}
use Rattle.wf_deeds.proofs.Runs.{begins_by, goes_on_by, one_more}
use Rattle.wf_deeds.proofs.Steps.{off, on}
use Rattle.wf_deeds.specs.History.{Standing, first_standing, goes_on, goes_to, history, history_from, told}
use Rattle.wf_deeds.specs.HistoryLaws.{NumberIsLeast, RecordGoesOn, RecordsGoOn, StartIsAHistory, FrontIsAHistory, IsHistory, HistoryOpens}
use Rattle.wf_deeds.specs.Language.{Language}

-- the first of some records that doesn't go on
record Stops (L : Language) (s : Standing) (bs : List (List ℕ)) (n : ℕ) : Type 0 where
  pub at : ℕ
  pub number : n ≡ told (s.number + at)
  pub inside : at < length bs
  pub none : (t : Standing) → goes_to L s (take (suc at) bs) ≡ Ok t → ⊥
  pub before : (k : ℕ) → k ≤ at → (t : Standing) × (goes_to L s (take k bs) ≡ Ok t)

at_once : (L : Language) (s : Standing) (b : List ℕ) (bs : List (List ℕ)) (n : ℕ) → goes_on L s (meaning b) ≡ None → told s.number ≡ n → Stops L s (b ∷ bs) n
at_once L s b bs n e is = record {
  at = 0;
  number = sym is ∙ ap told (omega arith);
  inside = omega arith;
  none = λ t ok. let no : Err (told s.number) ≡ Ok t = sym (off L s b [] e) ∙ ok in cc no;
  before = none_before;
}
  where
    none_before : (k : ℕ) → k ≤ 0 → (t : Standing) × (goes_to L s (take k (b ∷ bs)) ≡ Ok t)
    none_before zero le = (s, refl)
    none_before (suc k) le = absurd (omega (arith, le))

later : (L : Language) (s u : Standing) (b : List ℕ) (bs : List (List ℕ)) (n : ℕ) → goes_on L s (meaning b) ≡ Some u → u.number ≡ suc s.number → Stops L u bs n → Stops L s (b ∷ bs) n
later L s u b bs n e more r = record {
  at = suc r.at;
  number = r.number ∙ ap told (omega (arith, more));
  inside = omega (arith, r.inside);
  none = λ t ok. r.none t (sym (on L s u b (take (suc r.at) bs) e) ∙ ok);
  before = all_before;
}
  where
    all_before : (k : ℕ) → k ≤ suc r.at → (t : Standing) × (goes_to L s (take k (b ∷ bs)) ≡ Ok t)
    all_before zero le = (s, refl)
    all_before (suc k) le = let (t, ok) = r.before k (omega (arith, le)) in (t, on L s u b (take k bs) e ∙ ok)

stops_by : (L : Language) (s : Standing) (bs : List (List ℕ)) (n : ℕ) → goes_to L s bs ≡ Err n → Stops L s bs n
stops_by L s [] n is = absurd cc
stops_by L s (b ∷ bs) n is =
    (elim (goes_on L s (meaning b)) as (λ o. goes_on L s (meaning b) ≡ o → (elim o [ None ↦ Err (told s.number) | Some u ↦ goes_to L u bs ]) ≡ Err n → Stops L s (b ∷ bs) n) [
      | None ↦ λ e no. at_once L s b bs n e (cc no)
      | Some u ↦ λ e on. later L s u b bs n e (one_more s (meaning b) u (goes_on_by L s (meaning b) u e)) (stops_by L u bs n on)
    ]) refl is

-- the first record is number 0
first_one : (L : Language) (m : Option Record) (s : Standing) → first_standing L m ≡ Some s → s.number ≡ 1
first_one L None s is = absurd cc
first_one L (Some r) s is = ap (λ (x : Standing). x.number) (sym (begins_by L r s is).is)

-- the number of the first of all records that doesn't go on
abbrev Least : Language → List (List ℕ) → ℕ → Type 0
Least L J n = (m : ℕ) × (n ≡ told m) × (m < length J) × ¬ IsHistory L (take (suc m) J) × ((k : ℕ) → k < m → IsHistory L (take (suc k) J))

least_behind : (L : Language) (s : Standing) (b : List ℕ) (bs : List (List ℕ)) (n : ℕ) → first_standing L (meaning b) ≡ Some s → s.number ≡ 1 → Stops L s bs n → Least L (b ∷ bs) n
unfolding history
least_behind L s b bs n e one r = (
  suc r.at,
  r.number ∙ ap told (omega (arith, one)),
  omega (arith, r.inside),
  λ (t, ok). r.none t (sym (ap (λ o. history_from L o (map meaning (take (suc r.at) bs))) e) ∙ ok),
  λ k lt. let (t, ok) = r.before k (omega (arith, lt)) in (t, ap (λ o. history_from L o (map meaning (take k bs))) e ∙ ok),
)

none_begins : (L : Language) (b : List ℕ) (bs : List (List ℕ)) (n : ℕ) → first_standing L (meaning b) ≡ None → 0 ≡ n → Least L (b ∷ bs) n
unfolding history
none_begins L b bs n e is = (
  0,
  omega (arith, is),
  omega arith,
  λ (t, ok). let no : Err 0 ≡ Ok t = sym (ap (λ o. history_from L o []) e) ∙ ok in cc no,
  λ k lt. absurd (omega (arith, lt)),
)

pub least : NumberIsLeast
unfolding history
least L [] n is = inl (refl, sym (cc is))
least L (b ∷ bs) n is =
    inr ((elim (first_standing L (meaning b)) as (λ o. first_standing L (meaning b) ≡ o → history_from L o (map meaning bs) ≡ Err n → Least L (b ∷ bs) n) [
      | None ↦ λ e no. none_begins L b bs n e (cc no)
      | Some s ↦ λ e on. least_behind L s b bs n e (first_one L (meaning b) s e) (stops_by L s bs n on)
    ]) refl is)

-- ## Longer ones
abbrev and_on : Result Standing ℕ → (Standing → Result Standing ℕ) → Result Standing ℕ
and_on (Ok s) f = f s
and_on (Err n) f = Err n

goes_to-append : (L : Language) (s : Standing) (bs cs : List (List ℕ)) → goes_to L s (bs ++ cs) ≡ and_on (goes_to L s bs) (λ t. goes_to L t cs)
goes_to-append L s [] cs = refl
goes_to-append L s (b ∷ bs) cs =
    elim (goes_on L s (meaning b)) as (λ v. (elim v [ None ↦ Err (told s.number) | Some t ↦ goes_to L t (bs ++ cs) ]) ≡ and_on (elim v [ None ↦ Err (told s.number) | Some t ↦ goes_to L t bs ]) (λ t. goes_to L t cs)) [
      | None ↦ refl
      | Some t ↦ goes_to-append L t bs cs
    ]

history-append : (L : Language) (b : List ℕ) (bs cs : List (List ℕ)) → history L (b ∷ bs ++ cs) ≡ and_on (history L (b ∷ bs)) (λ t. goes_to L t cs)
unfolding history
history-append L b bs cs =
    elim (first_standing L (meaning b)) as (λ o. history_from L o (map meaning (bs ++ cs)) ≡ and_on (history_from L o (map meaning bs)) (λ t. goes_to L t cs)) [
      | None ↦ refl
      | Some s ↦ goes_to-append L s bs cs
    ]

no_records : (L : Language) (s : Standing) → history L [] ≡ Ok s → ⊥
unfolding history
no_records L s is = absurd cc

pub records_go_on : RecordsGoOn
records_go_on L [] bs s is = absurd (no_records L s is)
records_go_on L (b ∷ cs) bs s is = history-append L b cs bs ∙ ap (λ r. and_on r (λ u. goes_to L u bs)) is

pub record_goes_on : RecordGoesOn
record_goes_on L J payload s t is next = records_go_on L J (payload ∷ []) s is ∙ on L s t payload [] next

pub start_is_a_history : StartIsAHistory
unfolding history
start_is_a_history L payload r s two p c meant starts rules source leads =
    ap (λ m. history_from L (first_standing L m) []) meant ∙ ap (λ x. history_from L x []) (first_is L r s two p c starts rules source leads)

pub front : FrontIsAHistory
front L b bs cs t is = of_front (history L (b ∷ bs)) (sym (history-append L b bs cs) ∙ is)
  where
    of_front : (r : Result Standing ℕ) → and_on r (λ u. goes_to L u cs) ≡ Ok t → (s : Standing) × (r ≡ Ok s)
    of_front (Ok s) e = (s, refl)
    of_front (Err n) e = absurd cc

-- ## Opening
pub history_opens : HistoryOpens
history_opens L J s is = is
