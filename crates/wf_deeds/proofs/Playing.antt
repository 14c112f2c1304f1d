-- Where a history is played from its start.
use Rattle.std.specs.Prelude.{◌≡◌, ℕ, zero, suc, Bool, true, false, is_some, nat_eq, if◌then◌else◌, List, [], ◌∷◌, map, length, take, Option, Some, None, Result, Ok, Err}
use Rattle.std.proofs.Common.{refl, ◌∙◌, ap, subst}
use Rattle.wf_events.specs.Reading.{by_offset, known, meaning, record_at, record_of, start_at, taken_as, turn_at, whole_at}
use Rattle.wf_events.specs.Records.{Record, Started, Turned, Kept, Upgrade, Packed, StartedTwo}
use Rattle.wf_events.specs.Spelling.{IsBuilt}
use Rattle.wf_history.specs.Kinds.{turn_in}
use Rattle.wf_record_parts.specs.Reading.{Read, ◌>>=◌}
use Rattle.wf_deeds.proofs.Runs.{only_if}
use Rattle.wf_deeds.specs.History.{Standing, any_kept, first_standing, front_of, goes_on, goes_on_by, goes_over_by, goes_to, history, history_from, is_kept, plays, plays_from, told, up_to}
use Rattle.wf_deeds.specs.HistoryLaws.{HistoryPlays, PlayedIsHistory}
use Rattle.wf_deeds.specs.Language.{Language}

-- ## A history plays
one_plays : (L : Language) (s t : Standing) (m : Option Record) → goes_on L s m ≡ Some t → goes_on_by any_kept s m ≡ Some t
one_plays L s t None is = absurd cc
one_plays L s t (Some (Started x)) is = absurd cc
one_plays L s t (Some (StartedTwo x)) is = absurd cc
one_plays L s t (Some (Turned u)) is = is
one_plays L s t (Some (Packed u)) is = is
one_plays L s t (Some (Kept k)) is = (only_if (is_kept L s k) (Some (record s { number = suc s.number })) t is).1
one_plays L s t (Some Upgrade) is = is

all_play : (L : Language) (s t : Standing) (bs : List (List ℕ)) → goes_to L s bs ≡ Ok t → goes_over_by any_kept s (map meaning bs) ≡ Ok t
all_play L s t [] is = is
all_play L s t (b ∷ bs) is =
    (elim (goes_on L s (meaning b)) as (λ o. goes_on L s (meaning b) ≡ o → (elim o [ None ↦ Err (told s.number) | Some u ↦ goes_to L u bs ]) ≡ Ok t → goes_over_by any_kept s (map meaning (b ∷ bs)) ≡ Ok t) [
      | None ↦ λ e no. absurd (cc no)
      | Some u ↦ λ e on. ap (λ o. elim o [ None ↦ Err (told s.number) | Some v ↦ goes_over_by any_kept v (map meaning bs) ]) (one_plays L s u (meaning b) e) ∙ all_play L u t bs on
    ]) refl is

pub history_plays : HistoryPlays
unfolding history plays
history_plays L [] s is = absurd cc
history_plays L (b ∷ bs) s is =
    (elim (first_standing L (meaning b)) as (λ o. history_from L o (map meaning bs) ≡ Ok s → plays_from o (map meaning bs) ≡ Ok s) [
      | None ↦ λ no. absurd (cc no)
      | Some u ↦ λ on. all_play L u s bs on
    ]) is

-- ## What is read by now
kind_built : {A : Type 0} (x : Read A) (made : A → Record) (y : Record × List ℕ) → ((a : A) → IsBuilt (made a)) → taken_as made x ≡ Ok y → IsBuilt y.0
kind_built (Ok a) made y built is = let same : (made a.0, a.1) ≡ y = cc is in subst (λ (z : Record × List ℕ). IsBuilt z.0) same (built a.0)
kind_built (Err left) made y built is = absurd (cc is)

record_built : (bytes : List ℕ) (y : Record × List ℕ) → record_at bytes ≡ Ok y → IsBuilt y.0
unfolding record_at
record_built [] y is = absurd (cc is)
record_built (kind ∷ bytes) y is = by (nat_eq kind 1) (nat_eq kind 2) is
  where
    by : (a b : Bool) → (if a then taken_as Started (start_at bytes) else (if b then taken_as Turned (turn_at bytes) else Err (length (kind ∷ bytes)))) ≡ Ok y → IsBuilt y.0
    by true b one = kind_built (start_at bytes) Started y (λ s. tt) one
    by false true one = kind_built (turn_at bytes) Turned y (λ t. tt) one
    by false false one = absurd (cc one)

ended : (y : Record × List ℕ) (r : Record) (b : Bool) → IsBuilt y.0 → (if b then Ok y.0 else Err (length y.1)) ≡ Ok r → IsBuilt r
ended y r true built is = let same : y.0 ≡ r = cc is in subst IsBuilt same built
ended y r false built is = absurd (cc is)

whole_built : (bytes : List ℕ) (r : Record) → whole_at bytes ≡ Ok r → IsBuilt r
unfolding whole_at
whole_built bytes r is = by (record_at bytes) (λ y one. record_built bytes y one) is
  where
    by : (x : Read Record) → ((y : Record × List ℕ) → x ≡ Ok y → IsBuilt y.0) → (x >>= λ z. if nat_eq (length z.1) 0 then Ok z.0 else Err (length z.1)) ≡ Ok r → IsBuilt r
    by (Ok y) built one = ended y r (nat_eq (length y.1) 0) (built y refl) one
    by (Err left) built one = absurd (cc one)

built : (bytes : List ℕ) (r : Record) → meaning bytes ≡ Some r → IsBuilt r
unfolding meaning record_of
built bytes r is = by (whole_at bytes) (λ s one. whole_built bytes s one) is
  where
    by : (x : Result Record ℕ) → ((s : Record) → x ≡ Ok s → IsBuilt s) → known (by_offset (length bytes) x) ≡ Some r → IsBuilt r
    by (Ok s) all one = let same : s ≡ r = cc one in subst IsBuilt same (all s refl)
    by (Err left) all one = absurd (cc one)

-- ## What plays is a history
one_same : (L : Language) (s : Standing) (m : Option Record) → ((r : Record) → m ≡ Some r → IsBuilt r) → goes_on_by any_kept s m ≡ goes_on L s m
one_same L s None all = refl
one_same L s (Some (Started x)) all = refl
one_same L s (Some (StartedTwo x)) all = refl
one_same L s (Some (Turned t)) all = refl
one_same L s (Some (Packed t)) all = refl
one_same L s (Some (Kept k)) all = absurd (all (Kept k) refl)
one_same L s (Some Upgrade) all = refl

abbrev both_on : Language → Standing → List (List ℕ) → Option Standing → Type 0
both_on L s bs o = ◌≡◌ {A = Result Standing ℕ} (elim o [ None ↦ Err (told s.number) | Some t ↦ goes_over_by any_kept t (map meaning bs) ]) (elim o [ None ↦ Err (told s.number) | Some t ↦ goes_to L t bs ])

all_same : (L : Language) (s : Standing) (bs : List (List ℕ)) → goes_over_by any_kept s (map meaning bs) ≡ goes_to L s bs
all_same L s [] = refl
all_same L s (b ∷ bs) =
    ap (λ o. elim o [ None ↦ Err (told s.number) | Some t ↦ goes_over_by any_kept t (map meaning bs) ]) (one_same L s (meaning b) (built b))
    ∙ (elim (goes_on L s (meaning b)) as (λ o. both_on L s bs o) [
      | None ↦ refl
      | Some t ↦ all_same L t bs
    ])

pub played_is_history : PlayedIsHistory
unfolding history plays
played_is_history L [] = refl
played_is_history L (b ∷ bs) =
    elim (first_standing L (meaning b)) as (λ o. plays_from o (map meaning bs) ≡ history_from L o (map meaning bs)) [
      | None ↦ refl
      | Some s ↦ all_same L s bs
    ]

-- ## Its fronts
-- each record behind the first one is a turn
is_turn : (L : Language) (s t : Standing) (m : Option Record) → ((r : Record) → m ≡ Some r → IsBuilt r) → goes_on L s m ≡ Some t → is_some (turn_in m) ≡ true
is_turn L s t None all is = absurd cc
is_turn L s t (Some (Started x)) all is = absurd cc
is_turn L s t (Some (StartedTwo x)) all is = absurd cc
is_turn L s t (Some (Turned u)) all is = refl
is_turn L s t (Some (Packed u)) all is = refl
is_turn L s t (Some (Kept k)) all is = absurd (all (Kept k) refl)
is_turn L s t (Some Upgrade) all is = absurd (all Upgrade refl)

turns_alone : (L : Language) (s t : Standing) (bs : List (List ℕ)) (n : ℕ) → goes_to L s bs ≡ Ok t → up_to n bs ≡ take n bs
turns_alone L s t [] zero is = refl
turns_alone L s t (b ∷ bs) zero is = refl
turns_alone L s t [] (suc n) is = refl
turns_alone L s t (b ∷ bs) (suc n) is =
    (elim (goes_on L s (meaning b)) as (λ o. goes_on L s (meaning b) ≡ o → (elim o [ None ↦ Err (told s.number) | Some u ↦ goes_to L u bs ]) ≡ Ok t → up_to (suc n) (b ∷ bs) ≡ take (suc n) (b ∷ bs)) [
      | None ↦ λ e no. absurd (cc no)
      | Some u ↦ λ e on. ap (λ (x : Bool). b ∷ (if x then up_to n bs else up_to (suc n) bs)) (is_turn L s u (meaning b) (built b) e) ∙ ap (λ l. b ∷ l) (turns_alone L u t bs n on)
    ]) refl is

-- so a front of turns is one of records
pub front_is : (L : Language) (J : List (List ℕ)) (s : Standing) (turns : ℕ) → history L J ≡ Ok s → front_of turns J ≡ take (suc turns) J
unfolding history
front_is L [] s turns is = absurd cc
front_is L (b ∷ bs) s turns is =
    (elim (first_standing L (meaning b)) as (λ o. history_from L o (map meaning bs) ≡ Ok s → b ∷ up_to turns bs ≡ b ∷ take turns bs) [
      | None ↦ λ no. absurd (cc no)
      | Some u ↦ λ on. ap (λ l. b ∷ l) (turns_alone L u s bs turns on)
    ]) is
