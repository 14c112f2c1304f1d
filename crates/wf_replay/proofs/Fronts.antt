-- A loop that replays the first turns of a history.
use Rattle.std.specs.Prelude.{◌≡◌, ◌≤◌, ◌-◌, IsTrue, ℕ, zero, suc, List, [], ◌∷◌, take, drop, Some, None, Ok, Err}
use Rattle.std.proofs.Common.{refl, sym, ◌∙◌, ap, arith, subst}
use Rattle.wf_events.specs.Reading.{meaning}
use Rattle.wf_history.specs.Stands.{ahead}
use Rattle.wf_history.specs.declared.history.History.{History}
use Rattle.wf_host.specs.World.{World, Told}
use Rattle.wf_deeds.proofs.Steps.{on}
use Rattle.wf_deeds.specs.History.{Standing, goes_on, goes_to, told}
use Rattle.wf_machine.specs.declared.machine.Machine.{Machine}
use Rattle.wf_replay.specs.TheLanguage.{the_language}
use Rattle.wf_replay.specs.Standing.{Passes, standing}

-- of the turns that are wanted so many are left: the others lead here, and what stands behind them comes next
pub record GoneSoFar (first : World) (h g : History) (m n : Machine) (turns left : ℕ) : Type 0 where
  pub leads : goes_to the_language (standing h m) (take (turns - left) (ahead h first.seen)) ≡ Ok (standing g n)
  pub rest : ahead g first.seen ≡ drop (turns - left) (ahead h first.seen)

abbrev pub Gone : World → History → History → Machine → Machine → ℕ → ℕ → Type 0
Gone first h g m n turns left = Told first (GoneSoFar first h g m n turns left)

-- what is told of where the loop stands, of the file as it read at first
pub as_at_first : (first now : World) (P : List ℕ → Type 0) → now.tells ≡ first.tells → (IsTrue first.tells → now.seen ≡ first.seen) → Told now (P now.seen) → Told first (P first.seen)
as_at_first first now P tells seen is = λ told. subst P (seen told) (is (subst IsTrue (sym tells) told))

-- ## Before the first turn
pub none_gone : (first : World) (h : History) (m : Machine) (turns : ℕ) → Gone first h h m m turns turns
none_gone first h m turns = λ _.
    let none : turns - turns ≡ 0 = omega arith in
    record {
      leads = ap (λ k. goes_to the_language (standing h m) (take k (ahead h first.seen))) none;
      rest = sym (ap (λ k. drop k (ahead h first.seen)) none);
    }

-- ## Behind one more
-- a record that goes on behind a front that leads here leads on
one_more : (s t u : Standing) (k : ℕ) (all : List (List ℕ)) (b : List ℕ) (rest : List (List ℕ)) → goes_to the_language s (take k all) ≡ Ok t → b ∷ rest ≡ drop k all → goes_on the_language t (meaning b) ≡ Some u → goes_to the_language s (take (suc k) all) ≡ Ok u
one_more s t u zero [] b rest is next goes = absurd cc
one_more s t u zero (c ∷ cs) b rest is next goes =
    let here : s ≡ t = cc is in
    let same : b ≡ c = cc next in
    on the_language s u c [] (ap (λ x. goes_on the_language x (meaning c)) here ∙ ap (λ d. goes_on the_language t (meaning d)) (sym same) ∙ goes)
one_more s t u (suc k) [] b rest is next goes = absurd cc
one_more s t u (suc k) (c ∷ cs) b rest is next goes =
    (elim (goes_on the_language s (meaning c)) as (λ o. goes_on the_language s (meaning c) ≡ o → (elim o [ None ↦ Err (told s.number) | Some v ↦ goes_to the_language v (take k cs) ]) ≡ Ok t → goes_to the_language s (take (suc (suc k)) (c ∷ cs)) ≡ Ok u) [
      | None ↦ λ e no. absurd (cc no)
      | Some v ↦ λ e gone. on the_language s v c (take (suc k) cs) e ∙ one_more v t u k cs b rest gone next goes
    ]) refl is

rest_behind : (k : ℕ) (all : List (List ℕ)) (b : List ℕ) (rest : List (List ℕ)) → b ∷ rest ≡ drop k all → rest ≡ drop (suc k) all
rest_behind zero [] b rest next = absurd cc
rest_behind zero (c ∷ cs) b rest next = cc next
rest_behind (suc k) [] b rest next = absurd cc
rest_behind (suc k) (c ∷ cs) b rest next = rest_behind k cs b rest next

pub one_further : (first : World) (h g f : History) (m n o : Machine) (turns left fewer : ℕ) → Gone first h g m n turns left → Told first (Passes (standing g n) (standing f o) (ahead g first.seen) (ahead f first.seen)) → left ≤ turns → left ≡ suc fewer
    → Gone first h f m o turns fewer
one_further first h g f m n o turns left fewer gone passes within by_one = λ told.
    let so_far = gone told in
    let p = passes told in
    let next : p.payload ∷ ahead f first.seen ≡ drop (turns - left) (ahead h first.seen) = sym p.next ∙ so_far.rest in
    let more : turns - fewer ≡ suc (turns - left) = omega (arith, within, by_one) in
    record {
      leads = ap (λ k. goes_to the_language (standing h m) (take k (ahead h first.seen))) more ∙ one_more (standing h m) (standing g n) (standing f o) (turns - left) (ahead h first.seen) p.payload (ahead f first.seen) so_far.leads next p.on;
      rest = rest_behind (turns - left) (ahead h first.seen) p.payload (ahead f first.seen) next ∙ sym (ap (λ k. drop k (ahead h first.seen)) more);
    }

-- ## Behind the last
-- where all that are wanted went
pub all_gone : (first : World) (h g : History) (m n : Machine) (turns left : ℕ) → Gone first h g m n turns left → left ≡ 0
    → Told first ((goes_to the_language (standing h m) (take turns (ahead h first.seen)) ≡ Ok (standing g n)) × (ahead g first.seen ≡ drop turns (ahead h first.seen)))
all_gone first h g m n turns left gone none = λ told.
    let so_far = gone told in
    let all : turns ≡ turns - left = omega (arith, none) in (
      ap (λ k. goes_to the_language (standing h m) (take k (ahead h first.seen))) all ∙ so_far.leads,
      so_far.rest ∙ sym (ap (λ k. drop k (ahead h first.seen)) all),
    )

-- where there are fewer
taken : (k n : ℕ) (all : List (List ℕ)) → k ≤ n → drop k all ≡ [] → take n all ≡ take k all
taken zero zero all within none = refl
taken zero (suc n) [] within none = refl
taken zero (suc n) (c ∷ cs) within none = absurd cc
taken (suc k) zero all within none = absurd (omega (arith, within))
taken (suc k) (suc n) [] within none = refl
taken (suc k) (suc n) (c ∷ cs) within none = ap (λ l. c ∷ l) (taken k n cs (omega (arith, within)) none)

dropped : (k n : ℕ) (all : List (List ℕ)) → k ≤ n → drop k all ≡ [] → drop n all ≡ []
dropped zero zero all within none = none
dropped zero (suc n) [] within none = refl
dropped zero (suc n) (c ∷ cs) within none = absurd cc
dropped (suc k) zero all within none = absurd (omega (arith, within))
dropped (suc k) (suc n) [] within none = refl
dropped (suc k) (suc n) (c ∷ cs) within none = dropped k n cs (omega (arith, within)) none

pub none_left : (first : World) (h g f : History) (m n o : Machine) (turns left : ℕ) → Gone first h g m n turns left → Told first ((ahead g first.seen ≡ []) × (standing f o ≡ standing g n)) → Told first (ahead f first.seen ≡ [])
    → Told first ((goes_to the_language (standing h m) (take turns (ahead h first.seen)) ≡ Ok (standing f o)) × (ahead f first.seen ≡ drop turns (ahead h first.seen)))
none_left first h g f m n o turns left gone ended still = λ told.
    let so_far = gone told in
    let (none, stays) = ended told in
    let fewer : turns - left ≤ turns = omega arith in
    let no_more : drop (turns - left) (ahead h first.seen) ≡ [] = sym so_far.rest ∙ none in (
      ap (λ l. goes_to the_language (standing h m) l) (taken (turns - left) turns (ahead h first.seen) fewer no_more) ∙ so_far.leads ∙ ap Ok (sym stays),
      still told ∙ sym (dropped (turns - left) turns (ahead h first.seen) fewer no_more),
    )
