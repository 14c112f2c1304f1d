-- A session has no more polls than idle ones and events, and a journal has few events.
use Rattle.std.specs.Prelude.{◌≡◌, ◌≤◌, ◌<◌, ◌+◌, ℕ, zero, suc, Bool, false, true, ◌||◌, nat_eq, if◌then◌else◌, List, [], ◌∷◌, length}
use Rattle.std.proofs.Common.{refl, ap, ◌∙◌, arith}
use Rattle.std.proofs.lemmas.Bool.{eqb-true}
use Rattle.std.proofs.lemmas.List.{length-append}
use Rattle.wf_deeds.proofs.HistoryMoments.{turns_of_history, journal_of}
use Rattle.wf_deeds.specs.At.{journal, of_session, session_turns}
use Rattle.wf_deeds.specs.History.{History, events, turns_of}
use Rattle.wf_deeds.specs.Language.{Language}
use Rattle.wf_deeds.specs.Waits.{brings, is_busy, idle, arrivals_in, SessionsWaitIdly}
use Rattle.wf_model.proofs.Walk.{bool_case}
use Rattle.wf_model.specs.Config.{Config}
use Rattle.wf_model.specs.CountLaws.{arrivals, RunsAreShort}
use Rattle.wf_value.specs.Events.{Event, Turn}

-- ## Polls and events
-- how many of the numbers 1 to w this is
abbrev hits : ℕ → ℕ → ℕ
hits x zero = 0
hits x (suc w) = if nat_eq x (suc w) then suc (hits x w) else hits x w

none_below : (x w : ℕ) → w < x → hits x w ≡ 0
none_below x zero h = refl
none_below x (suc w) h =
    bool_case (λ n. n ≡ 0) (nat_eq x (suc w)) (suc (hits x w)) (hits x w)
    (λ is. absurd (let same = eqb-true x (suc w) is in omega (arith, same, h)))
    (λ _. none_below x w (omega (arith, h)))

one_at_most : (x w : ℕ) → hits x w ≤ 1
one_at_most x zero = omega arith
one_at_most x (suc w) =
    bool_case (λ n. n ≤ 1) (nat_eq x (suc w)) (suc (hits x w)) (hits x w)
    (λ is. let same = eqb-true x (suc w) is in let none = none_below x w (omega (arith, same)) in omega (arith, none))
    (λ _. one_at_most x w)

-- of the polls 1 to w, those behind which these events stand
abbrev brought : List Event → ℕ → ℕ → ℕ
brought [] x w = 0
brought (e ∷ es) x w = hits x w

brought_few : (es : List Event) (x w : ℕ) → brought es x w ≤ length es
brought_few [] x w = omega arith
brought_few (e ∷ es) x w = let one = one_at_most x w in omega (arith, one)

idle_less : (t : Turn) (ts : List Turn) (w : ℕ) → idle ts w ≤ idle (t ∷ ts) w + brought t.events t.waits w
idle_less t ts zero = omega arith
idle_less t ts (suc w) = by_events t.events (idle (t ∷ ts) w) (idle_less t ts w)
  where
    cases : (a b : Bool) (n m k : ℕ) → n ≤ m + k → (if b then n else suc n) ≤ (if a || b then m else suc m) + (if a then suc k else k)
    cases true true n m k h = omega (arith, h)
    cases true false n m k h = omega (arith, h)
    cases false true n m k h = omega (arith, h)
    cases false false n m k h = omega (arith, h)

    by_events : (es : List Event) (m : ℕ) → idle ts w ≤ m + brought es t.waits w
        → (if is_busy ts (suc w) then idle ts w else suc (idle ts w)) ≤ (if brings es t.waits (suc w) || is_busy ts (suc w) then m else suc m) + brought es t.waits (suc w)
    by_events [] m h = cases false (is_busy ts (suc w)) (idle ts w) m 0 h
    by_events (e ∷ es) m h = cases (nat_eq t.waits (suc w)) (is_busy ts (suc w)) (idle ts w) m (hits t.waits w) h

all_idle : (w : ℕ) → w ≤ idle [] w
all_idle zero = omega arith
all_idle (suc w) = let h = all_idle w in omega (arith, h)

polls_or_events : (ts : List Turn) (w : ℕ) → w ≤ idle ts w + length (events ts)
polls_or_events [] w = let h = all_idle w in omega (arith, h)
polls_or_events (t ∷ ts) w =
    let h = polls_or_events ts w in
    let less = idle_less t ts w in
    let few = brought_few t.events t.waits w in
    let size = length-append t.events (events ts) in
    omega (arith, h, less, few, size)

fewer_own : (session : ℕ) (ts : List Turn) → length (events (of_session session ts)) ≤ length (events ts)
fewer_own session [] = omega arith
fewer_own session (t ∷ ts) =
    let h = fewer_own session ts in
    let all = length-append t.events (events ts) in
    let some = length-append t.events (events (of_session session ts)) in
    bool_case (λ us. length (events us) ≤ length (events (t ∷ ts))) (nat_eq t.session session) (t ∷ of_session session ts) (of_session session ts) (λ _. omega (arith, h, all, some)) (λ _. omega (arith, h, all))

-- ## Histories
module _ (short : RunsAreShort) (L : Language) where
  idly : (b : List ℕ) (bs : List (List ℕ)) (c : Config) → History L (b ∷ bs) c → (session w : ℕ) → w ≤ idle (session_turns (journal L (b ∷ bs)) session) w + 300001 + arrivals_in (b ∷ bs)
  idly b bs c h session w =
      let is = journal_of L b bs c h in
      let own : session_turns (journal L (b ∷ bs)) session ≡ of_session session (turns_of h.rest) = ap (λ j. session_turns j session) is in
      let all = turns_of_history L (b ∷ bs) c h in
      let came : arrivals_in (b ∷ bs) ≡ arrivals (events (turns_of h.rest)) = ap (λ ts. arrivals (events ts)) all in
      let idle_is : idle (session_turns (journal L (b ∷ bs)) session) w ≡ idle (of_session session (turns_of h.rest)) w = ap (λ ts. idle ts w) own in
      let polled = polls_or_events (of_session session (turns_of h.rest)) w in
      let fewer = fewer_own session (turns_of h.rest) in
      let few = short h.program h.start (events (turns_of h.rest)) c h.one_run in
      omega (arith, came, idle_is, polled, fewer, few)

  idly_by : (J : List (List ℕ)) (c : Config) → History L J c → (session w : ℕ) → w ≤ idle (session_turns (journal L J) session) w + 300001 + arrivals_in J
  idly_by [] c h session w = let n = ap length h.meanings in absurd (omega (arith, n))
  idly_by (b ∷ bs) c h session w = idly b bs c h session w

pub sessions_wait_idly : RunsAreShort → SessionsWaitIdly
sessions_wait_idly short L J c h session w = idly_by short L J c h session w
