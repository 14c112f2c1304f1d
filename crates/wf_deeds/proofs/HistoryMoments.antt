-- The configuration at a moment, with a turn more and of a history.
use Rattle.std.specs.Prelude.{◌≡◌, ◌⊎◌, ◌<◌, ◌≤◌, ◌+◌, ◌&&◌, ◌||◌, ℕ, suc, Bool, true, false, IsTrue, nat_eq, nat_le, nat_lt, List, [], ◌∷◌, ◌++◌, length, map, if◌then◌else◌, Option, Some, None, Ok, option_map, Err}
use Rattle.std.specs.List.{list_all}
use Rattle.std.proofs.Common.{inl, inr, refl, sym, ◌∙◌, ap, subst, arith, append_assoc, append-nil}
use Rattle.std.proofs.lemmas.Bool.{and_from, eq-eqb, eqb-true, le-leb, le-ltb, leb-true, lt-ltb, ltb-true, ne_eqb, or_left, or_right, and_parts}
use Rattle.wf_lemmas.proofs.Lists.{same_head, same_tail}
use Rattle.wf_events.specs.Reading.{meaning}
use Rattle.wf_events.specs.Records.{Record, Started, Turned, Kept, Upgrade, Packed, StartedTwo}
use Rattle.wf_history.specs.Kinds.{start_of_record, turn_in, turn_of_record}
use Rattle.wf_model.specs.Config.{Config}
use Rattle.wf_model.specs.Run as model
use Rattle.wf_model.specs.Run.{is_before}
use Rattle.wf_model.specs.TurnLaws.{AllTurnsAreTheRun, LaterTurnDoesNotCount}
use Rattle.wf_deeds.proofs.Runs.{GoesOn, begins_by, goes_on_by, one_more}
use Rattle.wf_deeds.specs.At.{Journal, begins, begun, config_at, config_before, events_before, journal, last_session, next_session, of_session, reached, session_turns, turns_in}
use Rattle.wf_deeds.specs.History.{History, Standing, events, first_standing, goes_on, goes_on_at, goes_to, history, history_from, in_order, may_stand, told, turns_of, with_turn}
use Rattle.wf_deeds.specs.Language.{Language}
use Rattle.wf_deeds.specs.HistoryLaws.{ComputedIsHistory}
use Rattle.wf_deeds.specs.Moments.{HistoryStandsBefore, HistoryStandsThere, MomentBeforeStays, NextBehindHistory, NextBehindTurn, NoTurnsBehind, NumberIsCount, SessionBeforeStays, SessionIsNumbered, TurnIsAdded, TurnIsOfItsSession, is_by, with_turn_more}
use Rattle.wf_value.specs.Events.{Event, Start, Turn}

-- ## A turn more
with_turn-append : (o : Option Turn) (ts us : List Turn) → with_turn o (ts ++ us) ≡ with_turn o ts ++ us
with_turn-append None ts us = refl
with_turn-append (Some t) ts us = refl

pub turns_in-append : (bs cs : List (List ℕ)) → turns_in (bs ++ cs) ≡ turns_in bs ++ turns_in cs
turns_in-append [] cs = refl
turns_in-append (b ∷ bs) cs = ap (λ ts. with_turn (turn_in (meaning b)) ts) (turns_in-append bs cs) ∙ with_turn-append (turn_in (meaning b)) (turns_in bs) (turns_in cs)

-- the same journal with these turns more
abbrev pub with_more : Journal → List Turn → Journal
with_more j ts = record { start = j.start; program = j.program; turns = j.turns ++ ts }

more_begun : (L : Language) (x : Start × Bool) (ts us vs : List Turn) (j : Journal) → begun L (Some x) ts ≡ Some j → us ≡ ts ++ vs → begun L (Some x) us ≡ Some (with_more j vs)
more_begun L x ts us vs j is same =
    ap (λ ws. begun L (Some x) ws) same
    ∙ (elim (may_stand L x) as (λ v. (if v then option_map (λ p. record { start = x.0; program = p; turns = ts }) (L.source x.0.source) else None) ≡ Some j
    → (if v then option_map (λ p. record { start = x.0; program = p; turns = ts ++ vs }) (L.source x.0.source) else None) ≡ Some (with_more j vs)) [
      | false ↦ λ no. absurd (cc no)
      | true ↦ λ found.
          (elim (L.source x.0.source) as (λ o. option_map (λ p. record { start = x.0; program = p; turns = ts }) o ≡ Some j → option_map (λ p. record { start = x.0; program = p; turns = ts ++ vs }) o ≡ Some (with_more j vs)) [
            | None ↦ λ no. absurd (cc no)
            | Some p ↦ λ yes. let have : record { start = x.0; program = p; turns = ts } ≡ j = cc yes in ap (λ i. Some (with_more i vs)) have
          ]) found
    ]) is

pub more_turns : (L : Language) (m : Option Record) (ts us vs : List Turn) (j : Journal) → begins L m ts ≡ Some j → us ≡ ts ++ vs → begins L m us ≡ Some (with_more j vs)
more_turns L None ts us vs j is same = absurd cc
more_turns L (Some r) ts us vs j is same = by (start_of_record r) is
  where
    by : (x : Option (Start × Bool)) → begun L x ts ≡ Some j → begun L x us ≡ Some (with_more j vs)
    by None found = absurd (cc found)
    by (Some x) found = more_begun L x ts us vs j found same

pub turn_is_added : TurnIsAdded
turn_is_added L [] payload j t is meant = absurd cc
turn_is_added L (b ∷ bs) payload j t is meant =
    more_turns L (meaning b) (turns_in bs) (turns_in (bs ++ payload ∷ [])) (t ∷ []) j is
    (turns_in-append bs (payload ∷ []) ∙ ap (λ o. turns_in bs ++ with_turn o []) meant)

chosen : (yes : Bool) (es fs gs : List Event) → (if yes then es ++ (fs ++ gs) else fs ++ gs) ≡ (if yes then es ++ fs else fs) ++ gs
chosen true es fs gs = sym (append_assoc es fs gs)
chosen false es fs gs = refl

events_before-append : (session : ℕ) (ts us : List Turn) → events_before session (ts ++ us) ≡ events_before session ts ++ events_before session us
events_before-append session [] us = refl
events_before-append session (t ∷ ts) us =
    ap (λ fs. if nat_lt t.session session then t.events ++ fs else fs) (events_before-append session ts us)
    ∙ chosen (nat_lt t.session session) t.events (events_before session ts) (events_before session us)

pub session_before_stays : SessionBeforeStays
session_before_stays j t session le =
    ap (λ es. reached (model.run j.program j.start es))
    (events_before-append session j.turns (t ∷ []) ∙ ap (λ b. events_before session j.turns ++ (if b then t.events ++ [] else [])) (le-ltb t.session session le) ∙ append-nil (events_before session j.turns))

pub moment_before_stays : LaterTurnDoesNotCount → MomentBeforeStays
moment_before_stays later j t session waits behind = ap reached (later j.program j.start j.turns t session waits behind)

kept : (yes : Bool) (t : Turn) (ts us : List Turn) → (if yes then t ∷ (ts ++ us) else ts ++ us) ≡ (if yes then t ∷ ts else ts) ++ us
kept true t ts us = refl
kept false t ts us = refl

of_session-append : (session : ℕ) (ts us : List Turn) → of_session session (ts ++ us) ≡ of_session session ts ++ of_session session us
of_session-append session [] us = refl
of_session-append session (t ∷ ts) us =
    ap (λ vs. if nat_eq t.session session then t ∷ vs else vs) (of_session-append session ts us) ∙ kept (nat_eq t.session session) t (of_session session ts) (of_session session us)

pub turn_is_of_its_session : TurnIsOfItsSession
turn_is_of_its_session j t =
    of_session-append t.session j.turns (t ∷ []) ∙ ap (λ b. of_session t.session j.turns ++ (if b then t ∷ [] else [])) (eq-eqb t.session t.session refl)

-- the session of the last of some turns, or of one before them
abbrev last_from : ℕ → List Turn → ℕ
last_from n [] = n
last_from n (t ∷ ts) = last_from t.session ts

last_is : (ts : List Turn) → last_session ts ≡ last_from 0 ts
last_is [] = refl
last_is (t ∷ []) = refl
last_is (t ∷ u ∷ ts) = last_is (u ∷ ts)

last_from-append : (n : ℕ) (ts : List Turn) (t : Turn) → last_from n (ts ++ t ∷ []) ≡ t.session
last_from-append n [] t = refl
last_from-append n (u ∷ ts) t = last_from-append u.session ts t

pub next_behind_turn : NextBehindTurn
next_behind_turn j t = ap suc (last_is (j.turns ++ t ∷ []) ∙ last_from-append 0 j.turns t)

-- ## A history
-- the order of moments
earlier : (a b c d : ℕ) → IsTrue (nat_lt a c || (nat_eq a c && nat_le b d)) → (a < c) ⊎ ((a ≡ c) × (b ≤ d))
earlier a b c d is =
    (elim (nat_lt a c) as (λ v. nat_lt a c ≡ v → IsTrue (v || (nat_eq a c && nat_le b d)) → (a < c) ⊎ ((a ≡ c) × (b ≤ d))) [
      | true ↦ λ lt _. inl (ltb-true a c lt)
      | false ↦ λ _ rest. let (same, le) = and_parts (nat_eq a c) (nat_le b d) rest in inr (eqb-true a c same, leb-true b d le)
    ]) refl is

not_later : (a b c d : ℕ) → (a < c) ⊎ ((a ≡ c) × (b ≤ d)) → IsTrue (nat_lt a c || (nat_eq a c && nat_le b d))
not_later a b c d (inl lt) = or_left (nat_lt a c) (nat_eq a c && nat_le b d) (lt-ltb a c lt)
not_later a b c d (inr (same, le)) = or_right (nat_lt a c) (nat_eq a c && nat_le b d) (and_from (nat_eq a c) (nat_le b d) (eq-eqb a c same) (le-leb b d le))

in_turn : (a b c d e f : ℕ) → (a < c) ⊎ ((a ≡ c) × (b ≤ d)) → (c < e) ⊎ ((c ≡ e) × (d ≤ f)) → (a < e) ⊎ ((a ≡ e) × (b ≤ f))
in_turn a b c d e f (inl lt) (inl lt2) = inl (omega (arith, lt, lt2))
in_turn a b c d e f (inl lt) (inr (same, le)) = inl (omega (arith, lt, same))
in_turn a b c d e f (inr (same, le)) (inl lt) = inl (omega (arith, lt, same))
in_turn a b c d e f (inr (same, le)) (inr (same2, le2)) = inr (same ∙ same2, omega (arith, le, le2))

-- all turns of some records stand before a moment where the last one does, and so does what the records stand behind
by_then : (L : Language) (session waits : ℕ) (s : Standing) (bs : List (List ℕ)) (t : Standing) → goes_to L s bs ≡ Ok t → IsTrue (is_by session waits t)
    → IsTrue (list_all (is_before session waits) (turns_in bs)) × IsTrue (is_by session waits s)
by_then L session waits s [] t is by = (refl, let same : t ≡ s = cc is in subst (λ v. IsTrue (is_by session waits v)) same by)
by_then L session waits s (b ∷ bs) t is by =
    (elim (goes_on L s (meaning b)) as (λ o. goes_on L s (meaning b) ≡ o → (elim o [ None ↦ Err (told s.number) | Some v ↦ goes_to L v bs ]) ≡ Ok t → IsTrue (list_all (is_before session waits) (turns_in (b ∷ bs))) × IsTrue (is_by session waits s)) [
      | None ↦ λ e no. absurd (cc no)
      | Some v ↦ λ e on. first v (goes_on_by L s (meaning b) v e) (by_then L session waits v bs t on by)
    ]) refl is
  where
    first : (v : Standing) → GoesOn s (meaning b) v → IsTrue (list_all (is_before session waits) (turns_in bs)) × IsTrue (is_by session waits v) → IsTrue (list_all (is_before session waits) (turns_in (b ∷ bs))) × IsTrue (is_by session waits s)
    first v (inl g) rest =
        let u = g.turn in
        let there : IsTrue (is_before session waits u) = subst (λ w. IsTrue (is_by session waits w)) (sym g.turns.is) rest.1 in
        let all : IsTrue (list_all (is_before session waits) (u ∷ turns_in bs)) = and_from (is_before session waits u) (list_all (is_before session waits) (turns_in bs)) there rest.0 in (
          subst (λ o. IsTrue (list_all (is_before session waits) (with_turn o (turns_in bs)))) (sym g.meant) all,
          not_later s.session s.waits session waits (in_turn s.session s.waits u.session u.waits session waits (earlier s.session s.waits u.session u.waits g.turns.order) (earlier u.session u.waits session waits there)),
        )
    first v (inr g) rest = (
      subst (λ o. IsTrue (list_all (is_before session waits) (with_turn o (turns_in bs)))) (sym g.meant) rest.0,
      subst (λ n. IsTrue (nat_lt n session || (nat_eq n session && nat_le s.waits waits))) g.session
          (subst (λ w. IsTrue (nat_lt v.session session || (nat_eq v.session session && nat_le w waits))) g.waits rest.1),
    )

-- the last turn of some records is the one that they lead to
last_by : (L : Language) (s : Standing) (bs : List (List ℕ)) (t : Standing) → goes_to L s bs ≡ Ok t → last_from s.session (turns_in bs) ≡ t.session
last_by L s [] t is = let same : s ≡ t = cc is in ap (λ v. v.session) same
last_by L s (b ∷ bs) t is =
    (elim (goes_on L s (meaning b)) as (λ o. goes_on L s (meaning b) ≡ o → (elim o [ None ↦ Err (told s.number) | Some v ↦ goes_to L v bs ]) ≡ Ok t → last_from s.session (turns_in (b ∷ bs)) ≡ t.session) [
      | None ↦ λ e no. absurd (cc no)
      | Some v ↦ λ e on. behind_one v (goes_on_by L s (meaning b) v e) ∙ last_by L v bs t on
    ]) refl is
  where
    behind_one : (v : Standing) → GoesOn s (meaning b) v → last_from s.session (turns_in (b ∷ bs)) ≡ last_from v.session (turns_in bs)
    behind_one v (inl g) = ap (λ o. last_from s.session (with_turn o (turns_in bs))) g.meant ∙ ap (λ (w : Standing). last_from w.session (turns_in bs)) g.turns.is
    behind_one v (inr g) = ap (λ o. last_from s.session (with_turn o (turns_in bs))) g.meant ∙ ap (λ n. last_from n (turns_in bs)) (sym g.session)

-- the turns of some payloads are those of their records
pub turns_are : (bs : List (List ℕ)) (rs : List Record) → map meaning bs ≡ map Some rs → turns_in bs ≡ turns_of rs
turns_are [] [] meant = refl
turns_are [] (r ∷ rs) meant = absurd cc
turns_are (b ∷ bs) [] meant = absurd cc
turns_are (b ∷ bs) (r ∷ rs) meant =
    ap (λ m. with_turn (turn_in m) (turns_in bs)) (same_head (meaning b) (Some r) (map meaning bs) (map Some rs) meant)
    ∙ ap (λ ts. with_turn (turn_of_record r) ts) (turns_are bs rs (same_tail (meaning b) (Some r) (map meaning bs) (map Some rs) meant))

-- a start is no turn
pub no_turn_of_start : (r : Record) (x : Start × Bool) → start_of_record r ≡ Some x → turn_of_record r ≡ None
no_turn_of_start (Started s) x is = refl
no_turn_of_start (StartedTwo s) x is = refl
no_turn_of_start (Turned t) x is = absurd cc
no_turn_of_start (Packed t) x is = absurd cc
no_turn_of_start (Kept k) x is = absurd cc
no_turn_of_start Upgrade x is = absurd cc

-- those of a history
pub turns_of_history : (L : Language) (J : List (List ℕ)) (c : Config) (h : History L J c) → turns_in J ≡ turns_of h.rest
turns_of_history L J c h = turns_are J (h.first ∷ h.rest) h.meanings ∙ ap (λ o. with_turn o (turns_of h.rest)) (no_turn_of_start h.first (h.start, h.two) h.starts)

-- the turns behind its first record
rest_are : (L : Language) (b : List ℕ) (bs : List (List ℕ)) (c : Config) (h : History L (b ∷ bs) c) → turns_in bs ≡ turns_of h.rest
rest_are L b bs c h = turns_are bs h.rest (same_tail (meaning b) (Some h.first) (map meaning bs) (map Some h.rest) h.meanings)

-- the journal of a history
pub journal_of : (L : Language) (b : List ℕ) (bs : List (List ℕ)) (c : Config) (h : History L (b ∷ bs) c) → journal L (b ∷ bs) ≡ Some (record { start = h.start; program = h.program; turns = turns_of h.rest })
journal_of L b bs c h =
    ap (λ m. begins L m (turns_in bs)) (same_head (meaning b) (Some h.first) (map meaning bs) (map Some h.rest) h.meanings)
    ∙ ap (λ x. begun L x (turns_in bs)) h.starts
    ∙ ap (λ (v : Bool). if v then option_map (λ p. record { start = h.start; program = p; turns = turns_in bs }) (L.source h.start.source) else None) h.rules
    ∙ ap (λ o. option_map (λ p. record { start = h.start; program = p; turns = turns_in bs }) o) h.accepted
    ∙ ap (λ ts. Some (record { start = h.start; program = h.program; turns = ts })) (rest_are L b bs c h)

-- where the records behind the first one begin
record Behind (L : Language) (b : List ℕ) (bs : List (List ℕ)) (s : Standing) : Type 0 where
  pub first : Standing
  pub fresh : first.session ≡ 0
  pub one : first.number ≡ 1
  pub leads : goes_to L first bs ≡ Ok s

behind_start : (L : Language) (b : List ℕ) (bs : List (List ℕ)) (s v : Standing) (m : Option Record) → first_standing L m ≡ Some v → goes_to L v bs ≡ Ok s → Behind L b bs s
behind_start L b bs s v None e on = absurd (cc e)
behind_start L b bs s v (Some r) e on = let same = sym (begins_by L r v e).is in record { first = v; fresh = ap (λ (w : Standing). w.session) same; one = ap (λ (w : Standing). w.number) same; leads = on }

behind : (L : Language) (b : List ℕ) (bs : List (List ℕ)) (s : Standing) → history L (b ∷ bs) ≡ Ok s → Behind L b bs s
unfolding history
behind L b bs s is =
    (elim (first_standing L (meaning b)) as (λ o. first_standing L (meaning b) ≡ o → history_from L o (map meaning bs) ≡ Ok s → Behind L b bs s) [
      | None ↦ λ e no. absurd (cc no)
      | Some v ↦ λ e on. behind_start L b bs s v (meaning b) e on
    ]) refl is

no_records : (L : Language) (s : Standing) → history L [] ≡ Ok s → ⊥
unfolding history
no_records L s is = absurd cc

pub history_stands_there : ComputedIsHistory → AllTurnsAreTheRun → HistoryStandsThere
history_stands_there computed all L [] s session waits is by = absurd (no_records L s is)
history_stands_there computed all L (b ∷ bs) s session waits is by =
    let h = computed L (b ∷ bs) s is in
    let d = behind L b bs s is in
    let before : IsTrue (list_all (is_before session waits) (turns_of h.rest)) =
    subst (λ ts. IsTrue (list_all (is_before session waits) ts)) (rest_are L b bs s.config h) (by_then L session waits d.first bs s d.leads by).0 in
    ap (λ o. config_at o session waits) (journal_of L b bs s.config h)
    ∙ ap reached (all h.program h.start (turns_of h.rest) session waits before ∙ h.one_run)

-- the last turn of a history is the one that it leads to
last_of : (L : Language) (b : List ℕ) (bs : List (List ℕ)) (s : Standing) (h : History L (b ∷ bs) s.config) → history L (b ∷ bs) ≡ Ok s → last_from 0 (turns_of h.rest) ≡ s.session
last_of L b bs s h is =
    let d = behind L b bs s is in
    ap (λ ts. last_from 0 ts) (sym (rest_are L b bs s.config h)) ∙ ap (λ n. last_from n (turns_in bs)) (sym d.fresh) ∙ last_by L d.first bs s d.leads

pub next_behind_history : ComputedIsHistory → NextBehindHistory
next_behind_history computed L [] s is = absurd (no_records L s is)
next_behind_history computed L (b ∷ bs) s is =
    let h = computed L (b ∷ bs) s is in
    ap next_session (journal_of L b bs s.config h) ∙ ap suc (last_is (turns_of h.rest) ∙ last_of L b bs s h is)

-- ## A later session
-- all of some turns are of earlier sessions
abbrev all_earlier : ℕ → List Turn → Bool
all_earlier session ts = list_all (λ t. nat_lt t.session session) ts

not_over : (a b c d : ℕ) → (a < c) ⊎ ((a ≡ c) × (b ≤ d)) → a ≤ c
not_over a b c d (inl lt) = omega (arith, lt)
not_over a b c d (inr (same, le)) = omega (arith, same)

-- turns in order are, where the last one is
are_earlier : (session n w : ℕ) (ts : List Turn) → IsTrue (in_order n w ts) → last_from n ts < session → (n < session) × IsTrue (all_earlier session ts)
are_earlier session n w [] order lt = (lt, refl)
are_earlier session n w (t ∷ ts) order lt =
    let ordered = and_parts (goes_on_at n w t) (in_order t.session t.waits ts) order in
    let rest = are_earlier session t.session t.waits ts ordered.1 lt in
    let first : n ≤ t.session = not_over n w t.session t.waits (earlier n w t.session t.waits ordered.0) in
    let there : t.session < session = rest.0 in (
      omega (arith, first, there),
      and_from (nat_lt t.session session) (all_earlier session ts) (lt-ltb t.session session there) rest.1,
    )

all_before : (session : ℕ) (ts : List Turn) → IsTrue (all_earlier session ts) → events_before session ts ≡ events ts
all_before session [] all = refl
all_before session (t ∷ ts) all =
    let parts = and_parts (nat_lt t.session session) (all_earlier session ts) all in
    ap (λ b. if b then t.events ++ events_before session ts else events_before session ts) parts.0 ∙ ap (λ es. t.events ++ es) (all_before session ts parts.1)

none_of : (session : ℕ) (ts : List Turn) → IsTrue (all_earlier session ts) → of_session session ts ≡ []
none_of session [] all = refl
none_of session (t ∷ ts) all =
    let parts = and_parts (nat_lt t.session session) (all_earlier session ts) all in
    let lt : t.session < session = ltb-true t.session session parts.0 in
    ap (λ b. if b then t ∷ of_session session ts else of_session session ts) (ne_eqb t.session session (λ same. omega (arith, lt, same))) ∙ none_of session ts parts.1

-- all turns of a history are of earlier sessions than one behind its last
history_is_earlier : (L : Language) (b : List ℕ) (bs : List (List ℕ)) (s : Standing) (h : History L (b ∷ bs) s.config) (session : ℕ) → history L (b ∷ bs) ≡ Ok s → s.session < session
    → IsTrue (all_earlier session (turns_of h.rest))
history_is_earlier L b bs s h session is lt = (are_earlier session 0 0 (turns_of h.rest) h.order (subst (λ n. n < session) (sym (last_of L b bs s h is)) lt)).1

pub history_stands_before : ComputedIsHistory → HistoryStandsBefore
history_stands_before computed L [] s session is lt = absurd (no_records L s is)
history_stands_before computed L (b ∷ bs) s session is lt =
    let h = computed L (b ∷ bs) s is in
    ap (λ o. config_before o session) (journal_of L b bs s.config h)
    ∙ ap reached (ap (λ es. model.run h.program h.start es) (all_before session (turns_of h.rest) (history_is_earlier L b bs s h session is lt)) ∙ h.one_run)

pub no_turns_behind : ComputedIsHistory → NoTurnsBehind
no_turns_behind computed L [] s session is lt = absurd (no_records L s is)
no_turns_behind computed L (b ∷ bs) s session is lt =
    let h = computed L (b ∷ bs) s is in
    ap (λ o. session_turns o session) (journal_of L b bs s.config h) ∙ none_of session (turns_of h.rest) (history_is_earlier L b bs s h session is lt)

-- ## The count of records
counted_by : (L : Language) (s : Standing) (bs : List (List ℕ)) (t : Standing) → goes_to L s bs ≡ Ok t → t.number ≡ s.number + length bs
counted_by L s [] t is = let same : s ≡ t = cc is in let number : s.number ≡ t.number = ap (λ v. v.number) same in omega (arith, number)
counted_by L s (b ∷ bs) t is =
    (elim (goes_on L s (meaning b)) as (λ o. goes_on L s (meaning b) ≡ o → (elim o [ None ↦ Err (told s.number) | Some v ↦ goes_to L v bs ]) ≡ Ok t → t.number ≡ s.number + length (b ∷ bs)) [
      | None ↦ λ e no. absurd (cc no)
      | Some v ↦ λ e on.
          let more = one_more s (meaning b) v (goes_on_by L s (meaning b) v e) in
          let rest = counted_by L v bs t on in omega (arith, more, rest)
    ]) refl is

-- each turn's session is at most the number of its record
numbered_by : (L : Language) (s : Standing) (bs : List (List ℕ)) (t : Standing) → goes_to L s bs ≡ Ok t → s.session < s.number → t.session < t.number
numbered_by L s [] t is lt = let same : s ≡ t = cc is in subst (λ v. v.session < v.number) same lt
numbered_by L s (b ∷ bs) t is lt =
    (elim (goes_on L s (meaning b)) as (λ o. goes_on L s (meaning b) ≡ o → (elim o [ None ↦ Err (told s.number) | Some v ↦ goes_to L v bs ]) ≡ Ok t → t.session < t.number) [
      | None ↦ λ e no. absurd (cc no)
      | Some v ↦ λ e on. numbered_by L v bs t on (less v (goes_on_by L s (meaning b) v e))
    ]) refl is
  where
    less : (v : Standing) → GoesOn s (meaning b) v → v.session < v.number
    less v (inl g) =
        let le : g.turn.session ≤ s.number = leb-true g.turn.session s.number (and_parts (nat_le 1 g.turn.session) (nat_le g.turn.session s.number) g.turns.numbered).1 in
        subst (λ (w : Standing). w.session < w.number) g.turns.is (omega (arith, le))
    less v (inr g) = let number = g.number in let session = g.session in omega (arith, number, session, lt)

pub number_is_count : NumberIsCount
number_is_count L [] s is = absurd (no_records L s is)
number_is_count L (b ∷ bs) s is =
    let d = behind L b bs s is in
    let one = d.one in
    let rest = counted_by L d.first bs s d.leads in omega (arith, one, rest)

pub session_is_numbered : SessionIsNumbered
session_is_numbered L [] s is = absurd (no_records L s is)
session_is_numbered L (b ∷ bs) s is =
    let d = behind L b bs s is in
    let fresh = d.fresh in
    let one = d.one in numbered_by L d.first bs s d.leads (omega (arith, fresh, one))
