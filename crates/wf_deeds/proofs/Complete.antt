-- And what is computed, of the facts of a history.
use Rattle.std.specs.Prelude.{◌≡◌, ◌&&◌, ℕ, suc, Bool, true, false, not, IsTrue, nat_eq, List, [], ◌∷◌, map, Option, Some, None, Ok, Err, option_and_then, if◌then◌else◌}
use Rattle.std.proofs.Common.{refl, sym, ◌∙◌, ap, subst}
use Rattle.std.proofs.lemmas.Bool.{and_from, and_parts}
use Rattle.wf_ast.specs.Tree.{Program}
use Rattle.wf_events.specs.Records.{Record, Started, Turned, Kept, Upgrade, Packed, StartedTwo, Snapshot}
use Rattle.wf_history.specs.Kinds.{start_of_record}
use Rattle.wf_model.specs.Config.{Config, To}
use Rattle.wf_model.specs.Run.{initial, run_on}
use Rattle.wf_model.specs.RunLaws.{RunsJoin}
use Rattle.wf_deeds.proofs.Computed.{Marked, eq_true, marked_later}
use Rattle.wf_deeds.proofs.Runs.{from_config, turned_on}
use Rattle.wf_deeds.specs.History.{Standing, Tells, AreKept, are_numbered, events, first_by, first_standing, goes_on, goes_on_at, goes_over, history, history_from, history_of, in_format, in_order, is_kept, is_numbered, may_stand, only, started, told, turned, turns_of}
use Rattle.wf_deeds.specs.HistoryLaws.{HistoryIsComputed}
use Rattle.wf_deeds.specs.Language.{Language}
use Rattle.wf_value.specs.Events.{Start, Turn}

kept_is : (L : Language) (s : Standing) (u : Option Turn) (k : Snapshot) → Marked s u → Tells L s.program (To s.config) u k → is_kept L s k ≡ true
kept_is L s None k marked t = absurd (let no : ◌≡◌ {A = Option Turn} None (Some t.turn) = t.behind in cc no)
kept_is L s (Some u) k marked t =
    let same : u ≡ t.turn = let h : ◌≡◌ {A = Option Turn} (Some u) (Some t.turn) = t.behind in cc h in
    let config : s.config ≡ t.config = let h : To s.config ≡ To t.config = t.after in cc h in
    and_from (s.marks && nat_eq k.session s.session && nat_eq k.waits s.waits) (L.spells s.program s.config k.state)
    (and_from (s.marks && nat_eq k.session s.session) (nat_eq k.waits s.waits)
    (and_from s.marks (nat_eq k.session s.session) marked.0 (eq_true k.session s.session (t.session ∙ ap (λ (x : Turn). x.session) (sym same) ∙ marked.1)))
    (eq_true k.waits s.waits (t.waits ∙ ap (λ (x : Turn). x.waits) (sym same) ∙ marked.2)))
    (subst (λ x. IsTrue (L.spells s.program x k.state)) (sym config) t.state)

on : (L : Language) (s t : Standing) (r : Record) (os : List (Option Record)) → goes_on L s (Some r) ≡ Some t → goes_over L s (Some r ∷ os) ≡ goes_over L t os
on L s t r os is = ap (λ o. elim o [ None ↦ Err (told s.number) | Some u ↦ goes_over L u os ]) is

-- what leads there
abbrev Reached : Language → Standing → List Record → Config → Type 0
Reached L s rs c = (t : Standing) × (goes_over L s (map Some rs) ≡ Ok t) × (t.config ≡ c)

passed : (L : Language) (s v : Standing) (r : Record) (rs : List Record) (c : Config) → goes_on L s (Some r) ≡ Some v → Reached L v rs c → Reached L s (r ∷ rs) c
passed L s v r rs c is (t, there, same) = (t, on L s v r (map Some rs) is ∙ there, same)

led_to : RunsJoin → (L : Language) (s : Standing) (w : Turn) (rs : List Record) (c : Config) → IsTrue (in_order s.session s.waits (w ∷ turns_of rs)) → IsTrue (is_numbered s.number w && are_numbered (suc s.number) rs)
    → run_on s.program (To s.config) (events (w ∷ turns_of rs)) ≡ To c → AreKept L s.program (run_on s.program (To s.config) w.events) (Some w) rs
    → (d : Config) × (turned s w ≡ Some (record s { config = d; number = suc s.number; session = w.session; waits = w.waits; marks = true })) × IsTrue (in_order w.session w.waits (turns_of rs)) × IsTrue (are_numbered (suc s.number) rs)
    × (run_on s.program (To d) (events (turns_of rs)) ≡ To c) × AreKept L s.program (To d) (Some w) rs
led_to joins L s w rs c order numbers leads kept =
    let (d, there, rest) = from_config s.program (run_on s.program (To s.config) w.events) (events (turns_of rs)) c (sym (joins s.program (To s.config) w.events (events (turns_of rs))) ∙ leads) in
    let ordered = and_parts (goes_on_at s.session s.waits w) (in_order w.session w.waits (turns_of rs)) order in
    let numbered = and_parts (is_numbered s.number w) (are_numbered (suc s.number) rs) numbers in
    (d, turned_on s w d numbered.0 ordered.0 there, ordered.1, numbered.1, rest, subst (λ a. AreKept L s.program a (Some w) rs) there kept)

in_first : (two : Bool) (w : Turn) (rs : List Record) → IsTrue (in_format two (Turned w ∷ rs)) → (two ≡ false) × IsTrue (in_format two rs)
in_first true w rs h = absurd (cc h)
in_first false w rs h = (refl, h)

in_second : (two : Bool) (w : Turn) (rs : List Record) → IsTrue (in_format two (Packed w ∷ rs)) → (two ≡ true) × IsTrue (in_format two rs)
in_second true w rs h = (refl, h)
in_second false w rs h = absurd (cc h)

in_kept : (two : Bool) (k : Snapshot) (rs : List Record) → IsTrue (in_format two (Kept k ∷ rs)) → IsTrue (in_format two rs)
in_kept true k rs h = h
in_kept false k rs h = h

in_upgrade : (two : Bool) (rs : List Record) → IsTrue (in_format two (Upgrade ∷ rs)) → (two ≡ false) × IsTrue (in_format true rs)
in_upgrade true rs h = absurd (cc h)
in_upgrade false rs h = (refl, h)

no_start : (two : Bool) (x : Start) (rs : List Record) → IsTrue (in_format two (Started x ∷ rs)) → ⊥
no_start true x rs h = cc h
no_start false x rs h = cc h

no_second : (two : Bool) (x : Start) (rs : List Record) → IsTrue (in_format two (StartedTwo x ∷ rs)) → ⊥
no_second true x rs h = cc h
no_second false x rs h = cc h

reached_by : RunsJoin → (L : Language) (s : Standing) (u : Option Turn) (rs : List Record) (c : Config) → Marked s u → IsTrue (in_format s.two rs) → IsTrue (in_order s.session s.waits (turns_of rs)) → IsTrue (are_numbered s.number rs)
    → run_on s.program (To s.config) (events (turns_of rs)) ≡ To c → AreKept L s.program (To s.config) u rs → Reached L s rs c
reached_by joins L s u [] c marked formats order numbers leads kept = (s, refl, cc leads)
reached_by joins L s u (Turned w ∷ rs) c marked formats order numbers leads kept =
    let (d, there, ordered, numbered, rest, keeps) = led_to joins L s w rs c order numbers leads kept in
    let f = in_first s.two w rs formats in
    let v : Standing = record s { config = d; number = suc s.number; session = w.session; waits = w.waits; marks = true } in
    passed L s v (Turned w) rs c (ap (λ (b : Bool). only (not b) (turned s w)) f.0 ∙ there) (reached_by joins L v (Some w) rs c (refl, refl, refl) f.1 ordered numbered rest keeps)
reached_by joins L s u (Packed w ∷ rs) c marked formats order numbers leads kept =
    let (d, there, ordered, numbered, rest, keeps) = led_to joins L s w rs c order numbers leads kept in
    let f = in_second s.two w rs formats in
    let v : Standing = record s { config = d; number = suc s.number; session = w.session; waits = w.waits; marks = true } in
    passed L s v (Packed w) rs c (ap (λ (b : Bool). only b (turned s w)) f.0 ∙ there) (reached_by joins L v (Some w) rs c (refl, refl, refl) f.1 ordered numbered rest keeps)
reached_by joins L s u (Kept k ∷ rs) c marked formats order numbers leads kept =
    let v : Standing = record s { number = suc s.number } in
    passed L s v (Kept k) rs c (ap (λ (b : Bool). only b (Some v)) (kept_is L s u k marked kept.0)) (reached_by joins L v u rs c (marked_later s u marked) (in_kept s.two k rs formats) order numbers leads kept.1)
reached_by joins L s u (Upgrade ∷ rs) c marked formats order numbers leads kept =
    let f = in_upgrade s.two rs formats in
    let v : Standing = record s { number = suc s.number; two = true; marks = false } in
    passed L s v Upgrade rs c (ap (λ (b : Bool). only (not b) (Some v)) f.0) (reached_by joins L v None rs c refl f.1 order numbers leads kept)
reached_by joins L s u (Started x ∷ rs) c marked formats order numbers leads kept = absurd (no_start s.two x rs formats)
reached_by joins L s u (StartedTwo x ∷ rs) c marked formats order numbers leads kept = absurd (no_second s.two x rs formats)

pub first_is : (L : Language) (r : Record) (t : Start) (two : Bool) (p : Program) (c : Config) → start_of_record r ≡ Some (t, two) → IsTrue (may_stand L (t, two)) → L.source t.source ≡ Some p → initial p t ≡ To c
    → first_standing L (Some r) ≡ Some (record { program = p; config = c; number = 1; session = 0; waits = 0; two = two; marks = false })
first_is L r t two p c starts rules source leads =
    ap (λ x. first_by L x) starts ∙ ap (λ (b : Bool). if b then option_and_then (λ p. started p two (initial p t)) (L.source t.source) else None) rules
    ∙ ap (λ o. option_and_then (λ p. started p two (initial p t)) o) source ∙ ap (λ a. started p two a) leads

pub complete : RunsJoin → HistoryIsComputed
unfolding history
complete joins L J c h =
    let (d, there, rest) = from_config h.program (initial h.program h.start) (events (turns_of h.rest)) c h.one_run in
    let v : Standing = record { program = h.program; config = d; number = 1; session = 0; waits = 0; two = h.two; marks = false } in
    let (t, is, same) = reached_by joins L v None h.rest c refl h.formats h.order h.numbers rest (subst (λ a. AreKept L h.program a None h.rest) there h.kept) in
    (t, ap (history_of L) h.meanings ∙ ap (λ x. history_from L x (map Some h.rest)) (first_is L h.first h.start h.two h.program d h.starts h.rules h.accepted there) ∙ is, same)
