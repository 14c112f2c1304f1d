-- The facts of a history, of what is computed record by record.
use Rattle.std.specs.Prelude.{◌≡◌, ◌&&◌, ℕ, suc, Bool, true, false, not, IsTrue, nat_eq, List, [], ◌∷◌, map, Option, Some, None, Result, Ok, Err}
use Rattle.std.proofs.Common.{refl, sym, ◌∙◌, ap, subst, arith}
use Rattle.std.proofs.lemmas.Bool.{and_from, and_parts, eqb-true}
use Rattle.std.proofs.lemmas.Bool.Decides.{nat_tests}
use Rattle.wf_events.specs.Reading.{meaning}
use Rattle.wf_events.specs.Records.{Record, Started, Turned, Kept, Upgrade, Packed, StartedTwo, Snapshot}
use Rattle.wf_model.specs.Config.{To}
use Rattle.wf_model.specs.Run.{initial, run_on}
use Rattle.wf_model.specs.RunLaws.{RunsJoin}
use Rattle.wf_deeds.proofs.Runs.{Begins, Turns, begins_by, only_if, turns_by}
use Rattle.wf_deeds.specs.History.{History, Standing, Tells, AreKept, are_numbered, events, first_standing, goes_on, goes_on_at, goes_over, history, history_from, in_format, in_order, is_kept, is_numbered, told, turned, turns_of}
use Rattle.wf_deeds.specs.HistoryLaws.{ComputedIsHistory}
use Rattle.wf_deeds.specs.Language.{Language}
use Rattle.wf_value.specs.Events.{Turn}

-- ## Where a snapshot may stand
-- the turn behind which a standing is, where a snapshot may stand there
abbrev pub Marked : Standing → Option Turn → Type 0
Marked s None = s.marks ≡ false
Marked s (Some u) = (s.marks ≡ true) × (u.session ≡ s.session) × (u.waits ≡ s.waits)

pub eq_true : (m n : ℕ) → m ≡ n → nat_eq m n ≡ true
eq_true m n h = grind (arith, nat_tests)

not_two : (b : Bool) → not b ≡ true → b ≡ false
not_two true h = absurd cc
not_two false h = refl

-- ## From the computed one to its facts
record Goes (L : Language) (s : Standing) (u : Option Turn) (rs : List Record) (t : Standing) : Type 0 where
  pub formats : IsTrue (in_format s.two rs)
  pub order : IsTrue (in_order s.session s.waits (turns_of rs))
  pub numbers : IsTrue (are_numbered s.number rs)
  pub leads : run_on s.program (To s.config) (events (turns_of rs)) ≡ To t.config
  pub kept : AreKept L s.program (To s.config) u rs

kept_format : (two : Bool) (k : Snapshot) (rs : List Record) → IsTrue (in_format two rs) → IsTrue (in_format two (Kept k ∷ rs))
kept_format true k rs h = h
kept_format false k rs h = h

-- what a turn of either kind adds
record Led (L : Language) (s : Standing) (w : Turn) (rs : List Record) (t : Standing) : Type 0 where
  pub formats : IsTrue (in_format s.two rs)
  pub order : IsTrue (in_order s.session s.waits (w ∷ turns_of rs))
  pub numbers : IsTrue (is_numbered s.number w && are_numbered (suc s.number) rs)
  pub leads : run_on s.program (To s.config) (events (w ∷ turns_of rs)) ≡ To t.config
  pub kept : AreKept L s.program (run_on s.program (To s.config) w.events) (Some w) rs

led_on : RunsJoin → (L : Language) (s v t : Standing) (w : Turn) (rs : List Record) → Turns s w v → Goes L v (Some w) rs t → Led L s w rs t
led_on joins L s v t w rs g r = record {
  formats = subst (λ x. IsTrue (in_format x.two rs)) (sym g.is) r.formats;
  order = and_from (goes_on_at s.session s.waits w) (in_order w.session w.waits (turns_of rs)) g.order (subst (λ x. IsTrue (in_order x.session x.waits (turns_of rs))) (sym g.is) r.order);
  numbers = and_from (is_numbered s.number w) (are_numbered (suc s.number) rs) g.numbered (subst (λ x. IsTrue (are_numbered x.number rs)) (sym g.is) r.numbers);
  leads = joins s.program (To s.config) w.events (events (turns_of rs)) ∙ ap (λ a. run_on s.program a (events (turns_of rs))) g.leads
      ∙ subst (λ x. run_on x.program (To x.config) (events (turns_of rs)) ≡ To t.config) (sym g.is) r.leads;
  kept = subst (λ a. AreKept L s.program a (Some w) rs) (sym g.leads) (subst (λ x. AreKept L x.program (To x.config) (Some w) rs) (sym g.is) r.kept);
}

marked_behind : (s v : Standing) (w : Turn) → Turns s w v → Marked v (Some w)
marked_behind s v w g = subst (λ x. Marked x (Some w)) g.is (refl, refl, refl)

told_of : (L : Language) (s : Standing) (u : Option Turn) (k : Snapshot) → Marked s u → is_kept L s k ≡ true → Tells L s.program (To s.config) u k
told_of L s None k marked is =
    let a = and_parts (s.marks && nat_eq k.session s.session && nat_eq k.waits s.waits) (L.spells s.program s.config k.state) is in
    let b = and_parts (s.marks && nat_eq k.session s.session) (nat_eq k.waits s.waits) a.0 in
    let d = and_parts s.marks (nat_eq k.session s.session) b.0 in
    absurd (let no : true ≡ false = sym d.0 ∙ marked in cc no)
told_of L s (Some u) k marked is =
    let a = and_parts (s.marks && nat_eq k.session s.session && nat_eq k.waits s.waits) (L.spells s.program s.config k.state) is in
    let b = and_parts (s.marks && nat_eq k.session s.session) (nat_eq k.waits s.waits) a.0 in
    let d = and_parts s.marks (nat_eq k.session s.session) b.0 in
    record {
      turn = u;
      config = s.config;
      behind = refl;
      session = eqb-true k.session s.session d.1 ∙ sym marked.1;
      waits = eqb-true k.waits s.waits b.1 ∙ sym marked.2;
      after = refl;
      state = a.1;
    }

pub marked_later : (s : Standing) (u : Option Turn) → Marked s u → Marked (record s { number = suc s.number }) u
marked_later s None m = m
marked_later s (Some u) m = m

goes_by : RunsJoin → (L : Language) (s : Standing) (u : Option Turn) (rs : List Record) (t : Standing) → Marked s u → goes_over L s (map Some rs) ≡ Ok t → Goes L s u rs t
goes_by joins L s u [] t marked is = record { formats = refl; order = refl; numbers = refl; leads = let same : s ≡ t = cc is in ap (λ x. To x.config) same; kept = tt }
goes_by joins L s u (r ∷ rs) t marked is =
    (elim (goes_on L s (Some r)) as (λ o. goes_on L s (Some r) ≡ o → (elim o [ None ↦ Err (told s.number) | Some v ↦ goes_over L v (map Some rs) ]) ≡ Ok t → Goes L s u (r ∷ rs) t) [
      | None ↦ λ e no. absurd (cc no)
      | Some v ↦ λ e on. by_kind r v e (λ w m. goes_by joins L v w rs t m on)
    ]) refl is
  where
    by_kind : (r : Record) (v : Standing) → goes_on L s (Some r) ≡ Some v → ((w : Option Turn) → Marked v w → Goes L v w rs t) → Goes L s u (r ∷ rs) t
    by_kind (Turned w) v e more =
        let a = only_if (not s.two) (turned s w) v e in
        let g = turns_by s w v a.1 in
        let l = led_on joins L s v t w rs g (more (Some w) (marked_behind s v w g)) in
        let one = not_two s.two a.0 in
        record { formats = subst (λ b. IsTrue (in_format b (Turned w ∷ rs))) (sym one) (subst (λ b. IsTrue (in_format b rs)) one l.formats); order = l.order; numbers = l.numbers; leads = l.leads; kept = l.kept }
    by_kind (Packed w) v e more =
        let a = only_if s.two (turned s w) v e in
        let g = turns_by s w v a.1 in
        let l = led_on joins L s v t w rs g (more (Some w) (marked_behind s v w g)) in
        record { formats = subst (λ b. IsTrue (in_format b (Packed w ∷ rs))) (sym a.0) (subst (λ b. IsTrue (in_format b rs)) a.0 l.formats); order = l.order; numbers = l.numbers; leads = l.leads; kept = l.kept }
    by_kind (Kept k) v e more =
        let a = only_if (is_kept L s k) (Some (record s { number = suc s.number })) v e in
        let is : record s { number = suc s.number } ≡ v = cc a.1 in
        let g = subst (λ x. Goes L x u rs t) (sym is) (more u (subst (λ x. Marked x u) is (marked_later s u marked))) in
        record { formats = kept_format s.two k rs g.formats; order = g.order; numbers = g.numbers; leads = g.leads; kept = (told_of L s u k marked a.0, g.kept) }
    by_kind Upgrade v e more =
        let a = only_if (not s.two) (Some (record s { number = suc s.number; two = true; marks = false })) v e in
        let is : record s { number = suc s.number; two = true; marks = false } ≡ v = cc a.1 in
        let g = subst (λ x. Goes L x None rs t) (sym is) (more None (subst (λ x. Marked x None) is refl)) in
        record { formats = subst (λ b. IsTrue (in_format b (Upgrade ∷ rs))) (sym (not_two s.two a.0)) g.formats; order = g.order; numbers = g.numbers; leads = g.leads; kept = g.kept }
    by_kind (Started x) v e more = absurd cc
    by_kind (StartedTwo x) v e more = absurd cc

-- ## The records
-- payloads that lead somewhere all have meanings
all_some : (L : Language) (s : Standing) (os : List (Option Record)) (t : Standing) → goes_over L s os ≡ Ok t → (rs : List Record) × (os ≡ map Some rs)
all_some L s [] t is = ([], refl)
all_some L s (None ∷ os) t is = absurd cc
all_some L s (Some r ∷ os) t is =
    (elim (goes_on L s (Some r)) as (λ o. (elim o [ None ↦ Err (told s.number) | Some v ↦ goes_over L v os ]) ≡ Ok t → (rs : List Record) × (Some r ∷ os ≡ map Some rs)) [
      | None ↦ λ no. absurd (cc no)
      | Some v ↦ λ on. let (rs, same) = all_some L v os t on in (r ∷ rs, ap (λ xs. Some r ∷ xs) same)
    ]) is

history_by : (L : Language) (J : List (List ℕ)) (r : Record) (rs : List Record) (s t : Standing) → map meaning J ≡ Some r ∷ map Some rs → Begins L r s → Goes L s None rs t → History L J t.config
history_by L J r rs s t meant b g = record {
  first = r;
  rest = rs;
  meanings = meant;
  start = b.start;
  two = b.two;
  starts = b.starts;
  rules = b.rules;
  program = b.program;
  accepted = b.accepted;
  formats = subst (λ x. IsTrue (in_format x.two rs)) (sym b.is) g.formats;
  order = subst (λ x. IsTrue (in_order x.session x.waits (turns_of rs))) (sym b.is) g.order;
  numbers = subst (λ x. IsTrue (are_numbered x.number rs)) (sym b.is) g.numbers;
  one_run = ap (λ a. run_on b.program a (events (turns_of rs))) b.leads ∙ subst (λ x. run_on x.program (To x.config) (events (turns_of rs)) ≡ To t.config) (sym b.is) g.leads;
  kept = subst (λ a. AreKept L b.program a None rs) (sym b.leads) (subst (λ x. AreKept L x.program (To x.config) None rs) (sym b.is) g.kept);
}

unmarked : (L : Language) (r : Record) (s : Standing) → Begins L r s → Marked s None
unmarked L r s b = subst (λ x. Marked x None) b.is refl

computed_over : RunsJoin → (L : Language) (J : List (List ℕ)) (o : Option Record) (os : List (Option Record)) (t : Standing) → map meaning J ≡ o ∷ os → history_from L (first_standing L o) os ≡ Ok t → History L J t.config
computed_over joins L J None os t meant is = absurd cc
computed_over joins L J (Some r) os t meant is =
    (elim (first_standing L (Some r)) as (λ x. first_standing L (Some r) ≡ x → history_from L x os ≡ Ok t → History L J t.config) [
      | None ↦ λ e no. absurd (cc no)
      | Some s ↦ λ e on.
          let b = begins_by L r s e in
          let (rs, same) = all_some L s os t on in
          history_by L J r rs s t (meant ∙ ap (λ xs. Some r ∷ xs) same) b (goes_by joins L s None rs t (unmarked L r s b) (ap (goes_over L s) (sym same) ∙ on))
    ]) refl is

pub computed : RunsJoin → ComputedIsHistory
unfolding history
computed joins L [] s is = absurd cc
computed joins L (b ∷ bs) s is = computed_over joins L (b ∷ bs) (meaning b) (map meaning bs) s refl is
