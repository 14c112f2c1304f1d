-- A session that has no turn yet, and what its engine stands for.
use Rattle.std.specs.Prelude.{◌≡◌, ◌≢◌, ◌⊎◌, ◌≤◌, ◌<◌, ℕ, suc, Bool, true, false, IsTrue, nat_eq, nat_le, nat_lt, ◌&&◌, ◌||◌, List, [], ◌∷◌, ◌++◌, length, All, Some, Ok, option_map}
use Rattle.std.specs.List.{AllByRecursion}
use Rattle.std.proofs.Common.{inl, inr, ⊎_elim, refl, sym, ◌∙◌, ap, subst, arith}
use Rattle.std.proofs.lemmas.Bool.{lt-ltb, or_left}
use Rattle.std.proofs.lemmas.List.Elements.{All-nil}
use Rattle.wf_lemmas.proofs.Lists.{not_nil, same_tail}
use Rattle.wf_ast.specs.Tree.{Program}
use Rattle.wf_deeds.specs.Deeds.{nows, polls, reading_by, starts_or_polls, IsSmall}
use Rattle.wf_deeds.specs.Kept.{Run, Resume, Session, Place, own, last_of, ReadingsAreOfTheClock}
use Rattle.wf_deeds.specs.Laws.{OnlyReadings}
use Rattle.wf_deeds.specs.Memory.{LeadsTo, StandsFor, session}
use Rattle.wf_deeds.specs.Steps.{FreshStands, fresh}
use Rattle.wf_engine.specs.Openings.{Clocked}
use Rattle.wf_deeds.specs.Outside.{Outside}
use Rattle.wf_events.specs.Reading.{meaning}
use Rattle.wf_events.specs.Records.{Started}
use Rattle.wf_host.specs.declared.data.Deed.{Deed}
use Rattle.wf_host.specs.declared.data.Deed.TheVariants.{Now}
use Rattle.wf_model.specs.Config.{Config, Active, To}
use Rattle.wf_model.specs.Run.{initial}
use Rattle.wf_model.specs.RunLaws.{RunsAreBounded}
use Rattle.wf_deeds.specs.At.{begins, config_before, journal, reached, session_turns}
use Rattle.wf_deeds.specs.History.{Standing, history}
use Rattle.wf_deeds.specs.Language.{Language}
use Rattle.wf_deeds.specs.HistoryLaws.{StartIsAHistory}
use Rattle.wf_deeds.specs.Moments.{HistoryStandsBefore, NoTurnsBehind, SessionIsNumbered}
use Rattle.wf_value.specs.Events.{Event, Start, Turn}

-- ## Nothing was done but one reading of the clock
abbrev pub OneReading : List Deed → Type 0
OneReading D = (D ≡ []) ⊎ ((t : ℕ) × (D ≡ Now t ∷ []))

all_small : (D : List Deed) → OneReading D → AllByRecursion IsSmall D
all_small D (inl is) = subst (λ l. AllByRecursion IsSmall l) (sym is) tt
all_small D (inr (t, is)) = subst (λ l. AllByRecursion IsSmall l) (sym is) (tt, tt)

none_polled : (D : List Deed) → OneReading D → starts_or_polls D ≡ false
none_polled D (inl is) = ap starts_or_polls is
none_polled D (inr (t, is)) = ap starts_or_polls is

one_at_most : (D : List Deed) → OneReading D → length (nows D) ≤ 1
one_at_most D (inl is) = omega (arith, ap (λ l. length (nows l)) is)
one_at_most D (inr (t, is)) = omega (arith, ap (λ l. length (nows l)) is)

lone : (t : ℕ) (before behind : List Deed) (d : Deed) → Now t ∷ [] ≡ before ++ d ∷ behind → Now t ≡ d
lone t [] behind d is = cc is
lone t (x ∷ before) behind d is = absurd (not_nil before behind d (same_tail (Now t) x [] (before ++ d ∷ behind) is))

no_poll_in : (D before behind : List Deed) (d : Deed) → OneReading D → D ≡ before ++ d ∷ behind → starts_or_polls (d ∷ []) ≡ false
no_poll_in D before behind d (inl none) is = absurd (not_nil before behind d (sym none ∙ is))
no_poll_in D before behind d (inr (t, one)) is = ap (λ e. starts_or_polls (e ∷ [])) (sym (lone t before behind d (sym one ∙ is)))

two_ways : (b : Bool) → b ≡ false → IsTrue b → ⊥
two_ways b off on = let is : false ≡ true = sym off ∙ on in cc is

no_place : (t : Turn) (e : Event) → Place [] t e → ⊥
no_place t e p = not_nil p.earlier p.later t p.turn

-- ## The rules
module _ (L : Language) (O : Outside) (x : Session) where
  -- on readings
  reads_well : own L O x ≡ [] → OneReading x.deeds → ((c : Config) → x.command ≡ Resume → config_before (journal L x.payloads) x.number ≡ Some c → c.outcome ≢ Active → nows x.deeds ≡ []) → ReadingsAreOfTheClock L O x
  reads_well none one quiet = record {
    waits = subst (λ ts. All (λ (t : Turn). t.waits ≤ polls x.deeds) ts) (sym none) (All-nil (λ (t : Turn). t.waits ≤ polls x.deeds));
    readings = λ t e r p is. absurd (no_place t e (subst (λ ts. Place ts t e) none p));
    once = λ some. absurd (⊎_elim (λ turned. turned none) (λ polled. two_ways (starts_or_polls x.deeds) (none_polled x.deeds one) polled) some);
    first = λ before behind d comes polled. absurd (two_ways (starts_or_polls (d ∷ [])) (no_poll_in x.deeds before behind d one comes) polled);
    at_most = one_at_most x.deeds one;
    none = quiet;
  }

-- ## A start
module _ (L : Language) (O : Outside) (handed : Bool) (only : OnlyReadings) (stands : FreshStands) (start : StartIsAHistory) (bounded : RunsAreBounded) (payload : List ℕ) (s : Start) (p : Program) (c : Config) where
  journal_of_start : meaning payload ≡ Some (Started s) → L.source s.source ≡ Some p → journal L (payload ∷ []) ≡ Some (record { start = s; program = p; turns = [] })
  journal_of_start means accepted =
      ap (λ o. begins L o []) means ∙ ap (λ o. option_map (λ q. record { start = s; program = q; turns = [] }) o) accepted

  pub stands_begun : (r : ℕ) → meaning payload ≡ Some (Started s) → L.source s.source ≡ Some p → initial p s ≡ To c → r ≡ c.last → StandsFor L O Run handed (fresh p c 1 r) (payload ∷ []) (Now s.reading ∷ [])
  stands_begun r means accepted begins_at is =
      let found = journal_of_start means accepted in
      let J : List (List ℕ) = payload ∷ [] in
      let D : List Deed = Now s.reading ∷ [] in
      let x : Session = session Run handed (fresh p c 1 r) J D in
      let one : OneReading D = inr (s.reading, refl) in
      let none : own L O x ≡ [] = ap (λ o. session_turns o 1) found in
      let before : config_before (journal L J) 1 ≡ Some c = ap (λ o. config_before o 1) found ∙ ap reached begins_at in
      let bound = (bounded p s [] c begins_at).readings in
      stands L O Run handed p c 1 r J D
      (only L O x (all_small D one) none (λ no. cc no) (reads_well L O x none one (λ d resumes was ended. absurd (let no : Run ≡ Resume = resumes in cc no))))
      (all_small D one)
      (record {
        standing = record { program = p; config = c; number = 1; session = 0; waits = 0; two = false; marks = false };
        history = start L payload (Started s) s false p c means refl refl accepted begins_at;
        program = refl;
        config = refl;
        by_now = refl;
        first = omega arith;
        numbered = omega arith;
        format = refl;
      })
      ((let own_is : r ≡ reading_by c.last D 0 = omega (arith, is, bound) in own_is) ∙ ap (λ o. reading_by (last_of o) D 0) (sym before)) (omega (arith, is)) (λ active. refl)

-- ## A history
one_reading : (c : Config) (D : List Deed) → Clocked c D → OneReading D
one_reading c D (inl (ended, none)) = inl none
one_reading c D (inr (active, one)) = inr one

no_reading : (c d : Config) (D : List Deed) → Clocked c D → Some c ≡ Some d → d.outcome ≢ Active → nows D ≡ []
no_reading c d D (inl (ended, none)) same over = ap nows none
no_reading c d D (inr (active, one)) same over = let is : c ≡ d = cc same in absurd (over (subst (λ (e : Config). e.outcome ≡ Active) is active))

read_once : (c : Config) (D : List Deed) → Clocked c D → c.outcome ≡ Active → length (nows D) ≡ 1
read_once c D (inl (ended, none)) active = absurd (ended active)
read_once c D (inr (was, (t, one))) active = ap (λ l. length (nows l)) one

at_least : (last r : ℕ) (D : List Deed) → r ≡ reading_by last D 0 → last ≤ r
at_least last r D is = omega (arith, is)

by_next : (n : ℕ) (s : Standing) → s.session < n → IsTrue (nat_lt s.session n || (nat_eq s.session n && nat_le s.waits 0))
by_next n s less = or_left (nat_lt s.session n) (nat_eq s.session n && nat_le s.waits 0) (lt-ltb s.session n less)

-- where the records lead
pub leads_opened : (L : Language) → SessionIsNumbered → (J : List (List ℕ)) (s : Standing) (p : Program) (c : Config) (n r : ℕ) → history L J ≡ Ok s → s.program ≡ p → s.config ≡ c → s.two ≡ false → n ≡ suc s.session → LeadsTo L J (fresh p c n r)
leads_opened L numbered J s p c n r is program config format next =
    let behind : s.session < n = omega (arith, next) in
    let number = numbered L J s is in
    record {
      standing = s;
      history = is;
      program = program;
      config = config;
      by_now = by_next n s behind;
      first = omega (arith, next);
      numbered = omega (arith, next, number);
      format = format;
    }

module _ (L : Language) (O : Outside) (handed : Bool) (only : OnlyReadings) (stands : FreshStands) (stands_before : HistoryStandsBefore) (no_turns : NoTurnsBehind) (numbered : SessionIsNumbered) (J : List (List ℕ)) (s : Standing) where
  pub stands_opened : (p : Program) (c : Config) (n r : ℕ) (D : List Deed) → history L J ≡ Ok s → s.program ≡ p → s.config ≡ c → s.two ≡ false → n ≡ suc s.session → r ≡ reading_by c.last D 0 → Clocked c D → StandsFor L O Resume handed (fresh p c n r) J D
  stands_opened p c n r D is program config format next read clocked =
      let behind : s.session < n = omega (arith, next) in
      let x : Session = session Resume handed (fresh p c n r) J D in
      let one = one_reading c D clocked in
      let none : own L O x ≡ [] = no_turns L J s n is behind in
      let before : config_before (journal L J) n ≡ Some c = stands_before L J s n is behind ∙ ap Some config in
      stands L O Resume handed p c n r J D (only L O x (all_small D one) none (λ no. cc no) (reads_well L O x none one (λ d resumes was ended. no_reading c d D clocked (sym before ∙ was) ended))) (all_small D one)
      (leads_opened L numbered J s p c n r is program config format next)
      (read ∙ ap (λ o. reading_by (last_of o) D 0) (sym before)) (at_least c.last r D read) (read_once c D clocked)
