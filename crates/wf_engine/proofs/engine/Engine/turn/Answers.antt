use Rattle.std.proofs.Common.{rules, arith, ◌≤◌, ◌+◌, length, ap, ◌∙◌, refl, sym, List, [], ◌∷◌, ◌++◌, ◌≡◌}
use Rattle.std.proofs.lemmas.List.{nil_from_length}
use Rattle.std.specs.Prelude.{Option}
use Rattle.wf_deeds.specs.Turns.{turn_of}
use Rattle.wf_engine.proofs.Added.{Choice, Laws, is_short, is_spelled, not_none}
use Rattle.wf_engine.proofs.Done.{done_behind}
use Rattle.wf_engine.proofs.OneTurn.{turn_adds, turn_begun}
use Rattle.wf_engine.proofs.FreshEngine.{nothing_taken}
use Rattle.wf_engine.proofs.TurnsAdded.{added, goes_on, idle, still_of}
use Rattle.wf_engine.proofs.engine.Engine.turn.Goals as goal
use Rattle.wf_engine.specs.Engine.{memory}
use Rattle.wf_engine.specs.Taken.{taken_event}
use Rattle.wf_engine.specs.declared.taken.Taken.{Taken}
use Rattle.wf_events.specs.View.{events_view}
use Rattle.wf_journal.specs.Records.{records}
use Rattle.wf_machine.specs.Counts.{counts_of}
use Rattle.wf_machine.specs.Seen.{state_of}
use Rattle.wf_replay.specs.TheLanguage.{the_language}

-- a list to which something was added
added_some : {A : Type 0} (xs : List A) (x : A) → xs ++ x ∷ [] ≡ [] → ⊥
added_some [] x is = cc is
added_some (y ∷ xs) x is = cc is

-- what was taken waits still
pub choose_turn-requires-clause-takable : goal.choose_turn-requires-clause-takable
choose_turn-requires-clause-takable g c = λ t is. (c.args.self.now.ready c.if-self.false).takable t (sym c.take-taken.ensures.value ∙ is)

-- while it is chosen
pub returns-in_err-events : goal.returns-in_err-events
returns-in_err-events g c =
    let e = c.args.self.now in
    let w = g.H.Host.world c.args.host.now in
    record {
      holds = search rules;
      adds = search rules;
      any_moment = λ O open_now told command handed D s.
          (turn_begun the_language O e.history w command handed D (λ i d left. g.met.H.Host.only_now c.args.host.now i d told left) (c.requires.kept open_now told).0 (e.ready open_now).begun c.laws_of_steps.ensures.moment (memory e) s).moments;
      goes_on = search rules;
      counted = search rules;
      most = search rules;
      session = refl;
      waits = refl;
      reading = refl;
      disk_fault = search rules;
      closed = search rules;
      closes = search rules;
      idle = search rules;
      «open» = search rules;
      only = search rules;
      tells = refl;
      counts = search rules;
    }

-- nothing was chosen
pub returns-then-count-eq0 : goal.returns-then-count-eq0
returns-then-count-eq0 g c =
    let e = c.args.self.now in
    let w = g.H.Host.world c.args.host.now in
    let m = memory e in
    let now = state_of c.choose_turn.new.machine in
    let turn = c.in_ok-events.ensures in
    let es = events_view c.in_ok-events.events in
    let chosen = λ (o : Option Taken). turn_of m.program m.config m.reading (taken_event m.reading o) in
    record {
      holds = search rules;
      adds = λ O told.
          let none = nil_from_length es (omega (arith, c.count.ensures, c.if-count-eq0.true)) in
          let is : Choice m es now.config = record { turn = turn.turn ∙ ap chosen c.take-taken.ensures.value; leads = turn.leads } in
          idle the_language O m now.program now.config (taken_event m.reading c.take-taken.new.self) es turn.program (ap (taken_event m.reading) c.take-taken.ensures.after) refl is w none;
      any_moment = λ O open_now told command handed D s.
          (turn_begun the_language O e.history w command handed D (λ i d left. g.met.H.Host.only_now c.args.host.now i d told left) (c.requires.kept open_now told).0 (e.ready open_now).begun c.laws_of_steps.ensures.moment m s).moments;
      goes_on =
          goes_on m now.program now.config (taken_event m.reading c.take-taken.new.self) (taken_event m.reading c.take-taken.result) (length es) (ap (taken_event m.reading) c.take-taken.ensures.after) refl
          turn.ended turn.falls;
      counted = turn.counted ∙ ap (λ l. m.config.moves + counts_of l) (turn.turn ∙ ap chosen c.take-taken.ensures.value);
      most = turn.most;
      session = refl;
      waits = refl;
      reading = refl;
      disk_fault = search rules;
      closed = search rules;
      closes = tt;
      idle = search rules;
      «open» = refl;
      only = tt;
      tells = refl;
      counts = search rules;
    }

-- while it is added
pub add-requires-clause-short : goal.add-requires-clause-short
add-requires-clause-short g c = is_short (memory c.args.self.now) (events_view c.in_ok-events.events) c.in_ok-events.ensures.bytes c.in_ok-events.ensures.short

pub returns-in_err-add : goal.returns-in_err-add
returns-in_err-add g c =
    let e = c.args.self.now in
    let w = g.H.Host.world c.args.host.now in
    let m = memory e in
    let now = state_of c.choose_turn.new.machine in
    let turn = c.in_ok-events.ensures in
    let es = events_view c.in_ok-events.events in
    record {
      holds = search rules;
      adds = search rules;
      any_moment = λ O open_now told command handed D s.
          let laws : Laws = record { again = c.one_spelling.ensures.again; chosen = c.laws_of_steps.ensures.chosen; turn = c.laws_of_steps.ensures.turn; moment = c.laws_of_steps.ensures.moment; turn_leads = c.laws_of_steps.ensures.turn_leads } in
          let chosen = λ (o : Option Taken). turn_of m.program m.config m.reading (taken_event m.reading o) in
          let is : Choice m es now.config = record { turn = turn.turn ∙ ap chosen c.take-taken.ensures.value; leads = turn.leads } in
          let some : 1 ≤ length es = omega (arith, c.count.ensures, c.if-count-eq0.false) in
          turn_adds the_language O e.history w command handed D (λ i d left. g.met.H.Host.only_now c.args.host.now i d told left) (c.requires.kept open_now told).0 (e.ready open_now).begun laws (g.H.Host.world c.add.new.host) m now.config es s is
          (not_none es some) (is_spelled m es c.numbers_fit.ensures.session c.numbers_fit.ensures.waits turn.spelled some turn.short) (c.add.ensures.any_moment (e.ready open_now).not_closed told);
      goes_on = search rules;
      counted = search rules;
      most = search rules;
      session = refl;
      waits = refl;
      reading = refl;
      disk_fault = search rules;
      closed = search rules;
      closes = search rules;
      idle = search rules;
      «open» = search rules;
      only = search rules;
      tells = c.add.ensures.tells;
      counts = c.add.ensures.counts;
    }

-- it was added
pub returns : goal.returns
returns g c =
    let e = c.args.self.now in
    let w = g.H.Host.world c.args.host.now in
    let new = g.H.Host.world c.add.new.host in
    let m = memory e in
    let now = state_of c.choose_turn.new.machine in
    let turn = c.in_ok-events.ensures in
    let es = events_view c.in_ok-events.events in
    let laws : Laws = record { again = c.one_spelling.ensures.again; chosen = c.laws_of_steps.ensures.chosen; turn = c.laws_of_steps.ensures.turn; moment = c.laws_of_steps.ensures.moment; turn_leads = c.laws_of_steps.ensures.turn_leads } in
    let chosen = λ (o : Option Taken). turn_of m.program m.config m.reading (taken_event m.reading o) in
    let is : Choice m es now.config = record { turn = turn.turn ∙ ap chosen c.take-taken.ensures.value; leads = turn.leads } in
    let some : 1 ≤ length es = omega (arith, c.count.ensures, c.if-count-eq0.false) in
    record {
      holds = λ open_now told. (
        c.add.ensures.stands c.in_ok-add.ensures.«open» told,
        λ none. added_some (records w.seen) _ (sym (c.in_ok-add.ensures.added told) ∙ none),
      );
      adds = λ O told.
          added the_language O m now.program now.config (taken_event m.reading c.take-taken.new.self) es turn.program (ap (taken_event m.reading) c.take-taken.ensures.after) refl is w new
          laws (not_none es some) (is_spelled m es c.numbers_fit.ensures.session c.numbers_fit.ensures.waits turn.spelled some turn.short) (c.in_ok-add.ensures.added told) (c.add.ensures.deeds told);
      any_moment = λ O open_now told command handed D s.
          turn_adds the_language O e.history w command handed D (λ i d left. g.met.H.Host.only_now c.args.host.now i d told left) (c.requires.kept open_now told).0 (e.ready open_now).begun laws new m now.config es s is
          (not_none es some) (is_spelled m es c.numbers_fit.ensures.session c.numbers_fit.ensures.waits turn.spelled some turn.short) (c.add.ensures.any_moment (e.ready open_now).not_closed told);
      goes_on =
          goes_on m now.program now.config (taken_event m.reading c.take-taken.new.self) (taken_event m.reading c.take-taken.result) (length es) (ap (taken_event m.reading) c.take-taken.ensures.after) refl
          turn.ended turn.falls;
      counted = turn.counted ∙ ap (λ l. m.config.moves + counts_of l) (turn.turn ∙ ap chosen c.take-taken.ensures.value);
      most = turn.most;
      session = refl;
      waits = refl;
      reading = refl;
      disk_fault = λ is. absurd (cc is);
      closed = search rules;
      closes = tt;
      idle = search rules;
      «open» = refl;
      only = tt;
      tells = c.add.ensures.tells;
      counts = c.add.ensures.counts;
    }

-- it can go on
pub invariant_of-self-2 : goal.invariant_of-self-2
invariant_of-self-2 g c = record {
  ready = λ open_now.
      let was = c.args.self.now.ready c.if-self.false in
      let old = state_of c.args.self.now.machine in
      let now = state_of c.choose_turn.new.machine in record {
        not_closed = c.in_ok-add.ensures.«open»;
        begun = c.add.ensures.still_begun;
        ended = c.add.ensures.still_ended;
        whole = c.in_ok-events.ensures.whole;
        last = c.in_ok-events.ensures.last;
        calls = still_of c.laws_of_calls.ensures.calls_go_on c.args.self.now.connections old.program old.config now.config (events_view c.in_ok-events.events) was.calls c.in_ok-events.ensures.leads;
        takable = nothing_taken now.config c.take-taken.new.self c.take-taken.ensures.after;
      };
  through = λ open_now.
      let old = state_of c.args.self.now.machine in
      let now = state_of c.choose_turn.new.machine in
      done_behind c.args.self.now.connections c.args.self.now.done old.program old.config now.config (events_view c.in_ok-events.events) (c.args.self.now.through c.if-self.false) c.in_ok-events.ensures.leads;
}
