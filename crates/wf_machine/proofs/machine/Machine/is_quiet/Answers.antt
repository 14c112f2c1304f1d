use Rattle.std.proofs.Common.{◌≡◌, ℕ, Bool, true, false, not, Option, None, Some, refl, sym, ap, ◌∙◌}
use Rattle.std.specs.Prelude.{◌&&◌, is_none, is_some}
use Rattle.wf_branches.specs.Seen.{table_of}
use Rattle.wf_branches.specs.Table.{next_ready}
use Rattle.wf_check.specs.Seen.{program_of}
use Rattle.wf_machine.proofs.Choice.{quiet_is}
use Rattle.wf_machine.proofs.Good.{shows_it}
use Rattle.wf_machine.proofs.machine.Machine.is_quiet.Goals as goal
use Rattle.wf_machine.specs.Main.{config_of}
use Rattle.wf_machine.specs.Seen.{shown}
use Rattle.wf_model.specs.Choose.{first_due}
use Rattle.wf_model.specs.Config.{Config}
use Rattle.wf_model.specs.Ready.{quiet}

some_none : (o : Option ℕ) (z : Bool) → is_some o ≡ true → (is_none o && z) ≡ false
some_none None z is = absurd (cc is)
some_none (Some n) z is = refl

none_some : (o : Option ℕ) (z : Bool) → is_some o ≡ false → (is_none o && z) ≡ z
none_some None z is = refl
none_some (Some n) z is = absurd (cc is)

-- what the code tells of none
none_by : (o : Option ℕ) (w : Bool) → is_some o ≡ not w → w ≡ is_none o
none_by None true is = refl
none_by None false is = absurd (cc is)
none_by (Some n) true is = absurd (cc is)
none_by (Some n) false is = refl

pub returns-then-self : goal.returns-then-self
returns-then-self c =
    let m = c.args.self.now in
    sym (ap (λ (b : Bool). quiet (config_of b (program_of m.program) m.facts m.tally (table_of m.tasks) m.moving.items m.scopes m.calls m.log m.ending) c.args.reading) c.if-self.true)

pub returns-then-is_some : goal.returns-then-is_some
returns-then-is_some c =
    let m = c.args.self.now in
    let whole = c.if-self.false in
    sym (some_none (next_ready 0 (table_of m.tasks).live) (is_none (first_due (shown m) c.args.reading (shown m).tasks)) (sym (ap is_some c.ready.ensures) ∙ sym c.is_some.ensures ∙ c.if-is_some.true))
    ∙ quiet_is (program_of m.program) (table_of m.tasks).live m.moving.items m.scopes (shown m) c.args.reading (m.alike whole) (m.lone whole)
    ∙ sym (ap (λ (d : Config). quiet d c.args.reading) (shows_it m whole))

pub returns : goal.returns
returns c =
    let m = c.args.self.now in
    let whole = c.if-self.false in
    none_by c.first_due.result c.is_none.result c.is_none.ensures ∙ ap is_none c.first_due.ensures
    ∙ sym (none_some (next_ready 0 (table_of m.tasks).live) (is_none (first_due (shown m) c.args.reading (shown m).tasks)) (sym (ap is_some c.ready.ensures) ∙ sym c.is_some.ensures ∙ c.if-is_some.false))
    ∙ quiet_is (program_of m.program) (table_of m.tasks).live m.moving.items m.scopes (shown m) c.args.reading (m.alike whole) (m.lone whole)
    ∙ sym (ap (λ (d : Config). quiet d c.args.reading) (shows_it m whole))
