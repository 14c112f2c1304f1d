use Rattle.std.proofs.Common.{◌≤◌, ◌∙◌, length, refl, subst, sym}
use Rattle.wf_args.specs.Plain.{plain_line}
use Rattle.wf_cli.proofs.Spelled.{IsPlainStart, IsShortArgument, plain_fits, plain_spelled}
use Rattle.wf_events.specs.View.{start_view}
use Rattle.wf_cli.proofs.execution.start_for.Goals as goal

abbrev Plain : goal.In_ok-new-2 → Type 0
Plain c =
    IsPlainStart (start_view (record {
      id = c.in_ok-id_for.field-0;
      source = c.in_ok-new.field-0;
      argument = c.argument.inside.bytes.value.items;
      routes = c.in_ok-routes_for.field-0;
      env = c.in_ok-env_for.field-0;
      base = c.in_ok-new-2.field-0;
      reading = c.args.reading;
    }))

is_plain : (c : goal.In_ok-new-2) → Plain c
is_plain c = record {
  rules = refl;
  id = c.in_ok-id_for.ensures.text;
  short = c.in_ok-id_for.ensures.short;
  source = subst (λ l. length l ≤ 131072) (sym c.in_ok-new.ensures) c.requires.short;
  argument = subst IsShortArgument (sym c.requires.text ∙ sym c.argument.view_is) (c.laws_of_starts.ensures.spelled (plain_line c.args.line.now) c.requires.has);
  routes = c.in_ok-routes_for.ensures.spelled;
  few = c.in_ok-routes_for.ensures.short;
  env = c.in_ok-env_for.ensures.spelled;
  few_pairs = c.in_ok-env_for.ensures.short;
  base = c.in_ok-new-2.ensures;
  reading = c.ranges.reading.fits;
}

pub returns-clause-spelled : goal.returns-clause-spelled
returns-clause-spelled c = plain_spelled _ (is_plain c)

pub returns-clause-fits : goal.returns-clause-fits
returns-clause-fits c = plain_fits _ (is_plain c)
