use Rattle.std.proofs.Common.{◌≡◌, ◌+◌, None, ◌∙◌, ap, subst, sym}
use Rattle.std.specs.Option.{option_map}
use Rattle.std.specs.Prelude.{slice_get}
use Rattle.wf_args.specs.Lines.{env_of}
use Rattle.wf_args.specs.Plain.{plain_env, plain_line}
use Rattle.wf_cli.proofs.Pairs.{AreAll, SoFar, all_pairs, fewer_left, none_yet, pair_more}
use Rattle.wf_cli.proofs.execution.env_for.Goals as goal

pub loop-env-init : goal.loop-env-init
loop-env-init c = none_yet (plain_line c.args.line.now) c.new-env.result c.new-env.ensures

pub loop-env-preserved : goal.loop-env-preserved
loop-env-preserved c =
    let l = plain_line c.args.line.now in
    subst (λ ps. SoFar l ps (c.loop-env.index + 1)) (sym c.in_ok-push.ensures.ok)
    (pair_more l c.loop-env.env c.loop-env.index (plain_env c.in-Some.parts) c.in_ok-key.key c.in_ok-utf8_text.field-0 c.loop-env.invariant (sym c.in-Some.ensures.env) c.in-Some.ensures.proper
    c.in_ok-key.ensures.same c.in_ok-utf8_text.ensures.same c.in_ok-key.ensures.utf8 c.in_ok-utf8_text.ensures.utf8)

pub loop-env-smaller : goal.loop-env-smaller
loop-env-smaller c = fewer_left (plain_line c.args.line.now) c.loop-env.index (plain_env c.in-Some.parts) (sym c.in-Some.ensures.env)

all : (c : goal.In_default) → AreAll (plain_line c.args.line.now) c.loop-env.env
all c =
    let l = plain_line c.args.line.now in
    let past : slice_get (env_of l) c.loop-env.index ≡ None = sym (sym (ap (option_map plain_env) c.in_default.is) ∙ c.env.ensures.env) in
    all_pairs l c.loop-env.env c.loop-env.index c.loop-env.invariant past c.env.ensures.few

pub returns-clause-same : goal.returns-clause-same
returns-clause-same c = (all c).same

pub returns-clause-spelled : goal.returns-clause-spelled
returns-clause-spelled c = (all c).spelled

pub returns-clause-short : goal.returns-clause-short
returns-clause-short c = (all c).short
