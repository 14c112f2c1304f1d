use Rattle.std.proofs.Common.{◌≡◌, ◌∙◌, ℕ, List, Ok}
use Rattle.wf_cli.proofs.Finish.{none_fell, le_refl}
use Rattle.wf_cli.proofs.Promises.{promised}
use Rattle.wf_cli.specs.Calls.{called}
use Rattle.wf_cli.specs.Promises.{Promised}
use Rattle.wf_args.specs.Lines.{line_of}
use Rattle.wf_args.specs.Plain.{plain_line}
use Rattle.wf_cli.proofs.top.perform.Goals as goal

pub returns : goal.returns
returns g c =
    let e = c.execute-said.ensures in
    let all : (words : List (List ℕ)) → line_of words ≡ Ok (plain_line c.args.line.now) → Promised (called words (g.S.Source.left c.args.source.now) (g.H.Host.world c.args.host.now) (g.H.Host.world c.tell.new.host) (g.S.Source.faults c.args.source.now) (g.S.Source.faults c.execute-said.new.source) (g.H.Host.faults c.args.host.now) (g.H.Host.faults c.tell.new.host) c.tell.result) = λ words is.
    promised (called words (g.S.Source.left c.args.source.now) (g.H.Host.world c.args.host.now) (g.H.Host.world c.tell.new.host) (g.S.Source.faults c.args.source.now) (g.S.Source.faults c.execute-said.new.source) (g.H.Host.faults c.args.host.now) (g.H.Host.faults c.tell.new.host) c.tell.result)
    (g.H.Host.world c.execute-said.new.host) (g.S.Source.faults c.execute-said.new.source) (g.H.Host.faults c.execute-said.new.host) c.execute-said.result (e.end words is) (λ O told. e.worked O told words is) c.tell.ensures.ends c.tell.ensures.printing e.tells (le_refl (g.S.Source.faults c.execute-said.new.source)) e.counts c.tell.ensures.counts
    (λ told t i le now. g.met.H.Host.counts_now c.execute-said.new.host t i (e.tells ∙ told) le now) (λ told t i le now. g.met.H.Host.counts_now c.tell.new.host t i (c.tell.ensures.tells ∙ e.tells ∙ told) le now) (λ told. g.met.H.Host.reads_back c.tell.new.host (c.tell.ensures.tells ∙ e.tells ∙ told))
    c.laws_of_deeds.ensures.deed c.laws_of_deeds.ensures.end c.laws_of_sources.ensures.one_refusal c.laws_of_sources.ensures.not_both in
    record {
      promised = all;
      tells = c.tell.ensures.tells ∙ e.tells;
      reads = e.reads;
      counts = none_fell (g.H.Host.faults c.args.host.now) (g.H.Host.faults c.execute-said.new.host) (g.H.Host.faults c.tell.new.host) e.counts c.tell.ensures.counts;
    }
