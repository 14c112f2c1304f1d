use Rattle.std.proofs.Common.{◌∙◌, Err, ap, refl}
use Rattle.wf_host.proofs.Printings.{NoneFell-refl}
use Rattle.wf_cli.proofs.Finish.{le_refl}
use Rattle.wf_cli.proofs.Promises.{promised}
use Rattle.wf_cli.proofs.Works.{bad_line_end, bad_line_worked}
use Rattle.wf_cli.specs.Calls.{called}
use Rattle.wf_engine.specs.Safe.{scene}
use Rattle.wf_args.specs.Lines.{words_view}
use Rattle.wf_args.specs.Plain.{plain_line}
use Rattle.wf_cli.proofs.top.run_line.Goals as goal

pub returns-in-Ok : goal.returns-in-Ok
returns-in-Ok g c =
    let p = c.perform.ensures in
    record {
      promised = p.promised (words_view c.args.words.now) ((c.in-Ok.ensures.line (plain_line c.in-Ok.line)).1 refl);
      tells = p.tells;
      reads = p.reads;
      counts = p.counts;
    }

pub returns-in-Err : goal.returns-in-Err
returns-in-Err g c =
    let words = words_view c.args.words.now in
    let old = g.H.Host.world c.args.host.now in
    let faults = g.H.Host.faults c.args.host.now in
    let reads = g.S.Source.faults c.args.source.now in
    let s = scene words (g.S.Source.left c.args.source.now) old in
    record {
      promised =
          promised (called words (g.S.Source.left c.args.source.now) old (g.H.Host.world c.tell.new.host) reads reads faults (g.H.Host.faults c.tell.new.host) c.tell.result) old reads faults c.bad_line.result
          (bad_line_end s old reads reads faults faults c.in-Err.fault c.bad_line.result c.bad_line.ensures (λ n why. (c.in-Err.ensures.bad_line n).1 (ap Err why)))
          (λ O told. bad_line_worked O s old c.in-Err.fault c.bad_line.result c.bad_line.ensures (λ n why. (c.in-Err.ensures.bad_line n).1 (ap Err why)) (λ i d left. g.met.H.Host.only_now c.args.host.now i d told left))
          c.tell.ensures.ends c.tell.ensures.printing refl (le_refl reads) (NoneFell-refl faults) c.tell.ensures.counts
          (λ told t i le now. g.met.H.Host.counts_now c.args.host.now t i told le now) (λ told t i le now. g.met.H.Host.counts_now c.tell.new.host t i (c.tell.ensures.tells ∙ told) le now) (λ told. g.met.H.Host.reads_back c.tell.new.host (c.tell.ensures.tells ∙ told)) c.laws_of_deeds.ensures.deed c.laws_of_deeds.ensures.end c.laws_of_sources.ensures.one_refusal c.laws_of_sources.ensures.not_both;
      tells = c.tell.ensures.tells;
      reads = le_refl reads;
      counts = c.tell.ensures.counts;
    }
