use Rattle.std.proofs.Common.{rules, ◌≡◌, suc, ◌+◌, max, arith, refl}
use Rattle.wf_connections.specs.Calls.{is_dropped, is_started, told}
use Rattle.wf_host.specs.World.{call_of}
use Rattle.wf_engine.proofs.Done.{done_heard}
use Rattle.wf_engine.proofs.Heard.{heard_ready, takable, takes}
use Rattle.wf_engine.proofs.engine.Engine.take.Goals as goal
use Rattle.wf_engine.specs.Engine.{memory}
use Rattle.wf_replay.specs.TheLanguage.{the_language}

-- what it stands for then
pub returns : goal.returns
returns c =
    let e = c.args.self.now in
    let b = c.hear.new.self in
    record {
      takes = λ O.
          let m = memory e in
          let r : c.max-self.result ≡ max e.reading c.args.heard.reading = c.max-self.ensures in
          let w : e.waits + 1 ≡ suc e.waits = omega arith in
          takes O m.program m.config m.session m.reading m.waits m.started m.dropped m.told m.taken c.args.heard (is_started b) (is_dropped b) (told b) c.in_ok-self.field-0 c.in_ok-hear.ensures.stands.started c.in_ok-hear.ensures.heard c.laws_of_steps.ensures.hearing c.laws_of_steps.ensures.hearing_leads the_language
          c.in_ok-hear.ensures.stands.dropped e.reading c.max-self.result (e.waits + 1) r w (c.requires.settled c.if-self.false) (c.requires.active c.if-self.false) c.requires.of_calls c.in_ok-self.ensures;
      reading = c.max-self.ensures;
      waits = refl;
      same = search rules;
      session = refl;
      holds = refl;
      closed = search rules;
      closes = tt;
      idle = λ is. absurd (cc is);
      «open» = refl;
      only = tt;
    }

-- it can go on
pub invariant_of-self-2 : goal.invariant_of-self-2
invariant_of-self-2 c =
    let e = c.args.self.now in
    let b = c.hear.new.self in
    record {
      ready = λ open_now.
          heard_ready e.history e.machine e.reading c.max-self.result e.connections b e.taken c.in_ok-self.field-0 (e.ready c.if-self.false) (omega (arith, c.max-self.ensures)) c.in_ok-hear.ensures.stands
          (takable (record (memory e) { started = is_started b; dropped = is_dropped b; told = told b }) (call_of c.args.heard.what) c.in_ok-self.field-0 (c.requires.active c.if-self.false) c.in_ok-self.ensures);
      through = λ open_now. done_heard (memory e).config e.connections b e.done c.in_ok-hear.ensures.stands (e.through c.if-self.false);
    }
