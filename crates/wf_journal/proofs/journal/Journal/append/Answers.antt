use Rattle.std.proofs.Common.{rules, ◌≡◌, ◌+◌, length, false, inl, refl, sym, subst, arith}
use Rattle.wf_host.specs.Moments.{started}
use Rattle.wf_journal.specs.Journal.{IsBeforeOrAfter}
use Rattle.wf_journal.specs.Gates.{AtEnd}
use Rattle.wf_journal.proofs.Standing.{stands_at_end}
use Rattle.wf_journal.proofs.journal.Journal.append.Goals as goal

pub returns-then-payload-gt-LONGEST : goal.returns-then-payload-gt-LONGEST
returns-then-payload-gt-LONGEST g c =
    record {
      stands = search rules;
      «open» = search rules;
      still_ended = search rules;
      still_begun = search rules;
      closes = search rules;
      added = search rules;
      any_moment = λ is_open told.
          let w = g.H.Host.world c.args.host.now in
          let s = c.requires.kept is_open told in
          let P = IsBeforeOrAfter w c.args.payload.now in
          started w P (λ i d left. g.met.H.Host.only_now c.args.host.now i d told left)
          (λ i now. subst (λ f. P f w.deeds) (sym (s.settled i now)) ((s.found c.requires.begun).begins, inl refl, refl));
      disk_fault = search rules;
      too_long = search rules;
      unchanged = search rules;
      closed = search rules;
      idle = search rules;
      not_asked = search rules;
      no_memory = search rules;
      deeds = search rules;
      tells = search rules;
      counts = search rules;
    }

pub returns-in-Ok : goal.returns-in-Ok
returns-in-Ok g c =
    record {
      stands = λ is_open told.
          let w = g.H.Host.world c.add_record.new.host in
          let there : c.args.self.now.gate + 5 + length c.args.payload.now ≡ c.args.self.now.gate + (5 + length c.args.payload.now) = omega arith in
          let end = subst (λ n. AtEnd w n false) there (c.in-Ok.ensures.ready told) in
          stands_at_end c.requires.begun c.requires.ended refl end;
      «open» = search rules;
      still_ended = search rules;
      still_begun = search rules;
      closes = search rules;
      added = search rules;
      any_moment = search rules;
      disk_fault = search rules;
      too_long = search rules;
      unchanged = search rules;
      closed = search rules;
      idle = search rules;
      not_asked = search rules;
      no_memory = search rules;
      deeds = search rules;
      tells = search rules;
      counts = search rules;
    }
