-- The rules for what was handed over.
use Rattle.std.specs.Prelude.{◌≡◌, ℕ, true, false, [], ◌++◌}
use Rattle.std.proofs.Common.{refl, sym}
use Rattle.std.proofs.lemmas.List.{append-nil}
use Rattle.wf_deeds.proofs.Carried.{SameAt, quiet_carried, start_carried, answers_carried, decides_carried, reply_carried, answered_carried, decided_carried}
use Rattle.wf_deeds.proofs.Turned.{sent_too}
use Rattle.wf_deeds.specs.Deeds.{polls}
use Rattle.wf_deeds.specs.Kept.{Session}
use Rattle.wf_deeds.specs.Memory.{session}
use Rattle.wf_deeds.specs.Outside.{Outside, Arrives}
use Rattle.wf_deeds.specs.Rules.{HandedKeepsRules, IsBrought, with_handed}
use Rattle.wf_deeds.specs.Steps.{HandedStands}
use Rattle.wf_host.specs.declared.data.Deed.TheVariants.{Poll}
use Rattle.wf_deeds.specs.Language.{Language}
use Rattle.wf_value.specs.Events as plain
use Rattle.wf_value.specs.Events.{Event}

pub handed_keeps_rules : HandedKeepsRules
handed_keeps_rules L O x kept =
    let y = with_handed x in
    let same : (w : ℕ) → SameAt L O x y w = λ w. record { config = refl; reading = refl } in
    let nil : x.deeds ≡ x.deeds ++ [] = sym (append-nil x.deeds) in
    record {
      calls = λ before behind k to bytes comes. start_carried L O x y before k to bytes (same (polls before)) (kept.calls before behind k to bytes comes);
      waits = record {
        polls_wait = λ before behind until h comes.
            let m = kept.waits.polls_wait before behind until h comes in
            record { config = m.config; quiet = quiet_carried L O x y (polls before) m.config (same (polls before)) m.quiet; waits = λ is. absurd (let f : true ≡ false = is in cc f) };
        drops_closed = kept.waits.drops_closed;
        at_end = kept.waits.at_end;
      };
      answers = record {
        only = λ t k r a p. let q = kept.answers.only t k r a p in (q.0, answered_carried L O x y [] t.waits k a nil q.1);
        taken = λ before behind until h k a c comes ans. kept.answers.taken before behind until h k a c comes (answers_carried L O y x before (Poll until h) h.what k a ans);
      };
      readings = record {
        waits = kept.readings.waits;
        readings = kept.readings.readings;
        once = kept.readings.once;
        first = kept.readings.first;
        at_most = kept.readings.at_most;
        none = kept.readings.none;
      };
      visits = record {
        replies = λ before behind n bytes comes. reply_carried L O x y before n bytes (λ w lt. refl) (λ w e there. there) (kept.visits.replies before behind n bytes comes);
        replied = λ before behind until h choice v comes dec. kept.visits.replied before behind until h choice v comes (decides_carried L O y x before h.what choice v refl dec);
        only = λ t n r v p. let q = kept.visits.only t n r v p in (q.0, (q.1.0, decided_carried L O x y [] t.waits q.1.0 (Arrives n v) nil (λ w lt. refl) q.1.1));
      };
    }

brought_too : (L : Language) (O : Outside) (x : Session) (e : Event) → IsBrought L O x e → IsBrought L O (with_handed x) e
brought_too L O x (plain.Answer k r a) b = (answered_carried L O x (with_handed x) [] (polls x.deeds) k a (sym (append-nil x.deeds)) b.0, b.1)
brought_too L O x (plain.Arrive n r v) b = ((b.0.0, decided_carried L O x (with_handed x) [] (polls x.deeds) b.0.0 (Arrives n v) (sym (append-nil x.deeds)) (λ w lt. refl) b.0.1), b.1)
brought_too L O x (plain.Move n) b = tt
brought_too L O x (plain.MoveAt n r) b = tt
brought_too L O x (plain.Begin n) b = tt
brought_too L O x (plain.Issue n r) b = tt
brought_too L O x (plain.Due n r) b = tt
brought_too L O x (plain.Cancel r) b = tt

pub handed_stands : HandedKeepsRules → HandedStands
handed_stands rules L O command m J D s =
    let x = session command false m J D in
    let y = with_handed x in
    record {
      kept = rules L O x s.kept;
      leads = s.leads;
      waits = s.waits;
      reading = s.reading;
      last = s.last;
      clock = s.clock;
      started = s.started;
      dropped = s.dropped;
      issued = s.issued;
      told = s.told;
      unanswered = s.unanswered;
      settled = λ before behind d comes sent. s.settled before behind d comes (sent_too L O y x d sent);
      visit = s.visit;
      undecided = s.undecided;
      answers = λ none before behind until h k a c comes ans. s.answers none before behind until h k a c comes (answers_carried L O y x before (Poll until h) h.what k a ans);
      taken = λ e has. let t = s.taken e has in (brought_too L O x e t.0, t.1, t.2);
      replies = λ none before behind until h choice v comes dec. s.replies none before behind until h choice v comes (decides_carried L O y x before h.what choice v refl dec);
      owed = λ o has.
          let w = s.owed o has in
          record { split = w.split; last = w.last; decision = w.decision; decided = decides_carried L O x y w.split.before w.split.what w.decision o.verdict refl w.decided; visit = w.visit; once = w.once };
      arrival = s.arrival;
    }
