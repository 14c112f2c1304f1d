-- Facts of a session that are facts of another one.
use Rattle.std.specs.Prelude.{◌≡◌, ◌<◌, ℕ, IsTrue, List, [], ◌∷◌, ◌++◌}
use Rattle.std.proofs.Common.{sym, ◌∙◌, ap, subst, arith, append_assoc}
use Rattle.wf_deeds.proofs.Lists.{poll_found, poll_stays, with_more}
use Rattle.wf_deeds.specs.Deeds.{polls, poll_at, Split, Decision}
use Rattle.wf_deeds.specs.Kept.{Session, Place, StandsFirst, own, config, reading, IsQuietAt, MayStart, MayPoll, MayReply, Answers, AnsweredAt, Decides, DecidedAt}
use Rattle.wf_deeds.specs.Outside.{Outside, Verdict}
use Rattle.wf_host.specs.declared.data.Address.{Address}
use Rattle.wf_host.specs.declared.data.Deed.{Deed}
use Rattle.wf_host.specs.declared.data.What.{What}
use Rattle.wf_model.specs.Config.{Config}
use Rattle.wf_model.specs.Ready.{quiet}
use Rattle.wf_deeds.specs.Language.{Language}
use Rattle.wf_value.specs.Events as plain
use Rattle.wf_value.specs.Events.{Event, Turn}

-- ## Turns
-- what stands first among some turns stands first among more
abbrev pub place_more : (ts us : List Turn) (t : Turn) (e : Event) → Place ts t e → Place (ts ++ us) t e
place_more ts us t e p = record {
  earlier = p.earlier;
  later = p.later ++ us;
  turn = ap (λ l. l ++ us) p.turn ∙ append_assoc p.earlier (t ∷ p.later) us;
  front = p.front;
  back = p.back;
  event = p.event;
}

pub first_more : (ts us : List Turn) (w : ℕ) (e : Event) → StandsFirst ts w e → StandsFirst (ts ++ us) w e
first_more ts us w e s = record {
  turn = s.turn;
  waits = s.waits;
  place = place_more ts us s.turn e s.place;
  first = record { of_turn = s.first.of_turn; of_waits = s.first.of_waits };
}

-- ## Sessions
module _ (L : Language) (O : Outside) (x y : Session) where
  -- at so many polls they have the same configuration and reading
  pub record SameAt (w : ℕ) : Type 0 where
    pub config : config L O y w ≡ config L O x w
    pub reading : reading L O y w ≡ reading L O x w

  pub quiet_carried : (w : ℕ) (c : Config) → SameAt w → IsQuietAt L O x w c → IsQuietAt L O y w c
  quiet_carried w c same q = record {
    reached = same.config ∙ q.reached;
    quiet = subst (λ r. IsTrue (quiet c r)) (sym same.reading) q.quiet;
    active = q.active;
  }

  pub start_carried : (before : List Deed) (k : ℕ) (to : Address) (bytes : List ℕ) → SameAt (polls before) → MayStart L O x before k to bytes → MayStart L O y before k to bytes
  start_carried before k to bytes same m = record {
    config = m.config;
    quiet = quiet_carried (polls before) m.config same m.quiet;
    request = m.request;
    once = m.once;
  }

  pub poll_carried : (before : List Deed) (until : ℕ) → SameAt (polls before) → y.handed ≡ x.handed → MayPoll L O x before until → MayPoll L O y before until
  poll_carried before until same handed m = record {
    config = m.config;
    quiet = quiet_carried (polls before) m.config same m.quiet;
    waits = λ is. let w = m.waits (sym handed ∙ is) in record { due = w.due; started = w.started; dropped = w.dropped };
  }

  pub answers_carried : (before : List Deed) (poll : Deed) (heard : What) (k : ℕ) (a : plain.Reply) → Answers L O x before poll heard k a → Answers L O y before poll heard k a
  answers_carried before poll heard k a m = record { of_call = m.of_call; now = m.now; not_yet = m.not_yet }

  pub decides_carried : (before : List Deed) (heard : What) (d : Decision) (v : Verdict) → config L O y (polls before) ≡ config L O x (polls before) → Decides L O x before heard d v → Decides L O y before heard d v
  decides_carried before heard d v same m = record { decides = m.decides; config = m.config; at = same ∙ m.at; verdict = m.verdict }

  pub reply_carried : (before : List Deed) (n : ℕ) (bytes : List ℕ) → ((w : ℕ) → w < polls before → config L O y w ≡ config L O x w) → ((w : ℕ) (e : Event) → StandsFirst (own L O x) w e → StandsFirst (own L O y) w e)
      → MayReply L O x before n bytes → MayReply L O y before n bytes
  reply_carried before n bytes same stands m =
      let f = poll_found [] (polls before) before m.split m.last in
      let front : polls m.split.before < polls before = omega (arith, f.count, ap (λ (s : Split). polls s.before) f.split) in
      record {
        split = m.split;
        last = m.last;
        decision = m.decision;
        verdict = m.verdict;
        decided = decides_carried m.split.before m.split.what m.decision m.verdict (same (polls m.split.before) front) m.decided;
        visit = m.visit;
        once = m.once;
        reply = m.reply;
        arrived = λ e r is. let (t, first) = m.arrived e r is in (t, stands (polls before) (plain.Arrive e t r) first);
      }

  -- a poll that is there is there with more deeds
  pub answered_carried : (es : List Deed) (w k : ℕ) (a : plain.Reply) → y.deeds ≡ x.deeds ++ es → AnsweredAt L O x w k a → AnsweredAt L O y w k a
  answered_carried es w k a more m = record {
    split = with_more m.split es;
    poll = ap (λ ds. poll_at w ds) more ∙ poll_stays [] w x.deeds es m.split m.poll;
    answers = answers_carried m.split.before m.split.deed m.split.what k a m.answers;
  }

  pub decided_carried : (es : List Deed) (w : ℕ) (d : Decision) (v : Verdict) → y.deeds ≡ x.deeds ++ es → ((u : ℕ) → u < w → config L O y u ≡ config L O x u) → DecidedAt L O x w d v → DecidedAt L O y w d v
  decided_carried es w d v more same m =
      let f = poll_found [] w x.deeds m.split m.poll in
      let front : polls m.split.before < w = omega (arith, f.count, ap (λ (s : Split). polls s.before) f.split) in
      record {
        split = with_more m.split es;
        poll = ap (λ ds. poll_at w ds) more ∙ poll_stays [] w x.deeds es m.split m.poll;
        decides = decides_carried m.split.before m.split.what d v (same (polls m.split.before) front) m.decides;
      }
