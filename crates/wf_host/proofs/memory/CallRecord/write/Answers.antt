use Rattle.std.proofs.Common.{◌≡◌, length, ◌++◌, [], ◌∷◌, List, ℕ, is_ok, true, refl, sym, ◌∙◌, ap, arith}
use Rattle.wf_host.specs.declared.memory.Done.{Done}
use Rattle.wf_host.specs.declared.memory.Done.TheVariants.{Wrote}
use Rattle.wf_host.specs.Memory.{content, marks, stable}
use Rattle.wf_host.specs.World.{Torn, written}
use Rattle.wf_host.proofs.Replay.{content_wrote, marks_wrote, stable_wrote, elapses_write, elapses_to, long_fits, if_true}
use Rattle.wf_host.proofs.memory.CallRecord.write.Goals as goal

-- the write at the end of the calls, in which its own bytes stand
noted : (past mid last : List Done) (at : ℕ) (copy bytes : List ℕ) → last ≡ mid ++ Wrote at copy ∷ [] → mid ≡ past → copy ≡ bytes → last ≡ past ++ Wrote at bytes ∷ []
noted past mid last at copy bytes is same own = cc

pub invariant_of-self-2 : goal.invariant_of-self-2
invariant_of-self-2 c =
    let r = c.args.self.now in
    let at = c.args.at in
    let bytes : List ℕ = c.args.bytes.now in
    let ok : is_ok c.push.result ≡ true = c.push.ensures.succeeds (omega (arith, c.reserve.ensures.len, c.in_ok-reserve.ensures.ok)) in
    let pushed : c.push.new.self.items ≡ r.past.items ++ Wrote at bytes ∷ [] = noted r.past.items _ _ at _ bytes (if_true (is_ok c.push.result) _ _ _ c.push.ensures.items ok) c.reserve.ensures.items c.in-Ok.ensures in
    let next : c.put_in.new.file.items ≡ written r.image.items at bytes = c.in_ok-put_in.ensures.written in
    record {
      same = next ∙ ap (λ (l : List ℕ). written l at bytes) r.same ∙ sym (content_wrote r.first.items r.past.items at bytes) ∙ ap (λ (p : List Done). content r.first.items p) (sym pushed);
      counts = ap marks pushed ∙ marks_wrote r.past.items at bytes ∙ r.counts;
      fits = long_fits r.image.items c.put_in.new.file.items bytes at next c.requires.inside c.requires.room r.fits;
    }

pub returns-clause-stable : goal.returns-clause-stable
returns-clause-stable c =
    let r = c.args.self.now in
    let pushed : c.push.new.self.items ≡ r.past.items ++ Wrote c.args.at c.args.bytes.now ∷ [] = noted r.past.items _ _ c.args.at _ c.args.bytes.now c.in_ok-push.ensures.items c.reserve.ensures.items c.in-Ok.ensures in
    ap (λ (p : List Done). stable r.first.items r.first.items p) pushed ∙ stable_wrote r.first.items r.first.items r.past.items c.args.at c.args.bytes.now

pub returns-clause-time : goal.returns-clause-time
returns-clause-time c =
    let r = c.args.self.now in
    let pushed : c.push.new.self.items ≡ r.past.items ++ Wrote c.args.at c.args.bytes.now ∷ [] = noted r.past.items _ _ c.args.at _ c.args.bytes.now c.in_ok-push.ensures.items c.reserve.ensures.items c.in-Ok.ensures in
    elapses_to r.first.items r.image.items c.put_in.new.file.items r.past.items _ c.push.new.self.items r.deeds.items _ r.deeds.items (Torn c.args.at (length c.args.bytes.now)) [] pushed refl
    (elapses_write r.first.items r.image.items c.put_in.new.file.items r.past.items r.deeds.items r.counts r.same c.args.at c.args.bytes.now c.requires.inside)
