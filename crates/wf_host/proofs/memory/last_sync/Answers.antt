use Rattle.std.proofs.Common.{◌≡◌, ◌<◌, ◌+◌, ◌++◌, [], ◌∷◌, List, ℕ, length, take, get_or, sym, ◌∙◌, ap, arith}
use Rattle.std.proofs.lemmas.List.{take_more}
use Rattle.wf_host.specs.declared.memory.Done.{Done}
use Rattle.wf_host.specs.declared.memory.Done.TheVariants.{Synced}
use Rattle.wf_host.specs.Memory.{content, stable}
use Rattle.wf_host.proofs.Replay.{content_synced, stable_wrote, stable_did, stable_synced}
use Rattle.wf_host.proofs.memory.last_sync.Goals.{in-Synced, in-Wrote, in-Did}
use Rattle.wf_host.proofs.memory.last_sync.Goals as goal

-- one call more
more : (past : List Done) (i : ℕ) (x y : Done) → i < length past → x ≡ get_or past i x → x ≡ y → take (i + 1) past ≡ take i past ++ y ∷ []
more past i x y lt is same = take_more past i x lt ∙ ap (λ z. take i past ++ z ∷ []) (sym is ∙ same)

pub loop-i-preserved : goal.loop-i-preserved
loop-i-preserved c =
    let past : List Done = c.args.past.now in
    let i = c.loop-i.i in
    let before = c.loop-i.invariant.stable_so_far in
    elim c.match-past-i.branch [
      | in-Synced w ↦
          let here : take (i + 1) past ≡ take i past ++ Synced ∷ [] = more past i _ _ c.loop-i-test.true c.index-past-i.is w.in-Synced.is in
          record {
            within = omega (arith, w.last-is);
            stable_so_far = λ first. ap (λ p. stable first first p) here ∙ stable_synced first first (take i past) ∙ sym (ap (λ n. content first (take n past)) w.last-is ∙ ap (λ p. content first p) here ∙ content_synced first (take i past));
          }
      | in-Wrote w ↦
          let here = more past i _ _ c.loop-i-test.true c.index-past-i.is w.in-Wrote.is in
          record {
            within = omega (arith, w.last-is);
            stable_so_far = λ first. ap (λ p. stable first first p) here ∙ stable_wrote first first (take i past) _ _ ∙ before first ∙ ap (λ n. content first (take n past)) (sym w.last-is);
          }
      | in-Did w ↦
          let here = more past i _ _ c.loop-i-test.true c.index-past-i.is w.in-Did.is in
          record {
            within = omega (arith, w.last-is);
            stable_so_far = λ first. ap (λ p. stable first first p) here ∙ stable_did first first (take i past) ∙ before first ∙ ap (λ n. content first (take n past)) (sym w.last-is);
          }
    ]
