use Rattle.std.proofs.Common.{◌≡◌, drop}
use Rattle.wf_eval.specs.Sight.{seen}
use Rattle.wf_frames.proofs.Coded.{all_of, behind}
use Rattle.wf_frames.proofs.codes.values.Given as goal

-- the values so far, and what is left
abbrev pub invariant-loop-code : goal.invariant-loop-code
invariant-loop-code g l =
    all_of (seen (g.K.Look.sight l.look) l.now) l.codes l.codes ≡ behind (seen (g.K.Look.sight l.look) l.now) l.codes l.values.items (all_of (seen (g.K.Look.sight l.look) l.now) l.codes (drop l.code-index l.codes))
