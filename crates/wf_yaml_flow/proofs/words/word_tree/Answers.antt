use Rattle.std.proofs.Common.{◌≡◌, ℕ, List, Bool, true, false, IfOk, ap, subst}
use Rattle.wf_tree.specs.Plain.{plain_tree}
use Rattle.wf_yaml_flow.specs.Flow.{scalar_tree}
use Rattle.wf_yaml_line.specs.Scalars as scalars
use Rattle.wf_yaml_line.specs.Views.{so_far}
use Rattle.wf_yaml_flow.proofs.words.word_tree.Goals as goal

scalar_plain : (delay : Bool) (n : ℕ) (s t : List ℕ) (q g : Bool) → t ≡ s → q ≡ false → scalars.plain_tree delay n t ≡ scalar_tree delay n s q g
scalar_plain delay n s t true g e h = absurd (cc)
scalar_plain delay n s t false g e h = ap (scalars.plain_tree delay n) e

pub returns-then-not-word : goal.returns-then-not-word
returns-then-not-word c =
    let w = c.args.word.now in
    subst (λ t. IfOk c.plain_or_fault.result (λ r. so_far (plain_tree r.tree) r.fault ≡ t))
    (scalar_plain c.args.delay c.args.line w.chars.items c.as_slice.result.now w.quoted w.good c.as_slice.ensures.value c.if-not-word.true)
    (c.plain_or_fault.ensures (scalars.plain_tree c.args.delay c.args.line c.as_slice.result.now) c.plain_scalar.ensures)
