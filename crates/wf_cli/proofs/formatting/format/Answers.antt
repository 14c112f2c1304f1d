use Rattle.std.proofs.Common.{◌≡◌, Result, Ok, sym, ◌∙◌, subst, ap}
use Rattle.wf_cli.proofs.Fits.{read_fits}
use Rattle.wf_cli.specs.Said.{SaysTree}
use Rattle.wf_source.specs.Sources.{read_tree}
use Rattle.wf_status.specs.declared.Refusal.{Refusal}
use Rattle.wf_tree.specs.Plain.{plain_tree}
use Rattle.wf_tree.specs.Trees.{Tree}
use Rattle.wf_yaml.specs.Reading.{reading}
use Rattle.wf_cli.proofs.formatting.format.Goals as goal

pub returns-in-Ok-clause-says : goal.returns-in-Ok-clause-says
returns-in-Ok-clause-says g c =
    let t = plain_tree c.in-Ok.tree in
    let k = c.in_ok-text-in-Ok.ensures in
    let read : read_tree c.in_ok-bytes.bytes.items ≡ Ok t = sym (ap read_tree c.as_slice.ensures.value) ∙ c.in-Ok.ensures.tree in
    let back = k.read_back (read_fits c.read_trees_fit.ensures.yaml c.read_trees_fit.ensures.json c.reading_is_a_function.ensures c.in_ok-bytes.bytes.items t read) in (
      c.in_ok-bytes.bytes.items,
      c.in_ok-bytes.ensures.bytes,
      subst (λ (r : Result Tree Refusal). SaysTree r c.in_ok-report-in-Ok.field-0) (sym read)
          (c.in_ok-report-in-Ok.ensures.0, c.in_ok-report-in-Ok.ensures.1 ∙ c.as_str.ensures ∙ k.text, subst (λ s. reading s ≡ Ok t) k.text back),
    )
