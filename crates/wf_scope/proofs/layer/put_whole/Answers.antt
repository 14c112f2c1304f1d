use Rattle.std.proofs.Common.{FitsSigned, ◌≡◌, ◌<◌, Some, ℤ, length, option_map, rules, sym, true, ap, ◌∙◌, w64}
use Rattle.std.proofs.lemmas.Int.{to_z-of_z}
use Rattle.std.specs.Prelude.{slice_set}
use Rattle.wf_value.proofs.Seeks.{found_writes}
use Rattle.wf_value.specs.Plain.{plain}
use Rattle.wf_value.specs.declared.Value.TheVariants.{Int}
use Rattle.wf_scope.specs.Names.{is_whole}
use Rattle.wf_scope.proofs.Named.{found_bound}
use Rattle.wf_scope.proofs.Spotted.{tried_there}
use Rattle.wf_scope.proofs.layer.put_whole.Goals as goal

pub returns-then-is-clause-after : goal.returns-then-is-clause-after
returns-then-is-clause-after c =
    let es = c.args.names.now.items in
    let x = c.args.name.now in
    let i = c.args.i in
    let e = c.index-then-is_whole.result.now in
    let within : i < length es = search rules in
    let same : e.0 ≡ x = search rules in
    let there = tried_there x es i e c.requires within c.index-then-is_whole.ensures same in
    let fits : FitsSigned w64 c.args.n = search rules in
    ap (λ (n : ℤ). slice_set es i (c.index_mut.result.now.0, Some (Int n))) (to_z-of_z w64 c.args.n fits)
    ∙ found_writes es x i c.index_mut.result.now (Some (Int c.args.n)) c.index_mut.ensures.value there

pub returns-then-is-clause-whole : goal.returns-then-is-clause-whole
returns-then-is-clause-whole c =
    let es = c.args.names.now.items in
    let x = c.args.name.now in
    let e = c.index-then-is_whole.result.now in
    let within : c.args.i < length es = search rules in
    let same : e.0 ≡ x = search rules in
    let there = tried_there x es c.args.i e c.requires within c.index-then-is_whole.ensures same in
    let whole : is_whole (option_map plain c.index.result.now.1) ≡ true = search rules in
    λ _. ap is_whole (sym (found_bound x es c.requires c.args.i c.index.result.now c.index.ensures there)) ∙ whole
