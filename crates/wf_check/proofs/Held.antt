-- What forms hold, of their parts as the code holds them.
use Rattle.std.proofs.Common.{◌≡◌, ℕ, suc, ◌<◌, [], ◌∷◌, ◌++◌, List, codes, length, take, get_or, map, reverse, sym, ap, ◌∙◌}
use Rattle.std.proofs.Math.Seq.{take-suc}
use Rattle.std.proofs.lemmas.List.{map-append, reverse-append}
use Rattle.wf_ast.proofs.Views.{branch_level, except_level, loop_level, steps_level, try_level}
use Rattle.wf_ast.specs.Nodes.{Around, BodyPart, Path, below, body_nodes, except_nodes, in_block, in_layer, in_loop, in_task, loop_binds, loop_nodes, node, parallel_loop_nodes, steps_nodes, try_nodes, InParallelLoop}
use Rattle.wf_ast.specs.View.{body_view, branch_view, except_option_view, except_view, loop_view, steps_in, try_view}
use Rattle.wf_ast.specs.declared.body.Body.{Body}
use Rattle.wf_ast.specs.declared.body.Body.TheViews.{out-Branch, out-Except, out-LoopBody, out-TryBody}
use Rattle.wf_ast.specs.declared.body.Branch.{Branch}
use Rattle.wf_ast.specs.declared.body.Except.{Except}
use Rattle.wf_ast.specs.declared.body.LoopBody.{LoopBody}
use Rattle.wf_ast.specs.declared.body.TryBody.{TryBody}
use Rattle.wf_symbols.specs.Around.{binds_of}
use Rattle.wf_diagnostics.specs.Parts.{names_before}
use Rattle.wf_value.specs.Pairs.{Text}

pub looped : (l : LoopBody) (b : Around) (path : Path) → steps_nodes (steps_in (out-LoopBody l).steps) (in_loop (binds_of (loop_view l)) (steps_in (out-LoopBody l).steps) b) (below path (codes "steps")) 0 ≡ loop_nodes (loop_view l) b path
looped l b path =
    let r = out-LoopBody l in
    ap (λ bs. steps_nodes (steps_in r.steps) (in_loop bs (steps_in r.steps) b) (below path (codes "steps")) 0) (ap binds_of (loop_level l))
    ∙ ap (λ ss. steps_nodes ss (in_loop (loop_binds r.value r.index) ss b) (below path (codes "steps")) 0) (steps_level r.steps)
    ∙ sym (ap (λ v. loop_nodes v b path) (loop_level l))

pub parallel_looped : (l : LoopBody) (shared : List Text) (b : Around) (path : Path)
    → steps_nodes (steps_in (out-LoopBody l).steps) (in_task shared (binds_of (loop_view l)) InParallelLoop (steps_in (out-LoopBody l).steps) b) (below path (codes "steps")) 0 ≡ parallel_loop_nodes (loop_view l) shared b path
parallel_looped l shared b path =
    let r = out-LoopBody l in
    ap (λ bs. steps_nodes (steps_in r.steps) (in_task shared bs InParallelLoop (steps_in r.steps) b) (below path (codes "steps")) 0) (ap binds_of (loop_level l))
    ∙ ap (λ ss. steps_nodes ss (in_task shared (loop_binds r.value r.index) InParallelLoop ss b) (below path (codes "steps")) 0) (steps_level r.steps)
    ∙ sym (ap (λ v. parallel_loop_nodes v shared b path) (loop_level l))

pub branched : (x : Branch) → steps_in (out-Branch x).steps ≡ (branch_view x).1
branched x = steps_level (out-Branch x).steps ∙ sym (ap (λ p. p.1) (branch_level x))

pub excepted : (x : Except) (b : Around) (path : Path)
    → steps_nodes (steps_in (out-Except x).steps) (in_block (steps_in (out-Except x).steps) (in_layer ((out-Except x).name ∷ []) (steps_in (out-Except x).steps) b)) (below path (codes "steps")) 0 ≡ except_nodes (except_view x) b path
excepted x b path =
    let r = out-Except x in
    ap (λ ss. steps_nodes ss (in_block ss (in_layer (r.name ∷ []) ss b)) (below path (codes "steps")) 0) (steps_level r.steps)
    ∙ sym (ap (λ v. except_nodes v b path) (except_level x))

pub tried : (x : TryBody) (p q : Body) (b : Around) (path : Path) → p ≡ (out-TryBody x).body.value → q ≡ (out-TryBody x).body.value
    → (node (BodyPart (body_view p)) b (below path (codes "try")) ∷ body_nodes (body_view q) b (below path (codes "try"))) ++ except_nodes (except_option_view (out-TryBody x).except) b (below path (codes "except")) ≡ try_nodes (try_view x) b path
tried x p q b path e f =
    (λ i. (node (BodyPart (body_view (e i))) b (below path (codes "try")) ∷ body_nodes (body_view (f i)) b (below path (codes "try"))) ++ except_nodes (except_option_view (out-TryBody x).except) b (below path (codes "except")))
    ∙ sym (ap (λ v. try_nodes v b path) (try_level x))

pub before_more : (xs : List Branch) (i : ℕ) (x : Branch) → i < length xs → x ≡ get_or xs i x → (branch_view x).0 ∷ names_before (take i xs) ≡ names_before (take (suc i) xs)
before_more xs i x lt is =
    sym (reverse-append (map (λ y. (branch_view y).0) (take i xs)) ((branch_view x).0 ∷ []))
    ∙ ap reverse (sym (map-append (λ y. (branch_view y).0) (take i xs) (x ∷ [])))
    ∙ ap names_before (ap (λ y. take i xs ++ y ∷ []) is ∙ sym (take-suc xs i x lt))
