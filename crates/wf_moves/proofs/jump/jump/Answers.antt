use Rattle.std.proofs.Common.{[], Option, ap, sym, subst, ◌∙◌, bytes_eq, codes}
use Rattle.std.specs.Prelude.{unwrap_or}
use Rattle.wf_lemmas.proofs.Results.{with_ok}
use Rattle.wf_frames.specs.Frames.{inner}
use Rattle.wf_frames.specs.Owned.{beside, control_of, local_of}
use Rattle.wf_model.specs.Leave.{jumps}
use Rattle.wf_model.specs.Local.{Moved}
use Rattle.wf_moves.proofs.Jumps.{jumps_break, jumps_continue, jumps_end, jumps_step, node_leads}
use Rattle.wf_frames.proofs.Parts.{node_at}
use Rattle.wf_moves.specs.Moved.{IsMove}
use Rattle.wf_value.specs.Pairs.{Text}
use Rattle.wf_moves.proofs.jump.jump.Goals as goal

pub go_to-requires : goal.go_to-requires
go_to-requires g c =
    let x = c.index-nodes-n.result in
    let need = c.requires.1.1 in
    let there = node_at c.args.nodes.now c.args.n x need.within c.index-nodes-n.is in
    (c.requires.0, (c.requires.1.0, (c.in-Some.next, node_leads g.around.spots c.args.nodes.now c.args.n x c.in-Some.next (inner c.args.frames.now) c.requires.0.resolves there c.in-Some.is need.inside)))

pub returns-then-eq-clause-moved : goal.returns-then-eq-clause-moved
returns-then-eq-clause-moved g c =
    let x = c.index-nodes-n.result in
    let need = c.requires.1.1 in
    let there = node_at c.args.nodes.now c.args.n x need.within c.index-nodes-n.is in
    let next = ap (λ (o : Option Text). unwrap_or o []) (c.requires.0.nexts c.args.n x there ∙ c.in-Some.is) in
    let same = c.as_str-next.ensures in
    let k = control_of g.around c.args.frames.now in
    with_ok _ _ c.returns.result
    (λ w h s d agrees. subst (λ (m : Moved). IsMove s m w (local_of g.around c.returns.new.frames c.returns.new.scopes))
    (sym (ap (λ (t : Text). jumps s t k (beside d g.around c.args.frames.now c.args.scopes.now)) next ∙ jumps_end s c.in-Some.next k (beside d g.around c.args.frames.now c.args.scopes.now) (ap (λ (t : Text). bytes_eq t (codes "end")) (sym same) ∙ sym c.eq.ensures ∙ c.if-eq.true)))
    (h s d agrees))
    c.returns.ensures.moved

pub returns-then-eq-2-clause-moved : goal.returns-then-eq-2-clause-moved
returns-then-eq-2-clause-moved g c s d agrees =
    let x = c.index-nodes-n.result in
    let need = c.requires.1.1 in
    let there = node_at c.args.nodes.now c.args.n x need.within c.index-nodes-n.is in
    let next = ap (λ (o : Option Text). unwrap_or o []) (c.requires.0.nexts c.args.n x there ∙ c.in-Some.is) in
    let same = c.as_str-next.ensures in
    let k = control_of g.around c.args.frames.now in
    let l = beside d g.around c.args.frames.now c.args.scopes.now in
    subst (λ (m : Moved). IsMove s m c.go_on_loop.result (local_of g.around c.go_on_loop.new.frames c.go_on_loop.new.scopes))
    (sym (ap (λ (t : Text). jumps s t k l) next ∙ jumps_continue s c.in-Some.next k l (ap (λ (t : Text). bytes_eq t (codes "end")) (sym same) ∙ sym c.eq.ensures ∙ c.if-eq.false) (ap (λ (t : Text). bytes_eq t (codes "continue")) (sym same) ∙ sym c.eq-else-eq.ensures ∙ c.if-eq-2.true))) (c.go_on_loop.ensures.moved s d)

pub returns-then-eq-3-clause-moved : goal.returns-then-eq-3-clause-moved
returns-then-eq-3-clause-moved g c s d agrees =
    let x = c.index-nodes-n.result in
    let need = c.requires.1.1 in
    let there = node_at c.args.nodes.now c.args.n x need.within c.index-nodes-n.is in
    let next = ap (λ (o : Option Text). unwrap_or o []) (c.requires.0.nexts c.args.n x there ∙ c.in-Some.is) in
    let same = c.as_str-next.ensures in
    let k = control_of g.around c.args.frames.now in
    let l = beside d g.around c.args.frames.now c.args.scopes.now in
    subst (λ (m : Moved). IsMove s m c.end_loop.result (local_of g.around c.end_loop.new.frames c.end_loop.new.scopes))
    (sym (ap (λ (t : Text). jumps s t k l) next ∙ jumps_break s c.in-Some.next k l (ap (λ (t : Text). bytes_eq t (codes "end")) (sym same) ∙ sym c.eq.ensures ∙ c.if-eq.false) (ap (λ (t : Text). bytes_eq t (codes "continue")) (sym same) ∙ sym c.eq-else-eq.ensures ∙ c.if-eq-2.false) (ap (λ (t : Text). bytes_eq t (codes "break")) (sym same) ∙ sym c.eq-else-eq-2.ensures ∙ c.if-eq-3.true))) (c.end_loop.ensures.moved s d)

pub returns-else-eq-3-clause-moved : goal.returns-else-eq-3-clause-moved
returns-else-eq-3-clause-moved g c =
    let x = c.index-nodes-n.result in
    let need = c.requires.1.1 in
    let there = node_at c.args.nodes.now c.args.n x need.within c.index-nodes-n.is in
    let leads = node_leads g.around.spots c.args.nodes.now c.args.n x c.in-Some.next (inner c.args.frames.now) c.requires.0.resolves there c.in-Some.is need.inside in
    let next = ap (λ (o : Option Text). unwrap_or o []) (c.requires.0.nexts c.args.n x there ∙ c.in-Some.is) in
    let same = c.as_str-next.ensures in
    let k = control_of g.around c.args.frames.now in
    with_ok _ _ c.go_to.result
    (λ w m s d agrees. subst (λ (y : Moved). IsMove s y w (local_of g.around c.go_to.new.frames c.go_to.new.scopes))
    (sym (ap (λ (t : Text). jumps s t k (beside d g.around c.args.frames.now c.args.scopes.now)) next ∙ jumps_step s c.in-Some.next k (beside d g.around c.args.frames.now c.args.scopes.now) (ap (λ (t : Text). bytes_eq t (codes "end")) (sym same) ∙ sym c.eq.ensures ∙ c.if-eq.false) (ap (λ (t : Text). bytes_eq t (codes "continue")) (sym same) ∙ sym c.eq-else-eq.ensures ∙ c.if-eq-2.false) (ap (λ (t : Text). bytes_eq t (codes "break")) (sym same) ∙ sym c.eq-else-eq-2.ensures ∙ c.if-eq-3.false)))
    (m c.in-Some.next leads s d))
    c.go_to.ensures.moved
