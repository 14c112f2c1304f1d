use Rattle.std.proofs.lemmas.List.Sorted.{answers_always}
use Rattle.wf_scope.proofs.Numbers.{missed, searched}
use Rattle.std.proofs.Common.{ap, rules}
use Rattle.wf_scope.specs.Store.{layers_of}
use Rattle.wf_scope.specs.Views.{views}
use Rattle.wf_scope.proofs.Viewed.{view_bound, view_search}
use Rattle.wf_scope.proofs.scopes.Scopes.search.Goals as goal

pub unreachable-requires : goal.unreachable-requires
unreachable-requires c =
    let at = c.binary_search_by_key.ensures.position (λ layer. layer.number) (answers_always _ _ _ (λ f a r g called. search rules)) in
    missed c.args.number (layers_of c.args.self.now) (views c.live.result.now) c.in-Err.field-0 c.binary_search_by_key.result (ap views c.live.ensures) c.in-Err.is c.args.self.now.rising c.requires (view_search c.args.number c.live.result.now c.binary_search_by_key.result c.binary_search_by_key.ensures.bound at)

pub returns-clause-found : goal.returns-clause-found
returns-clause-found c =
    let at = c.binary_search_by_key.ensures.position (λ layer. layer.number) (answers_always _ _ _ (λ f a r g called. search rules)) in
    searched c.args.number (layers_of c.args.self.now) (views c.live.result.now) c.in-Ok.place c.binary_search_by_key.result (ap views c.live.ensures) c.in-Ok.is c.args.self.now.rising (view_bound c.live.result.now c.binary_search_by_key.result c.binary_search_by_key.ensures.bound) (view_search c.args.number c.live.result.now c.binary_search_by_key.result c.binary_search_by_key.ensures.bound at)
