-- The table of the live tasks is that of the configuration.
use Rattle.std.proofs.Common.{◌≡◌, Bool, [], ◌∷◌, map, Option, refl, sym, ap, ◌∙◌}
use Rattle.wf_ast.specs.Tree.{Program}
use Rattle.wf_branches.specs.Steps.{status_of}
use Rattle.wf_branches.specs.Table.{Join, Status}
use Rattle.wf_moves.specs.declared.task.Task.{Task}
use Rattle.wf_scope.specs.declared.scopes.Scopes.{Scopes}
use Rattle.wf_scope.specs.Store.{layers_of}
use Rattle.wf_several.specs.Several.{EachStands, IsAlike, TableIsSeen, holders_of, plain_around, task_view, tasks_view}
use Rattle.wf_stores.proofs.Alone.{task_stands}
use Rattle.wf_stores.proofs.Sizes.{task_sums}
use Rattle.wf_stores.specs.Holders.{keys_of}

status_seen : (p : Program) (s : Status) (t : Task) (x : Scopes) → IsAlike p s t → status_of (task_view p (plain_around p) s t x) ≡ s
status_seen p s t x h =
    ap {B = Status} (λ (w : Bool). record { parent = s.parent; waits = w; join = (status_of (task_view p (plain_around p) s t x)).join }) (sym h.waits)
    ∙ ap {B = Status} (λ (j : Option Join). record { parent = s.parent; waits = s.waits; join = j }) h.join

pub table_is_seen : TableIsSeen
table_is_seen p [] [] x h = refl
table_is_seen p [] (t ∷ ts) x h = absurd h
table_is_seen p (e ∷ es) [] x h = absurd h
table_is_seen p (e ∷ es) (t ∷ ts) x h =
    ap (λ (s : Status). (e.0, s) ∷ map (λ t. (t.0, status_of t.1)) (tasks_view p es ts x)) (status_seen p e.1 t x h.0)
    ∙ ap (λ us. (e.0, e.1) ∷ us) (table_is_seen p es ts x h.1)

pub each_stands : EachStands
each_stands p rules es ts x b h all is childless =
    let linked = task_stands (holders_of p es ts) (layers_of x) b h all.stand is childless in
    record {
      layers = linked;
      limit = all.limit;
      order = all.order;
      unseen = refl;
      sum = task_sums (keys_of (holders_of p es ts) h) h.own (layers_of x) all.stand.rising linked;
    }
