-- The beginning of a parallel step.
use Rattle.std.proofs.Common.{◌≡◌, ℕ, Bool, true, false, List, [], ◌∷◌, Some, Ok, Err, refl, sym, ap, subst, ◌∙◌, arith}
use Rattle.std.specs.Global.{Global}
use Rattle.std.specs.Prelude.{Box, Option, ◌+◌, if◌then◌else◌, min, nat_le, not, unwrap_or}
use Rattle.wf_ast.specs.Apply.{View}
use Rattle.wf_ast.specs.Tree.{Body}
use Rattle.wf_branches.specs.Changes.{new_join}
use Rattle.wf_branches.specs.Steps.{count_of, join_of}
use Rattle.wf_frames.proofs.Choices.{none_is}
use Rattle.wf_frames.proofs.Parts.{as_part, parallel_built}
use Rattle.wf_frames.specs.Built.{IsTableOf}
use Rattle.wf_frames.specs.Fits.{IsParallel}
use Rattle.wf_frames.specs.Forks.{body_parallel, parallel_at, work_view}
use Rattle.wf_frames.specs.Held.{Held, standing}
use Rattle.wf_frames.specs.Owned.{Around}
use Rattle.wf_frames.specs.Steps.{forks_by}
use Rattle.wf_frames.specs.declared.forking.Work.{Work}
use Rattle.wf_model.specs.Config as model
use Rattle.wf_model.specs.Config.{Item, WorkLeft, limits, running_limit}
use Rattle.wf_model.specs.Layers.{view}
use Rattle.wf_model.specs.Leave.{on, raises}
use Rattle.wf_model.specs.Local.{Moved, Scene, goes}
use Rattle.wf_model.specs.Move.{forks, work}
use Rattle.wf_model.specs.Ready.{limit_of}
use Rattle.wf_model.specs.Spots.{part_at, part_body}
use Rattle.wf_model.specs.declared.node.Node.{Node}
use Rattle.wf_model.specs.declared.node.NodeKind.TheVariants as kind
use Rattle.wf_model.specs.declared.node.ParallelNode.{ParallelNode}
use Rattle.wf_moves.specs.Tasks.{IsForked}
use Rattle.wf_moves.specs.Waits.{join_item, waiting}
use Rattle.wf_moves.specs.declared.wait.Joining.{Joining}
use Rattle.wf_moves.specs.declared.wait.Wait.TheVariants as wait
use Rattle.wf_value.specs.Errors.{error_map}
use Rattle.wf_value.specs.declared.Tag.{Tag}
use Rattle.wf_value.specs.declared.Tag.TheVariants.{ParallelNestingError}

pub not_deeper : (f b : Bool) → f ≡ not b → f ≡ false → b ≡ true
not_deeper f true e h = refl
not_deeper f false e h = absurd (let t : true ≡ false = sym e ∙ h in cc t)

pub is_deeper : (f b : Bool) → f ≡ not b → f ≡ true → b ≡ false
is_deeper f false e h = refl
is_deeper f true e h = absurd (let t : false ≡ true = sym e ∙ h in cc t)

module _ (a : Around) (nodes : List Node) (n : ℕ) (p : ParallelNode) (tells : IsTableOf a.spots nodes) (at : IsParallel nodes n p) where
  pub fork_body : part_body (part_at a.spots n) ≡ Body.Parallel (parallel_at a.spots n)
  fork_body =
      let e = ap part_body (as_part a.spots nodes n at.node (kind.Parallel p) tells.resolves at.at at.is) in
      e ∙ ap Body.Parallel (sym (ap body_parallel e))

  pub fork_limit : limit_of (parallel_at a.spots n) ≡ 20
  fork_limit =
      let none = none_is p.limit (parallel_built nodes n at.node p tells.built at.at at.is).0 in
      ap (λ q. limit_of (body_parallel (part_body q))) (as_part a.spots nodes n at.node (kind.Parallel p) tells.resolves at.at at.is) ∙ ap (λ (o : Option ℕ). min running_limit (unwrap_or o running_limit)) none

  module _ (s : Scene) (k d : List Item) (h : Held) where
    forks_are : forks_by s (part_body (part_at a.spots n)) k (standing d h) ≡ forks s (parallel_at a.spots n) k (standing d h)
    forks_are = ap (λ b. forks_by s b k (standing d h)) fork_body

    abbrev Either : Bool → Moved
    Either b =
        if b then raises s k (standing d h) (error_map ParallelNestingError) else
        on s k (standing d h) (work (view s (standing d h)) (parallel_at a.spots n)) (λ w. goes (model.Join (parallel_at a.spots n) w 0 [] [] ∷ k) (standing d h))

    -- the task is as deep as the limit
    pub fork_refused : nat_le (limits s.facts.rules).nesting s.nesting ≡ true → forks_by s (part_body (part_at a.spots n)) k (standing d h) ≡ raises s k (standing d h) (error_map ParallelNestingError)
    fork_refused e = forks_are ∙ ap Either e

    module _ (e : nat_le (limits s.facts.rules).nesting s.nesting ≡ false) (v : View) (same : view s (standing [] h) ≡ v) where
      worked : forks_by s (part_body (part_at a.spots n)) k (standing d h) ≡ on s k (standing d h) (work v (parallel_at a.spots n)) (λ w. goes (model.Join (parallel_at a.spots n) w 0 [] [] ∷ k) (standing d h))
      worked =
          forks_are ∙ ap Either e
          ∙ ap (λ u. on s k (standing d h) (work u (parallel_at a.spots n)) (λ w. goes (model.Join (parallel_at a.spots n) w 0 [] [] ∷ k) (standing d h))) same

      -- what it goes over can't be told
      pub fork_fails : (t : Tag) → work v (parallel_at a.spots n) ≡ Err t → forks_by s (part_body (part_at a.spots n)) k (standing d h) ≡ raises s k (standing d h) (error_map t)
      fork_fails t is = worked ∙ ap (λ q. on s k (standing d h) q (λ w. goes (model.Join (parallel_at a.spots n) w 0 [] [] ∷ k) (standing d h))) is

      -- or it is entered
      pub fork_enters : (left : Work) (total : ℕ) (j : Box Joining Global) → work v (parallel_at a.spots n) ≡ Ok (work_view (parallel_at a.spots n) 0 left) → j.value ≡ record { node = n; left = left; next = 0 } → total ≡ count_of (work_view (parallel_at a.spots n) 0 left)
          → IsForked (forks_by s (part_body (part_at a.spots n)) k (standing d h)) (record { total = total; limit = 20 }) (waiting a (wait.Joining j) (standing k h))
      fork_enters left total j is holds counts =
          let it = worked ∙ ap (λ q. on s k (standing d h) q (λ w. goes (model.Join (parallel_at a.spots n) w 0 [] [] ∷ k) (standing d h))) is in
          let w = work_view (parallel_at a.spots n) 0 left in
          subst (λ m. IsForked m (record { total = total; limit = 20 }) (waiting a (wait.Joining j) (standing k h))) (sym it) (
            ap (λ (x : Joining). record (standing d h) { control = join_item a.spots x ∷ k }) (sym holds),
            ap (λ (x : Joining). join_of (join_item a.spots x ∷ k)) holds
                ∙ ap (λ (t : ℕ). Some (record { total = 0 + count_of w; limit = t; next = 0; running = []; errors = [] })) fork_limit ∙ ap (λ (t : ℕ). Some (new_join t 20)) (let same : 0 + count_of w ≡ count_of w = omega arith in same ∙ sym counts),
          )
