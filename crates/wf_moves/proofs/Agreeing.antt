-- Branches begin and end as steps do.
use Rattle.std.proofs.Common.{◌≡◌, ℕ, List, [], ◌∷◌, Some, None, refl}
use Rattle.std.specs.Prelude.{Option}
use Rattle.wf_ast.specs.Tree.{Branches, no_branches, branch, LoopBody, OfBranches, OfLoop, parallel}
use Rattle.wf_model.specs.Config.{BranchesLeft, Config, Item, Left, Task, ValuesLeft, next_of}
use Rattle.wf_model.specs.Step.{starts_turn, starts_work}
use Rattle.wf_moves.specs.Branches.{BeginsAsStepsDo, JoinsAsStepsDo, begins_with, first_turn}
use Rattle.wf_value.specs.Data.{Data}
use Rattle.wf_value.specs.Pairs.{Text}

module _ (a : ℕ) (t : Task) (names : List Text) (limit : Option ℕ) (n : ℕ) (running : List ℕ) (es : List (ℕ × Data)) (k : List Item) (c : Config) where
  turn : (l : LoopBody) (o : Option (Data × Left)) → starts_turn a t (parallel names limit (OfLoop l)) l o n running es k c ≡ begins_with a t (parallel names limit (OfLoop l)) n running es k c (first_turn (parallel names limit (OfLoop l)) n o)
  turn l None = refl
  turn l (Some v) = refl

  nothing : (bs : Branches) (left : Left) (o : Option (Data × Left)) → starts_work a t (parallel names limit (OfBranches bs)) (ValuesLeft left) n running es k c ≡ begins_with a t (parallel names limit (OfBranches bs)) n running es k c (first_turn (parallel names limit (OfBranches bs)) n o)
  nothing bs left None = refl
  nothing bs left (Some v) = refl

pub begins_so : BeginsAsStepsDo
begins_so a t (parallel names limit (OfBranches bs)) (BranchesLeft no_branches) n running es k c = refl
begins_so a t (parallel names limit (OfLoop l)) (BranchesLeft no_branches) n running es k c = refl
begins_so a t (parallel names limit (OfBranches bs)) (BranchesLeft (branch x ss cs)) n running es k c = refl
begins_so a t (parallel names limit (OfLoop l)) (BranchesLeft (branch x ss cs)) n running es k c = refl
begins_so a t (parallel names limit (OfBranches bs)) (ValuesLeft left) n running es k c = nothing a t names limit n running es k c bs left (next_of left)
begins_so a t (parallel names limit (OfLoop l)) (ValuesLeft left) n running es k c = turn a t names limit n running es k c l (next_of left)

pub joins_so : JoinsAsStepsDo
joins_so s body [] k l = refl
joins_so s body (e ∷ es) k l = refl
