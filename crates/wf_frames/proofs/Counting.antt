-- What a parallel step goes over, and how many numbers a range has.
use Rattle.std.proofs.Common.{◌≡◌, ℕ, true, false, List, [], ◌∷◌, length, Ok, Err, refl, sym, ap, subst, ◌∙◌}
use Rattle.std.specs.Prelude.{ℤ, suc, Option, if◌then◌else◌, int_le}
use Rattle.wf_ast.specs.Apply.{View}
use Rattle.wf_ast.specs.Tree.{OfBranches, OfLoop, Over, ParallelBody, Steps, loop, parallel}
use Rattle.wf_ast.specs.View.{texts_view}
use Rattle.wf_branches.specs.Steps.{branches_count}
use Rattle.wf_eval.specs.Answers.{Answers}
use Rattle.wf_frames.proofs.Parts.{as_part}
use Rattle.wf_frames.specs.Fits.{IsParallel}
use Rattle.std.specs.Global.{Global}
use Rattle.std.specs.Prelude.{Vec}
use Rattle.wf_frames.specs.declared.forking.Work.{Work}
use Rattle.wf_frames.specs.Forks.{body_parallel, branches_of, is_loop_work, is_work_at, is_work_in, is_work_of, parallel_at, same_work, work_view}
use Rattle.wf_frames.specs.Frames.{left_view}
use Rattle.wf_frames.specs.declared.forking.Forked.{Forked}
use Rattle.wf_frames.specs.declared.forking.Work.TheVariants as works
use Rattle.wf_frames.specs.declared.frames.Left as declared
use Rattle.wf_model.specs.Config.{Left, ValuesLeft, counted_left, int_min}
use Rattle.wf_model.specs.Move.{over, work}
use Rattle.wf_model.specs.NodeKinds.{side_by}
use Rattle.wf_model.specs.Spots.{Spot, branches_by, part_body}
use Rattle.wf_model.specs.Table.{Resolves, work_of}
use Rattle.wf_model.specs.declared.node.LoopNode.{LoopNode}
use Rattle.wf_model.specs.declared.node.Node.{Node}
use Rattle.wf_model.specs.declared.node.NodeKind.TheVariants as kind
use Rattle.wf_model.specs.declared.node.ParallelNode.{ParallelNode}
use Rattle.wf_model.specs.declared.node.WorkNode.{WorkNode}
use Rattle.wf_model.specs.declared.node.WorkNode.TheVariants as variant
use Rattle.wf_value.specs.Errors.{Answer, ◌>>=◌}
use Rattle.wf_value.specs.declared.Raise.{Raise}
use Rattle.wf_value.specs.declared.Raise.TheVariants.{Error, OutOfMemory}

pub cut_here : (a b : ℤ) → int_le a b ≡ true → a ≡ int_min a b
cut_here a b h = sym (ap (λ t. if t then a else b) h)

pub cut_off : (a b : ℤ) → int_le a b ≡ false → b ≡ int_min a b
cut_off a b h = sym (ap (λ t. if t then a else b) h)

-- ## The parallel step of a node
pub parallel_is : (ns : List Spot) (nodes : List Node) (n : ℕ) (p : ParallelNode) (w : WorkNode) → Resolves ns nodes → (h : IsParallel nodes n p) → p.work ≡ w
    → parallel_at ns n ≡ parallel (texts_view p.shared) p.limit (work_of ns (side_by h.node.codes.items.items w))
parallel_is ns nodes n p w r h is =
    ap (λ q. body_parallel (part_body q)) (as_part ns nodes n h.node (kind.Parallel p) r h.at h.is)
    ∙ ap (λ (x : WorkNode). parallel (texts_view p.shared) p.limit (work_of ns (side_by h.node.codes.items.items x))) is

-- ## Branches
count_by : (ns : List Spot) (xs : List ℕ) → branches_count (branches_by ns xs) ≡ length xs
count_by ns [] = refl
count_by ns (x ∷ xs) = ap (λ (n : ℕ). suc n) (count_by ns xs)

module _ (ns : List Spot) (p : ParallelBody) (names : List (List ℕ)) (limit : Option ℕ) (xs : List ℕ) (is : p ≡ parallel names limit (OfBranches (branches_by ns xs))) where
  pub branches_work : (v : View) (t : ℕ) → Answers (λ (f : Forked). work_view p 0 f.work) (Ok (record { work = works.Branches; total = t })) (work v p)
  branches_work v t = subst (λ q. Answers (λ (f : Forked). work_view q 0 f.work) (Ok (record { work = works.Branches; total = t })) (work v q)) (sym is) refl

  pub branches_total : branches_count (branches_of p) ≡ length xs
  branches_total = ap (λ q. branches_count (branches_of q)) is ∙ count_by ns xs

-- ## Loops
module _ (p : ParallelBody) (names : List (List ℕ)) (limit : Option ℕ) (x : List ℕ) (i : Option (List ℕ)) (o : Over) (ss : Steps) (is : p ≡ parallel names limit (OfLoop (loop x i o ss))) (v : View) where
  fails_by : (r : Raise) (q : Answer Left) → Answers left_view (Err r) q → Answers (λ (f : Forked). work_view p 0 f.work) (Err r) (q >>= λ left. Ok (ValuesLeft (counted_left left)))
  fails_by OutOfMemory q h = tt
  fails_by (Error t) (Ok d) h = absurd h
  fails_by (Error t) (Err u) h = h

  pub loop_fails : (r : Raise) → Answers left_view (Err r) (over v o) → Answers (λ (f : Forked). work_view p 0 f.work) (Err r) (work v p)
  loop_fails r h = subst (λ q. Answers (λ (f : Forked). work_view p 0 f.work) (Err r) (work v q)) (sym is) (fails_by r (over v o) h)

  counts_by : (l : declared.Left) (f : Forked) (q : Answer Left) → work_view p 0 f.work ≡ ValuesLeft (counted_left (left_view l)) → Answers left_view (Ok l) q → Answers (λ (g : Forked). work_view p 0 g.work) (Ok f) (q >>= λ left. Ok (ValuesLeft (counted_left left)))
  counts_by l f (Ok d) e h = e ∙ ap (λ z. ValuesLeft (counted_left z)) h
  counts_by l f (Err t) e h = absurd h

  pub loop_counts : (l : declared.Left) (f : Forked) → work_view p 0 f.work ≡ ValuesLeft (counted_left (left_view l)) → Answers left_view (Ok l) (over v o) → Answers (λ (g : Forked). work_view p 0 g.work) (Ok f) (work v p)
  loop_counts l f e h = subst (λ q. Answers (λ (g : Forked). work_view p 0 g.work) (Ok f) (work v q)) (sym is) (counts_by l f (over v o) e h)

-- ## Which work it is
module _ (nodes : List Node) (n : ℕ) (p : ParallelNode) (h : IsParallel nodes n p) where
  work_in : (w : Work) → is_work_at nodes n w ≡ same_work p.work w
  work_in w = ap (λ (o : Option Node). is_work_in o w) h.at ∙ ap (λ k. is_work_of k w) h.is

  pub branches_at : (v : Vec ℕ Global) → p.work ≡ variant.Branches v → is_work_at nodes n works.Branches ≡ true
  branches_at v is = work_in works.Branches ∙ ap (λ (w : WorkNode). same_work w works.Branches) is

  pub loop_at : (l : LoopNode) → p.work ≡ variant.Loop l → (w : Work) → is_loop_work w ≡ true → is_work_at nodes n w ≡ true
  loop_at l is works.Branches t = absurd (cc t)
  loop_at l is (works.Values left) t = work_in (works.Values left) ∙ ap (λ (w : WorkNode). same_work w (works.Values left)) is
