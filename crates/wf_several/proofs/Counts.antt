-- How many branches are left behind the next one, and of which kind.
--     first_counts     one less
--     left_stays       what is left is still the work of its node
use Rattle.std.proofs.Common.{◌≡◌, ℕ, zero, suc, ◌+◌, ◌-◌, ◌<◌, Bool, cond, true, false, ℤ, pos, negsuc, ◌+ℤ◌, int_lt, List, [], ◌∷◌, Option, Some, None, refl, sym, ap, ◌∙◌, arith}
use Rattle.std.specs.Prelude.{if◌then◌else◌}
use Rattle.std.proofs.lemmas.Bool.{lt-ltb, ltb-false, ltb-true}
use Rattle.wf_ast.specs.Tree.{OfBranches, OfLoop, ParallelBody, branch, no_branches, parallel}
use Rattle.wf_branches.specs.Steps.{above, count_of, values_count}
use Rattle.wf_frames.specs.Fits.{IsParallel}
use Rattle.wf_frames.specs.Forks.{is_loop_work, is_work_at, is_work_in, is_work_of, same_work, work_view}
use Rattle.wf_frames.specs.declared.forking.Work.{Work}
use Rattle.wf_frames.specs.declared.forking.Work.TheVariants as work
use Rattle.wf_model.specs.Config.{BranchesLeft, Left, OfList, OfRange, ValuesLeft, WorkLeft, next_of}
use Rattle.wf_model.specs.declared.node.Node.{Node}
use Rattle.wf_model.specs.declared.node.NodeKind.{NodeKind}
use Rattle.wf_model.specs.declared.node.ParallelNode.{ParallelNode}
use Rattle.wf_model.specs.declared.node.WorkNode.{WorkNode}
use Rattle.wf_model.specs.declared.node.WorkNode.TheVariants as node_work
use Rattle.wf_moves.proofs.Openings.{work_there}
use Rattle.wf_moves.specs.Branches.{First, first_of, first_turn}
use Rattle.wf_value.specs.Data.{Data, integer}

-- ## Ranges
one_up : (a : ℕ) → negsuc (suc a) +ℤ pos 1 ≡ negsuc a
one_up a =
    ap (λ (b : Bool). cond b (negsuc (suc (suc a) - 2)) (pos (1 - suc (suc a)))) (lt-ltb 1 (suc (suc a)) (omega arith))
    ∙ ap negsuc (two_less a)
  where
    two_less : (a : ℕ) → suc (suc a) - 2 ≡ a
    two_less a = omega arith

above_next : (a b : ℤ) → int_lt a b ≡ true → above a b ≡ suc (above (a +ℤ pos 1) b)
above_next (pos a) (pos b) h = let lt = ltb-true a b h in omega (arith, lt)
above_next (pos a) (negsuc b) h = absurd (cc h)
above_next (negsuc zero) (pos b) h = omega arith
above_next (negsuc (suc a)) (pos b) h = first a b ∙ ap (λ z. suc (above z (pos b))) (sym (one_up a))
  where
    first : (a b : ℕ) → b + suc (suc a) ≡ suc (b + suc a)
    first a b = omega arith
above_next (negsuc zero) (negsuc b) h = absurd (let lt = ltb-true b 0 h in omega (arith, lt))
above_next (negsuc (suc a)) (negsuc b) h = first a b (ltb-true b (suc a) h) ∙ ap (λ z. suc (above z (negsuc b))) (sym (one_up a))
  where
    first : (a b : ℕ) → b < suc a → suc a - b ≡ suc (a - b)
    first a b lt = omega (arith, lt)

none_above : (a b : ℤ) → int_lt a b ≡ false → above a b ≡ 0
none_above (pos a) (pos b) h = let le = ltb-false a b h in omega (arith, le)
none_above (pos a) (negsuc b) h = refl
none_above (negsuc a) (pos b) h = absurd (cc h)
none_above (negsuc a) (negsuc b) h = let le = ltb-false b a h in omega (arith, le)

-- ## What is left
next_counts : (l : Left) (v : Data × Left) → next_of l ≡ Some v → values_count l ≡ suc (values_count v.1)
next_counts (OfList []) v h = absurd (cc h)
next_counts (OfList (x ∷ xs)) v h = let e : (x, OfList xs) ≡ v = cc h in ap (λ (q : Data × Left). suc (values_count q.1)) e
next_counts (OfRange a b) v h = by (int_lt a b) refl h
  where
    by : (t : Bool) → int_lt a b ≡ t → Some (integer a, if t then OfRange (a +ℤ pos 1) b else OfList []) ≡ Some v → suc (above a b) ≡ suc (values_count v.1)
    by true e h =
        let s : (integer a, OfRange (a +ℤ pos 1) b) ≡ v = cc h in
        ap suc (above_next a b e) ∙ ap (λ (q : Data × Left). suc (values_count q.1)) s
    by false e h =
        let s : (integer a, OfList []) ≡ v = cc h in
        ap suc (none_above a b e) ∙ ap (λ (q : Data × Left). suc (values_count q.1)) s

pub first_counts : (p : ParallelBody) (n : ℕ) (w : WorkLeft) (f : First) → first_of p n w ≡ Some f → count_of w ≡ suc (count_of f.left)
first_counts p n (BranchesLeft no_branches) f h = absurd (cc h)
first_counts p n (BranchesLeft (branch x ss bs)) f h =
    let e : record { steps = ss; names = []; left = BranchesLeft bs } ≡ f = cc h in
    ap (λ (q : First). suc (count_of q.left)) e
first_counts p n (ValuesLeft l) f h = by p (next_of l) refl h
  where
    by : (q : ParallelBody) (o : Option (Data × Left)) → next_of l ≡ o → first_turn q n o ≡ Some f → values_count l ≡ suc (count_of f.left)
    by (parallel names limit (OfLoop b)) None e g = absurd (cc g)
    by (parallel names limit (OfBranches bs)) None e g = absurd (cc g)
    by (parallel names limit (OfBranches bs)) (Some v) e g = absurd (cc g)
    by (parallel names limit (OfLoop b)) (Some v) e g =
        let s : ValuesLeft v.1 ≡ f.left = left_is g in
        next_counts l v e ∙ ap (λ w. suc (count_of w)) s
      where
        left_is : {y : First} → Some y ≡ Some f → y.left ≡ f.left
        left_is {y} h = let same : y ≡ f = cc h in ap (λ (q : First). q.left) same

-- ## Its kind
abbrev are_values : WorkLeft → Bool
are_values (BranchesLeft bs) = false
are_values (ValuesLeft l) = true

first_kind : (p : ParallelBody) (n : ℕ) (w : WorkLeft) (f : First) → first_of p n w ≡ Some f → are_values f.left ≡ are_values w
first_kind p n (BranchesLeft no_branches) f h = absurd (cc h)
first_kind p n (BranchesLeft (branch x ss bs)) f h =
    let e : record { steps = ss; names = []; left = BranchesLeft bs } ≡ f = cc h in
    sym (ap (λ (q : First). are_values q.left) e)
first_kind p n (ValuesLeft l) f h = by p (next_of l) h
  where
    kind_is : {y : First} → Some y ≡ Some f → are_values f.left ≡ are_values y.left
    kind_is {y} h = let same : y ≡ f = cc h in sym (ap (λ (q : First). are_values q.left) same)

    by : (q : ParallelBody) (o : Option (Data × Left)) → first_turn q n o ≡ Some f → are_values f.left ≡ true
    by (parallel names limit (OfLoop b)) None g = absurd (cc g)
    by (parallel names limit (OfBranches bs)) None g = absurd (cc g)
    by (parallel names limit (OfBranches bs)) (Some v) g = absurd (cc g)
    by (parallel names limit (OfLoop b)) (Some v) g = kind_is g

view_kind : (p : ParallelBody) (n : ℕ) (w : Work) → are_values (work_view p n w) ≡ is_loop_work w
view_kind p n work.Branches = refl
view_kind p n (work.Values l) = refl

work_kind : (u : WorkNode) (w v : Work) → is_loop_work w ≡ is_loop_work v → same_work u w ≡ same_work u v
work_kind u work.Branches (work.Values l) e = absurd (cc e)
work_kind u (work.Values l) work.Branches e = absurd (cc e)
work_kind (node_work.Branches b) work.Branches work.Branches e = refl
work_kind (node_work.Loop b) work.Branches work.Branches e = refl
work_kind (node_work.Branches b) (work.Values l) (work.Values m) e = refl
work_kind (node_work.Loop b) (work.Values l) (work.Values m) e = refl

work_at : (nodes : List Node) (n : ℕ) (p : ParallelNode) (w : Work) → IsParallel nodes n p → is_work_at nodes n w ≡ same_work p.work w
work_at nodes n p w h = ap (λ o. is_work_in o w) h.at ∙ ap (λ (k : NodeKind). is_work_of k w) h.is

pub left_stays : (nodes : List Node) (n : ℕ) (p : ParallelBody) (k m : ℕ) (w v : Work) (f : First)
    → is_work_at nodes n w ≡ true → first_of p k (work_view p k w) ≡ Some f → work_view p m v ≡ f.left → is_work_at nodes n v ≡ true
left_stays nodes n p k m w v f h first left =
    let there = work_there nodes n w h in
    let same : is_loop_work w ≡ is_loop_work v =
    sym (view_kind p k w) ∙ sym (first_kind p k (work_view p k w) f first) ∙ sym (ap are_values left) ∙ view_kind p m v in
    work_at nodes n there.0 v there.1 ∙ sym (work_kind there.0.work w v same) ∙ sym (work_at nodes n there.0 w there.1) ∙ h
