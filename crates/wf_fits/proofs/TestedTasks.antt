-- The tests of tasks and of the numbers of branches agree with what they test.
use Rattle.std.specs.Prelude.{◌≡◌, ◌≤◌, ◌<◌, ℕ, suc, Bool, true, false, not, ◌&&◌, ◌||◌, T, List, [], ◌∷◌, if◌then◌else◌, nat_eq, nat_le, nat_lt, Some, None, Option, option_map, ◌↔◌}
use Rattle.std.proofs.Common.{arith}
use Rattle.std.proofs.lemmas.Bool.{eqb-true, eq-eqb, ne_eqb, ltb-true, lt-ltb}
use Rattle.std.proofs.lemmas.Option.{same_Some}
use Rattle.wf_lemmas.proofs.Bools.{T_left, T_right}
use mathlib.Core.Path.{refl, sym, subst, ap, ◌∙◌}
use Rattle.wf_fits.proofs.Tested.{at_most, at_most_so, same, same_so, to_each, from_each}
use Rattle.wf_fits.proofs.Totals.{low_of}
use Rattle.wf_fits.specs.Fits.{IsParent, HasParent}
use Rattle.wf_fits.specs.Tests.{all_tasks, rises_test, runs, runs_in, parent_test, is_child, child_by, all_children, joins_test, errors_test, no_error, join_at, branch_fits, below_test, kept_test, same_pair, no_twin, twin_test, differ_test, branches_test}
use Rattle.wf_model.specs.Config.{Item, Join, Task, task_in, Config}
use Rattle.wf_model.specs.RunLaws.{RisesFrom}
use Rattle.wf_never_wrong.proofs.Tasks.{some_is_no}
use Rattle.wf_never_wrong.specs.Stands.{is_running, IsJoinOf, IsChild, Child, join_of, line, line_at, NoError, ErrorsRise, BranchesAreNumbered, OfEach, RunningAreTasks}
use Rattle.wf_value.specs.Data.{Data}
use Rattle.wf_never_wrong.proofs.Names.{both, so_is, is_so}

pub below_is : (a b : ℕ) → T (nat_lt a b) → a < b
below_is a b t = ltb-true a b (so_is (nat_lt a b) t)

pub below_so : (a b : ℕ) → a < b → T (nat_lt a b)
below_so a b l = is_so (nat_lt a b) (lt-ltb a b l)

-- ## Numbers that rise
rises_is : (low made : ℕ) (ts : List (ℕ × Task)) → T (rises_test low made ts) → RisesFrom low made ts
rises_is low made [] h = tt
rises_is low made (t ∷ ts) h =
    let r = T_right (nat_le low t.0) (nat_lt t.0 made && rises_test (suc t.0) made ts) h in
    (at_most low t.0 (T_left (nat_le low t.0) (nat_lt t.0 made && rises_test (suc t.0) made ts) h), below_is t.0 made (T_left (nat_lt t.0 made) (rises_test (suc t.0) made ts) r), rises_is (suc t.0) made ts (T_right (nat_lt t.0 made) (rises_test (suc t.0) made ts) r))

rises_so : (low made : ℕ) (ts : List (ℕ × Task)) → RisesFrom low made ts → T (rises_test low made ts)
rises_so low made [] h = tt
rises_so low made (t ∷ ts) h = both (nat_le low t.0) (nat_lt t.0 made && rises_test (suc t.0) made ts) (at_most_so low t.0 h.0) (both (nat_lt t.0 made) (rises_test (suc t.0) made ts) (below_so t.0 made h.1) (rises_so (suc t.0) made ts h.2))

pub rising_tested : (low made : ℕ) (ts : List (ℕ × Task)) → T (rises_test low made ts) ↔ RisesFrom low made ts
rising_tested low made ts = (rises_is low made ts, rises_so low made ts)

-- ## Parents
join_is : (n : ℕ) (k : List Item) → T (runs n k) → IsJoinOf k n
join_is n [] t = absurd t
join_is n (Join body w m running es ∷ k) t = t
join_is n (i ∷ k) t = absurd t

join_so : (n : ℕ) (k : List Item) → IsJoinOf k n → T (runs n k)
join_so n [] t = absurd t
join_so n (Join body w m running es ∷ k) t = t
join_so n (i ∷ k) t = absurd t

parent_is : (ts : List (ℕ × Task)) (b : ℕ) (o : Option (ℕ × ℕ)) → T (parent_test ts b o) → HasParent ts b o
parent_is ts b None t = same b 0 t
parent_is ts b (Some p) t = by (task_in ts p.0) refl (T_right (nat_lt p.0 b) (runs_in b (task_in ts p.0)) t)
  where
    by : (o : Option Task) → task_in ts p.0 ≡ o → T (runs_in b o) → IsParent ts b p.0
    by None e h = absurd h
    by (Some u) e h = record { parent = u; found = e; less = below_is p.0 b (T_left (nat_lt p.0 b) (runs_in b (task_in ts p.0)) t); joins = join_is b u.control h }

parent_so : (ts : List (ℕ × Task)) (b : ℕ) (o : Option (ℕ × ℕ)) → HasParent ts b o → T (parent_test ts b o)
parent_so ts b None h = same_so b 0 h
parent_so ts b (Some p) h = both (nat_lt p.0 b) (runs_in b (task_in ts p.0)) (below_so p.0 b h.less) (subst (λ o. T (runs_in b o)) (sym h.found) (join_so b h.parent.control h.joins))

pub parents_tested : (c : Config) → RisesFrom 0 c.made c.tasks → T (all_tasks (λ b t. parent_test c.tasks b t.parent) c.tasks) ↔ OfEach c.tasks (λ b t. HasParent c.tasks b t.parent)
parents_tested c r = (
  to_each (λ b t. parent_test c.tasks b t.parent) (λ b t. HasParent c.tasks b t.parent) (λ b t. parent_is c.tasks b t.parent) c.tasks,
  from_each (λ b t. parent_test c.tasks b t.parent) (λ b t. HasParent c.tasks b t.parent) (λ b t. parent_so c.tasks b t.parent) 0 c.made c.tasks r,
)

-- ## Running tasks
child_is : (o : Option (ℕ × ℕ)) (a : ℕ) → T (is_child o a) → IsChild o a
child_is None a t = absurd t
child_is (Some p) a t = same p.0 a t

child_so : (o : Option (ℕ × ℕ)) (a : ℕ) → IsChild o a → T (is_child o a)
child_so None a t = absurd t
child_so (Some p) a t = same_so p.0 a t

children_is : (ts : List (ℕ × Task)) (a : ℕ) (ms : List ℕ) → T (all_children ts a ms) → (m : ℕ) → T (is_running m ms) → Child ts m a
children_is ts a [] h m r = absurd r
children_is ts a (n ∷ ns) h m r = by (nat_eq m n) refl r (λ q. children_is ts a ns (T_right (child_by (task_in ts n) a) (all_children ts a ns) h) m q)
  where
    at : (o : Option Task) → task_in ts n ≡ o → T (child_by o a) → Child ts n a
    at None e t = absurd t
    at (Some u) e t = record { task = u; found = e; parent = child_is u.parent a t }

    by : (q : Bool) → nat_eq m n ≡ q → T (q || is_running m ns) → (T (is_running m ns) → Child ts m a) → Child ts m a
    by true e t f = subst (λ x. Child ts x a) (sym (eqb-true m n e)) (at (task_in ts n) refl (T_left (child_by (task_in ts n) a) (all_children ts a ns) h))
    by false e t f = f t

children_so : (ts : List (ℕ × Task)) (a : ℕ) (ms : List ℕ) → ((m : ℕ) → T (is_running m ms) → Child ts m a) → T (all_children ts a ms)
children_so ts a [] h = tt
children_so ts a (n ∷ ns) h = both (child_by (task_in ts n) a) (all_children ts a ns) (at (h n (here (nat_eq n n) (eq-eqb n n refl)))) (children_so ts a ns (λ m r. h m (there (nat_eq m n) m r)))
  where
    at : Child ts n a → T (child_by (task_in ts n) a)
    at x = subst (λ o. T (child_by o a)) (sym x.found) (child_so x.task.parent a x.parent)

    here : (q : Bool) → q ≡ true → T (q || is_running n ns)
    here true e = tt
    here false e = absurd (subst (λ r. elim r as (λ s. Type 0) [ true ↦ ⊥ | false ↦ Unit {0} ]) e tt)

    there : (q : Bool) (m : ℕ) → T (is_running m ns) → T (q || is_running m ns)
    there true m r = tt
    there false m r = r

joins_is : (ts : List (ℕ × Task)) (a : ℕ) (k : List Item) → T (joins_test ts a k) → (m : ℕ) → IsJoinOf k m → Child ts m a
joins_is ts a [] h m j = absurd j
joins_is ts a (Join body w n running es ∷ k) h m j = children_is ts a running h m j
joins_is ts a (i ∷ k) h m j = absurd j

joins_so : (ts : List (ℕ × Task)) (a : ℕ) (k : List Item) → ((m : ℕ) → IsJoinOf k m → Child ts m a) → T (joins_test ts a k)
joins_so ts a [] h = tt
joins_so ts a (Join body w n running es ∷ k) h = children_so ts a running h
joins_so ts a (i ∷ k) h = tt

pub running_tasks_tested : (c : Config) → RisesFrom 0 c.made c.tasks → T (all_tasks (λ b t. joins_test c.tasks b t.control) c.tasks) ↔ RunningAreTasks c.tasks
running_tasks_tested c r = (
  to_each (λ b t. joins_test c.tasks b t.control) (λ a t. (m : ℕ) → IsJoinOf t.control m → Child c.tasks m a) (λ b t. joins_is c.tasks b t.control) c.tasks,
  from_each (λ b t. joins_test c.tasks b t.control) (λ a t. (m : ℕ) → IsJoinOf t.control m → Child c.tasks m a) (λ b t. joins_so c.tasks b t.control) 0 c.made c.tasks r,
)

-- ## Branches
errors_is : (low n : ℕ) (es : List (ℕ × Data)) → T (errors_test low n es) → ErrorsRise low n es
errors_is low n [] h = tt
errors_is low n (x ∷ es) h =
    let r = T_right (nat_le low x.0) (nat_lt x.0 n && errors_test (suc x.0) n es) h in
    (at_most low x.0 (T_left (nat_le low x.0) (nat_lt x.0 n && errors_test (suc x.0) n es) h), below_is x.0 n (T_left (nat_lt x.0 n) (errors_test (suc x.0) n es) r), errors_is (suc x.0) n es (T_right (nat_lt x.0 n) (errors_test (suc x.0) n es) r))

errors_so : (low n : ℕ) (es : List (ℕ × Data)) → ErrorsRise low n es → T (errors_test low n es)
errors_so low n [] h = tt
errors_so low n (x ∷ es) h = both (nat_le low x.0) (nat_lt x.0 n && errors_test (suc x.0) n es) (at_most_so low x.0 h.0) (both (nat_lt x.0 n) (errors_test (suc x.0) n es) (below_so x.0 n h.1) (errors_so (suc x.0) n es h.2))

unlike_is : (a b : ℕ) → T (not (nat_eq a b)) → a ≡ b → ⊥
unlike_is a b t e = subst (λ q. T (not q)) (eq-eqb a b e) t

unlike_so : (a b : ℕ) → (a ≡ b → ⊥) → T (not (nat_eq a b))
unlike_so a b h = subst (λ q. T (not q)) (sym (ne_eqb a b h)) tt

no_error_is : (i : ℕ) (es : List (ℕ × Data)) → T (no_error i es) → NoError i es
no_error_is i [] h = tt
no_error_is i (x ∷ es) h = (unlike_is i x.0 (T_left (not (nat_eq i x.0)) (no_error i es) h), no_error_is i es (T_right (not (nat_eq i x.0)) (no_error i es) h))

no_error_so : (i : ℕ) (es : List (ℕ × Data)) → NoError i es → T (no_error i es)
no_error_so i [] h = tt
no_error_so i (x ∷ es) h = both (not (nat_eq i x.0)) (no_error i es) (unlike_so i x.0 h.0) (no_error_so i es h.1)

-- what is known of a line
abbrev Line : Type 0
Line = Option (ℕ × ℕ) × Option (ℕ × List (ℕ × Data))

record IsLine (ts : List (ℕ × Task)) (m : ℕ) (o : Option (ℕ × ℕ)) (x : Option (ℕ × List (ℕ × Data))) : Type 0 where
  task : Task
  found : task_in ts m ≡ Some task
  parent : task.parent ≡ o
  join : join_of task.control ≡ x

line_is : (ts : List (ℕ × Task)) (m : ℕ) (o : Option (ℕ × ℕ)) (x : Option (ℕ × List (ℕ × Data))) → line_at ts m ≡ Some (o, x) → IsLine ts m o x
line_is ts m o x e = by (task_in ts m) refl e
  where
    by : (w : Option Task) → task_in ts m ≡ w → option_map line w ≡ Some (o, x) → IsLine ts m o x
    by None i j = some_is_no (o, x) (sym j)
    by (Some t) i j = let p : line t ≡ (o, x) = same_Some (line t) (o, x) j in record { task = t; found = i; parent = ap (λ (y : Line). y.0) p; join = ap (λ (y : Line). y.1) p }

line_so : (ts : List (ℕ × Task)) (m : ℕ) (t : Task) → task_in ts m ≡ Some t → line_at ts m ≡ Some (t.parent, join_of t.control)
line_so ts m t e = ap (option_map line) e

-- no two have one parent and number
twin_is : (p : ℕ × ℕ) (us : List (ℕ × Task)) → T (no_twin p us) → (k : ℕ) (u : Task) → task_in us k ≡ Some u → u.parent ≡ Some p → ⊥
twin_is p [] h k u e q = some_is_no u (sym e)
twin_is p (v ∷ vs) h k u e q = by (nat_eq v.0 k) e (λ j. twin_is p vs (T_right (not (same_pair p v.1.parent)) (no_twin p vs) h) k u j q)
  where
    itself : T (same_pair p (Some p))
    itself = both (nat_eq p.0 p.0) (nat_eq p.1 p.1) (same_so p.0 p.0 refl) (same_so p.1 p.1 refl)

    no : (r : Bool) → T (not r) → T r → ⊥
    no true a b = a
    no false a b = b

    by : (r : Bool) → (if r then Some v.1 else task_in vs k) ≡ Some u → (task_in vs k ≡ Some u → ⊥) → ⊥
    by true j f = no (same_pair p v.1.parent) (T_left (not (same_pair p v.1.parent)) (no_twin p vs) h) (subst (λ o. T (same_pair p o)) (sym (ap (λ w. w.parent) (same_Some v.1 u j) ∙ q)) itself)
    by false j f = f j

pairs_are : (p q : ℕ × ℕ) → T (same_pair p (Some q)) → p ≡ q
pairs_are p q t = ap (λ a. (a, p.1)) (same p.0 q.0 (T_left (nat_eq p.0 q.0) (nat_eq p.1 q.1) t)) ∙ ap (λ b. (q.0, b)) (same p.1 q.1 (T_right (nat_eq p.0 q.0) (nat_eq p.1 q.1) t))

twin_by : (p : ℕ × ℕ) (o : Option (ℕ × ℕ)) → (o ≡ Some p → ⊥) → T (not (same_pair p o))
twin_by p None h = tt
twin_by p (Some q) h = by (same_pair p (Some q)) refl
  where
    by : (r : Bool) → same_pair p (Some q) ≡ r → T (not r)
    by false e = tt
    by true e = absurd (h (ap (λ z. Some z) (sym (pairs_are p q (is_so (same_pair p (Some q)) e)))))

twin_so : (p : ℕ × ℕ) (low made : ℕ) (us : List (ℕ × Task)) → RisesFrom low made us → ((k : ℕ) (u : Task) → task_in us k ≡ Some u → u.parent ≡ Some p → ⊥) → T (no_twin p us)
twin_so p low made [] r h = tt
twin_so p low made (v ∷ vs) r h =
    both (not (same_pair p v.1.parent)) (no_twin p vs) (twin_by p v.1.parent (λ e. h v.0 v.1 (ap (λ q. if q then Some v.1 else task_in vs v.0) (eq-eqb v.0 v.0 refl)) e))
    (twin_so p (suc v.0) made vs r.2 (λ k u e. h k u (ap (λ q. if q then Some v.1 else task_in vs k) (ne_eqb v.0 k (differs k (low_of (suc v.0) made k vs u r.2 e))) ∙ e)))
  where
    differs : (k : ℕ) → suc v.0 ≤ k → v.0 ≡ k → ⊥
    differs k l e = omega (arith, l, e)

abbrev Differ : List (ℕ × Task) → Type 0
Differ ts = (m k : ℕ) (t u : Task) (p : ℕ × ℕ) → task_in ts m ≡ Some t → task_in ts k ≡ Some u → t.parent ≡ Some p → u.parent ≡ Some p → m ≡ k

with_twin : (o : Option (ℕ × ℕ)) (p : ℕ × ℕ) (us : List (ℕ × Task)) → T (twin_test o us) → o ≡ Some p → T (no_twin p us)
with_twin o p us h e = subst (λ x. T (twin_test x us)) e h

differ_is : (ts : List (ℕ × Task)) → T (differ_test ts) → Differ ts
differ_is [] h m k t u p e f i j = some_is_no t (sym e)
differ_is (v ∷ vs) h m k t u p e f i j = by (nat_eq v.0 m) refl (nat_eq v.0 k) refl e f (λ x y. differ_is vs (T_right (twin_test v.1.parent vs) (differ_test vs) h) m k t u p x y i j)
  where
    twin : T (twin_test v.1.parent vs)
    twin = T_left (twin_test v.1.parent vs) (differ_test vs) h

    by : (q : Bool) → nat_eq v.0 m ≡ q → (r : Bool) → nat_eq v.0 k ≡ r → (if q then Some v.1 else task_in vs m) ≡ Some t → (if r then Some v.1 else task_in vs k) ≡ Some u → (task_in vs m ≡ Some t → task_in vs k ≡ Some u → m ≡ k) → m ≡ k
    by true a true b x y g = sym (eqb-true v.0 m a) ∙ eqb-true v.0 k b
    by true a false b x y g = absurd (twin_is p vs (with_twin v.1.parent p vs twin (ap (λ w. w.parent) (same_Some v.1 t x) ∙ i)) k u y j)
    by false a true b x y g = absurd (twin_is p vs (with_twin v.1.parent p vs twin (ap (λ w. w.parent) (same_Some v.1 u y) ∙ j)) m t x i)
    by false a false b x y g = g x y

differ_so : (low made : ℕ) (ts : List (ℕ × Task)) → RisesFrom low made ts → Differ ts → T (differ_test ts)
differ_so low made [] r h = tt
differ_so low made (v ∷ vs) r h = both (twin_test v.1.parent vs) (differ_test vs) (by v.1.parent refl) (differ_so (suc v.0) made vs r.2 (λ m k t u p e f i j. h m k t u p (behind m t e) (behind k u f) i j))
  where
    differs : (k : ℕ) → suc v.0 ≤ k → v.0 ≡ k → ⊥
    differs k l e = omega (arith, l, e)

    behind : (k : ℕ) (u : Task) → task_in vs k ≡ Some u → task_in (v ∷ vs) k ≡ Some u
    behind k u e = ap (λ q. if q then Some v.1 else task_in vs k) (ne_eqb v.0 k (differs k (low_of (suc v.0) made k vs u r.2 e))) ∙ e

    first : task_in (v ∷ vs) v.0 ≡ Some v.1
    first = ap (λ q. if q then Some v.1 else task_in vs v.0) (eq-eqb v.0 v.0 refl)

    by : (o : Option (ℕ × ℕ)) → v.1.parent ≡ o → T (twin_test o vs)
    by None e = tt
    by (Some p) e = twin_so p (suc v.0) made vs r.2 (λ k u f j. differs k (low_of (suc v.0) made k vs u r.2 f) (h v.0 k v.1 u p first (behind k u f) e j))

abbrev Fitting : List (ℕ × Task) → Task → Type 0
Fitting ts t = T (below_test ts t.parent && kept_test (join_of t.control))

pub branches_tested : (c : Config) → RisesFrom 0 c.made c.tasks → T (branches_test c.tasks) ↔ BranchesAreNumbered (line_at c.tasks)
branches_tested c r = (λ h. numbered h, λ b. tests b)
  where
    each : ℕ → Task → Bool
    each b t = below_test c.tasks t.parent && kept_test (join_of t.control)

    numbered : T (branches_test c.tasks) → BranchesAreNumbered (line_at c.tasks)
    numbered h =
        let all = to_each (λ b t. below_test c.tasks t.parent && kept_test (join_of t.control)) (λ b t. Fitting c.tasks t) (λ b t x. x) c.tasks (T_left (all_tasks (λ b t. below_test c.tasks t.parent && kept_test (join_of t.control)) c.tasks) (differ_test c.tasks) h) in
        record {
          below = λ m a i n x y es e f. let l = line_is c.tasks m (Some (a, i)) x e in let k = line_is c.tasks a y (Some (n, es)) f in
              fits a i n es l k (T_left (below_test c.tasks l.task.parent) (kept_test (join_of l.task.control)) (all m l.task l.found));
          differ = λ m k a i x y e f. let l = line_is c.tasks m (Some (a, i)) x e in let j = line_is c.tasks k (Some (a, i)) y f in
              differ_is c.tasks (T_right (all_tasks (λ b t. below_test c.tasks t.parent && kept_test (join_of t.control)) c.tasks) (differ_test c.tasks) h) m k l.task j.task (a, i) l.found j.found l.parent j.parent;
          errors = λ a n y es f. let k = line_is c.tasks a y (Some (n, es)) f in
              errors_is 0 n es (subst (λ o. T (kept_test o)) k.join (T_right (below_test c.tasks k.task.parent) (kept_test (join_of k.task.control)) (all a k.task k.found)));
        }
      where
        fits : (a i n : ℕ) (es : List (ℕ × Data)) {m : ℕ} {x : Option (ℕ × List (ℕ × Data))} {y : Option (ℕ × ℕ)} → (l : IsLine c.tasks m (Some (a, i)) x) → IsLine c.tasks a y (Some (n, es)) → T (below_test c.tasks l.task.parent) → (i < n) × NoError i es
        fits a i n es l k t =
            let s : T (branch_fits (join_at (task_in c.tasks a)) i) = subst (λ o. T (below_test c.tasks o)) l.parent t in
            let u : T (branch_fits (join_of k.task.control) i) = subst (λ o. T (branch_fits (join_at o) i)) k.found s in
            let v : T (nat_lt i n && no_error i es) = subst (λ o. T (branch_fits o i)) k.join u in
            (below_is i n (T_left (nat_lt i n) (no_error i es) v), no_error_is i es (T_right (nat_lt i n) (no_error i es) v))

    tests : BranchesAreNumbered (line_at c.tasks) → T (branches_test c.tasks)
    tests b =
        both (all_tasks (λ n t. below_test c.tasks t.parent && kept_test (join_of t.control)) c.tasks) (differ_test c.tasks)
        (from_each (λ n t. below_test c.tasks t.parent && kept_test (join_of t.control)) (λ n t. task_in c.tasks n ≡ Some t) (λ n t e. both (below_test c.tasks t.parent) (kept_test (join_of t.control)) (below_at n t e t.parent refl) (kept_at n t e (join_of t.control) refl)) 0 c.made c.tasks r (λ n t e. e))
        (differ_so 0 c.made c.tasks r (λ m k t u p e f i j. b.differ m k p.0 p.1 (join_of t.control) (join_of u.control) (line_so c.tasks m t e ∙ ap (λ o. Some (o, join_of t.control)) i) (line_so c.tasks k u f ∙ ap (λ o. Some (o, join_of u.control)) j)))
      where
        branch_at : (n : ℕ) (t : Task) → task_in c.tasks n ≡ Some t → (p : ℕ × ℕ) → t.parent ≡ Some p → (w : Option Task) → task_in c.tasks p.0 ≡ w → T (branch_fits (join_at w) p.1)
        branch_at n t e p q None f = tt
        branch_at n t e p q (Some u) f = by (join_of u.control) refl
          where
            by : (o : Option (ℕ × List (ℕ × Data))) → join_of u.control ≡ o → T (branch_fits o p.1)
            by None i = tt
            by (Some j) i =
                let x = b.below n p.0 p.1 j.0 (join_of t.control) u.parent j.1 (line_so c.tasks n t e ∙ ap (λ o. Some (o, join_of t.control)) q) (line_so c.tasks p.0 u f ∙ ap (λ o. Some (u.parent, o)) i) in
                both (nat_lt p.1 j.0) (no_error p.1 j.1) (below_so p.1 j.0 x.0) (no_error_so p.1 j.1 x.1)

        below_at : (n : ℕ) (t : Task) → task_in c.tasks n ≡ Some t → (o : Option (ℕ × ℕ)) → t.parent ≡ o → T (below_test c.tasks o)
        below_at n t e None q = tt
        below_at n t e (Some p) q = branch_at n t e p q (task_in c.tasks p.0) refl

        kept_at : (n : ℕ) (t : Task) → task_in c.tasks n ≡ Some t → (o : Option (ℕ × List (ℕ × Data))) → join_of t.control ≡ o → T (kept_test o)
        kept_at n t e None q = tt
        kept_at n t e (Some j) q = errors_so 0 j.0 j.1 (b.errors n j.0 t.parent j.1 (line_so c.tasks n t e ∙ ap (λ o. Some (t.parent, o)) q))
