-- The tests agree with what they test.
use Rattle.std.specs.Prelude.{◌≡◌, ◌≤◌, ℕ, zero, suc, ◌+◌, Bool, true, false, ◌&&◌, T, length, List, [], ◌∷◌, if◌then◌else◌, nat_eq, nat_le, nat_lt, slice_get, Some, None, Option, ◌↔◌}
use Rattle.std.proofs.Common.{arith}
use Rattle.std.proofs.lemmas.Bool.{eqb-true, eq-eqb, ne_eqb, leb-true, le-leb, ltb-true, lt-ltb}
use Rattle.std.proofs.lemmas.Option.{same_Some}
use Rattle.wf_lemmas.proofs.Bools.{T_left, T_right}
use mathlib.Core.Path.{refl, sym, subst, ap, ◌∙◌}
use Rattle.wf_fits.proofs.Totals.{low_of}
use Rattle.wf_fits.specs.Chain.{RunsFew}
use Rattle.wf_fits.specs.Limits.{QueuesAreShort, NestsFew, WithinBodies, AreNested}
use Rattle.wf_fits.specs.Tests.{all_tasks, open_for, is_nil, empty_at, wait_test, is_calling, waits_call, open_test, short_test, few_test, deep_test, WaitsAreTested}
use Rattle.wf_model.specs.Config.{Item, Do, Entries, Then, Loop, Try, Judge, Mark, Back, Join, Wait, Awake, Sleep, Delay, Calling, Await, Task, Call, Open, Answered, TimedOut, body_limit, call_limit, running_limit, task_in, Config}
use Rattle.wf_model.specs.RunLaws.{RisesFrom}
use Rattle.wf_model.specs.Taken.{nesting}
use Rattle.wf_model.specs.Unwind.{calls_in}
use Rattle.wf_never_wrong.proofs.Tasks.{some_is_no}
use Rattle.wf_never_wrong.specs.Stands.{OfEach, IsCalling, IsOpenFor, IsEmptyEndpoint, call_at, WaitIsOpen, WaitsFor, OpenCallsHaveTasks}
use Rattle.wf_value.specs.Events.{Visitor}
use Rattle.wf_value.specs.Queues.{Endpoint, endpoint_at, queue_limit}
use Rattle.wf_never_wrong.proofs.Names.{both, so_is, is_so}
use Rattle.wf_lemmas.proofs.Numbers.{suc_taken}
use Rattle.std.proofs.Math.Nat.{zero-add}

-- ## Numbers
pub at_most : (a b : ℕ) → T (nat_le a b) → a ≤ b
at_most a b t = leb-true a b (so_is (nat_le a b) t)

pub at_most_so : (a b : ℕ) → a ≤ b → T (nat_le a b)
at_most_so a b l = is_so (nat_le a b) (le-leb a b l)

pub same : (a b : ℕ) → T (nat_eq a b) → a ≡ b
same a b t = eqb-true a b (so_is (nat_eq a b) t)

pub same_so : (a b : ℕ) → a ≡ b → T (nat_eq a b)
same_so a b e = is_so (nat_eq a b) (eq-eqb a b e)

-- ## Each task
pub to_each : (test : ℕ → Task → Bool) (P : ℕ → Task → Type 0) → ((b : ℕ) (t : Task) → T (test b t) → P b t) → (ts : List (ℕ × Task)) → T (all_tasks test ts) → OfEach ts P
to_each test P f [] h b t e = some_is_no t (sym e)
to_each test P f (u ∷ us) h b t e = by (nat_eq u.0 b) refl e (λ j. to_each test P f us (T_right (test u.0 u.1) (all_tasks test us) h) b t j)
  where
    by : (q : Bool) → nat_eq u.0 b ≡ q → (if q then Some u.1 else task_in us b) ≡ Some t → (task_in us b ≡ Some t → P b t) → P b t
    by true i j k = subst (λ n. P n t) (eqb-true u.0 b i) (subst (P u.0) (same_Some u.1 t j) (f u.0 u.1 (T_left (test u.0 u.1) (all_tasks test us) h)))
    by false i j k = k j

pub from_each : (test : ℕ → Task → Bool) (P : ℕ → Task → Type 0) → ((b : ℕ) (t : Task) → P b t → T (test b t)) → (low made : ℕ) (ts : List (ℕ × Task)) → RisesFrom low made ts → OfEach ts P → T (all_tasks test ts)
from_each test P f low made [] r h = tt
from_each test P f low made (u ∷ us) r h =
    both (test u.0 u.1) (all_tasks test us) (f u.0 u.1 (h u.0 u.1 (ap (λ q. if q then Some u.1 else task_in us u.0) (eq-eqb u.0 u.0 refl))))
    (from_each test P f (suc u.0) made us r.2 (λ b t e. h b t (ap (λ q. if q then Some u.1 else task_in us b) (ne_eqb u.0 b (differs b (low_of (suc u.0) made b us t r.2 e))) ∙ e)))
  where
    differs : (b : ℕ) → suc u.0 ≤ b → u.0 ≡ b → ⊥
    differs b l e = omega (arith, l, e)

-- ## Waits
open_is : (o : Option Call) (b : ℕ) → T (open_for o b) → IsOpenFor o b
open_is None b t = absurd t
open_is (Some (Open a q due)) b t = same a b t
open_is (Some Answered) b t = absurd t
open_is (Some TimedOut) b t = absurd t

open_so : (o : Option Call) (b : ℕ) → IsOpenFor o b → T (open_for o b)
open_so None b t = absurd t
open_so (Some (Open a q due)) b t = same_so a b t
open_so (Some Answered) b t = absurd t
open_so (Some TimedOut) b t = absurd t

nil_is : (vs : List Visitor) → T (is_nil vs) → vs ≡ []
nil_is [] t = refl
nil_is (v ∷ vs) t = absurd t

nil_so : (vs : List Visitor) → vs ≡ [] → T (is_nil vs)
nil_so vs e = subst (λ x. T (is_nil x)) (sym e) tt

empty_is : (o : Option Endpoint) → T (empty_at o) → IsEmptyEndpoint o
empty_is None t = absurd t
empty_is (Some e) t = nil_is e.queue t

empty_so : (o : Option Endpoint) → IsEmptyEndpoint o → T (empty_at o)
empty_so None t = absurd t
empty_so (Some e) t = nil_so e.queue t

wait_is : (cs : List Call) (es : List Endpoint) (b : ℕ) (w : Wait) → T (wait_test cs es b w) → WaitIsOpen cs es b w
wait_is cs es b Awake t = tt
wait_is cs es b (Sleep d r) t = tt
wait_is cs es b (Delay d) t = tt
wait_is cs es b (Calling n r) t = open_is (call_at cs n) b t
wait_is cs es b (Await n d r) t = empty_is (endpoint_at es n) t

wait_so : (cs : List Call) (es : List Endpoint) (b : ℕ) (w : Wait) → WaitIsOpen cs es b w → T (wait_test cs es b w)
wait_so cs es b Awake t = tt
wait_so cs es b (Sleep d r) t = tt
wait_so cs es b (Delay d) t = tt
wait_so cs es b (Calling n r) t = open_so (call_at cs n) b t
wait_so cs es b (Await n d r) t = empty_so (endpoint_at es n) t

calling_is : (n : ℕ) (w : Wait) → T (is_calling n w) → IsCalling n w
calling_is n Awake t = absurd t
calling_is n (Sleep d r) t = absurd t
calling_is n (Delay d) t = absurd t
calling_is n (Calling m r) t = same m n t
calling_is n (Await m d r) t = absurd t

calling_so : (n : ℕ) (w : Wait) → IsCalling n w → T (is_calling n w)
calling_so n Awake t = absurd t
calling_so n (Sleep d r) t = absurd t
calling_so n (Delay d) t = absurd t
calling_so n (Calling m r) t = same_so m n t
calling_so n (Await m d r) t = absurd t

waits_is : (ts : List (ℕ × Task)) (n a : ℕ) → T (waits_call n (task_in ts a)) → WaitsFor ts n a
waits_is ts n a t = by (task_in ts a) refl t
  where
    by : (o : Option Task) → task_in ts a ≡ o → T (waits_call n o) → WaitsFor ts n a
    by None e h = absurd h
    by (Some u) e h = (u, e, calling_is n u.wait h)

waits_so : (ts : List (ℕ × Task)) (n a : ℕ) → WaitsFor ts n a → T (waits_call n (task_in ts a))
waits_so ts n a w = subst (λ o. T (waits_call n o)) (sym w.1) (calling_so n w.0.wait w.2)

-- call m is the first of these
opens_is : (ts : List (ℕ × Task)) (m : ℕ) (cs : List Call) → T (open_test ts m cs) → (i a : ℕ) → IsOpenFor (slice_get cs i) a → WaitsFor ts (i + m) a
opens_is ts m [] h i a o = absurd o
opens_is ts m (Open b q due ∷ cs) h zero a o = subst (λ n. WaitsFor ts n a) (sym (zero-add m)) (subst (WaitsFor ts m) o (waits_is ts m b (T_left (waits_call m (task_in ts b)) (open_test ts (suc m) cs) h)))
opens_is ts m (Answered ∷ cs) h zero a o = absurd o
opens_is ts m (TimedOut ∷ cs) h zero a o = absurd o
opens_is ts m (Open b q due ∷ cs) h (suc i) a o = subst (λ n. WaitsFor ts n a) (suc_taken i m) (opens_is ts (suc m) cs (T_right (waits_call m (task_in ts b)) (open_test ts (suc m) cs) h) i a o)
opens_is ts m (Answered ∷ cs) h (suc i) a o = subst (λ n. WaitsFor ts n a) (suc_taken i m) (opens_is ts (suc m) cs h i a o)
opens_is ts m (TimedOut ∷ cs) h (suc i) a o = subst (λ n. WaitsFor ts n a) (suc_taken i m) (opens_is ts (suc m) cs h i a o)

opens_so : (ts : List (ℕ × Task)) (m : ℕ) (cs : List Call) → ((i a : ℕ) → IsOpenFor (slice_get cs i) a → WaitsFor ts (i + m) a) → T (open_test ts m cs)
opens_so ts m [] h = tt
opens_so ts m (Open b q due ∷ cs) h =
    both (waits_call m (task_in ts b)) (open_test ts (suc m) cs) (waits_so ts m b (subst (λ n. WaitsFor ts n b) (zero-add m) (h 0 b refl))) (opens_so ts (suc m) cs (λ i a o. subst (λ n. WaitsFor ts n a) (sym (suc_taken i m)) (h (suc i) a o)))
opens_so ts m (Answered ∷ cs) h = opens_so ts (suc m) cs (λ i a o. subst (λ n. WaitsFor ts n a) (sym (suc_taken i m)) (h (suc i) a o))
opens_so ts m (TimedOut ∷ cs) h = opens_so ts (suc m) cs (λ i a o. subst (λ n. WaitsFor ts n a) (sym (suc_taken i m)) (h (suc i) a o))

from_one : (i : ℕ) → i + 1 ≡ suc i
from_one i = omega arith

have_is : (ts : List (ℕ × Task)) (cs : List Call) → T (open_test ts 1 cs) → OpenCallsHaveTasks ts cs
have_is ts cs h zero a o = absurd o
have_is ts cs h (suc i) a o = subst (λ n. WaitsFor ts n a) (from_one i) (opens_is ts 1 cs h i a o)

have_so : (ts : List (ℕ × Task)) (cs : List Call) → OpenCallsHaveTasks ts cs → T (open_test ts 1 cs)
have_so ts cs h = opens_so ts 1 cs (λ i a o. subst (λ n. WaitsFor ts n a) (sym (from_one i)) (h (suc i) a o))

pub waits_tested : WaitsAreTested
waits_tested c r =
    let each = all_tasks (λ b t. wait_test c.calls c.endpoints b t.wait) c.tasks in
    let calls = open_test c.tasks 1 c.calls in (
      λ h. record {
        waits = to_each (λ b t. wait_test c.calls c.endpoints b t.wait) (λ b t. WaitIsOpen c.calls c.endpoints b t.wait) (λ b t. wait_is c.calls c.endpoints b t.wait) c.tasks (T_left each calls h);
        calls = have_is c.tasks c.calls (T_right each calls h);
      },
      λ w. both each calls (from_each (λ b t. wait_test c.calls c.endpoints b t.wait) (λ b t. WaitIsOpen c.calls c.endpoints b t.wait) (λ b t. wait_so c.calls c.endpoints b t.wait) 0 c.made c.tasks r w.waits) (have_so c.tasks c.calls w.calls),
    )

-- ## Counts
short_is : (es : List Endpoint) → T (short_test es) → QueuesAreShort es
short_is [] h = tt
short_is (e ∷ es) h = (at_most (length e.queue) queue_limit (T_left (nat_le (length e.queue) queue_limit) (short_test es) h), short_is es (T_right (nat_le (length e.queue) queue_limit) (short_test es) h))

short_so : (es : List Endpoint) → QueuesAreShort es → T (short_test es)
short_so [] h = tt
short_so (e ∷ es) h = both (nat_le (length e.queue) queue_limit) (short_test es) (at_most_so (length e.queue) queue_limit h.0) (short_so es h.1)

pub bodies_tested : (c : Config) → T (nat_le c.bodies body_limit && short_test c.endpoints) ↔ WithinBodies c
bodies_tested c = (
  λ h. (at_most c.bodies body_limit (T_left (nat_le c.bodies body_limit) (short_test c.endpoints) h), short_is c.endpoints (T_right (nat_le c.bodies body_limit) (short_test c.endpoints) h)),
  λ w. both (nat_le c.bodies body_limit) (short_test c.endpoints) (at_most_so c.bodies body_limit w.0) (short_so c.endpoints w.1),
)

pub calls_tested : (c : Config) → RisesFrom 0 c.made c.tasks → T (all_tasks (λ b t. nat_le (calls_in t.control) call_limit) c.tasks) ↔ OfEach c.tasks (λ b t. calls_in t.control ≤ call_limit)
calls_tested c r = (
  to_each (λ b t. nat_le (calls_in t.control) call_limit) (λ b t. calls_in t.control ≤ call_limit) (λ b t. at_most (calls_in t.control) call_limit) c.tasks,
  from_each (λ b t. nat_le (calls_in t.control) call_limit) (λ b t. calls_in t.control ≤ call_limit) (λ b t. at_most_so (calls_in t.control) call_limit) 0 c.made c.tasks r,
)

few_is : (k : List Item) → T (few_test k) → RunsFew k
few_is [] h = tt
few_is (Join body left n r es ∷ k) h = (at_most (length r) running_limit (T_left (nat_le (length r) running_limit) (few_test k) h), few_is k (T_right (nat_le (length r) running_limit) (few_test k) h))
few_is (Do block left ∷ k) h = few_is k h
few_is (Entries es ∷ k) h = few_is k h
few_is (Then x ∷ k) h = few_is k h
few_is (Loop l w i ∷ k) h = few_is k h
few_is (Try t n d ∷ k) h = few_is k h
few_is (Judge t n d e ∷ k) h = few_is k h
few_is (Mark ∷ k) h = few_is k h
few_is (Back r ∷ k) h = few_is k h

few_so : (k : List Item) → RunsFew k → T (few_test k)
few_so [] h = tt
few_so (Join body left n r es ∷ k) h = both (nat_le (length r) running_limit) (few_test k) (at_most_so (length r) running_limit h.0) (few_so k h.1)
few_so (Do block left ∷ k) h = few_so k h
few_so (Entries es ∷ k) h = few_so k h
few_so (Then x ∷ k) h = few_so k h
few_so (Loop l w i ∷ k) h = few_so k h
few_so (Try t n d ∷ k) h = few_so k h
few_so (Judge t n d e ∷ k) h = few_so k h
few_so (Mark ∷ k) h = few_so k h
few_so (Back r ∷ k) h = few_so k h

pub running_tested : (c : Config) → RisesFrom 0 c.made c.tasks → T (all_tasks (λ b t. few_test t.control) c.tasks) ↔ OfEach c.tasks (λ b t. RunsFew t.control)
running_tested c r = (
  to_each (λ b t. few_test t.control) (λ b t. RunsFew t.control) (λ b t. few_is t.control) c.tasks,
  from_each (λ b t. few_test t.control) (λ b t. RunsFew t.control) (λ b t. few_so t.control) 0 c.made c.tasks r,
)

deep_is : (d most : ℕ) (k : List Item) → T (deep_test d most k) → NestsFew d most k
deep_is d most [] h = tt
deep_is d most (Join body left n r es ∷ k) h = (ltb-true d most (so_is (nat_lt d most) (T_left (nat_lt d most) (deep_test d most k) h)), deep_is d most k (T_right (nat_lt d most) (deep_test d most k) h))
deep_is d most (Do block left ∷ k) h = deep_is d most k h
deep_is d most (Entries es ∷ k) h = deep_is d most k h
deep_is d most (Then x ∷ k) h = deep_is d most k h
deep_is d most (Loop l w i ∷ k) h = deep_is d most k h
deep_is d most (Try t n x ∷ k) h = deep_is d most k h
deep_is d most (Judge t n x e ∷ k) h = deep_is d most k h
deep_is d most (Mark ∷ k) h = deep_is d most k h
deep_is d most (Back r ∷ k) h = deep_is d most k h

deep_so : (d most : ℕ) (k : List Item) → NestsFew d most k → T (deep_test d most k)
deep_so d most [] h = tt
deep_so d most (Join body left n r es ∷ k) h = both (nat_lt d most) (deep_test d most k) (is_so (nat_lt d most) (lt-ltb d most h.0)) (deep_so d most k h.1)
deep_so d most (Do block left ∷ k) h = deep_so d most k h
deep_so d most (Entries es ∷ k) h = deep_so d most k h
deep_so d most (Then x ∷ k) h = deep_so d most k h
deep_so d most (Loop l w i ∷ k) h = deep_so d most k h
deep_so d most (Try t n x ∷ k) h = deep_so d most k h
deep_so d most (Judge t n x e ∷ k) h = deep_so d most k h
deep_so d most (Mark ∷ k) h = deep_so d most k h
deep_so d most (Back r ∷ k) h = deep_so d most k h

pub nesting_tested : (c : Config) (most : ℕ) → RisesFrom 0 c.made c.tasks → T (all_tasks (λ b t. deep_test (nesting b c t.parent) most t.control) c.tasks) ↔ AreNested most c
nesting_tested c most r = (
  to_each (λ b t. deep_test (nesting b c t.parent) most t.control) (λ b t. NestsFew (nesting b c t.parent) most t.control) (λ b t. deep_is (nesting b c t.parent) most t.control) c.tasks,
  from_each (λ b t. deep_test (nesting b c t.parent) most t.control) (λ b t. NestsFew (nesting b c t.parent) most t.control) (λ b t. deep_so (nesting b c t.parent) most t.control) 0 c.made c.tasks r,
)
