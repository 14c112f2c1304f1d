-- Where an item comes from, behind a step that is carried out and behind a jump.
use Rattle.std.specs.Prelude.{◌≡◌, ℕ, zero, suc, ◌⊎◌, T, Bool, true, false, List, [], ◌∷◌, Some, None, Option, if◌then◌else◌, ℤ, pos, ◌+ℤ◌, ◌≤ℤ◌, int_le, int_lt}
use Rattle.std.proofs.Common.{arith}
use Rattle.std.proofs.lemmas.Int.{ints}
use borrow.Author.Differences.{le-false, lt-true}
use mathlib.Core.Logic.{inl, inr}
use mathlib.Core.Path.{refl, sym, subst, ap}
use Rattle.wf_ast.specs.Tree.{Entry, Step, step, Steps, no_steps, more, Body, Over, InList, InRange, Flow, Branches, no_branches, branch, unnamed}
use Rattle.wf_ast.specs.Apply.{View}
use Rattle.wf_ast.specs.Eval.{fill, whole}
use Rattle.wf_model.specs.Config.{Left, OfList, OfRange, Item, Do, Judge, Mark, next_of, range_left, counted_left}
use Rattle.wf_model.specs.Move.{then_item, list_left, over}
use Rattle.wf_never_wrong.proofs.Arguments.{Each, each_bind}
use Rattle.wf_never_wrong.proofs.Names.{is_so}
use Rattle.wf_never_wrong.proofs.Rests.{IsMore, behind, rest_behind}
use Rattle.wf_never_wrong.specs.Places.{Own, IsRest, Before, TriedIn, Carried, Entered, TurnOf, Opens, Opened, NoJudge, DoStands, IsTail, RangeRises, IsLeftOf}
use Rattle.wf_never_wrong.specs.Stands.{branch_steps}
use Rattle.wf_value.specs.Data.{Data, list}
use Rattle.wf_value.specs.Pairs.{Text}

abbrev first_body : Steps → Body
first_body no_steps = Body.Nothing
first_body (more (step x b n) ss) = b

abbrev first_next : Steps → Option Text
first_next no_steps = None
first_next (more (step x b n) ss) = n

-- the step that is carried out stands before what is left then
pub before_rest : (block : Steps) (x : Text) (body : Body) (to : Option Text) (left : Steps) → IsRest (more (step x body to) left) block → Before block left body to
before_rest no_steps x body to left e = absurd (subst IsMore e tt)
before_rest (more (step y b n) ss) x body to left (inl e) = inl (sym (ap first_body e), sym (ap first_next e), ap behind e)
before_rest (more (step y b n) ss) x body to left (inr r) = inr (before_rest ss x body to left r)

pub tail_self : (es : List Entry) → IsTail es es
tail_self [] = refl
tail_self (e ∷ es) = inl refl

abbrev rest_of : List Entry → List Entry
rest_of [] = []
rest_of (e ∷ es) = es

abbrev IsFull : List Entry → Type 0
IsFull [] = ⊥
IsFull (e ∷ es) = Unit {0}

pub tail_next : (all : List Entry) (e : Entry) (es : List Entry) → IsTail (e ∷ es) all → IsTail es all
tail_next [] e es i = absurd (subst IsFull i tt)
tail_next (x ∷ xs) e es (inl i) = inr (subst (λ l. IsTail l xs) (sym (ap rest_of i)) (tail_self xs))
tail_next (x ∷ xs) e es (inr i) = inr (tail_next xs e es i)

-- one more branch begins
abbrev after_first : Branches → Branches
after_first no_branches = no_branches
after_first (branch x ss bs) = bs

abbrev first_branch : Branches → Steps
first_branch no_branches = no_steps
first_branch (branch x ss bs) = ss

abbrev IsBranch : Branches → Type 0
IsBranch no_branches = ⊥
IsBranch (branch x ss bs) = Unit {0}

pub left_next : (n : ℕ) (bs : Branches) (x : Text) (ss : Steps) (left : Branches) → IsLeftOf n bs (branch x ss left) → IsLeftOf (suc n) bs left
left_next zero no_branches x ss left e = absurd (subst IsBranch e tt)
left_next zero (branch y qs bs) x ss left e = ap after_first e
left_next (suc n) no_branches x ss left e = absurd e
left_next (suc n) (branch y qs bs) x ss left e = left_next n bs x ss left e

-- and it is the one of that number
pub left_steps : (n : ℕ) (bs : Branches) (x : Text) (ss : Steps) (left : Branches) → IsLeftOf n bs (branch x ss left) → branch_steps bs n ≡ ss
left_steps zero no_branches x ss left e = absurd (subst IsBranch e tt)
left_steps zero (branch y qs bs) x ss left e = sym (ap first_branch e)
left_steps (suc n) no_branches x ss left e = absurd e
left_steps (suc n) (branch y qs bs) x ss left e = left_steps n bs x ss left e

module _ (fs : List Flow) (first : Steps) (binds : List Text) (k : List Item) (block : Steps) where
  pub step_carried : (x : Text) (body : Body) (to : Option Text) (left : Steps) (E : List Own) → DoStands fs first binds k block (more (step x body to) left) E → Carried (Do block left ∷ k) to body
  step_carried x body to left E (inl d) = inl (before_rest block x body to left d.1)
  step_carried x body to left E (inr d) = let e = entered d.1.0 d.1.1 d.1.2 d.1.3 in inr (d.0, e.0, e.1)
    where
      entered : (b : Body) (n : Option Text) → Entered k n b → ((more (step x body to) left ≡ unnamed b n) ⊎ (more (step x body to) left ≡ no_steps)) → (left ≡ no_steps) × Entered k to body
      entered b n i (inl q) = (ap behind q, subst (λ m. Entered k m body) (sym (ap first_next q)) (subst (Entered k n) (sym (ap first_body q)) i))
      entered b n i (inr q) = absurd (subst IsMore q tt)

  pub do_next : (s : Step) (left : Steps) (E : List Own) → DoStands fs first binds k block (more s left) E → DoStands fs first binds k block left E
  do_next s left E (inl d) = inl (d.0, rest_behind block s left d.1)
  do_next s left E (inr d) = inr (d.0, (d.1.0, d.1.1, d.1.2, by d.1.3))
    where
      by : ((more s left ≡ unnamed d.1.0 d.1.1) ⊎ (more s left ≡ no_steps)) → (left ≡ unnamed d.1.0 d.1.1) ⊎ (left ≡ no_steps)
      by (inl q) = inr (ap behind q)
      by (inr q) = absurd (subst IsMore q tt)

  -- at a step that the block has
  pub do_jumped : (left : Steps) (s : Step) (ss : Steps) (E : List Own) → DoStands fs first binds k block left E → IsRest (more s ss) block → DoStands fs first binds k block (more s ss) E
  do_jumped left s ss E (inl d) r = inl (d.0, r)
  do_jumped left s ss E (inr d) r = absurd (subst IsMore (subst (IsRest (more s ss)) d.0 r) tt)

-- ## Ranges
range_rises : (a b : ℤ) → RangeRises (range_left a b)
range_rises a b = by (int_le a b) refl
  where
    by : (q : Bool) → int_le a b ≡ q → RangeRises (if q then OfRange a b else OfList [])
    by true e = is_so (int_le a b) e
    by false e = tt

list_rises : (v : Data) → Each RangeRises (list_left v)
list_rises (list vs) = tt
list_rises v = tt

pub over_rises : (v : View) (o : Over) → Each RangeRises (over v o)
over_rises v (InList t) = each_bind RangeRises (fill t v) list_left list_rises
over_rises v (InRange t u) =
    each_bind RangeRises (fill t v) _ λ x. each_bind RangeRises (fill u v) _ λ y. each_bind RangeRises (whole x) _ λ m. each_bind RangeRises (whole y) _ λ n. range_rises m n

le_yes : (a b : ℤ) → a ≤ℤ b → T (int_le a b)
le_yes a b h = by (int_le a b) refl
  where
    by : (q : Bool) → int_le a b ≡ q → T q
    by true e = tt
    by false e = let over = le-false a b e in absurd (omega (arith, ints))

pub counted_rises : (left : Left) → RangeRises left → RangeRises (counted_left left)
counted_rises (OfList vs) r = tt
counted_rises (OfRange a b) r = by (int_le b (a +ℤ pos 4294967294))
  where
    by : (q : Bool) → T (int_le a (if q then b else a +ℤ pos 4294967294))
    by true = r
    by false = le_yes a (a +ℤ pos 4294967294) (omega (arith, ints))

abbrev pub NextRises : Option (Data × Left) → Type 0
NextRises None = Unit {0}
NextRises (Some n) = RangeRises n.1

pub next_rises : (left : Left) → RangeRises left → NextRises (next_of left)
next_rises (OfList []) r = tt
next_rises (OfList (v ∷ vs)) r = tt
next_rises (OfRange a b) r = by (int_lt a b) refl
  where
    by : (q : Bool) → int_lt a b ≡ q → RangeRises (if q then OfRange (a +ℤ pos 1) b else OfList [])
    by true e = let less = lt-true a b e in le_yes (a +ℤ pos 1) b (omega (arith, ints))
    by false e = tt

-- a body whose `next` is put on first
pub then_carried : (to : Option Text) (k : List Item) (body : Body) → Carried k to body → Carried (then_item to k) None body
then_carried None k body c = c
then_carried (Some x) k body c = c

-- ## Inside a Judge
-- nothing stands directly inside it but the call of its predicate
pub carried_in : (k : List Item) (n : Option Text) (b : Body) → Carried k n b → NoJudge k
carried_in [] n b c = tt
carried_in (Judge t m d e ∷ k) n b c = absurd c
carried_in (i ∷ k) n b c = tt

tried_in : (k : List Item) (b : Body) → TriedIn k b → NoJudge k
tried_in [] b c = tt
tried_in (Judge t m d e ∷ k) b c = absurd c
tried_in (i ∷ k) b c = tt

turned_in : (k : List Item) (ss : Steps) (E : List Own) → TurnOf k ss E → NoJudge k
turned_in [] ss E o = tt
turned_in (Judge t m d e ∷ k) ss E o = absurd o
turned_in (i ∷ k) ss E o = tt

module _ (fs : List Flow) (first : Steps) (binds : List Text) where
  opens_in : (k : List Item) (ss : Steps) (E : List Own) → Opens fs first binds k ss E → NoJudge k
  opens_in [] ss E o = tt
  opens_in (Judge t m d e ∷ k) ss E o = absurd o
  opens_in (i ∷ k) ss E o = tt

  pub do_in : (k : List Item) (block left : Steps) (E : List Own) → DoStands fs first binds k block left E → NoJudge k
  do_in k block left E (inl d) = by d.0
    where
      by : Opened fs first binds k block E → NoJudge k
      by (inl c) = carried_in k None (Body.Block block) c
      by (inr o) = opens_in k block E o
  do_in k block left E (inr d) = by d.1.2
    where
      by : Entered k d.1.1 d.1.0 → NoJudge k
      by (inl t) = tried_in k d.1.0 t.0
      by (inr a) = carried_in k None (Body.Switch a.0) a.1

  pub mark_in : (k : List Item) (ss : Steps) (E : List Own) → Opens fs first binds (Mark ∷ k) ss E → NoJudge k
  mark_in k ss E (inl o) = turned_in k ss E o
  mark_in k ss E (inr o) = carried_in k None (Body.Try o.0) o.1
