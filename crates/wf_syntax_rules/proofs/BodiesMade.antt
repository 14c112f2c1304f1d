-- Steps, loops, tries and bodies that are made of trees without faults.
use Rattle.std.proofs.Common.{◌≡◌, ◌≤◌, ◌<◌, ℕ, zero, suc, List, [], ◌∷◌, Option, Some, None, Bool, true, false, ◌||◌, if◌then◌else◌, is_some, codes, refl, sym, ap, ◌∙◌, arith}
use Rattle.std.proofs.Common.{map as mapped}
use Rattle.wf_lemmas.proofs.Options.{none_of, some_not_none}
use Rattle.wf_ast.specs.Tree as t
use Rattle.wf_syntax_rules.proofs.Deep.{body_keys}
use Rattle.wf_syntax_rules.proofs.Faultless.{choice_there, demanded, first_there, musts_there, second_there, unless_parts}
use Rattle.wf_syntax_rules.proofs.OneForm.{Form, OneAtMost, one_in_step, one_in_arm, form_there, form_absent, alone, assign_form, call_form, for_form, parallel_form, raise_form, return_form, steps_form, switch_form, try_form, after_steps, after_parallel}
use Rattle.wf_syntax_rules.proofs.Soundness.{sound_own, sound_parts, AllSound, row_all, maybe_is, else_is, at_is, given}
use Rattle.wf_syntax_rules.proofs.ValuesMade.{text_is, variable_is, texts_are, value_is, entries_are, call_is, limit_is, policy_is}
use Rattle.wf_syntax_rules.specs.Faults.{AreSound, IsSound}
use Rattle.wf_syntax_rules.specs.Made.{text_in, items_in, pairs_in, get, value_of, entries_of, call_of, policy_of, step_of, steps_in, steps_at, arms_in, range_of, over_by, loop_of, branches_in, work_by, texts_of, limit_of, parallel_of, tried_of, except_by, try_of, if_there, body_by, body_within, maybe_of}
use Rattle.wf_syntax_rules.specs.Meaning.{AreEntries, AreSteps, AreTexts, ArmsIn, At, BranchesIn, IsBody, IsExcept, IsForm, IsLimit, IsLoop, IsOver, IsParallel, IsPolicy, IsStep, IsText, IsTried, IsValue, IsWork, Maybe, OfList, OfMap, StepsIn}
use Rattle.wf_syntax_rules.specs.Rules.{Role, arm_fault, body_parts, each, map_fault, at}
use Rattle.wf_syntax_words.specs.Fields.{body_fields, field, forms, forms_in, has, has_only}
use Rattle.wf_syntax_rules.specs.Rules as r
use Rattle.wf_syntax_rules.specs.declared.fault.SyntaxKind.TheVariants.{NotAStep, WrongKind}
use Rattle.wf_value.specs.HttpRequest.{is_among}
use Rattle.wf_tree.specs.Trees.{Tree, list, map, Items, no_items, item, Pairs, no_pairs, pair, depth, items_depth, pairs_depth}
use Rattle.wf_value.specs.Pairs.{Text}

-- ## Fields of a node
first_of_two : (p q : Bool) → (p || q) ≡ true → q ≡ false → p ≡ true
first_of_two true q h e = refl
first_of_two false q h e = h' (sym e)
  where
    h' : false ≡ q → false ≡ true
    h' k = k ∙ h

has_none : (k : Text) (fs : Pairs) → field k fs ≡ None → has k fs ≡ false
has_none k fs e = ap is_some e

-- a loop has a list where it has no range
abbrev pub loop_keys : List (Text × Role)
loop_keys = (codes "in", r.Value) ∷ (codes "index", r.VariableName) ∷ (codes "range", r.Range) ∷ (codes "steps", r.Steps) ∷ (codes "value", r.VariableName) ∷ []

abbrev pub parallel_keys : List (Text × Role)
parallel_keys =
    (codes "branches", r.Branches) ∷ (codes "concurrency_limit", r.Limit) ∷ (codes "exception_policy", r.Policy) ∷ (codes "for", r.Loop) ∷ (codes "shared", r.Shared) ∷ []

abbrev pub try_keys : List (Text × Role)
try_keys = (codes "args", r.Arguments) ∷ (codes "call", r.AnyText) ∷ (codes "result", r.VariableName) ∷ (codes "steps", r.Steps) ∷ []

abbrev pub except_keys : List (Text × Role)
except_keys = (codes "as", r.VariableName) ∷ (codes "steps", r.Steps) ∷ []

-- ## Ranges
range_is : (x : Tree) (fs : Pairs) → field (codes "range") fs ≡ Some x → IsSound r.Range x → IsOver (range_of x) fs
range_is (list (item x (item y no_items))) fs e h =
    let p = sound_parts r.Range (list (item x (item y no_items))) h in
    (list (item x (item y no_items)), e, (value_is x p.0, value_is y p.1.0))
range_is x fs e h = absurd (some_not_none WrongKind (sound_own r.Range x h))

over_is : (o : Option Tree) (fs : Pairs) → field (codes "range") fs ≡ o → (has (codes "in") fs || has (codes "range") fs) ≡ true → AreSound (at (codes "in") r.Value fs) → AreSound (r.there (codes "range") r.Range o) → IsOver (over_by o fs) fs
over_is (Some x) fs e there inside range = range_is x fs e range.0
over_is None fs e there inside range =
    (e, at_is value_of IsValue (codes "in") r.Value fs (first_of_two (has (codes "in") fs) (has (codes "range") fs) there (has_none (codes "range") fs e)) inside (λ x d h. value_is x h))

-- ## Forms of bodies
form_by : (o : Option Tree) (make : Tree → t.Body) (others : t.Body) (form : Form) (more : List Form) (fs : Pairs) → field form.0 fs ≡ o → OneAtMost fs
    → is_among form.0 (codes "condition" ∷ []) ≡ false → forms_in forms fs ≡ forms_in (form ∷ more) fs
    → ((x : Tree) → o ≡ Some x → IsForm form.0 fs → IsBody (make x) fs) → (forms_in forms fs ≡ forms_in more fs → IsBody others fs) → IsBody (if_there o make others) fs
form_by (Some x) make others form more fs here one apart e found rest =
    let there : has form.0 fs ≡ true = ap is_some here in
    found x refl (alone form (forms_in more fs) (forms_in forms fs) (e ∙ form_there form more fs there) (one form.0 apart there))
form_by None make others form more fs here one apart e found rest = rest (e ∙ form_absent form more fs (ap is_some here))

-- what is known of the bodies in a body
abbrev pub AreBodies : ℕ → (Pairs → t.Body) → Type 0
AreBodies n body = (gs : Pairs) → pairs_depth gs < n → OneAtMost gs → AreSound (body_parts gs) → IsBody (body gs) gs

module _ (n : ℕ) (body : Pairs → t.Body) (bodies : AreBodies n body) where
  -- ## Steps
  next_is : (fs : Pairs) → AreSound (at (codes "next") r.AnyText fs) → Maybe (maybe_of text_in (codes "next") fs) (codes "next") fs IsText
  next_is fs s = maybe_is text_in IsText (codes "next") r.AnyText fs s (λ x d h. text_is x h)

  in_step : (x : Tree) → depth x ≤ n → IsSound r.Body x → OfMap x (λ fs. IsBody (body (pairs_in x)) fs × Maybe (maybe_of text_in (codes "next") (pairs_in x)) (codes "next") fs IsText)
  in_step (map fs) d h =
      let all = sound_parts r.Body (map fs) h in
      let a = row_all fs body_keys all in
      (bodies fs (omega arith) (one_in_step fs (sound_own r.Body (map fs) h)) all, next_is fs a.1.1.1.1.1.1.0)
  in_step x d h = absurd (some_not_none WrongKind (sound_own r.Body x h))

  step_is : (x : Tree) → depth x ≤ n → IsSound r.Step x → IsStep (step_of body x) x
  step_is (map (pair k y no_pairs)) d h = (refl, in_step y (omega arith) (sound_parts r.Step (map (pair k y no_pairs)) h).0)
  step_is x d h = absurd (some_not_none NotAStep (sound_own r.Step x h))

  steps_are : (i : ℕ) (xs : Items) → items_depth xs ≤ n → AreSound (each r.Step i xs) → StepsIn (steps_in body xs) xs
  steps_are i no_items d h = tt
  steps_are i (item x xs) d h = (step_is x (omega arith) h.0, steps_are (suc i) xs (omega arith) h.1)

  steps_list : (x : Tree) → depth x ≤ n → IsSound r.Steps x → AreSteps (steps_in body (items_in x)) x
  steps_list (list xs) d h = steps_are 0 xs (omega arith) (sound_parts r.Steps (list xs) h)
  steps_list x d h = absurd (some_not_none WrongKind (sound_own r.Steps x h))

  steps_there : (fs : Pairs) → pairs_depth fs ≤ n → has (codes "steps") fs ≡ true → AreSound (at (codes "steps") r.Steps fs) → At (codes "steps") fs (AreSteps (steps_at body fs))
  steps_there fs d there s = at_is (λ x. steps_in body (items_in x)) AreSteps (codes "steps") r.Steps fs there s (λ x e h. steps_list x (omega arith) h)

  -- ## Arms
  condition_there : (fs : Pairs) → arm_fault fs ≡ None → has (codes "condition") fs ≡ true
  condition_there fs e = demanded (has (codes "condition") fs) _ (unless_parts (has_only (codes "condition" ∷ body_fields fs) fs) _ _ e).1

  arm_is : (x : Tree) → depth x ≤ n → IsSound r.Arm x → OfMap x (λ fs. At (codes "condition") fs (IsValue (value_of (get (codes "condition") (pairs_in x)))) × IsBody (body (pairs_in x)) fs × Maybe (maybe_of text_in (codes "next") (pairs_in x)) (codes "next") fs IsText)
  arm_is (map fs) d h =
      let all = sound_parts r.Arm (map fs) h in
      let a = row_all fs body_keys all in
      let e = sound_own r.Arm (map fs) h in (
        at_is value_of IsValue (codes "condition") r.Value fs (condition_there fs e) a.1.1.1.0 (λ x k s. value_is x s),
        bodies fs (omega arith) (one_in_arm fs e) all,
        next_is fs a.1.1.1.1.1.1.0,
      )
  arm_is x d h = absurd (some_not_none WrongKind (sound_own r.Arm x h))

  arms_are : (i : ℕ) (xs : Items) → items_depth xs ≤ n → AreSound (each r.Arm i xs) → ArmsIn (arms_in body xs) xs
  arms_are i no_items d h = tt
  arms_are i (item x xs) d h = (arm_is x (omega arith) h.0, arms_are (suc i) xs (omega arith) h.1)

  arms_list : (x : Tree) → depth x ≤ n → IsSound r.Arms x → OfList x (λ xs. ArmsIn (arms_in body (items_in x)) xs)
  arms_list (list xs) d h = arms_are 0 xs (omega arith) (sound_parts r.Arms (list xs) h)
  arms_list x d h = absurd (some_not_none WrongKind (sound_own r.Arms x h))

  -- ## Loops and parallel steps
  loop_is : (x : Tree) → depth x ≤ n → IsSound r.Loop x → OfMap x (λ fs. IsLoop (loop_of body (pairs_in x)) fs)
  loop_is (map fs) d h =
      let a = row_all fs loop_keys (sound_parts r.Loop (map fs) h) in
      let e = choice_there (codes "in") (codes "range") (codes "steps" ∷ codes "value" ∷ []) (codes "index" ∷ []) fs (sound_own r.Loop (map fs) h) in (
        at_is text_in IsText (codes "value") r.VariableName fs (second_there (codes "steps") (codes "value") [] fs e.1) a.1.1.1.1.0 (λ x k s. variable_is x s),
        maybe_is text_in IsText (codes "index") r.VariableName fs a.1.0 (λ x k s. variable_is x s),
        over_is (field (codes "range") fs) fs refl e.0 a.0 a.1.1.0,
        steps_there fs (omega arith) (first_there (codes "steps") (codes "value" ∷ []) fs e.1) a.1.1.1.0,
      )
  loop_is x d h = absurd (some_not_none WrongKind (sound_own r.Loop x h))

  in_branch : (x : Tree) → depth x ≤ n → IsSound r.Block x → OfMap x (λ fs. At (codes "steps") fs (AreSteps (steps_at body (pairs_in x))))
  in_branch (map fs) d h =
      let a = row_all fs ((codes "steps", r.Steps) ∷ []) (sound_parts r.Block (map fs) h) in
      steps_there fs (omega arith) (first_there (codes "steps") [] fs (musts_there (codes "steps" ∷ []) [] fs (sound_own r.Block (map fs) h))) a.0
  in_branch x d h = absurd (some_not_none WrongKind (sound_own r.Block x h))

  branches_are : (i : ℕ) (xs : Items) → items_depth xs ≤ n → AreSound (each r.Branch i xs) → BranchesIn (branches_in body xs) xs
  branches_are i no_items d h = tt
  branches_are i (item (map (pair k y no_pairs)) xs) d h =
      ((refl, in_branch y (omega arith) (sound_parts r.Branch (map (pair k y no_pairs)) h.0).0), branches_are (suc i) xs (omega arith) h.1)
  branches_are i (item x xs) d h = absurd (some_not_none NotAStep (sound_own r.Branch x h.0))

  branches_list : (x : Tree) → depth x ≤ n → IsSound r.Branches x → OfList x (λ xs. BranchesIn (branches_in body (items_in x)) xs)
  branches_list (list xs) d h = branches_are 0 xs (omega arith) (sound_parts r.Branches (list xs) h)
  branches_list x d h = absurd (some_not_none WrongKind (sound_own r.Branches x h))

  work_is : (o : Option Tree) (fs : Pairs) → field (codes "for") fs ≡ o → pairs_depth fs ≤ n → (has (codes "branches") fs || has (codes "for") fs) ≡ true → AreSound (at (codes "branches") r.Branches fs) → ((x : Tree) → o ≡ Some x → OfMap x (λ gs. IsLoop (loop_of body (pairs_in x)) gs)) → IsWork (work_by body o fs) fs
  work_is (Some x) fs e d there branches loop = (x, e, loop x refl)
  work_is None fs e d there branches loop = (
    e,
    at_is (λ x. branches_in body (items_in x)) (λ bs x. OfList x (λ xs. BranchesIn bs xs)) (codes "branches") r.Branches fs
        (first_of_two (has (codes "branches") fs) (has (codes "for") fs) there (has_none (codes "for") fs e)) branches (λ x k s. branches_list x (omega arith) s),
  )

  parallel_is : (x : Tree) → depth x ≤ n → IsSound r.Parallel x → OfMap x (λ fs. IsParallel (parallel_of body (pairs_in x)) fs)
  parallel_is (map fs) d h =
      let a = row_all fs parallel_keys (sound_parts r.Parallel (map fs) h) in
      let e = choice_there (codes "branches") (codes "for") [] (codes "concurrency_limit" ∷ codes "exception_policy" ∷ codes "shared" ∷ []) fs (sound_own r.Parallel (map fs) h) in (
        else_is [] texts_of AreTexts (codes "shared") r.Shared fs a.1.1.1.1.0 (λ x k s. texts_are x s),
        maybe_is limit_of IsLimit (codes "concurrency_limit") r.Limit fs a.1.0 (λ x k s. limit_is x s),
        work_is (field (codes "for") fs) fs refl (omega arith) e.0 a.0 (given (codes "for") r.Loop fs (λ x. OfMap x (λ gs. IsLoop (loop_of body (pairs_in x)) gs)) a.1.1.1.0 (λ x k s. loop_is x (omega arith) s)),
      )
  parallel_is x d h = absurd (some_not_none WrongKind (sound_own r.Parallel x h))

  -- ## Tries
  tried_by : (b : Bool) (fs : Pairs) → has (codes "call") fs ≡ b → pairs_depth fs ≤ n
      → (if b then map_fault (codes "call" ∷ []) (codes "args" ∷ codes "result" ∷ []) fs else map_fault (codes "steps" ∷ []) [] fs) ≡ None
      → AllSound fs try_keys → IsTried (if b then t.Body.Call (call_of fs) else t.Body.Block (steps_at body fs)) fs
  tried_by true fs e d none a = call_is fs e a.0 a.1.0 a.1.1.0
  tried_by false fs e d none a =
      (none_of (field (codes "call") fs) e, steps_there fs d (first_there (codes "steps") [] fs (musts_there (codes "steps" ∷ []) [] fs none)) a.1.1.1.0)

  tried_is : (x : Tree) → depth x ≤ n → IsSound r.Try x → OfMap x (λ fs. IsTried (tried_of body (pairs_in x)) fs)
  tried_is (map fs) d h = tried_by (has (codes "call") fs) fs refl (omega arith) (sound_own r.Try (map fs) h) (row_all fs try_keys (sound_parts r.Try (map fs) h))
  tried_is x d h = absurd (some_not_none WrongKind (sound_own r.Try x h))

  in_except : (x : Tree) → depth x ≤ n → IsSound r.Except x → OfMap x (λ gs. At (codes "as") gs (IsText (text_in (get (codes "as") (pairs_in x)))) × At (codes "steps") gs (AreSteps (steps_at body (pairs_in x))))
  in_except (map fs) d h =
      let a = row_all fs except_keys (sound_parts r.Except (map fs) h) in
      let e = musts_there (codes "as" ∷ codes "steps" ∷ []) [] fs (sound_own r.Except (map fs) h) in (
        at_is text_in IsText (codes "as") r.VariableName fs (first_there (codes "as") (codes "steps" ∷ []) fs e) a.0 (λ x k s. variable_is x s),
        steps_there fs (omega arith) (second_there (codes "as") (codes "steps") [] fs e) a.1.0,
      )
  in_except x d h = absurd (some_not_none WrongKind (sound_own r.Except x h))

  except_is : (o : Option Tree) (fs : Pairs) → field (codes "except") fs ≡ o
      → ((x : Tree) → o ≡ Some x → OfMap x (λ gs. At (codes "as") gs (IsText (text_in (get (codes "as") (pairs_in x)))) × At (codes "steps") gs (AreSteps (steps_at body (pairs_in x)))))
      → IsExcept (except_by body o) fs
  except_is (Some x) fs e h = (x, e, h x refl)
  except_is None fs e h = e

  -- ## A body
  body_is : (fs : Pairs) → pairs_depth fs ≤ n → OneAtMost fs → AreSound (body_parts fs) → IsBody (body_by body fs) fs
  body_is fs d one s =
      let a = row_all fs body_keys s in
      let args = a.0 in
      let assign = a.1.0 in
      let call = a.1.1.0 in
      let b = a.1.1.1.1 in
      let except = b.0 in
      let repeated = b.1.0 in
      let c = b.1.1.1 in
      let parallel = c.0 in
      let raised = c.1.0 in
      let result = c.1.1.0 in
      let e = c.1.1.1 in
      let retry = e.0 in
      let returned = e.1.0 in
      let steps = e.1.1.0 in
      let switch = e.1.1.1.0 in
      let tried = e.1.1.1.1.0 in
      form_by (field (codes "assign") fs) (λ x. t.Body.Assign (entries_of x)) _ assign_form (call_form ∷ for_form ∷ parallel_form ∷ after_parallel) fs refl one refl refl
      (λ x is f. (f, (x, is, given (codes "assign") r.Entries fs (λ y. AreEntries (entries_of y) y) assign (λ y k h. entries_are y h) x is))) (λ g.
      form_by (field (codes "call") fs) (λ x. t.Body.Call (call_of fs)) _ call_form (for_form ∷ parallel_form ∷ after_parallel) fs refl one refl g
      (λ x is f. (f, call_is fs (ap is_some is) args call result)) (λ g.
      form_by (field (codes "for") fs) (λ x. t.Body.For (loop_of body (pairs_in x))) _ for_form (parallel_form ∷ after_parallel) fs refl one refl g
      (λ x is f. (f, (x, is, given (codes "for") r.Loop fs (λ y. OfMap y (λ gs. IsLoop (loop_of body (pairs_in y)) gs)) repeated (λ y k h. loop_is y (omega arith) h) x is))) (λ g.
      form_by (field (codes "parallel") fs) (λ x. t.Body.Parallel (parallel_of body (pairs_in x))) _ parallel_form after_parallel fs refl one refl g
      (λ x is f. (f, (x, is, given (codes "parallel") r.Parallel fs (λ y. OfMap y (λ gs. IsParallel (parallel_of body (pairs_in y)) gs)) parallel (λ y k h. parallel_is y (omega arith) h) x is))) (λ g.
      form_by (field (codes "raise") fs) (λ x. t.Body.Raise (value_of x)) _ raise_form (return_form ∷ steps_form ∷ after_steps) fs refl one refl g
      (λ x is f. (f, (x, is, given (codes "raise") r.Value fs (λ y. IsValue (value_of y) y) raised (λ y k h. value_is y h) x is))) (λ g.
      form_by (field (codes "return") fs) (λ x. t.Body.Return (value_of x)) _ return_form (steps_form ∷ after_steps) fs refl one refl g
      (λ x is f. (f, (x, is, given (codes "return") r.Value fs (λ y. IsValue (value_of y) y) returned (λ y k h. value_is y h) x is))) (λ g.
      form_by (field (codes "steps") fs) (λ x. t.Body.Block (steps_in body (items_in x))) _ steps_form after_steps fs refl one refl g
      (λ x is f. (f, (x, is, given (codes "steps") r.Steps fs (λ y. AreSteps (steps_in body (items_in y)) y) steps (λ y k h. steps_list y (omega arith) h) x is))) (λ g.
      form_by (field (codes "switch") fs) (λ x. t.Body.Switch (arms_in body (items_in x))) _ switch_form (try_form ∷ []) fs refl one refl g
      (λ x is f. (f, (x, is, given (codes "switch") r.Arms fs (λ y. OfList y (λ ys. ArmsIn (arms_in body (items_in y)) ys)) switch (λ y k h. arms_list y (omega arith) h) x is))) (λ g.
      form_by (field (codes "try") fs) (λ x. t.Body.Try (try_of body fs)) t.Body.Nothing try_form [] fs refl one refl g
      (λ x is f. (
        f,
        (
          at_is (λ y. tried_of body (pairs_in y)) (λ b y. OfMap y (λ gs. IsTried b gs)) (codes "try") r.Try fs (ap is_some is) tried (λ y k h. tried_is y (omega arith) h),
          maybe_is policy_of IsPolicy (codes "retry") r.Retry fs retry (λ y k h. policy_is y h),
          except_is (field (codes "except") fs) fs refl (given (codes "except") r.Except fs (λ y. OfMap y (λ gs. At (codes "as") gs (IsText (text_in (get (codes "as") (pairs_in y)))) × At (codes "steps") gs (AreSteps (steps_at body (pairs_in y))))) except (λ y k h. in_except y (omega arith) h)),
        ),
      )) (λ g. ap (mapped (λ f. f.0)) g)))))))))

-- ## Any depth
pub bodies_are : (n : ℕ) → AreBodies n (body_within n)
unfolding body_within
bodies_are zero gs d one s = absurd (omega arith)
bodies_are (suc n) gs d one s = body_is n (body_within n) (bodies_are n) gs (omega arith) one s

pub steps_made : (n : ℕ) (fs : Pairs) → pairs_depth fs ≤ n → has (codes "steps") fs ≡ true → AreSound (at (codes "steps") r.Steps fs) → At (codes "steps") fs (AreSteps (steps_at (body_within n) fs))
steps_made n fs d there s = steps_there n (body_within n) (bodies_are n) fs d there s
