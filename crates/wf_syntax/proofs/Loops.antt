-- Loops, parallel steps, tries and what takes their errors, from their fields.
use Rattle.std.proofs.Common.{◌≡◌, ℕ, List, [], ◌∷◌, Option, Some, None, codes, refl, sym, subst}
use Rattle.wf_ast.proofs.Views.{steps_level}
use Rattle.wf_ast.specs.Tree as t
use Rattle.wf_ast.specs.View.{steps_in, steps_view}
use Rattle.wf_ast.specs.declared.body.StepList.{StepList}
use Rattle.wf_syntax_rules.specs.Faults.{AreSound}
use Rattle.wf_syntax_rules.specs.Meaning.{AreSteps, AreTexts, At, Else, IsLimit, IsOver, IsRange, IsText, IsTried, IsValue, IsWork, Maybe}
use Rattle.wf_syntax_rules.specs.Rules.{Block, Except, Loop, Parallel, Try, Steps, at, loop_fault, map_fault, parallel_fault, try_fault}
use Rattle.wf_syntax_words.specs.Fields.{has}
use Rattle.wf_syntax.proofs.Nodes.{map_sound}
use Rattle.wf_syntax.proofs.Rows.{AllSound, except_keys, loop_keys, parallel_keys, row_sound, try_keys}
use Rattle.wf_syntax.specs.Answers.{IsSoundAnd}
use Rattle.wf_syntax.specs.Forms.{AreBranches, IsBlock, IsHandler, IsLoopMap, IsParallelMap, IsTriedMap, loop_of, over_of, work_of}
use Rattle.wf_tree.specs.Trees.{Tree, map, Pairs}
use Rattle.wf_value.specs.Pairs.{Text}

-- the steps at a key, as what holds them has them
steps_there : (ss : StepList) (fs : Pairs) → At (codes "steps") fs (AreSteps (steps_in ss)) → At (codes "steps") fs (AreSteps (t.steps (steps_view ss)))
steps_there ss fs h = subst (λ l. At (codes "steps") fs (AreSteps l)) (steps_level ss) h

-- ## Loops

-- what is run over, of a list and a range
pub over_given : (o : t.Over) (v : Option t.Template) (r : Option (t.Template × t.Template)) (fs : Pairs) → Some o ≡ over_of v r
    → Maybe v (codes "in") fs IsValue → Maybe r (codes "range") fs (λ e x. IsRange e.0 e.1 x) → IsOver o fs
over_given o v (Some r) fs e list range = let is : o ≡ t.InRange r.0 r.1 = cc in subst (λ y. IsOver y fs) (sym is) range
over_given o (Some v) None fs e list range = let is : o ≡ t.InList v = cc in subst (λ y. IsOver y fs) (sym is) (range, list)
over_given o None None fs e list range = let x : ⊥ = cc in absurd x

-- a loop that is made of its parts
pub loop_given : (x : Tree) (fs : Pairs) (l : t.LoopBody) (v : Option t.Template) (i : Option Text) (r : Option (t.Template × t.Template)) (ss : Option t.Steps) (value : Option Text)
    → Some l ≡ loop_of (over_of v r) i ss value → x ≡ map fs → loop_fault fs ≡ None → AllSound fs loop_keys
    → Maybe v (codes "in") fs IsValue → Maybe i (codes "index") fs IsText → Maybe r (codes "range") fs (λ e y. IsRange e.0 e.1 y)
    → Maybe ss (codes "steps") fs AreSteps → Maybe value (codes "value") fs IsText → IsSoundAnd Loop x (IsLoopMap l x)
loop_given x fs l v i r ss value made is e all list index range steps named = by_over (over_of v r) refl ss value made steps named
  where
    by_over : (o : Option t.Over) → o ≡ over_of v r → (ss : Option t.Steps) (value : Option Text) → Some l ≡ loop_of o i ss value → Maybe ss (codes "steps") fs AreSteps
        → Maybe value (codes "value") fs IsText → IsSoundAnd Loop x (IsLoopMap l x)
    by_over (Some o) same (Some ss) (Some value) made steps named =
        let l_is : l ≡ t.loop value i o ss = cc in (
          map_sound Loop x fs is e (λ f z. z) (row_sound fs loop_keys all),
          subst (λ y. IsLoopMap l y) (sym is) (subst (λ m. IsLoopMap m (map fs)) (sym l_is) (named, index, over_given o v r fs same list range, steps)),
        )
    by_over (Some o) same (Some ss) None made steps named = let y : ⊥ = cc in absurd y
    by_over (Some o) same None value made steps named = let y : ⊥ = cc in absurd y
    by_over None same ss value made steps named = let y : ⊥ = cc in absurd y

-- ## Parallel steps
pub work_given : (w : t.Work) (bs : Option t.Branches) (l : Option t.LoopBody) (fs : Pairs) → Some w ≡ work_of bs l
    → Maybe bs (codes "branches") fs AreBranches → Maybe l (codes "for") fs IsLoopMap → IsWork w fs
work_given w bs (Some l) fs e branches repeated = let is : w ≡ t.OfLoop l = cc in subst (λ y. IsWork y fs) (sym is) repeated
work_given w (Some bs) None fs e branches repeated = let is : w ≡ t.OfBranches bs = cc in subst (λ y. IsWork y fs) (sym is) (repeated, branches)
work_given w None None fs e branches repeated = let x : ⊥ = cc in absurd x

pub parallel_given : (x : Tree) (fs : Pairs) (shared : List Text) (limit : Option ℕ) (work : t.Work) → x ≡ map fs → parallel_fault fs ≡ None → AllSound fs parallel_keys
    → Else shared [] (codes "shared") fs AreTexts → Maybe limit (codes "concurrency_limit") fs IsLimit → IsWork work fs → IsSoundAnd Parallel x (IsParallelMap (t.parallel shared limit work) x)
parallel_given x fs shared limit work is e all are most works = (
  map_sound Parallel x fs is e (λ f z. z) (row_sound fs parallel_keys all),
  subst (λ y. IsParallelMap (t.parallel shared limit work) y) (sym is) (are, most, works),
)

-- ## Tries
pub tried_given : (x : Tree) (fs : Pairs) (b : t.Body) → x ≡ map fs → try_fault fs ≡ None → AllSound fs try_keys → IsTried b fs → IsSoundAnd Try x (IsTriedMap b x)
tried_given x fs b is e all h = (map_sound Try x fs is e (λ f z. z) (row_sound fs try_keys all), subst (λ y. IsTriedMap b y) (sym is) h)

-- ## What takes an error
abbrev except_musts : List Text
except_musts = codes "as" ∷ codes "steps" ∷ []

pub except_given : (x : Tree) (fs : Pairs) (h : t.Except) (name : Text) (ss : StepList) → x ≡ map fs → map_fault except_musts [] fs ≡ None → AllSound fs except_keys
    → h ≡ t.except name (t.steps (steps_view ss)) → At (codes "as") fs (IsText name) → At (codes "steps") fs (AreSteps (steps_in ss)) → IsSoundAnd Except x (IsHandler h x)
except_given x fs h name ss is e all made named steps = (
  map_sound Except x fs is e (λ f z. z) (row_sound fs except_keys all),
  subst (λ y. IsHandler h y) (sym is) (subst (λ m. IsHandler m (map fs)) (sym made) (named, steps_there ss fs steps)),
)

-- ## Blocks
pub block_given : (x : Tree) (fs : Pairs) (ss : t.Steps) → x ≡ map fs → map_fault (codes "steps" ∷ []) [] fs ≡ None → AreSound (at (codes "steps") Steps fs) → At (codes "steps") fs (AreSteps ss)
    → IsSoundAnd Block x (IsBlock ss x)
block_given x fs ss is e all h = (map_sound Block x fs is e (λ f z. z) all, subst (λ y. IsBlock ss y) (sym is) h)
