-- A tree is one program at most.
use Rattle.std.proofs.Common.{◌≡◌, ℕ, Bool, true, false, bytes_eq, length, List, [], ◌∷◌, Option, Some, None, codes, refl, sym, ap, ◌∙◌}
use Rattle.std.proofs.lemmas.Bool.{true≢false}
use Rattle.std.proofs.lemmas.Option.{same_Some}
use Rattle.wf_ast.specs.Tree as t
use Rattle.wf_ast.specs.Tree.{Template}
use Rattle.wf_expr.specs.Targets.{OneTarget}
use Rattle.wf_syntax_rules.proofs.Values.{both_at, both_lists, both_maps, both_singles, one_each, one_else, one_literal, one_maybe, one_named, one_text, one_value}
use Rattle.wf_syntax_rules.specs.Laws.{OneProgram}
use Rattle.wf_syntax_rules.specs.Meaning.{ArmsIn, AreArguments, AreEntries, AreParams, AreTexts, At, BranchesIn, FlowsIn, IsAttempts, IsBackoff, IsBody, IsCall, IsEntry, IsExcept, IsFlow, IsLimit, IsLoop, IsOver, IsParallel, IsParam, IsPolicy, IsPredicate, IsProgram, IsRange, IsStep, IsText, IsThousandths, IsTried, IsTry, IsValue, IsWork, OfList, OfMap, StepsIn, others}
use Rattle.wf_syntax_rules.specs.Faults.{rooted}
use Rattle.wf_syntax_words.specs.Fields.{field, form_names}
use Rattle.wf_expr.specs.Texts.{OneTemplate}
use Rattle.wf_tree.specs.Trees.{Tree, text, list, map, Items, no_items, item, Pairs, no_pairs, pair}
use Rattle.wf_value.specs.Data as values
use Rattle.wf_value.specs.Pairs.{Text}
use Rattle.wf_value.specs.declared.Backoff.{Backoff}

-- ## Assignments and calls
entry_eq : (d e : t.Entry) → d.target ≡ e.target → d.value ≡ e.value → d ≡ e
entry_eq d e h g =
    let a : d ≡ record { target = e.target; value = d.value } = ap (λ (x : t.Target). record { target = x; value = d.value }) h in
    a ∙ ap (λ (v : Template). record { target = e.target; value = v }) g

one_entry : OneTemplate → OneTarget → (d e : t.Entry) (x : Tree) → IsEntry d x → IsEntry e x → d ≡ e
one_entry o q d e (map (pair k x no_pairs)) h g = entry_eq d e (q k d.target e.target h.0 g.0) (one_value o d.value e.value x h.1 g.1)
one_entry o q d e x h g = absurd h

one_entries : OneTemplate → OneTarget → (ds es : List t.Entry) (x : Tree) → AreEntries ds x → AreEntries es x → ds ≡ es
one_entries o q ds es (list xs) h g = one_each IsEntry (one_entry o q) ds es xs h g
one_entries o q ds es x h g = absurd h

one_arguments : OneTemplate → (fs gs : t.Fields) (x : Tree) → AreArguments fs x → AreArguments gs x → fs ≡ gs
one_arguments o fs gs (map ps) h g = one_named o fs gs ps h g
one_arguments o fs gs x h g = absurd h

call_eq : (c d : t.CallBody) → c.name ≡ d.name → c.args ≡ d.args → c.result ≡ d.result → c ≡ d
call_eq c d h g k =
    let a : c ≡ record { name = d.name; args = c.args; result = c.result } = ap (λ (x : Text). record { name = x; args = c.args; result = c.result }) h in
    let b : record { name = d.name; args = c.args; result = c.result } ≡ record { name = d.name; args = d.args; result = c.result } = ap (λ (x : t.Fields). record { name = d.name; args = x; result = c.result }) g in
    a ∙ b ∙ ap (λ (x : Option Text). record { name = d.name; args = d.args; result = x }) k

one_call : OneTemplate → (c d : t.CallBody) (fs : Pairs) → IsCall c fs → IsCall d fs → c ≡ d
one_call o c d fs h g =
    let n = both_at (codes "call") fs (IsText c.name) (IsText d.name) h.0 g.0 in
    call_eq c d (one_text c.name d.name n.0 n.1 n.2) (one_else AreArguments (one_arguments o) c.args d.args t.no_fields (codes "args") fs h.1 g.1) (one_maybe IsText one_text c.result d.result (codes "result") fs h.2 g.2)

one_texts : (ss rs : List Text) (x : Tree) → AreTexts ss x → AreTexts rs x → ss ≡ rs
one_texts ss rs (list xs) h g = one_each IsText one_text ss rs xs h g
one_texts ss rs x h g = absurd h

-- ## Policies
one_thousandths : (n m : ℕ) (x : Tree) → IsThousandths n x → IsThousandths m x → n ≡ m
one_thousandths n m x h g = same_Some n m (sym h ∙ g)

one_attempts : (n m : ℕ) (x : Tree) → IsAttempts n x → IsAttempts m x → n ≡ m
one_attempts n m x h g = same_Some n m (sym h ∙ g)

one_limit : (n m : ℕ) (x : Tree) → IsLimit n x → IsLimit m x → n ≡ m
one_limit n m x h g = same_Some n m (sym h ∙ g)

one_predicate : (p q : t.Predicate) (x : Tree) → IsPredicate p x → IsPredicate q x → p ≡ q
one_predicate p q (text s) h g = h ∙ sym g
one_predicate p q x h g = absurd h

backoff_eq : (b c : Backoff) → b.initial ≡ c.initial → b.max ≡ c.max → b.multiplier ≡ c.multiplier → b ≡ c
backoff_eq b c h g k =
    let x : b ≡ record { initial = c.initial; max = b.max; multiplier = b.multiplier } = ap (λ (n : ℕ). record { initial = n; max = b.max; multiplier = b.multiplier }) h in
    let y : record { initial = c.initial; max = b.max; multiplier = b.multiplier } ≡ record { initial = c.initial; max = c.max; multiplier = b.multiplier } = ap (λ (n : ℕ). record { initial = c.initial; max = n; multiplier = b.multiplier }) g in
    x ∙ y ∙ ap (λ (n : ℕ). record { initial = c.initial; max = c.max; multiplier = n }) k

one_backoff : (b c : Backoff) (x : Tree) → IsBackoff b x → IsBackoff c x → b ≡ c
one_backoff b c (map fs) h g =
    backoff_eq b c (one_else IsThousandths one_thousandths b.initial c.initial _ (codes "initial_delay") fs h.0 g.0)
    (one_else IsThousandths one_thousandths b.max c.max _ (codes "max_delay") fs h.1 g.1)
    (one_else IsThousandths one_thousandths b.multiplier c.multiplier _ (codes "multiplier") fs h.2 g.2)
one_backoff b c x h g = absurd h

policy_eq : (p q : t.Policy) → p.predicate ≡ q.predicate → p.max_retries ≡ q.max_retries → p.backoff ≡ q.backoff → p ≡ q
policy_eq p q h g k =
    let x : p ≡ record { predicate = q.predicate; max_retries = p.max_retries; backoff = p.backoff } = ap (λ (n : t.Predicate). record { predicate = n; max_retries = p.max_retries; backoff = p.backoff }) h in
    let y : record { predicate = q.predicate; max_retries = p.max_retries; backoff = p.backoff } ≡ record { predicate = q.predicate; max_retries = q.max_retries; backoff = p.backoff } = ap (λ (n : ℕ). record { predicate = q.predicate; max_retries = n; backoff = p.backoff }) g in
    x ∙ y ∙ ap (λ (n : Backoff). record { predicate = q.predicate; max_retries = q.max_retries; backoff = n }) k

one_policy : (p q : t.Policy) (x : Tree) → IsPolicy p x → IsPolicy q x → p ≡ q
one_policy p q (text s) h g = h ∙ sym g
one_policy p q (map fs) h g =
    policy_eq p q (one_else IsPredicate one_predicate p.predicate q.predicate _ (codes "predicate") fs h.0 g.0)
    (one_else IsAttempts one_attempts p.max_retries q.max_retries _ (codes "max_retries") fs h.1 g.1)
    (one_else IsBackoff one_backoff p.backoff q.backoff _ (codes "backoff") fs h.2 g.2)
one_policy p q x h g = absurd h

-- ## Loops and parallel steps
both_ends : (a b c d : Template) (x : Tree) → OneTemplate → IsRange a b x → IsRange c d x → t.InRange a b ≡ t.InRange c d
both_ends a b c d (list (item x (item y no_items))) o h g = ap (λ v. t.InRange v b) (one_value o a c x h.0 g.0) ∙ ap (t.InRange c) (one_value o b d y h.1 g.1)
both_ends a b c d x o h g = absurd h

not_there : (k : Text) (fs : Pairs) (Is : Tree → Type 0) → field k fs ≡ None → At k fs Is → ⊥
not_there k fs Is e h = let p : None ≡ Some h.0 = sym e ∙ h.1 in cc

one_over : OneTemplate → (v w : t.Over) (fs : Pairs) → IsOver v fs → IsOver w fs → v ≡ w
one_over o (t.InList v) (t.InList w) fs h g = let q = both_at (codes "in") fs (IsValue v) (IsValue w) h.1 g.1 in ap t.InList (one_value o v w q.0 q.1 q.2)
one_over o (t.InList v) (t.InRange a b) fs h g = absurd (not_there (codes "range") fs (IsRange a b) h.0 g)
one_over o (t.InRange a b) (t.InList v) fs h g = absurd (not_there (codes "range") fs (IsRange a b) g.0 h)
one_over o (t.InRange a b) (t.InRange c d) fs h g = let q = both_at (codes "range") fs (IsRange a b) (IsRange c d) h g in both_ends a b c d q.0 o q.1 q.2

-- ## Bodies
abbrev form_name : t.Body → List Text
form_name t.Body.Nothing = []
form_name (t.Body.Assign es) = codes "assign" ∷ []
form_name (t.Body.Call c) = codes "call" ∷ []
form_name (t.Body.Switch arms) = codes "switch" ∷ []
form_name (t.Body.For l) = codes "for" ∷ []
form_name (t.Body.Parallel p) = codes "parallel" ∷ []
form_name (t.Body.Block ss) = codes "steps" ∷ []
form_name (t.Body.Try y) = codes "try" ∷ []
form_name (t.Body.Raise v) = codes "raise" ∷ []
form_name (t.Body.Return v) = codes "return" ∷ []

form_is : (b : t.Body) (fs : Pairs) → IsBody b fs → form_names fs ≡ form_name b
form_is t.Body.Nothing fs h = h
form_is (t.Body.Assign es) fs h = h.0
form_is (t.Body.Call c) fs h = h.0
form_is (t.Body.Switch arms) fs h = h.0
form_is (t.Body.For l) fs h = h.0
form_is (t.Body.Parallel p) fs h = h.0
form_is (t.Body.Block ss) fs h = h.0
form_is (t.Body.Try y) fs h = h.0
form_is (t.Body.Raise v) fs h = h.0
form_is (t.Body.Return v) fs h = h.0

abbrev names_are : List Text → Text → Bool
names_are (k ∷ []) j = bytes_eq k j
names_are l j = false

-- a body of the same form
same_form : (b c : t.Body) (fs : Pairs) → IsBody b fs → IsBody c fs → form_name c ≡ form_name b
same_form b c fs h g = sym (form_is c fs g) ∙ form_is b fs h

is_nothing : (c : t.Body) → form_name c ≡ [] → c ≡ t.Body.Nothing
is_nothing t.Body.Nothing e = refl
is_nothing c e = let p : 1 ≡ 0 = ap length e in cc

is_assign : (c : t.Body) (fs : Pairs) → form_name c ≡ codes "assign" ∷ [] → IsBody c fs → (es : List t.Entry) × (c ≡ t.Body.Assign es) × At (codes "assign") fs (AreEntries es)
is_assign (t.Body.Assign es) fs e h = (es, refl, h.1)
is_assign c fs e h = let p : false ≡ true = ap (λ l. names_are l (codes "assign")) e in absurd (true≢false (sym p))

is_call : (c : t.Body) (fs : Pairs) → form_name c ≡ codes "call" ∷ [] → IsBody c fs → (d : t.CallBody) × (c ≡ t.Body.Call d) × IsCall d fs
is_call (t.Body.Call d) fs e h = (d, refl, h.1)
is_call c fs e h = let p : false ≡ true = ap (λ l. names_are l (codes "call")) e in absurd (true≢false (sym p))

is_switch : (c : t.Body) (fs : Pairs) → form_name c ≡ codes "switch" ∷ [] → IsBody c fs → (arms : t.Arms) × (c ≡ t.Body.Switch arms) × At (codes "switch") fs (λ x. OfList x (λ xs. ArmsIn arms xs))
is_switch (t.Body.Switch arms) fs e h = (arms, refl, h.1)
is_switch c fs e h = let p : false ≡ true = ap (λ l. names_are l (codes "switch")) e in absurd (true≢false (sym p))

is_for : (c : t.Body) (fs : Pairs) → form_name c ≡ codes "for" ∷ [] → IsBody c fs → (l : t.LoopBody) × (c ≡ t.Body.For l) × At (codes "for") fs (λ x. OfMap x (λ gs. IsLoop l gs))
is_for (t.Body.For l) fs e h = (l, refl, h.1)
is_for c fs e h = let p : false ≡ true = ap (λ l. names_are l (codes "for")) e in absurd (true≢false (sym p))

is_parallel : (c : t.Body) (fs : Pairs) → form_name c ≡ codes "parallel" ∷ [] → IsBody c fs → (q : t.ParallelBody) × (c ≡ t.Body.Parallel q) × At (codes "parallel") fs (λ x. OfMap x (λ gs. IsParallel q gs))
is_parallel (t.Body.Parallel q) fs e h = (q, refl, h.1)
is_parallel c fs e h = let p : false ≡ true = ap (λ l. names_are l (codes "parallel")) e in absurd (true≢false (sym p))

is_block : (c : t.Body) (fs : Pairs) → form_name c ≡ codes "steps" ∷ [] → IsBody c fs → (ss : t.Steps) × (c ≡ t.Body.Block ss) × At (codes "steps") fs (λ x. OfList x (λ xs. StepsIn ss xs))
is_block (t.Body.Block ss) fs e h = (ss, refl, h.1)
is_block c fs e h = let p : false ≡ true = ap (λ l. names_are l (codes "steps")) e in absurd (true≢false (sym p))

is_try : (c : t.Body) (fs : Pairs) → form_name c ≡ codes "try" ∷ [] → IsBody c fs → (y : t.TryBody) × (c ≡ t.Body.Try y) × IsTry y fs
is_try (t.Body.Try y) fs e h = (y, refl, h.1)
is_try c fs e h = let p : false ≡ true = ap (λ l. names_are l (codes "try")) e in absurd (true≢false (sym p))

is_raise : (c : t.Body) (fs : Pairs) → form_name c ≡ codes "raise" ∷ [] → IsBody c fs → (v : Template) × (c ≡ t.Body.Raise v) × At (codes "raise") fs (IsValue v)
is_raise (t.Body.Raise v) fs e h = (v, refl, h.1)
is_raise c fs e h = let p : false ≡ true = ap (λ l. names_are l (codes "raise")) e in absurd (true≢false (sym p))

is_return : (c : t.Body) (fs : Pairs) → form_name c ≡ codes "return" ∷ [] → IsBody c fs → (v : Template) × (c ≡ t.Body.Return v) × At (codes "return") fs (IsValue v)
is_return (t.Body.Return v) fs e h = (v, refl, h.1)
is_return c fs e h = let p : false ≡ true = ap (λ l. names_are l (codes "return")) e in absurd (true≢false (sym p))

parallel_eq : (s r : List Text) (l m : Option ℕ) (v w : t.Work) → s ≡ r → l ≡ m → v ≡ w → t.parallel s l v ≡ t.parallel r m w
parallel_eq s r l m v w h g k = ap (λ x. t.parallel x l v) h ∙ ap (λ x. t.parallel r x v) g ∙ ap (t.parallel r m) k

loop_eq : (v w : Text) (i j : Option Text) (a b : t.Over) (ss rs : t.Steps) → v ≡ w → i ≡ j → a ≡ b → ss ≡ rs → t.loop v i a ss ≡ t.loop w j b rs
loop_eq v w i j a b ss rs h g k m = ap (λ x. t.loop x i a ss) h ∙ ap (λ x. t.loop w x a ss) g ∙ ap (λ x. t.loop w j x ss) k ∙ ap (t.loop w j b) m

step_eq : (k j : Text) (b c : t.Body) (n m : Option Text) → k ≡ j → b ≡ c → n ≡ m → t.step k b n ≡ t.step j c m
step_eq k j b c n m h g p = ap (λ x. t.step x b n) h ∙ ap (λ x. t.step j x n) g ∙ ap (t.step j c) p

arm_eq : (a b : Template) (c d : t.Body) (n m : Option Text) (x y : t.Arms) → a ≡ b → c ≡ d → n ≡ m → x ≡ y → t.arm a c n x ≡ t.arm b d m y
arm_eq a b c d n m x y h g k p = ap (λ z. t.arm z c n x) h ∙ ap (λ z. t.arm b z n x) g ∙ ap (λ z. t.arm b d z x) k ∙ ap (t.arm b d m) p

branch_eq : (k j : Text) (ss rs : t.Steps) (x y : t.Branches) → k ≡ j → ss ≡ rs → x ≡ y → t.branch k ss x ≡ t.branch j rs y
branch_eq k j ss rs x y h g p = ap (λ z. t.branch z ss x) h ∙ ap (λ z. t.branch j z x) g ∙ ap (t.branch j rs) p

try_eq : (b c : t.Body) (p q : Option t.Policy) (x y : t.Except) → b ≡ c → p ≡ q → x ≡ y → t.try b p x ≡ t.try c q y
try_eq b c p q x y h g k = ap (λ z. t.try z p x) h ∙ ap (λ z. t.try c z x) g ∙ ap (t.try c q) k

-- two lists of steps of one field
steps_found : (k : Text) (ss rs : t.Steps) (fs : Pairs) → At k fs (λ x. OfList x (λ xs. StepsIn ss xs)) → At k fs (λ x. OfList x (λ xs. StepsIn rs xs)) → (xs : Items) × StepsIn ss xs × StepsIn rs xs
steps_found k ss rs fs h g =
    let u = both_at k fs (λ x. OfList x (λ xs. StepsIn ss xs)) (λ x. OfList x (λ xs. StepsIn rs xs)) h g in
    both_lists u.0 (λ xs. StepsIn ss xs) (λ xs. StepsIn rs xs) u.1 u.2

-- what is tried besides, where a call is, or is not
tried_call : (c : t.Body) (fs : Pairs) (d : t.CallBody) → IsCall d fs → IsTried c fs → (e : t.CallBody) × (c ≡ t.Body.Call e) × IsCall e fs
tried_call (t.Body.Call e) fs d h g = (e, refl, g)
tried_call (t.Body.Block ss) fs d h g = absurd (not_there (codes "call") fs (IsText d.name) g.0 h.0)
tried_call c fs d h g = absurd g

tried_block : (c : t.Body) (fs : Pairs) → field (codes "call") fs ≡ None → IsTried c fs → (ss : t.Steps) × (c ≡ t.Body.Block ss) × At (codes "steps") fs (λ x. OfList x (λ xs. StepsIn ss xs))
tried_block (t.Body.Block ss) fs e g = (ss, refl, g.1)
tried_block (t.Body.Call d) fs e g = absurd (not_there (codes "call") fs (IsText d.name) e g.0)
tried_block c fs e g = absurd g

mutual
  one_steps : OneTemplate → OneTarget → (ss rs : t.Steps) (xs : Items) → StepsIn ss xs → StepsIn rs xs → ss ≡ rs
  one_steps o q t.no_steps t.no_steps no_items h g = refl
  one_steps o q t.no_steps (t.more r rs) no_items h g = absurd g
  one_steps o q (t.more s ss) t.no_steps (item x xs) h g = absurd g
  one_steps o q (t.more s ss) (t.more r rs) (item x xs) h g = ap (λ z. t.more z ss) (one_step o q s r x h.0 g.0) ∙ ap (t.more r) (one_steps o q ss rs xs h.1 g.1)
  one_steps o q ss rs xs h g = absurd h

  one_step : OneTemplate → OneTarget → (s r : t.Step) (x : Tree) → IsStep s x → IsStep r x → s ≡ r
  one_step o q (t.step k b n) (t.step j c m) x h g =
      let u = both_singles x _ _ h g in
      let v = both_maps u.1 _ _ u.2.1 u.3.1 in
      step_eq k j b c n m (u.2.0 ∙ sym u.3.0) (one_body o q b c v.0 v.1.0 v.2.0) (one_maybe IsText one_text n m (codes "next") v.0 v.1.1 v.2.1)

  one_body : OneTemplate → OneTarget → (b c : t.Body) (fs : Pairs) → IsBody b fs → IsBody c fs → b ≡ c
  one_body o q t.Body.Nothing c fs h g = sym (is_nothing c (same_form t.Body.Nothing c fs h g))
  one_body o q (t.Body.Assign es) c fs h g =
      let i = is_assign c fs (same_form (t.Body.Assign es) c fs h g) g in
      let u = both_at (codes "assign") fs (AreEntries es) (AreEntries i.0) h.1 i.2 in
      ap t.Body.Assign (one_entries o q es i.0 u.0 u.1 u.2) ∙ sym i.1
  one_body o q (t.Body.Call d) c fs h g =
      let i = is_call c fs (same_form (t.Body.Call d) c fs h g) g in
      ap t.Body.Call (one_call o d i.0 fs h.1 i.2) ∙ sym i.1
  one_body o q (t.Body.Switch arms) c fs h g =
      let i = is_switch c fs (same_form (t.Body.Switch arms) c fs h g) g in
      let u = both_at (codes "switch") fs (λ x. OfList x (λ xs. ArmsIn arms xs)) (λ x. OfList x (λ xs. ArmsIn i.0 xs)) h.1 i.2 in
      let v = both_lists u.0 _ _ u.1 u.2 in
      ap t.Body.Switch (one_arms o q arms i.0 v.0 v.1 v.2) ∙ sym i.1
  one_body o q (t.Body.For l) c fs h g =
      let i = is_for c fs (same_form (t.Body.For l) c fs h g) g in
      let u = both_at (codes "for") fs (λ x. OfMap x (λ gs. IsLoop l gs)) (λ x. OfMap x (λ gs. IsLoop i.0 gs)) h.1 i.2 in
      let v = both_maps u.0 _ _ u.1 u.2 in
      ap t.Body.For (one_loop o q l i.0 v.0 v.1 v.2) ∙ sym i.1
  one_body o q (t.Body.Parallel p) c fs h g =
      let i = is_parallel c fs (same_form (t.Body.Parallel p) c fs h g) g in
      let u = both_at (codes "parallel") fs (λ x. OfMap x (λ gs. IsParallel p gs)) (λ x. OfMap x (λ gs. IsParallel i.0 gs)) h.1 i.2 in
      let v = both_maps u.0 _ _ u.1 u.2 in
      ap t.Body.Parallel (one_parallel o q p i.0 v.0 v.1 v.2) ∙ sym i.1
  one_body o q (t.Body.Block ss) c fs h g =
      let i = is_block c fs (same_form (t.Body.Block ss) c fs h g) g in
      let u = steps_found (codes "steps") ss i.0 fs h.1 i.2 in
      ap t.Body.Block (one_steps o q ss i.0 u.0 u.1 u.2) ∙ sym i.1
  one_body o q (t.Body.Try y) c fs h g =
      let i = is_try c fs (same_form (t.Body.Try y) c fs h g) g in
      ap t.Body.Try (one_try o q y i.0 fs h.1 i.2) ∙ sym i.1
  one_body o q (t.Body.Raise w) c fs h g =
      let i = is_raise c fs (same_form (t.Body.Raise w) c fs h g) g in
      let u = both_at (codes "raise") fs (IsValue w) (IsValue i.0) h.1 i.2 in
      ap t.Body.Raise (one_value o w i.0 u.0 u.1 u.2) ∙ sym i.1
  one_body o q (t.Body.Return w) c fs h g =
      let i = is_return c fs (same_form (t.Body.Return w) c fs h g) g in
      let u = both_at (codes "return") fs (IsValue w) (IsValue i.0) h.1 i.2 in
      ap t.Body.Return (one_value o w i.0 u.0 u.1 u.2) ∙ sym i.1

  one_arms : OneTemplate → OneTarget → (a b : t.Arms) (xs : Items) → ArmsIn a xs → ArmsIn b xs → a ≡ b
  one_arms o q t.no_arms t.no_arms no_items h g = refl
  one_arms o q t.no_arms (t.arm c b n arms) no_items h g = absurd g
  one_arms o q (t.arm c b n arms) t.no_arms (item x xs) h g = absurd g
  one_arms o q (t.arm c b n arms) (t.arm d e m more) (item x xs) h g =
      let u = both_maps x _ _ h.0 g.0 in
      let w = both_at (codes "condition") u.0 (IsValue c) (IsValue d) u.1.0 u.2.0 in
      arm_eq c d b e n m arms more (one_value o c d w.0 w.1 w.2) (one_body o q b e u.0 u.1.1 u.2.1) (one_maybe IsText one_text n m (codes "next") u.0 u.1.2 u.2.2) (one_arms o q arms more xs h.1 g.1)
  one_arms o q a b xs h g = absurd h

  one_loop : OneTemplate → OneTarget → (l m : t.LoopBody) (fs : Pairs) → IsLoop l fs → IsLoop m fs → l ≡ m
  one_loop o q (t.loop v i a ss) (t.loop w j b rs) fs h g =
      let x = both_at (codes "value") fs (IsText v) (IsText w) h.0 g.0 in
      let y = steps_found (codes "steps") ss rs fs h.3 g.3 in
      loop_eq v w i j a b ss rs (one_text v w x.0 x.1 x.2) (one_maybe IsText one_text i j (codes "index") fs h.1 g.1) (one_over o a b fs h.2 g.2) (one_steps o q ss rs y.0 y.1 y.2)

  one_parallel : OneTemplate → OneTarget → (p r : t.ParallelBody) (fs : Pairs) → IsParallel p fs → IsParallel r fs → p ≡ r
  one_parallel o q (t.parallel s l v) (t.parallel r m w) fs h g =
      parallel_eq s r l m v w (one_else AreTexts one_texts s r [] (codes "shared") fs h.0 g.0) (one_maybe IsLimit one_limit l m (codes "concurrency_limit") fs h.1 g.1) (one_work o q v w fs h.2 g.2)

  one_work : OneTemplate → OneTarget → (v w : t.Work) (fs : Pairs) → IsWork v fs → IsWork w fs → v ≡ w
  one_work o q (t.OfBranches a) (t.OfBranches b) fs h g =
      let u = both_at (codes "branches") fs (λ x. OfList x (λ xs. BranchesIn a xs)) (λ x. OfList x (λ xs. BranchesIn b xs)) h.1 g.1 in
      let y = both_lists u.0 (λ xs. BranchesIn a xs) (λ xs. BranchesIn b xs) u.1 u.2 in
      ap t.OfBranches (one_branches o q a b y.0 y.1 y.2)
  one_work o q (t.OfBranches a) (t.OfLoop l) fs h g = absurd (not_there (codes "for") fs (λ x. OfMap x (λ gs. IsLoop l gs)) h.0 g)
  one_work o q (t.OfLoop l) (t.OfBranches a) fs h g = absurd (not_there (codes "for") fs (λ x. OfMap x (λ gs. IsLoop l gs)) g.0 h)
  one_work o q (t.OfLoop l) (t.OfLoop m) fs h g =
      let u = both_at (codes "for") fs (λ x. OfMap x (λ gs. IsLoop l gs)) (λ x. OfMap x (λ gs. IsLoop m gs)) h g in
      let y = both_maps u.0 (λ gs. IsLoop l gs) (λ gs. IsLoop m gs) u.1 u.2 in
      ap t.OfLoop (one_loop o q l m y.0 y.1 y.2)

  one_branches : OneTemplate → OneTarget → (a b : t.Branches) (xs : Items) → BranchesIn a xs → BranchesIn b xs → a ≡ b
  one_branches o q t.no_branches t.no_branches no_items h g = refl
  one_branches o q t.no_branches (t.branch k ss b) no_items h g = absurd g
  one_branches o q (t.branch k ss a) t.no_branches (item x xs) h g = absurd g
  one_branches o q (t.branch k ss a) (t.branch j rs b) (item x xs) h g =
      let u = both_singles x _ _ h.0 g.0 in
      let v = both_maps u.1 _ _ u.2.1 u.3.1 in
      let y = steps_found (codes "steps") ss rs v.0 v.1 v.2 in
      branch_eq k j ss rs a b (u.2.0 ∙ sym u.3.0) (one_steps o q ss rs y.0 y.1 y.2) (one_branches o q a b xs h.1 g.1)
  one_branches o q a b xs h g = absurd h

  one_try : OneTemplate → OneTarget → (y z : t.TryBody) (fs : Pairs) → IsTry y fs → IsTry z fs → y ≡ z
  one_try o q (t.try b p e) (t.try c r d) fs h g =
      let u = both_at (codes "try") fs (λ x. OfMap x (λ gs. IsTried b gs)) (λ x. OfMap x (λ gs. IsTried c gs)) h.0 g.0 in
      let v = both_maps u.0 (λ gs. IsTried b gs) (λ gs. IsTried c gs) u.1 u.2 in
      try_eq b c p r e d (one_tried o q b c v.0 v.1 v.2) (one_maybe IsPolicy one_policy p r (codes "retry") fs h.1 g.1) (one_except o q e d fs h.2 g.2)

  one_tried : OneTemplate → OneTarget → (b c : t.Body) (fs : Pairs) → IsTried b fs → IsTried c fs → b ≡ c
  one_tried o q (t.Body.Call d) c fs h g = let i = tried_call c fs d h g in ap t.Body.Call (one_call o d i.0 fs h i.2) ∙ sym i.1
  one_tried o q (t.Body.Block ss) c fs h g =
      let i = tried_block c fs h.0 g in
      let y = steps_found (codes "steps") ss i.0 fs h.1 i.2 in
      ap t.Body.Block (one_steps o q ss i.0 y.0 y.1 y.2) ∙ sym i.1
  one_tried o q b c fs h g = absurd h

  one_except : OneTemplate → OneTarget → (e d : t.Except) (fs : Pairs) → IsExcept e fs → IsExcept d fs → e ≡ d
  one_except o q t.no_except t.no_except fs h g = refl
  one_except o q t.no_except (t.except k ss) fs h g = absurd (not_there (codes "except") fs _ h g)
  one_except o q (t.except k ss) t.no_except fs h g = absurd (not_there (codes "except") fs _ g h)
  one_except o q (t.except k ss) (t.except j rs) fs h g =
      let u = both_at (codes "except") fs _ _ h g in
      let v = both_maps u.0 _ _ u.1 u.2 in
      let w = both_at (codes "as") v.0 (IsText k) (IsText j) v.1.0 v.2.0 in
      let y = steps_found (codes "steps") ss rs v.0 v.1.1 v.2.1 in
      ap (λ z. t.except z ss) (one_text k j w.0 w.1 w.2) ∙ ap (t.except j) (one_steps o q ss rs y.0 y.1 y.2)

-- ## Workflows
param_eq : (p r : t.Param) → p.name ≡ r.name → p.default ≡ r.default → p ≡ r
param_eq p r h g =
    let a : p ≡ record { name = r.name; default = p.default } = ap (λ (x : Text). record { name = x; default = p.default }) h in
    a ∙ ap (λ (x : Option values.Data). record { name = r.name; default = x }) g

one_param : (p r : t.Param) (x : Tree) → IsParam p x → IsParam r x → p ≡ r
one_param p r (text s) h g = h ∙ sym g
one_param p r (map (pair k x no_pairs)) h g = param_eq p r (h.0 ∙ sym g.0) (h.1.1 ∙ ap Some (one_literal h.1.0 g.1.0 x h.1.2 g.1.2) ∙ sym g.1.1)
one_param p r x h g = absurd h

one_params : (ps rs : List t.Param) (x : Tree) → AreParams ps x → AreParams rs x → ps ≡ rs
one_params ps rs (list xs) h g = one_each IsParam one_param ps rs xs h g
one_params ps rs x h g = absurd h

flow_eq : (f e : t.Flow) → f.name ≡ e.name → f.params ≡ e.params → f.steps ≡ e.steps → f ≡ e
flow_eq f e h g k =
    let a : f ≡ record { name = e.name; params = f.params; steps = f.steps } = ap (λ (x : Text). record { name = x; params = f.params; steps = f.steps }) h in
    let b : record { name = e.name; params = f.params; steps = f.steps } ≡ record { name = e.name; params = e.params; steps = f.steps } = ap (λ (x : List t.Param). record { name = e.name; params = x; steps = f.steps }) g in
    a ∙ b ∙ ap (λ (x : t.Steps). record { name = e.name; params = e.params; steps = x }) k

one_flow : OneTemplate → OneTarget → (f e : t.Flow) (k : Text) (x : Tree) → IsFlow f k x → IsFlow e k x → f ≡ e
one_flow o q f e k (map fs) h g =
    let y = steps_found (codes "steps") f.steps e.steps fs h.2 g.2 in
    flow_eq f e (h.0 ∙ sym g.0) (one_else AreParams one_params f.params e.params [] (codes "params") fs h.1 g.1) (one_steps o q f.steps e.steps y.0 y.1 y.2)
one_flow o q f e k x h g = absurd h

one_flows : OneTemplate → OneTarget → (fs es : List t.Flow) (ps : Pairs) → FlowsIn fs ps → FlowsIn es ps → fs ≡ es
one_flows o q [] [] no_pairs h g = refl
one_flows o q [] (e ∷ es) no_pairs h g = absurd g
one_flows o q (f ∷ fs) [] (pair k x ps) h g = absurd g
one_flows o q (f ∷ fs) (e ∷ es) (pair k x ps) h g = ap (λ z. z ∷ fs) (one_flow o q f e k x h.0 g.0) ∙ ap (λ z. e ∷ z) (one_flows o q fs es ps h.1 g.1)
one_flows o q fs es ps h g = absurd h

one_rooted : OneTemplate → OneTarget → (p r : t.Program) (x : Tree) → IsProgram p x → IsProgram r x → p.flows ≡ r.flows
one_rooted o q p r (map fs) h g =
    let u = both_at (codes "main") fs (IsFlow h.0 (codes "main")) (IsFlow g.0 (codes "main")) h.3 g.3 in
    h.2 ∙ ap (λ z. z ∷ h.1) (one_flow o q h.0 g.0 (codes "main") u.0 u.1 u.2) ∙ ap (λ z. g.0 ∷ z) (one_flows o q h.1 g.1 (others fs) h.4 g.4) ∙ sym g.2
one_rooted o q p r x h g = absurd h

pub one_program : OneTemplate → OneTarget → OneProgram
one_program o q x p r h g = ap (λ (fs : List t.Flow). record { flows = fs }) (one_rooted o q p r (rooted x) h.program g.program)
