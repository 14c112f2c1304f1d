-- What is kept is that of a configuration.
use Rattle.std.proofs.Common.{◌≡◌, ℕ, zero, suc, ◌+◌, ◌%◌, ◌<◌, ◌≤◌, Bool, true, false, not, ◌&&◌, List, [], ◌∷◌, ◌++◌, length, Option, Some, None, refl, sym, ap, ◌∙◌, arith}
use Rattle.std.specs.Prelude.{nat_eq, nat_le, nat_lt, if◌then◌else◌, option_map}
use Rattle.std.proofs.lemmas.Bool.{eq-eqb, eqb-true, le-leb, le-ltb, lt-leb, lt-ltb, ltb-true, ne_eqb}
use Rattle.wf_ast.specs.Tree.{no_branches, branch}
use Rattle.wf_branches.specs.Changes as change
use Rattle.wf_branches.specs.Table as table
use Rattle.wf_branches.specs.Table.{Join, Status, Table}
use Rattle.wf_branches.specs.Steps.{BeginsAreThoseOfSteps, BegunIsThatOfSteps, EndedIsThatOfSteps, NestingIsThatOfSteps, NoneWaitsThere, ReadyAreThoseOfSteps, RefusedIsThatOfSteps, above, branches_count, count_of, error_of, join_of, live_of, status_of, table_by}
use Rattle.wf_model.proofs.TaskLists.{known}
use Rattle.wf_model.proofs.Walk.{bool_case}
use Rattle.wf_model.specs.Choose.{first_begin, first_ready}
use Rattle.wf_model.specs.Config.{BranchesLeft, Item, OfList, OfRange, Task, ValuesLeft, WorkLeft, drop_in, is_empty, put_in, task_in, with_task}
use Rattle.wf_model.specs.Local.{End, Fails, Gives}
use Rattle.wf_model.specs.Ready.{begins, is_awake, is_ready, limit_of, may_begin, stands_waiting}
use Rattle.wf_model.specs.RunLaws.{RisesFrom}
use Rattle.wf_model.specs.Step.{new_task}
use Rattle.wf_model.specs.Taken as model
use Rattle.wf_value.specs.Data.{Data}
use Rattle.wf_value.specs.HttpUrl.{first_of_two}

-- ## What is left
-- an empty rest counts nothing
none_left : (w : WorkLeft) (n : ℕ) → nat_le (n + count_of w) n ≡ is_empty w
none_left (BranchesLeft no_branches) n = le-leb (n + 0) n (omega arith)
none_left (BranchesLeft (branch x ss bs)) n = lt-leb (n + suc (branches_count bs)) n (omega arith)
none_left (ValuesLeft (OfList [])) n = le-leb (n + 0) n (omega arith)
none_left (ValuesLeft (OfList (v ∷ vs))) n = lt-leb (n + suc (length vs)) n (omega arith)
none_left (ValuesLeft (OfRange a b)) n = lt-leb (n + suc (above a b)) n (omega arith)

some_left : (w : WorkLeft) (n : ℕ) → nat_lt n (n + count_of w) ≡ not (is_empty w)
some_left (BranchesLeft no_branches) n = le-ltb n (n + 0) (omega arith)
some_left (BranchesLeft (branch x ss bs)) n = lt-ltb n (n + suc (branches_count bs)) (omega arith)
some_left (ValuesLeft (OfList [])) n = le-ltb n (n + 0) (omega arith)
some_left (ValuesLeft (OfList (v ∷ vs))) n = lt-ltb n (n + suc (length vs)) (omega arith)
some_left (ValuesLeft (OfRange a b)) n = lt-ltb n (n + suc (above a b)) (omega arith)

-- ## One task
both : (b : Bool) → not (b && true) ≡ not b
both true = refl
both false = refl

neither : (b : Bool) → not (b && false) ≡ true
neither true = refl
neither false = refl

waiting_same : (k : List Item) → table.stands_waiting (join_of k) ≡ stands_waiting k
waiting_same [] = refl
waiting_same (Item.Join body left n [] es ∷ k) = ap (λ b. not (b && true)) (none_left left n) ∙ both (is_empty left)
waiting_same (Item.Join body left n (m ∷ ms) es ∷ k) = neither (nat_le (n + count_of left) n)
waiting_same (i ∷ k) = refl

begins_same : (k : List Item) → table.begins (join_of k) ≡ begins k
begins_same [] = refl
begins_same (Item.Join body left n running es ∷ k) = ap (λ b. b && nat_lt (length running) (limit_of body)) (some_left left n)
begins_same (i ∷ k) = refl

twice : (b : Bool) → not (not b) ≡ b
twice true = refl
twice false = refl

ready_same : (t : Task) → table.is_ready (status_of t) ≡ is_ready t
ready_same t = ap (λ b. b && not (table.stands_waiting (join_of t.control))) (twice (is_awake t.wait)) ∙ ap (λ b. is_awake t.wait && not b) (waiting_same t.control)

-- ## The choice
first_same : (from : ℕ) (ts : List (ℕ × Task)) → table.first_ready from (live_of ts) ≡ option_map (λ t. t.0) (first_ready from ts)
first_same from [] = refl
first_same from (t ∷ ts) = ap (λ b. if nat_le from t.0 && b then Some t.0 else table.first_ready from (live_of ts)) (ready_same t.1) ∙ by (nat_le from t.0 && is_ready t.1) (first_same from ts)
  where
    by : (b : Bool) → table.first_ready from (live_of ts) ≡ option_map (λ t. t.0) (first_ready from ts) → (if b then Some t.0 else table.first_ready from (live_of ts)) ≡ option_map (λ t. t.0) (if b then Some t else first_ready from ts)
    by true later = refl
    by false later = later

two_same : (a b : Option (ℕ × Task)) → first_of_two (option_map (λ t. t.0) a) (option_map (λ t. t.0) b) ≡ option_map (λ t. t.0) (first_of_two a b)
two_same None b = refl
two_same (Some a) b = refl

pub ready_are : ReadyAreThoseOfSteps
ready_are c =
    let from = c.moves % c.made in
    ap (λ o. first_of_two o (table.first_ready 0 (live_of c.tasks))) (first_same from c.tasks) ∙ ap (first_of_two (option_map (λ t. t.0) (first_ready from c.tasks))) (first_same 0 c.tasks) ∙ two_same (first_ready from c.tasks) (first_ready 0 c.tasks)

-- a task that waits stands in no parallel step
may_same : (t : Task) → (is_awake t.wait ≡ false → join_of t.control ≡ None) → table.begins (join_of t.control) ≡ may_begin t
may_same t h = by (is_awake t.wait) h
  where
    by : (w : Bool) → (w ≡ false → join_of t.control ≡ None) → table.begins (join_of t.control) ≡ w && begins t.control
    by true g = begins_same t.control
    by false g = ap table.begins (g refl)

may_first : (low made : ℕ) (ts : List (ℕ × Task)) → RisesFrom low made ts → NoneWaitsThere ts → table.first_begin (live_of ts) ≡ first_begin ts
may_first low made [] r h = refl
may_first low made (t ∷ ts) r h =
    ap (λ b. if b then Some t.0 else table.first_begin (live_of ts)) (may_same t.1 (h t.0 t.1 (ap (λ b. if b then Some t.1 else task_in ts t.0) (eq-eqb t.0 t.0 refl))))
    ∙ ap (λ o. if may_begin t.1 then Some t.0 else o) (may_first (suc t.0) made ts r.2 (λ b u there. h b u (later b u there)))
  where
    other : (b : ℕ) (u : Task) → task_in ts b ≡ Some u → t.0 ≡ b → ⊥
    other b u there same = let above = from_on (suc t.0) made b ts u r.2 there in omega (arith, above, same)
      where
        from_on : (low made b : ℕ) (ts : List (ℕ × Task)) (t : Task) → RisesFrom low made ts → task_in ts b ≡ Some t → low ≤ b
        from_on low made b [] t h = λ e. absurd (let no : None ≡ Some t = e in cc no)
        from_on low made b (u ∷ us) t h =
            bool_case (λ o. o ≡ Some t → low ≤ b) (nat_eq u.0 b) (Some u.1) (task_in us b)
            (λ e is. let same = eqb-true u.0 b e in let first = h.0 in omega (arith, first, same))
            (λ e is. let first = h.0 in let more = from_on (suc u.0) made b us t h.2 is in omega (arith, first, more))

    later : (b : ℕ) (u : Task) → task_in ts b ≡ Some u → task_in (t ∷ ts) b ≡ Some u
    later b u there = ap (λ x. if x then Some t.1 else task_in ts b) (ne_eqb t.0 b (other b u there)) ∙ there

pub begins_are : BeginsAreThoseOfSteps
begins_are c r h = may_first 0 c.made c.tasks r h

-- ## Changes
live_put : (b : ℕ) (t : Task) (ts : List (ℕ × Task)) → live_of (put_in b t ts) ≡ table.put_in b (status_of t) (live_of ts)
live_put b t [] = refl
live_put b t (u ∷ us) = by (nat_eq u.0 b) (nat_lt b u.0) (live_put b t us)
  where
    by : (x y : Bool) → live_of (put_in b t us) ≡ table.put_in b (status_of t) (live_of us)
        → live_of (if x then (b, t) ∷ us else (if y then (b, t) ∷ u ∷ us else u ∷ put_in b t us)) ≡ (if x then (b, status_of t) ∷ live_of us else (if y then (b, status_of t) ∷ (u.0, status_of u.1) ∷ live_of us else (u.0, status_of u.1) ∷ table.put_in b (status_of t) (live_of us)))
    by true y later = refl
    by false true later = refl
    by false false later = ap (λ vs. (u.0, status_of u.1) ∷ vs) later

live_drop : (b : ℕ) (ts : List (ℕ × Task)) → live_of (drop_in b ts) ≡ table.drop_in b (live_of ts)
live_drop b [] = refl
live_drop b (u ∷ us) = by (nat_eq u.0 b) (live_drop b us)
  where
    by : (x : Bool) → live_of (drop_in b us) ≡ table.drop_in b (live_of us) → live_of (if x then us else u ∷ drop_in b us) ≡ (if x then live_of us else (u.0, status_of u.1) ∷ table.drop_in b (live_of us))
    by true later = refl
    by false later = ap (λ vs. (u.0, status_of u.1) ∷ vs) later

live_task : (b : ℕ) (ts : List (ℕ × Task)) → table.status_in (live_of ts) b ≡ option_map status_of (task_in ts b)
live_task b [] = refl
live_task b (u ∷ us) = by (nat_eq u.0 b) (live_task b us)
  where
    by : (x : Bool) → table.status_in (live_of us) b ≡ option_map status_of (task_in us b) → (if x then Some (status_of u.1) else table.status_in (live_of us) b) ≡ option_map status_of (if x then Some u.1 else task_in us b)
    by true later = refl
    by false later = later

pub nesting_is : NestingIsThatOfSteps
nesting_is c zero p = refl
nesting_is c (suc n) None = refl
nesting_is c (suc n) (Some p) = ap (λ o. suc (table.nesting n (table_by c) (table.parent_in o))) (live_task p.0 c.tasks) ∙ by (task_in c.tasks p.0) (λ q. nesting_is c n q)
  where
    none : (m : ℕ) → table.nesting m (table_by c) None ≡ 0
    none zero = refl
    none (suc m) = refl

    by : (o : Option Task) → ((q : Option (ℕ × ℕ)) → table.nesting n (table_by c) q ≡ model.nesting n c q) → suc (table.nesting n (table_by c) (table.parent_in (option_map status_of o))) ≡ elim o [ None ↦ 1 | Some t ↦ suc (model.nesting n c t.parent) ]
    by None later = ap suc (none n)
    by (Some t) later = ap suc (later t.parent)

-- ## A branch that begins
pub begun_is : BegunIsThatOfSteps
begun_is c a t body left rest n running es k there is less =
    let live = live_of c.tasks in
    let kept : (j : Option Join) → Table = λ j. record {
      live = table.put_in c.made (change.new_status (Some (a, change.next_in j))) (table.put_in a (record { parent = t.parent; waits = not (is_awake t.wait); join = option_map (change.begun_in c.made) j }) live);
      made = suc c.made;
    } in
    let step : (m : ℕ) → Join = λ m. record { total = m; limit = limit_of body; next = suc n; running = running ++ c.made ∷ []; errors = es } in
    let behind : (m : ℕ) → Table = λ m. record {
      live = table.put_in c.made (change.new_status (Some (a, n))) (table.put_in a (record { parent = t.parent; waits = not (is_awake t.wait); join = Some (step m) }) live);
      made = suc c.made;
    } in
    ap (λ ts. record { live = ts; made = suc c.made })
    (live_put c.made (new_task a n) (put_in a (record t { control = Item.Join body rest (suc n) (running ++ c.made ∷ []) es ∷ k }) c.tasks)
    ∙ ap (table.put_in c.made (status_of (new_task a n))) (live_put a (record t { control = Item.Join body rest (suc n) (running ++ c.made ∷ []) es ∷ k }) c.tasks))
    ∙ ap behind (shift n (count_of left) (count_of rest) less)
    ∙ sym (ap kept (ap join_of is))
    ∙ sym (ap {B = Table} (λ (o : Option Status). elim o [ None ↦ table_by c | Some s ↦ change.begun_by a s (table_by c) ]) (live_task a c.tasks ∙ ap (option_map status_of) there))
  where
    shift : (n left rest : ℕ) → left ≡ suc rest → suc n + rest ≡ n + left
    shift n left rest e = omega (arith, e)

-- ## A branch that has ended
errors_same : (n : ℕ) (e : End) (es : List (ℕ × Data)) → model.kept_error n e es ≡ change.kept_in n (error_of e) es
errors_same n (Gives v) es = refl
errors_same n (Fails e) es = refl

joined_same : (b n : ℕ) (e : End) (k : List Item) → join_of (model.joined b n e k) ≡ option_map (change.joined_in b n (error_of e)) (join_of k)
joined_same b n e [] = refl
joined_same b n e (Item.Join body w m running errors ∷ k) = ap (λ es. Some (record { total = m + count_of w; limit = limit_of body; next = m; running = model.drop_number b running; errors = es })) (errors_same n e errors)
joined_same b n e (i ∷ k) = refl

-- a number before all
put_front : (low made q : ℕ) (t : Task) (ts : List (ℕ × Task)) → RisesFrom low made ts → q < low → put_in q t ts ≡ (q, t) ∷ ts
put_front low made q t [] r lt = refl
put_front low made q t (u ∷ us) r lt =
    let first = r.0 in
    ap (λ x. if x then (q, t) ∷ us else (if nat_lt q u.0 then (q, t) ∷ u ∷ us else u ∷ put_in q t us)) (ne_eqb u.0 q (λ e. omega (arith, first, lt, e)))
    ∙ ap (λ x. if x then (q, t) ∷ u ∷ us else u ∷ put_in q t us) (lt-ltb q u.0 (omega (arith, first, lt)))

drop_put : (low made b q : ℕ) (t : Task) (ts : List (ℕ × Task)) → RisesFrom low made ts → (q ≡ b → ⊥) → put_in q t (drop_in b ts) ≡ drop_in b (put_in q t ts)
drop_put low made b q t [] r other = sym (ap (λ x. if x then [] else (q, t) ∷ []) (ne_eqb q b other))
drop_put low made b q t (u ∷ us) r other = by (nat_eq u.0 b) refl (nat_eq u.0 q) refl (nat_lt q u.0) refl (drop_put (suc u.0) made b q t us r.2 other)
  where
    past : nat_eq q b ≡ false
    past = ne_eqb q b other

    by : (x : Bool) → nat_eq u.0 b ≡ x → (y : Bool) → nat_eq u.0 q ≡ y → (z : Bool) → nat_lt q u.0 ≡ z → put_in q t (drop_in b us) ≡ drop_in b (put_in q t us)
        → put_in q t (if x then us else u ∷ drop_in b us) ≡ drop_in b (if y then (q, t) ∷ us else (if z then (q, t) ∷ u ∷ us else u ∷ put_in q t us))
    by true d true e z f later = absurd (other (sym (eqb-true u.0 q e) ∙ eqb-true u.0 b d))
    by true d false e true f later =
        put_front (suc u.0) made q t us r.2 (let lt = ltb-true q u.0 f in omega (arith, lt))
        ∙ sym (ap (λ x. if x then u ∷ us else (q, t) ∷ drop_in b (u ∷ us)) past ∙ ap (λ x. (q, t) ∷ (if x then us else u ∷ drop_in b us)) d)
    by true d false e false f later = sym (ap (λ x. if x then put_in q t us else u ∷ drop_in b (put_in q t us)) d)
    by false d true e z f later =
        ap (λ y. if y then (q, t) ∷ drop_in b us else (if nat_lt q u.0 then (q, t) ∷ u ∷ drop_in b us else u ∷ put_in q t (drop_in b us))) e
        ∙ sym (ap (λ x. if x then us else (q, t) ∷ drop_in b us) past)
    by false d false e true f later =
        ap (λ y. if y then (q, t) ∷ drop_in b us else (if nat_lt q u.0 then (q, t) ∷ u ∷ drop_in b us else u ∷ put_in q t (drop_in b us))) e
        ∙ ap (λ z. if z then (q, t) ∷ u ∷ drop_in b us else u ∷ put_in q t (drop_in b us)) f
        ∙ sym (ap (λ x. if x then u ∷ us else (q, t) ∷ drop_in b (u ∷ us)) past ∙ ap (λ x. (q, t) ∷ (if x then us else u ∷ drop_in b us)) d)
    by false d false e false f later =
        ap (λ y. if y then (q, t) ∷ drop_in b us else (if nat_lt q u.0 then (q, t) ∷ u ∷ drop_in b us else u ∷ put_in q t (drop_in b us))) e
        ∙ ap (λ z. if z then (q, t) ∷ u ∷ drop_in b us else u ∷ put_in q t (drop_in b us)) f
        ∙ ap (λ vs. u ∷ vs) later
        ∙ sym (ap (λ x. if x then put_in q t us else u ∷ drop_in b (put_in q t us)) d)

pub ended_is : EndedIsThatOfSteps
ended_is c b t p e r there parent other =
    by (task_in c.tasks p.0) refl
    ∙ sym (ap (λ (o : Option Status). elim o [ None ↦ T | Some s ↦ change.ended_by b s.parent (error_of e) T ]) (live_task b c.tasks ∙ ap (option_map status_of) there)
    ∙ ap (λ q. change.ended_by b q (error_of e) T) parent)
  where
    T : Table
    T = table_by c

    joined_in : Option Status → Table
    joined_in o = record { live = table.drop_in b (elim o [ None ↦ live_of c.tasks | Some s ↦ table.put_in p.0 (change.on_join (change.joined_in b p.1 (error_of e)) s) (live_of c.tasks) ]); made = c.made }

    by : (o : Option Task) → task_in c.tasks p.0 ≡ o → table_by (elim o [ None ↦ model.without_task b c | Some u ↦ with_task p.0 (record u { control = model.joined b p.1 e u.control }) (model.without_task b c) ]) ≡ joined_in (table.status T p.0)
    by None is = ap (λ ts. record { live = ts; made = c.made }) (live_drop b c.tasks) ∙ sym (ap joined_in (live_task p.0 c.tasks ∙ ap (option_map status_of) is))
    by (Some u) is =
        let v : Task = record u { control = model.joined b p.1 e u.control } in
        ap (λ ts. record { live = ts; made = c.made })
        (ap live_of (drop_put 0 c.made b p.0 v c.tasks r other) ∙ live_drop b (put_in p.0 v c.tasks) ∙ ap (table.drop_in b) (live_put p.0 v c.tasks)
        ∙ ap (λ j. table.drop_in b (table.put_in p.0 (record { parent = u.parent; waits = not (is_awake u.wait); join = j }) (live_of c.tasks))) (joined_same b p.1 e u.control))
        ∙ sym (ap joined_in (live_task p.0 c.tasks ∙ ap (option_map status_of) is))

-- ## A branch whose names don't fit
put_found : (b : ℕ) (s : Status) (ts : List (ℕ × Status)) → table.status_in (table.put_in b s ts) b ≡ Some s
put_found b s [] = ap (λ (x : Bool). if x then Some s else None) (eq-eqb b b refl)
put_found b s (u ∷ us) = by (nat_eq u.0 b) refl (nat_lt b u.0) (put_found b s us)
  where
    first : (vs : List (ℕ × Status)) → (if nat_eq b b then Some s else table.status_in vs b) ≡ Some s
    first vs = ap (λ (x : Bool). if x then Some s else table.status_in vs b) (eq-eqb b b refl)

    by : (x : Bool) → nat_eq u.0 b ≡ x → (y : Bool) → table.status_in (table.put_in b s us) b ≡ Some s → table.status_in (if x then (b, s) ∷ us else (if y then (b, s) ∷ u ∷ us else u ∷ table.put_in b s us)) b ≡ Some s
    by true e y later = first us
    by false e true later = first (u ∷ us)
    by false e false later = ap (λ (x : Bool). if x then Some u.1 else table.status_in (table.put_in b s us) b) e ∙ later

put_past : (b i : ℕ) (s : Status) (ts : List (ℕ × Status)) → (b ≡ i → ⊥) → table.status_in (table.put_in b s ts) i ≡ table.status_in ts i
put_past b i s [] d = ap (λ (x : Bool). if x then Some s else None) (ne_eqb b i d)
put_past b i s (u ∷ us) d = by (nat_eq u.0 b) refl (nat_lt b u.0) (put_past b i s us d)
  where
    past : (vs : List (ℕ × Status)) → (if nat_eq b i then Some s else table.status_in vs i) ≡ table.status_in vs i
    past vs = ap (λ (x : Bool). if x then Some s else table.status_in vs i) (ne_eqb b i d)

    by : (x : Bool) → nat_eq u.0 b ≡ x → (y : Bool) → table.status_in (table.put_in b s us) i ≡ table.status_in us i → table.status_in (if x then (b, s) ∷ us else (if y then (b, s) ∷ u ∷ us else u ∷ table.put_in b s us)) i ≡ (if nat_eq u.0 i then Some u.1 else table.status_in us i)
    by true e y later = past us ∙ sym (ap (λ (x : Bool). if x then Some u.1 else table.status_in us i) (ne_eqb u.0 i (λ q. d (sym (eqb-true u.0 b e) ∙ q))))
    by false e true later = past (u ∷ us)
    by false e false later = ap (λ o. if nat_eq u.0 i then Some u.1 else o) later

-- a new number is gone again
drop_new : (low made : ℕ) (v : Status) (ts : List (ℕ × Task)) → RisesFrom low made ts → table.drop_in made (table.put_in made v (live_of ts)) ≡ live_of ts
drop_new low made v [] r = ap (λ (x : Bool). if x then [] else (made, v) ∷ []) (eq-eqb made made refl)
drop_new low made v (u ∷ us) r =
    let lt = r.1 in
    let s = status_of u.1 in
    let other = ne_eqb u.0 made (λ e. omega (arith, lt, e)) in
    ap (λ (x : Bool). table.drop_in made (if x then (made, v) ∷ live_of us else (if nat_lt made u.0 then (made, v) ∷ (u.0, s) ∷ live_of us else (u.0, s) ∷ table.put_in made v (live_of us)))) other
    ∙ ap (λ (x : Bool). table.drop_in made (if x then (made, v) ∷ (u.0, s) ∷ live_of us else (u.0, s) ∷ table.put_in made v (live_of us))) (le-ltb made u.0 (omega (arith, lt)))
    ∙ ap (λ (x : Bool). if x then table.put_in made v (live_of us) else (u.0, s) ∷ table.drop_in made (table.put_in made v (live_of us))) other
    ∙ ap (λ vs. (u.0, s) ∷ vs) (drop_new (suc u.0) made v us r.2)

from_on : (low made b : ℕ) (ts : List (ℕ × Task)) (t : Task) → RisesFrom low made ts → task_in ts b ≡ Some t → low ≤ b
from_on low made b [] t h = λ e. absurd (let clash : None ≡ Some t = e in cc clash)
from_on low made b (u ∷ us) t h =
    bool_case (λ o. o ≡ Some t → low ≤ b) (nat_eq u.0 b) (Some u.1) (task_in us b)
    (λ e is. let same = eqb-true u.0 b e in let first = h.0 in omega (arith, first, same))
    (λ e is. let first = h.0 in let more = from_on (suc u.0) made b us t h.2 is in omega (arith, first, more))

refuse : (low made a : ℕ) (s v w : Status) (ts : List (ℕ × Task)) (t : Task) → RisesFrom low made ts → task_in ts a ≡ Some t → table.drop_in made (table.put_in a w (table.put_in made v (table.put_in a s (live_of ts)))) ≡ table.put_in a w (live_of ts)
refuse low made a s v w [] t r e = absurd (let clash : None ≡ Some t = e in cc clash)
refuse low made a s v w (u ∷ us) t r e = by (nat_eq u.0 a) refl e (λ is. refuse (suc u.0) made a s v w us t r.2 is) (λ is. from_on (suc u.0) made a us t r.2 is)
  where
    under : u.0 < made
    under = r.1

    by : (x : Bool) → nat_eq u.0 a ≡ x → (if x then Some u.1 else task_in us a) ≡ Some t
        → (task_in us a ≡ Some t → table.drop_in made (table.put_in a w (table.put_in made v (table.put_in a s (live_of us)))) ≡ table.put_in a w (live_of us))
        → (task_in us a ≡ Some t → suc u.0 ≤ a)
        → table.drop_in made (table.put_in a w (table.put_in made v (if x then (a, s) ∷ live_of us else (if nat_lt a u.0 then (a, s) ∷ (u.0, status_of u.1) ∷ live_of us else (u.0, status_of u.1) ∷ table.put_in a s (live_of us)))))
        ≡ (if x then (a, w) ∷ live_of us else (if nat_lt a u.0 then (a, w) ∷ (u.0, status_of u.1) ∷ live_of us else (u.0, status_of u.1) ∷ table.put_in a w (live_of us)))
    by true d is later upper =
        let same = eqb-true u.0 a d in
        let lt = under in
        ap (λ (x : Bool). table.drop_in made (table.put_in a w (if x then (made, v) ∷ live_of us else (if nat_lt made a then (made, v) ∷ (a, s) ∷ live_of us else (a, s) ∷ table.put_in made v (live_of us))))) (ne_eqb a made (λ q. omega (arith, lt, same, q)))
        ∙ ap (λ (x : Bool). table.drop_in made (table.put_in a w (if x then (made, v) ∷ (a, s) ∷ live_of us else (a, s) ∷ table.put_in made v (live_of us)))) (le-ltb made a (omega (arith, lt, same)))
        ∙ ap (λ (x : Bool). table.drop_in made (if x then (a, w) ∷ table.put_in made v (live_of us) else (if nat_lt a a then (a, w) ∷ (a, s) ∷ table.put_in made v (live_of us) else (a, s) ∷ table.put_in a w (table.put_in made v (live_of us))))) (eq-eqb a a refl)
        ∙ ap (λ (x : Bool). if x then table.put_in made v (live_of us) else (a, w) ∷ table.drop_in made (table.put_in made v (live_of us))) (ne_eqb a made (λ q. omega (arith, lt, same, q)))
        ∙ ap (λ vs. (a, w) ∷ vs) (drop_new (suc u.0) made v us r.2)
    by false d is later upper =
        let lt = under in
        let up = upper is in
        let y : ℕ × Status = (u.0, status_of u.1) in
        let low_a = le-ltb a u.0 (omega (arith, up)) in
        ap (λ (z : Bool). table.drop_in made (table.put_in a w (table.put_in made v (if z then (a, s) ∷ y ∷ live_of us else y ∷ table.put_in a s (live_of us))))) low_a
        ∙ ap (λ (x : Bool). table.drop_in made (table.put_in a w (if x then (made, v) ∷ table.put_in a s (live_of us) else (if nat_lt made u.0 then (made, v) ∷ y ∷ table.put_in a s (live_of us) else y ∷ table.put_in made v (table.put_in a s (live_of us)))))) (ne_eqb u.0 made (λ q. omega (arith, lt, q)))
        ∙ ap (λ (x : Bool). table.drop_in made (table.put_in a w (if x then (made, v) ∷ y ∷ table.put_in a s (live_of us) else y ∷ table.put_in made v (table.put_in a s (live_of us))))) (le-ltb made u.0 (omega (arith, lt)))
        ∙ ap (λ (x : Bool). table.drop_in made (if x then (a, w) ∷ table.put_in made v (table.put_in a s (live_of us)) else (if nat_lt a u.0 then (a, w) ∷ y ∷ table.put_in made v (table.put_in a s (live_of us)) else y ∷ table.put_in a w (table.put_in made v (table.put_in a s (live_of us)))))) d
        ∙ ap (λ (x : Bool). table.drop_in made (if x then (a, w) ∷ y ∷ table.put_in made v (table.put_in a s (live_of us)) else y ∷ table.put_in a w (table.put_in made v (table.put_in a s (live_of us))))) low_a
        ∙ ap (λ (x : Bool). if x then table.put_in a w (table.put_in made v (table.put_in a s (live_of us))) else y ∷ table.drop_in made (table.put_in a w (table.put_in made v (table.put_in a s (live_of us))))) (ne_eqb u.0 made (λ q. omega (arith, lt, q)))
        ∙ ap (λ vs. y ∷ vs) (later is)
        ∙ sym (ap (λ (z : Bool). if z then (a, w) ∷ y ∷ live_of us else y ∷ table.put_in a w (live_of us)) low_a)

-- the number that was put last is the first that is dropped
dropped_last : (b : ℕ) (ns : List ℕ) → model.drop_number b ns ≡ ns → model.drop_number b (ns ++ b ∷ []) ≡ ns
dropped_last b [] e = ap (λ (x : Bool). if x then [] else b ∷ []) (eq-eqb b b refl)
dropped_last b (n ∷ ns) e = by (nat_eq b n) refl e (λ f. dropped_last b ns f)
  where
    shorter : (ms : List ℕ) (m : ℕ) → ms ≡ m ∷ ms → ⊥
    shorter ms m f = let same : length ms ≡ suc (length ms) = ap length f in omega (arith, same)

    by : (x : Bool) → nat_eq b n ≡ x → (if x then ns else n ∷ model.drop_number b ns) ≡ n ∷ ns → (model.drop_number b ns ≡ ns → model.drop_number b (ns ++ b ∷ []) ≡ ns) → (if x then ns ++ b ∷ [] else n ∷ model.drop_number b (ns ++ b ∷ [])) ≡ n ∷ ns
    by true t f later = absurd (shorter ns n f)
    by false t f later = let rest : model.drop_number b ns ≡ ns = cc f in ap (λ ms. n ∷ ms) (later rest)

pub refused_is : RefusedIsThatOfSteps
refused_is c a t body left rest n running es k e r there is less drop =
    let live = live_of c.tasks in
    let made = c.made in
    let s = status_of t in
    let j : Join = record { total = n + count_of left; limit = limit_of body; next = n; running = running; errors = es } in
    let s1 : Status = record { parent = t.parent; waits = not (is_awake t.wait); join = Some (change.begun_in made j) } in
    let v = change.new_status (Some (a, n)) in
    let s2 : Status = record { parent = t.parent; waits = not (is_awake t.wait); join = Some (change.joined_in made n (Some e) (change.begun_in made j)) } in
    let apart : made ≡ a → ⊥ = λ q. let lt = known 0 made a c.tasks t r there in omega (arith, lt, q) in
    let t' : Task = record t { control = Item.Join body rest (suc n) running (model.put_error n e es) ∷ k } in
    let T1 : Table = record { live = table.put_in made v (table.put_in a s1 live); made = suc made } in
    let joined_at : (ns : List ℕ) → Status = λ ns. record { parent = t.parent; waits = not (is_awake t.wait); join = Some (record { total = n + count_of left; limit = limit_of body; next = suc n; running = ns; errors = model.put_error n e es }) } in
    -- the configuration's
    ap (λ ts. record { live = ts; made = suc made }) (live_put a t' c.tasks)
    ∙ ap (λ (m : ℕ). record { live = table.put_in a (record { parent = t.parent; waits = not (is_awake t.wait); join = Some (record { total = m; limit = limit_of body; next = suc n; running = running; errors = model.put_error n e es }) }) live; made = suc made }) (shift_count n (count_of left) (count_of rest) less)
    ∙ ap (λ (ns : List ℕ). record { live = table.put_in a (joined_at ns) live; made = suc made }) (sym (dropped_last made running drop))
    -- the table's
    ∙ sym (ap (λ ts. record { live = ts; made = suc made }) (refuse 0 made a s1 v s2 c.tasks t r there))
    ∙ sym (ap {B = Table} (λ (o : Option Status). record { live = table.drop_in made (elim o [ None ↦ T1.live | Some x ↦ table.put_in a (change.on_join (change.joined_in made n (Some e)) x) T1.live ]); made = suc made }) (put_past made a v (table.put_in a s1 live) apart ∙ put_found a s1 live))
    ∙ sym (ap {B = Table} (λ (o : Option Status). elim o [ None ↦ T1 | Some x ↦ change.ended_by made x.parent (Some e) T1 ]) (put_found made v (table.put_in a s1 live)))
    ∙ sym (ap (λ (T : Table). change.ended made (Some e) T)
    (ap {B = Table} (λ (o : Option Status). elim o [ None ↦ table_by c | Some x ↦ change.begun_by a x (table_by c) ]) (live_task a c.tasks ∙ ap (option_map status_of) there)
    ∙ ap {B = Table} (λ (o : Option Join). record { live = table.put_in made (change.new_status (Some (a, change.next_in o))) (table.put_in a (record { parent = t.parent; waits = not (is_awake t.wait); join = option_map (change.begun_in made) o }) live); made = suc made }) (ap join_of is)))
  where
    shift_count : (n left rest : ℕ) → left ≡ suc rest → suc n + rest ≡ n + left
    shift_count n left rest e = omega (arith, e)
