-- A machine whose execution runs.
--     Good               what is kept of it
--     tells_of ..        what the table of its program tells
--     alone_here         `main` is the only task
--     goes_right         no event goes wrong
--     stood_next         where an event leads
use Rattle.std.proofs.Common.{◌≡◌, ◌<◌, arith, length, ℕ, zero, suc, Bool, true, false, List, [], ◌∷◌, Option, Some, None, inr, refl, sym, ap, ◌∙◌, subst}
use Rattle.std.proofs.Math.Logic.{∥∥₁_elim, ∥∥₁_map}
use Rattle.std.specs.Prelude.{◌&&◌, if◌then◌else◌, is_none, get_or, nat_eq, slice_get, slice_set}
use Rattle.std.proofs.lemmas.Bool.{and_parts, eqb-true}
use Rattle.wf_ast.specs.Accept.{Kind}
use Rattle.wf_ast.specs.Tree.{Program}
use Rattle.wf_branches.specs.Seen.{table_of}
use Rattle.wf_branches.specs.Steps.{join_of}
use Rattle.wf_branches.specs.Table.{IsAt, Join, Status}
use Rattle.wf_check.proofs.Accepted.{accept_of}
use Rattle.wf_check.specs.Seen.{nodes_of, program_of}
use Rattle.wf_check.specs.declared.checked.Checked.{Checked}
use Rattle.wf_frames.proofs.Choices.{none_is}
use Rattle.wf_frames.proofs.Standing.{stands}
use Rattle.wf_frames.specs.Built.{IsTableOf, is_table_built}
use Rattle.wf_frames.specs.Frames.{control, inner}
use Rattle.wf_frames.specs.Owned.{Around}
use Rattle.wf_frames.specs.Standing.{AllStandAt}
use Rattle.wf_frames.specs.Stands.{Stands}
use Rattle.wf_frames.specs.declared.frames.Frame.{Frame}
use Rattle.wf_frames.specs.declared.frames.Frame.TheVariants as frame
use Rattle.wf_machine.proofs.Waiting.{same_control}
use Rattle.wf_machine.specs.Main.{HasStood, around, config_of, is_lone}
use Rattle.wf_machine.specs.Causes.{around_at, seen_task}
use Rattle.wf_machine.specs.Seen.{At, config_by, shown}
use Rattle.wf_machine.specs.declared.ending.Ending.TheVariants.{Running}
use Rattle.wf_machine.specs.declared.machine.Machine.{Machine}
use Rattle.wf_model.proofs.Told.{resolves}
use Rattle.wf_model.specs.Config as model
use Rattle.wf_model.specs.Config.{Config, Item, To, Wrong, drop_in, task}
use Rattle.wf_model.specs.Ready.{begins, stands_waiting}
use Rattle.wf_model.specs.RunLaws.{RisesFrom}
use Rattle.wf_model.specs.Spots.{Spot, spots}
use Rattle.wf_model.specs.Step.{next}
use Rattle.wf_model.specs.WaitLaws.{StepsStaySound}
use Rattle.wf_moves.specs.Waits.{CanGoOn, control_in, is_joining}
use Rattle.wf_moves.specs.declared.task.Task.{Task}
use Rattle.wf_moves.specs.declared.wait.Wait.{Wait}
use Rattle.wf_moves.specs.declared.wait.Wait.TheVariants as wait
use Rattle.wf_never_wrong.specs.Stands.{StandsAfter, StepsStand}
use Rattle.wf_scope.specs.Store.{layers_of}
use Rattle.wf_scope.specs.declared.scopes.Scopes.{Scopes}
use Rattle.wf_several.proofs.Here.{entry_is_here, task_here}
use Rattle.wf_several.proofs.Sees.{no_join, shows, task_reads}
use Rattle.wf_several.proofs.Standing.{each_fits, none_is_parent, one_fact, rises_view, standing_from}
use Rattle.wf_several.specs.Here.{IsHere, ReadsSo, around_here}
use Rattle.wf_several.specs.Several.{AllGoOn, AreAlike, IsAlike, around_of, control_at, holder_of, holders_of, plain_around, task_view, tasks_view, with_join}
use Rattle.wf_several.specs.Standing.{IsStanding}
use Rattle.wf_stores.specs.Holders.{IsChildless}
use Rattle.wf_together.proofs.Childless.{moving_is_childless}
use Rattle.wf_value.specs.Events.{Event}

-- a place where something stands is within
pub within_of : {X : Type 0} (xs : List X) (i : ℕ) (x : X) → slice_get xs i ≡ Some x → i < length xs
within_of [] i x e = absurd (let no : None ≡ Some x = e in cc no)
within_of (y ∷ xs) zero x e = omega arith
within_of (y ∷ xs) (suc i) x e = let later = within_of xs i x e in omega (arith, later)

-- and what stands within stands at its place
pub there_at : {X : Type 0} (xs : List X) (i : ℕ) (x : X) → i < length xs → x ≡ get_or xs i x → slice_get xs i ≡ Some x
there_at [] i x lt e = absurd (omega (arith, lt))
there_at (y ∷ xs) zero x lt e = ap Some (sym e)
there_at (y ∷ xs) (suc i) x lt e = there_at xs i x (omega (arith, lt)) e

-- what the table tells of a program
pub tells_of : (c : Checked) → is_table_built (nodes_of c) ≡ true → IsTableOf (spots (program_of c).flows) (nodes_of c)
tells_of c built =
    let r = resolves (spots (program_of c).flows) (nodes_of c) c.told in
    record { resolves = r; nexts = λ i x at. sym (r.each i x at).next; built = built }

pub record Good (m : Machine) : Type 0 where
  pub standing : IsStanding (program_of m.program) (nodes_of m.program) (table_of m.tasks).live m.moving.items m.scopes
  pub stood : ∥ HasStood (program_of m.program) (shown m) ∥₁
  pub lone : is_lone (table_of m.tasks).live ≡ true

pub good_of : (m : Machine) → m.broken ≡ false → m.ending ≡ Running → Good m
good_of m whole run = record { standing = m.standing whole run; stood = ∥∥₁_map m.stood (λ stood. stood whole run); lone = m.lone whole }

pub shows_it : (m : Machine) → m.broken ≡ false → config_by m ≡ shown m
shows_it m whole = ap {B = Config} (λ b. config_of b (program_of m.program) m.facts m.tally (table_of m.tasks) m.moving.items m.scopes m.calls m.log m.ending) whole

-- ## `main` alone
pub record Alone (p : Program) (es : List (ℕ × Status)) (ts : List Task) (x : Scopes) (b : ℕ) (s : Status) : Type 0 where
  pub first : b ≡ 0
  pub root : s.parent ≡ None
  pub free : s.join ≡ None
  pub only : drop_in b (tasks_view p es ts x) ≡ []

pub alone_here : (p : Program) (es : List (ℕ × Status)) (ts : List Task) (x : Scopes) (i b : ℕ) (s : Status) → is_lone es ≡ true → slice_get es i ≡ Some (b, s) → Alone p es ts x b s
alone_here p [] ts x i b s lone is = absurd (let no : None ≡ Some (b, s) = is in cc no)
alone_here p (e ∷ f ∷ es) ts x i b s lone is = absurd (cc lone)
alone_here p (e ∷ []) ts x (suc i) b s lone is = absurd (let no : None ≡ Some (b, s) = is in cc no)
alone_here p (e ∷ []) ts x zero b s lone is =
    let same : e ≡ (b, s) = cc is in
    let two = and_parts (nat_eq e.0 0) (is_none e.1.parent && is_none e.1.join) lone in
    let both = and_parts (is_none e.1.parent) (is_none e.1.join) two.1 in
    let number : b ≡ 0 = sym (ap (λ (u : ℕ × Status). u.0) same) ∙ eqb-true e.0 0 two.0 in
    record {
      first = number;
      root = sym (ap (λ (u : ℕ × Status). u.1.parent) same) ∙ none_is e.1.parent both.0;
      free = sym (ap (λ (u : ℕ × Status). u.1.join) same) ∙ none_is e.1.join both.1;
      only = dropped ts (ap (nat_eq e.0) number ∙ two.0);
    }
  where
    dropped : (ts : List Task) → nat_eq e.0 b ≡ true → drop_in b (tasks_view p (e ∷ []) ts x) ≡ []
    dropped [] h = refl
    dropped (t ∷ ts) h = ap {B = List (ℕ × model.Task)} (λ (z : Bool). if z then [] else (e.0, task_view p (plain_around p) e.1 t x) ∷ []) h

-- where no task is live
pub empty_alike : (p : Program) (es : List (ℕ × Status)) (ts : List Task) → es ≡ [] → ts ≡ [] → AreAlike p es ts
empty_alike p es ts none gone = subst (λ (us : List (ℕ × Status)). AreAlike p us ts) (sym none) (subst (λ (us : List Task). AreAlike p [] us) (sym gone) tt)

-- ## A task of it
no_wait : (ns : List Spot) (fs : List Frame) → stands_waiting (control ns fs) ≡ false
no_wait ns [] = refl
no_wait ns (frame.Do n at ∷ fs) = refl
no_wait ns (frame.Lone n done ∷ fs) = refl
no_wait ns (frame.Entries n at ∷ fs) = refl
no_wait ns (frame.Then n ∷ fs) = refl
no_wait ns (frame.Loop looping ∷ fs) = refl
no_wait ns (frame.Try trying ∷ fs) = refl
no_wait ns (frame.Mark number ∷ fs) = refl
no_wait ns (frame.Back c number ∷ fs) = refl
no_wait ns (frame.Judge judging ∷ fs) = refl

-- it stays alone, whatever it waits for
pub lone_after : (es : List (ℕ × Status)) (i b : ℕ) (s : Status) (w : Bool) → is_lone es ≡ true → slice_get es i ≡ Some (b, s) → is_lone (slice_set es i (b, record { parent = s.parent; waits = w; join = None })) ≡ true
lone_after [] i b s w lone is = absurd (let no : None ≡ Some (b, s) = is in cc no)
lone_after (e ∷ f ∷ es) i b s w lone is = absurd (cc lone)
lone_after (e ∷ []) (suc i) b s w lone is = absurd (let no : None ≡ Some (b, s) = is in cc no)
lone_after (e ∷ []) zero b s w lone is =
    let same : e ≡ (b, s) = cc is in
    let two = and_parts (nat_eq e.0 0) (is_none e.1.parent && is_none e.1.join) lone in
    let both = and_parts (is_none e.1.parent) (is_none e.1.join) two.1 in
    ap (λ (z : Bool). z && (is_none s.parent && true)) (sym (ap (λ (u : ℕ × Status). nat_eq u.0 0) same) ∙ two.0)
    ∙ ap (λ (z : Bool). z && true) (sym (ap (λ (u : ℕ × Status). is_none u.1.parent) same) ∙ both.0)

no_begin : (ns : List Spot) (fs : List Frame) → begins (control ns fs) ≡ false
no_begin ns [] = refl
no_begin ns (frame.Do n at ∷ fs) = refl
no_begin ns (frame.Lone n done ∷ fs) = refl
no_begin ns (frame.Entries n at ∷ fs) = refl
no_begin ns (frame.Then n ∷ fs) = refl
no_begin ns (frame.Loop looping ∷ fs) = refl
no_begin ns (frame.Try trying ∷ fs) = refl
no_begin ns (frame.Mark number ∷ fs) = refl
no_begin ns (frame.Back c number ∷ fs) = refl
no_begin ns (frame.Judge judging ∷ fs) = refl

-- the table and the task beside it agree
pub alike_at : (p : Program) (es : List (ℕ × Status)) (ts : List Task) (i b : ℕ) (s : Status) (t : Task) → AreAlike p es ts → slice_get es i ≡ Some (b, s) → slice_get ts i ≡ Some t → IsAlike p s t
alike_at p [] ts i b s t all is beside = absurd (let no : None ≡ Some (b, s) = is in cc no)
alike_at p (e ∷ es) [] i b s t all is beside = absurd all
alike_at p (e ∷ es) (u ∷ us) zero b s t all is beside =
    let here : e ≡ (b, s) = cc is in
    let task : u ≡ t = cc beside in
    subst (λ (v : Task). IsAlike p s v) task (subst (λ (v : ℕ × Status). IsAlike p v.1 u) here all.0)
alike_at p (e ∷ es) (u ∷ us) (suc i) b s t all is beside = alike_at p es us i b s t all.1 is beside

-- what is told of no parallel step stands in none
unjoined_by : (ns : List Spot) (w : Wait) (k : List Item) → join_of (control_in ns w k) ≡ None → is_joining w ≡ false
unjoined_by ns wait.Awake k is = refl
unjoined_by ns (wait.Sleep due node) k is = refl
unjoined_by ns (wait.Delay due) k is = refl
unjoined_by ns (wait.Calling call node) k is = refl
unjoined_by ns (wait.Joining j) k is = absurd (cc is)

-- the table tells of no parallel step
pub join_here : (es : List (ℕ × Status)) (i b : ℕ) (s : Status) → is_lone es ≡ true → slice_get es i ≡ Some (b, s) → s.join ≡ None
join_here [] i b s lone is = absurd (let no : None ≡ Some (b, s) = is in cc no)
join_here (e ∷ f ∷ es) i b s lone is = absurd (cc lone)
join_here (e ∷ []) (suc i) b s lone is = absurd (let no : None ≡ Some (b, s) = is in cc no)
join_here (e ∷ []) zero b s lone is =
    let same : e ≡ (b, s) = cc is in
    let two = and_parts (nat_eq e.0 0) (is_none e.1.parent && is_none e.1.join) lone in
    let both = and_parts (is_none e.1.parent) (is_none e.1.join) two.1 in
    sym (ap (λ (u : ℕ × Status). u.1.join) same) ∙ none_is e.1.join both.1

module _ (p : Program) (es : List (ℕ × Status)) (ts : List Task) (alike : AreAlike p es ts) (lone : is_lone es ≡ true) (i b : ℕ) (s : Status) (t : Task) (live : slice_get es i ≡ Some (b, s)) (is : slice_get ts i ≡ Some t) where
  -- so the task stands in none
  pub stays_free : is_joining t.wait ≡ false
  stays_free =
      unjoined_by (spots p.flows) t.wait (control (spots p.flows) (inner t.frames))
      (ap (λ (o : Option Join). join_of (with_join o (control_in (spots p.flows) t.wait (control (spots p.flows) (inner t.frames))))) (sym (join_here es i b s lone live))
      ∙ (alike_at p es ts i b s t alike live is).join ∙ join_here es i b s lone live)

  -- its control is that of its frames
  pub frames_control : control_at p s t ≡ control (spots p.flows) (inner t.frames)
  frames_control = no_join s.join (spots p.flows) t stays_free ∙ same_control (spots p.flows) t.wait (control (spots p.flows) (inner t.frames)) stays_free

  pub waits_none : stands_waiting (control_at p s t) ≡ false
  waits_none = ap stands_waiting frames_control ∙ no_wait (spots p.flows) (inner t.frames)

  -- no branch of it may begin
  pub begins_none : begins (control_at p s t) ≡ false
  begins_none = ap begins frames_control ∙ no_begin (spots p.flows) (inner t.frames)

module _ (m : Machine) (g : Good m) (i b : ℕ) (at : At m i b) where
  abbrev pub P : Program
  P = program_of m.program

  abbrev pub Es : List (ℕ × Status)
  Es = (table_of m.tasks).live

  abbrev pub Ts : List Task
  Ts = m.moving.items

  abbrev pub all : AllGoOn P 1 Es Ts m.scopes
  all = ((one_fact P (nodes_of m.program) Es Ts m.scopes).0 g.standing).0

  abbrev pub here : IsHere Es Ts i b at.status at.task
  here = record { place = (entry_is_here P Es Ts m.tasks.made i b at.status m.tasks.rising all.alike at.live).1.place; status = at.live; task = at.is }

  -- what stands around it
  abbrev pub Ar : Around
  Ar = around_here P 1 Es Ts m.scopes b at.status at.task

  pub around_is : around_at m i b ≡ Ar
  around_is =
      ap {B = Around} (λ (o : Option (ℕ × Status)). elim o [ None ↦ around P | Some e ↦ elim (slice_get Ts i) [ None ↦ around P | Some t ↦ around_of P 1 (holders_of P Es Ts) (holder_of P (b, e.1) t) (layers_of m.scopes) ] ]) at.live
      ∙ ap {B = Around} (λ (o : Option Task). elim o [ None ↦ around P | Some t ↦ around_of P 1 (holders_of P Es Ts) (holder_of P (b, at.status) t) (layers_of m.scopes) ]) at.is

  pub main_here : Alone P Es Ts m.scopes b at.status
  main_here = alone_here P Es Ts m.scopes i b at.status g.lone at.live

  -- it stands in no parallel step, and its control is that of its frames
  pub unjoined : is_joining at.task.wait ≡ false
  unjoined = stays_free P Es Ts all.alike g.lone i b at.status at.task at.live at.is

  pub control_here : control_at P at.status at.task ≡ control (spots P.flows) (inner at.task.frames)
  control_here = frames_control P Es Ts all.alike g.lone i b at.status at.task at.live at.is

  pub free : stands_waiting (control_at P at.status at.task) ≡ false
  free = waits_none P Es Ts all.alike g.lone i b at.status at.task at.live at.is

  pub lives : task (shown m) b ≡ Some (seen_task m at.status at.task)
  lives = task_here P b i Es Ts m.scopes at.status at.task here.place at.live at.is

  pub childless : IsChildless (holders_of P Es Ts) b
  childless = none_is_parent (holders_of P Es Ts) (layers_of m.scopes) (shown m) b
      (shows P 1 Es Ts m.scopes all i b at.status at.task here.place at.live at.is (shown m) refl)
      (λ k u q e f h. ∥∥₁_elim g.stood (λ x y. absurd x) (λ stood. moving_is_childless P (shown m) b k (seen_task m at.status at.task) u q stood.0 lives (inr free) e f h))

  -- what it reads
  pub reads : (c : Config) → c.tasks ≡ tasks_view P Es Ts m.scopes → 1 ≡ c.facts.rules → ReadsSo P 1 Es Ts m.scopes b at.status at.task c
  reads c is same = task_reads P 1 Es Ts m.scopes i b at.status at.task c all here childless is same

  pub fit : AllStandAt (spots P.flows) (nodes_of m.program) (inner at.task.frames) × CanGoOn (nodes_of m.program) at.task
  fit = (each_fits P (nodes_of m.program) i Ts at.task at.task g.standing.fit at.is).0

  pub stands_now : Stands Ar (nodes_of m.program) at.task.frames m.scopes
  stands_now = stands Ar (nodes_of m.program) at.task.frames m.scopes
      (standing_from Ar (nodes_of m.program) at.task m.scopes fit.0 (reads (shown m) refl refl).linked)

  pub rises : RisesFrom 0 m.tasks.made (tasks_view P Es Ts m.scopes)
  rises = rises_view P 0 m.tasks.made Es Ts m.scopes m.tasks.rising

-- a live task, by its place
pub here_at : (m : Machine) → Good m → (i b : ℕ) → IsAt b i (table_of m.tasks).live → At m i b
here_at m g i b there =
    let all = ((one_fact (program_of m.program) (nodes_of m.program) (table_of m.tasks).live m.moving.items m.scopes).0 g.standing).0 in
    let beside = entry_is_here (program_of m.program) (table_of m.tasks).live m.moving.items m.tasks.made i b there.0 m.tasks.rising all.alike there.1 in
    record { status = there.0; task = beside.0; live = there.1; is = beside.1.task }

-- one beside the table
pub entry_at : (p : Program) (es : List (ℕ × Status)) (ts : List Task) (i : ℕ) (t : Task) → AreAlike p es ts → slice_get ts i ≡ Some t → (e : ℕ × Status) × (slice_get es i ≡ Some e)
entry_at p [] [] i t all is = absurd (let no : None ≡ Some t = is in cc no)
entry_at p [] (u ∷ us) i t all is = absurd all
entry_at p (e ∷ es) [] i t all is = absurd all
entry_at p (e ∷ es) (u ∷ us) zero t all is = (e, refl)
entry_at p (e ∷ es) (u ∷ us) (suc i) t all is = entry_at p es us i t all.1 is

abbrev pub place_at : (m : Machine) → Good m → (i : ℕ) (t : Task) → slice_get m.moving.items i ≡ Some t → (b : ℕ) × At m i b
place_at m g i t is =
    let e = entry_at (program_of m.program) (table_of m.tasks).live m.moving.items i t g.standing.alike is in
    (e.0.0, record { status = e.0.1; task = t; live = e.1; is = is })

-- each live task stands at the first place
pub first_place : (es : List (ℕ × Status)) (i b : ℕ) (s : Status) → is_lone es ≡ true → slice_get es i ≡ Some (b, s) → i ≡ 0
first_place [] i b s lone is = absurd (let no : None ≡ Some (b, s) = is in cc no)
first_place (e ∷ f ∷ es) i b s lone is = absurd (cc lone)
first_place (e ∷ []) zero b s lone is = refl
first_place (e ∷ []) (suc i) b s lone is = absurd (let no : None ≡ Some (b, s) = is in cc no)

-- so a number has one task
pub same_task : (m : Machine) → Good m → (i j b : ℕ) (x : At m i b) (y : At m j b) → x.task ≡ y.task
same_task m g i j b x y =
    let place : i ≡ j = first_place (table_of m.tasks).live i b x.status g.lone x.live ∙ sym (first_place (table_of m.tasks).live j b y.status g.lone y.live) in
    let both : Some x.task ≡ Some y.task = sym x.is ∙ ap (slice_get m.moving.items) place ∙ y.is in
    cc both

-- there are as many
pub as_many : (p : Program) (es : List (ℕ × Status)) (ts : List Task) → AreAlike p es ts → length es ≡ length ts
as_many p [] [] alike = refl
as_many p [] (t ∷ ts) alike = absurd alike
as_many p (e ∷ es) [] alike = absurd alike
as_many p (e ∷ es) (t ∷ ts) alike = ap suc (as_many p es ts alike.1)

-- ## Events
pub goes_right : StepsStand → (m : Machine) → Good m → (e : Event) (k : Kind) → next (program_of m.program) (shown m) e ≡ Wrong k → ⊥
goes_right law m g e k wrong = ∥∥₁_elim g.stood (λ x y. absurd x) (λ stood. subst (StandsAfter (program_of m.program)) wrong (law (program_of m.program) (accept_of (program_of m.program) m.program.accepted) (shown m) stood.0 e))

pub stood_next : StepsStand → StepsStaySound → (m : Machine) → Good m → (e : Event) (d : Config) → next (program_of m.program) (shown m) e ≡ To d → ∥ HasStood (program_of m.program) d ∥₁
stood_next law sound m g e d to =
    ∥∥₁_map g.stood (λ stood. (subst (StandsAfter (program_of m.program)) to (law (program_of m.program) (accept_of (program_of m.program) m.program.accepted) (shown m) stood.0 e), sound (program_of m.program) (shown m) d e stood.1 to))
