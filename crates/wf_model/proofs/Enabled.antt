-- An answer to an open call leads somewhere.
use Rattle.std.specs.Prelude.{◌≡◌, ◌+◌, ℕ, zero, suc, true, false, List, [], ◌∷◌, nat_le, Some, None, Ok, Err, Option, Result}
use Rattle.std.proofs.Common.{refl, sym, ◌∙◌, subst}
use Rattle.std.proofs.lemmas.Bool.{le-leb}
use Rattle.wf_ast.specs.Flows.{flow}
use Rattle.wf_ast.specs.Tree.{Steps, Param, Flow, TryBody, try, no_except, except}
use Rattle.wf_model.proofs.Walk.{bool_case}
use Rattle.wf_model.specs.Config.{Item, Do, Try, Judge, Mark, Back, Wait, Calling, Task, Call, Open, Answered, Outcome, Active, Returned, Raised, Cancelled, Config, After, To, Wrong, NotNow, body_limit, call_limit, task}
use Rattle.wf_ast.specs.Tree.{Program}
use Rattle.wf_model.specs.Layers.{opened, enter, Assigned, Done, Refused, Undeclared, assign}
use Rattle.wf_model.specs.Leave.{on_assigned, gives, handed}
use Rattle.wf_model.specs.Local.{Local, Scene, Moved, Goes, Ends, Does, Breaks, Not, settle, ended, goes}
use Rattle.wf_model.specs.Move.{awake, resumed}
use Rattle.wf_model.specs.Ready.{call}
use Rattle.wf_model.specs.Step.{stopped, read_at, close, replied, replied_to, when, by_event, step_from, next}
use Rattle.wf_model.specs.Taken.{scene, local, done, merged, by_itself}
use Rattle.wf_model.specs.Unwind.{Judgement, Says, Asks, judged, retried, excepted, handled, called, asked_one, asks, decided, policy_of, unwind, calls_in}
use Rattle.wf_model.specs.WaitLaws.{AnswersLead}
use Rattle.wf_value.specs.Events.{Reply, Event}
use Rattle.wf_value.specs.HttpText.{reply_result, reply_length}
use Rattle.wf_value.specs.Data.{Data, Pairs}
use Rattle.wf_value.specs.Errors.{error_map, Answer}
use Rattle.wf_value.specs.declared.Tag.TheVariants.{RecursionError}
use Rattle.wf_value.specs.Pairs.{Text}

-- the task can move so
abbrev Sure : Moved → Type 0
Sure (Goes l) = Unit {0}
Sure (Ends e l) = Unit {0}
Sure (Does x m) = Sure m
Sure (Breaks k) = Unit {0}
Sure Not = ⊥

ended_sure : (k : List Item) (l : Local) → Sure (ended k l)
ended_sure [] l = tt
ended_sure (i ∷ k) l = tt

goes_sure : (k : List Item) (l : Local) → Sure (goes k l)
goes_sure k l = ended_sure (settle k l).control (settle k l)

retried_sure : (s : Scene) (t : TryBody) (n : ℕ) (d : Option ℕ) (k : List Item) (l : Local) → Sure (retried s t n d k l)
retried_sure s (try body None x) n d k l = goes_sure k l
retried_sure s (try body (Some p) x) n d k l = tt

excepted_sure : (a : Answer Pairs) (ss : Steps) (k : List Item) (l : Local) (outward : Data → Moved) → ((e : Data) → Sure (outward e)) → Sure (excepted a ss k l outward)
excepted_sure (Err t) ss k l outward out = out (error_map t)
excepted_sure (Ok ps) ss k l outward out = goes_sure (Do ss ss ∷ Mark ∷ k) (enter false ps l)

handled_sure : (s : Scene) (e : Data) (t : TryBody) (k : List Item) (l : Local) (outward : Data → Moved) → ((d : Data) → Sure (outward d)) → Sure (handled s e t k l outward)
handled_sure s e (try body p no_except) k l outward out = out e
handled_sure s e (try body p (except x ss)) k l outward out = excepted_sure (opened s l ((x, e) ∷ [])) ss k l outward out

called_sure : (a : Answer Pairs) (ss : Steps) (k : List Item) (l : Local) (outward : Data → Moved) → ((e : Data) → Sure (outward e)) → Sure (called a ss k l outward)
called_sure (Err t) ss k l outward out = out (error_map t)
called_sure (Ok ps) ss k l outward out = goes_sure (Do ss ss ∷ k) (enter true ps l)

asked_one_sure : (s : Scene) (e : Data) (xs : List Param) (ss : Steps) (k : List Item) (l : Local) (outward : Data → Moved) → ((d : Data) → Sure (outward d)) → Sure (asked_one s e xs ss k l outward)
asked_one_sure s e [] ss k l outward out = tt
asked_one_sure s e (x ∷ []) ss k l outward out =
    bool_case Sure (nat_le call_limit (calls_in k)) (outward (error_map RecursionError)) (called (opened s l ((x.name, e) ∷ [])) ss (Back None ∷ k) l outward)
    (λ _. out (error_map RecursionError)) (λ _. called_sure (opened s l ((x.name, e) ∷ [])) ss (Back None ∷ k) l outward out)
asked_one_sure s e (x ∷ y ∷ xs) ss k l outward out = tt

asks_sure : (s : Scene) (e : Data) (f : Option Flow) (k : List Item) (l : Local) (outward : Data → Moved) → ((d : Data) → Sure (outward d)) → Sure (asks s e f k l outward)
asks_sure s e None k l outward out = tt
asks_sure s e (Some f) k l outward out = asked_one_sure s e f.params f.steps k l outward out

decided_sure : (s : Scene) (e : Data) (j : Judgement) (t : TryBody) (n : ℕ) (d : Option ℕ) (k : List Item) (l : Local) (outward : Data → Moved) → ((x : Data) → Sure (outward x)) → Sure (decided s e j t n d k l outward)
decided_sure s e (Says true) t n d k l outward out = retried_sure s t n d k l
decided_sure s e (Says false) t n d k l outward out = handled_sure s e t k l outward out
decided_sure s e (Asks f) t n d k l outward out = asks_sure s e (flow s.program.flows f) (Judge t n d e ∷ k) l outward out

unwind_sure : (s : Scene) (k : List Item) (l : Local) (e : Data) → Sure (unwind s k l e)
unwind_sure s [] l e = tt
unwind_sure s (Mark ∷ k) l e = unwind_sure s k _ e
unwind_sure s (Back r ∷ k) l e = unwind_sure s k _ e
unwind_sure s (Try t n d ∷ k) l e = decided_sure s e (judged (policy_of t) n e) t n d k l (unwind s k l) (λ x. unwind_sure s k l x)
unwind_sure s (i ∷ k) l e = unwind_sure s k l e

on_assigned_sure : (s : Scene) (k : List Item) (l : Local) (a : Assigned) → Sure (on_assigned s k l a)
on_assigned_sure s k l (Done m) = goes_sure k m
on_assigned_sure s k l (Refused t) = unwind_sure s k l (error_map t)
on_assigned_sure s k l Undeclared = tt

gives_sure : (s : Scene) (r : Option Text) (v : Data) (k : List Item) (l : Local) → Sure (gives s r v k l)
gives_sure s None v k l = goes_sure k l
gives_sure s (Some x) v k l = on_assigned_sure s k l (assign s x [] v l)

handed_sure : (s : Scene) (r : Option Text) (e : Result Data Data) (k : List Item) (l : Local) → Sure (handed s r e k l)
handed_sure s r (Ok v) k l = gives_sure s r v k l
handed_sure s r (Err e) k l = unwind_sure s k l e

-- it leads somewhere, or goes wrong
abbrev Leading : After → Type 0
Leading (To c) = Unit {0}
Leading (Wrong k) = Unit {0}
Leading NotNow = ⊥

merged_leads : (b : ℕ) (parent : Option (ℕ × ℕ)) (m : Moved) (c : Config) → Sure m → Leading (merged b parent m c)
merged_leads b parent (Goes l) c h = tt
merged_leads b parent (Ends e l) c h = tt
merged_leads b parent (Does x m) c h = merged_leads b parent m (done b x c) h
merged_leads b parent (Breaks k) c h = tt
merged_leads b parent Not c h = absurd h

itself_leads : (p : Program) (b : ℕ) (t : Task) (c : Config) (r : Option Text) (e : Result Data Data) → task c b ≡ Some t → Leading (by_itself p b 0 (λ s l. resumed s r e l) c)
itself_leads p b t c r e there =
    subst (λ o. Leading (elim o [ None ↦ NotNow | Some u ↦ merged b u.parent (resumed (scene p c b u 0) r e (local c b u)) c ])) (sym there)
    (merged_leads b t.parent (resumed (scene p c b t 0) r e (local c b t)) c (handed_sure (scene p c b t 0) r e t.control (awake (local c b t))))

closed_task : (n b : ℕ) (x : Call) (c : Config) → task (close n x c) b ≡ task c b
closed_task zero b x c = refl
closed_task (suc n) b x c = refl

replied_leads : (p : Program) (n : ℕ) (a : Reply) (b : ℕ) (t : Task) (w : Wait) (s : Option Text) (c : Config) → task c b ≡ Some t → w ≡ Calling n s → Leading (replied p n a b w c)
replied_leads p n a b t w s c there is =
    subst (λ v. Leading (replied p n a b v c)) (sym is)
    (let e = record c { bodies = c.bodies + reply_length a } in
    bool_case Leading (nat_le (c.bodies + reply_length a) body_limit) (by_itself p b 0 (λ z l. resumed z s (reply_result a) l) (close n Answered e)) (To (stopped c))
    (λ _. itself_leads p b t (close n Answered e) s (reply_result a) (closed_task n b Answered e ∙ there)) (λ _. tt))

active_step : (o : Outcome) (p : Program) (c : Config) (e : Event) → o ≡ Active → step_from o p c e ≡ by_event p c e
active_step Active p c e is = refl
active_step (Returned v) p c e is = absurd (let f : Returned v ≡ Active = is in cc f)
active_step (Raised v) p c e is = absurd (let f : Raised v ≡ Active = is in cc f)
active_step Cancelled p c e is = absurd (let f : Cancelled ≡ Active = is in cc f)

pub answers_lead : AnswersLead
answers_lead p c k b r q d a awaited active asks le none =
    let e = read_at r c in
    let (t, s, there, waits) = awaited.waited k b q d asks in
    let inner : Leading (replied_to p k a (Open b q d) e) =
    subst (λ o. Leading (elim o [ None ↦ NotNow | Some u ↦ replied p k a b u.wait e ])) (sym there) (replied_leads p k a b t t.wait s e there waits) in
    let outer : Leading (when (nat_le c.last r) (replied_to p k a (call c k) e)) =
    subst (λ v. Leading (when v (replied_to p k a (call c k) e))) (sym (le-leb c.last r le)) (subst (λ x. Leading (replied_to p k a x e)) (sym asks) inner) in
    let all : Leading (next p c (Event.Answer k r a)) = subst Leading (sym (active_step c.outcome p c (Event.Answer k r a) active)) outer in
    subst Leading none all
