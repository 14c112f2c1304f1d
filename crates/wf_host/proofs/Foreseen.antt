-- What is ahead, after one deed more.
use Rattle.std.proofs.Common.{◌≡◌, ℕ, Result, Ok, Err, OnOk, OnErr, MatchResult, List, [], ◌∷◌, ◌++◌, sym, ◌∙◌, ap, append_assoc}
use Rattle.std.proofs.lemmas.List.{append-nil}
use Rattle.wf_host.specs.declared.data.Address.{Address}
use Rattle.wf_host.specs.declared.data.Deed.{Deed}
use Rattle.wf_host.specs.Memory.{prints}
use Rattle.wf_host.proofs.Printed.{prints_go_on}
use Rattle.wf_host.specs.declared.plan.Service.{Service}
use Rattle.wf_host.specs.World.{World, Same, Elapses}
use Rattle.wf_host.specs.Stage.{Stage, after_call, after_reading}
use Rattle.wf_host.specs.Ahead.{Line, Ahead, line_of, answer_to, starts_to, without, after_drop, after_deed, ahead_from, ahead, at_first}

pub ahead_from-append : (services : List Service) (before : List Deed) (a : Ahead) (ds : List Deed) (d : Deed) → ahead_from services before a (ds ++ d ∷ []) ≡ after_deed services (before ++ ds) d (ahead_from services before a ds)
ahead_from-append services before a [] d = ap (λ (l : List Deed). after_deed services l d a) (sym (append-nil before))
ahead_from-append services before a (e ∷ rest) d =
    ahead_from-append services (before ++ e ∷ []) (after_deed services before e a) rest d
    ∙ ap (λ (l : List Deed). after_deed services l d (ahead_from services (before ++ e ∷ []) (after_deed services before e a) rest)) (append_assoc before (e ∷ []) rest)

-- a call with a deed
pub foreseen_goes_on : (services : List Service) (step : List ℕ → List ℕ → Type 0) (d : Deed) (old new : World) (a b : Ahead) → Elapses step (d ∷ []) old new → a ≡ ahead services old.deeds → b ≡ after_deed services old.deeds d a → b ≡ ahead services new.deeds
foreseen_goes_on services step d old new a b time was is =
    is ∙ ap (λ (x : Ahead). after_deed services old.deeds d x) was
    ∙ sym (ahead_from-append services [] at_first old.deeds d)
    ∙ ap (λ (l : List Deed). ahead services l) (sym time.deeds)

-- a call without one
pub foreseen_stays : (services : List Service) (step : List ℕ → List ℕ → Type 0) (old new : World) (a : Ahead) → Elapses step [] old new → a ≡ ahead services old.deeds → a ≡ ahead services new.deeds
foreseen_stays services step old new a time was = was ∙ ap (λ (l : List Deed). ahead services l) (sym (time.deeds ∙ append-nil old.deeds))

-- the services of a plan don't change
pub same_services : (p q : Stage) → q ≡ after_call p → q.services ≡ p.services
same_services p q is = ap (λ (s : Stage). s.services) is

pub same_services_read : (p q r : Stage) → q ≡ after_call p → r ≡ after_reading q → r.services ≡ p.services
same_services_read p q r is read = ap (λ (s : Stage). s.services) read ∙ ap (λ (s : Stage). s.services) is

pub foreseen_at : (p q : Stage) (a : Ahead) (deeds : List Deed) → q.services ≡ p.services → a ≡ ahead p.services deeds → a ≡ ahead q.services deeds
foreseen_at p q a deeds same is = is ∙ ap (λ (l : List Service). ahead l deeds) (sym same)

abbrev pub ahead_of : ℕ → List Line → Ahead
ahead_of p c = record { polls = p; calls = c }

pub dropped : (k p : ℕ) (calls new : List Line) (a : Ahead) → new ≡ without k calls → ahead_of p calls ≡ a → ahead_of p new ≡ after_drop k a
dropped k p calls new a is same = ap (λ (l : List Line). ahead_of p l) is ∙ ap (λ (x : Ahead). after_drop k x) same

-- a start, which may find no memory
pub foreseen_either : {T E : Type 0} (r : Result T E) (services : List Service) (d : Deed) (old new : World) (a b x : Ahead) → MatchResult r (λ _. Elapses Same (d ∷ []) old new) (λ _. Elapses Same [] old new) → OnOk r (b ≡ x) → OnErr r (b ≡ a) → x ≡ after_deed services old.deeds d a → a ≡ ahead services old.deeds → b ≡ ahead services new.deeds
foreseen_either (Ok t) services d old new a b x time ok err is was = foreseen_goes_on services Same d old new a b time was (ok ∙ is)
foreseen_either (Err e) services d old new a b x time ok err is was = err ∙ foreseen_stays services Same old new a time was

pub shown_either : {T E : Type 0} (r : Result T E) (d : Deed) (old new : World) (shown : List ℕ) → MatchResult r (λ _. Elapses Same (d ∷ []) old new) (λ _. Elapses Same [] old new) → prints (d ∷ []) ≡ [] → shown ≡ prints old.deeds → shown ≡ prints new.deeds
shown_either (Ok t) d old new shown time none was = prints_go_on Same (d ∷ []) old new shown shown [] time was (sym (append-nil shown)) none
shown_either (Err e) d old new shown time none was = was ∙ ap prints (sym (time.deeds ∙ append-nil old.deeds))

pub started_line : (k p : ℕ) (s t : List Service) (from to : Address) (e d : List Deed) (l : List Line) → l ≡ line_of k p (answer_to s from (starts_to from e)) → s ≡ t → from ≡ to → e ≡ d → l ≡ line_of k p (answer_to t to (starts_to to d))
started_line k p s t from to e d l is same_list same_place same_deeds =
    is ∙ ap (λ (x : List Service). line_of k p (answer_to x from (starts_to from e))) same_list
    ∙ ap (λ (x : Address). line_of k p (answer_to t x (starts_to x e))) same_place
    ∙ ap (λ (x : List Deed). line_of k p (answer_to t to (starts_to to x))) same_deeds

pub more_calls : (a : Ahead) (l m : List Line) → l ≡ m → ahead_of a.polls (a.calls ++ l) ≡ ahead_of a.polls (a.calls ++ m)
more_calls a l m is = ap (λ (x : List Line). ahead_of a.polls (a.calls ++ x)) is
