-- What events lead to, some after others.
use Rattle.std.specs.Prelude.{◌≡◌, ◌<◌, ◌≤◌, ◌+◌, ◌-◌, ℕ, zero, suc, List, [], ◌∷◌, ◌++◌, drop, get_or, length, replicate}
use Rattle.std.proofs.Common.{refl, sym, ◌∙◌, ap, arith}
use Rattle.std.proofs.lemmas.List.{drop_all, drop_more, replicate-append-replicate}
use Rattle.wf_ast.specs.Tree.{Program}
use Rattle.wf_events.specs.Runs.{run_view, runs_view}
use Rattle.wf_events.specs.declared.runs.Run.{Run}
use Rattle.wf_machine.specs.Runs.{AreMoves}
use Rattle.wf_machine.specs.Seen.{state_of}
use Rattle.wf_machine.specs.declared.machine.Machine.{Machine}
use Rattle.wf_model.specs.Config.{Config, After, To, Wrong, NotNow}
use Rattle.wf_model.specs.Run.{run_on}
use Rattle.wf_model.specs.Step.{next}
use Rattle.wf_value.specs.Events.{Event, Move}

-- where events lead from where a machine stands
unfoldable pub leads : Machine → List Event → After
leads m es = run_on (state_of m).program (To (state_of m).config) es

-- ## Some events, and others behind them
-- nothing comes behind an event that can't come
from_nowhere : (p : Program) (es : List Event) → run_on p NotNow es ≡ NotNow
from_nowhere p [] = refl
from_nowhere p (e ∷ es) = refl

behind : (p : Program) (a : After) (es fs : List Event) → run_on p a (es ++ fs) ≡ run_on p (run_on p a es) fs
behind p a [] fs = refl
behind p (To c) (e ∷ es) fs = behind p (next p c e) es fs
behind p (Wrong k) (e ∷ es) fs = sym (from_nowhere p fs)
behind p NotNow (e ∷ es) fs = sym (from_nowhere p fs)

-- a machine that took some events leads where the others lead
pub past : (m n : Machine) (es fs : List Event) → run_on (state_of m).program (To (state_of m).config) es ≡ To (state_of n).config → (state_of n).program ≡ (state_of m).program → leads m (es ++ fs) ≡ leads n fs
unfolding leads
past m n es fs took same =
    behind (state_of m).program (To (state_of m).config) es fs ∙ ap (λ a. run_on (state_of m).program a fs) took ∙ ap (λ p. run_on p (To (state_of n).config) fs) (sym same)

never_from : (p : Program) (a : After) (es : List Event) → ((d : Config) → a ≡ To d → ⊥) → (c : Config) → run_on p a es ≡ To c → ⊥
never_from p (To d) es never c is = never d refl
never_from p (Wrong k) [] never c is = never c is
never_from p (Wrong k) (e ∷ es) never c is = absurd cc
never_from p NotNow es never c is = absurd (let bad : NotNow ≡ To c = sym (from_nowhere p es) ∙ is in cc bad)

-- behind some that lead nowhere no others come
pub never_past : (m : Machine) (es fs : List Event) → ((d : Config) → run_on (state_of m).program (To (state_of m).config) es ≡ To d → ⊥) → (c : Config) → leads m (es ++ fs) ≡ To c → ⊥
unfolding leads
never_past m es fs never c is = never_from (state_of m).program (run_on (state_of m).program (To (state_of m).config) es) fs never c (sym (behind (state_of m).program (To (state_of m).config) es fs) ∙ is)

-- where all of them lead, when none is left
pub ends : (m n : Machine) (es fs view : List Event) → es ≡ view → fs ≡ [] → leads m es ≡ leads n fs → run_on (state_of m).program (To (state_of m).config) view ≡ To (state_of n).config
unfolding leads
ends m n es fs view same none is =
    ap (λ l. run_on (state_of m).program (To (state_of m).config) l) (sym same) ∙ is ∙ ap (λ l. run_on (state_of n).program (To (state_of n).config) l) none

-- and where those that are left lead nowhere, all of them lead nowhere
pub never : (m n : Machine) (es fs view : List Event) → es ≡ view → leads m es ≡ leads n fs → ((c : Config) → leads n fs ≡ To c → ⊥) → (c : Config) → run_on (state_of m).program (To (state_of m).config) view ≡ To c → ⊥
unfolding leads
never m n es fs view same is none c leads_to = none c (sym is ∙ ap (λ l. run_on (state_of m).program (To (state_of m).config) l) same ∙ leads_to)

-- ## Runs
-- a run, and those behind it
pub at_run : (rs : List Run) (i : ℕ) (r : Run) → i < length rs → r ≡ get_or rs i r → runs_view (drop i rs) ≡ run_view r ++ runs_view (drop (i + 1) rs)
at_run rs i r within is = ap runs_view (drop_more rs i r within) ∙ ap (λ (x : Run). run_view x ++ runs_view (drop (i + 1) rs)) (sym is)

-- no run is left
pub all_runs : (rs : List Run) (i : ℕ) → length rs ≤ i → runs_view (drop i rs) ≡ []
all_runs rs i all = ap runs_view (drop_all i rs all)

-- ## Moves
-- as many moves as were made lead there
pub moves_lead : (reading : ℕ) (p : Program) (n : ℕ) (b c : Config) → AreMoves reading p n b c → run_on p (To b) (replicate n (Move 0)) ≡ To c
moves_lead reading p zero b c are = ap To are
moves_lead reading p (suc n) b c are = ap (λ a. run_on p a (replicate n (Move 0))) are.1.leads ∙ moves_lead reading p n are.0 c are.2

-- some of them, and the others
pub some_moves : (left n : ℕ) → n ≤ left → replicate left (Move 0) ≡ replicate n (Move 0) ++ replicate (left - n) (Move 0)
some_moves left n within =
    let all : n + (left - n) ≡ left = omega arith in
    sym (replicate-append-replicate n (left - n) (Move 0) ∙ ap (λ (k : ℕ). replicate k (Move 0)) all)
