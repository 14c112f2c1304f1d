-- The lines to calls, by the calls' numbers, which begin at 0.
--     at         what a line has, or what there is without one
--     told_by    what was told of a call, by all that was heard of it
--     AreRead    what is read of each call is what was told of it
use Rattle.std.specs.Prelude.{⊤, ◌≡◌, ℕ, zero, suc, Bool, true, false, if◌then◌else◌, is_ok, List, [], ◌∷◌, ◌++◌, Result, Some, slice_get}
use Rattle.std.specs.List.{fold}
use Rattle.wf_connections.specs.declared.line.Line.{Line}
use Rattle.wf_connections.specs.declared.line.State.{State}
use Rattle.wf_connections.specs.declared.line.State.TheVariants as state
use Rattle.wf_deeds.specs.Deeds.{Told, nothing_told, tells}
use Rattle.wf_host.specs.declared.data.What.{What}
use Rattle.wf_http_in.specs.Stages.{HasHeard}
use Rattle.wf_http_in.specs.declared.reading.Reading.{Reading}

-- ## One line
abbrev pub is_used : State → Bool
is_used state.Unused = false
is_used s = true

abbrev pub is_dropped : State → Bool
is_dropped state.Dropped = true
is_dropped s = false

-- what is heard is read
abbrev pub is_heard : State → Bool
is_heard (state.Heard r) = true
is_heard s = false

-- all that was heard
abbrev pub Heard : Type 0
Heard = List (What × Unit {0})

-- with this, where there was memory
abbrev pub adds : {A E : Type 0} → Result A E → What → Heard → Heard
adds result what heard = if is_ok result then heard ++ (what, tt) ∷ [] else heard

abbrev pub told_by : ℕ → Heard → Told
told_by k heard = fold (λ t h. tells k h.0 t) nothing_told heard

-- a reading has heard what was told
abbrev pub HasRead : Reading → Told → Type 0
HasRead r t = HasHeard r t.bytes t.close

abbrev pub IsReadAs : State → Told → Type 0
IsReadAs (state.Heard r) t = HasRead r.value t
IsReadAs s t = ⊤

abbrev pub IsRead : ℕ → Line → Type 0
IsRead k l = IsReadAs l.state (told_by k l.heard.items)

-- ## All lines
abbrev pub at : {A : Type 0} → (Line → A) → A → List Line → ℕ → A
at of none [] k = none
at of none (l ∷ ls) zero = of l
at of none (l ∷ ls) (suc k) = at of none ls k

abbrev pub used_at : List Line → ℕ → Bool
used_at ls k = at (λ l. is_used l.state) false ls k

abbrev pub dropped_at : List Line → ℕ → Bool
dropped_at ls k = at (λ l. is_dropped l.state) false ls k

abbrev pub heard_at : List Line → ℕ → Bool
heard_at ls k = at (λ l. is_heard l.state) false ls k

abbrev pub told_at : List Line → ℕ → Told
told_at ls k = at (λ l. told_by k l.heard.items) nothing_told ls k

abbrev pub AreRead : List Line → Type 0
AreRead ls = (k : ℕ) (l : Line) → slice_get ls k ≡ Some l → IsRead k l

-- to each call the lines are the same
pub record AreSame (old new : List Line) : Type 0 where
  pub used : (k : ℕ) → used_at new k ≡ used_at old k
  pub dropped : (k : ℕ) → dropped_at new k ≡ dropped_at old k
  pub listening : (k : ℕ) → heard_at new k ≡ heard_at old k
  pub told : (k : ℕ) → told_at new k ≡ told_at old k
