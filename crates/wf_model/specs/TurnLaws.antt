-- Laws of the configuration after the turns of a journal up to a session and its waits.
use Rattle.std.specs.Prelude.{◌≡◌, ℕ, false, List, [], ◌∷◌, ◌++◌, IsTrue}
use Rattle.std.specs.List.{list_all, flat_map}
use Rattle.wf_ast.specs.Tree.{Program}
use Rattle.wf_model.specs.Run.{run_on, run, is_before, config_at}
use Rattle.wf_value.specs.Events.{Turn, Start}

-- one more turn leads on, where it stands before that point
abbrev pub NextTurnGoesOn : Type 0
NextTurnGoesOn = (p : Program) (s : Start) (ts : List Turn) (t : Turn) (session waits : ℕ) → IsTrue (is_before session waits t)
    → config_at p s (ts ++ t ∷ []) session waits ≡ run_on p (config_at p s ts session waits) t.events

-- and doesn't count, where it stands behind it
abbrev pub LaterTurnDoesNotCount : Type 0
LaterTurnDoesNotCount = (p : Program) (s : Start) (ts : List Turn) (t : Turn) (session waits : ℕ) → is_before session waits t ≡ false
    → config_at p s (ts ++ t ∷ []) session waits ≡ config_at p s ts session waits

-- where all turns stand before it, it is what the run of all events comes to
abbrev pub AllTurnsAreTheRun : Type 0
AllTurnsAreTheRun = (p : Program) (s : Start) (ts : List Turn) (session waits : ℕ) → IsTrue (list_all (is_before session waits) ts)
    → config_at p s ts session waits ≡ run p s (flat_map (λ t. t.events) ts)
