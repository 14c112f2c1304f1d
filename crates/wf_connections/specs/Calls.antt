-- The calls that a session has started.
--     is_started, is_dropped    which were started and dropped
--     listens                   of which what is heard is read
--     told                      what was told of each since its start
--     Starts, Drops, Forgets, Hears    what each step changes
use Rattle.std.specs.Prelude.{◌≡◌, ◌≢◌, ◌&&◌, ◌||◌, ℕ, Bool, true, false, not, nat_eq}
use Rattle.wf_connections.specs.Lines.{dropped_at, heard_at, told_at, used_at}
use Rattle.wf_connections.specs.declared.connections.Connections.{Connections}
use Rattle.wf_deeds.specs.Deeds.{Told, nothing_told, tells}
use Rattle.wf_host.specs.declared.data.What.{What}

unfoldable pub is_started : Connections → ℕ → Bool
is_started c k = used_at c.lines.items k

unfoldable pub is_dropped : Connections → ℕ → Bool
is_dropped c k = dropped_at c.lines.items k

unfoldable pub listens : Connections → ℕ → Bool
listens c k = heard_at c.lines.items k

unfoldable pub told : Connections → ℕ → Told
told c k = told_at c.lines.items k

-- none was started
pub record IsFresh (c : Connections) : Type 0 where
  pub started : (k : ℕ) → is_started c k ≡ false
  pub dropped : (k : ℕ) → is_dropped c k ≡ false
  pub listening : (k : ℕ) → listens c k ≡ false

-- one was started
pub record Starts (old new : Connections) (call : ℕ) : Type 0 where
  pub started : (k : ℕ) → is_started new k ≡ nat_eq call k || is_started old k
  pub dropped : (k : ℕ) → is_dropped new k ≡ is_dropped old k
  pub listening : (k : ℕ) → listens new k ≡ nat_eq call k || listens old k
  pub told_of_it : told new call ≡ nothing_told
  pub told_of_others : (k : ℕ) → k ≢ call → told new k ≡ told old k

-- one was dropped
pub record Drops (old new : Connections) (call : ℕ) : Type 0 where
  pub started : (k : ℕ) → is_started new k ≡ is_started old k
  pub dropped : (k : ℕ) → is_dropped new k ≡ nat_eq call k || is_dropped old k
  pub listening : (k : ℕ) → listens new k ≡ not (nat_eq call k) && listens old k
  pub told_of_each : (k : ℕ) → told new k ≡ told old k

-- what is heard of one isn't wanted any more
pub record Forgets (old new : Connections) (call : ℕ) : Type 0 where
  pub started : (k : ℕ) → is_started new k ≡ is_started old k
  pub dropped : (k : ℕ) → is_dropped new k ≡ is_dropped old k
  pub listening : (k : ℕ) → listens new k ≡ not (nat_eq call k) && listens old k
  pub told_of_each : (k : ℕ) → told new k ≡ told old k

-- the same were started and dropped, and the same listen
pub record StandsAsBefore (old new : Connections) : Type 0 where
  pub started : (k : ℕ) → is_started new k ≡ is_started old k
  pub dropped : (k : ℕ) → is_dropped new k ≡ is_dropped old k
  pub listening : (k : ℕ) → listens new k ≡ listens old k

-- this was told of each that was started
abbrev pub Hears : (old new : Connections) → What → Type 0
Hears old new what = (k : ℕ) → is_started old k ≡ true → told new k ≡ tells k what (told old k)
