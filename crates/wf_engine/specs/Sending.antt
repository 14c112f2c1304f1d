-- What is sent, call by call.
--     SameButSent           what stays
--     is_to_drop, DropsOne, DropsAll
--     is_to_start, StartsOne, StartsAll    of one call, and of all calls
--     Sends, Sent           what it stands for besides, and what a part that went well leaves
use Rattle.std.specs.Prelude.{◌≡◌, ◌≢◌, ◌&&◌, ◌||◌, ℕ, Bool, true, false, not, is_some, List}
use Rattle.wf_deeds.specs.Clauses.{IsSending, KeptThroughout, Went, is_timed_out}
use Rattle.wf_deeds.specs.Memory.{Memory}
use Rattle.wf_deeds.specs.Outside.{Outside}
use Rattle.wf_engine.specs.Engine.{Holds, is_closed, memory}
use Rattle.wf_engine.specs.TheOutside.{InTheOutside}
use Rattle.wf_engine.specs.declared.engine.Engine.{Engine}
use Rattle.wf_host.specs.World.{World, Faults, NoneFell, Told}
use Rattle.wf_host.specs.declared.data.Deed.{Deed}
use Rattle.wf_deeds.specs.Language.{Language}
use Rattle.wf_model.specs.Ready.{call, request_of}
use Rattle.wf_replay.specs.TheLanguage.{the_language}

-- the execution and the session stay, and what was started and told of it
pub record SameButSent (m n : Memory) : Type 0 where
  pub program : n.program ≡ m.program
  pub config : n.config ≡ m.config
  pub session : n.session ≡ m.session
  pub reading : n.reading ≡ m.reading
  pub waits : n.waits ≡ m.waits
  pub taken : n.taken ≡ m.taken
  pub started : (k : ℕ) → m.started k ≡ true → n.started k ≡ true
  pub told : (k : ℕ) → m.started k ≡ true → n.told k ≡ m.told k

-- ## Drops
-- it was started and timed out, and isn't dropped yet
abbrev pub is_to_drop : Memory → ℕ → Bool
is_to_drop m k = is_timed_out (call m.config k) && m.started k && not (m.dropped k)

-- this call is dropped, if it is to be
pub record DropsOne (m n : Memory) (k : ℕ) : Type 0 where
  pub started : (j : ℕ) → n.started j ≡ m.started j
  pub here : n.dropped k ≡ m.dropped k || is_to_drop m k
  pub others : (j : ℕ) → j ≢ k → n.dropped j ≡ m.dropped j

-- each call is, if it is to be
pub record DropsAll (m n : Memory) : Type 0 where
  pub started : (k : ℕ) → n.started k ≡ m.started k
  pub dropped : (k : ℕ) → n.dropped k ≡ m.dropped k || is_to_drop m k

-- ## Starts
-- it is open and wasn't started
abbrev pub is_to_start : Memory → ℕ → Bool
is_to_start m k = is_some (request_of m.config k) && not (m.started k)

pub record StartsOne (m n : Memory) (k : ℕ) : Type 0 where
  pub dropped : (j : ℕ) → n.dropped j ≡ m.dropped j
  pub here : n.started k ≡ m.started k || is_to_start m k
  pub others : (j : ℕ) → j ≢ k → n.started j ≡ m.started j

pub record StartsAll (m n : Memory) : Type 0 where
  pub dropped : (k : ℕ) → n.dropped k ≡ m.dropped k
  pub started : (k : ℕ) → n.started k ≡ m.started k || is_to_start m k

-- ## Parts
-- it stands for drops of these calls and then starts of those besides
pub record Sends (L : Language) (O : Outside) (m n : Memory) (old new : World) (js ks : List ℕ) : Type 0 where
  pub done : List Deed
  pub went : Went L O m n old new done
  pub sends : IsSending js ks done

-- a part of what is sent went well: of an engine and what it is then, over a host and its counts of faults
pub record Sent (old new : World) (f g : Faults) (e d : Engine) (js ks : List ℕ) : Type 0 where
  pub not_closed : is_closed d ≡ false
  pub holds : Told old (Holds d new)
  pub same : SameButSent (memory e) (memory d)
  pub sends : InTheOutside (λ O. Told old (Sends the_language O (memory e) (memory d) old new js ks))
  pub moments : InTheOutside (λ O. Told old (KeptThroughout the_language O (memory e) old new))
  pub seen : Told old (new.seen ≡ old.seen)
  pub tells : new.tells ≡ old.tells
  pub counts : NoneFell f g
