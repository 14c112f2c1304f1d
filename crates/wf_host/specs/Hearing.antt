-- Of which calls the polls of a host in memory hear.
use Rattle.std.specs.Prelude.{◌≡◌, ◌==◌, if◌then◌else◌, ℕ, Bool, true, false, List, [], ◌∷◌, Some}
use Rattle.wf_host.specs.declared.data.Deed.{Deed}
use Rattle.wf_host.specs.declared.data.Deed.TheVariants.{Start, Poll, Now, Reply, Drop, Print}
use Rattle.wf_host.specs.declared.plan.Service.{Service}
use Rattle.wf_host.specs.World.{call_of}
use Rattle.wf_host.specs.Ahead.{piece_limit, next_thing, ahead}

-- the calls that were started and not dropped since, after one deed more
abbrev pub open_after : Deed → (ℕ → Bool) → ℕ → Bool
open_after (Start k to bytes) were = λ n. if n == k then true else were n
open_after (Drop k) were = λ n. if n == k then false else were n
open_after (Poll until heard) were = were
open_after (Now t) were = were
open_after (Reply k bytes) were = were
open_after (Print bytes) were = were

abbrev pub open_from : (ℕ → Bool) → List Deed → ℕ → Bool
open_from were [] = were
open_from were (d ∷ rest) = open_from (open_after d were) rest

-- this call was started by these deeds, and not dropped since
abbrev pub is_started : List Deed → ℕ → Bool
is_started deeds = open_from (λ k. false) deeds

-- a poll hears only of a call that was started and not dropped since
abbrev pub HeardIsStarted : Type 0
HeardIsStarted = (services : List Service) (deeds : List Deed) (k : ℕ) → call_of (next_thing piece_limit (ahead services deeds)) ≡ Some k → is_started deeds k ≡ true
