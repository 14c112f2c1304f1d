-- The calls that no wait looks at again.
--     AreClosed    none up to a number is open
--     AreDone      nor is any of them to be dropped
use Rattle.std.specs.Coded.{Coded-set, Π_prop, coded_bool, le_prop, →_prop}
use Rattle.std.specs.Prelude.{◌≡◌, ◌≤◌, ◌&&◌, ℕ, false, not, is_some, length}
use Rattle.wf_connections.specs.Calls.{is_dropped, is_started}
use Rattle.wf_connections.specs.declared.connections.Connections.{Connections}
use Rattle.wf_deeds.specs.Clauses.{is_timed_out}
use Rattle.wf_model.specs.Config.{Config}
use Rattle.wf_model.specs.Ready.{call, request_of}

-- all calls up to this number are there, and none of them is open
pub record AreClosed (c : Config) (n : ℕ) : Type 0 where
  pub within : n ≤ length c.calls
  pub shut : (k : ℕ) → k ≤ n → is_some (request_of c k) ≡ false

-- they are closed, and none of them was started and timed out without being dropped
pub record AreDone (c : Config) (a : Connections) (n : ℕ) : Type 0 where
  pub closed : AreClosed c n
  pub dropped : (k : ℕ) → k ≤ n → is_timed_out (call c k) && is_started a k && not (is_dropped a k) ≡ false

-- ## There is at most one proof of it
AreClosed-prop : (c : Config) (n : ℕ) → IsProp (AreClosed c n)
AreClosed-prop c n = λ x y i. record {
  within = le_prop x.within y.within i;
  shut = Π_prop {B = λ (k : ℕ). k ≤ n → is_some (request_of c k) ≡ false} (λ k. →_prop (Coded-set coded_bool (is_some (request_of c k)) false)) x.shut y.shut i;
}

pub AreDone-prop : (c : Config) (a : Connections) (n : ℕ) → IsProp (AreDone c a n)
AreDone-prop c a n = λ x y i. record {
  closed = AreClosed-prop c n x.closed y.closed i;
  dropped = Π_prop {B = λ (k : ℕ). k ≤ n → is_timed_out (call c k) && is_started a k && not (is_dropped a k) ≡ false} (λ k. →_prop (Coded-set coded_bool (is_timed_out (call c k) && is_started a k && not (is_dropped a k)) false)) x.dropped y.dropped i;
}
