-- What is done stays done.
use Rattle.std.specs.Prelude.{◌≡◌, ◌≢◌, ◌≤◌, ◌+◌, ◌<◌, ◌&&◌, ◌||◌, ℕ, zero, suc, Bool, true, false, not, is_some, nat_eq, length, List, Option, Some, None}
use Rattle.std.proofs.Common.{inl, inr, refl, sym, ◌∙◌, ap, subst, arith}
use Rattle.std.proofs.lemmas.Bool.{cases_lt, eqb-true}
use Rattle.wf_ast.specs.Tree.{Program}
use Rattle.wf_connections.specs.Calls.{Drops, Forgets, StandsAsBefore, Starts, is_dropped, is_started}
use Rattle.wf_connections.specs.declared.connections.Connections.{Connections}
use Rattle.wf_deeds.specs.Clauses.{is_timed_out}
use Rattle.wf_engine.proofs.ClosedCalls.{closed_stay}
use Rattle.wf_engine.specs.Done.{AreClosed, AreDone}
use Rattle.wf_model.specs.Config.{Answered, Call, Config, Open, TimedOut, To}
use Rattle.wf_model.specs.Ready.{call, request_in, request_of}
use Rattle.wf_model.specs.Run.{run_on}
use Rattle.wf_value.specs.Events.{Event}
use Rattle.wf_value.specs.HttpRequest.{Request}

none_of : (o : Option Request) → is_some o ≡ false → o ≡ None
none_of None is = refl
none_of (Some q) is = absurd (cc is)

-- before the first call
pub done_first : (c : Config) (a : Connections) → AreDone c a 0
done_first c a = record {
  closed = record {
    within = omega arith;
    shut = λ k le. let first : k ≡ 0 = omega (arith, le) in subst (λ n. is_some (request_of c n) ≡ false) (sym first) refl;
  };
  dropped = λ k le. let first : k ≡ 0 = omega (arith, le) in subst (λ n. is_timed_out (call c n) && is_started a n && not (is_dropped a n) ≡ false) (sym first) refl;
}

-- behind a turn
pub done_behind : (a : Connections) (n : ℕ) (p : Program) (b c : Config) (es : List Event) → AreDone b a n → run_on p (To b) es ≡ To c → AreDone c a n
done_behind a n p b c es so leads =
    let stay = closed_stay p b c es leads in
    let same : (k : ℕ) → k ≤ n → call c k ≡ call b k = λ k le. stay.same k (omega (arith, le, so.closed.within)) (none_of (request_of b k) (so.closed.shut k le)) in
    record {
      closed = record {
        within = omega (arith, so.closed.within, stay.longer);
        shut = λ k le. ap (λ (x : Call). is_some (request_in x)) (same k le) ∙ so.closed.shut k le;
      };
      dropped = λ k le. ap (λ (x : Call). is_timed_out x && is_started a k && not (is_dropped a k)) (same k le) ∙ so.dropped k le;
    }

-- where the same were started and dropped
same_done : (c : Config) (a b : Connections) (n : ℕ) → ((k : ℕ) → is_started b k ≡ is_started a k) → ((k : ℕ) → is_dropped b k ≡ is_dropped a k) → AreDone c a n → AreDone c b n
same_done c a b n started dropped so = record {
  closed = so.closed;
  dropped = λ k le. ap (λ l. is_timed_out (call c k) && l && not (is_dropped b k)) (started k) ∙ ap (λ l. is_timed_out (call c k) && is_started a k && not l) (dropped k) ∙ so.dropped k le;
}

pub done_heard : (c : Config) (a b : Connections) (n : ℕ) → StandsAsBefore a b → AreDone c a n → AreDone c b n
done_heard c a b n is so = same_done c a b n is.started is.dropped so

-- a call that is started is open
pub done_started : (c : Config) (a b : Connections) (n j : ℕ) (q : Request) → request_of c j ≡ Some q → Starts a b j → AreDone c a n → AreDone c b n
done_started c a b n j q asks is so = record {
  closed = so.closed;
  dropped = λ k le. ap (λ l. is_timed_out (call c k) && l && not (is_dropped b k)) (is.started k ∙ ap (λ l. l || is_started a k) (other k le (nat_eq j k) refl))
      ∙ ap (λ l. is_timed_out (call c k) && is_started a k && not l) (is.dropped k)
      ∙ so.dropped k le;
}
  where
    other : (k : ℕ) → k ≤ n → (t : Bool) → nat_eq j k ≡ t → nat_eq j k ≡ false
    other k le false at = at
    other k le true at = absurd (let no : true ≡ false = sym (ap is_some asks) ∙ ap (λ i. is_some (request_of c i)) (eqb-true j k at) ∙ so.closed.shut k le in cc no)
