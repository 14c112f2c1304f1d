-- Worked retries: how often a body is tried again, when, and who decides.
use Rattle.wf_ast.specs.declared.Op.TheVariants as op
use Rattle.std.specs.Prelude.{ℕ, List, [], ◌∷◌, ◌++◌, Some, codes}
use Rattle.wf_ast.specs.Tree.{Expr, Whole, Predicate, Predefined, FlowNamed, Policy, Body, try, no_except, Program}
use Rattle.wf_model.specs.Writing.{num, said, st, get_call, flow_of, main_of, main_and, param, try_steps, returns_error, step_0, moves_of, plain_answer, gives_number, gives_text, raises_tag, ComesTo, MayNotCome}
use Rattle.wf_model.specs.Config.{Raised}
use Rattle.wf_value.specs.Events.{Event}
use Rattle.wf_value.specs.Data.{text}
use Rattle.wf_value.specs.Pairs.{Text}
use Rattle.wf_value.specs.declared.DefaultKind.TheVariants.{Idempotent}
use Rattle.wf_value.specs.declared.Tag.TheVariants.{TypeError}

-- ## A service that answers 503 five times and then 200
-- the default policy: five retries, from one second to sixty, each a quarter longer
abbrev pub default_policy : Policy
default_policy = record { predicate = Predefined Idempotent; max_retries = 5; backoff = record { initial = 1000; max = 60000; multiplier = 1250 } }

-- try: r is http.get; return r.code
abbrev pub tried : Program
tried = main_of (
    st (codes "t") (Body.Try (try (get_call (Some (codes "r"))) (Some default_policy) no_except))
    ∷ st (codes "b") (Body.Return (Whole (Expr.Key (Expr.Name (codes "r")) (codes "code")))) ∷ [])

-- call k is sent at a moment and answered at once; the next try is due at another
abbrev pub again : ℕ → ℕ → ℕ → List Event
again k sent due = Event.Issue 0 sent ∷ Event.Answer k sent (plain_answer 503) ∷ Event.Due 0 due ∷ []

-- the delays are 1000, 1250, 1562, 1952 and 2440 milliseconds
abbrev pub FiveDelaysUnderTheDefaultPolicy : Type 0
FiveDelaysUnderTheDefaultPolicy =
    ComesTo tried (step_0 ∷ again 1 0 1000 ++ again 2 1000 2250 ++ again 3 2250 3812 ++ again 4 3812 5764 ++ again 5 5764 8204
    ++ Event.Issue 0 8204 ∷ Event.Answer 6 8204 (plain_answer 200) ∷ step_0 ∷ []) (gives_number 200) 8

-- none of them ends a millisecond earlier
abbrev pub NoDelayEndsEarly : Type 0
NoDelayEndsEarly =
    MayNotCome tried (step_0 ∷ again 1 0 999) × MayNotCome tried (step_0 ∷ again 1 0 1000 ++ again 2 1000 2249)
    × MayNotCome tried (step_0 ∷ again 1 0 1000 ++ again 2 1000 2250 ++ again 3 2250 3811)

-- a delay is counted from the last reading, here that of the answer
abbrev pub answered_late : ℕ → List Event
answered_late due = step_0 ∷ Event.Issue 0 0 ∷ Event.Answer 1 70 (plain_answer 503) ∷ Event.Due 0 due ∷ Event.Issue 0 due ∷ Event.Answer 2 due (plain_answer 200) ∷ step_0 ∷ []

abbrev pub DelayCountsFromTheAnswer : Type 0
DelayCountsFromTheAnswer = ComesTo tried (answered_late 1070) (gives_number 200) 4 × MayNotCome tried (answered_late 1069)

-- the predicate says no to the code 404
abbrev pub sent_once : List Event
sent_once = step_0 ∷ Event.Issue 0 0 ∷ Event.Answer 1 0 (plain_answer 404) ∷ Event.Due 0 1000 ∷ []

abbrev pub OtherCodesAreNotRetried : Type 0
OtherCodesAreNotRetried = MayNotCome tried sent_once

-- ## The predicate is a workflow
abbrev pub policy_of : Predicate → ℕ → Policy
policy_of p n = record { predicate = p; max_retries = n; backoff = record { initial = 10; max = 10; multiplier = 1000 } }

-- a `try` around a raise of this text, with so many retries, and a workflow that decides on the error
abbrev pub asking : Text → ℕ → Body → Program
asking e n answer = main_and
    (st (codes "t") (try_steps (st (codes "a") (Body.Raise (said e)) ∷ []) (Some (policy_of (FlowNamed (codes "ask")) n)) returns_error) ∷ [])
    (flow_of (codes "ask") (param (codes "error") ∷ []) (st (codes "r") answer ∷ []))

-- it says yes to the text `again`
abbrev pub says_again : Body
says_again = Body.Return (Whole (Expr.Bin op.Eq (Expr.Name (codes "error")) (Expr.Lit (text (codes "again")))))

-- the `try`, the raise, the predicate's return; after the delay the raise, and then the return in `except`
abbrev pub PredicateSaysYes : Type 0
PredicateSaysYes = ComesTo (asking (codes "again") 1 says_again) (step_0 ∷ step_0 ∷ step_0 ∷ Event.Due 0 10 ∷ step_0 ∷ step_0 ∷ []) (gives_text (codes "again")) 5

abbrev pub PredicateSaysNo : Type 0
PredicateSaysNo = ComesTo (asking (codes "no") 1 says_again) (moves_of 4) (gives_text (codes "no")) 4

-- with no retries the predicate isn't asked: the move behind the raise is in `except`
abbrev pub NoRetriesDoNotAsk : Type 0
NoRetriesDoNotAsk = ComesTo (asking (codes "again") 0 says_again) (moves_of 3) (gives_text (codes "again")) 3

-- an answer that isn't a truth value goes outward past the `try`, and so does an error of the predicate
abbrev pub OtherAnswersPassTheTry : Type 0
OtherAnswersPassTheTry = ComesTo (asking (codes "x") 1 (Body.Return (num 1))) (moves_of 3) (raises_tag TypeError) 3

abbrev pub ErrorsOfThePredicatePassTheTry : Type 0
ErrorsOfThePredicatePassTheTry = ComesTo (asking (codes "x") 1 (Body.Raise (said (codes "oh")))) (moves_of 3) (Raised (text (codes "oh"))) 3
