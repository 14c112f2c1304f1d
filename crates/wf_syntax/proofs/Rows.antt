-- Fields in a row: that none has a fault, and where the first one stands.
use Rattle.std.proofs.Common.{◌≡◌, ℕ, zero, suc, List, [], ◌∷◌, ◌++◌, Result, Ok, Err, MatchResult, codes, refl, sym, subst, ap, ◌∙◌, append_assoc}
use Rattle.std.specs.Result.{IsErr, IsErrAnd}
use Rattle.wf_syntax_rules.specs.Faults.{AreSound}
use Rattle.wf_syntax_rules.specs.Rules.{Role, AnyText, Arguments, Arms, Branches, Except, Limit, Loop, Parallel, Policy, Range, Retry, Shared, Steps, Sub, Try, Value, VariableName, at, body_parts}
use Rattle.wf_syntax.proofs.Nodes.{both_sound, fails_first, fails_then}
use Rattle.wf_syntax.specs.Answers.{FailsAmong}
use Rattle.wf_syntax.specs.Forms.{block_part_keys, call_part_keys, loop_part_keys, row, row_after, value_part_keys}
use Rattle.wf_syntax_rules.specs.declared.fault.SyntaxKind.{SyntaxKind}
use Rattle.wf_value.specs.declared.stop.Stop.{Stop}
use Rattle.wf_tree.specs.Trees.{Pairs}
use Rattle.wf_value.specs.Pairs.{Text}

-- ## Rows
abbrev pub AllSound : Pairs → List (Text × Role) → Type 0
AllSound fs [] = Unit {0}
AllSound fs (k ∷ ks) = AreSound (at k.0 k.1 fs) × AllSound fs ks

-- the field at an index fails, and those before have no fault
abbrev pub StopsAt : Pairs → List (Text × Role) → ℕ → Stop SyntaxKind → Type 0
StopsAt fs [] i out = ⊥
StopsAt fs (k ∷ ks) zero out = FailsAmong (at k.0 k.1 fs) out
StopsAt fs (k ∷ ks) (suc i) out = AreSound (at k.0 k.1 fs) × StopsAt fs ks i out

after_sound : (ss : List Sub) (fs : Pairs) (ks : List (Text × Role)) → AreSound ss → AllSound fs ks → AreSound (row_after ss fs ks)
after_sound ss fs [] h all = h
after_sound ss fs (k ∷ ks) h all = after_sound (ss ++ at k.0 k.1 fs) fs ks (both_sound ss (at k.0 k.1 fs) h all.0) all.1

after_first : (ss : List Sub) (fs : Pairs) (ks : List (Text × Role)) (out : Stop SyntaxKind) → FailsAmong ss out → FailsAmong (row_after ss fs ks) out
after_first ss fs [] out h = h
after_first ss fs (k ∷ ks) out h = after_first (ss ++ at k.0 k.1 fs) fs ks out (fails_first ss (at k.0 k.1 fs) out h)

after_fails : (ss : List Sub) (fs : Pairs) (ks : List (Text × Role)) (i : ℕ) (out : Stop SyntaxKind) → AreSound ss → StopsAt fs ks i out → FailsAmong (row_after ss fs ks) out
after_fails ss fs [] i out all h = absurd h
after_fails ss fs (k ∷ ks) zero out all h = after_first (ss ++ at k.0 k.1 fs) fs ks out (fails_then ss (at k.0 k.1 fs) out all h)
after_fails ss fs (k ∷ ks) (suc i) out all h = after_fails (ss ++ at k.0 k.1 fs) fs ks i out (both_sound ss (at k.0 k.1 fs) all h.0) h.1

-- parts in front of a row stand in front of each of its fields
in_front : (ss ts : List Sub) (fs : Pairs) (ks : List (Text × Role)) → row_after (ss ++ ts) fs ks ≡ ss ++ row_after ts fs ks
in_front ss ts fs [] = refl
in_front ss ts fs (k ∷ ks) = ap (λ l. row_after l fs ks) (append_assoc ss ts (at k.0 k.1 fs)) ∙ in_front ss (ts ++ at k.0 k.1 fs) fs ks

then_sound : (ss : List Sub) (fs : Pairs) (k : Text × Role) (ks : List (Text × Role)) → AreSound ss → AreSound (row fs (k ∷ ks)) → AreSound (row_after ss fs (k ∷ ks))
then_sound ss fs k ks all h = subst AreSound (sym (in_front ss (at k.0 k.1 fs) fs ks)) (both_sound ss (row fs (k ∷ ks)) all h)

then_fails : (ss : List Sub) (fs : Pairs) (k : Text × Role) (ks : List (Text × Role)) (out : Stop SyntaxKind) → AreSound ss → FailsAmong (row fs (k ∷ ks)) out → FailsAmong (row_after ss fs (k ∷ ks)) out
then_fails ss fs k ks out all h = subst (λ l. FailsAmong l out) (sym (in_front ss (at k.0 k.1 fs) fs ks)) (fails_then ss (row fs (k ∷ ks)) out all h)

pub row_sound : (fs : Pairs) (ks : List (Text × Role)) → AllSound fs ks → AreSound (row fs ks)
row_sound fs [] all = tt
row_sound fs (k ∷ ks) all = after_sound (at k.0 k.1 fs) fs ks all.0 all.1

pub row_fails : (fs : Pairs) (ks : List (Text × Role)) (i : ℕ) (out : Stop SyntaxKind) → StopsAt fs ks i out → FailsAmong (row fs ks) out
row_fails fs [] i out h = absurd h
row_fails fs (k ∷ ks) zero out h = after_first (at k.0 k.1 fs) fs ks out h
row_fails fs (k ∷ ks) (suc i) out h = after_fails (at k.0 k.1 fs) fs ks i out h.0 h.1

-- what `?` hands on is the stop itself
pub handed_on : {T : Type 0} (r : Result T (Stop SyntaxKind)) (s : Stop SyntaxKind) → IsErr r × IsErrAnd r (λ e. e ≡ s) → r ≡ Err s
handed_on (Ok x) s gives = absurd gives.1
handed_on (Err e) s gives = ap Err gives.1

pub told : {T : Type 0} (P : T → Type 0) (Q : Stop SyntaxKind → Type 0) (r : Result T (Stop SyntaxKind)) (s : Stop SyntaxKind) → IsErr r × IsErrAnd r (λ e. e ≡ s) → Q s → MatchResult r P Q
told P Q r s gives h = subst (λ x. MatchResult x P Q) (sym (handed_on r s gives)) h

-- ## The four groups of a body's fields
abbrev upto_loops : Pairs → List Sub
upto_loops fs = row_after (row fs call_part_keys) fs loop_part_keys

abbrev upto_values : Pairs → List Sub
upto_values fs = row_after (upto_loops fs) fs value_part_keys

loops_sound : (fs : Pairs) → AreSound (row fs call_part_keys) → AreSound (row fs loop_part_keys) → AreSound (upto_loops fs)
loops_sound fs calls loops = then_sound (row fs call_part_keys) fs (codes "except", Except) ((codes "for", Loop) ∷ (codes "next", AnyText) ∷ (codes "parallel", Parallel) ∷ []) calls loops

values_sound : (fs : Pairs) → AreSound (row fs call_part_keys) → AreSound (row fs loop_part_keys) → AreSound (row fs value_part_keys) → AreSound (upto_values fs)
values_sound fs calls loops values =
    then_sound (upto_loops fs) fs (codes "raise", Value) ((codes "result", VariableName) ∷ (codes "retry", Retry) ∷ (codes "return", Value) ∷ []) (loops_sound fs calls loops) values

pub body_sound : (fs : Pairs) → AreSound (row fs call_part_keys) → AreSound (row fs loop_part_keys) → AreSound (row fs value_part_keys) → AreSound (row fs block_part_keys) → AreSound (body_parts fs)
body_sound fs calls loops values blocks =
    then_sound (upto_values fs) fs (codes "steps", Steps) ((codes "switch", Arms) ∷ (codes "try", Try) ∷ []) (values_sound fs calls loops values) blocks

pub calls_fail : (fs : Pairs) (out : Stop SyntaxKind) → FailsAmong (row fs call_part_keys) out → FailsAmong (body_parts fs) out
calls_fail fs out h = after_first (upto_values fs) fs block_part_keys out (after_first (upto_loops fs) fs value_part_keys out (after_first (row fs call_part_keys) fs loop_part_keys out h))

pub loops_fail : (fs : Pairs) (out : Stop SyntaxKind) → AreSound (row fs call_part_keys) → FailsAmong (row fs loop_part_keys) out → FailsAmong (body_parts fs) out
loops_fail fs out calls h =
    after_first (upto_values fs) fs block_part_keys out (after_first (upto_loops fs) fs value_part_keys out
    (then_fails (row fs call_part_keys) fs (codes "except", Except) ((codes "for", Loop) ∷ (codes "next", AnyText) ∷ (codes "parallel", Parallel) ∷ []) out calls h))

pub values_fail : (fs : Pairs) (out : Stop SyntaxKind) → AreSound (row fs call_part_keys) → AreSound (row fs loop_part_keys) → FailsAmong (row fs value_part_keys) out → FailsAmong (body_parts fs) out
values_fail fs out calls loops h =
    after_first (upto_values fs) fs block_part_keys out
    (then_fails (upto_loops fs) fs (codes "raise", Value) ((codes "result", VariableName) ∷ (codes "retry", Retry) ∷ (codes "return", Value) ∷ []) out (loops_sound fs calls loops) h)

pub blocks_fail : (fs : Pairs) (out : Stop SyntaxKind) → AreSound (row fs call_part_keys) → AreSound (row fs loop_part_keys) → AreSound (row fs value_part_keys) → FailsAmong (row fs block_part_keys) out → FailsAmong (body_parts fs) out
blocks_fail fs out calls loops values h = then_fails (upto_values fs) fs (codes "steps", Steps) ((codes "switch", Arms) ∷ (codes "try", Try) ∷ []) out (values_sound fs calls loops values) h

-- ## The keys of nodes, in their order
abbrev pub loop_keys : List (Text × Role)
loop_keys = (codes "in", Value) ∷ (codes "index", VariableName) ∷ (codes "range", Range) ∷ (codes "steps", Steps) ∷ (codes "value", VariableName) ∷ []

abbrev pub parallel_keys : List (Text × Role)
parallel_keys =
    (codes "branches", Branches) ∷ (codes "concurrency_limit", Limit) ∷ (codes "exception_policy", Policy) ∷ (codes "for", Loop) ∷ (codes "shared", Shared) ∷ []

abbrev pub try_keys : List (Text × Role)
try_keys = (codes "args", Arguments) ∷ (codes "call", AnyText) ∷ (codes "result", VariableName) ∷ (codes "steps", Steps) ∷ []

abbrev pub except_keys : List (Text × Role)
except_keys = (codes "as", VariableName) ∷ (codes "steps", Steps) ∷ []
