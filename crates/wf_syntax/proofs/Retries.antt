-- Policies: predefined ones and those by their fields.
use Rattle.std.proofs.Common.{◌≡◌, ◌||◌, ◌++◌, Bool, true, false, List, None, Result, MatchResult, bytes_eq, codes, if◌then◌else◌, refl, sym, ap, ◌∙◌, subst}
use Rattle.std.specs.Result.{IsErr, IsErrAnd}
use Rattle.wf_ast.specs.Tree as t
use Rattle.wf_syntax_rules.specs.Faults.{AreSound}
use Rattle.wf_syntax_rules.specs.Meaning.{Else, IsAttempts, IsBackoff, IsPolicy, IsPredicate, IsThousandths, default_backoff, most_retries, policy_kind, predicate_of}
use Rattle.wf_syntax_words.specs.Names.{is_name, unmarked}
use Rattle.wf_syntax_rules.specs.Rules.{Attempts, Backoff, Factor, Predicate, Retry, Role, Seconds, Sub, at, demand, own, policies, predicates}
use Rattle.wf_syntax_rules.specs.declared.fault.SyntaxKind.TheVariants.{WrongKind}
use Rattle.wf_value.specs.HttpRequest.{is_among}
use Rattle.wf_syntax.proofs.Nodes.{both_sound, fails_first, fails_then, leaf_sound, map_fails, map_sound}
use Rattle.wf_syntax.proofs.Rows.{told}
use Rattle.wf_syntax.specs.Answers.{Fails, FailsAmong, IsSoundAnd, AreSoundAnd}
use Rattle.wf_syntax_rules.specs.declared.fault.SyntaxKind.{SyntaxKind}
use Rattle.wf_value.specs.declared.stop.Stop.{Stop}
use Rattle.wf_tree.specs.Trees.{Pairs, Tree, map, text}
use Rattle.wf_value.specs.Pairs.{Text}
use Rattle.std.proofs.lemmas.Slice.Eq.{bytes_eq-Decides}
use Rattle.wf_lemmas.proofs.Bools.{or_true}
use Rattle.wf_value.specs.declared.Backoff as code
use Rattle.wf_value.specs.declared.DefaultKind.TheVariants.{Idempotent, NonIdempotent}

-- ## Words
abbrev predefined_policy : Text → t.Policy
predefined_policy n = record { predicate = t.Predefined (policy_kind n); max_retries = most_retries; backoff = default_backoff }

pub policy_given : (x : Tree) (s n : Text) (p : t.Policy) → x ≡ text s → n ≡ unmarked s → is_among n policies ≡ true → p ≡ record { predicate = t.Predefined (policy_kind n); max_retries = most_retries; backoff = default_backoff } → IsSoundAnd Retry x (IsPolicy p x)
policy_given x s n p e u known h =
    subst (λ y. IsSoundAnd Retry y (IsPolicy p y)) (sym e)
    (leaf_sound Retry (text s) (ap (λ m. demand (is_among m policies) WrongKind) (sym u) ∙ ap (λ b. demand b WrongKind) known) (λ f z. z) refl, h ∙ ap predefined_policy u)

-- whether a text is a predicate
abbrev pub is_predicate : Text → Bool
is_predicate n = is_among n predicates || is_name n

pub predicate_given : (x : Tree) (s n : Text) (q : t.Predicate) → x ≡ text s → n ≡ unmarked s → is_predicate n ≡ true → q ≡ predicate_of n → IsSoundAnd Predicate x (IsPredicate q x)
predicate_given x s n q e u known h =
    subst (λ y. IsSoundAnd Predicate y (IsPredicate q y)) (sym e)
    (leaf_sound Predicate (text s) (ap (λ m. demand (is_predicate m) WrongKind) (sym u) ∙ ap (λ b. demand b WrongKind) known) (λ f z. z) refl, h ∙ ap predicate_of u)

-- ## Policies by their fields
abbrev pub delays : Pairs → List Sub
delays fs = at (codes "backoff") Backoff fs

abbrev pub counts : Pairs → List Sub
counts fs = at (codes "max_retries") Attempts fs

abbrev pub tests : Pairs → List Sub
tests fs = at (codes "predicate") Predicate fs

pub backoff_fails : (fs : Pairs) (out : Stop SyntaxKind) → own Retry (map fs) ≡ None → FailsAmong (delays fs) out → Fails Retry (map fs) out
backoff_fails fs out e h = map_fails Retry (map fs) fs out refl e (fails_first (delays fs ++ counts fs) (tests fs) out (fails_first (delays fs) (counts fs) out h))

pub attempts_fails : (fs : Pairs) (out : Stop SyntaxKind) → own Retry (map fs) ≡ None → AreSound (delays fs) → FailsAmong (counts fs) out → Fails Retry (map fs) out
attempts_fails fs out e b h = map_fails Retry (map fs) fs out refl e (fails_first (delays fs ++ counts fs) (tests fs) out (fails_then (delays fs) (counts fs) out b h))

pub predicate_fails : (fs : Pairs) (out : Stop SyntaxKind) → own Retry (map fs) ≡ None → AreSound (delays fs) → AreSound (counts fs) → FailsAmong (tests fs) out → Fails Retry (map fs) out
predicate_fails fs out e b c h = map_fails Retry (map fs) fs out refl e (fails_then (delays fs ++ counts fs) (tests fs) out (both_sound (delays fs) (counts fs) b c) h)

pub own_given : (fs : Pairs) (p : t.Policy) → own Retry (map fs) ≡ None
    → AreSoundAnd (delays fs) (Else p.backoff default_backoff (codes "backoff") fs IsBackoff)
    → AreSoundAnd (counts fs) (Else p.max_retries most_retries (codes "max_retries") fs IsAttempts)
    → AreSoundAnd (tests fs) (Else p.predicate t.Always (codes "predicate") fs IsPredicate) → IsSoundAnd Retry (map fs) (IsPolicy p (map fs))
own_given fs p e b c q =
    (map_sound Retry (map fs) fs refl e (λ f z. z) (both_sound (delays fs ++ counts fs) (tests fs) (both_sound (delays fs) (counts fs) b.0 c.0) q.0), (q.1, c.1, b.1))

-- ## Backoffs by their fields
abbrev pub firsts : Pairs → List Sub
firsts fs = at (codes "initial_delay") Seconds fs

abbrev pub mosts : Pairs → List Sub
mosts fs = at (codes "max_delay") Seconds fs

abbrev pub factors : Pairs → List Sub
factors fs = at (codes "multiplier") Factor fs

pub initial_fails : (x : Tree) (fs : Pairs) (out : Stop SyntaxKind) → x ≡ map fs → own Backoff (map fs) ≡ None → FailsAmong (firsts fs) out → Fails Backoff x out
initial_fails x fs out is e h = map_fails Backoff x fs out is e (fails_first (firsts fs ++ mosts fs) (factors fs) out (fails_first (firsts fs) (mosts fs) out h))

pub max_fails : (x : Tree) (fs : Pairs) (out : Stop SyntaxKind) → x ≡ map fs → own Backoff (map fs) ≡ None → AreSound (firsts fs) → FailsAmong (mosts fs) out → Fails Backoff x out
max_fails x fs out is e b h = map_fails Backoff x fs out is e (fails_first (firsts fs ++ mosts fs) (factors fs) out (fails_then (firsts fs) (mosts fs) out b h))

pub multiplier_fails : (x : Tree) (fs : Pairs) (out : Stop SyntaxKind) → x ≡ map fs → own Backoff (map fs) ≡ None → AreSound (firsts fs) → AreSound (mosts fs) → FailsAmong (factors fs) out → Fails Backoff x out
multiplier_fails x fs out is e b c h = map_fails Backoff x fs out is e (fails_then (firsts fs ++ mosts fs) (factors fs) out (both_sound (firsts fs) (mosts fs) b c) h)

pub backoff_given : (x : Tree) (fs : Pairs) (b : code.Backoff) → x ≡ map fs → own Backoff (map fs) ≡ None
    → AreSoundAnd (firsts fs) (Else b.initial default_backoff.initial (codes "initial_delay") fs IsThousandths)
    → AreSoundAnd (mosts fs) (Else b.max default_backoff.max (codes "max_delay") fs IsThousandths)
    → AreSoundAnd (factors fs) (Else b.multiplier default_backoff.multiplier (codes "multiplier") fs IsThousandths) → IsSoundAnd Backoff x (IsBackoff b x)
backoff_given x fs b is e i m f =
    subst (λ y. IsSoundAnd Backoff y (IsBackoff b y)) (sym is)
    (map_sound Backoff (map fs) fs refl e (λ z k. k) (both_sound (firsts fs ++ mosts fs) (factors fs) (both_sound (firsts fs) (mosts fs) i.0 m.0) f.0), (i.1, m.1, f.1))

-- ## A stop that is passed on
pub passed : {A : Type 0} (made : Result A (Stop SyntaxKind)) (P : A → Type 0) (r : Role) (x : Tree) (s : Stop SyntaxKind) → IsErr made × IsErrAnd made (λ e. e ≡ s) → Fails r x s → MatchResult made P (λ e. Fails r x e)
passed made P r x s gives h = told P (λ e. Fails r x e) made s gives h

-- ## The word of a workflow
unlike : (a b : Text) → (a ≡ b → ⊥) → bytes_eq a b ≡ false
unlike a b h = by (bytes_eq a b) refl
  where
    by : (x : Bool) → bytes_eq a b ≡ x → bytes_eq a b ≡ false
    by false e = e
    by true e = absurd (h ((bytes_eq-Decides a b).0 e))

by_tests : (n : Text) (a b c d : Bool) → a ≡ false → b ≡ false → c ≡ false → d ≡ false
    → (if a then t.Predefined Idempotent else if b then t.Predefined NonIdempotent else if c then t.Always else if d then t.Never else t.FlowNamed n) ≡ t.FlowNamed n
by_tests n true b c d h i j k = let x : ⊥ = cc in absurd x
by_tests n false true c d h i j k = let x : ⊥ = cc in absurd x
by_tests n false false true d h i j k = let x : ⊥ = cc in absurd x
by_tests n false false false true h i j k = let x : ⊥ = cc in absurd x
by_tests n false false false false h i j k = refl

pub flow_named : (n : Text) → (n ≡ codes "http.default_retry_predicate" → ⊥) → (n ≡ codes "http.default_retry_predicate_non_idempotent" → ⊥) → (n ≡ codes "retry.always" → ⊥) → (n ≡ codes "retry.never" → ⊥)
    → predicate_of n ≡ t.FlowNamed n
flow_named n h i j k =
    by_tests n (bytes_eq n (codes "http.default_retry_predicate")) (bytes_eq n (codes "http.default_retry_predicate_non_idempotent")) (bytes_eq n (codes "retry.always")) (bytes_eq n (codes "retry.never"))
    (unlike n _ h) (unlike n _ i) (unlike n _ j) (unlike n _ k)

pub named_is : (n : Text) → is_name n ≡ true → is_predicate n ≡ true
named_is n h = or_true (is_among n predicates) (is_name n) h
