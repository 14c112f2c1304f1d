-- Fields that are numbers: limits, counts, delays and factors; and fields with a default.
use Rattle.std.proofs.Common.{◌≡◌, ℕ, Bool, true, false, Option, Some, None, is_some, if◌then◌else◌, nat_le, refl, sym, ap, subst}
use Rattle.wf_syntax_rules.specs.Meaning.{Else, ElseBy, IsAttempts, IsLimit, IsThousandths, Maybe}
use Rattle.wf_syntax_words.specs.Numbers.{at_most, thousandths, thousandths_to, whole_within}
use Rattle.wf_syntax_rules.specs.Rules.{Attempts, Factor, Limit, Seconds, at, demand}
use Rattle.wf_syntax_words.specs.Fields.{field}
use Rattle.wf_syntax_rules.specs.declared.fault.SyntaxKind.TheVariants.{WrongKind}
use Rattle.wf_syntax.proofs.Nodes.{field_fails, field_sound, here_fails, leaf_sound}
use Rattle.wf_syntax.specs.Answers.{FailsAmong, AreSoundAnd}
use Rattle.wf_value.specs.Stops.{IsHere, IsOutside}
use Rattle.wf_syntax_rules.specs.declared.fault.SyntaxKind.{SyntaxKind}
use Rattle.wf_value.specs.declared.stop.Stop.{Stop}
use Rattle.wf_tree.specs.Trees.{Pairs, Tree}
use Rattle.wf_value.specs.Pairs.{Text}
use Rattle.wf_value.specs.declared.path.PathPart.TheVariants.{Key}

-- ## Defaults
pub else_given : {A : Type 0} (a default : A) (k : Text) (fs : Pairs) (Is : A → Tree → Type 0) (t : Tree) → Some t ≡ field k fs → Is a t → Else a default k fs Is
else_given a default k fs Is t e h = subst (λ o. ElseBy o a default Is) e h

-- ## Numbers
wrong : (o : Option ℕ) → None ≡ o → demand (is_some o) WrongKind ≡ Some WrongKind
wrong o e = ap (λ p. demand (is_some p) WrongKind) (sym e)

right : (n : ℕ) (o : Option ℕ) → Some n ≡ o → demand (is_some o) WrongKind ≡ None
right n o e = ap (λ p. demand (is_some p) WrongKind) (sym e)

most_some : (most : ℕ) (o : Option ℕ) (n : ℕ) → Some n ≡ at_most most o → o ≡ Some n
most_some most None n e = let x : ⊥ = cc in absurd x
most_some most (Some m) n e = by (nat_le m most) e
  where
    by : (b : Bool) → Some n ≡ (if b then Some m else None) → Some m ≡ Some n
    by true h = sym h
    by false h = let x : ⊥ = cc in absurd x

-- a field that is no number stops there
pub limit_wrong : (k : Text) (fs : Pairs) (t : Tree) (inner out : Stop SyntaxKind) → Some t ≡ field k fs → None ≡ whole_within 1 1000 t → IsHere WrongKind inner → IsOutside (Key k) inner out → FailsAmong (at k Limit fs) out
limit_wrong k fs t inner out e none h o = field_fails k Limit fs t inner out e (here_fails Limit t WrongKind inner (wrong (whole_within 1 1000 t) none) h) o

pub attempts_wrong : (k : Text) (fs : Pairs) (t : Tree) (inner out : Stop SyntaxKind) → Some t ≡ field k fs → None ≡ whole_within 0 1000000 t → IsHere WrongKind inner → IsOutside (Key k) inner out → FailsAmong (at k Attempts fs) out
attempts_wrong k fs t inner out e none h o = field_fails k Attempts fs t inner out e (here_fails Attempts t WrongKind inner (wrong (whole_within 0 1000000 t) none) h) o

pub seconds_wrong : (k : Text) (fs : Pairs) (t : Tree) (inner out : Stop SyntaxKind) → Some t ≡ field k fs → None ≡ thousandths_to 31536000000 t → IsHere WrongKind inner → IsOutside (Key k) inner out → FailsAmong (at k Seconds fs) out
seconds_wrong k fs t inner out e none h o = field_fails k Seconds fs t inner out e (here_fails Seconds t WrongKind inner (wrong (thousandths_to 31536000000 t) none) h) o

pub factor_wrong : (k : Text) (fs : Pairs) (t : Tree) (inner out : Stop SyntaxKind) → Some t ≡ field k fs → None ≡ thousandths_to 1000000 t → IsHere WrongKind inner → IsOutside (Key k) inner out → FailsAmong (at k Factor fs) out
factor_wrong k fs t inner out e none h o = field_fails k Factor fs t inner out e (here_fails Factor t WrongKind inner (wrong (thousandths_to 1000000 t) none) h) o

-- and one that is a number is given
pub limit_given : (k : Text) (fs : Pairs) (t : Tree) (n : ℕ) → Some t ≡ field k fs → Some n ≡ whole_within 1 1000 t → AreSoundAnd (at k Limit fs) (Maybe (Some n) k fs IsLimit)
limit_given k fs t n e h = (field_sound k Limit fs t e (leaf_sound Limit t (right n (whole_within 1 1000 t) h) (λ f z. z) refl), (t, sym e, sym h))

pub attempts_given : (k : Text) (fs : Pairs) (t : Tree) (n default : ℕ) → Some t ≡ field k fs → Some n ≡ whole_within 0 1000000 t → AreSoundAnd (at k Attempts fs) (Else n default k fs IsAttempts)
attempts_given k fs t n default e h =
    (field_sound k Attempts fs t e (leaf_sound Attempts t (right n (whole_within 0 1000000 t) h) (λ f z. z) refl), else_given n default k fs IsAttempts t e (sym h))

pub seconds_given : (k : Text) (fs : Pairs) (t : Tree) (n default : ℕ) → Some t ≡ field k fs → Some n ≡ thousandths_to 31536000000 t → AreSoundAnd (at k Seconds fs) (Else n default k fs IsThousandths)
seconds_given k fs t n default e h =
    (field_sound k Seconds fs t e (leaf_sound Seconds t (right n (thousandths_to 31536000000 t) h) (λ f z. z) refl), else_given n default k fs IsThousandths t e (most_some 31536000000 (thousandths t) n h))

pub factor_given : (k : Text) (fs : Pairs) (t : Tree) (n default : ℕ) → Some t ≡ field k fs → Some n ≡ thousandths_to 1000000 t → AreSoundAnd (at k Factor fs) (Else n default k fs IsThousandths)
factor_given k fs t n default e h =
    (field_sound k Factor fs t e (leaf_sound Factor t (right n (thousandths_to 1000000 t) h) (λ f z. z) refl), else_given n default k fs IsThousandths t e (most_some 1000000 (thousandths t) n h))
