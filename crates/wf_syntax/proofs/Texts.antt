-- Texts and names.
use Rattle.std.proofs.Common.{◌≡◌, Result, Ok, Err, MatchResult, Bool, true, false, None, bytes_eq, codes, refl, sym, ap, subst}
use Rattle.wf_syntax_rules.specs.Faults.{IsSound}
use Rattle.wf_syntax_rules.specs.Rules.{Role, AnyText, Policy, VariableName, demand}
use Rattle.wf_syntax_rules.specs.declared.fault.SyntaxKind.TheVariants.{WrongKind}
use Rattle.wf_syntax_words.specs.Names.{is_name}
use Rattle.wf_syntax.proofs.Nodes.{leaf_sound}
use Rattle.wf_syntax.specs.Answers.{Fails, IsSoundAnd}
use Rattle.wf_syntax_rules.specs.declared.fault.SyntaxKind.{SyntaxKind}
use Rattle.wf_value.specs.declared.stop.Stop.{Stop}
use Rattle.wf_value.specs.declared.stop.Stop.TheVariants as stop
use Rattle.wf_syntax_rules.specs.Meaning.{IsText}
use Rattle.wf_tree.specs.Trees.{Tree, text}
use Rattle.wf_value.specs.Pairs.{Text}

-- no memory tells nothing
pub no_memory : (r : Role) (t : Tree) (out : Stop SyntaxKind) → out ≡ stop.OutOfMemory → Fails r t out
no_memory r t out e = subst (λ s. Fails r t s) (sym e) tt

text_given : (r : Role) (s : Text) (made : Result Text (Stop SyntaxKind)) → MatchResult made (λ x. x ≡ s) (λ e. e ≡ stop.OutOfMemory) → IsSound r (text s) →
    MatchResult made (λ x. IsSoundAnd r (text s) (IsText x (text s))) (λ e. Fails r (text s) e)
text_given r s (Ok x) h sound = (sound, ap text (sym h))
text_given r s (Err e) h sound = no_memory r (text s) e h

pub any_text_given : (t : Tree) (s : Text) (made : Result Text (Stop SyntaxKind)) → MatchResult made (λ x. x ≡ s) (λ e. e ≡ stop.OutOfMemory) → t ≡ text s →
    MatchResult made (λ x. IsSoundAnd AnyText t (IsText x t)) (λ e. Fails AnyText t e)
any_text_given t s made h e =
    subst (λ u. MatchResult made (λ x. IsSoundAnd AnyText u (IsText x u)) (λ z. Fails AnyText u z)) (sym e)
    (text_given AnyText s made h (leaf_sound AnyText (text s) refl (λ f k. k) refl))

pub name_given : (t : Tree) (s : Text) (made : Result Text (Stop SyntaxKind)) → MatchResult made (λ x. x ≡ s) (λ e. e ≡ stop.OutOfMemory) → t ≡ text s → is_name s ≡ true →
    MatchResult made (λ x. IsSoundAnd VariableName t (IsText x t)) (λ e. Fails VariableName t e)
name_given t s made h e name =
    subst (λ u. MatchResult made (λ x. IsSoundAnd VariableName u (IsText x u)) (λ z. Fails VariableName u z)) (sym e)
    (text_given VariableName s made h (leaf_sound VariableName (text s) (named s (is_name s) name) (λ f k. k) refl))
  where
    named : (s : Text) (b : Bool) → b ≡ true → demand b WrongKind ≡ None
    named s true e = refl
    named s false e = let x : ⊥ = cc in absurd x

-- the word of a policy on errors
pub policy_given : (t : Tree) (s : Text) → t ≡ text s → bytes_eq s (codes "continueAll") ≡ true → IsSound Policy t
policy_given t s e h = subst (λ u. IsSound Policy u) (sym e) (leaf_sound Policy (text s) (ap (λ b. demand b WrongKind) h) (λ f k. k) refl)
