-- Values, assignments, calls and policies that are made of trees without faults.
use Rattle.std.proofs.Common.{◌≡◌, ℕ, suc, [], ◌∷◌, Option, Some, None, true, is_some, codes, refl}
use Rattle.std.specs.Prelude.{Result, Ok, Err, MatchResult}
use Rattle.wf_lemmas.proofs.Options.{some_not_none}
use Rattle.wf_ast.specs.Tree as t
use Rattle.wf_ast.specs.Tree.{Scalar, no_fields}
use Rattle.wf_expr.proofs.Parsed.{target_parser_is_them}
use Rattle.wf_expr.specs.Parser.{parse_target}
use Rattle.wf_expr.specs.Targets.{IsTarget, IsTargetFault}
use Rattle.wf_expr.specs.declared.fault.ExprFault.{ExprFault}
use Rattle.wf_expr.specs.declared.fault.ExprFault.TheVariants as fault
use Rattle.wf_syntax_rules.proofs.Soundness.{sound_own, sound_parts, row_all, maybe_is, else_is, at_is, each_is}
use Rattle.wf_syntax_rules.specs.Faults.{AreSound, IsSound}
use Rattle.wf_syntax_rules.specs.Made.{ok_or, some_or, text_in, value_of, values_of, named_of, literal_of, literals_of, named_literals_of, no_target, entry_of, entries_of, arguments_of, call_of, thousandths_of, attempts_of, backoff_of, predicate_in, policy_of, texts_of, limit_of}
use Rattle.wf_syntax_rules.specs.Meaning.{default_backoff, most_retries, AreArguments, AreEntries, AreLiterals, AreNamed, AreNamedLiterals, AreTexts, AreValues, IsAttempts, IsBackoff, IsCall, IsEntry, IsLimit, IsLiteral, IsPolicy, IsPredicate, IsText, IsThousandths, IsValue}
use Rattle.wf_syntax_words.specs.Numbers.{at_most, thousandths, whole_within}
use Rattle.wf_syntax_rules.specs.Rules.{demand, each, every, at, own}
use Rattle.wf_syntax_words.specs.Fields.{has}
use Rattle.wf_syntax_rules.specs.Rules as r
use Rattle.wf_syntax_rules.specs.declared.fault.SyntaxKind.TheVariants.{WrongKind, Expression}
use Rattle.wf_expr.proofs.Made.{template_is_it}
use Rattle.wf_expr.specs.Templates.{template_of}
use Rattle.wf_expr.specs.Texts.{IsTemplateOf, IsFaultOf}
use Rattle.wf_tree.specs.Trees.{Tree, null, boolean, integer, decimal, text, list, map, Items, no_items, item, Pairs, no_pairs, pair}
use Rattle.wf_value.specs.Data as values
use Rattle.wf_value.specs.Pairs.{Text}

-- ## Texts
text_by : (x : Tree) → own r.AnyText x ≡ None → IsText (text_in x) x
text_by (text s) h = refl
text_by x h = absurd (some_not_none WrongKind h)

pub text_is : (x : Tree) → IsSound r.AnyText x → IsText (text_in x) x
text_is x h = text_by x (sound_own r.AnyText x h)

variable_by : (x : Tree) → own r.VariableName x ≡ None → IsText (text_in x) x
variable_by (text s) h = refl
variable_by x h = absurd (some_not_none WrongKind h)

pub variable_is : (x : Tree) → IsSound r.VariableName x → IsText (text_in x) x
variable_is x h = variable_by x (sound_own r.VariableName x h)

pub texts_are : (x : Tree) → IsSound r.Shared x → AreTexts (texts_of x) x
texts_are (list xs) h = each_is text_in IsText r.VariableName variable_is 0 xs (sound_parts r.Shared (list xs) h)
texts_are x h = absurd (some_not_none WrongKind (sound_own r.Shared x h))

-- ## Values
template_made : (s : Text) (x : Result t.Template ExprFault) → MatchResult x (IsTemplateOf s) (λ f. IsFaultOf s f × (f ≡ fault.OutOfMemory → ⊥)) → IsSound r.Value (text s) → IsTemplateOf s (ok_or (Scalar values.null) x)
template_made s (Ok v) m h = m
template_made s (Err f) m h = absurd (h [] (Expression f) m)

mutual
  pub value_is : (x : Tree) → IsSound r.Value x → IsValue (value_of x) x
  value_is (text s) h = template_made s (template_of s) (template_is_it s) h
  value_is null h = refl
  value_is (boolean b) h = refl
  value_is (integer n) h = refl
  value_is (decimal d) h = absurd (some_not_none WrongKind (sound_own r.Value (decimal d) h))
  value_is (list xs) h = values_are 0 xs (sound_parts r.Value (list xs) h)
  value_is (map ps) h = named_are ps (sound_parts r.Value (map ps) h)

  values_are : (i : ℕ) (xs : Items) → AreSound (each r.Value i xs) → AreValues (values_of xs) xs
  values_are i no_items h = tt
  values_are i (item x xs) h = (value_is x h.0, values_are (suc i) xs h.1)

  pub named_are : (ps : Pairs) → AreSound (every (λ x. r.Value) ps) → AreNamed (named_of ps) ps
  named_are no_pairs h = tt
  named_are (pair k x ps) h = (refl, value_is x h.0, named_are ps h.1)

mutual
  pub literal_is : (x : Tree) → IsSound r.Literal x → IsLiteral (literal_of x) x
  literal_is (text s) h = refl
  literal_is null h = tt
  literal_is (boolean b) h = refl
  literal_is (integer n) h = refl
  literal_is (decimal d) h = absurd (some_not_none WrongKind (sound_own r.Literal (decimal d) h))
  literal_is (list xs) h = literals_are 0 xs (sound_parts r.Literal (list xs) h)
  literal_is (map ps) h = named_literals_are ps (sound_parts r.Literal (map ps) h)

  literals_are : (i : ℕ) (xs : Items) → AreSound (each r.Literal i xs) → AreLiterals (literals_of xs) xs
  literals_are i no_items h = tt
  literals_are i (item x xs) h = (literal_is x h.0, literals_are (suc i) xs h.1)

  named_literals_are : (ps : Pairs) → AreSound (every (λ x. r.Literal) ps) → AreNamedLiterals (named_literals_of ps) ps
  named_literals_are no_pairs h = tt
  named_literals_are (pair k x ps) h = (refl, literal_is x h.0, named_literals_are ps h.1)

-- ## Assignments and calls
target_made : (s : Text) (x : Result t.Target ExprFault) → MatchResult x (IsTarget s) (λ f. IsTargetFault s f × (f ≡ fault.OutOfMemory → ⊥)) → IsSound r.Target (text s) → IsTarget s (ok_or no_target x)
target_made s (Ok v) m h = m
target_made s (Err f) m h = absurd (h [] (Expression f) m)

entry_is : (x : Tree) → IsSound r.Entry x → IsEntry (entry_of x) x
entry_is (map (pair k x no_pairs)) h =
    let p = sound_parts r.Entry (map (pair k x no_pairs)) h in
    (target_made k (parse_target k) (target_parser_is_them k) p.0, value_is x p.1.0)
entry_is x h = absurd (some_not_none WrongKind (sound_own r.Entry x h))

pub entries_are : (x : Tree) → IsSound r.Entries x → AreEntries (entries_of x) x
entries_are (list xs) h = each_is entry_of IsEntry r.Entry entry_is 0 xs (sound_parts r.Entries (list xs) h)
entries_are x h = absurd (some_not_none WrongKind (sound_own r.Entries x h))

arguments_are : (x : Tree) → IsSound r.Arguments x → AreArguments (arguments_of x) x
arguments_are (map ps) h = named_are ps (sound_parts r.Arguments (map ps) h)
arguments_are x h = absurd (some_not_none WrongKind (sound_own r.Arguments x h))

pub call_is : (fs : Pairs) → has (codes "call") fs ≡ true → AreSound (at (codes "args") r.Arguments fs) → AreSound (at (codes "call") r.AnyText fs) → AreSound (at (codes "result") r.VariableName fs) → IsCall (call_of fs) fs
call_is fs there args call result = (
  at_is text_in IsText (codes "call") r.AnyText fs there call (λ x d h. text_is x h),
  else_is no_fields arguments_of AreArguments (codes "args") r.Arguments fs args (λ x d h. arguments_are x h),
  maybe_is text_in IsText (codes "result") r.VariableName fs result (λ x d h. variable_is x h),
)

-- ## Numbers and policies
some_is : (o : Option ℕ) → demand (is_some o) WrongKind ≡ None → o ≡ Some (some_or 0 o)
some_is (Some n) h = refl
some_is None h = absurd (some_not_none WrongKind h)

most_is : (m : ℕ) (o : Option ℕ) → demand (is_some (at_most m o)) WrongKind ≡ None → o ≡ Some (some_or 0 o)
most_is m (Some n) h = refl
most_is m None h = absurd (some_not_none WrongKind h)

pub limit_is : (x : Tree) → IsSound r.Limit x → IsLimit (limit_of x) x
limit_is x h = some_is (whole_within 1 1000 x) (sound_own r.Limit x h)

attempts_is : (x : Tree) → IsSound r.Attempts x → IsAttempts (attempts_of x) x
attempts_is x h = some_is (whole_within 0 1000000 x) (sound_own r.Attempts x h)

seconds_is : (x : Tree) → IsSound r.Seconds x → IsThousandths (thousandths_of x) x
seconds_is x h = most_is 31536000000 (thousandths x) (sound_own r.Seconds x h)

factor_is : (x : Tree) → IsSound r.Factor x → IsThousandths (thousandths_of x) x
factor_is x h = most_is 1000000 (thousandths x) (sound_own r.Factor x h)

backoff_is : (x : Tree) → IsSound r.Backoff x → IsBackoff (backoff_of x) x
backoff_is (map fs) h =
    let a = row_all fs ((codes "initial_delay", r.Seconds) ∷ (codes "max_delay", r.Seconds) ∷ (codes "multiplier", r.Factor) ∷ []) (sound_parts r.Backoff (map fs) h) in (
      else_is default_backoff.initial thousandths_of IsThousandths (codes "initial_delay") r.Seconds fs a.0 (λ x d h. seconds_is x h),
      else_is default_backoff.max thousandths_of IsThousandths (codes "max_delay") r.Seconds fs a.1.0 (λ x d h. seconds_is x h),
      else_is default_backoff.multiplier thousandths_of IsThousandths (codes "multiplier") r.Factor fs a.1.1.0 (λ x d h. factor_is x h),
    )
backoff_is x h = absurd (some_not_none WrongKind (sound_own r.Backoff x h))

predicate_is : (x : Tree) → IsSound r.Predicate x → IsPredicate (predicate_in x) x
predicate_is (text s) h = refl
predicate_is x h = absurd (some_not_none WrongKind (sound_own r.Predicate x h))

pub policy_is : (x : Tree) → IsSound r.Retry x → IsPolicy (policy_of x) x
policy_is (text s) h = refl
policy_is (map fs) h =
    let a = row_all fs ((codes "backoff", r.Backoff) ∷ (codes "max_retries", r.Attempts) ∷ (codes "predicate", r.Predicate) ∷ []) (sound_parts r.Retry (map fs) h) in (
      else_is t.Always predicate_in IsPredicate (codes "predicate") r.Predicate fs a.1.1.0 (λ x d h. predicate_is x h),
      else_is most_retries attempts_of IsAttempts (codes "max_retries") r.Attempts fs a.1.0 (λ x d h. attempts_is x h),
      else_is default_backoff backoff_of IsBackoff (codes "backoff") r.Backoff fs a.0 (λ x d h. backoff_is x h),
    )
policy_is x h = absurd (some_not_none WrongKind (sound_own r.Retry x h))
