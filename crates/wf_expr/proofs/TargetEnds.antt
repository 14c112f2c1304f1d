-- Where the machine ends that reads a target, it has read one.
use Rattle.std.proofs.Common.{◌≡◌, Bool, true, List, [], ◌∷◌, Some, None, refl, sym, ap, ◌∙◌}
use Rattle.wf_expr.proofs.Kept.{aim_or, aim_and, aim_not, aim_sum, aim_term, aim_unary, aim, so_far, Reads, reads}
use Rattle.wf_expr.proofs.Reading.{whole_injective}
use Rattle.wf_expr.specs.Grammar.{Ors, or_one, or_more, Ands, and_one, and_more, Nots, not_one, negated, alone, compared, Sums, sum_one, sum_more, Terms, term_one, term_more, Unary, plain, minus, Access}
use Rattle.wf_expr.specs.Machine.{InOr, top, in_place, in_group, in_index, in_args, InAnd, first_and, next_and, InNot, first_not, next_not, after_not, InSum, left, right, InTerm, first_term, next_term, InUnary, first_unary, next_unary, after_minus, State, want_not, want_unary, have_access, want_name, want_args, want_target, have_target, want_target_name, Next, nowhere, goes, ends, whole, stuck, go_on, run, step, after_or, after_and, whole_not, whole_sum, whole_term, whole_unary, access_or}
use Rattle.wf_expr.specs.Symbols.{Sym}
use Rattle.wf_expr.specs.Targets.{is_target}

-- ## An expression ends as no target
mutual
  none_or : (c : InOr) (d e : Ors) → after_or c d None ≡ ends e → aim_or c ≡ None
  none_or top d e h = refl
  none_or (in_place a) d e h = let p : ⊥ = cc in absurd p
  none_or (in_group c) d e h = let p : ⊥ = cc in absurd p
  none_or (in_index a c) d e h = let p : ⊥ = cc in absurd p
  none_or (in_args x xs a c) d e h = let p : ⊥ = cc in absurd p

  none_and : (c : InAnd) (d : Ands) (e : Ors) → after_and c d None ≡ ends e → aim_and c ≡ None
  none_and (first_and c) d e h = none_or c (or_one d) e h
  none_and (next_and ds c) d e h = none_or c (or_more ds d) e h

  none_not : (c : InNot) (d : Nots) (e : Ors) → whole_not c d None ≡ ends e → aim_not c ≡ None
  none_not (first_not c) d e h = none_and c (and_one d) e h
  none_not (next_not ds c) d e h = none_and c (and_more ds d) e h
  none_not (after_not c) d e h = none_not c (negated d) e h

  none_sum : (c : InSum) (d : Sums) (e : Ors) → whole_sum c d None ≡ ends e → aim_sum c ≡ None
  none_sum (left c) d e h = none_not c (not_one (alone d)) e h
  none_sum (right a o c) d e h = none_not c (not_one (compared a o d)) e h

  none_term : (c : InTerm) (d : Terms) (e : Ors) → whole_term c d None ≡ ends e → aim_term c ≡ None
  none_term (first_term c) d e h = none_sum c (sum_one d) e h
  none_term (next_term ds o c) d e h = none_sum c (sum_more ds o d) e h

  none_unary : (c : InUnary) (d : Unary) (e : Ors) → whole_unary c d None ≡ ends e → aim_unary c ≡ None
  none_unary (first_unary c) d e h = none_term c (term_one d) e h
  none_unary (next_unary ds o c) d e h = none_term c (term_more ds o d) e h
  none_unary (after_minus c) d e h = none_unary c (minus d) e h

-- ## The end
abbrev IsTargetAs : Ors → Type 0
IsTargetAs d = (a : Access) × (is_target a ≡ true) × (d ≡ access_or a)

some_true : (b : Bool) → Some b ≡ Some true → b ≡ true
some_true b h = cc

same_ors : (d e : Ors) → ends d ≡ ends e → e ≡ d
same_ors d e h = cc

at_end : (st : State) (d : Ors) → aim st ≡ Some true → step st None ≡ ends d → IsTargetAs d
at_end (want_not c) d h k = let p : ⊥ = cc in absurd p
at_end (want_unary c) d h k = let p : ⊥ = cc in absurd p
at_end (have_access a c) d h k = let e : None ≡ Some true = sym (none_unary c (plain a) d k) ∙ h in let p : ⊥ = cc in absurd p
at_end (want_name a c) d h k = let p : ⊥ = cc in absurd p
at_end (want_args x xs c) d h k = let p : ⊥ = cc in absurd p
at_end want_target d h k = let p : ⊥ = cc in absurd p
at_end (have_target a) d h k = (a, some_true (is_target a) h, same_ors (access_or a) d k)
at_end (want_target_name a) d h k = let p : ⊥ = cc in absurd p

ended : (o : Next) (st : State) (d : Ors) → step st None ≡ o → aim st ≡ Some true → go_on o [] (λ _. stuck []) ≡ whole d → IsTargetAs d
ended nowhere st d e h k = let p : ⊥ = cc in absurd p
ended (goes next) st d e h k = let p : ⊥ = cc in absurd p
ended (ends x) st d e h k = at_end st d h (e ∙ ap ends (whole_injective x d k))

one_step : (o : Next) (st : State) (t : Sym) (ts : List Sym) (d : Ors) → Reads (aim st) (so_far st) (Some t) o → aim st ≡ Some true → ((next : State) → aim next ≡ Some true → run ts next ≡ whole d → IsTargetAs d) → go_on o (t ∷ ts) (run ts) ≡ whole d → IsTargetAs d
one_step nowhere st t ts d r h ih k = let p : ⊥ = cc in absurd p
one_step (goes next) st t ts d r h ih k = ih next (r.1 ∙ h) k
one_step (ends x) st t ts d r h ih k = let e : Some t ≡ None = r.0 in let p : ⊥ = cc in absurd p

from : (ts : List Sym) (st : State) (d : Ors) → aim st ≡ Some true → run ts st ≡ whole d → IsTargetAs d
from [] st d h k = ended (step st None) st d refl h k
from (t ∷ ts) st d h k = one_step (step st (Some t)) st t ts d (reads st (Some t)) h (λ next. from ts next d) k

pub target_ends : (ts : List Sym) (d : Ors) → run ts want_target ≡ whole d → (a : Access) × (is_target a ≡ true) × (d ≡ access_or a)
target_ends ts d h = from ts want_target d refl h
