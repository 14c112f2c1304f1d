-- What the machine has read begins an expression or a target, and where it stops none goes on.
use Rattle.std.proofs.Common.{◌≡◌, pos, Bool, true, false, List, [], ◌∷◌, ◌++◌, Option, Some, None, refl, sym, ap, ◌∙◌, subst, append_assoc, append-nil}
use Rattle.wf_ast.specs.declared.expr.Op.TheVariants as op
use Rattle.wf_expr.proofs.Kept.{call_begun, before_or, before_and, before_not, before_sum, before_term, before_unary, so_far, aim_or, aim_and, aim_not, aim_sum, aim_term, aim_unary, aim, Reads, reads, three, with_arg_text, call_text}
use Rattle.wf_expr.proofs.Reading.{expr_read, target_read, whole_injective}
use Rattle.wf_expr.specs.Begins.{BeginsOne, IsExpression}
use Rattle.wf_expr.specs.Grammar.{Ors, or_one, or_more, Ands, and_one, and_more, Nots, not_one, negated, alone, compared, Sums, sum_one, sum_more, Terms, term_one, term_more, Unary, plain, minus, Access, first, at_name, at_index, number, name, call, group, Args, no_args, args, or_text, and_text, not_text, sum_text, term_text, unary_text, access_text}
use Rattle.wf_expr.specs.Judging.{StopsAt}
use Rattle.wf_expr.specs.Machine.{InOr, top, in_place, in_group, in_index, in_args, InAnd, first_and, next_and, InNot, first_not, next_not, after_not, InSum, left, right, InTerm, first_term, next_term, InUnary, first_unary, next_unary, after_minus, State, want_not, want_unary, have_access, want_name, want_args, want_target, have_target, want_target_name, Next, nowhere, goes, ends, want_or, head, with_arg, access_or, step, Outcome, whole, stuck, go_on, run}
use Rattle.wf_expr.specs.Symbols.{Sym}
use Rattle.wf_expr.specs.Symbols as s
use Rattle.wf_expr.specs.Targets.{IsTargetText, is_target}
use Rattle.wf_value.specs.Pairs.{Text}

-- ## What was read so far begins what is read
-- an expression, or a target if what was read of it is one
abbrev BeginsAs : Option Bool → List Sym → Type 0
BeginsAs None ts = BeginsOne IsExpression ts
BeginsAs (Some true) ts = BeginsOne IsTargetText ts
BeginsAs (Some false) ts = Unit {0}

front : (Is : List Sym → Type 0) (a b : List Sym) → BeginsOne Is (a ++ b) → BeginsOne Is a
front Is a b h = (b ++ h.0, subst (λ (l : List Sym). Is l) (append_assoc a b h.0) h.1)

shorter : (g : Option Bool) (a b : List Sym) → BeginsAs g (a ++ b) → BeginsAs g a
shorter None a b h = front IsExpression a b h
shorter (Some true) a b h = front IsTargetText a b h
shorter (Some false) a b h = tt

regroup : (g : Option Bool) (a b : List Sym) → a ≡ b → BeginsAs g a → BeginsAs g b
regroup g a b e h = subst (λ (l : List Sym). BeginsAs g l) e h

closed : (b c : List Sym) (x y : Sym) → b ++ (x ∷ (c ++ y ∷ [])) ≡ ((b ++ x ∷ []) ++ c) ++ y ∷ []
closed b c x y = simp append_assoc

indexed : (b a c : List Sym) (x y : Sym) → b ++ (a ++ (x ∷ (c ++ y ∷ []))) ≡ ((b ++ (a ++ x ∷ [])) ++ c) ++ y ∷ []
indexed b a c x y = simp append_assoc

in_call : (c : InUnary) (x : Text) (xs : List Text) (a : Args) (d : Ors) → before_unary c ++ access_text (first (call x xs (args (with_arg a d)))) ≡ (before_or (in_args x xs a c) ++ or_text d) ++ s.right_paren ∷ []
in_call c x xs a d =
    call_text c x xs (args (with_arg a d))
    ∙ ap (λ l. before_unary c ++ (call_begun x xs ++ (l ++ s.right_paren ∷ []))) (with_arg_text a d)
    ∙ (simp append_assoc)

target_so_far : (a : Access) (b : Bool) → is_target a ≡ b → BeginsAs (Some b) (access_text a)
target_so_far a true h = ([], (a, h, sym (append-nil (access_text a))))
target_so_far a false h = tt

fill_target : (a : Access) → BeginsAs (Some (is_target a)) (access_text a)
fill_target a = target_so_far a (is_target a) refl

mutual
  fill_or : (c : InOr) (d : Ors) → BeginsAs (aim_or c) (before_or c ++ or_text d)
  fill_or top d = ([], (d, sym (append-nil (or_text d))))
  fill_or (in_place a) d = shorter (Some (is_target a)) _ (s.right_bracket ∷ []) (regroup (Some (is_target a)) _ _ (closed (access_text a) (or_text d) s.left_bracket s.right_bracket) (fill_target (at_index a d)))
  fill_or (in_group c) d = shorter (aim_unary c) _ (s.right_paren ∷ []) (regroup (aim_unary c) _ _ (closed (before_unary c) (or_text d) s.left_paren s.right_paren) (fill_unary c (plain (first (group d)))))
  fill_or (in_index a c) d = shorter (aim_unary c) _ (s.right_bracket ∷ []) (regroup (aim_unary c) _ _ (indexed (before_unary c) (access_text a) (or_text d) s.left_bracket s.right_bracket) (fill_unary c (plain (at_index a d))))
  fill_or (in_args x xs a c) d = shorter (aim_unary c) _ (s.right_paren ∷ []) (regroup (aim_unary c) _ _ (in_call c x xs a d) (fill_unary c (plain (first (call x xs (args (with_arg a d)))))))

  fill_and : (c : InAnd) (d : Ands) → BeginsAs (aim_and c) (before_and c ++ and_text d)
  fill_and (first_and c) d = fill_or c (or_one d)
  fill_and (next_and ds c) d = regroup (aim_or c) _ _ (three (before_or c) (or_text ds) (and_text d) s.or) (fill_or c (or_more ds d))

  fill_not : (c : InNot) (d : Nots) → BeginsAs (aim_not c) (before_not c ++ not_text d)
  fill_not (first_not c) d = fill_and c (and_one d)
  fill_not (next_not ds c) d = regroup (aim_and c) _ _ (three (before_and c) (and_text ds) (not_text d) s.and) (fill_and c (and_more ds d))
  fill_not (after_not c) d = regroup (aim_not c) _ _ (sym (append_assoc (before_not c) (s.not ∷ []) (not_text d))) (fill_not c (negated d))

  fill_sum : (c : InSum) (d : Sums) → BeginsAs (aim_sum c) (before_sum c ++ sum_text d)
  fill_sum (left c) d = fill_not c (not_one (alone d))
  fill_sum (right a o c) d = regroup (aim_not c) _ _ (three (before_not c) (sum_text a) (sum_text d) (s.relation o)) (fill_not c (not_one (compared a o d)))

  fill_term : (c : InTerm) (d : Terms) → BeginsAs (aim_term c) (before_term c ++ term_text d)
  fill_term (first_term c) d = fill_sum c (sum_one d)
  fill_term (next_term ds o c) d = regroup (aim_sum c) _ _ (three (before_sum c) (sum_text ds) (term_text d) (s.sign o)) (fill_sum c (sum_more ds o d))

  fill_unary : (c : InUnary) (d : Unary) → BeginsAs (aim_unary c) (before_unary c ++ unary_text d)
  fill_unary (first_unary c) d = fill_term c (term_one d)
  fill_unary (next_unary ds o c) d = regroup (aim_term c) _ _ (three (before_term c) (term_text ds) (unary_text d) (s.product o)) (fill_term c (term_more ds o d))
  fill_unary (after_minus c) d = regroup (aim_unary c) _ _ (sym (append_assoc (before_unary c) (s.sign op.Sub ∷ []) (unary_text d))) (fill_unary c (minus d))

zero : Unary
zero = plain (first (number (pos 0)))

point_name : (b a : List Sym) (m n : Sym) → b ++ (a ++ (m ∷ n ∷ [])) ≡ (b ++ (a ++ m ∷ [])) ++ n ∷ []
point_name b a m n = simp append_assoc

name_behind : (a : List Sym) (m n : Sym) → a ++ (m ∷ n ∷ []) ≡ (a ++ m ∷ []) ++ n ∷ []
name_behind a m n = simp append_assoc

fill_call : (x : Text) (xs : List Text) (c : InUnary) → BeginsAs (aim_unary c) (before_unary c ++ call_begun x xs)
fill_call x xs c =
    shorter (aim_unary c) _ (s.right_paren ∷ [])
    (regroup (aim_unary c) _ _ (call_text c x xs no_args ∙ sym (append_assoc (before_unary c) (call_begun x xs) (s.right_paren ∷ []))) (fill_unary c (plain (first (call x xs no_args)))))

fill : (st : State) → BeginsAs (aim st) (so_far st)
fill (want_not c) = shorter (aim_not c) _ _ (fill_not c (not_one (alone (sum_one (term_one zero)))))
fill (want_unary c) = shorter (aim_unary c) _ _ (fill_unary c zero)
fill (have_access a c) = fill_unary c (plain a)
fill (want_name a c) = shorter (aim_unary c) _ (s.name [] ∷ []) (regroup (aim_unary c) _ _ (point_name (before_unary c) (access_text a) s.point (s.name [])) (fill_unary c (plain (at_name a []))))
fill (want_args x xs c) = fill_call x xs c
fill want_target = shorter (Some true) [] (s.name [] ∷ []) (fill_target (first (name [])))
fill (have_target a) = fill_target a
fill (want_target_name a) = shorter (Some (is_target a)) _ (s.name [] ∷ []) (regroup (Some (is_target a)) _ _ (name_behind (access_text a) s.point (s.name [])) (fill_target (at_name a [])))

-- ## Where the machine stops
record Stop (st : State) (ts rest : List Sym) : Type 0 where
  before : List Sym
  at : State
  split : ts ≡ before ++ rest
  read : so_far at ≡ so_far st ++ before
  same_aim : aim at ≡ aim st
  same : (more : List Sym) → run (before ++ more) st ≡ run more at
  no : (t : Sym) → head rest ≡ Some t → step at (Some t) ≡ nowhere

rest_of : List Sym → Outcome → List Sym
rest_of ts (whole d) = ts
rest_of ts (stuck us) = us

stuck_injective : (a b : List Sym) → stuck a ≡ stuck b → a ≡ b
unfolding rest_of
stuck_injective a b p = ap (rest_of a) p

here : (st : State) (t : Sym) (ts rest : List Sym) → step st (Some t) ≡ nowhere → stuck (t ∷ ts) ≡ stuck rest → Stop st (t ∷ ts) rest
here st t ts rest e h = let f = stuck_injective (t ∷ ts) rest h in record {
  before = [];
  at = st;
  split = f;
  read = sym (append-nil (so_far st));
  same_aim = refl;
  same = λ more. refl;
  no = λ u k. let g : Some t ≡ Some u = ap head f ∙ k in subst (λ (o : Option Sym). step st o ≡ nowhere) g e;
}

later : (st next : State) (t : Sym) (ts rest : List Sym) → (so_far next ≡ so_far st ++ t ∷ []) × (aim next ≡ aim st) → ((us : List Sym) → run (t ∷ us) st ≡ run us next) → Stop next ts rest → Stop st (t ∷ ts) rest
later st next t ts rest e g h = record {
  before = t ∷ h.before;
  at = h.at;
  split = ap (λ l. t ∷ l) h.split;
  read = h.read ∙ ap (λ l. l ++ h.before) e.0 ∙ append_assoc (so_far st) (t ∷ []) h.before;
  same_aim = h.same_aim ∙ e.1;
  same = λ more. g (h.before ++ more) ∙ h.same more;
  no = h.no;
}

ended : (st : State) (rest : List Sym) → stuck [] ≡ stuck rest → Stop st [] rest
ended st rest h = let f = stuck_injective [] rest h in record {
  before = [];
  at = st;
  split = f;
  read = sym (append-nil (so_far st));
  same_aim = refl;
  same = λ more. refl;
  no = λ u k. let g : None ≡ Some u = ap head f ∙ k in cc;
}

at_end : (o : Next) (st : State) (rest : List Sym) → go_on o [] (λ _. stuck []) ≡ stuck rest → Stop st [] rest
at_end nowhere st rest h = ended st rest h
at_end (goes next) st rest h = ended st rest h
at_end (ends d) st rest h = let p : ⊥ = cc in absurd p

one_step : (o : Next) (st : State) (t : Sym) (ts rest : List Sym) → step st (Some t) ≡ o → Reads (aim st) (so_far st) (Some t) o → ((next : State) → run ts next ≡ stuck rest → Stop next ts rest) → go_on o (t ∷ ts) (run ts) ≡ stuck rest → Stop st (t ∷ ts) rest
one_step nowhere st t ts rest e r ih h = here st t ts rest e h
one_step (goes next) st t ts rest e r ih h = later st next t ts rest r (λ us. ap (λ o. go_on o (t ∷ us) (run us)) e) (ih next h)
one_step (ends d) st t ts rest e r ih h = let p : ⊥ = cc in absurd p

stops : (ts : List Sym) (st : State) (rest : List Sym) → run ts st ≡ stuck rest → Stop st ts rest
stops [] st rest h = at_end (step st None) st rest h
stops (t ∷ ts) st rest h = one_step (step st (Some t)) st t ts rest refl (reads st (Some t)) (λ next. stops ts next rest) h

-- ## The two answers
ended_whole : (o : Next) (st : State) (d : Ors) → Reads (aim st) (so_far st) None o → go_on o [] (λ _. stuck []) ≡ whole d → or_text d ≡ so_far st
ended_whole nowhere st d r h = let p : ⊥ = cc in absurd p
ended_whole (goes next) st d r h = let p : ⊥ = cc in absurd p
ended_whole (ends e) st d r h = ap or_text (sym (whole_injective e d h)) ∙ r.1

step_whole : (o : Next) (st : State) (t : Sym) (ts : List Sym) (d : Ors) → Reads (aim st) (so_far st) (Some t) o → ((next : State) → run ts next ≡ whole d → or_text d ≡ so_far next ++ ts) → go_on o (t ∷ ts) (run ts) ≡ whole d → or_text d ≡ so_far st ++ t ∷ ts
step_whole nowhere st t ts d r ih h = let p : ⊥ = cc in absurd p
step_whole (goes next) st t ts d r ih h = ih next h ∙ ap (λ l. l ++ ts) r.0 ∙ append_assoc (so_far st) (t ∷ []) ts
step_whole (ends e) st t ts d r ih h = let e : Some t ≡ None = r.0 in let p : ⊥ = cc in absurd p

reads_whole : (ts : List Sym) (st : State) (d : Ors) → run ts st ≡ whole d → or_text d ≡ so_far st ++ ts
reads_whole [] st d h = ended_whole (step st None) st d (reads st None) h ∙ sym (append-nil (so_far st))
reads_whole (t ∷ ts) st d h = step_whole (step st (Some t)) st t ts d (reads st (Some t)) (λ next. reads_whole ts next d) h

pub whole_text : (ts : List Sym) (d : Ors) → run ts (want_or top) ≡ whole d → or_text d ≡ ts
whole_text ts d h = reads_whole ts (want_or top) d h

pub target_text : (ts : List Sym) (a : Access) → run ts want_target ≡ whole (access_or a) → access_text a ≡ ts
target_text ts a h = reads_whole ts want_target (access_or a) h

not_both : (d : Ors) (ts : List Sym) → whole d ≡ stuck ts → ⊥
not_both d ts h = cc

no_expression : (ts rest : List Sym) → run ts (want_or top) ≡ stuck rest → IsExpression ts → ⊥
no_expression ts rest h x = not_both x.0 rest (sym (expr_read x.0) ∙ ap (λ l. run l (want_or top)) x.1 ∙ h)

no_target : (ts rest : List Sym) → run ts want_target ≡ stuck rest → IsTargetText ts → ⊥
no_target ts rest h x = not_both (access_or x.0) rest (sym (target_read x.0 x.1) ∙ ap (λ l. run l want_target) x.2 ∙ h)

place : (Is : List Sym → Type 0) (st : State) → so_far st ≡ [] → ((l : List Sym) → BeginsAs (aim st) l → BeginsOne Is l) → ((ts rest : List Sym) → run ts st ≡ stuck rest → Is ts → ⊥) → (ts rest : List Sym) → run ts st ≡ stuck rest → StopsAt Is ts rest
place Is st e begun none ts rest h =
    let w = stops ts st rest h in
    let no : (t : Sym) → head rest ≡ Some t → (more : List Sym) → run (w.before ++ t ∷ more) st ≡ stuck (t ∷ more) =
    λ t k more. w.same (t ∷ more) ∙ ap (λ o. go_on o (t ∷ more) (run more)) (w.no t k) in
    record {
      before = w.before;
      split = w.split;
      begins = begun w.before (subst (λ (g : Option Bool). BeginsAs g w.before) w.same_aim (regroup (aim w.at) _ _ (w.read ∙ ap (λ l. l ++ w.before) e) (fill w.at)));
      no_further = λ t k b. none (w.before ++ t ∷ b.0) (t ∷ b.0) (no t k b.0) (subst (λ (l : List Sym). Is l) (append_assoc w.before (t ∷ []) b.0) b.1);
      none = none ts rest h;
    }

pub stuck_place : (ts rest : List Sym) → run ts (want_or top) ≡ stuck rest → StopsAt IsExpression ts rest
stuck_place ts rest h = place IsExpression (want_or top) refl (λ l b. b) no_expression ts rest h

pub target_place : (ts rest : List Sym) → run ts want_target ≡ stuck rest → StopsAt IsTargetText ts rest
target_place ts rest h = place IsTargetText want_target refl (λ l b. b) no_target ts rest h
