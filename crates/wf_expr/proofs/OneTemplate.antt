-- A text is one template at most, and not refused where it is one.
use Rattle.std.proofs.Common.{◌≡◌, Bool, true, false, not, List, [], ◌∷◌, ◌++◌, refl, sym, ap, ◌∙◌, subst}
use Rattle.std.proofs.lemmas.Bool.{false≢true, true≢false}
use Rattle.std.specs.List.{list_all}
use Rattle.wf_ast.specs.Tree.{Part, Said, Hole, Template, Scalar, Whole, Joined, Listed, Mapped}
use Rattle.wf_expr.specs.Parsing.{NotBoth, OneExpression, Parses}
use Rattle.wf_expr.specs.declared.fault.ExprFault.{ExprFault}
use Rattle.wf_expr.specs.declared.fault.ExprFault.TheVariants as fault
use Rattle.wf_expr.specs.Pieces.{Piece, said, hole, unclosed, pieces}
use Rattle.wf_expr.specs.Texts.{AreParts, IsFaultAt, IsFirstIn, IsPart, IsTemplateOf, NotBothOf, OneTemplate, has_expressions, is_said, is_whole}
use Rattle.wf_value.specs.Pairs.{Text}

-- ## One template
one_part : OneExpression → (p : Piece) (x y : Part) → IsPart p x → IsPart p y → x ≡ y
one_part one (said s) (Said x) (Said y) h k = ap Said (sym h ∙ k)
one_part one (said s) (Said x) (Hole f) h k = absurd k
one_part one (said s) (Hole e) y h k = absurd h
one_part one (hole s) (Said x) y h k = absurd h
one_part one (hole s) (Hole e) (Said y) h k = absurd k
one_part one (hole s) (Hole e) (Hole f) h k = ap Hole (one s e f h k)
one_part one (unclosed s) x y h k = absurd h

one_join : OneExpression → (ps : List Piece) (xs ys : List Part) → AreParts ps xs → AreParts ps ys → xs ≡ ys
one_join one [] [] [] h k = refl
one_join one [] [] (y ∷ ys) h k = absurd k
one_join one [] (x ∷ xs) ys h k = absurd h
one_join one (p ∷ ps) [] ys h k = absurd h
one_join one (p ∷ ps) (x ∷ xs) [] h k = absurd k
one_join one (p ∷ ps) (x ∷ xs) (y ∷ ys) h k = (λ i. one_part one p x y h.0 k.0 i ∷ one_join one ps xs ys h.1 k.1 i)

same_hole : (a b : Text) (ps : List Piece) → ps ≡ hole a ∷ [] → ps ≡ hole b ∷ [] → a ≡ b
same_hole a b ps h k = let e : hole a ∷ [] ≡ hole b ∷ [] = sym h ∙ k in cc

hole_opens : (s h : Text) → pieces s ≡ hole h ∷ [] → has_expressions s ≡ true
hole_opens s h e = ap (λ ps. not (list_all is_said ps)) e

hole_is_whole : (s h : Text) → pieces s ≡ hole h ∷ [] → is_whole (pieces s) ≡ true
hole_is_whole s h e = ap is_whole e

both : (b : Bool) → b ≡ true → b ≡ false → ⊥
both b h k = true≢false (sym h ∙ k)

pub one_template : OneExpression → OneTemplate
one_template one s (Scalar v) (Scalar w) p q = ap Scalar (p.1 ∙ sym q.1)
one_template one s (Scalar v) (Whole f) p q = absurd (both (has_expressions s) (hole_opens s q.0 q.1) p.0)
one_template one s (Scalar v) (Joined ys) p q = absurd (both (has_expressions s) q.0 p.0)
one_template one s (Whole e) (Scalar w) p q = absurd (both (has_expressions s) (hole_opens s p.0 p.1) q.0)
one_template one s (Whole e) (Whole f) p q =
    let same = same_hole q.0 p.0 (pieces s) q.1 p.1 in
    ap Whole (one p.0 e f p.2 (subst (λ (h : Text). Parses h f) same q.2))
one_template one s (Whole e) (Joined ys) p q = absurd (both (is_whole (pieces s)) (hole_is_whole s p.0 p.1) q.1)
one_template one s (Joined xs) (Scalar w) p q = absurd (both (has_expressions s) p.0 q.0)
one_template one s (Joined xs) (Whole f) p q = absurd (both (is_whole (pieces s)) (hole_is_whole s q.0 q.1) p.1)
one_template one s (Joined xs) (Joined ys) p q = ap Joined (one_join one (pieces s) xs ys p.2 q.2)
one_template one s (Listed ts) u p q = absurd p
one_template one s (Mapped fs) u p q = absurd p
one_template one s (Scalar v) (Listed ts) p q = absurd q
one_template one s (Scalar v) (Mapped fs) p q = absurd q
one_template one s (Whole e) (Listed ts) p q = absurd q
one_template one s (Whole e) (Mapped fs) p q = absurd q
one_template one s (Joined xs) (Listed ts) p q = absurd q
one_template one s (Joined xs) (Mapped fs) p q = absurd q

-- ## Not both
part_not : NotBoth → (p : Piece) (x : Part) (f : ExprFault) → IsPart p x → (f ≡ fault.OutOfMemory → ⊥) → IsFaultAt p f → ⊥
part_not apart (said s) x f h n k = k
part_not apart (hole s) (Said x) f h n k = h
part_not apart (hole s) (Hole e) f h n k = apart s e f h n k
part_not apart (unclosed s) x f h n k = h

-- a fault is the fault of no piece that is said
all_said_not : (before : List Piece) (at : Piece) (after : List Piece) (f : ExprFault) → list_all is_said (before ++ at ∷ after) ≡ true → IsFaultAt at f → ⊥
all_said_not [] (said s) after f h k = k
all_said_not [] (hole s) after f h k = false≢true h
all_said_not [] (unclosed s) after f h k = false≢true h
all_said_not (said s ∷ before) at after f h k = all_said_not before at after f h k
all_said_not (hole s ∷ before) at after f h k = false≢true h
all_said_not (unclosed s ∷ before) at after f h k = false≢true h

all_parts_not : NotBoth → (before : List Piece) (at : Piece) (after : List Piece) (xs : List Part) (f : ExprFault) → AreParts (before ++ at ∷ after) xs → (f ≡ fault.OutOfMemory → ⊥) → IsFaultAt at f → ⊥
all_parts_not apart [] at after [] f h n k = h
all_parts_not apart [] at after (x ∷ xs) f h n k = part_not apart at x f h.0 n k
all_parts_not apart (p ∷ before) at after [] f h n k = h
all_parts_not apart (p ∷ before) at after (x ∷ xs) f h n k = all_parts_not apart before at after xs f h.1 n k

none_opens : (s : Text) (b : Bool) → list_all is_said (pieces s) ≡ b → not b ≡ false → list_all is_said (pieces s) ≡ true
none_opens s true h k = h
none_opens s false h k = absurd (true≢false k)

first_not : NotBoth → (s : Text) (t : Template) (f : ExprFault) → IsTemplateOf s t → (f ≡ fault.OutOfMemory → ⊥) → IsFirstIn (pieces s) f → ⊥
first_not apart s (Scalar v) f p n q =
    all_said_not q.before q.at q.after f (ap (list_all is_said) (sym q.split) ∙ none_opens s (list_all is_said (pieces s)) refl p.0) q.faulty
first_not apart s (Whole e) f p n q =
    all_parts_not apart q.before q.at q.after (Hole e ∷ []) f (subst (λ (ps : List Piece). AreParts ps (Hole e ∷ [])) (sym p.1 ∙ q.split) (p.2, tt)) n q.faulty
first_not apart s (Joined xs) f p n q =
    all_parts_not apart q.before q.at q.after xs f (subst (λ (ps : List Piece). AreParts ps xs) q.split p.2) n q.faulty
first_not apart s (Listed ts) f p n q = p
first_not apart s (Mapped fs) f p n q = p

pub not_both : NotBoth → NotBothOf
not_both apart s t fault.OutOfMemory p n q = n refl
not_both apart s t fault.TooLong p n q = first_not apart s t fault.TooLong p n q
not_both apart s t (fault.Lex f) p n q = first_not apart s t (fault.Lex f) p n q
not_both apart s t (fault.Syntax at) p n q = first_not apart s t (fault.Syntax at) p n q
not_both apart s t (fault.Decimal at) p n q = first_not apart s t (fault.Decimal at) p n q
not_both apart s t (fault.UnknownFunction at) p n q = first_not apart s t (fault.UnknownFunction at) p n q
not_both apart s t (fault.Arity at) p n q = first_not apart s t (fault.Arity at) p n q
