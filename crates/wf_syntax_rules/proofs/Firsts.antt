-- The first of a list that is faulty, and the place where symbols are cut, are one.
use Rattle.std.proofs.Common.{◌≡◌, List, [], ◌∷◌, ◌++◌, drop, refl, sym, ap, ◌∙◌, subst}
use Rattle.std.specs.List.{AllByRecursion}
use Rattle.wf_lemmas.proofs.Lists.{same_head}
use Rattle.wf_expr.specs.Begins.{BeginsOne, GoesNoFurther}
use Rattle.wf_expr.specs.Symbols.{Sym, Placed, syms}

-- Those before are sound, and none is sound and faulty. Places are compared here, not what stands there.
pub one_first : {A : Type 0} (Good Bad : A → Type 0) → ((a : A) → Good a → Bad a → ⊥) → (before more : List A) (x y : A) (after behind : List A) → before ++ x ∷ after ≡ more ++ y ∷ behind → AllByRecursion Good before → AllByRecursion Good more → Bad x → Bad y → x ≡ y
one_first Good Bad apart [] [] x y after behind e h g k l = same_head x y after behind e
one_first Good Bad apart [] (b ∷ more) x y after behind e h g k l = absurd (apart b g.0 (subst Bad (same_head x b after (more ++ y ∷ behind) e) k))
one_first Good Bad apart (a ∷ before) [] x y after behind e h g k l = absurd (apart a h.0 (subst Bad (sym (same_head a y (before ++ x ∷ after) behind e)) l))
one_first Good Bad apart (a ∷ before) (b ∷ more) x y after behind e h g k l = one_first Good Bad apart before more x y after behind (ap (drop 1) e) h.1 g.1 k l

-- ## The cut of symbols
-- the first symbol alone begins one
begins_first : (Is : List Sym → Type 0) (t : Sym) (ts : List Sym) → BeginsOne Is (t ∷ ts) → BeginsOne Is (t ∷ [])
begins_first Is t ts h = (ts ++ h.0, h.1)

-- what goes no further doesn't behind a symbol more
behind_one : (Is : List Sym → Type 0) (p : Placed) (before rest : List Placed) → GoesNoFurther Is (p ∷ before) rest → GoesNoFurther (λ ts. Is (p.sym ∷ ts)) before rest
behind_one Is p before [] h = tt
behind_one Is p before (q ∷ rest) h = h

-- the second of two cuts isn't behind the first
not_further : (Is : List Sym → Type 0) (rest : List Placed) (q : Placed) (b s : List Placed) → rest ≡ q ∷ (b ++ s) → BeginsOne Is (syms (q ∷ b)) → GoesNoFurther Is [] rest → ⊥
not_further Is [] q b s e h n = cc
not_further Is (p ∷ rest) q b s e h n =
    n (subst (λ (o : Placed). BeginsOne Is (o.sym ∷ [])) (sym (same_head p q rest (b ++ s) e)) (begins_first Is q.sym (syms b) h))

pub one_cut : (Is : List Sym → Type 0) (a r b s : List Placed) → a ++ r ≡ b ++ s → BeginsOne Is (syms a) → BeginsOne Is (syms b) → GoesNoFurther Is a r → GoesNoFurther Is b s → (a ≡ b) × (r ≡ s)
one_cut Is [] r [] s e h g n m = (refl, e)
one_cut Is [] r (q ∷ b) s e h g n m = absurd (not_further Is r q b s e g n)
one_cut Is (p ∷ a) r [] s e h g n m = absurd (not_further Is s p a r (sym e) h m)
one_cut Is (p ∷ a) r (q ∷ b) s e h g n m =
    let same : p ≡ q = same_head p q (a ++ r) (b ++ s) e in
    let more : (a ≡ b) × (r ≡ s) =
    one_cut (λ ts. Is (p.sym ∷ ts)) a r b s (ap (drop 1) e) h
    (subst (λ (o : Placed). BeginsOne (λ ts. Is (o.sym ∷ ts)) (syms b)) (sym same) g)
    (behind_one Is p a r n)
    (subst (λ (o : Placed). GoesNoFurther (λ ts. Is (o.sym ∷ ts)) b s) (sym same) (behind_one Is q b s m)) in
    (ap (λ (o : Placed). o ∷ a) same ∙ ap (λ l. q ∷ l) more.0, more.1)
