-- Parts in a row: their first fault, and none.
use Rattle.std.proofs.Common.{◌≡◌, ℕ, zero, suc, ◌+◌, ◌<◌, List, [], ◌∷◌, ◌++◌, reverse, take, drop, length, get_or, Option, Some, None, refl, ap, sym, ◌∙◌, subst, arith}
use Rattle.wf_lemmas.proofs.Lists.{reverse_push}
use Rattle.wf_syntax_rules.specs.Faults.{AreSound, FirstAt, IsOwn, IsSound}
use Rattle.wf_syntax_rules.specs.Rules.{Role, Sub, each, every, own, parts, at, there}
use Rattle.wf_syntax_words.specs.Fields.{field}
use Rattle.wf_syntax_rules.specs.declared.fault.SyntaxKind.{SyntaxKind}
use Rattle.wf_syntax.specs.Answers.{Fails, FailsAmong, FirstAmong}
use Rattle.wf_value.specs.Stops.{IsHere, IsOutside}
use Rattle.wf_value.specs.declared.stop.Stop.{Stop}
use Rattle.wf_value.specs.declared.stop.Stop.TheVariants as stop
use Rattle.wf_tree.specs.Trees.{Tree, Pairs, items_of, pairs_of}
use Rattle.wf_value.specs.declared.path.PathPart.{PathPart}
use Rattle.wf_value.specs.declared.path.PathPart.TheVariants.{Index, Key}

-- ---- lists

-- a list that has x at i
pub split_at : {A : Type 0} (s : List A) (i : ℕ) (x : A) → i < length s → x ≡ get_or s i x → s ≡ take i s ++ x ∷ drop (suc i) s
split_at [] i x h e = absurd (omega (arith, h))
split_at (y ∷ s) zero x h e = ap (λ z. z ∷ s) (sym e)
split_at (y ∷ s) (suc i) x h e = ap (λ l. y ∷ l) (split_at s i x (omega (arith, h)) e)

pub take_next : {A : Type 0} (s : List A) (i : ℕ) (x : A) → i < length s → x ≡ get_or s i x → take (suc i) s ≡ take i s ++ x ∷ []
take_next [] i x h e = absurd (omega (arith, h))
take_next (y ∷ s) zero x h e = ap (λ z. z ∷ []) (sym e)
take_next (y ∷ s) (suc i) x h e = ap (λ l. y ∷ l) (take_next s i x (omega (arith, h)) e)

pub take_length : {A : Type 0} (s : List A) (i : ℕ) → i < length s → length (take i s) ≡ i
take_length [] i h = absurd (omega (arith, h))
take_length (y ∷ s) zero h = refl
take_length (y ∷ s) (suc i) h = ap (λ n. suc n) (take_length s i (omega (arith, h)))

-- ---- sound parts

pub sound_both : (ss more : List Sub) → AreSound ss → AreSound more → AreSound (ss ++ more)
sound_both [] more h k = k
sound_both (b ∷ ss) more h k = (h.0, sound_both ss more h.1 k)

-- ---- stops

-- a node's own fault
pub fails_here : (r : Role) (t : Tree) (k : SyntaxKind) (s : Stop SyntaxKind) → IsOwn r t k → IsHere k s → Fails r t s
fails_here r t k (stop.Refused j ps) h e = subst (λ (l : List PathPart). FirstAt (reverse l) j r t) (sym e.1) (subst (λ (i : SyntaxKind). IsOwn r t i) (sym e.0) h)
fails_here r t k stop.OutOfMemory h e = tt

-- a part's stop, seen from the row of the parts
pub fails_among : (before after : List Sub) (s : Sub) (ss : List Sub) (p : PathPart) (i o : Stop SyntaxKind) → ss ≡ before ++ s ∷ after → AreSound before → s.part ≡ p → Fails s.role s.tree i → IsOutside p i o → FailsAmong ss o
fails_among before after s ss p i stop.OutOfMemory e sound is h out = tt
fails_among before after s ss p stop.OutOfMemory (stop.Refused j qs) e sound is h out = absurd out
fails_among before after s ss p (stop.Refused k ps) (stop.Refused j qs) e sound is h out =
    subst (λ (l : List PathPart). FirstAmong l j ss) (sym (ap reverse out.1 ∙ reverse_push ps.items p))
    (before, s, after, e, sound, is, subst (λ (i : SyntaxKind). FirstAt (reverse ps.items) i s.role s.tree) (sym out.0) h)

first_of_parts : (r : Role) (t : Tree) (ps : List PathPart) (k : SyntaxKind) → own r t ≡ None → FirstAmong ps k (parts r t) → FirstAt ps k r t
first_of_parts r t [] k e h = absurd h
first_of_parts r t (p ∷ ps) k e h = (e, h.0, h.1, h.2, h.3, h.4, h.5, h.6)

-- a stop among the parts of a node without a fault of its own
pub fails_below : (r : Role) (t : Tree) (s : Stop SyntaxKind) → own r t ≡ None → FailsAmong (parts r t) s → Fails r t s
fails_below r t (stop.Refused k ps) e h = first_of_parts r t (reverse ps.items) k e h
fails_below r t stop.OutOfMemory e h = tt

-- ---- the items of a list

pub each_both : (r : Role) (i : ℕ) (xs ys : List Tree) → each r i (items_of (xs ++ ys)) ≡ each r i (items_of xs) ++ each r (i + length xs) (items_of ys)
each_both r i [] ys = ap (λ n. each r n (items_of ys)) (omega arith)
each_both r i (x ∷ xs) ys = ap (λ l. record { part = Index i; role = r; tree = x } ∷ l) (each_both r (suc i) xs ys ∙ ap (λ n. each r (suc i) (items_of xs) ++ each r n (items_of ys)) (omega arith))

pub each_split : (r : Role) (ts : List Tree) (i : ℕ) (t : Tree) → i < length ts → t ≡ get_or ts i t → each r 0 (items_of ts) ≡ each r 0 (items_of (take i ts)) ++ record { part = Index i; role = r; tree = t } ∷ each r (suc i) (items_of (drop (suc i) ts))
each_split r ts i t h e =
    ap (λ l. each r 0 (items_of l)) (split_at ts i t h e) ∙ each_both r 0 (take i ts) (t ∷ drop (suc i) ts)
    ∙ ap (λ n. each r 0 (items_of (take i ts)) ++ each r n (items_of (t ∷ drop (suc i) ts))) (omega (arith, take_length ts i h))

pub each_next : (r : Role) (ts : List Tree) (i : ℕ) (t : Tree) → i < length ts → t ≡ get_or ts i t → AreSound (each r 0 (items_of (take i ts))) → IsSound r t → AreSound (each r 0 (items_of (take (suc i) ts)))
each_next r ts i t h e all here =
    subst AreSound (sym (ap (λ l. each r 0 (items_of l)) (take_next ts i t h e) ∙ each_both r 0 (take i ts) (t ∷ [])))
    (sound_both (each r 0 (items_of (take i ts))) (each r (0 + length (take i ts)) (items_of (t ∷ []))) all (here, tt))

-- an item's stop in the loop over a list
pub each_fails : (r : Role) (ts : List Tree) (i : ℕ) (t : Tree) (s o : Stop SyntaxKind) → i < length ts → t ≡ get_or ts i t → AreSound (each r 0 (items_of (take i ts))) → Fails r t s → IsOutside (Index i) s o → FailsAmong (each r 0 (items_of ts)) o
each_fails r ts i t s o h e all fails out =
    fails_among (each r 0 (items_of (take i ts))) (each r (suc i) (items_of (drop (suc i) ts))) (record { part = Index i; role = r; tree = t }) (each r 0 (items_of ts)) (Index i) s o
    (each_split r ts i t h e) all refl fails out

-- ---- the values of a map

pub every_both : (r : List ℕ → Role) (xs ys : List (List ℕ × Tree)) → every r (pairs_of (xs ++ ys)) ≡ every r (pairs_of xs) ++ every r (pairs_of ys)
every_both r [] ys = refl
every_both r (x ∷ xs) ys = ap (λ l. record { part = Key x.0; role = r x.0; tree = x.1 } ∷ l) (every_both r xs ys)

pub every_next : (r : List ℕ → Role) (ps : List (List ℕ × Tree)) (i : ℕ) (p : List ℕ × Tree) → i < length ps → p ≡ get_or ps i p → AreSound (every r (pairs_of (take i ps))) → IsSound (r p.0) p.1 → AreSound (every r (pairs_of (take (suc i) ps)))
every_next r ps i p h e all here =
    subst AreSound (sym (ap (λ l. every r (pairs_of l)) (take_next ps i p h e) ∙ every_both r (take i ps) (p ∷ [])))
    (sound_both (every r (pairs_of (take i ps))) (every r (pairs_of (p ∷ []))) all (here, tt))

pub every_fails : (r : List ℕ → Role) (ps : List (List ℕ × Tree)) (i : ℕ) (p : List ℕ × Tree) (s o : Stop SyntaxKind) → i < length ps → p ≡ get_or ps i p → AreSound (every r (pairs_of (take i ps))) → Fails (r p.0) p.1 s → IsOutside (Key p.0) s o → FailsAmong (every r (pairs_of ps)) o
every_fails r ps i p s o h e all fails out =
    fails_among (every r (pairs_of (take i ps))) (every r (pairs_of (drop (suc i) ps))) (record { part = Key p.0; role = r p.0; tree = p.1 }) (every r (pairs_of ps)) (Key p.0) s o
    (ap (λ l. every r (pairs_of l)) (split_at ps i p h e) ∙ every_both r (take i ps) (p ∷ drop (suc i) ps)) all refl fails out

-- the value at a key
pub at_fails : (k : List ℕ) (r : Role) (fs : Pairs) (t : Tree) (s o : Stop SyntaxKind) → Some t ≡ field k fs → Fails r t s → IsOutside (Key k) s o → FailsAmong (at k r fs) o
at_fails k r fs t s o e f out =
    subst (λ (m : Option Tree). FailsAmong (there k r m) o) e
    (fails_among [] [] (record { part = Key k; role = r; tree = t }) (there k r (Some t)) (Key k) s o refl tt refl f out)
