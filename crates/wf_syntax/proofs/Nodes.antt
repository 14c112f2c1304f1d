-- Nodes and their parts: what has no fault, and where the first one stands.
use Rattle.std.proofs.Common.{◌≡◌, ◌+◌, ◌<◌, ℕ, zero, suc, length, take, slice_index_or, arith, not-suc-le-zero, add-one, ◌≤◌, Bool, true, false, if◌then◌else◌, List, [], ◌∷◌, ◌++◌, reverse, append_assoc, take_all, Some, None, refl, sym, ap, ◌∙◌, subst, subst₂}
use Rattle.std.proofs.lemmas.List.{get_or-map, length-map}
use Rattle.wf_lemmas.proofs.Lists.{reverse_push}
use Rattle.wf_expr.specs.declared.fault.ExprFault.{ExprFault}
use Rattle.wf_syntax_rules.proofs.Own.{own_is}
use Rattle.wf_syntax_rules.proofs.Sound.{node_is_sound}
use Rattle.wf_syntax_rules.specs.Faults.{AreSound, FirstAt, IsOwn, IsSound, IsTextFault}
use Rattle.wf_syntax_rules.specs.Meaning.{Each}
use Rattle.wf_syntax_rules.specs.Rules.{Role, Sub, at, each, own, parts, there}
use Rattle.wf_syntax_words.specs.Fields.{field}
use Rattle.wf_syntax_rules.specs.declared.fault.SyntaxKind.{SyntaxKind}
use Rattle.wf_syntax.specs.Answers.{Fails, FailsAmong, FirstAmong}
use Rattle.wf_value.specs.Stops.{IsHere, IsOutside}
use Rattle.wf_value.specs.declared.stop.Stop.{Stop}
use Rattle.wf_value.specs.declared.stop.Stop.TheVariants as stop
use Rattle.wf_tree.specs.Plain.{plain_items, plain_tree}
use Rattle.wf_tree.specs.Trees.{Tree, list, map, Pairs, items_of}
use Rattle.wf_tree.specs.declared.tree.Tree.TheVariants as tree
use Rattle.wf_tree.specs.declared.tree.Tree as code
use Rattle.wf_value.specs.Pairs.{Text}
use Rattle.wf_value.specs.declared.path.PathPart.{PathPart}
use Rattle.wf_value.specs.declared.path.PathPart.TheVariants.{Index, Key}

-- ## Parts in a row
pub both_sound : (xs ys : List Sub) → AreSound xs → AreSound ys → AreSound (xs ++ ys)
both_sound [] ys h k = k
both_sound (x ∷ xs) ys h k = (h.0, both_sound xs ys h.1 k)

among_first : (ps : List PathPart) (k : SyntaxKind) (xs ys : List Sub) → FirstAmong ps k xs → FirstAmong ps k (xs ++ ys)
among_first [] k xs ys h = h
among_first (p ∷ ps) k xs ys h = (h.0, h.1, h.2 ++ ys, ap (λ l. l ++ ys) h.3 ∙ append_assoc h.0 (h.1 ∷ h.2) ys, h.4, h.5, h.6)

among_then : (ps : List PathPart) (k : SyntaxKind) (xs ys : List Sub) → AreSound xs → FirstAmong ps k ys → FirstAmong ps k (xs ++ ys)
among_then [] k xs ys all h = h
among_then (p ∷ ps) k xs ys all h =
    (xs ++ h.0, h.1, h.2, ap (λ l. xs ++ l) h.3 ∙ sym (append_assoc xs h.0 (h.1 ∷ h.2)), both_sound xs h.0 all h.4, h.5, h.6)

pub fails_first : (xs ys : List Sub) (out : Stop SyntaxKind) → FailsAmong xs out → FailsAmong (xs ++ ys) out
fails_first xs ys (stop.Refused k ps) h = among_first (reverse ps.items) k xs ys h
fails_first xs ys stop.OutOfMemory h = tt

pub fails_then : (xs ys : List Sub) (out : Stop SyntaxKind) → AreSound xs → FailsAmong ys out → FailsAmong (xs ++ ys) out
fails_then xs ys (stop.Refused k ps) all h = among_then (reverse ps.items) k xs ys all h
fails_then xs ys stop.OutOfMemory all h = tt

-- a part fails, and those before have no fault
pub fails_part : (ss before : List Sub) (s : Sub) (after : List Sub) (inner out : Stop SyntaxKind) →
    ss ≡ before ++ s ∷ after → AreSound before → Fails s.role s.tree inner → IsOutside s.part inner out → FailsAmong ss out
fails_part ss before s after (stop.Refused i ps) (stop.Refused j qs) e all h o =
    subst (λ l. FirstAmong l j ss) (sym (ap reverse o.1 ∙ reverse_push ps.items s.part))
    (before, s, after, e, all, refl, subst (λ x. FirstAt (reverse ps.items) x s.role s.tree) (sym o.0) h)
fails_part ss before s after stop.OutOfMemory (stop.Refused j qs) e all h o = absurd o
fails_part ss before s after inner stop.OutOfMemory e all h o = tt

-- ## Fields
pub field_fails : (k : Text) (r : Role) (fs : Pairs) (t : Tree) (inner out : Stop SyntaxKind) →
    Some t ≡ field k fs → Fails r t inner → IsOutside (Key k) inner out → FailsAmong (at k r fs) out
field_fails k r fs t inner out e h o =
    fails_part (at k r fs) [] (record { part = Key k; role = r; tree = t }) [] inner out (ap (there k r) (sym e)) tt h o

pub field_sound : (k : Text) (r : Role) (fs : Pairs) (t : Tree) → Some t ≡ field k fs → IsSound r t → AreSound (at k r fs)
field_sound k r fs t e h = subst (λ o. AreSound (there k r o)) e (h, tt)

-- ## Nodes
pub here_fails : (r : Role) (t : Tree) (k : SyntaxKind) (out : Stop SyntaxKind) → IsOwn r t k → IsHere k out → Fails r t out
here_fails r t k (stop.Refused j ps) h o =
    subst (λ l. FirstAt (reverse l) j r t) (sym o.1) (subst (λ x. IsOwn r t x) (sym o.0) h)
here_fails r t k stop.OutOfMemory h o = absurd o

-- a node's own fault stops it
pub own_fails : (r : Role) (t : Tree) (k : SyntaxKind) (out : Stop SyntaxKind) → own r t ≡ Some k → IsHere k out → Fails r t out
own_fails r t k out e h = here_fails r t k out (own_is r t k e) h

below_fails : (ps : List PathPart) (k : SyntaxKind) (r : Role) (t : Tree) → own r t ≡ None → FirstAmong ps k (parts r t) → FirstAt ps k r t
below_fails [] k r t e h = absurd h
below_fails (p ∷ ps) k r t e h = (e, h.0, h.1, h.2, h.3, h.4, h.5, h.6)

pub node_fails : (r : Role) (t : Tree) (out : Stop SyntaxKind) → own r t ≡ None → FailsAmong (parts r t) out → Fails r t out
node_fails r t (stop.Refused k ps) e h = below_fails (reverse ps.items) k r t e h
node_fails r t stop.OutOfMemory e h = tt

-- a node without parts
pub leaf_sound : (r : Role) (t : Tree) → own r t ≡ None → ((f : ExprFault) → IsTextFault r t f → ⊥) → parts r t ≡ [] → IsSound r t
leaf_sound r t e none p = node_is_sound r t e none (subst AreSound (sym p) tt)

-- ## Items
-- the item at an index, as a part
abbrev pub item_part : Role → ℕ → Tree → Sub
item_part r i t = record { part = Index i; role = r; tree = t }

item_next : (r : Role) (n m i : ℕ) (ts : List Tree) (t : Tree) → i < length ts → slice_index_or ts i t ≡ t → m ≡ n + i →
    (after : List Sub) × (each r n (items_of ts) ≡ each r n (items_of (take i ts)) ++ item_part r m t ∷ after)
item_next r n m i [] t lt is e = absurd (not-suc-le-zero lt)
item_next r n m zero (u ∷ ts) t lt is e =
    (each r (suc n) (items_of ts), ap (λ x. item_part r n x ∷ each r (suc n) (items_of ts)) is ∙ ap (λ x. item_part r x t ∷ each r (suc n) (items_of ts)) (omega (arith, e)))
item_next r n m (suc i) (u ∷ ts) t lt is e =
    let next = item_next r (suc n) m i ts t (omega (arith, lt)) is (omega (arith, e)) in
    (next.0, ap (λ l. item_part r n u ∷ l) next.1)

items_upto : (r : Role) (n m i : ℕ) (ts : List Tree) (t : Tree) → i < length ts → slice_index_or ts i t ≡ t → m ≡ n + i →
    each r n (items_of (take (suc i) ts)) ≡ each r n (items_of (take i ts)) ++ item_part r m t ∷ []
items_upto r n m i [] t lt is e = absurd (not-suc-le-zero lt)
items_upto r n m zero (u ∷ ts) t lt is e =
    ap (λ x. item_part r n x ∷ []) is ∙ ap (λ x. item_part r x t ∷ []) (omega (arith, e))
items_upto r n m (suc i) (u ∷ ts) t lt is e = ap (λ l. item_part r n u ∷ l) (items_upto r (suc n) m i ts t (omega (arith, lt)) is (omega (arith, e)))

-- an item fails, and those before have no fault
pub item_fails : (r : Role) (i : ℕ) (ts : List Tree) (t : Tree) (inner out : Stop SyntaxKind) → i < length ts → slice_index_or ts i t ≡ t →
    AreSound (each r 0 (items_of (take i ts))) → Fails r t inner → IsOutside (Index i) inner out → FailsAmong (each r 0 (items_of ts)) out
item_fails r i ts t inner out lt is all h o =
    let next = item_next r 0 i i ts t lt is (omega arith) in
    fails_part (each r 0 (items_of ts)) (each r 0 (items_of (take i ts))) (item_part r i t) next.0 inner out next.1 all h o

pub items_sound : (r : Role) (i : ℕ) (ts : List Tree) (t : Tree) → i < length ts → slice_index_or ts i t ≡ t →
    AreSound (each r 0 (items_of (take i ts))) → IsSound r t → AreSound (each r 0 (items_of (take (i + 1) ts)))
items_sound r i ts t lt is all h =
    subst AreSound (sym (ap (λ n. each r 0 (items_of (take n ts))) (add-one i) ∙ items_upto r 0 i i ts t lt is (omega arith))) (both_sound (each r 0 (items_of (take i ts))) (item_part r i t ∷ []) all (h, tt))

-- what is made of the items, one more of them
each_suc : {A : Type 0} (Is : A → Tree → Type 0) (made : List A) (a : A) (i : ℕ) (ts : List Tree) (t : Tree) → i < length ts → slice_index_or ts i t ≡ t →
    Each Is made (items_of (take i ts)) → Is a t → Each Is (made ++ a ∷ []) (items_of (take (suc i) ts))
each_suc Is made a i [] t lt is all h = absurd (not-suc-le-zero lt)
each_suc Is [] a zero (u ∷ ts) t lt is all h = (subst (Is a) (sym is) h, tt)
each_suc Is (b ∷ made) a zero (u ∷ ts) t lt is all h = absurd all
each_suc Is [] a (suc i) (u ∷ ts) t lt is all h = absurd all
each_suc Is (b ∷ made) a (suc i) (u ∷ ts) t lt is all h = (all.0, each_suc Is made a i ts t (omega (arith, lt)) is all.1 h)

pub each_more : {A : Type 0} (Is : A → Tree → Type 0) (before after : List A) (a : A) (b : Bool) (i : ℕ) (ts : List Tree) (t : Tree) → after ≡ (if b then before ++ a ∷ [] else before) → b ≡ true →
    i < length ts → slice_index_or ts i t ≡ t → Each Is before (items_of (take i ts)) → Is a t → Each Is after (items_of (take (i + 1) ts))
each_more Is before after a true i ts t e done lt is all h =
    subst₂ (λ l n. Each Is l (items_of (take n ts))) (sym e) (sym (add-one i)) (each_suc Is before a i ts t lt is all h)
each_more Is before after a false i ts t e done lt is all h = let x : ⊥ = cc in absurd x

-- lists in the code
pub item_at : (ts : List code.Tree) (i : ℕ) (t : code.Tree) → i < length ts → t ≡ slice_index_or ts i t → slice_index_or (plain_items ts) i (plain_tree t) ≡ plain_tree t
item_at ts i t lt e = get_or-map plain_tree ts i t (plain_tree t) lt ∙ ap plain_tree (sym e)

pub within : (ts : List code.Tree) (i : ℕ) → i < length ts → i < length (plain_items ts)
within ts i lt = omega (arith, lt, length-map ts plain_tree)

pub all_items : (ts : List code.Tree) (i : ℕ) → length ts ≤ i → take i (plain_items ts) ≡ plain_items ts
all_items ts i le = take_all i (plain_items ts) (omega (arith, le, length-map ts plain_tree))

-- a node that is a list
pub list_fails : (r s : Role) (t : Tree) (ts : List Tree) (out : Stop SyntaxKind) → t ≡ list (items_of ts) → own r (list (items_of ts)) ≡ None →
    parts r (list (items_of ts)) ≡ each s 0 (items_of ts) → FailsAmong (each s 0 (items_of ts)) out → Fails r t out
list_fails r s t ts out e own_none p h =
    subst (λ u. Fails r u out) (sym e) (node_fails r (list (items_of ts)) out own_none (subst (λ l. FailsAmong l out) (sym p) h))

pub list_sound : (r s : Role) (t : Tree) (ts : List Tree) → t ≡ list (items_of ts) → own r (list (items_of ts)) ≡ None →
    parts r (list (items_of ts)) ≡ each s 0 (items_of ts) → ((f : ExprFault) → IsTextFault r (list (items_of ts)) f → ⊥) → AreSound (each s 0 (items_of ts)) → IsSound r t
list_sound r s t ts e own_none p none h =
    subst (λ u. IsSound r u) (sym e) (node_is_sound r (list (items_of ts)) own_none none (subst AreSound (sym p) h))

-- ## Maps

-- a node that is a map
pub map_fails : (r : Role) (t : Tree) (fs : Pairs) (out : Stop SyntaxKind) → t ≡ map fs → own r (map fs) ≡ None → FailsAmong (parts r (map fs)) out → Fails r t out
map_fails r t fs out e own_none h = subst (λ u. Fails r u out) (sym e) (node_fails r (map fs) out own_none h)

pub map_sound : (r : Role) (t : Tree) (fs : Pairs) → t ≡ map fs → own r (map fs) ≡ None → ((f : ExprFault) → IsTextFault r (map fs) f → ⊥) →
    AreSound (parts r (map fs)) → IsSound r t
map_sound r t fs e own_none none h = subst (λ u. IsSound r u) (sym e) (node_is_sound r (map fs) own_none none h)
