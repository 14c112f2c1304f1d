-- What variables come to.
use Rattle.std.proofs.Common.{◌≡◌, ◌⊎◌, inl, inr, ℕ, ◌+◌, Bool, true, false, List, [], ◌∷◌, ◌++◌, map, Option, Some, None, refl, sym, ap, subst, ◌∙◌, arith}
use Rattle.std.specs.Prelude.{if◌then◌else◌, nat_eq}
use Rattle.std.proofs.lemmas.Bool.{and_parts, eq-eqb, eqb-false, ne_eqb}
use Rattle.wf_frames.proofs.Unseen.{besides_closed}
use Rattle.wf_frames.specs.Owned.{KeysStand, OwnStand, first_key}
use Rattle.wf_frames.specs.Tasks.{AreApart, AreOthers, Far, Own, far_layers, numbers, own_layers}
use Rattle.wf_model.specs.Local.{layers_total, outers_total}
use Rattle.wf_scope.proofs.Kept.{find_closed, rises_closed}
use Rattle.wf_scope.proofs.Totals.{total_closed}
use Rattle.wf_scope.specs.Layers.{Layer, all_above, closed, find, rises, total_of, vars_at, vars_in}
use Rattle.wf_stores.specs.Holders.{AllSum, Holder, Owns, TaskSums, all_total, besides, has_number, holder_in, keys_of}
use Rattle.wf_stores.proofs.Alone.{find_behind}
use Rattle.wf_stores.proofs.Chains.{Has, Sees, far_numbers, has_own, numbers_has, others_from, others_not, own_has, own_numbers}
use Rattle.wf_stores.proofs.Goes.{has_true}
use Rattle.wf_value.specs.Data.{pairs_of, pairs_size}

-- ## By numbers
abbrev sizes : List ℕ → List Layer → ℕ
sizes [] ls = 0
sizes (n ∷ ns) ls = pairs_size (pairs_of (vars_at n ls)) + sizes ns ls

own_sizes : (os : List Own) (ls : List Layer) → layers_total (own_layers os ls) ≡ sizes (own_numbers os) ls
own_sizes [] ls = refl
own_sizes (o ∷ os) ls = ap (λ (n : ℕ). pairs_size (pairs_of (vars_at o.number ls)) + n) (own_sizes os ls)

far_sizes : (ks : List Far) (ls : List Layer) → outers_total (far_layers ks ls) ≡ sizes (far_numbers ks) ls
far_sizes [] ls = refl
far_sizes (k ∷ ks) ls = ap (λ (n : ℕ). pairs_size (pairs_of (vars_at k.number ls)) + n) (far_sizes ks ls)

held_sizes : (os : List Own) (ks : List Far) (ls : List Layer) → layers_total (own_layers os ls) + outers_total (far_layers ks ls) ≡ sizes (numbers os ks) ls
held_sizes [] ks ls = omega (arith, far_sizes ks ls)
held_sizes (o ∷ os) ks ls = shift (pairs_size (pairs_of (vars_at o.number ls))) (layers_total (own_layers os ls)) (outers_total (far_layers ks ls)) (sizes (numbers os ks) ls) (held_sizes os ks ls)
  where
    shift : (p a b c : ℕ) → a + b ≡ c → (p + a) + b ≡ p + c
    shift p a b c e = omega (arith, e)

joined_sizes : (ms ns : List ℕ) (ls : List Layer) → sizes (ms ++ ns) ls ≡ sizes ms ls + sizes ns ls
joined_sizes [] ns ls = omega arith
joined_sizes (m ∷ ms) ns ls = shift (pairs_size (pairs_of (vars_at m ls))) (sizes (ms ++ ns) ls) (sizes ms ls) (sizes ns ls) (joined_sizes ms ns ls)
  where
    shift : (p a b c : ℕ) → a ≡ b + c → p + a ≡ (p + b) + c
    shift p a b c e = omega (arith, e)

-- ## One layer after another
besides_nothing : (ls : List Layer) → besides [] ls ≡ ls
besides_nothing [] = refl
besides_nothing (l ∷ ls) = ap (λ ms. l ∷ ms) (besides_nothing ls)

other_sizes : (n : ℕ) (ns : List ℕ) (ls : List Layer) → AreOthers n ns → sizes ns (closed n ls) ≡ sizes ns ls
other_sizes n [] ls a = refl
other_sizes n (m ∷ ns) ls a =
    let past : nat_eq m n ≡ false = ne_eqb m n (λ e. eqb-false n m a.0 (sym e)) in
    ap (λ o. pairs_size (pairs_of (vars_in o)) + sizes ns (closed n ls)) (find_closed n m ls past) ∙ ap (λ (k : ℕ). pairs_size (pairs_of (vars_at m ls)) + k) (other_sizes n ns ls a.1)

split : (ns : List ℕ) (ls : List Layer) → rises ls ≡ true → AreApart ns → ((n : ℕ) → Has ns n → (l : Layer) × (find n ls ≡ Some l)) → sizes ns ls + total_of (besides ns ls) ≡ total_of ls
split [] ls r a h = let same = ap total_of (besides_nothing ls) in omega (arith, same)
split (n ∷ ns) ls r a h =
    let l = h n (inl refl) in
    shift (pairs_size (pairs_of (vars_at n ls))) (pairs_size (pairs_of l.0.vars)) (sizes ns ls) (sizes ns (closed n ls)) (total_of (besides (n ∷ ns) ls)) (total_of (besides ns (closed n ls))) (total_of (closed n ls)) (total_of ls)
    (ap (λ o. pairs_size (pairs_of (vars_in o))) l.1) (other_sizes n ns ls a.0) (ap total_of (besides_closed n ns ls r)) (total_closed n ls l.0 l.1)
    (split ns (closed n ls) (rises_closed n ls r) a.1 (λ m c. let k = h m (inr c) in
    (k.0, find_closed n m ls (ne_eqb m n (λ e. others_not n ns a.0 (subst (Has ns) e c))) ∙ k.1)))
  where
    shift : (p q s t u v w x : ℕ) → p ≡ q → t ≡ s → v ≡ u → x ≡ q + w → t + v ≡ w → (p + s) + u ≡ x
    shift p q s t u v w x a b c d e = omega (arith, a, b, c, d, e)

-- ## A task
pub own_found : (last : Option ℕ) (os : List Own) (ls : List Layer) (n : ℕ) → OwnStand last os ls → Owns os n → (l : Layer) × (find n ls ≡ Some l)
own_found last [] ls n s h = absurd h
own_found last (o ∷ os) ls n s (inl e) = (s.0.0, ap (λ (x : ℕ). find x ls) (sym e) ∙ s.0.1)
own_found last (o ∷ os) ls n s (inr h) = own_found last os ls n s.1 h

far_found : (ks : List Far) (ls : List Layer) (n : ℕ) → KeysStand ks ls → Sees ks n → (l : Layer) × (find n ls ≡ Some l)
far_found [] ls n k h = absurd h
far_found (f ∷ ks) ls n k (inl e) = (k.0.0, ap (λ (x : ℕ). find x ls) (sym e) ∙ k.0.1)
far_found (f ∷ ks) ls n k (inr h) = far_found ks ls n k.1 h

pub task_sums : TaskSums
task_sums ks os ls r linked =
    ap (λ (n : ℕ). n + total_of (besides (numbers os ks) ls)) (held_sizes os ks ls)
    ∙ split (numbers os ks) ls r linked.apart (λ n h. elim (numbers_has os ks n h) [ inl own ↦ own_found (first_key ks) os ls n linked.stand own | inr far ↦ far_found ks ls n linked.keys far ])

-- ## All
abbrev all_numbers : List Holder → List ℕ
all_numbers [] = []
all_numbers (h ∷ hs) = own_numbers h.own ++ all_numbers hs

all_sizes : (hs : List Holder) (ls : List Layer) → all_total hs ls ≡ sizes (all_numbers hs) ls
all_sizes [] ls = refl
all_sizes (h ∷ hs) ls = both (layers_total (own_layers h.own ls)) (sizes (own_numbers h.own) ls) (all_total hs ls) (sizes (all_numbers hs) ls) (own_sizes h.own ls) (all_sizes hs ls) ∙ sym (joined_sizes (own_numbers h.own) (all_numbers hs) ls)
  where
    both : (a b c d : ℕ) → a ≡ b → c ≡ d → a + c ≡ b + d
    both a b c d e f = omega (arith, e, f)

abbrev In : Holder → List Holder → Type 0
In h [] = ⊥
In h (g ∷ gs) = (h ≡ g) ⊎ In h gs

pub in_numbers : (h : Holder) (gs : List Holder) → In h gs → Has (map (λ g. g.number) gs) h.number
in_numbers h [] i = i
in_numbers h (g ∷ gs) (inl e) = inl (ap (λ (x : Holder). x.number) (sym e))
in_numbers h (g ∷ gs) (inr i) = inr (in_numbers h gs i)

member : (h : Holder) (gs : List Holder) → AreApart (map (λ g. g.number) gs) → In h gs → holder_in gs h.number ≡ Some h
member h [] a i = absurd i
member h (g ∷ gs) a (inl e) = ap (λ (b : Bool). if b then Some g else holder_in gs h.number) (eq-eqb g.number h.number (ap (λ (x : Holder). x.number) (sym e))) ∙ ap Some (sym e)
member h (g ∷ gs) a (inr i) =
    ap (λ (b : Bool). if b then Some g else holder_in gs h.number) (ne_eqb g.number h.number (λ e. others_not g.number (map (λ g. g.number) gs) a.0 (subst (Has (map (λ g. g.number) gs)) (sym e) (in_numbers h gs i))))
    ∙ member h gs a.1 i

has_joined : (ms ns : List ℕ) (n : ℕ) → Has (ms ++ ns) n → Has ms n ⊎ Has ns n
has_joined [] ns n h = inr h
has_joined (m ∷ ms) ns n (inl e) = inl (inl e)
has_joined (m ∷ ms) ns n (inr h) = elim (has_joined ms ns n h) [ inl x ↦ inl (inr x) | inr y ↦ inr y ]

joined_has : (ms ns : List ℕ) (n : ℕ) → Has ms n ⊎ Has ns n → Has (ms ++ ns) n
joined_has [] ns n (inl none) = absurd none
joined_has [] ns n (inr h) = h
joined_has (m ∷ ms) ns n (inl (inl e)) = inl e
joined_has (m ∷ ms) ns n (inl (inr h)) = inr (joined_has ms ns n (inl h))
joined_has (m ∷ ms) ns n (inr h) = inr (joined_has ms ns n (inr h))

pub joined_apart : (ms ns : List ℕ) → AreApart ms → AreApart ns → ((n : ℕ) → Has ms n → Has ns n → ⊥) → AreApart (ms ++ ns)
joined_apart [] ns a b d = b
joined_apart (m ∷ ms) ns a b d =
    (others_from m (ms ++ ns) (λ c. elim (has_joined ms ns m c) [ inl x ↦ others_not m ms a.0 x | inr y ↦ d m (inl refl) y ]), joined_apart ms ns a.1 b (λ n x y. d n (inr x) y))

-- whose a number is
of_all : (gs : List Holder) (n : ℕ) → Has (all_numbers gs) n → (g : Holder) × In g gs × Owns g.own n
of_all [] n h = absurd h
of_all (g ∷ gs) n h = elim (has_joined (own_numbers g.own) (all_numbers gs) n h) [
  | inl x ↦ (g, inl refl, own_has g.own n x)
  | inr y ↦ let r = of_all gs n y in (r.0, inr r.1, r.2)
]

all_of : (gs : List Holder) (g : Holder) (n : ℕ) → In g gs → Owns g.own n → Has (all_numbers gs) n
all_of [] g n i o = absurd i
all_of (k ∷ gs) g n (inl e) o = joined_has (own_numbers k.own) (all_numbers gs) n (inl (has_own k.own n (subst (λ (x : Holder). Owns x.own n) e o)))
all_of (k ∷ gs) g n (inr i) o = joined_has (own_numbers k.own) (all_numbers gs) n (inr (all_of gs g n i o))

all_apart : (gs : List Holder) → AreApart (map (λ g. g.number) gs) → ((g : Holder) → In g gs → AreApart (own_numbers g.own)) → ((g k : Holder) (n : ℕ) → In g gs → In k gs → Owns g.own n → Owns k.own n → g.number ≡ k.number) → AreApart (all_numbers gs)
all_apart [] d a one = tt
all_apart (g ∷ gs) d a one =
    joined_apart (own_numbers g.own) (all_numbers gs) (a g (inl refl)) (all_apart gs d.1 (λ k i. a k (inr i)) (λ k l n i j. one k l n (inr i) (inr j)))
    (λ n x y. let r = of_all gs n y in let same = one g r.0 n (inl refl) (inr r.1) (own_has g.own n x) r.2 in
    others_not g.number (map (λ g. g.number) gs) d.0 (subst (Has (map (λ g. g.number) gs)) (sym same) (in_numbers r.0 gs r.1)))

pub found_in : (hs : List Holder) (b : ℕ) (h : Holder) → holder_in hs b ≡ Some h → In h hs
found_in [] b h e = absurd (let no : None ≡ Some h = e in cc no)
found_in (g ∷ hs) b h e = by (nat_eq g.number b) e (λ is. found_in hs b h is)
  where
    by : (x : Bool) → (if x then Some g else holder_in hs b) ≡ Some h → (holder_in hs b ≡ Some h → In h hs) → In h (g ∷ hs)
    by true is later = let same : g ≡ h = cc is in inl (sym same)
    by false is later = inr (later is)

all_gone : (ns : List ℕ) (ls : List Layer) → rises ls ≡ true → ((l : Layer) → find l.number ls ≡ Some l → has_number l.number ns ≡ true) → besides ns ls ≡ []
all_gone ns [] r h = refl
all_gone ns (l ∷ ls) r h =
    let two = and_parts (all_above l.number ls) (rises ls) r in
    ap (λ (b : Bool). if b then besides ns ls else l ∷ besides ns ls) (h l (ap (λ (b : Bool). if b then Some l else find l.number ls) (eq-eqb l.number l.number refl)))
    ∙ all_gone ns ls two.1 (λ k e. h k (find_behind k.number l ls k two.0 e))

pub all_sum : AllSum
all_sum hs ls a =
    all_sizes hs ls ∙ shift (sizes (all_numbers hs) ls) (total_of (besides (all_numbers hs) ls)) (total_of ls)
    (split (all_numbers hs) ls a.rising
    (all_apart hs a.distinct (λ g i. a.apart g.number g (member g hs a.distinct i)) (λ g k n i j x y. a.one g.number k.number g k n (member g hs a.distinct i) (member k hs a.distinct j) x y))
    (λ n h. let r = of_all hs n h in own_found (first_key (keys_of hs r.0)) r.0.own ls n (a.stand r.0.number r.0 (member r.0 hs a.distinct r.1)) r.2))
    (ap total_of (all_gone (all_numbers hs) ls a.rising (λ l e. let x = a.each l.number l e in has_true l.number (all_numbers hs) (all_of hs x.1 l.number (found_in hs x.0 x.1 x.2) x.3))))
  where
    shift : (p q t : ℕ) → p + q ≡ t → q ≡ 0 → p ≡ t
    shift p q t e z = omega (arith, e, z)
