-- What holds of a tree without faults: of its node, and of its parts.
use Rattle.std.proofs.Common.{◌≡◌, ◌≤◌, ℕ, suc, List, [], ◌∷◌, ◌++◌, Option, Some, None, true, is_some, option_map, refl, sym, ◌∙◌, subst, append_assoc}
use Rattle.std.proofs.lemmas.Option.{same_Some}
use Rattle.wf_lemmas.proofs.Options.{some_not_none}
use Rattle.wf_syntax_rules.proofs.Deep.{row_after, row, field_deep}
use Rattle.wf_syntax_rules.proofs.Own.{own_is}
use Rattle.wf_syntax_rules.specs.Faults.{AreSound, IsSound}
use Rattle.wf_syntax_rules.specs.Made.{some_or, each_of, get, else_of, maybe_of}
use Rattle.wf_syntax_rules.specs.Meaning.{At, Each, Else, ElseBy, Maybe}
use Rattle.wf_syntax_rules.specs.Rules.{Role, Sub, each, there, at, own, parts}
use Rattle.wf_syntax_words.specs.Fields.{field, has}
use Rattle.wf_syntax_rules.specs.declared.fault.SyntaxKind.{SyntaxKind}
use Rattle.wf_tree.specs.Trees.{Tree, null, Items, no_items, item, Pairs, depth, pairs_depth}
use Rattle.wf_value.specs.Pairs.{Text}

-- ## A node
own_by : (r : Role) (t : Tree) (o : Option SyntaxKind) → own r t ≡ o → IsSound r t → own r t ≡ None
own_by r t None e h = e
own_by r t (Some k) e h = absurd (h [] k (own_is r t k e))

pub sound_own : (r : Role) (t : Tree) → IsSound r t → own r t ≡ None
sound_own r t h = own_by r t (own r t) refl h

parts_from : (r : Role) (t : Tree) → IsSound r t → (before ss : List Sub) → parts r t ≡ before ++ ss → AreSound ss
parts_from r t h before [] e = tt
parts_from r t h before (s ∷ ss) e = (λ ps k f. h (s.part ∷ ps) k (before, s, ss, e, refl, f), parts_from r t h (before ++ s ∷ []) ss (e ∙ sym (append_assoc before (s ∷ []) ss)))

pub sound_parts : (r : Role) (t : Tree) → IsSound r t → AreSound (parts r t)
sound_parts r t h = parts_from r t h [] (parts r t) refl

-- ## Parts in a row
sound_left : (xs ys : List Sub) → AreSound (xs ++ ys) → AreSound xs
sound_left [] ys h = tt
sound_left (x ∷ xs) ys h = (h.0, sound_left xs ys h.1)

sound_right : (xs ys : List Sub) → AreSound (xs ++ ys) → AreSound ys
sound_right [] ys h = h
sound_right (x ∷ xs) ys h = sound_right xs ys h.1

abbrev pub AllSound : Pairs → List (Text × Role) → Type 0
AllSound fs [] = Unit {0}
AllSound fs (k ∷ ks) = AreSound (at k.0 k.1 fs) × AllSound fs ks

after_all : (ss : List Sub) (fs : Pairs) (ks : List (Text × Role)) → AreSound (row_after ss fs ks) → AreSound ss × AllSound fs ks
after_all ss fs [] h = (h, tt)
after_all ss fs (k ∷ ks) h =
    let r = after_all (ss ++ at k.0 k.1 fs) fs ks h in
    (sound_left ss (at k.0 k.1 fs) r.0, (sound_right ss (at k.0 k.1 fs) r.0, r.1))

pub row_all : (fs : Pairs) (ks : List (Text × Role)) → AreSound (row fs ks) → AllSound fs ks
row_all fs [] h = tt
row_all fs (k ∷ ks) h = after_all (at k.0 k.1 fs) fs ks h

-- ## Fields
there_sound : (k : Text) (r : Role) (o : Option Tree) (x : Tree) → o ≡ Some x → AreSound (there k r o) → IsSound r x
there_sound k r None x e h = absurd (some_not_none x (sym e))
there_sound k r (Some y) x e h = subst (λ (z : Tree). IsSound r z) (same_Some y x e) h.0

-- what holds of a sound tree that is no deeper than the fields holds of the tree at a key
abbrev pub Holds : ℕ → Role → (Tree → Type 0) → Type 0
Holds n r P = (x : Tree) → depth x ≤ n → IsSound r x → P x

pub given : (k : Text) (r : Role) (fs : Pairs) (P : Tree → Type 0) → AreSound (at k r fs) → Holds (pairs_depth fs) r P → (x : Tree) → field k fs ≡ Some x → P x
given k r fs P s h x e = h x (field_deep k fs x (sym e)) (there_sound k r (field k fs) x e s)

maybe_by : {A : Type 0} (f : Tree → A) (Is : A → Tree → Type 0) (k : Text) (fs : Pairs) (o : Option Tree) → field k fs ≡ o → ((x : Tree) → o ≡ Some x → Is (f x) x) → Maybe (option_map f o) k fs Is
maybe_by f Is k fs None e h = e
maybe_by f Is k fs (Some x) e h = (x, e, h x refl)

pub maybe_is : {A : Type 0} (f : Tree → A) (Is : A → Tree → Type 0) (k : Text) (r : Role) (fs : Pairs) → AreSound (at k r fs) → Holds (pairs_depth fs) r (λ x. Is (f x) x) → Maybe (maybe_of f k fs) k fs Is
maybe_is f Is k r fs s h = maybe_by f Is k fs (field k fs) refl (given k r fs (λ x. Is (f x) x) s h)

else_by : {A : Type 0} (a : A) (f : Tree → A) (Is : A → Tree → Type 0) (o : Option Tree) → ((x : Tree) → o ≡ Some x → Is (f x) x) → ElseBy o (some_or a (option_map f o)) a Is
else_by a f Is None h = refl
else_by a f Is (Some x) h = h x refl

pub else_is : {A : Type 0} (a : A) (f : Tree → A) (Is : A → Tree → Type 0) (k : Text) (r : Role) (fs : Pairs) → AreSound (at k r fs) → Holds (pairs_depth fs) r (λ x. Is (f x) x) → Else (else_of a f k fs) a k fs Is
else_is a f Is k r fs s h = else_by a f Is (field k fs) (given k r fs (λ x. Is (f x) x) s h)

at_by : {A : Type 0} (f : Tree → A) (Is : A → Tree → Type 0) (k : Text) (fs : Pairs) (o : Option Tree) → field k fs ≡ o → is_some o ≡ true → ((x : Tree) → o ≡ Some x → Is (f x) x) → At k fs (Is (f (some_or null o)))
at_by f Is k fs None e t h = let x : ⊥ = cc in absurd x
at_by f Is k fs (Some x) e t h = (x, e, h x refl)

pub at_is : {A : Type 0} (f : Tree → A) (Is : A → Tree → Type 0) (k : Text) (r : Role) (fs : Pairs) → has k fs ≡ true → AreSound (at k r fs) → Holds (pairs_depth fs) r (λ x. Is (f x) x) → At k fs (Is (f (get k fs)))
at_is f Is k r fs t s h = at_by f Is k fs (field k fs) refl t (given k r fs (λ x. Is (f x) x) s h)

-- ## Items
pub each_is : {A : Type 0} (f : Tree → A) (Is : A → Tree → Type 0) (r : Role) → ((x : Tree) → IsSound r x → Is (f x) x) → (i : ℕ) (xs : Items) → AreSound (each r i xs) → Each Is (each_of f xs) xs
each_is f Is r h i no_items s = tt
each_is f Is r h i (item x xs) s = (h x s.0, each_is f Is r h (suc i) xs s.1)
