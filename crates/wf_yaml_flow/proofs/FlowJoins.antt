-- What was noted joins what is read behind it, in any order of joining.
use Rattle.std.proofs.Common.{◌≡◌, ℕ, suc, ◌+◌, List, [], ◌∷◌, ◌++◌, length, Bool, true, false, cond, ◌&&◌, ◌||◌, ◌==◌, nat_lt, nat_le, Option, Some, None, Result, Ok, Err, refl, sym, ap, ◌∙◌, arith, append_assoc}
use Rattle.std.proofs.lemmas.Bool.Decides.{nat_tests}
use Rattle.wf_yaml_line.specs.declared.fault.Fault.{Fault}
use Rattle.wf_yaml_line.specs.Fault.{rank, speaks_before, first_of_two, both, kept, given, noted}
use Rattle.wf_tree.specs.Trees.{Tree, list, items_of}
use Rattle.wf_yaml_line.specs.Marks.{close_list, close_map}
use Rattle.wf_value.specs.Maps.{with_value}
use Rattle.wf_yaml_line.specs.Views.{so_far, keys_of}
use Rattle.wf_yaml_flow.specs.Flow.{Seen, goes, stops, joined, followed, seen_as, behind_element, one_pair}
use Rattle.wf_yaml_line.specs.declared.key_set.KeySet.{KeySet}
use Rattle.wf_yaml_flow.specs.declared.places.Hand.TheVariants as hand
use Rattle.wf_yaml_flow.specs.declared.places.Frame.{Frame}
use Rattle.wf_yaml_flow.specs.declared.places.Frame.TheVariants as frame
use Rattle.wf_yaml_flow.specs.FlowWalk.{items, pairs, noting, more_items, more_pairs, behind_one, complete, resume, here, turned_to}
use Rattle.wf_yaml_flow.specs.declared.places.Place.{Place}

-- ---- the first of three

abbrev before : ℕ → ℕ → ℕ → ℕ → Bool
before a x b y = nat_lt a b || (a == b && nat_le x y)

through : (a x b y c z : ℕ) → before a x b y ≡ true → before b y c z ≡ true → before a x c z ≡ true
through a x b y c z h k = grind (arith, nat_tests)

against : (a x b y c z : ℕ) → before a x b y ≡ false → before b y c z ≡ false → before a x c z ≡ false
against a x b y c z h k = grind (arith, nat_tests)

first_of_three_by : (f g h : Fault) (a b : Bool) → speaks_before f g ≡ a → speaks_before g h ≡ b
    → cond (speaks_before f (cond b g h)) f (cond b g h) ≡ cond (speaks_before (cond a f g) h) (cond a f g) h
first_of_three_by f g h true true e k = ap (λ t. cond t f g) e ∙ sym (ap (λ t. cond t f h) (through f.line (rank f.kind) g.line (rank g.kind) h.line (rank h.kind) e k))
first_of_three_by f g h true false e k = refl
first_of_three_by f g h false true e k = ap (λ t. cond t f g) e ∙ sym (ap (λ t. cond t g h) k)
first_of_three_by f g h false false e k = ap (λ t. cond t f h) (against f.line (rank f.kind) g.line (rank g.kind) h.line (rank h.kind) e k) ∙ sym (ap (λ t. cond t g h) k)

pub first_of_three : (f g h : Fault) → first_of_two f (first_of_two g h) ≡ first_of_two (first_of_two f g) h
first_of_three f g h = first_of_three_by f g h (speaks_before f g) (speaks_before g h) refl refl

-- ---- noting

pub noting_nothing : {A : Type 0} (u : Unit {0}) (x : Seen A) → noting (Ok u) x ≡ x
noting_nothing u (goes (Ok a) rest) = refl
noting_nothing u (goes (Err e) rest) = refl
noting_nothing u (stops e) = refl

noting_two : {A : Type 0} (g h : Fault) (x : Seen A) → noting (Err (first_of_two g h)) x ≡ noting (Err g) (noting (Err h) x)
noting_two g h (goes (Ok a) rest) = refl
noting_two g h (goes (Err e) rest) = ap (λ t. goes (Err t) rest) (sym (first_of_three g h e))
noting_two g h (stops e) = ap stops (sym (first_of_three g h e))

pub noting_both : {A : Type 0} (q r : Result (Unit {0}) Fault) (x : Seen A) → noting (both kept q r) x ≡ noting q (noting r x)
noting_both (Ok u) (Ok v) x = ap (noting (Ok u)) (sym (noting_nothing v x))
noting_both (Ok u) (Err h) x = sym (noting_nothing u (noting (Err h) x))
noting_both (Err g) (Ok v) x = ap (noting (Err g)) (sym (noting_nothing v x))
noting_both (Err g) (Err h) x = noting_two g h x

joined_fault : {A B C : Type 0} (f : A → B → C) (g : Fault) (a : A) (x : Seen B) → joined f (Err g) x ≡ noting (Err g) (joined f (Ok a) x)
joined_fault f g a (goes (Ok b) rest) = refl
joined_fault f g a (goes (Err e) rest) = refl
joined_fault f g a (stops e) = refl

joined_faults : {A B C : Type 0} (f : A → B → C) (g h : Fault) (x : Seen B) → joined f (Err (first_of_two g h)) x ≡ noting (Err g) (joined f (Err h) x)
joined_faults f g h (goes (Ok b) rest) = refl
joined_faults f g h (goes (Err e) rest) = ap (λ t. goes (Err t) rest) (sym (first_of_three g h e))
joined_faults f g h (stops e) = ap stops (sym (first_of_three g h e))

joined_noting : {A B C : Type 0} (f : A → B → C) (q : Result (Unit {0}) Fault) (r : Result A Fault) (x : Seen B) → joined f (both (λ _ a. a) q r) x ≡ noting q (joined f r x)
joined_noting f (Ok u) (Ok a) x = sym (noting_nothing u (joined f (Ok a) x))
joined_noting f (Ok u) (Err h) x = sym (noting_nothing u (joined f (Err h) x))
joined_noting f (Err g) (Ok a) x = joined_fault f g a x
joined_noting f (Err g) (Err h) x = joined_faults f g h x

pub followed_noting : {A B C : Type 0} (f : A → B → C) (q : Result (Unit {0}) Fault) (x : Seen A) (go : List ℕ → Seen B) → followed f (noting q x) go ≡ noting q (followed f x go)
followed_noting f q (goes r rest) go = joined_noting f q r (go rest)
followed_noting f (Ok u) (stops e) go = refl
followed_noting f (Err g) (stops e) go = refl

pub as_noting : {A B : Type 0} (f : A → B) (q : Result (Unit {0}) Fault) (x : Seen A) → seen_as f (noting q x) ≡ noting q (seen_as f x)
as_noting f (Ok u) (goes (Ok a) rest) = refl
as_noting f (Ok u) (goes (Err e) rest) = refl
as_noting f (Ok u) (stops e) = refl
as_noting f (Err g) (goes (Ok a) rest) = refl
as_noting f (Err g) (goes (Err e) rest) = refl
as_noting f (Err g) (stops e) = refl

-- a part with which something was noted
pub joined_as : {B C : Type 0} (f : B → C) (q : Result (Unit {0}) Fault) (x : Seen B) → joined (λ _ b. f b) q x ≡ noting q (seen_as f x)
joined_as f (Ok u) (goes (Ok a) rest) = refl
joined_as f (Ok u) (goes (Err e) rest) = refl
joined_as f (Ok u) (stops e) = refl
joined_as f (Err g) (goes (Ok a) rest) = refl
joined_as f (Err g) (goes (Err e) rest) = refl
joined_as f (Err g) (stops e) = refl

-- ---- what is open

pub complete_noting : (n d : ℕ) (f : Frame) (q : Result (Unit {0}) Fault) (x : Seen Tree) → complete n d f (noting q x) ≡ noting q (complete n d f x)
complete_noting n d (frame.Item ts) q x =
    let go = λ (r : List ℕ). behind_element close_list n r (λ u. items n d u) in
    ap (more_items ts) (followed_noting (λ t us. t ∷ us) q x go) ∙ as_noting (λ us. list (items_of (ts ++ us))) q (followed (λ t us. t ∷ us) x go)
complete_noting n d (frame.Value m key) q x =
    let go = λ (r : List ℕ). behind_element close_map n r (λ u. pairs n d (keys_of m.keys) u) in
    let pair : Tree → List ℕ × Tree = λ t. (key, t) in
    ap (λ y. more_pairs m.pairs (followed (λ p qs. p ∷ qs) y go)) (as_noting pair q x)
    ∙ ap (more_pairs m.pairs) (followed_noting (λ p qs. p ∷ qs) q (seen_as pair x) go)
    ∙ as_noting _ q (followed (λ p qs. p ∷ qs) (seen_as pair x) go)
complete_noting n d (frame.OnePair key) q x = as_noting _ q x

complete_stops : (n d : ℕ) (f : Frame) (g : Fault) → complete n d f (stops g) ≡ stops g
complete_stops n d (frame.Item ts) g = refl
complete_stops n d (frame.Value m key) g = refl
complete_stops n d (frame.OnePair key) g = refl

pub resume_stops : (n d : ℕ) (fs : List Frame) (g : Fault) → resume n d fs (stops g) ≡ stops g
resume_stops n d [] g = refl
resume_stops n d (f ∷ fs) g = ap (complete n d f) (resume_stops n (suc d) fs g) ∙ complete_stops n d f g

pub resume_more : (n d : ℕ) (fs : List Frame) (f : Frame) (x : Seen Tree) → resume n d (fs ++ f ∷ []) x ≡ resume n d fs (complete n (d + length fs) f x)
resume_more n d [] f x = ap (λ k. complete n k f x) (plus_none d) where
  plus_none : (k : ℕ) → k ≡ k + 0
  plus_none k = omega arith
resume_more n d (g ∷ fs) f x = ap (complete n d g) (resume_more n (suc d) fs f x) ∙ ap (λ k. complete n d g (resume n (suc d) fs (complete n k f x))) (plus_more d (length fs)) where
  plus_more : (k l : ℕ) → suc k + l ≡ k + suc l
  plus_more k l = omega arith

-- ---- a node that was read goes into what is open

item_put : (ts : List Tree) (t : Tree) (f : Option Fault) (x : Seen (List Tree)) → noting (noted f) (more_items (ts ++ t ∷ []) x) ≡ more_items ts (joined (λ a us. a ∷ us) (so_far t f) x)
item_put ts t None (goes (Ok us) rest) = ap (λ y. goes (Ok (list (items_of y))) rest) (append_assoc ts (t ∷ []) us)
item_put ts t None (goes (Err e) rest) = refl
item_put ts t None (stops e) = refl
item_put ts t (Some g) (goes (Ok us) rest) = refl
item_put ts t (Some g) (goes (Err e) rest) = refl
item_put ts t (Some g) (stops e) = refl

pub put_item : (n d : ℕ) (f : Option Fault) (ts : List Tree) (t : Tree) (s : List ℕ) → noting (noted f) (behind_one n d (hand.Items (ts ++ t ∷ [])) s) ≡ complete n d (frame.Item ts) (goes (so_far t f) s)
put_item n d f ts t s = item_put ts t f (behind_element close_list n s (λ u. items n d u))

value_put : (ps : List (List ℕ × Tree)) (key : List ℕ) (t : Tree) (f : Option Fault) (x : Seen (List (List ℕ × Tree)))
    → noting (noted f) (more_pairs (with_value key t ps) x) ≡ more_pairs ps (joined (λ p qs. p ∷ qs) (given (λ v. (key, v)) (so_far t f)) x)
value_put ps key t None (goes (Ok qs) rest) = refl
value_put ps key t None (goes (Err h) rest) = refl
value_put ps key t None (stops h) = refl
value_put ps key t (Some g) (goes (Ok qs) rest) = refl
value_put ps key t (Some g) (goes (Err h) rest) = refl
value_put ps key t (Some g) (stops h) = refl

pub put_value : (n d : ℕ) (f : Option Fault) (ps : List (List ℕ × Tree)) (keys : KeySet) (key : List ℕ) (t : Tree) (s : List ℕ)
    → noting (noted f) (behind_one n d (hand.Pairs (record { pairs = with_value key t ps; keys = keys })) s) ≡ complete n d (frame.Value (record { pairs = ps; keys = keys }) key) (goes (so_far t f) s)
put_value n d f ps keys key t s = value_put ps key t f (behind_element close_map n s (λ u. pairs n d (keys_of keys) u))

pub put_one_pair : (n d : ℕ) (f : Option Fault) (key : List ℕ) (t : Tree) (s : List ℕ) → noting (noted f) (goes (Ok (one_pair key t)) s) ≡ complete n d (frame.OnePair key) (goes (so_far t f) s)
put_one_pair n d None key t s = refl
put_one_pair n d (Some g) key t s = refl

-- ---- turns

abbrev turned_by : ℕ → ℕ → Option Frame → Result (Unit {0}) Fault → Place → Seen Tree
turned_by n d None q p = noting q (here n d p)
turned_by n d (Some f) q p = complete n d f (noting q (here n (suc d) p))

by_noted : (n d : ℕ) (o : Option Frame) (f : Option Fault) (p : Place) → turned_to n d o f p ≡ turned_by n d o (noted f) p
by_noted n d None f p = refl
by_noted n d (Some r) f p = refl

noting_found : (n d : ℕ) (o : Option Frame) (f g : Option Fault) (p : Place) → noting (noted f) (turned_to n d o g p) ≡ turned_by n d o (both kept (noted f) (noted g)) p
noting_found n d None f g p = sym (noting_both (noted f) (noted g) (here n d p))
noting_found n d (Some r) f g p = sym (complete_noting n d r (noted f) (noting (noted g) (here n (suc d) p))) ∙ ap (complete n d r) (sym (noting_both (noted f) (noted g) (here n (suc d) p)))

pub noting_turn : (n d : ℕ) (o : Option Frame) (f g h : Option Fault) (p : Place) → noted h ≡ both kept (noted f) (noted g) → turned_to n d o h p ≡ noting (noted f) (turned_to n d o g p)
noting_turn n d o f g h p e = by_noted n d o h p ∙ ap (λ q. turned_by n d o q p) e ∙ sym (noting_found n d o f g p)
