-- Nodes that are added one after another.
use Rattle.std.proofs.Common.{◌≡◌, ℕ, suc, ◌+◌, List, [], ◌∷◌, ◌++◌, length, map, set, refl, sym, ap, ◌∙◌, append_assoc, arith, length-append, Result, Ok, Err, IfOk}
use Rattle.std.proofs.lemmas.List.{append-nil, length-map, map-append, map-set, set_at}
use Rattle.wf_lemmas.proofs.Numbers.{plus_zero, suc_moved}
use Rattle.wf_model.specs.NodeKinds.{node_view}
use Rattle.wf_table.specs.Made.{Adds, view_for, views_for}
use Rattle.wf_model.specs.Spots.{Spot}
use Rattle.wf_model.specs.declared.node.Node.{Node}

pub views_length : (n : ℕ) (xs : List Spot) → length (views_for n xs) ≡ length xs
views_length n [] = refl
views_length n (s ∷ xs) = ap suc (views_length (suc n) xs)

pub views_append : (n : ℕ) (xs ys : List Spot) → views_for n (xs ++ ys) ≡ views_for n xs ++ views_for (n + length xs) ys
views_append n [] ys = ap (λ m. views_for m ys) (plus_zero n)
views_append n (s ∷ xs) ys = ap (λ l. view_for n s ∷ l) (views_append (suc n) xs ys ∙ ap (λ m. views_for (suc n) xs ++ views_for m ys) (suc_moved n (length xs)))

pub longer : (a b : List Node) (xs : List Spot) → Adds a b xs → length b ≡ length a + length xs
longer a b xs h =
    sym (length-map b node_view) ∙ ap length h.views ∙ length-append (map node_view a) (views_for (length a) xs)
    ∙ ap (λ n. n + length (views_for (length a) xs)) (length-map a node_view) ∙ ap (λ n. length a + n) (views_length (length a) xs)

-- the same parts
pub of_these : (a b : List Node) (xs ys : List Spot) → xs ≡ ys → Adds a b xs → Adds a b ys
of_these a b xs ys is h = record { views = h.views ∙ ap (λ l. map node_view a ++ views_for (length a) l) is }

pub nothing : (a : List Node) → Adds a a []
nothing a = record { views = sym (append-nil (map node_view a)) }

pub then : (a b c : List Node) (xs ys : List Spot) → Adds a b xs → Adds b c ys → Adds a c (xs ++ ys)
then a b c xs ys h k = record {
  views =
      k.views
      ∙ ap (λ l. l ++ views_for (length b) ys) h.views
      ∙ append_assoc (map node_view a) (views_for (length a) xs) (views_for (length b) ys)
      ∙ ap (λ n. map node_view a ++ (views_for (length a) xs ++ views_for n ys)) (longer a b xs h)
      ∙ ap (λ l. map node_view a ++ l) (sym (views_append (length a) xs ys));
}

-- one node at the end
pub one : (a b : List Node) (x : Node) (s : Spot) → b ≡ a ++ x ∷ [] → node_view x ≡ view_for (length a) s → Adds a b (s ∷ [])
one a b x s grown is = record {
  views = ap (map node_view) grown ∙ map-append node_view a (x ∷ []) ∙ ap (λ v. map node_view a ++ v ∷ []) is;
}

-- a node in the place that was held for it, and what was added behind
pub placed : (a b c d : List Node) (p x : Node) (s : Spot) (n : ℕ) (xs : List Spot) → b ≡ a ++ p ∷ [] → n ≡ length a → Adds b c xs → d ≡ set c n x → node_view x ≡ view_for n s → Adds a d (s ∷ xs)
placed a b c d p x s n xs held at h put is =
    let front : map node_view b ≡ map node_view a ++ node_view p ∷ [] = ap (map node_view) held ∙ map-append node_view a (p ∷ []) in
    let all : map node_view c ≡ map node_view a ++ node_view p ∷ views_for (length b) xs =
    h.views ∙ ap (λ l. l ++ views_for (length b) xs) front ∙ append_assoc (map node_view a) (node_view p ∷ []) (views_for (length b) xs) in
    let count : length b ≡ suc (length a) = ap length held ∙ length-append a (p ∷ []) ∙ plus_one (length a) in
    record {
      views =
          ap (map node_view) put
          ∙ map-set node_view c n x
          ∙ ap (λ l. set l n (node_view x)) all
          ∙ set_at (map node_view a) (node_view p) (views_for (length b) xs) (node_view x) n (length-map a node_view ∙ sym at)
          ∙ ap (λ m. map node_view a ++ node_view x ∷ views_for m xs) count
          ∙ ap (λ v. map node_view a ++ v ∷ views_for (suc (length a)) xs) (is ∙ ap (λ m. view_for m s) at);
    }
  where
    plus_one : (m : ℕ) → m + 1 ≡ suc m
    plus_one m = omega arith

-- a place was held at the end
pub held_next : (a b : List Node) (p : Node) (n : ℕ) → n ≡ length a → b ≡ a ++ p ∷ [] → suc n ≡ length b
held_next a b p n at held = ap suc at ∙ (let e : suc (length a) ≡ length a + 1 = omega arith in e) ∙ sym (ap length held ∙ length-append a (p ∷ []))

pub ok_then : {T E : Type 0} (P Q : T → Type 0) (r : Result T E) → IfOk r P → ((x : T) → P x → Q x) → IfOk r Q
ok_then P Q (Ok x) h f = f x h
ok_then P Q (Err e) h f = tt
