-- Something compiled after another.
use Rattle.std.proofs.Common.{◌≡◌, ℕ, ◌+◌, ◌<◌, ◌≤◌, List, [], ◌∷◌, ◌++◌, length, map, take, get_or, Some, slice_get, refl, sym, ap, ◌∙◌, append_assoc}
use Rattle.std.proofs.lemmas.List.{append-nil, length-map, map-append, map_more, take_all, take_at}
use Rattle.wf_ast.specs.Tree as t
use Rattle.wf_model.proofs.Decoding.{decoded_code}
use Rattle.wf_model.specs.Compiles.{Compiles, Reads}
use Rattle.wf_model.specs.Decoded.{decode}
use Rattle.wf_model.specs.Shapes.{AddsCode, Compiled, decoded, expr_of, hole_by}

at_end : {X : Type 0} (xs : List X) (y : X) (ys : List X) → slice_get (xs ++ y ∷ ys) (length xs) ≡ Some y
at_end [] y ys = refl
at_end (x ∷ xs) y ys = at_end xs y ys

-- an expression at the place behind the others
pub hole : (old new : Compiled) (e : t.Expr) (n : ℕ) → n ≡ length old → AddsCode old new e → Compiles old new (λ cs. hole_by cs n) e
hole old new e n is h = record {
  made = h.0 ∷ [];
  grown = h.1;
  means = λ later.
      ap (λ cs. hole_by (cs ++ later) n) h.1
      ∙ ap (λ cs. hole_by cs n) (append_assoc old (h.0 ∷ []) later)
      ∙ ap (hole_by (old ++ h.0 ∷ later)) is
      ∙ ap expr_of (at_end old h.0 later)
      ∙ ap decode h.2
      ∙ decoded_code e;
}

-- what needs no code
pub plainly : {T : Type 0} (cs : Compiled) (f : Compiled → T) (x : T) → ((later : Compiled) → f later ≡ x) → Compiles cs cs f x
plainly cs f x h = record { made = []; grown = sym (append-nil cs); means = λ later. h (cs ++ later) }

-- what is made of it
pub then : {T S : Type 0} (g : T → S) (a b : Compiled) (f : Compiled → T) (x : T) → Compiles a b f x → Compiles a b (λ cs. g (f cs)) (g x)
then g a b f x h = record { made = h.made; grown = h.grown; means = λ later. ap g (h.means later) }

-- what is made of two
pub both : {T S R : Type 0} (g : T → S → R) (a b c : Compiled) (f : Compiled → T) (h : Compiled → S) (x : T) (y : S) → Compiles a b f x → Compiles b c h y
    → Compiles a c (λ cs. g (f cs) (h cs)) (g x y)
both g a b c f h x y p q = record {
  made = p.made ++ q.made;
  grown = q.grown ∙ ap (λ cs. cs ++ q.made) p.grown ∙ append_assoc a p.made q.made;
  means = λ later.
      ap (λ cs. g (f cs) (h (c ++ later))) (ap (λ cs. cs ++ later) q.grown ∙ append_assoc b q.made later)
      ∙ ap (λ u. g u (h (c ++ later))) (p.means (q.made ++ later))
      ∙ ap (g x) (q.means later);
}

-- the same in other words
pub alike : {T : Type 0} (a b : Compiled) (f g : Compiled → T) (x y : T) → ((cs : Compiled) → g cs ≡ f cs) → x ≡ y → Compiles a b f x → Compiles a b g y
alike a b f g x y same is h = record { made = h.made; grown = h.grown; means = λ later. same (b ++ later) ∙ h.means later ∙ is }

-- with all codes that there are
pub in_all : {T : Type 0} (a b : Compiled) (f : Compiled → T) (x : T) → Compiles a b f x → f b ≡ x
in_all a b f x h = ap f (sym (append-nil b)) ∙ h.means []

-- one more of a list
pub one_more : {X Y : Type 0} (f : Compiled → X → Y) (xs : List X) (x : X) (ys : List Y) (y : Y) (a b c : Compiled) → Compiles a b (λ cs. map (f cs) xs) ys → Compiles b c (λ cs. f cs x) y
    → Compiles a c (λ cs. map (f cs) (xs ++ x ∷ [])) (ys ++ y ∷ [])
one_more f xs x ys y a b c p q =
    alike a c (λ cs. map (f cs) xs ++ f cs x ∷ []) (λ cs. map (f cs) (xs ++ x ∷ [])) (ys ++ y ∷ []) (ys ++ y ∷ []) (λ cs. map-append (f cs) xs (x ∷ [])) refl
    (both (λ us u. us ++ u ∷ []) a b c (λ cs. map (f cs) xs) (λ cs. f cs x) ys y p q)

-- the next of a list
pub turn : {A X Y : Type 0} (view : A → Y) (f : Compiled → X → Y) (items : List A) (i : ℕ) (item : A) (xs more : List X) (x : X) (a b c : Compiled) → i < length items → item ≡ get_or items i item → more ≡ xs ++ x ∷ []
    → Compiles a b (λ cs. map (f cs) xs) (map view (take i items)) → Compiles b c (λ cs. f cs x) (view item) → Compiles a c (λ cs. map (f cs) more) (map view (take (i + 1) items))
turn view f items i item xs more x a b c within is grown p q =
    alike a c (λ cs. map (f cs) (xs ++ x ∷ [])) (λ cs. map (f cs) more) (map view (take i items) ++ view item ∷ []) (map view (take (i + 1) items)) (λ cs. ap (map (f cs)) grown)
    (ap (λ y. map view (take i items) ++ view y ∷ []) is ∙ sym (map_more view items i item within))
    (one_more f xs x (map view (take i items)) (view item) a b c p q)

-- all of a list
pub whole : {A Y : Type 0} (view : A → Y) (items : List A) (i : ℕ) (a b : Compiled) (f : Compiled → List Y) → length items ≤ i → Compiles a b f (map view (take i items)) → Compiles a b f (map view items)
whole view items i a b f past h = alike a b f f (map view (take i items)) (map view items) (λ cs. refl) (ap (map view) (take_all i items past)) h

-- ## Codes alone
pub reads_none : (cs : Compiled) → Reads cs cs []
reads_none cs = record { made = []; grown = sym (append-nil cs); are = refl }

pub reads_turn : {A : Type 0} (view : A → t.Expr) (items : List A) (i : ℕ) (item : A) (a b c : Compiled) → i < length items → item ≡ get_or items i item → Reads a b (map view (take i items)) → AddsCode b c (view item)
    → Reads a c (map view (take (i + 1) items))
reads_turn view items i item a b c within is h k = record {
  made = h.made ++ k.0 ∷ [];
  grown = k.1 ∙ ap (λ l. l ++ k.0 ∷ []) h.grown ∙ append_assoc a h.made (k.0 ∷ []);
  are =
      map-append decoded h.made (k.0 ∷ [])
      ∙ ap (λ l. l ++ decoded k.0 ∷ []) h.are
      ∙ ap (λ e. map view (take i items) ++ e ∷ []) (ap decode k.2 ∙ decoded_code (view item) ∙ ap view is)
      ∙ sym (map_more view items i item within);
}

pub reads_whole : {A : Type 0} (view : A → t.Expr) (items : List A) (i : ℕ) (a b : Compiled) → length items ≤ i → Reads a b (map view (take i items)) → Reads a b (map view items)
reads_whole view items i a b past h = record { made = h.made; grown = h.grown; are = h.are ∙ ap (map view) (take_all i items past) }

-- the first codes of all
pub reads_first : (a b : Compiled) (xs : List t.Expr) (n : ℕ) → a ≡ [] → n ≡ length xs → Reads a b xs → Compiles a b (λ cs. map decoded (take n cs)) xs
reads_first a b xs n empty count h =
    let long : length h.made ≡ n = sym (length-map h.made decoded) ∙ ap length h.are ∙ sym count in
    record {
      made = h.made;
      grown = h.grown;
      means = λ later. ap (λ cs. map decoded (take n (cs ++ later))) (h.grown ∙ ap (λ o. o ++ h.made) empty) ∙ ap (map decoded) (take_at h.made later n long) ∙ h.are;
    }
