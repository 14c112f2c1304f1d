-- The items of a list, each of which adds its nodes.
--     Lays       what the nodes of a list are, and their numbers
--     Going      how far it has come
use Rattle.std.proofs.Common.{◌≡◌, ℕ, ◌+◌, ◌<◌, ◌≤◌, List, [], ◌∷◌, ◌++◌, length, drop, get_or, refl, sym, ap, ◌∙◌, append_assoc}
use Rattle.std.proofs.lemmas.List.{append-nil, drop_all, drop_more}
use Rattle.wf_table.proofs.Adding.{longer, nothing, of_these, then}
use Rattle.wf_table.specs.Made.{Adds}
use Rattle.wf_model.specs.Spots.{Spot}
use Rattle.wf_model.specs.declared.node.Node.{Node}

pub record Lays {X : Type 0} (parts : List X → ℕ → List Spot) (numbers : List X → ℕ → List ℕ) (own : X → ℕ → List Spot) : Type 0 where
  pub no_parts : (n : ℕ) → parts [] n ≡ []
  pub no_numbers : (n : ℕ) → numbers [] n ≡ []
  pub more_parts : (x : X) (xs : List X) (n : ℕ) → parts (x ∷ xs) n ≡ own x n ++ parts xs (n + length (own x n))
  pub more_numbers : (x : X) (xs : List X) (n : ℕ) → numbers (x ∷ xs) n ≡ n ∷ numbers xs (n + length (own x n))

pub record Going {X : Type 0} (parts : List X → ℕ → List Spot) (numbers : List X → ℕ → List ℕ) (a b : List Node) (all left : List X) (found : List ℕ) : Type 0 where
  pub done : List Spot
  pub adds : Adds a b done
  pub rest : done ++ parts left (length b) ≡ parts all (length a)
  pub counted : found ++ numbers left (length b) ≡ numbers all (length a)

pub begins : {X : Type 0} (parts : List X → ℕ → List Spot) (numbers : List X → ℕ → List ℕ) (a : List Node) (all : List X) (found : List ℕ) → found ≡ [] → Going parts numbers a a all all found
begins parts numbers a all found none = record { done = []; adds = nothing a; rest = refl; counted = ap (λ l. l ++ numbers all (length a)) none }

pub goes : {X : Type 0} (parts : List X → ℕ → List Spot) (numbers : List X → ℕ → List ℕ) (own : X → ℕ → List Spot) → Lays parts numbers own → (a b c : List Node) (all : List X) (i : ℕ) (x : X) (found more : List ℕ) (n : ℕ)
    → i < length all → x ≡ get_or all i x → n ≡ length b → more ≡ found ++ n ∷ [] → Adds b c (own x (length b)) → Going parts numbers a b all (drop i all) found → Going parts numbers a c all (drop (i + 1) all) more
goes parts numbers own lays a b c all i x found more n within is at grown added h =
    let next : drop i all ≡ x ∷ drop (i + 1) all = drop_more all i x within ∙ ap (λ y. y ∷ drop (i + 1) all) (sym is) in
    let count : length c ≡ length b + length (own x (length b)) = longer b c (own x (length b)) added in
    record {
      done = h.done ++ own x (length b);
      adds = then a b c h.done (own x (length b)) h.adds added;
      rest =
          append_assoc h.done (own x (length b)) (parts (drop (i + 1) all) (length c))
          ∙ ap (λ m. h.done ++ (own x (length b) ++ parts (drop (i + 1) all) m)) count
          ∙ ap (λ l. h.done ++ l) (sym (lays.more_parts x (drop (i + 1) all) (length b)) ∙ ap (λ l. parts l (length b)) (sym next))
          ∙ h.rest;
      counted =
          ap (λ l. l ++ numbers (drop (i + 1) all) (length c)) grown
          ∙ append_assoc found (n ∷ []) (numbers (drop (i + 1) all) (length c))
          ∙ ap (λ m. found ++ m ∷ numbers (drop (i + 1) all) (length c)) at
          ∙ ap (λ m. found ++ length b ∷ numbers (drop (i + 1) all) m) count
          ∙ ap (λ l. found ++ l) (sym (lays.more_numbers x (drop (i + 1) all) (length b)) ∙ ap (λ l. numbers l (length b)) (sym next))
          ∙ h.counted;
    }

pub adds_all : {X : Type 0} (parts : List X → ℕ → List Spot) (numbers : List X → ℕ → List ℕ) (own : X → ℕ → List Spot) → Lays parts numbers own → (a b : List Node) (all : List X) (i : ℕ) (found : List ℕ)
    → length all ≤ i → Going parts numbers a b all (drop i all) found → Adds a b (parts all (length a))
adds_all parts numbers own lays a b all i found past h =
    let done : h.done ≡ parts all (length a) =
    sym (append-nil h.done) ∙ ap (λ l. h.done ++ l) (sym (lays.no_parts (length b)) ∙ ap (λ l. parts l (length b)) (sym (drop_all i all past))) ∙ h.rest in
    of_these a b h.done (parts all (length a)) done h.adds

pub all_numbers : {X : Type 0} (parts : List X → ℕ → List Spot) (numbers : List X → ℕ → List ℕ) (own : X → ℕ → List Spot) → Lays parts numbers own → (a b : List Node) (all : List X) (i : ℕ) (found : List ℕ)
    → length all ≤ i → Going parts numbers a b all (drop i all) found → found ≡ numbers all (length a)
all_numbers parts numbers own lays a b all i found past h =
    sym (append-nil found) ∙ ap (λ l. found ++ l) (sym (lays.no_numbers (length b)) ∙ ap (λ l. numbers l (length b)) (sym (drop_all i all past))) ∙ h.counted
