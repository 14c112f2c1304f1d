-- A map read pair by pair.
use Rattle.std.proofs.Common.{◌≡◌, ℕ, suc, ◌≤◌, List, [], ◌∷◌, ◌++◌, length, drop, Some, None, refl, sym, ap, ◌∙◌, slice_get, append_assoc, append-nil, subst, pos, Ok, Result, arith}
use Rattle.std.proofs.lemmas.Option.{slice_get_within}
use Rattle.wf_lemmas.proofs.Lists.{read_at, read_past}
use Rattle.wf_ast.specs.Apply.{key_texts, count}
use Rattle.wf_value.specs.Data.{Data, integer, text, list, items_of, pairs_of}
use Rattle.wf_value.specs.Errors.{Answer}
use Rattle.wf_value.specs.Pairs.{items, keys}
use Rattle.wf_value.specs.Plain.{plain, plain_items}
use Rattle.wf_value.specs.declared.errors.Raise.{Raise}
use Rattle.wf_value.specs.declared.value.Value.{Value}
use Rattle.wf_value.specs.declared.value.Value.TheVariants as value
use Rattle.wf_eval.specs.Answers.{Gives}

-- the keys of a list of pairs
abbrev pub left_keys : List (List ℕ × Data) → List Data
left_keys ps = key_texts (keys (pairs_of ps))

key_more : (ps : List (List ℕ × Data)) (i : ℕ) (k : List ℕ) (d : Data) (l : List Data) → Some (k, d) ≡ slice_get ps i → l ++ left_keys (drop i ps) ≡ left_keys ps → (l ++ text k ∷ []) ++ left_keys (drop (suc i) ps) ≡ left_keys ps
key_more ps i k d l at h = append_assoc l (text k ∷ []) (left_keys (drop (suc i) ps)) ∙ ap (λ qs. l ++ left_keys qs) (sym (read_at ps i (k, d) at)) ∙ h

pub key_step : (ps : List (List ℕ × Data)) (i j : ℕ) (k : List ℕ) (d x : Data) (l more : List Data) → Some (k, d) ≡ slice_get ps i → more ≡ l ++ x ∷ [] → x ≡ text k → j ≡ suc i → l ++ left_keys (drop i ps) ≡ left_keys ps → more ++ left_keys (drop j ps) ≡ left_keys ps
key_step ps i j k d x l more at m e n h =
    ap (λ y. y ++ left_keys (drop j ps)) (m ∙ ap (λ y. l ++ y ∷ []) e) ∙ ap (λ y. (l ++ text k ∷ []) ++ left_keys (drop y ps)) n ∙ key_more ps i k d l at h

pub further : {X : Type 0} (xs : List X) (i j : ℕ) (x : X) → Some x ≡ slice_get xs i → j ≡ suc i → j ≤ length xs
further xs i j x at n = omega (arith, slice_get_within xs i x (sym at), n)

pub keys_done : (ps : List (List ℕ × Data)) (i : ℕ) (l : List Data) → None ≡ slice_get ps i → l ++ left_keys (drop i ps) ≡ left_keys ps → l ≡ left_keys ps
keys_done ps i l at h = sym (append-nil l) ∙ ap (λ qs. l ++ left_keys qs) (sym (read_past ps i at)) ∙ h

pub keys_long : (ps : List (List ℕ × Data)) → length (keys (pairs_of ps)) ≡ length ps
keys_long [] = refl
keys_long (p ∷ ps) = ap suc (keys_long ps)

pub items_long : (vs : List Value) → length (items (items_of (plain_items vs))) ≡ length vs
items_long [] = refl
items_long (v ∷ vs) = ap suc (items_long vs)

-- ## `len`
pub list_counted : (r : Result Value Raise) (v : Value) (ds : List Data) (xs : List Value) → v ≡ value.List ds → plain_items xs ≡ ds → Gives r (Ok (integer (pos (length xs)))) → Gives r (count (plain v))
list_counted r v ds xs is seen h =
    subst (λ (d : Answer Data). Gives r d) (ap (λ n. Ok (integer (pos n))) (sym (items_long xs)) ∙ ap (λ l. count (list (items_of l))) seen ∙ ap (λ w. count (plain w)) (sym is)) h

pub map_counted : (r : Result Value Raise) (v : Value) (ps : List (List ℕ × Data)) (n : ℕ) → v ≡ value.Map ps → n ≡ length ps → Gives r (Ok (integer (pos n))) → Gives r (count (plain v))
map_counted r v ps n is long h =
    subst (λ (d : Answer Data). Gives r d) (ap (λ k. Ok (integer (pos k))) (long ∙ sym (keys_long ps)) ∙ ap (λ w. count (plain w)) (sym is)) h
