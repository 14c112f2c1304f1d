-- Endpoint n stands at place n - 1 of the list.
use Rattle.std.proofs.Common.{◌≡◌, ℕ, zero, suc, ◌<◌, ◌≤◌, ◌-◌, List, [], ◌∷◌, ◌++◌, length, drop, slice_set, slice_index_or, Some, None, refl, sym, ap, ◌∙◌, arith}
use Rattle.std.proofs.lemmas.List.{set-get_or}
use Rattle.std.proofs.lemmas.Option.{slice_get_read, slice_get_past, get_or_from_slice_get}
use Rattle.std.specs.List.{slice_get}
use Rattle.wf_callbacks.specs.Turns.{joined, shortened, taken}
use Rattle.wf_value.specs.Events.{Visitor}
use Rattle.wf_value.specs.Queues.{Endpoint, endpoint_at, with_queue, arrived, queue_of}

-- a new queue is put at the endpoint's place
queue_put : (es : List Endpoint) (i : ℕ) (e : Endpoint) (vs : List Visitor) → slice_get es i ≡ Some e → with_queue (suc i) vs es ≡ slice_set es i (record e { queue = vs })
queue_put [] i e vs h = cc
queue_put (x ∷ xs) zero e vs h = let put : Endpoint → List Endpoint = λ d. record d { queue = vs } ∷ xs in let same : x ≡ e = cc in ap put same
queue_put (x ∷ xs) (suc i) e vs h = ap (λ es. x ∷ es) (queue_put xs i e vs h)

-- where there is no endpoint nothing is put
pub nothing_put : (es : List Endpoint) (n : ℕ) (vs : List Visitor) → endpoint_at es n ≡ None → with_queue n vs es ≡ es
nothing_put [] n vs h = refl
nothing_put (x ∷ xs) zero vs h = refl
nothing_put (x ∷ xs) (suc zero) vs h = cc
nothing_put (x ∷ xs) (suc (suc n)) vs h = ap (λ es. x ∷ es) (nothing_put xs (suc n) vs h)

same_put : (es : List Endpoint) (i : ℕ) (e : Endpoint) → slice_get es i ≡ Some e → slice_set es i e ≡ es
same_put es i e h = ap (slice_set es i) (sym (get_or_from_slice_get es i e e h)) ∙ set-get_or es i e

joined_put : (es : List Endpoint) (i : ℕ) (e : Endpoint) (v : Visitor) → slice_get es i ≡ Some e → slice_set es i (joined e v) ≡ arrived es (suc i) v
joined_put es i e v h = rw (h, arrived) (sym (queue_put es i e (e.queue ++ v ∷ []) h))

queue_is : (es : List Endpoint) (n : ℕ) (e : Endpoint) → endpoint_at es n ≡ Some e → queue_of es n ≡ e.queue
queue_is es n e h = rw (h, queue_of) refl

taken_put : (es : List Endpoint) (i : ℕ) (e : Endpoint) → slice_get es i ≡ Some e → slice_set es i (shortened e) ≡ taken es (suc i)
taken_put es i e h =
    let left : List Visitor → List Endpoint = λ vs. with_queue (suc i) (drop 1 vs) es in
    sym (queue_put es i e (drop 1 e.queue) h) ∙ ap left (sym (queue_is es (suc i) e h))

-- the endpoint that stands at a place
pub stands : (xs es : List Endpoint) (n i : ℕ) (e : Endpoint) → xs ≡ es → i < length xs → 0 < n → i ≡ n - 1 → e ≡ slice_index_or xs i e → endpoint_at es n ≡ Some e
stands xs es zero i e same within low place read = absurd (omega arith)
stands xs es (suc n) i e same within low place read =
    let here : n ≡ i = omega arith in
    rw (← same, here) (slice_get_read xs (length xs) i e refl within read)

-- no endpoint stands past the places
pub absent : (xs es : List Endpoint) (n : ℕ) → xs ≡ es → ((0 < n) × (n ≤ length xs) → ⊥) → endpoint_at es n ≡ None
absent xs es zero same past = refl
absent xs es (suc n) same past =
    let outside : n < length xs → ⊥ = λ within. past (omega arith, omega arith) in
    rw (← same) (slice_get_past xs n (omega arith))

-- what is left where a request joined
pub joined_place : (xs es : List Endpoint) (n i : ℕ) (e f : Endpoint) (v : Visitor) → xs ≡ es → 0 < n → i ≡ n - 1 → endpoint_at es n ≡ Some e → f ≡ joined e v → slice_set xs i f ≡ arrived es n v
joined_place xs es zero i e f v same low place h after = absurd (omega arith)
joined_place xs es (suc n) i e f v same low place h after =
    let here : i ≡ n = omega arith in
    rw (same, after, here) (joined_put es n e v h)

-- where none did
pub same_place : (xs es : List Endpoint) (n i : ℕ) (e f : Endpoint) → xs ≡ es → 0 < n → i ≡ n - 1 → endpoint_at es n ≡ Some e → f ≡ e → slice_set xs i f ≡ es
same_place xs es zero i e f same low place h after = absurd (omega arith)
same_place xs es (suc n) i e f same low place h after =
    let here : i ≡ n = omega arith in
    rw (same, after, here) (same_put es n e h)

-- and where the oldest one left
pub taken_place : (xs es : List Endpoint) (n i : ℕ) (e f : Endpoint) → xs ≡ es → 0 < n → i ≡ n - 1 → endpoint_at es n ≡ Some e → f ≡ shortened e → slice_set xs i f ≡ taken es n
taken_place xs es zero i e f same low place h after = absurd (omega arith)
taken_place xs es (suc n) i e f same low place h after =
    let here : i ≡ n = omega arith in
    rw (same, after, here) (taken_put es n e h)
