-- Lists of what is sent.
use Rattle.std.specs.Prelude.{◌≡◌, ◌+◌, ◌<◌, ℕ, zero, suc, Bool, true, false, if◌then◌else◌, List, [], ◌∷◌, ◌++◌}
use Rattle.std.proofs.Common.{refl, ◌∙◌, ap, subst, arith}
use Rattle.std.proofs.lemmas.List.{append-nil}
use Rattle.wf_deeds.specs.Clauses.{IsSending, none, start, drop, those}
use Rattle.wf_deeds.specs.Deeds.{polls}
use Rattle.wf_host.specs.Printing.{printed}
use Rattle.wf_host.specs.declared.data.Deed.{Deed}

-- ## Numbers of calls
either_append : (b : Bool) (x : ℕ) (xs ys zs : List ℕ) → xs ≡ ys ++ zs → (if b then x ∷ xs else xs) ≡ (if b then x ∷ ys else ys) ++ zs
either_append true x xs ys zs is = ap (λ l. x ∷ l) is
either_append false x xs ys zs is = is

those_more : (test : ℕ → Bool) (from n : ℕ) → those test from (suc n) ≡ those test from n ++ those test (from + n) 1
those_more test from zero = let e : from ≡ from + 0 = omega arith in ap (λ k. those test k 1) e
those_more test from (suc n) =
    let e : suc from + n ≡ from + suc n = omega arith in
    either_append (test from) from (those test (suc from) (suc n)) (those test (suc from) n) (those test (from + suc n) 1)
    (those_more test (suc from) n ∙ ap (λ k. those test (suc from) n ++ those test k 1) e)

-- one call more
pub those_on : (test : ℕ → Bool) (i : ℕ) → those test 1 (i + 1) ≡ those test 1 i ++ those test (i + 1) 1
those_on test i =
    let e : i + 1 ≡ suc i = omega arith in
    let f : 1 + i ≡ i + 1 = omega arith in
    ap (λ n. those test 1 n) e ∙ those_more test 1 i ∙ ap (λ k. those test 1 i ++ those test k 1) f

pub those_same : (test more : ℕ → Bool) (from n : ℕ) → ((k : ℕ) → test k ≡ more k) → those test from n ≡ those more from n
those_same test more from zero same = refl
those_same test more from (suc n) same =
    ap (λ b. if b then from ∷ those test (suc from) n else those test (suc from) n) (same from)
    ∙ ap (λ l. if more from then from ∷ l else l) (those_same test more (suc from) n same)

-- where none of them is one
pub those_none : (test : ℕ → Bool) (from n : ℕ) → ((k : ℕ) → k < from + n → test k ≡ false) → those test from n ≡ []
those_none test from zero off = refl
those_none test from (suc n) off =
    ap (λ b. if b then from ∷ those test (suc from) n else those test (suc from) n) (off from (omega arith))
    ∙ those_none test (suc from) n (λ k lt. off k (omega (arith, lt)))

-- of one call
pub this_same : (test more : ℕ → Bool) (k : ℕ) → test k ≡ more k → those test k 1 ≡ those more k 1
this_same test more k same = ap (λ b. if b then k ∷ [] else []) same

pub not_this : (test : ℕ → Bool) (k : ℕ) → test k ≡ false → those test k 1 ≡ []
not_this test k is = ap (λ b. if b then k ∷ [] else []) is

pub just_this : (test : ℕ → Bool) (k : ℕ) → test k ≡ true → those test k 1 ≡ k ∷ []
just_this test k is = ap (λ b. if b then k ∷ [] else []) is

-- ## Deeds
pub silent_sending : {js ks : List ℕ} {ds : List Deed} → IsSending js ks ds → printed ds ≡ []
silent_sending none = refl
silent_sending (start k to bytes more) = silent_sending more
silent_sending (drop j more) = silent_sending more

-- and it is no poll
pub sending_polls : {js ks : List ℕ} {ds : List Deed} → IsSending js ks ds → polls ds ≡ 0
sending_polls none = refl
sending_polls (start k to bytes more) = sending_polls more
sending_polls (drop j more) = sending_polls more

-- drops, and then what comes behind them
pub drops_then : {js ls ks : List ℕ} {ds es : List Deed} → IsSending js [] ds → IsSending ls ks es → IsSending (js ++ ls) ks (ds ++ es)
drops_then none more = more
drops_then (drop j first) more = drop j (drops_then first more)

pub starts_then : {ks ms : List ℕ} {ds es : List Deed} → IsSending [] ks ds → IsSending [] ms es → IsSending [] (ks ++ ms) (ds ++ es)
starts_then none more = more
starts_then (start k to bytes first) more = start k to bytes (starts_then first more)

pub drops_starts : {js ks : List ℕ} {ds es : List Deed} → IsSending js [] ds → IsSending [] ks es → IsSending js ks (ds ++ es)
drops_starts {js} {ks} {ds} {es} first more = subst (λ l. IsSending l ks (ds ++ es)) (append-nil js) (drops_then first more)
