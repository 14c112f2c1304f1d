-- What was told of a call and of visits, with more deeds.
use Rattle.std.specs.Prelude.{◌≡◌, ◌||◌, ℕ, Bool, true, false, nat_eq, if◌then◌else◌, List, [], ◌∷◌, ◌++◌}
use Rattle.std.proofs.Common.{refl, ◌∙◌, ap, arith}
use Rattle.wf_deeds.proofs.Lists.{IsNoPoll}
use Rattle.wf_deeds.specs.Deeds.{polls, before_poll, was_started, Told, nothing_told, tells, told_on, told_of, Visit, hears_visit, visits_on, visits_after}
use Rattle.wf_host.specs.World.{visit_of}
use Rattle.wf_deeds.specs.Outside.{Outside}
use Rattle.wf_host.specs.declared.data.Deed.{Deed}
use Rattle.wf_host.specs.declared.data.Deed.TheVariants.{Start, Poll, Now, Reply, Drop, Print}

told_on-append : (k : ℕ) (t : Told) (ds es : List Deed) → told_on k t (ds ++ es) ≡ told_on k (told_on k t ds) es
told_on-append k t [] es = refl
told_on-append k t (Poll until h ∷ ds) es = told_on-append k (tells k h.what t) ds es
told_on-append k t (Start j to b ∷ ds) es = told_on-append k t ds es
told_on-append k t (Now u ∷ ds) es = told_on-append k t ds es
told_on-append k t (Reply n b ∷ ds) es = told_on-append k t ds es
told_on-append k t (Drop j ∷ ds) es = told_on-append k t ds es
told_on-append k t (Print b ∷ ds) es = told_on-append k t ds es

or_false : (a b : Bool) → a || b ≡ false → (a ≡ false) × (b ≡ false)
or_false true b is = absurd (let f : true ≡ false = is in cc f)
or_false false b is = (refl, is)

-- of a call that was started it goes on
pub told_of_started : (k : ℕ) (ds es : List Deed) → was_started k ds ≡ true → told_of k (ds ++ es) ≡ told_on k (told_of k ds) es
told_of_started k [] es was = absurd (let f : false ≡ true = was in cc f)
told_of_started k (Start j to b ∷ ds) es was =
    (elim (nat_eq j k) as (λ v. (v || was_started k ds ≡ true) → (if v then told_on k nothing_told (ds ++ es) else told_of k (ds ++ es)) ≡ told_on k (if v then told_on k nothing_told ds else told_of k ds) es) [
      | true ↦ λ _. told_on-append k nothing_told ds es
      | false ↦ λ later. told_of_started k ds es later
    ]) was
told_of_started k (Poll until h ∷ ds) es was = told_of_started k ds es was
told_of_started k (Now u ∷ ds) es was = told_of_started k ds es was
told_of_started k (Reply n b ∷ ds) es was = told_of_started k ds es was
told_of_started k (Drop j ∷ ds) es was = told_of_started k ds es was
told_of_started k (Print b ∷ ds) es was = told_of_started k ds es was

-- of another one it begins behind these deeds
pub told_of_new : (k : ℕ) (ds es : List Deed) → was_started k ds ≡ false → told_of k (ds ++ es) ≡ told_of k es
told_of_new k [] es was = refl
told_of_new k (Start j to b ∷ ds) es was =
    let (this, later) = or_false (nat_eq j k) (was_started k ds) was in
    ap (λ v. if v then told_on k nothing_told (ds ++ es) else told_of k (ds ++ es)) this ∙ told_of_new k ds es later
told_of_new k (Poll until h ∷ ds) es was = told_of_new k ds es was
told_of_new k (Now u ∷ ds) es was = told_of_new k ds es was
told_of_new k (Reply n b ∷ ds) es was = told_of_new k ds es was
told_of_new k (Drop j ∷ ds) es was = told_of_new k ds es was
told_of_new k (Print b ∷ ds) es was = told_of_new k ds es was

nothing_more : (k : ℕ) (t : Told) (d : Deed) → IsNoPoll d → told_on k t (d ∷ []) ≡ t
nothing_more k t (Poll until h) plain = absurd plain
nothing_more k t (Start j to b) plain = refl
nothing_more k t (Now u) plain = refl
nothing_more k t (Reply n b) plain = refl
nothing_more k t (Drop j) plain = refl
nothing_more k t (Print b) plain = refl

pub told_of_stays : (k : ℕ) (ds : List Deed) (d : Deed) → IsNoPoll d → was_started k ds ≡ true → told_of k (ds ++ d ∷ []) ≡ told_of k ds
told_of_stays k ds d plain was = told_of_started k ds (d ∷ []) was ∙ nothing_more k (told_of k ds) d plain

-- ## Visits
module _ (O : Outside) where
  pub visits_on-append : (vs : List Visit) (ds es : List Deed) → visits_on O vs (ds ++ es) ≡ visits_on O (visits_on O vs ds) es
  visits_on-append vs [] es = refl
  visits_on-append vs (Poll until h ∷ ds) es = visits_on-append (hears_visit O vs h.what (visit_of h.what)) ds es
  visits_on-append vs (Start j to b ∷ ds) es = visits_on-append vs ds es
  visits_on-append vs (Now u ∷ ds) es = visits_on-append vs ds es
  visits_on-append vs (Reply n b ∷ ds) es = visits_on-append vs ds es
  visits_on-append vs (Drop j ∷ ds) es = visits_on-append vs ds es
  visits_on-append vs (Print b ∷ ds) es = visits_on-append vs ds es

  no_more_visits : (vs : List Visit) (d : Deed) → IsNoPoll d → visits_on O vs (d ∷ []) ≡ vs
  no_more_visits vs (Poll until h) plain = absurd plain
  no_more_visits vs (Start j to b) plain = refl
  no_more_visits vs (Now u) plain = refl
  no_more_visits vs (Reply n b) plain = refl
  no_more_visits vs (Drop j) plain = refl
  no_more_visits vs (Print b) plain = refl

  pub visits_stay : (ds : List Deed) (d : Deed) → IsNoPoll d → visits_after O (ds ++ d ∷ []) ≡ visits_after O ds
  visits_stay ds d plain = visits_on-append [] ds (d ∷ []) ∙ no_more_visits (visits_after O ds) d plain

-- ## Polls
pub no_polls : (d : Deed) → IsNoPoll d → polls (d ∷ []) ≡ 0
no_polls (Poll until h) plain = absurd plain
no_polls (Start j to b) plain = refl
no_polls (Now u) plain = refl
no_polls (Reply n b) plain = refl
no_polls (Drop j) plain = refl
no_polls (Print b) plain = refl

pub all_before_poll : (ds : List Deed) → polls ds ≡ 0 → before_poll ds ≡ ds
all_before_poll [] none = refl
all_before_poll (Poll until h ∷ ds) none = absurd (omega (arith, none))
all_before_poll (Start j to b ∷ ds) none = ap (λ l. Start j to b ∷ l) (all_before_poll ds none)
all_before_poll (Now u ∷ ds) none = ap (λ l. Now u ∷ l) (all_before_poll ds none)
all_before_poll (Reply n b ∷ ds) none = ap (λ l. Reply n b ∷ l) (all_before_poll ds none)
all_before_poll (Drop j ∷ ds) none = ap (λ l. Drop j ∷ l) (all_before_poll ds none)
all_before_poll (Print b ∷ ds) none = ap (λ l. Print b ∷ l) (all_before_poll ds none)
