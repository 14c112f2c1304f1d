-- Tables of hints, and what a change leaves of them.
use Rattle.std.proofs.Common.{◌<◌, ℕ, List, [], ◌∷◌, Ordering, Less, Equal, Greater}
use Rattle.std.specs.Prelude.{slice_index}
use Rattle.std.specs.Ordering.{match_ordering}
use Rattle.wf_value.specs.Maps.{key_cmp, with_value}
use Rattle.wf_value.specs.Pairs.{Text}
use Rattle.wf_scope.specs.Firsts.{Covers, class_of}

module _ {X : Type 0} (old new : List ℕ) (others : (i : ℕ) → 0 < slice_index old i → 0 < slice_index new i) where
  pub cover_more : (vs : List (Text × X)) → Covers old vs → Covers new vs
  cover_more [] cover = tt
  cover_more (p ∷ vs) cover = (others (class_of p.0) cover.0, cover_more vs cover.1)

  -- a name more
  pub cover_put : (x : Text) (v : X) → 0 < slice_index new (class_of x) → (vs : List (Text × X)) → Covers old vs → Covers new (with_value x v vs)
  cover_put x v there [] cover = (there, tt)
  cover_put x v there (p ∷ vs) cover = by (key_cmp x p.0) (cover_put x v there vs cover.1)
    where
      by : (r : Ordering) → Covers new (with_value x v vs) → Covers new (match_ordering r ((x, v) ∷ p ∷ vs) ((p.0, v) ∷ vs) (p ∷ with_value x v vs))
      by Less later = (there, cover_more (p ∷ vs) cover)
      by Equal later = (others (class_of p.0) cover.0, cover_more vs cover.1)
      by Greater later = (others (class_of p.0) cover.0, later)
