-- The values of a map as texts, pair by pair.
use Rattle.std.proofs.Common.{◌≡◌, suc, ◌<◌, ◌-◌, List, [], ◌∷◌, ◌++◌, length, drop, Some, None, Ok, Err, refl, sym, ap, ◌∙◌, slice_get, append_assoc, append-nil, length-append, arith}
use Rattle.std.proofs.lemmas.Option.{slice_get_within}
use Rattle.wf_lemmas.proofs.Lists.{read_at, read_past}
use Rattle.wf_http_ask.specs.Answers.{Answers}
use Rattle.wf_value.specs.HttpRequest.{texts_by}
use Rattle.wf_value.specs.Data.{Data, pairs_of}
use Rattle.wf_value.specs.Errors.{Answer, ◌>>=◌}
use Rattle.wf_value.specs.Pairs.{Text}
use Rattle.wf_value.specs.declared.errors.Raise.{Raise}
use Rattle.wf_value.specs.declared.errors.Raise.TheVariants.{Error, OutOfMemory}

abbrev behind : List (Text × Text) → Answer (List (Text × Text)) → Answer (List (Text × Text))
behind ts r = r >>= λ more. Ok (ts ++ more)

-- one pair more stands before what is left
regrouped : (ts : List (Text × Text)) (k t : Text) (r : Answer (List (Text × Text))) → behind ts (r >>= λ more. Ok ((k, t) ∷ more)) ≡ behind (ts ++ (k, t) ∷ []) r
regrouped ts k t (Ok more) = ap Ok (sym (append_assoc ts ((k, t) ∷ []) more))
regrouped ts k t (Err e) = refl

module _ (f : Data → Answer Text) (ps : List (Text × Data)) where
  -- what is said of the pairs so far
  abbrev pub SoFar : List (Text × Text) → Type 0
  SoFar ts = texts_by f (pairs_of ps) ≡ behind ts (texts_by f (pairs_of (drop (length ts) ps)))

  next : (ts : List (Text × Text)) (k : Text) (d : Data) → Some (k, d) ≡ slice_get ps (length ts) → SoFar ts → texts_by f (pairs_of ps) ≡ behind ts (f d >>= λ t. texts_by f (pairs_of (drop (suc (length ts)) ps)) >>= λ more. Ok ((k, t) ∷ more))
  next ts k d at h = h ∙ ap (λ qs. behind ts (texts_by f (pairs_of qs))) (read_at ps (length ts) (k, d) at)

  longer : (ts more : List (Text × Text)) (k t : Text) → more ≡ ts ++ (k, t) ∷ [] → length more ≡ suc (length ts)
  longer ts more k t h = ap length h ∙ length-append ts ((k, t) ∷ []) ∙ omega arith

  pub texts_more : (ts more : List (Text × Text)) (k : Text) (d : Data) (t : Text) → Some (k, d) ≡ slice_get ps (length ts) → f d ≡ Ok t → more ≡ ts ++ (k, t) ∷ [] → SoFar ts → SoFar more
  texts_more ts more k d t at has grown h =
      next ts k d at h
      ∙ ap (λ (a : Answer Text). behind ts (a >>= λ x. texts_by f (pairs_of (drop (suc (length ts)) ps)) >>= λ r. Ok ((k, x) ∷ r))) has
      ∙ regrouped ts k t (texts_by f (pairs_of (drop (suc (length ts)) ps)))
      ∙ ap (λ x. behind x (texts_by f (pairs_of (drop (suc (length ts)) ps)))) (sym grown)
      ∙ ap (λ n. behind more (texts_by f (pairs_of (drop n ps)))) (sym (longer ts more k t grown))

  -- fewer pairs are left
  pub fewer : (ts more : List (Text × Text)) (k : Text) (d : Data) (t : Text) → Some (k, d) ≡ slice_get ps (length ts) → more ≡ ts ++ (k, t) ∷ [] → length ps - length more < length ps - length ts
  fewer ts more k d t at grown = omega (arith, slice_get_within ps (length ts) (k, d) (sym at), longer ts more k t grown)

  pub texts_fail : (ts : List (Text × Text)) (k : Text) (d : Data) (e : Raise) → Some (k, d) ≡ slice_get ps (length ts) → Answers {A = Text} (λ t. t) (Err e) (f d) → SoFar ts → Answers {A = List (Text × Text)} (λ qs. qs) (Err e) (texts_by f (pairs_of ps))
  texts_fail ts k d (Error t) at bad h =
      next ts k d at h
      ∙ ap (λ (a : Answer Text). behind ts (a >>= λ x. texts_by f (pairs_of (drop (suc (length ts)) ps)) >>= λ r. Ok ((k, x) ∷ r))) bad
  texts_fail ts k d OutOfMemory at bad h = tt

  pub texts_end : (ts : List (Text × Text)) → None ≡ slice_get ps (length ts) → SoFar ts → texts_by f (pairs_of ps) ≡ Ok ts
  texts_end ts at h = h ∙ ap (λ qs. behind ts (texts_by f (pairs_of qs))) (read_past ps (length ts) at) ∙ ap Ok (append-nil ts)
