-- Readers made of readers take what is spelled so.
use Rattle.std.proofs.Common.{◌≡◌, ℕ, [], ◌∷◌, ◌++◌, Option, Some, None, Ok, refl, sym, ap, subst, ◌∙◌}
use Rattle.wf_record_parts.proofs.Parts.{ok_is, first_of_two, first_again, next_again, joined, by_code, bytes-rest}
use Rattle.wf_record_parts.specs.Laws.{AreBytes, TakesAgain, Reads}
use Rattle.wf_record_parts.specs.Reading.{Read, ◌>>=◌}
use Rattle.wf_record_parts.specs.Spelling.{Bytes}
use Rattle.wf_states.specs.Rising.{as_made, both_at, both, BothFit, nothing_at, nothing, option_at, option, OptionFits}

-- what was read, seen as something else that it can be told from
pub reads_as : {A B : Type 0} (at : Bytes → Read B) (part : B → Bytes) (Fits : B → Type 0) → Reads at part Fits → (made : B → A) (from : A → B) → ((b : B) → Fits b → from (made b) ≡ b) → ((a : A) → made (from a) ≡ a)
    → Reads (λ bytes. as_made made (at bytes)) (λ a. part (from a)) (λ a. Fits (from a))
reads_as {A = A} {B = B} at part Fits reads made from there back = record {
  takes = λ bytes x rest are e.
      let a = first_of_two at part Fits reads bytes (λ b l. Ok (made b, l)) (x, rest) are e in
      let is = ok_is (made a.what, a.rest) (x, rest) a.goes_on in
      let same : from x ≡ a.what = ap (λ (q : A × Bytes). from q.0) (sym is) ∙ there a.what a.fits in
      let end : rest ≡ a.rest = ap (λ (q : A × Bytes). q.1) (sym is) in
      (a.parts ∙ ap (λ (b : B). part b ++ a.rest) (sym same) ∙ ap (λ (l : Bytes). part (from x) ++ l) (sym end), subst AreBytes (sym end) a.are_bytes, subst Fits (sym same) a.fits);
  again = λ x rest fits. first_again at part Fits reads.again (from x) rest (λ b l. Ok (made b, l)) fits ∙ ap (λ (a : A). Ok (a, rest)) (back x);
}

-- the same spelling and the same fitting, said otherwise
pub reads_same : {A : Type 0} (at : Bytes → Read A) (part other : A → Bytes) (Fits Has : A → Type 0) → Reads at part Fits → ((a : A) → other a ≡ part a) → ((a : A) → Fits a → Has a) → ((a : A) → Has a → Fits a) → Reads at other Has
reads_same at part other Fits Has reads same has fits = record {
  takes = λ bytes x rest are e. let t = reads.takes bytes x rest are e in (t.0 ∙ ap (λ (l : Bytes). l ++ rest) (sym (same x)), t.1, has x t.2);
  again = λ x rest h. ap (λ (l : Bytes). at (l ++ rest)) (same x) ∙ reads.again x rest (fits x h);
}

-- one behind the other
pub reads_both : {A B : Type 0} (a : Bytes → Read A) (p : A → Bytes) (F : A → Type 0) → Reads a p F → (b : Bytes → Read B) (q : B → Bytes) (G : B → Type 0) → Reads b q G → Reads (both_at a b) (both p q) (BothFit F G)
reads_both {A = A} {B = B} a p F first b q G second = record {
  takes = λ bytes x rest are e.
      let l = first_of_two a p F first bytes (λ y r. b r >>= λ z. Ok ((y, z.0), z.1)) (x, rest) are e in
      let r = first_of_two b q G second l.rest (λ z t. Ok ((l.what, z), t)) (x, rest) l.are_bytes l.goes_on in
      subst (λ (w : (A × B) × Bytes). (bytes ≡ both p q w.0 ++ w.1) × AreBytes w.1 × BothFit F G w.0) (ok_is ((l.what, r.what), r.rest) (x, rest) r.goes_on)
      (joined bytes (p l.what) l.rest (q r.what) r.rest l.parts r.parts, r.are_bytes, (l.fits, r.fits));
  again = λ x rest fits.
      next_again a p F first.again x.0 (q x.1) rest (λ y r. b r >>= λ z. Ok ((y, z.0), z.1)) fits.0
      ∙ first_again b q G second.again x.1 rest (λ z t. Ok ((x.0, z), t)) fits.1;
}

pub reads_nothing : Reads nothing_at nothing (λ u. Unit {0})
reads_nothing = record {
  takes = λ bytes x rest are e. let is = ok_is (tt, bytes) (x, rest) e in
      (ap (λ (q : Unit {0} × Bytes). q.1) is, subst AreBytes (ap (λ (q : Unit {0} × Bytes). q.1) is) are, tt);
  again = λ x rest fits. refl;
}

-- ## By a code
abbrev pub Coded : {A : Type 0} → (A → Bytes) → (A → Type 0) → ℕ → Bytes → A → Bytes → Type 0
Coded part Fits kind bytes x rest = (kind ∷ bytes ≡ part x ++ rest) × AreBytes rest × Fits x

-- a code and one part
pub coded_takes : {A B : Type 0} (whole : A → Bytes) (Has : A → Type 0) (at : Bytes → Read B) (part : B → Bytes) (Fits : B → Type 0) → Reads at part Fits → (made : B → A) (code : ℕ)
    → ((b : B) → whole (made b) ≡ code ∷ part b) → ((b : B) → Fits b → Has (made b))
    → (kind : ℕ) (bytes : Bytes) (x : A) (rest : Bytes) → AreBytes bytes → kind ≡ code → as_made made (at bytes) ≡ Ok (x, rest) → Coded whole Has kind bytes x rest
coded_takes {A = A} whole Has at part Fits reads made code spelled has kind bytes x rest are is h =
    let a = first_of_two at part Fits reads bytes (λ b l. Ok (made b, l)) (x, rest) are h in
    let front : kind ∷ bytes ≡ whole (made a.what) ++ a.rest = rw (is, spelled a.what) (ap (λ (l : Bytes). code ∷ l) a.parts) in
    subst (λ (q : A × Bytes). Coded whole Has kind bytes q.0 q.1) (ok_is (made a.what, a.rest) (x, rest) a.goes_on) (front, a.are_bytes, has a.what a.fits)

-- a code alone
pub alone_takes : {A : Type 0} (whole : A → Bytes) (Has : A → Type 0) (a : A) (code : ℕ) → whole a ≡ code ∷ [] → Has a
    → (kind : ℕ) (bytes : Bytes) (x : A) (rest : Bytes) → AreBytes bytes → kind ≡ code → ◌≡◌ {A = Read A} (Ok (a, bytes)) (Ok (x, rest)) → Coded whole Has kind bytes x rest
alone_takes {A = A} whole Has a code spelled has kind bytes x rest are is h =
    let front : kind ∷ bytes ≡ whole a ++ bytes = rw (is, spelled) refl in
    subst (λ (q : A × Bytes). Coded whole Has kind bytes q.0 q.1) (ok_is (a, bytes) (x, rest) h) (front, are, has)

-- ## Options
module _ {A : Type 0} (at : Bytes → Read A) (part : A → Bytes) (Fits : A → Type 0) (reads : Reads at part Fits) where
  option_takes : (bytes : Bytes) (x : Option A) (rest : Bytes) → AreBytes bytes → option_at at bytes ≡ Ok (x, rest) → (bytes ≡ option part x ++ rest) × AreBytes rest × OptionFits Fits x
  unfolding option_at
  option_takes [] x rest are h = absurd cc
  option_takes (kind ∷ bytes) x rest are h =
      let P : Type 0 = Coded (option part) (OptionFits Fits) kind bytes x rest in
      let behind = bytes-rest kind bytes are in
      by_code P kind 0 _ _ _ h (alone_takes (option part) (OptionFits Fits) None 0 refl tt kind bytes x rest behind) (λ h1.
      by_code P kind 1 _ _ _ h1 (coded_takes (option part) (OptionFits Fits) at part Fits reads Some 1 (λ b. refl) (λ b f. f) kind bytes x rest behind) (λ h2. absurd cc))

  option_again : TakesAgain (option_at at) (option part) (OptionFits Fits)
  unfolding option_at
  option_again None rest fits = refl
  option_again (Some x) rest fits = ap (as_made Some) (reads.again x rest fits)

  pub reads_option : Reads (option_at at) (option part) (OptionFits Fits)
  reads_option = record { takes = option_takes; again = option_again }
