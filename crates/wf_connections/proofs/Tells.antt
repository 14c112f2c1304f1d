-- What is told of one call more.
use Rattle.std.proofs.Common.{◌≡◌, ◌≢◌, ℕ, Bool, List, [], ◌∷◌, ◌++◌, Some, refl, sym, ap, ◌∙◌, subst, inl, inr}
use Rattle.std.specs.Prelude.{nat_eq, if◌then◌else◌, is_ok, Result, Ok, Err}
use Rattle.std.proofs.lemmas.Bool.Decides.{eqb_tells}
use Rattle.std.proofs.lemmas.List.Sums.{fold-append}
use Rattle.wf_connections.specs.declared.line.Line.{Line}
use Rattle.wf_connections.specs.Lines.{Heard, HasRead, IsReadAs, told_by}
use Rattle.wf_deeds.specs.Deeds.{Told, nothing_told, tells}
use Rattle.wf_host.specs.World.{call_of}
use Rattle.wf_host.specs.declared.data.What.{What}
use Rattle.wf_host.specs.declared.data.What.TheVariants as what
use Rattle.wf_http_in.specs.Stages.{HasHeard}
use Rattle.wf_http_in.specs.declared.reading.Reading.{Reading}
use Rattle.wf_value.specs.HttpBody.{Close, Ended, Broke}

pub told_more : (k : ℕ) (heard : Heard) (w : What) → told_by k (heard ++ (w, tt) ∷ []) ≡ tells k w (told_by k heard)
told_more k heard w = fold-append (λ (t : Told) (h : What × Unit {0}). tells k h.0 t) nothing_told heard ((w, tt) ∷ [])

unless_same : {A : Type 0} (j k : ℕ) (x y : A) → j ≢ k → (if nat_eq j k then x else y) ≡ y
unless_same j k x y other = elim (eqb_tells j k) [
  | inl same ↦ absurd (other same.1)
  | inr apart ↦ ap (λ b. if b then x else y) apart.0
]

pub tells_other : (w : What) (j k : ℕ) (t : Told) → call_of w ≡ Some j → k ≢ j → tells k w t ≡ t
tells_other (what.Bytes i b) j k t is other = unless_same i k _ _ (λ same. other (sym same ∙ (let here : i ≡ j = cc is in here)))
tells_other (what.End i) j k t is other = unless_same i k _ _ (λ same. other (sym same ∙ (let here : i ≡ j = cc is in here)))
tells_other (what.Broken i) j k t is other = unless_same i k _ _ (λ same. other (sym same ∙ (let here : i ≡ j = cc is in here)))
tells_other what.Nothing j k t is other = refl
tells_other (what.Visit n b) j k t is other = refl
tells_other (what.VisitEnd n) j k t is other = refl

-- told of the call itself
where_same : {A : Type 0} (j k : ℕ) (x y : A) → j ≡ k → (if nat_eq j k then x else y) ≡ x
where_same j k x y same = elim (eqb_tells j k) [
  | inl same ↦ ap (λ b. if b then x else y) same.0
  | inr apart ↦ absurd (apart.1 same)
]

pub tells_bytes : (j k : ℕ) (b : List ℕ) (t : Told) → Some j ≡ Some k → tells k (what.Bytes j b) t ≡ record { bytes = t.bytes ++ b; close = t.close }
tells_bytes j k b t is = where_same j k _ _ (cc is)

pub tells_end : (j k : ℕ) (t : Told) → Some j ≡ Some k → tells k (what.End j) t ≡ record { bytes = t.bytes; close = Ended }
tells_end j k t is = where_same j k _ _ (cc is)

pub tells_broken : (j k : ℕ) (t : Told) → Some j ≡ Some k → tells k (what.Broken j) t ≡ record { bytes = t.bytes; close = Broke }
tells_broken j k t is = where_same j k _ _ (cc is)

-- ## What is read
-- a line that heard this besides
pub more_read : (k : ℕ) (old new : Line) (w : What) (heard : Heard) → new ≡ old → heard ≡ new.heard.items ++ (w, tt) ∷ [] → IsReadAs old.state (tells k w (told_by k old.heard.items))
    → IsReadAs new.state (told_by k heard)
more_read k old new w heard same more now =
    subst (IsReadAs new.state) (sym (ap (told_by k) more ∙ told_more k new.heard.items w)) (subst (λ (l : Line). IsReadAs l.state (tells k w (told_by k l.heard.items))) (sym same) now)

-- a piece is heard, where there was memory
abbrev pub Feeds : Reading → Reading → Bool → List ℕ → Type 0
Feeds r s fed b = (heard : List ℕ) (close : Close) → HasHeard r heard close → HasHeard s (if fed then heard ++ b else heard) close

pub bytes_read : {E : Type 0} (result : Result (Unit {0}) E) (r s : Reading) (j k : ℕ) (b : List ℕ) (t : Told) → Feeds r s (is_ok result) b
    → Some j ≡ Some k → HasRead r t → HasRead s (if is_ok result then tells k (what.Bytes j b) t else t)
bytes_read (Ok x) r s j k b t feeds is had = subst (HasRead s) (sym (tells_bytes j k b t is)) (feeds t.bytes t.close had)
bytes_read (Err e) r s j k b t feeds is had = feeds t.bytes t.close had

pub end_read : (r s : Reading) (j k : ℕ) (t : Told) → ((heard : List ℕ) (close : Close) → HasHeard r heard close → HasHeard s heard Ended)
    → Some j ≡ Some k → HasRead r t → HasRead s (tells k (what.End j) t)
end_read r s j k t ends is had = subst (HasRead s) (sym (tells_end j k t is)) (ends t.bytes t.close had)

pub broken_read : (r s : Reading) (j k : ℕ) (t : Told) → ((heard : List ℕ) (close : Close) → HasHeard r heard close → HasHeard s heard Broke)
    → Some j ≡ Some k → HasRead r t → HasRead s (tells k (what.Broken j) t)
broken_read r s j k t breaks is had = subst (HasRead s) (sym (tells_broken j k t is)) (breaks t.bytes t.close had)
