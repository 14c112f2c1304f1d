-- What the first bytes say of all of them.
use Rattle.std.proofs.Common.{◌≡◌, ℕ, ◌+◌, ◌-◌, ◌<◌, ◌≤◌, List, [], ◌++◌, length, take, drop, sym, ap, ◌∙◌, subst, arith, inl, inr, ◌⊎◌, append-nil, take-append-drop, length-take}
use Rattle.std.proofs.Math.Seq.{take-append-add}
use Rattle.std.proofs.lemmas.Bool.{cases_lt}
use Rattle.httparse.specs.Grammar.{Field, LineEnd, print_section, ReadsSection, HasNoSection, NeverHasSection}
use Rattle.httparse.specs.Spans.{SectionOverflows, IsSectionOf}
use Rattle.httparse.specs.declared.spans.HeaderSpan.{HeaderSpan}
use Rattle.httparse.proofs.GrammarLemmas.{ReadsSection-append}
use Rattle.wf_value.specs.HttpBody.{trailer_limit}
use Rattle.wf_http_body.specs.declared.trailer.Glance.{Glance}
use Rattle.wf_http_body.specs.declared.trailer.Glance.TheVariants as glance
use Rattle.wf_http_body.specs.Chunks.{IsLongSection, IsCrowdedSection, IsBadSection}
use Rattle.wf_http_body.specs.Found.{IsGlance, IsWholeSection}

split : (n : ℕ) (xs ys : List ℕ) → length xs ≤ n → take n (xs ++ ys) ≡ xs ++ take (n - length xs) ys
split n xs ys le =
    let e : n ≡ length xs + (n - length xs) = omega arith in
    ap (λ (k : ℕ). take k (xs ++ ys)) e ∙ take-append-add xs ys (n - length xs)

-- what begins both a list and a part of it begins that part
pub front_of : (s more p rest : List ℕ) → s ++ more ≡ p ++ rest → length p ≤ length s → s ≡ p ++ take (length s - length p) rest
front_of s more p rest e le =
    let whole : take (length s) (s ++ more) ≡ s ++ take (length s - length s) more = split (length s) s more (omega arith) in
    let none : length s - length s ≡ 0 = omega arith in
    let mine : take (length s) (s ++ more) ≡ s = whole ∙ ap (λ (k : ℕ). s ++ take k more) none ∙ append-nil s in
    sym mine ∙ ap (take (length s)) e ∙ split (length s) p rest le

-- where no head stands in the first bytes, each head is long
pub past : (n : ℕ) (s p rest : List ℕ) → n ≤ length s → s ≡ p ++ rest → (take n s ≡ p ++ take (length (take n s) - length p) rest → ⊥) → n < length p
past n s p rest le is none = elim (cases_lt n (length p)) [
  | inl lt ↦ lt
  | inr short ↦ let size = length-take n s in absurd (none (front_of (take n s) (drop n s) p rest (take-append-drop n s ∙ is) (omega arith)))
]

-- ## Trailer fields
pub whole_section : (n : ℕ) (s : List ℕ) (fields : List Field) (end : LineEnd) (rest : List ℕ)
    → ReadsSection (take n s) fields end rest → ReadsSection s fields end (rest ++ drop n s)
whole_section n s fields end rest x =
    subst (λ (b : List ℕ). ReadsSection b fields end (rest ++ drop n s)) (take-append-drop n s) (ReadsSection-append (take n s) fields end rest (drop n s) x)

pub crowded_section : (n : ℕ) (s : List ℕ) → IsCrowdedSection (take n s) → IsCrowdedSection s
crowded_section n s (fields, end, rest, x, many) = (fields, end, rest ++ drop n s, whole_section n s fields end rest x, many)

pub too_long_section : (n : ℕ) (s : List ℕ) → n ≡ trailer_limit → n < length s → HasNoSection (take n s) → IsLongSection s
too_long_section n s is lt none = record {
  heard = omega arith;
  sections = λ fields end rest x. subst (λ (m : ℕ). m < length (print_section fields end)) is
      (past n s (print_section fields end) rest (omega arith) x.1 (λ front. none fields end (take (length (take n s) - length (print_section fields end)) rest) (x.0, front)));
}

pub never_is_no_section : (buf : List ℕ) → NeverHasSection buf → HasNoSection buf
never_is_no_section buf never = subst HasNoSection (append-nil buf) (never [])

pub crowded_section_by : (front : List ℕ) (spans : List HeaderSpan) (r : ℕ × ℕ) → SectionOverflows 100 front → IsSectionOf front 0 spans r → IsCrowdedSection front
crowded_section_by front spans r many (fields, last, at) =
    (fields, last, drop r.0 front, at.reads, many [] fields last (drop r.0 front) (subst (λ (s : List ℕ). ReadsSection s fields last (drop r.0 front)) (sym (append-nil front)) at.reads))

pub whole_within : (n : ℕ) (s : List ℕ) → IsWholeSection (take n s) → IsWholeSection s
whole_within n s x = record { fields = x.fields; end = x.end; rest = x.rest ++ drop n s; reads = whole_section n s x.fields x.end x.rest x.reads; short = x.short; few = x.few }

-- more bytes than the limit, and no whole fields within it
pub past_limit : (n : ℕ) (s : List ℕ) (g : Glance) → n ≡ trailer_limit → n < length s → IsGlance (take n s) g
    → ((g ≡ glance.Crowded) ⊎ ((g ≡ glance.NotYet) ⊎ (g ≡ glance.Never))) → IsBadSection s
past_limit n s g is lt x (inl e) = inr (inr (crowded_section n s (subst (IsGlance (take n s)) e x)))
past_limit n s g is lt x (inr (inl e)) = inr (inl (too_long_section n s is lt (subst (IsGlance (take n s)) e x).0))
past_limit n s g is lt x (inr (inr e)) = inr (inl (too_long_section n s is lt (never_is_no_section (take n s) (subst (IsGlance (take n s)) e x))))
