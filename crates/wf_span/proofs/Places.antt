-- Each line is the part of the source at its place.
use Rattle.std.proofs.Common.{◌≡◌, ℕ, zero, suc, ◌+◌, ◌≤◌, List, [], ◌∷◌, ◌++◌, length, take, drop, Bool, true, false, cond, ◌==◌, refl, sym, ap, ◌∙◌, arith, append_assoc, length-append}
use Rattle.std.specs.List.{slice_split, AllByRecursion, join_with_byte}
use Rattle.std.proofs.Math.Seq.{drop-append_seam, take-append_seam}
use Rattle.std.proofs.lemmas.List.Splits.{join_with_byte-slice_split}
use Rattle.std.proofs.lemmas.List.{append-nil}
use Rattle.wf_span.specs.Lines.{placed, lines_of, last_line, source_lines, is_newline, without_return, spaces}
use Rattle.wf_span.specs.Places.{IsPartAt}

spaces_by : (b : ℕ) (r : List ℕ) (t : Bool) → spaces r ≤ length r → cond t (suc (spaces r)) 0 ≤ suc (length r)
spaces_by b r true h = omega (arith, h)
spaces_by b r false h = omega arith

pub spaces_le : (s : List ℕ) → spaces s ≤ length s
spaces_le [] = omega arith
spaces_le (b ∷ r) = spaces_by b r (b == 32) (spaces_le r)

part : (source pre body behind : List ℕ) (n at indent : ℕ) → source ≡ pre ++ (body ++ behind) → at ≡ length pre → IsPartAt source (record { number = n; at = at; indent = indent; body = body })
part source pre body behind n at indent e h = (
  omega (arith, ap length e, length-append pre (body ++ behind), length-append body behind, h),
  sym (ap (λ s. take (length body) (drop at s)) e ∙ ap (λ i. take (length body) (drop i (pre ++ (body ++ behind)))) h ∙ ap (take (length body)) (drop-append_seam pre (body ++ behind)) ∙ take-append_seam body behind),
)

record Cut (k : ℕ) (s : List ℕ) : Type 0 where
  pre : List ℕ
  whole : s ≡ pre ++ drop k s
  len : length pre ≡ k

cut_more : (b : ℕ) (k : ℕ) (r : List ℕ) → Cut k r → Cut (suc k) (b ∷ r)
cut_more b k r c = record { pre = b ∷ c.pre; whole = ap (λ l. b ∷ l) c.whole; len = ap suc c.len }

cut_at : (k : ℕ) (s : List ℕ) → k ≤ length s → Cut k s
cut_at zero s h = record { pre = []; whole = refl; len = refl }
cut_at (suc k) [] h = absurd (omega (arith, h))
cut_at (suc k) (b ∷ r) h = cut_more b k r (cut_at k r (omega (arith, h)))

is_part : (source front text behind : List ℕ) (n at : ℕ) → source ≡ front ++ (text ++ behind) → at ≡ length front → IsPartAt source (placed n at text)
is_part source front text behind n at e h =
    let k = spaces text in
    let c = cut_at k text (spaces_le text) in
    part source (front ++ c.pre) (drop k text) behind n (at + k) k
    (e ∙ ap (λ s. front ++ (s ++ behind)) c.whole ∙ ap (λ s. front ++ s) (append_assoc c.pre (drop k text) behind) ∙ sym (append_assoc front c.pre (drop k text ++ behind)))
    (omega (arith, h, c.len, length-append front c.pre))

record Kept (x : List ℕ) : Type 0 where
  tail : List ℕ
  whole : x ≡ without_return x ++ tail

kept_one : (b : ℕ) (t : Bool) → (tail : List ℕ) × (b ∷ [] ≡ cond t [] (b ∷ []) ++ tail)
kept_one b true = (b ∷ [], refl)
kept_one b false = ([], refl)

kept : (x : List ℕ) → Kept x
kept [] = record { tail = []; whole = refl }
kept (b ∷ []) = record { tail = (kept_one b (b == 13)).0; whole = (kept_one b (b == 13)).1 }
kept (b ∷ c ∷ r) = record { tail = (kept (c ∷ r)).tail; whole = ap (λ l. b ∷ l) (kept (c ∷ r)).whole }

last_part : (source front x : List ℕ) (n at : ℕ) → source ≡ front ++ x → at ≡ length front → AllByRecursion (IsPartAt source) (last_line n at x)
last_part source front [] n at e h = tt
last_part source front (b ∷ r) n at e h = (is_part source front (b ∷ r) [] n at (e ∙ ap (λ s. front ++ s) (sym (append-nil (b ∷ r)))) h, tt)

pub parts_law : (source front : List ℕ) (parts : List (List ℕ)) (n at : ℕ) → source ≡ front ++ join_with_byte 10 parts → at ≡ length front → AllByRecursion (IsPartAt source) (lines_of n at parts)
parts_law source front [] n at e h = tt
parts_law source front (x ∷ []) n at e h = last_part source front x n at e h
parts_law source front (x ∷ y ∷ more) n at e h =
    let k = kept x in
    let rest = 10 ∷ join_with_byte 10 (y ∷ more) in (
      is_part source front (without_return x) (k.tail ++ rest) n at (e ∙ ap (λ s. front ++ (s ++ rest)) k.whole ∙ ap (λ s. front ++ s) (append_assoc (without_return x) k.tail rest)) h,
      parts_law source (front ++ (x ++ 10 ∷ [])) (y ∷ more) (suc n) (at + (length x + 1))
          (e ∙ ap (λ s. front ++ s) (sym (append_assoc x (10 ∷ []) (join_with_byte 10 (y ∷ more)))) ∙ sym (append_assoc front (x ++ 10 ∷ []) (join_with_byte 10 (y ∷ more))))
          (omega (arith, h, length-append front (x ++ 10 ∷ []), length-append x (10 ∷ []))),
    )

-- the lines of a source are its parts
pub lines_are_parts : (source : List ℕ) → AllByRecursion (IsPartAt source) (source_lines source)
lines_are_parts source = parts_law source [] (slice_split is_newline source) 1 0 (sym (join_with_byte-slice_split 10 source)) refl
