-- Tokens one behind the other.
use Rattle.std.proofs.Common.{◌≡◌, ℕ, suc, ◌+◌, List, [], ◌∷◌, ◌++◌, length, map, drop, Bool, true, false, cond, refl, sym, ap, subst, ◌∙◌, arith, append-nil, length-append}
use Rattle.std.specs.List.{list_all}
use Rattle.std.proofs.Math.Seq.{drop-append_seam}
use Rattle.wf_span.specs.Tokens.{PlacedToken, Leads, IsLongest, FaultFrom, FaultAt, IsFirstFault, is_blank}
use Rattle.wf_span.specs.Scans.{count_while}
use Rattle.wf_span.specs.Lexed.{placed_token}
use Rattle.wf_span.specs.declared.token.Token.{Token}
use Rattle.wf_span.specs.declared.token.LexFault.{LexFault}
use Rattle.wf_span.specs.declared.token.LexFault.TheVariants.{BadCharacter, OpenText, OutOfMemory}
use Rattle.wf_span.proofs.Longest.{run}

no_blank_by : (c : ℕ) (r : List ℕ) (t : Bool) → is_blank c ≡ t → count_while is_blank (drop (count_while is_blank r) r) ≡ 0 → count_while is_blank (drop (cond t (suc (count_while is_blank r)) 0) (c ∷ r)) ≡ 0
no_blank_by c r true e h = h
no_blank_by c r false e h = ap (λ t. cond t (suc (count_while is_blank r)) 0) e

pub no_blank_left : (bs : List ℕ) → count_while is_blank (drop (count_while is_blank bs) bs) ≡ 0
no_blank_left [] = refl
no_blank_left (c ∷ r) = no_blank_by c r (is_blank c) refl (no_blank_left r)

-- a source as its blanks and what stands behind them
pub record Cut (bs : List ℕ) : Type 0 where
  pub blanks : List ℕ
  pub whole : bs ≡ blanks ++ drop (count_while is_blank bs) bs
  pub blank : list_all is_blank blanks ≡ true
  pub len : length blanks ≡ count_while is_blank bs

pub cut : (bs : List ℕ) → Cut bs
cut bs =
    let x = run is_blank bs in
    let behind : x.1 ≡ drop (count_while is_blank bs) bs = sym (drop-append_seam x.0 x.1) ∙ ap (λ s. drop (length x.0) s) (sym x.2) ∙ ap (λ i. drop i bs) x.4 in
    record { blanks = x.0; whole = x.2 ∙ ap (λ s. x.0 ++ s) behind; blank = x.3; len = x.4 }

pub blanks_within : (bs : List ℕ) → count_while is_blank bs + length (drop (count_while is_blank bs) bs) ≡ length bs
blanks_within bs = let x = cut bs in omega (arith, ap length x.whole, x.len, length-append x.blanks (drop (count_while is_blank bs) bs))

no_more : (s : List ℕ) → length s ≡ 0 → s ≡ []
no_more [] h = refl
no_more (c ∷ r) h = absurd (omega (arith, h))

pub all_blank : (bs : List ℕ) → length (drop (count_while is_blank bs) bs) ≡ 0 → list_all is_blank bs ≡ true
all_blank bs h =
    let x = cut bs in
    ap (list_all is_blank) (x.whole ∙ ap (λ s. x.blanks ++ s) (no_more (drop (count_while is_blank bs) bs) h) ∙ append-nil x.blanks) ∙ x.blank

pub leads : (at : ℕ) (bs : List ℕ) (t : PlacedToken) (behind : List ℕ) → t.at ≡ at + count_while is_blank bs → IsLongest (drop (count_while is_blank bs) bs) t.kind t.text behind → Leads at bs t behind
leads at bs t behind place longest =
    let x = cut bs in
    record { blanks = x.blanks; after_blanks = drop (count_while is_blank bs) bs; whole = x.whole; blank = x.blank; place = omega (arith, place, x.len); longest = longest }

pub fault_here : (at : ℕ) (bs : List ℕ) (fault : LexFault) → FaultAt (at + count_while is_blank bs) (drop (count_while is_blank bs) bs) fault → FaultFrom at bs [] fault
fault_here at bs fault h =
    let x = cut bs in
    (x.blanks, drop (count_while is_blank bs) bs, x.whole, x.blank, subst (λ (n : ℕ). FaultAt (at + n) (drop (count_while is_blank bs) bs) fault) (sym x.len) h)

pub is_first : (source : List ℕ) (ts : List PlacedToken) (fault : LexFault) → FaultFrom 0 source ts fault → IsFirstFault source fault
is_first source ts OutOfMemory h = tt
is_first source ts (BadCharacter at) h = (ts, h)
is_first source ts (OpenText at) h = (ts, h)

pub one_more : (items : List Token) (t : Token) (ts : List PlacedToken) → map placed_token (items ++ t ∷ []) ++ ts ≡ map placed_token items ++ placed_token t ∷ ts
one_more [] t ts = refl
one_more (x ∷ items) t ts = ap (λ l. placed_token x ∷ l) (one_more items t ts)
