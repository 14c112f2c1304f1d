-- The lexer gives the tokens of a source, or its first fault.
use Rattle.std.proofs.Common.{◌≡◌, ℕ, zero, suc, ◌+◌, ◌<◌, ◌≤◌, List, [], ◌∷◌, length, take, drop, true, refl, sym, ap, subst, ◌∙◌, arith, length-append}
use Rattle.std.specs.Prelude.{Ok, Err}
use Rattle.std.proofs.lemmas.List.{length-take, length-drop}
use Rattle.wf_lemmas.proofs.Bools.{clash}
use Rattle.wf_span.specs.Tokens.{PlacedToken, TokensFrom, FaultFrom, FaultAt, no_token, bad_escape, open_text, Leads, IsLongest, is_blank, is_token}
use Rattle.wf_span.specs.Scans.{count_while, piece_at}
use Rattle.wf_span.specs.Lexer.{Lexes, onto, by_piece, behind_blanks, lex_within, lex}
use Rattle.wf_span.specs.Laws.{LexesAs, LexerIsThem}
use Rattle.wf_span.specs.declared.token.TokenKind.{TokenKind}
use Rattle.wf_span.specs.declared.token.LexFault.{LexFault}
use Rattle.wf_span.specs.declared.token.LexFault.TheVariants.{BadCharacter, OpenText}
use Rattle.wf_span.specs.declared.piece.Begins.{Begins}
use Rattle.wf_span.specs.declared.piece.Begins.TheVariants as b
use Rattle.wf_span.proofs.Longest.{Means, piece_is, longest_cut, empty_token}
use Rattle.wf_span.proofs.Sequence.{leads, no_blank_left, blanks_within, all_blank, fault_here}
use Rattle.wf_span.proofs.Unique.{tokens_are_one}

onto_is : (at q : ℕ) (source behind : List ℕ) (t : PlacedToken) (r : Lexes) → Leads at source t behind → q ≡ t.at + length t.text → LexesAs q behind r → LexesAs at source (onto t r)
onto_is at q source behind t (Ok ts) l e h = (behind, l, subst (λ (p : ℕ). TokensFrom p behind ts) e h)
onto_is at q source behind t (Err f) l e h = (t ∷ h.0, (behind, l, subst (λ (p : ℕ). FaultFrom p behind h.0 f) e h.1))

-- a token takes a byte at least
some_bytes : (k : TokenKind) (n : ℕ) (s : List ℕ) → is_token k (take n s) ≡ true → 0 < n
some_bytes k zero s h = absurd (clash (is_token k []) (empty_token k) h)
some_bytes k (suc n) s h = omega arith

-- what begins behind the blanks
begun : (source : List ℕ) (c : ℕ) (r : List ℕ) (p : Begins) → c ∷ r ≡ drop (count_while is_blank source) source → p ≡ piece_at (c ∷ r) → Means (c ∷ r) p
begun source c r p e k = piece_is (c ∷ r) p (omega arith) (ap (count_while is_blank) e ∙ no_blank_left source) k

fault_is : (at : ℕ) (source : List ℕ) (c : ℕ) (r : List ℕ) (f : LexFault) → c ∷ r ≡ drop (count_while is_blank source) source → FaultAt (at + count_while is_blank source) (c ∷ r) f → LexesAs at source (Err f)
fault_is at source c r f e h = ([], fault_here at source f (subst (λ (s : List ℕ). FaultAt (at + count_while is_blank source) s f) e h))

by_begins : (n at : ℕ) (source : List ℕ) (c : ℕ) (r : List ℕ) (p : Begins) (more : ℕ → List ℕ → Lexes) → c ∷ r ≡ drop (count_while is_blank source) source → p ≡ piece_at (c ∷ r) → length source ≤ suc n → ((q : ℕ) (s : List ℕ) → length s ≤ n → LexesAs q s (more q s)) → LexesAs at source (by_piece p (at + count_while is_blank source) (c ∷ r) more)
by_begins n at source c r b.Nothing more e k h go = fault_is at source c r (BadCharacter (at + count_while is_blank source)) e (no_token (begun source c r b.Nothing e k))
by_begins n at source c r b.Open more e k h go = fault_is at source c r (OpenText (at + count_while is_blank source)) e (open_text (begun source c r b.Open e k))
by_begins n at source c r (b.Bad m) more e k h go = fault_is at source c r (BadCharacter (at + count_while is_blank source + m)) e (bad_escape m (begun source c r (b.Bad m) e k))
by_begins n at source c r (b.Token kind m) more e k h go =
    let place = at + count_while is_blank source in
    let means = begun source c r (b.Token kind m) e k in
    let long : IsLongest (c ∷ r) kind (take m (c ∷ r)) (drop m (c ∷ r)) = longest_cut (c ∷ r) kind m (take m (c ∷ r)) (drop m (c ∷ r)) means refl refl in
    let t : PlacedToken = record { kind = kind; text = take m (c ∷ r); at = place } in
    let some : 0 < m = some_bytes kind m (c ∷ r) long.token in
    let within : m ≤ length (c ∷ r) = omega (arith, means.2, ap length means.3.whole, length-append means.0 means.1) in
    let all = blanks_within source in
    let size : length (c ∷ r) ≡ length (drop (count_while is_blank source) source) = ap length e in
    onto_is at (place + m) source (drop m (c ∷ r)) t (more (place + m) (drop m (c ∷ r)))
    (leads at source t (drop m (c ∷ r)) refl (subst (λ (s : List ℕ). IsLongest s kind (take m (c ∷ r)) (drop m (c ∷ r))) e long))
    (omega (arith, length-take m (c ∷ r)))
    (go (place + m) (drop m (c ∷ r)) (omega (arith, length-drop m (c ∷ r))))

by_rest : (n at : ℕ) (source rest : List ℕ) (more : ℕ → List ℕ → Lexes) → rest ≡ drop (count_while is_blank source) source → length source ≤ suc n → ((q : ℕ) (s : List ℕ) → length s ≤ n → LexesAs q s (more q s)) → LexesAs at source (behind_blanks (at + count_while is_blank source) rest more)
by_rest n at source [] more e h go = all_blank source (sym (ap length e))
by_rest n at source (c ∷ r) more e h go = by_begins n at source c r (piece_at (c ∷ r)) more e refl h go

lexed : (n at : ℕ) (source : List ℕ) → length source ≤ n → LexesAs at source (lex_within n at source)
unfolding lex_within
lexed zero at [] h = refl
lexed zero at (c ∷ r) h = absurd (omega arith)
lexed (suc n) at source h = by_rest n at source (drop (count_while is_blank source) source) (lex_within n) refl h (lexed n)

-- what the lexer gives of a source with tokens, and of one with a fault
tokens_given : (source : List ℕ) (ts : List PlacedToken) (r : Lexes) → LexesAs 0 source r → TokensFrom 0 source ts → r ≡ Ok ts
tokens_given source ts (Ok us) h k = ap Ok (tokens_are_one.tokens source us ts h k)
tokens_given source ts (Err f) h k = absurd (tokens_are_one.apart source ts h.0 f k h.1)

fault_given : (source : List ℕ) (ts : List PlacedToken) (f : LexFault) (r : Lexes) → LexesAs 0 source r → FaultFrom 0 source ts f → r ≡ Err f
fault_given source ts f (Ok us) h k = absurd (tokens_are_one.apart source us ts f h k)
fault_given source ts f (Err g) h k = ap Err (tokens_are_one.faults source h.0 ts g f h.1 k)

pub lexer_is_them : LexerIsThem
lexer_is_them =
    let all : (source : List ℕ) → LexesAs 0 source (lex source) = λ source. lexed (length source) 0 source (omega arith) in
    record {
      given = all;
      tokens = λ source ts h. tokens_given source ts (lex source) (all source) h;
      fault = λ source ts f h. fault_given source ts f (lex source) (all source) h;
    }
