-- How far a token goes, and what begins at a place.
use Rattle.std.specs.Prelude.{ℕ, zero, suc, Bool, List, [], ◌∷◌, if◌then◌else◌, ◌==◌, Option, Some, None}
use Rattle.wf_span.specs.Tokens.{is_escaped, is_digit, is_letter, is_name_byte, is_quote, is_mark_byte, is_mark_pair}
use Rattle.wf_span.specs.declared.token.TokenKind.TheVariants.{Name, Number, Text, Mark}
use Rattle.wf_span.specs.declared.piece.Begins.{Begins}
use Rattle.wf_span.specs.declared.piece.Begins.TheVariants as b
use Rattle.wf_span.specs.declared.piece.TextEnd.{TextEnd}
use Rattle.wf_span.specs.declared.piece.TextEnd.TheVariants.{Closed, BadEscape, Open}

abbrev pub count_while : (ℕ → Bool) → List ℕ → ℕ
count_while p [] = 0
count_while p (b ∷ r) = if p b then suc (count_while p r) else 0

-- the end of a text, with the first bad escape so far
abbrev pub closed_at : Option ℕ → ℕ → TextEnd
closed_at None n = Closed n
closed_at (Some at) n = BadEscape at

abbrev pub first_bad : Bool → Option ℕ → ℕ → Option ℕ
first_bad fine (Some at) i = Some at
first_bad fine None i = if fine then None else Some i

-- the scan from place i on, behind a backslash at a place or not
abbrev pub scan : ℕ → List ℕ → Option ℕ → ℕ → Option ℕ → TextEnd
scan q [] slash i bad = Open
scan q (b ∷ r) (Some at) i bad = scan q r None (suc i) (first_bad (is_escaped b) bad at)
scan q (b ∷ r) None i bad = if b == q then closed_at bad (suc i) else scan q r (if b == 92 then Some i else None) (suc i) bad

-- behind the quote that began it; places are told from that quote
abbrev pub text_end : ℕ → List ℕ → TextEnd
text_end q bs = scan q bs None 1 None

-- how long the mark is that begins so, or 0
abbrev pub mark_of : List ℕ → ℕ
mark_of [] = 0
mark_of (b ∷ []) = if is_mark_byte b then 1 else 0
mark_of (b ∷ c ∷ r) = if is_mark_pair b c then 2 else (if is_mark_byte b then 1 else 0)

abbrev pub text_piece : TextEnd → Begins
text_piece (Closed n) = b.Token Text n
text_piece (BadEscape at) = b.Bad at
text_piece Open = b.Open

abbrev pub mark_piece : ℕ → Begins
mark_piece zero = b.Nothing
mark_piece (suc n) = b.Token Mark (suc n)

-- what begins at a place
abbrev pub piece_at : List ℕ → Begins
piece_at [] = b.Nothing
piece_at (c ∷ r) =
    if is_quote c then text_piece (text_end c r)
    else (if is_digit c then b.Token Number (count_while is_digit (c ∷ r)) else (if is_letter c then b.Token Name (count_while is_name_byte (c ∷ r)) else mark_piece (mark_of (c ∷ r))))
