-- The symbols of an expression: its tokens as the grammar sees them.
--     placed_symbols     the symbols of some tokens, each with its place
use Rattle.std.specs.Prelude.{ℕ, ℤ, pos, suc, ◌+◌, ◌^◌, Bool, true, false, ◌&&◌, ◌==◌, List, [], ◌∷◌, length, map, if◌then◌else◌, nat_lt, codes, bytes_eq}
use Rattle.std.specs.Str.Parse.{digits_value}
use Rattle.wf_ast.specs.declared.expr.Op.{Op}
use Rattle.wf_ast.specs.declared.expr.Op.TheVariants as op
use Rattle.wf_value.specs.HttpRequest.{is_among}
use Rattle.wf_span.specs.Tokens.{PlacedToken}
use Rattle.wf_span.specs.declared.token.TokenKind.{TokenKind}
use Rattle.wf_span.specs.declared.token.TokenKind.TheVariants as token
use Rattle.wf_value.specs.Data.{Data, null, boolean}
use Rattle.wf_value.specs.Pairs.{Text}

pub data Sym : Type 0 where
  -- a whole number of 64 bits
  number : ℤ → Sym
  -- a number with a point, or a greater one
  decimal : Sym
  -- what a quoted text says
  quoted : Text → Sym
  literal : Data → Sym
  name : Text → Sym
  -- `== != < <= > >= in`
  relation : Op → Sym
  -- `+ -`
  sign : Op → Sym
  -- `* / // %`
  product : Op → Sym
  and : Sym
  or : Sym
  not : Sym
  point : Sym
  comma : Sym
  left_paren : Sym
  right_paren : Sym
  left_bracket : Sym
  right_bracket : Sym

-- ## Words, numbers, texts and marks
abbrev pub true_words : List Text
true_words = codes "true" ∷ codes "True" ∷ codes "TRUE" ∷ []

abbrev pub false_words : List Text
false_words = codes "false" ∷ codes "False" ∷ codes "FALSE" ∷ []

-- a word that is no name, or else a name
abbrev pub word : Text → Sym
word w =
    if bytes_eq w (codes "and") then and
    else if bytes_eq w (codes "or") then or
    else if bytes_eq w (codes "not") then not
    else if bytes_eq w (codes "in") then relation op.In
    else if bytes_eq w (codes "null") then literal null
    else if is_among w true_words then literal (boolean true)
    else if is_among w false_words then literal (boolean false)
    else name w

-- a number up to 9223372036854775807, or else a decimal
abbrev pub digits : Text → Sym
digits s = if nat_lt (digits_value 10 s) (2 ^ 63) then number (pos (digits_value 10 s)) else decimal

-- the byte of an escape's letter: `\n \r \t`, and itself
abbrev pub escaped : ℕ → ℕ
escaped b = if b == 110 then 10 else if b == 114 then 13 else if b == 116 then 9 else b

-- What a text says, from behind its opening quote. The flag tells that a backslash stands before.
abbrev pub said : ℕ → Bool → Text → Text
said quote after [] = []
said quote true (b ∷ s) = escaped b ∷ said quote false s
said quote false (b ∷ s) =
    let more = said quote true s in
    let next = said quote false s in
    if b == 92 then more else if b == quote then [] else b ∷ next

abbrev pub text_said : Text → Text
text_said [] = []
text_said (quote ∷ s) = said quote false s

-- a mark; there are no others than these
abbrev pub mark : Text → Sym
mark m =
    if bytes_eq m (codes "==") then relation op.Eq
    else if bytes_eq m (codes "!=") then relation op.Ne
    else if bytes_eq m (codes "<") then relation op.Lt
    else if bytes_eq m (codes "<=") then relation op.Le
    else if bytes_eq m (codes ">") then relation op.Gt
    else if bytes_eq m (codes ">=") then relation op.Ge
    else if bytes_eq m (codes "+") then sign op.Add
    else if bytes_eq m (codes "-") then sign op.Sub
    else if bytes_eq m (codes "*") then product op.Mul
    else if bytes_eq m (codes "/") then product op.Div
    else if bytes_eq m (codes "//") then product op.TruncDiv
    else if bytes_eq m (codes "%") then product op.Rem
    else if bytes_eq m (codes ".") then point
    else if bytes_eq m (codes "[") then left_bracket
    else if bytes_eq m (codes "]") then right_bracket
    else if bytes_eq m (codes "(") then left_paren
    else if bytes_eq m (codes ")") then right_paren
    else comma

abbrev pub symbol : TokenKind → Text → Sym
symbol token.Name s = word s
symbol token.Number s = digits s
symbol token.Text s = quoted (text_said s)
symbol token.Mark s = mark s

-- ## Symbols in their places
pub record Placed : Type 0 where
  pub sym : Sym
  pub at : ℕ

abbrev pub placed : PlacedToken → Placed
placed t = record { sym = symbol t.kind t.text; at = t.at }

abbrev pub is_digits : TokenKind → Bool
is_digits token.Number = true
is_digits k = false

-- digits, a point and digits with nothing between them: one number, which is a decimal
abbrev pub is_glued : PlacedToken → PlacedToken → PlacedToken → Bool
is_glued a p b = is_digits a.kind && bytes_eq p.text (codes ".") && is_digits b.kind && a.at + length a.text == p.at && suc p.at == b.at

abbrev pub placed_symbols : List PlacedToken → List Placed
placed_symbols [] = []
placed_symbols (a ∷ []) = placed a ∷ []
placed_symbols (a ∷ p ∷ []) = placed a ∷ placed p ∷ []
placed_symbols (a ∷ p ∷ b ∷ ts) =
    let behind = placed_symbols ts in
    let next = placed_symbols (p ∷ b ∷ ts) in
    if is_glued a p b then record { sym = decimal; at = a.at } ∷ behind else placed a ∷ next

-- without their places
abbrev pub syms : List Placed → List Sym
syms ps = map (λ p. p.sym) ps
