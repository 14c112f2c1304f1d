-- Which template a text of a source is, and why it is none.
--     has_expressions  an expression stands in a text, or begins in it
--     IsTemplateOf     a text is this template
--     IsFaultOf        it is none, and this is its first fault
use Rattle.std.specs.Prelude.{◌≡◌, ℕ, min, Bool, true, false, not, List, [], ◌∷◌, ◌++◌, length}
use Rattle.std.specs.List.{AllByRecursion, list_all}
use Rattle.wf_ast.specs.Tree.{Part, Said, Hole, Template, Scalar, Whole, Joined}
use Rattle.wf_expr.specs.Parsing.{IsFault, Parses}
use Rattle.wf_expr.specs.declared.fault.ExprFault.{ExprFault}
use Rattle.wf_expr.specs.declared.fault.ExprFault.TheVariants as fault
use Rattle.wf_expr.specs.Pieces.{Piece, said, hole, unclosed, pieces}
use Rattle.wf_value.specs.Data.{text}
use Rattle.wf_value.specs.Pairs.{Text}

-- ## Templates
abbrev pub is_said : Piece → Bool
is_said (said s) = true
is_said p = false

-- an expression stands in a text, or begins in it
abbrev pub has_expressions : Text → Bool
has_expressions s = not (list_all is_said (pieces s))

-- an expression alone
abbrev pub is_whole : List Piece → Bool
is_whole (hole s ∷ []) = true
is_whole ps = false

abbrev pub IsPart : Piece → Part → Type 0
IsPart (said s) (Said x) = s ≡ x
IsPart (hole s) (Hole e) = Parses s e
IsPart p x = ⊥

-- each piece is the part in its place
abbrev pub AreParts : List Piece → List Part → Type 0
AreParts [] [] = Unit {0}
AreParts (p ∷ ps) (x ∷ xs) = IsPart p x × AreParts ps xs
AreParts ps xs = ⊥

-- A text without expressions is itself, an expression alone is its value, and any other text is joined from its parts.
abbrev pub IsTemplateOf : Text → Template → Type 0
IsTemplateOf s (Scalar v) = (has_expressions s ≡ false) × (v ≡ text s)
IsTemplateOf s (Whole e) = (h : Text) × (pieces s ≡ hole h ∷ []) × Parses h e
IsTemplateOf s (Joined xs) = (has_expressions s ≡ true) × (is_whole (pieces s) ≡ false) × AreParts (pieces s) xs
IsTemplateOf s t = ⊥

-- ## Faults
-- a piece is said, or an expression
abbrev pub IsSound : Piece → Type 0
IsSound p = (x : Part) × IsPart p x

-- the end of a text as a place; one past 4,294,967,295 is told as this
abbrev pub end_of : Text → ℕ
end_of s = min (length s) 4294967295

-- an expression's fault, or Syntax at the end of one that isn't closed
abbrev pub IsFaultAt : Piece → ExprFault → Type 0
IsFaultAt (said s) f = ⊥
IsFaultAt (hole s) f = IsFault s f
IsFaultAt (unclosed s) f = f ≡ fault.Syntax (end_of s)

-- the fault of the first piece that has one
pub record IsFirstIn (ps : List Piece) (f : ExprFault) : Type 0 where
  pub before : List Piece
  pub at : Piece
  pub after : List Piece
  pub split : ps ≡ before ++ at ∷ after
  pub sound : AllByRecursion IsSound before
  pub faulty : IsFaultAt at f

-- the same, where want of memory is told as itself
abbrev pub IsFaultIn : List Piece → ExprFault → Type 0
IsFaultIn ps fault.OutOfMemory = Unit {0}
IsFaultIn ps f = IsFirstIn ps f

-- the first fault of a text, or want of memory
abbrev pub IsFaultOf : Text → ExprFault → Type 0
IsFaultOf s f = IsFaultIn (pieces s) f

-- ## Laws
-- a text is one template at most
abbrev pub OneTemplate : Type 0
OneTemplate = (s : Text) (t u : Template) → IsTemplateOf s t → IsTemplateOf s u → t ≡ u

-- a text is not both a template and refused
abbrev pub NotBothOf : Type 0
NotBothOf = (s : Text) (t : Template) (f : ExprFault) → IsTemplateOf s t → (f ≡ fault.OutOfMemory → ⊥) → IsFaultOf s f → ⊥
