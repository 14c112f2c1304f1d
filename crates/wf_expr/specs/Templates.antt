-- The template that a text of a source is as a function, or its first fault.
use Rattle.std.specs.Prelude.{◌≡◌, List, [], ◌∷◌, if◌then◌else◌, Result, Ok, Err, MatchResult}
use Rattle.wf_ast.specs.Tree.{Expr, Part, Said, Hole, Template, Scalar, Whole, Joined}
use Rattle.wf_expr.specs.Parser.{parse}
use Rattle.wf_expr.specs.declared.fault.ExprFault.{ExprFault}
use Rattle.wf_expr.specs.declared.fault.ExprFault.TheVariants as fault
use Rattle.wf_expr.specs.Pieces.{Piece, said, hole, unclosed, pieces}
use Rattle.wf_expr.specs.Texts.{IsTemplateOf, IsFaultOf, has_expressions, end_of}
use Rattle.wf_value.specs.Data.{text}
use Rattle.wf_value.specs.Pairs.{Text}

abbrev pub as_hole : Result Expr ExprFault → Result Part ExprFault
as_hole (Ok e) = Ok (Hole e)
as_hole (Err f) = Err f

abbrev pub part_of : Piece → Result Part ExprFault
part_of (said s) = Ok (Said s)
part_of (hole s) = as_hole (parse s)
part_of (unclosed s) = Err (fault.Syntax (end_of s))

-- both, or the first fault of them
abbrev pub both : Result Part ExprFault → Result (List Part) ExprFault → Result (List Part) ExprFault
both (Err f) r = Err f
both (Ok x) (Err f) = Err f
both (Ok x) (Ok xs) = Ok (x ∷ xs)

abbrev pub parts_of : List Piece → Result (List Part) ExprFault
parts_of [] = Ok []
parts_of (p ∷ ps) = both (part_of p) (parts_of ps)

-- an expression alone is its value, and other parts are joined
abbrev pub joined : List Part → Template
joined (Hole e ∷ []) = Whole e
joined xs = Joined xs

abbrev pub of_parts : Result (List Part) ExprFault → Result Template ExprFault
of_parts (Ok xs) = Ok (joined xs)
of_parts (Err f) = Err f

-- the template of a text, or its first fault
unfoldable pub template_of : Text → Result Template ExprFault
template_of s = if has_expressions s then of_parts (parts_of (pieces s)) else Ok (Scalar (text s))

-- each text is a template or has a first fault, and this is it
abbrev pub TemplateIsIt : Type 0
TemplateIsIt = (s : Text) → MatchResult (template_of s) (IsTemplateOf s) (λ f. IsFaultOf s f × (f ≡ fault.OutOfMemory → ⊥))
