-- A text is the template that is made of it, or has the fault that is told.
use Rattle.std.proofs.Common.{◌≡◌, Bool, true, false, List, [], ◌∷◌, if◌then◌else◌, refl, sym, ap, subst}
use Rattle.std.specs.Prelude.{Result, Ok, Err, MatchResult}
use Rattle.wf_ast.specs.Tree.{Expr, Part, Said, Hole, Template, Scalar}
use Rattle.wf_expr.proofs.Parsed.{parser_is_them}
use Rattle.wf_expr.specs.Parser.{parse}
use Rattle.wf_expr.specs.Parsing.{IsFault, Parses}
use Rattle.wf_expr.specs.declared.fault.ExprFault.{ExprFault}
use Rattle.wf_expr.specs.declared.fault.ExprFault.TheVariants as fault
use Rattle.wf_expr.specs.Pieces.{Piece, said, hole, unclosed, pieces}
use Rattle.wf_expr.specs.Templates.{as_hole, part_of, both, parts_of, joined, of_parts, template_of, TemplateIsIt}
use Rattle.wf_expr.specs.Texts.{AreParts, IsFaultAt, IsFaultIn, IsFaultOf, IsFirstIn, IsPart, IsTemplateOf, has_expressions, is_whole}
use Rattle.wf_value.specs.Data.{text}
use Rattle.wf_value.specs.Pairs.{Text}

abbrev NoMemory : ExprFault → Type 0
NoMemory f = f ≡ fault.OutOfMemory → ⊥

-- ## Parts
hole_is : (s : Text) (r : Result Expr ExprFault) → MatchResult r (Parses s) (λ f. IsFault s f × NoMemory f) → MatchResult (as_hole r) (IsPart (hole s)) (λ f. IsFaultAt (hole s) f × NoMemory f)
hole_is s (Ok e) h = h
hole_is s (Err f) h = h

part_is : (p : Piece) → MatchResult (part_of p) (IsPart p) (λ f. IsFaultAt p f × NoMemory f)
part_is (said s) = refl
part_is (hole s) = hole_is s (parse s) (parser_is_them s)
part_is (unclosed s) = (refl, λ e. let p : ⊥ = cc in p)

abbrev AreMade : List Piece → Result (List Part) ExprFault → Type 0
AreMade ps r = MatchResult r (AreParts ps) (λ f. IsFirstIn ps f × NoMemory f)

both_are : (p : Piece) (ps : List Piece) (x : Result Part ExprFault) (xs : Result (List Part) ExprFault) → MatchResult x (IsPart p) (λ f. IsFaultAt p f × NoMemory f) → AreMade ps xs → AreMade (p ∷ ps) (both x xs)
both_are p ps (Err f) r h k = (record { before = []; at = p; after = ps; split = refl; sound = tt; faulty = h.0 }, h.1)
both_are p ps (Ok x) (Err f) h k =
    let w = k.0 in
    (record { before = p ∷ w.before; at = w.at; after = w.after; split = ap (λ l. p ∷ l) w.split; sound = ((x, h), w.sound); faulty = w.faulty }, k.1)
both_are p ps (Ok x) (Ok xs) h k = (h, k)

parts_are : (ps : List Piece) → AreMade ps (parts_of ps)
parts_are [] = tt
parts_are (p ∷ ps) = both_are p ps (part_of p) (parts_of ps) (part_is p) (parts_are ps)

-- ## Templates
joined_is : (s : Text) (ps : List Piece) (xs : List Part) → pieces s ≡ ps → has_expressions s ≡ true → AreParts ps xs → IsTemplateOf s (joined xs)
joined_is s [] [] e h k = (h, ap is_whole e, subst (λ (l : List Piece). AreParts l []) (sym e) tt)
joined_is s [] (x ∷ xs) e h k = absurd k
joined_is s (p ∷ ps) [] e h k = absurd k
joined_is s (said a ∷ []) (Said x ∷ []) e h k = (h, ap is_whole e, subst (λ (l : List Piece). AreParts l (Said x ∷ [])) (sym e) k)
joined_is s (hole a ∷ []) (Said x ∷ []) e h k = absurd k.0
joined_is s (unclosed a ∷ []) (Said x ∷ []) e h k = absurd k.0
joined_is s (said a ∷ []) (Hole x ∷ []) e h k = absurd k.0
joined_is s (hole a ∷ []) (Hole x ∷ []) e h k = (a, e, k.0)
joined_is s (unclosed a ∷ []) (Hole x ∷ []) e h k = absurd k.0
joined_is s (p ∷ []) (x ∷ y ∷ xs) e h k = absurd k.1
joined_is s (p ∷ q ∷ ps) (x ∷ []) e h k = absurd k.1
joined_is s (said a ∷ q ∷ ps) (Said x ∷ y ∷ xs) e h k = (h, ap is_whole e, subst (λ (l : List Piece). AreParts l (Said x ∷ y ∷ xs)) (sym e) k)
joined_is s (said a ∷ q ∷ ps) (Hole x ∷ y ∷ xs) e h k = absurd k.0
joined_is s (hole a ∷ q ∷ ps) (Hole x ∷ y ∷ xs) e h k = (h, ap is_whole e, subst (λ (l : List Piece). AreParts l (Hole x ∷ y ∷ xs)) (sym e) k)
joined_is s (hole a ∷ q ∷ ps) (Said x ∷ y ∷ xs) e h k = absurd k.0
joined_is s (unclosed a ∷ q ∷ ps) (x ∷ y ∷ xs) e h k = absurd k.0

told : (ps : List Piece) (f : ExprFault) → IsFirstIn ps f → IsFaultIn ps f
told ps fault.OutOfMemory h = tt
told ps fault.TooLong h = h
told ps (fault.Lex f) h = h
told ps (fault.Syntax at) h = h
told ps (fault.Decimal at) h = h
told ps (fault.UnknownFunction at) h = h
told ps (fault.Arity at) h = h

abbrev IsMade : Text → Result Template ExprFault → Type 0
IsMade s r = MatchResult r (IsTemplateOf s) (λ f. IsFaultOf s f × NoMemory f)

by_parts : (s : Text) (r : Result (List Part) ExprFault) → has_expressions s ≡ true → AreMade (pieces s) r → IsMade s (of_parts r)
by_parts s (Ok xs) h k = joined_is s (pieces s) xs refl h k
by_parts s (Err f) h k = (told (pieces s) f k.0, k.1)

by_kind : (s : Text) (b : Bool) → has_expressions s ≡ b → IsMade s (if b then of_parts (parts_of (pieces s)) else Ok (Scalar (text s)))
by_kind s true h = by_parts s (parts_of (pieces s)) h (parts_are (pieces s))
by_kind s false h = (h, refl)

pub template_is_it : TemplateIsIt
unfolding template_of
template_is_it s = by_kind s (has_expressions s) refl
