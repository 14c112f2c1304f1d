-- The parts that pieces are, one after the other.
use Rattle.std.proofs.Common.{◌≡◌, ◌<◌, ◌+◌, ℕ, suc, List, [], ◌∷◌, ◌++◌, length, get_or, take, drop, map, Bor, refl, sym, ap, ◌∙◌, subst, arith, length-append, take-append-drop}
use Rattle.std.proofs.Math.Seq.{drop-cons}
use Rattle.std.proofs.lemmas.List.{map-append, take_more}
use Rattle.std.specs.List.{AllByRecursion}
use Rattle.wf_ast.specs.Tree.{Part}
use Rattle.wf_expr.specs.Parsing.{IsFault}
use Rattle.wf_expr.specs.declared.fault.ExprFault.{ExprFault}
use Rattle.wf_expr.specs.declared.fault.ExprFault.TheVariants as fault
use Rattle.wf_expr.specs.Pieces.{Piece, hole, unclosed, pieces}
use Rattle.wf_expr.specs.Splits.{piece_of}
use Rattle.wf_expr.specs.Texts.{AreParts, IsFaultAt, IsFaultIn, IsFaultOf, IsFirstIn, IsPart, IsSound, end_of}
use Rattle.wf_expr.specs.declared.piece.Piece.{Piece as PieceInMemory}
use Rattle.wf_expr.specs.declared.piece.Piece.TheVariants as p
use Rattle.wf_value.specs.Pairs.{Text}

pub parts_more : (ps : List Piece) (p : Piece) (xs : List Part) (x : Part) → AreParts ps xs → IsPart p x → AreParts (ps ++ p ∷ []) (xs ++ x ∷ [])
parts_more [] p [] x h k = (k, tt)
parts_more [] p (y ∷ ys) x h k = absurd h
parts_more (q ∷ ps) p [] x h k = absurd h
parts_more (q ∷ ps) p (y ∷ ys) x h k = (h.0, parts_more ps p ys x h.1 k)

all_sound : (ps : List Piece) (xs : List Part) → AreParts ps xs → AllByRecursion IsSound ps
all_sound [] [] h = tt
all_sound [] (y ∷ ys) h = absurd h
all_sound (p ∷ ps) [] h = absurd h
all_sound (p ∷ ps) (x ∷ xs) h = ((x, h.0), all_sound ps xs h.1)

-- ## Faults
pub told : (ps : List Piece) (f : ExprFault) → IsFirstIn ps f → IsFaultIn ps f
told ps fault.OutOfMemory h = tt
told ps fault.TooLong h = h
told ps (fault.Lex f) h = h
told ps (fault.Syntax at) h = h
told ps (fault.Decimal at) h = h
told ps (fault.UnknownFunction at) h = h
told ps (fault.Arity at) h = h

first_alone : (p : Piece) (f : ExprFault) → IsFaultAt p f → IsFirstIn (p ∷ []) f
first_alone p f h = record { before = []; at = p; after = []; split = refl; sound = tt; faulty = h }

pub hole_alone : (s : Text) (f : ExprFault) → IsFault s f → IsFaultIn (hole s ∷ []) f
hole_alone s f h = told (hole s ∷ []) f (first_alone (hole s) f h)

-- the fault of an expression that is a whole text
pub whole_fault : (s h : Text) (ps : List Piece) (f : ExprFault) → ps ≡ pieces s → ps ≡ hole h ∷ [] → IsFault h f → IsFaultOf s f
whole_fault s h ps f e k g = subst (λ (l : List Piece). IsFaultIn l f) (sym k ∙ e) (hole_alone h f g)

pub open_alone : (s : Text) → IsFaultIn (unclosed s ∷ []) (fault.Syntax (end_of s))
open_alone s = first_alone (unclosed s) (fault.Syntax (end_of s)) refl

one_faulty : (p : Piece) (f : ExprFault) (before : List Piece) (at : Piece) (after : List Piece) → p ∷ [] ≡ before ++ at ∷ after → IsFaultAt at f → IsFaultAt p f
one_faulty p f [] at after e h = let same : at ≡ p = cc in subst (λ (x : Piece). IsFaultAt x f) same h
one_faulty p f (b ∷ before) at after e h = absurd (omega (arith, ap length e, length-append before (at ∷ after)))

first_behind : (before after : List Piece) (p : Piece) (xs : List Part) (f : ExprFault) → AreParts before xs → IsFirstIn (p ∷ []) f → IsFirstIn (before ++ p ∷ after) f
first_behind before after p xs f h k =
    record { before = before; at = p; after = after; split = refl; sound = all_sound before xs h; faulty = one_faulty p f k.before k.at k.after k.split k.faulty }

pub fault_behind : (before after : List Piece) (p : Piece) (xs : List Part) (f : ExprFault) → AreParts before xs → IsFaultIn (p ∷ []) f → IsFaultIn (before ++ p ∷ after) f
fault_behind before after p xs fault.OutOfMemory h k = tt
fault_behind before after p xs fault.TooLong h k = first_behind before after p xs fault.TooLong h k
fault_behind before after p xs (fault.Lex f) h k = first_behind before after p xs (fault.Lex f) h k
fault_behind before after p xs (fault.Syntax at) h k = first_behind before after p xs (fault.Syntax at) h k
fault_behind before after p xs (fault.Decimal at) h k = first_behind before after p xs (fault.Decimal at) h k
fault_behind before after p xs (fault.UnknownFunction at) h k = first_behind before after p xs (fault.UnknownFunction at) h k
fault_behind before after p xs (fault.Arity at) h k = first_behind before after p xs (fault.Arity at) h k

-- ## Pieces in memory
pub hole_fault : (m : PieceInMemory) (s : Bor (List ℕ)) (f : ExprFault) → m ≡ p.Hole s → IsFault s.now f → IsFaultIn (piece_of m ∷ []) f
hole_fault m s f e h = subst (λ (x : PieceInMemory). IsFaultIn (piece_of x ∷ []) f) (sym e) (hole_alone s.now f h)

pub open_fault : (m : PieceInMemory) (s : Bor (List ℕ)) → m ≡ p.Unclosed s → IsFirstIn (piece_of m ∷ []) (fault.Syntax (end_of s.now))
open_fault m s e = subst (λ (x : PieceInMemory). IsFirstIn (piece_of x ∷ []) (fault.Syntax (end_of s.now))) (sym e) (open_alone s.now)

split_at : (ms : List PieceInMemory) (i : ℕ) (d : PieceInMemory) → i < length ms → map piece_of ms ≡ map piece_of (take i ms) ++ piece_of (get_or ms i d) ∷ map piece_of (drop (suc i) ms)
split_at ms i d l =
    ap (map piece_of) (sym (take-append-drop i ms) ∙ ap (λ x. take i ms ++ x) (drop-cons ms i d l))
    ∙ map-append piece_of (take i ms) (get_or ms i d ∷ drop (suc i) ms)

pub fault_at : (ms : List PieceInMemory) (i : ℕ) (d : PieceInMemory) (xs : List Part) (f : ExprFault) → i < length ms → AreParts (map piece_of (take i ms)) xs → IsFaultIn (piece_of (get_or ms i d) ∷ []) f → IsFaultIn (map piece_of ms) f
fault_at ms i d xs f l h k =
    subst (λ (ps : List Piece). IsFaultIn ps f) (sym (split_at ms i d l)) (fault_behind (map piece_of (take i ms)) (map piece_of (drop (suc i) ms)) (piece_of (get_or ms i d)) xs f h k)

pub next_part : (ms : List PieceInMemory) (i : ℕ) (d : PieceInMemory) (xs ys : List Part) (x : Part) → i < length ms → AreParts (map piece_of (take i ms)) xs → IsPart (piece_of (get_or ms i d)) x → ys ≡ xs ++ x ∷ [] → AreParts (map piece_of (take (i + 1) ms)) ys
next_part ms i d xs ys x l h k e =
    let m = ap (map piece_of) (take_more ms i d l) ∙ map-append piece_of (take i ms) (get_or ms i d ∷ []) in
    rw (m, e) (parts_more (map piece_of (take i ms)) (piece_of (get_or ms i d)) xs x h k)
