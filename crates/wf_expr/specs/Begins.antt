-- What it is that symbols begin an expression, and how far they do. The same is said of targets: `Is` tells which symbols are one.
use Rattle.std.specs.Prelude.{◌≡◌, List, [], ◌∷◌, ◌++◌}
use Rattle.wf_expr.specs.Grammar.{Ors, or_text}
use Rattle.wf_expr.specs.Symbols.{Sym, Placed, syms}

abbrev pub IsExpression : List Sym → Type 0
IsExpression ts = (d : Ors) × (or_text d ≡ ts)

-- more symbols make one of these
abbrev pub BeginsOne : (List Sym → Type 0) → List Sym → Type 0
BeginsOne Is ts = (more : List Sym) × Is (ts ++ more)

-- these symbols with the next one begin none, if there is a next one
abbrev pub GoesNoFurther : (List Sym → Type 0) → List Placed → List Placed → Type 0
GoesNoFurther Is before [] = Unit {0}
GoesNoFurther Is before (p ∷ rest) = BeginsOne Is (syms before ++ p.sym ∷ []) → ⊥

-- the symbols of a text, cut behind the last with which they begin one
pub record CutOf (Is : List Sym → Type 0) (all before rest : List Placed) : Type 0 where
  pub whole : all ≡ before ++ rest
  pub begins : BeginsOne Is (syms before)
  pub goes_no_further : GoesNoFurther Is before rest
