-- What the functions answer that look for faults.
use Rattle.std.specs.Prelude.{Bool, List, [], ◌∷◌, Option, Some, None}
use Rattle.wf_expr.specs.Calls.{faults_at}
use Rattle.wf_expr.specs.Symbols.{Sym, Placed, syms}
use Rattle.wf_expr.specs.Symbols as sym
use Rattle.wf_expr.specs.declared.fault.ExprFault.{ExprFault}
use Rattle.wf_value.specs.Pairs.{Text}

abbrev pub first_of : List ExprFault → Option ExprFault
first_of [] = None
first_of (f ∷ more) = Some f

-- the faults of the first symbol
abbrev pub faults_here : Bool → List Placed → List ExprFault
faults_here behind_point [] = []
faults_here behind_point (p ∷ ps) = faults_at behind_point p.at p.sym (syms ps)

-- the name behind the point that stands first
abbrev pub key_behind : List Sym → Option Text
key_behind (sym.point ∷ sym.name x ∷ ss) = Some x
key_behind ss = None
