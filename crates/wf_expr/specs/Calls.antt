-- The faults that symbols have besides the grammar: decimals, and calls of no function or with too few or too many arguments. They are
-- looked for in symbols that begin an expression: there a name is a function's where a `(` stands behind it and the names that its points
-- join to it.
--     faults_in     all of them, in the order of their places
use Rattle.std.specs.Prelude.{ℕ, zero, suc, ◌+◌, Bool, true, false, ◌&&◌, List, [], ◌∷◌, ◌++◌, length, if◌then◌else◌, nat_le, codes, Option, Some, None, option_map}
use Rattle.wf_ast.specs.Func.{Listing, Signature, func_named}
use Rattle.wf_expr.specs.Symbols.{Sym, Placed, syms}
use Rattle.wf_expr.specs.Symbols as sym
use Rattle.wf_expr.specs.declared.fault.ExprFault.{ExprFault}
use Rattle.wf_expr.specs.declared.fault.ExprFault.TheVariants as fault
use Rattle.wf_expr.specs.declared.role.Role.{Role}
use Rattle.wf_expr.specs.declared.role.Role.TheVariants.{Opens, Closes, Parts, GoesOn}
use Rattle.wf_value.specs.Pairs.{Text}

-- ## Arguments
-- what a symbol is to the arguments of a call
abbrev pub role : Sym → Role
role sym.left_paren = Opens
role sym.left_bracket = Opens
role sym.right_paren = Closes
role sym.right_bracket = Closes
role sym.comma = Parts
role s = GoesOn

abbrev pub after_role : Role → ℕ → ℕ → (ℕ → ℕ → Option ℕ) → Option ℕ
after_role Opens depth n more = more (suc depth) n
after_role Closes zero n more = Some n
after_role Closes (suc depth) n more = more depth n
after_role Parts zero n more = more zero (suc n)
after_role Parts (suc depth) n more = more (suc depth) n
after_role GoesOn depth n more = more depth n

-- How many commas of a call's own stand before the bracket that closes it, if one does. The first number tells how many brackets were
-- opened since, and the second how many commas were passed.
abbrev pub commas_to_close : ℕ → ℕ → List Sym → Option ℕ
commas_to_close depth n [] = None
commas_to_close depth n (s ∷ ss) = after_role (role s) depth n (λ d m. commas_to_close d m ss)

-- how many arguments a call has whose `(` these symbols follow, if it is closed in them
abbrev pub arguments : List Sym → Option ℕ
arguments (sym.right_paren ∷ ss) = Some 0
arguments ss = option_map suc (commas_to_close 0 0 ss)

abbrev pub takes_so_many : Signature → ℕ → Bool
takes_so_many g n = nat_le (length g.needs) n && nat_le n (length g.needs + length g.may)

-- ## Calls
-- the fault of a call of a name at a place: of the function that has the name, and with so many arguments, if it is closed
abbrev pub call_faults : ℕ → Option Listing → Option ℕ → List ExprFault
call_faults at None n = fault.UnknownFunction at ∷ []
call_faults at (Some f) None = []
call_faults at (Some f) (Some n) = if takes_so_many f.signature n then [] else fault.Arity at ∷ []

-- the fault of a name at a place, with the names that its points join to it, where a `(` stands behind
abbrev pub name_faults : ℕ → Text → List Sym → List ExprFault
name_faults at x (sym.point ∷ sym.name y ∷ ss) = name_faults at (x ++ codes "." ++ y) ss
name_faults at x (sym.left_paren ∷ ss) = call_faults at (func_named x) (arguments ss)
name_faults at x ss = []

-- ## All of them
-- A name behind a point begins no function's name.
abbrev pub faults_at : Bool → ℕ → Sym → List Sym → List ExprFault
faults_at behind_point at sym.decimal ss = fault.Decimal at ∷ []
faults_at false at (sym.name x) ss = name_faults at x ss
faults_at behind_point at s ss = []

abbrev pub is_point : Sym → Bool
is_point sym.point = true
is_point s = false

-- the flag tells that a point stands before
abbrev pub faults_in : Bool → List Placed → List ExprFault
faults_in behind_point [] = []
faults_in behind_point (p ∷ ps) = faults_at behind_point p.at p.sym (syms ps) ++ faults_in (is_point p.sym) ps
