-- The faults of symbols, one symbol after the other.
use Rattle.std.proofs.Common.{◌≡◌, nat_le, ◌&&◌, ℕ, Bool, true, false, List, [], ◌∷◌, ◌++◌, drop, codes, Option, Some, None, option_map, if◌then◌else◌, refl, sym, ap, ◌∙◌}
use Rattle.std.specs.List.{AllByRecursion}
use Rattle.std.proofs.lemmas.Option.{same_Some}
use Rattle.wf_ast.specs.Func.{Listing, func_named}
use Rattle.wf_expr.specs.Callees.{callee_of}
use Rattle.wf_expr.specs.Calls.{arguments, call_faults, faults_at, faults_in, name_faults, takes_so_many}
use Rattle.wf_expr.specs.Calls as calls
use Rattle.wf_expr.specs.Judging.{OfSymbols}
use Rattle.wf_expr.specs.Machine.{head, is_left_paren}
use Rattle.wf_expr.specs.Scanning.{first_of, key_behind}
use Rattle.wf_expr.specs.Symbols.{Sym, Placed, syms}
use Rattle.wf_expr.specs.Symbols as s
use Rattle.wf_expr.specs.declared.callee.Callee.{Callee}
use Rattle.wf_expr.specs.declared.fault.ExprFault.{ExprFault}
use Rattle.wf_expr.specs.declared.fault.ExprFault.TheVariants as fault
use Rattle.wf_value.specs.Pairs.{Text}

-- ## The first of faults
pub first_none : (l : List ExprFault) → None ≡ first_of l → l ≡ []
first_none [] h = refl
first_none (f ∷ l) h = let x : ⊥ = cc in absurd x

pub first_some : (l : List ExprFault) (f : ExprFault) → Some f ≡ first_of l → (more : List ExprFault) × (l ≡ f ∷ more)
first_some [] f h = let x : ⊥ = cc in absurd x
first_some (g ∷ l) f h = (l, ap (λ x. x ∷ l) (sym (same_Some f g h)))

-- ## Names

pub name_more : (at : ℕ) (x y : Text) (ss : List Sym) → key_behind ss ≡ Some y → name_faults at (x ++ codes "." ++ y) (drop 1 (drop 1 ss)) ≡ name_faults at x ss
name_more at x y (s.point ∷ s.name z ∷ ss) h = ap (λ w. name_faults at (x ++ codes "." ++ w) ss) (sym (same_Some z y h))
name_more at x y ss h = let p : ⊥ = cc in absurd p

pub name_called : (at : ℕ) (x : Text) (ss : List Sym) → is_left_paren (head ss) ≡ true → name_faults at x ss ≡ call_faults at (func_named x) (arguments (drop 1 ss))
name_called at x (s.left_paren ∷ ss) h = refl
name_called at x ss h = let p : ⊥ = cc in absurd p

-- ## Texts that grow
-- a name with one more behind a point
pub joined : (x1 x2 x p w y : Text) → x1 ≡ x ++ p → p ≡ codes "." → x2 ≡ x1 ++ w → w ≡ y → x2 ≡ x ++ codes "." ++ y
joined x1 x2 x p w y a b c d =
    c
    ∙ ap (λ l. l ++ w) a
    ∙ ap (λ l. (x ++ l) ++ w) b
    ∙ ap (λ l. (x ++ codes ".") ++ l) d

pub joined_faults : (at : ℕ) (x1 x y : Text) (s1 s2 ss : List Sym) (l : List ExprFault) → x1 ≡ x ++ codes "." ++ y → s1 ≡ drop 1 ss → s2 ≡ drop 1 s1 → key_behind ss ≡ Some y → name_faults at x ss ≡ l → name_faults at x1 s2 ≡ l
joined_faults at x1 x y s1 s2 ss l a b c d e =
    ap (λ w. name_faults at w s2) a
    ∙ ap (λ w. name_faults at (x ++ codes "." ++ y) w) (c ∙ ap (drop 1) b)
    ∙ name_more at x y ss d
    ∙ e

pub called_faults : (at : ℕ) (x1 x : Text) (s1 ss : List Sym) (f : Option ExprFault) (l : List ExprFault) → f ≡ first_of (call_faults at (func_named x1) (arguments s1)) → x1 ≡ x → s1 ≡ drop 1 ss → is_left_paren (head ss) ≡ true → name_faults at x ss ≡ l → f ≡ first_of l
called_faults at x1 x s1 ss f l a b c d e =
    a
    ∙ ap (λ w. first_of (call_faults at (func_named w) (arguments s1))) b
    ∙ ap (λ w. first_of (call_faults at (func_named x) (arguments w))) c
    ∙ ap first_of (sym (name_called at x ss d) ∙ e)

-- ## Calls
-- the fault of a call at a place, by what is called and with how many arguments
abbrev pub call_fault_of : ℕ → Option Callee → Option ℕ → Option ExprFault
call_fault_of at None m = Some (fault.UnknownFunction at)
call_fault_of at (Some f) None = None
call_fault_of at (Some f) (Some n) = if nat_le f.least n && nat_le n f.most then None else Some (fault.Arity at)

by_test : (at : ℕ) (b : Bool) → first_of (if b then [] else fault.Arity at ∷ []) ≡ (if b then None else Some (fault.Arity at))
by_test at true = refl
by_test at false = refl

pub same_fault : (at : ℕ) (o : Option Listing) (m : Option ℕ) → first_of (call_faults at o m) ≡ call_fault_of at (option_map callee_of o) m
same_fault at None m = refl
same_fault at (Some g) None = refl
same_fault at (Some g) (Some n) = by_test at (takes_so_many g.signature n)

-- ## Each fault is one of symbols
both : (l m : List ExprFault) → AllByRecursion OfSymbols l → AllByRecursion OfSymbols m → AllByRecursion OfSymbols (l ++ m)
both [] m h k = k
both (f ∷ l) m h k = (h.0, both l m h.1 k)

by_taking : (b : Bool) (at : ℕ) → AllByRecursion OfSymbols (if b then [] else fault.Arity at ∷ [])
by_taking true at = tt
by_taking false at = (tt, tt)

of_call : (at : ℕ) (f : Option Listing) (n : Option ℕ) → AllByRecursion OfSymbols (call_faults at f n)
of_call at None n = (tt, tt)
of_call at (Some f) None = tt
of_call at (Some f) (Some n) = by_taking (takes_so_many f.signature n) at

of_name : (at : ℕ) (x : Text) (ss : List Sym) → AllByRecursion OfSymbols (name_faults at x ss)
of_name at x (s.point ∷ s.name y ∷ ss) = of_name at (x ++ codes "." ++ y) ss
of_name at x (s.left_paren ∷ ss) = of_call at (func_named x) (arguments ss)
of_name at x ss = tt

of_one : (b : Bool) (at : ℕ) (t : Sym) (ss : List Sym) → AllByRecursion OfSymbols (faults_at b at t ss)
of_one b at s.decimal ss = (tt, tt)
of_one false at (s.name x) ss = of_name at x ss
of_one b at t ss = tt

pub of_symbols : (b : Bool) (ps : List Placed) → AllByRecursion OfSymbols (faults_in b ps)
of_symbols b [] = tt
of_symbols b (p ∷ ps) = both (faults_at b p.at p.sym (syms ps)) (faults_in (calls.is_point p.sym) ps) (of_one b p.at p.sym (syms ps)) (of_symbols (calls.is_point p.sym) ps)
