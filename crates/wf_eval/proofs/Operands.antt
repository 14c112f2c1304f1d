-- What short code leaves on an empty stack.
use Rattle.std.proofs.Common.{◌≡◌, ◌<◌, ◌≤◌, ◌-◌, ℕ, List, [], ◌∷◌, length, get_or, take, drop, Option, Some, None, IfSome, Result, Ok, Err, sym, ap, subst, ◌∙◌, arith}
use Rattle.std.proofs.lemmas.List.{take_rest}
use Rattle.wf_ast.specs.Apply.{View}
use Rattle.wf_ast.specs.Instrs.{instr, instrs}
use Rattle.wf_ast.specs.Machine as m
use Rattle.wf_ast.specs.Machine.{Next, Stack, act, exec}
use Rattle.wf_ast.specs.declared.code.Instr.{Instr}
use Rattle.wf_value.specs.Data.{Data}
use Rattle.wf_value.specs.Errors.{Answer}
use Rattle.wf_value.specs.declared.errors.Raise.{Raise}
use Rattle.wf_value.specs.declared.errors.Raise.TheVariants.{Error, OutOfMemory}
use Rattle.wf_value.specs.declared.value.Value.{Value}
use Rattle.wf_eval.specs.Sight.{Sight, seen}
use Rattle.wf_eval.specs.Steps.{IsOperand, Leaves, Puts, alone}

module _ {X : Type 0} where
  pub one_item : (xs : List X) (a : X) → 1 ≤ length xs → length xs < 2 → a ≡ get_or xs 0 a → xs ≡ a ∷ []
  one_item [] a l m e = absurd (omega (arith, l))
  one_item (x ∷ []) a l m e = ap (λ u. u ∷ []) (sym e)
  one_item (x ∷ y ∷ ys) a l m e = absurd (omega (arith, m))

  pub three_items : (xs : List X) (a b c : X) → 3 ≤ length xs → length xs < 4 → a ≡ get_or xs 0 a → b ≡ get_or xs 1 b → c ≡ get_or xs 2 c → xs ≡ a ∷ b ∷ c ∷ []
  three_items [] a b c l m e f g = absurd (omega (arith, l))
  three_items (x ∷ []) a b c l m e f g = absurd (omega (arith, l))
  three_items (x ∷ y ∷ []) a b c l m e f g = absurd (omega (arith, l))
  three_items (x ∷ y ∷ z ∷ []) a b c l m e f g = ap (λ u. u ∷ y ∷ z ∷ []) (sym e) ∙ ap (λ u. a ∷ u ∷ z ∷ []) (sym f) ∙ ap (λ u. a ∷ b ∷ u ∷ []) (sym g)
  three_items (x ∷ y ∷ z ∷ w ∷ ws) a b c l m e f g = absurd (omega (arith, m))

  -- two items, and those behind them
  pub two_and_rest : (xs : List X) (a b : X) → 2 ≤ length xs → a ≡ get_or xs 0 a → b ≡ get_or xs 1 b → xs ≡ a ∷ b ∷ take (length xs - 2) (drop 2 xs)
  two_and_rest [] a b l e f = absurd (omega (arith, l))
  two_and_rest (x ∷ []) a b l e f = absurd (omega (arith, l))
  two_and_rest (x ∷ y ∷ ys) a b l e f =
      ap (λ z. z ∷ y ∷ ys) (sym e) ∙ ap (λ z. a ∷ z ∷ ys) (sym f) ∙ ap (λ zs. a ∷ b ∷ zs) (sym (take_rest (x ∷ y ∷ ys) 2))

ends : (s : View) → exec s [] ≡ alone
ends s = λ j k st. Ok st

pub one_leaves : (r : Option (Result Value Raise)) (is : List Instr) (a : Instr) (s : Sight) → is ≡ a ∷ [] → IfSome r (λ q. (now : ℕ) → Leaves q (act (seen s now) (instr a) alone []))
    → IfSome r (λ q. (now : ℕ) → Leaves q (exec (seen s now) (instrs is) 0 []))
one_leaves None is a s e h = tt
one_leaves (Some q) is a s e h =
    λ now. subst (λ (js : List Instr). Leaves q (exec (seen s now) (instrs js) 0 [])) (sym e) (subst (λ (k : Next). Leaves q (act (seen s now) (instr a) k [])) (sym (ends (seen s now))) (h now))

-- what some instructions leave
abbrev Left : Option (Result Value Raise) → Sight → List m.Instr → Stack → Type 0
Left r s is st = IfSome r (λ q. (now : ℕ) → Leaves q (exec (seen s now) is 0 st))

-- the last instruction
pub last_leaves : (r : Option (Result Value Raise)) (s : Sight) (i : m.Instr) (v w : Data)
    → IfSome r (λ q. (t : View) (next : Next) (st : Stack) → Puts q next st (act t i next (w ∷ v ∷ st))) → Left r s (i ∷ []) (w ∷ v ∷ [])
last_leaves None s i v w h = tt
last_leaves (Some (Ok x)) s i v w h = λ now. h (seen s now) (exec (seen s now) []) []
last_leaves (Some (Err (Error t))) s i v w h = λ now. h (seen s now) (exec (seen s now) []) []
last_leaves (Some (Err OutOfMemory)) s i v w h = λ now. tt

-- two operands, and what comes behind them
pub pair_leaves : (r : Option (Result Value Raise)) (is rest : List Instr) (a b : Instr) (s : Sight) (v w : Data) → is ≡ a ∷ b ∷ rest → IsOperand s (instr a) v → IsOperand s (instr b) w
    → Left r s (instrs rest) (w ∷ v ∷ []) → Left r s (instrs is) []
pair_leaves None is rest a b s v w e p o h = tt
pair_leaves (Some q) is rest a b s v w e p o h =
    λ now. subst (λ (js : List Instr). Leaves q (exec (seen s now) (instrs js) 0 [])) (sym e)
    (subst (λ (d : Answer Stack). Leaves q d) (sym (p now (exec (seen s now) (instr b ∷ instrs rest)) [] ∙ o now (exec (seen s now) (instrs rest)) (v ∷ []))) (h now))
