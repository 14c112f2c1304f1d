-- What one instruction does to the stack.
use Rattle.std.specs.Prelude.{◌≡◌, ℕ, List, [], ◌∷◌, map, reverse, Result, Ok, Err}
use Rattle.wf_ast.specs.Apply.{View}
use Rattle.wf_ast.specs.Machine.{Instr, Stack, Next, act}
use Rattle.wf_value.specs.Data.{Data}
use Rattle.wf_value.specs.Errors.{Answer, ◌>>=◌, kept}
use Rattle.wf_value.specs.Plain.{plain}
use Rattle.wf_value.specs.declared.errors.Raise.{Raise}
use Rattle.wf_value.specs.declared.errors.Raise.TheVariants.{Error, OutOfMemory}
use Rattle.wf_value.specs.declared.errors.Tag.TheVariants.{TypeError}
use Rattle.wf_value.specs.declared.value.Value.{Value}
use Rattle.wf_eval.specs.Sight.{Sight, seen}

-- the stack, the topmost first
abbrev pub tops : List Value → Stack
tops vs = reverse (map plain vs)

-- this leads on, behind so many instructions and with this stack, or raises an error
abbrev pub Leads : (Next → Answer Stack) → Result ℕ Raise → Stack → Type 0
Leads go (Ok n) after = (next : Next) → go next ≡ next n after
Leads go (Err (Error t)) after = (next : Next) → go next ≡ Err t
Leads go (Err OutOfMemory) after = Unit {0}

-- one instruction leads on
abbrev pub Steps : View → Instr → Stack → Result ℕ Raise → Stack → Type 0
Steps s i st r after = Leads (λ next. act s i next st) r after

-- a value goes on the stack, if it keeps within the limits
abbrev pub settled : Answer Data → Stack → Next → Answer Stack
settled d st next = d >>= kept >>= λ x. next 0 (x ∷ st)

-- nothing comes next
abbrev pub alone : Next
alone k st = Ok st

-- this value is left alone, or the error comes
abbrev pub Leaves : Result Value Raise → Answer Stack → Type 0
Leaves (Ok v) a = a ≡ Ok (plain v ∷ [])
Leaves (Err (Error t)) a = a ≡ Err t
Leaves (Err OutOfMemory) a = Unit {0}

-- this value is put on these others and what comes next goes on, or the error comes
abbrev pub Puts : Result Value Raise → Next → Stack → Answer Stack → Type 0
Puts (Ok v) next st a = a ≡ next 0 (plain v ∷ st)
Puts (Err (Error t)) next st a = a ≡ Err t
Puts (Err OutOfMemory) next st a = Unit {0}

-- an instruction puts this value on the stack, and does nothing else
abbrev pub IsOperand : Sight → Instr → Data → Type 0
IsOperand s i d = (now : ℕ) (next : Next) (st : Stack) → act (seen s now) i next st ≡ next 0 (d ∷ st)

-- a value that was put on the stack
abbrev pub Pushes : Result ℕ Raise → Stack → Stack → Type 0
Pushes (Ok n) st after = (n ≡ 0) × (st ≡ after)
Pushes (Err OutOfMemory) st after = Unit {0}
Pushes (Err (Error t)) st after = ⊥

-- the topmost value that was taken
abbrev pub Pops : Result Value Raise → Stack → Stack → Type 0
Pops (Ok v) before after = before ≡ plain v ∷ after
Pops (Err OutOfMemory) before after = ⊥
Pops (Err (Error t)) before after = (before ≡ []) × (t ≡ TypeError)
