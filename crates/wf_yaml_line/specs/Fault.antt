-- The ten kinds of fault, and which of two faults speaks.
use Rattle.std.specs.Prelude.{ℕ, Bool, true, false, cond, ◌&&◌, ◌||◌, ◌==◌, nat_lt, nat_le, Option, Some, None, Result, Ok, Err}
use Rattle.wf_yaml_line.specs.declared.fault.Kind.{Kind}
pub use Rattle.wf_yaml_line.specs.declared.fault.Fault.{Fault}
use Rattle.wf_yaml_line.specs.declared.fault.Kind.TheVariants as kinds

-- where a kind stands in the order
abbrev pub rank : Kind → ℕ
rank kinds.Tab = 1
rank kinds.Indentation = 2
rank kinds.DoubleKey = 3
rank kinds.Anchor = 4
rank kinds.Tag = 5
rank kinds.Flow = 6
rank kinds.Quote = 7
rank kinds.Decimal = 8
rank kinds.Unsupported = 9
rank kinds.TooDeep = 10

-- the earlier line speaks, and in one line the lower kind
abbrev pub speaks_before : Fault → Fault → Bool
speaks_before f g = nat_lt f.line g.line || (f.line == g.line && nat_le (rank f.kind) (rank g.kind))

abbrev pub first_of_two : Fault → Fault → Fault
first_of_two f g = cond (speaks_before f g) f g

-- Two parts are read on their own. Of their faults the first speaks.
abbrev pub both : {A B C : Type 0} → (A → B → C) → Result A Fault → Result B Fault → Result C Fault
both f (Ok a) (Ok b) = Ok (f a b)
both f (Ok a) (Err h) = Err h
both f (Err g) (Ok b) = Err g
both f (Err g) (Err h) = Err (first_of_two g h)

-- what was read, changed
abbrev pub given : {A B : Type 0} → (A → B) → Result A Fault → Result B Fault
given f (Ok a) = Ok (f a)
given f (Err g) = Err g

-- of two parts the first
abbrev pub kept : {A B : Type 0} → A → B → A
kept a b = a

-- a refusing sentence that holds where the flag is set
abbrev pub refuse_if : Bool → ℕ → Kind → Result (Unit {0}) Fault
refuse_if true n k = Err (record { line = n; kind = k })
refuse_if false n k = Ok tt

-- a refusal in line n
abbrev pub refuse : {A : Type 0} → ℕ → Kind → Result A Fault
refuse n k = Err (record { line = n; kind = k })

-- a fault that was noted, or none
abbrev pub noted : Option Fault → Result (Unit {0}) Fault
noted None = Ok tt
noted (Some f) = Err f
