-- What a refusal says.
use Rattle.std.specs.Prelude.{Result, Ok, Err}
use Rattle.wf_yaml_line.specs.declared.fault.Fault.{Fault}
use Rattle.wf_yaml_line.specs.declared.fault.YamlFault.{YamlFault}
use Rattle.wf_yaml_line.specs.declared.fault.YamlFault.TheVariants as faults

-- where the answer is a refusal, this holds of its fault
abbrev pub IfRefused : {A : Type 0} → Result A YamlFault → (Fault → Type 0) → Type 0
IfRefused (Ok a) P = Unit {0}
IfRefused (Err (faults.Refused f)) P = P f
IfRefused (Err faults.OutOfMemory) P = Unit {0}
