-- The names of kinds.
use Rattle.std.specs.Prelude.{codes}
use Rattle.wf_diagnostics.specs.declared.kind.CheckKind.{CheckKind}
use Rattle.wf_diagnostics.specs.declared.kind.CheckKind.TheVariants as kinds
use Rattle.wf_value.specs.Pairs.{Text}

-- as a refusal prints it
abbrev pub kind_name : CheckKind → Text
kind_name kinds.EmptySteps = codes "EmptySteps"
kind_name kinds.DoubleStep = codes "DoubleStep"
kind_name kinds.UnknownStep = codes "UnknownStep"
kind_name kinds.JumpOutOfScope = codes "JumpOutOfScope"
kind_name kinds.BreakOutsideLoop = codes "BreakOutsideLoop"
kind_name kinds.ReturnInBranch = codes "ReturnInBranch"
kind_name kinds.UndeclaredWrite = codes "UndeclaredWrite"
kind_name kinds.UnknownShared = codes "UnknownShared"
kind_name kinds.UnknownName = codes "UnknownName"
kind_name kinds.UnknownCall = codes "UnknownCall"
kind_name kinds.BadArgument = codes "BadArgument"
kind_name kinds.TooMany = codes "TooMany"
kind_name kinds.NotYet = codes "NotYet"
