-- Refusals of a source: the name of a kind, the text of a place, and the two in one line.
use Rattle.std.specs.Prelude.{ℕ, List, ◌++◌, codes, decimal}
use Rattle.wf_value.specs.Paths.{path_text}
use Rattle.wf_status.specs.declared.kind.RefusalKind.{RefusalKind}
use Rattle.wf_status.specs.declared.kind.RefusalKind.TheVariants as kind
use Rattle.wf_status.specs.declared.place.Place.{Place}
use Rattle.wf_status.specs.declared.place.Place.TheVariants as place
use Rattle.wf_status.specs.declared.refusal.Refusal.{Refusal}

-- the name of a kind
abbrev pub kind_name : RefusalKind → List ℕ
kind_name kind.SourceTooLong = codes "SourceTooLong"
kind_name kind.BadUtf8 = codes "BadUtf8"
kind_name kind.NotJson = codes "NotJson"
kind_name kind.TooDeep = codes "TooDeep"
kind_name kind.Decimal = codes "Decimal"
kind_name kind.Tab = codes "Tab"
kind_name kind.Indentation = codes "Indentation"
kind_name kind.DoubleKey = codes "DoubleKey"
kind_name kind.Anchor = codes "Anchor"
kind_name kind.Tag = codes "Tag"
kind_name kind.Flow = codes "Flow"
kind_name kind.Quote = codes "Quote"
kind_name kind.Unsupported = codes "Unsupported"
kind_name kind.NotAStep = codes "NotAStep"
kind_name kind.UnknownField = codes "UnknownField"
kind_name kind.MissingField = codes "MissingField"
kind_name kind.WrongKind = codes "WrongKind"
kind_name kind.BadCharacter = codes "BadCharacter"
kind_name kind.OpenText = codes "OpenText"
kind_name kind.Syntax = codes "Syntax"
kind_name kind.UnknownFunction = codes "UnknownFunction"
kind_name kind.Arity = codes "Arity"
kind_name kind.TooLong = codes "TooLong"
kind_name kind.EmptySteps = codes "EmptySteps"
kind_name kind.DoubleStep = codes "DoubleStep"
kind_name kind.UnknownStep = codes "UnknownStep"
kind_name kind.JumpOutOfScope = codes "JumpOutOfScope"
kind_name kind.BreakOutsideLoop = codes "BreakOutsideLoop"
kind_name kind.ReturnInBranch = codes "ReturnInBranch"
kind_name kind.UndeclaredWrite = codes "UndeclaredWrite"
kind_name kind.UnknownShared = codes "UnknownShared"
kind_name kind.UnknownName = codes "UnknownName"
kind_name kind.UnknownCall = codes "UnknownCall"
kind_name kind.BadArgument = codes "BadArgument"
kind_name kind.TooMany = codes "TooMany"
kind_name kind.NotYet = codes "NotYet"

-- the text of a place
abbrev pub place_text : Place → List ℕ
place_text place.Source = codes "source"
place_text (place.Line n) = codes "line " ++ decimal n
place_text (place.Path p) = path_text p
place_text (place.Within p offset) = path_text p ++ codes ":" ++ decimal offset

-- what a refusal prints, without the line end
abbrev pub refusal_text : Refusal → List ℕ
refusal_text r = codes "refused " ++ kind_name r.kind ++ codes " at " ++ place_text r.place
