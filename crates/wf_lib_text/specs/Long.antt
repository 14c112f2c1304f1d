-- Texts that are too long.
use Rattle.std.specs.Prelude.{◌≡◌, ◌<◌, ◌+◌, length}
use Rattle.wf_value.specs.Data.{size_limit}
use Rattle.wf_value.specs.Pairs.{Text}
use Rattle.wf_value.specs.declared.errors.Raise.{Raise}
use Rattle.wf_value.specs.declared.errors.Raise.TheVariants.{Error, OutOfMemory}
use Rattle.wf_value.specs.declared.errors.Tag.TheVariants.{ResourceLimitError}

-- a text is too long to be an answer, and this is the error. Where there is no memory nothing is said
abbrev pub IsPast : Text → Raise → Type 0
IsPast s (Error t) = (t ≡ ResourceLimitError) × (size_limit < 2 + length s)
IsPast s OutOfMemory = Unit {0}
