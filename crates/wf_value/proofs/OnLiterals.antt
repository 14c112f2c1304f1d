use Rattle.std.specs.Prelude.{⊤}
use Rattle.std.specs.Str.{chars, is_utf8}
use Rattle.std.specs.Fmt.{digits}
use Rattle.serde_json.proofs.OnLiterals.{serde_json_on_literals}
use Rattle.base64.proofs.OnLiterals.{base64_on_literals}
use Rattle.percent_encoding.proofs.OnLiterals.{percent_encoding_on_literals}
use Rattle.httparse.proofs.OnLiterals.{httparse_on_literals}
use Rattle.jiff_core.specs.Calendar.{days_of_years, days_of_months, day_count, days_from_civil}

-- what an answer unfolds to compute this crate's specs on a literal
unfoldable pub on_literals : ⊤
unfolding chars is_utf8 digits serde_json_on_literals base64_on_literals percent_encoding_on_literals httparse_on_literals days_of_years days_of_months day_count days_from_civil
on_literals = tt
