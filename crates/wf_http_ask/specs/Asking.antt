-- The arguments of a call, part by part.
use Rattle.std.specs.Prelude.{Ok, Option}
use Rattle.wf_http_ask.specs.declared.pairs.Place.{Place}
use Rattle.wf_http_ask.specs.declared.pairs.Place.TheVariants.{Headers, Query}
use Rattle.wf_value.specs.Events.{Method, method_named}
use Rattle.wf_value.specs.HttpRequest.{field_text, query_part}
use Rattle.wf_value.specs.Data.{Data}
use Rattle.wf_value.specs.Errors.{Answer, ◌>>=◌}
use Rattle.wf_value.specs.Pairs.{Text}

-- a value as a text, by where it is sent
abbrev pub text_in : Place → Data → Answer Text
text_in Headers v = field_text v
text_in Query v = query_part v

-- the method of a name, if one has it
abbrev pub named : Answer Text → Answer (Option Method)
named a = a >>= λ name. Ok (method_named name)
