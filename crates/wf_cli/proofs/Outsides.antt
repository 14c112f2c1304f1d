-- One meaning of heard bytes, for what holds whichever it is.
use Rattle.std.specs.Prelude.{false}
use Rattle.wf_deeds.specs.Outside.{Outside, Refuses}
use Rattle.wf_engine.specs.TheOutside.{InTheOutside}
use Rattle.wf_value.specs.HttpText.{BadRequest}

-- no visit asks anything
pub some_outside : Outside
some_outside = record { is_asked = λ bytes close. false; verdict = λ c crowded bytes close. Refuses BadRequest }

-- what holds in the outside holds of it
pub in_some : (P : Outside → Type 0) → InTheOutside P → P some_outside
in_some P all = all some_outside
