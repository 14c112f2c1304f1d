-- A head as plain data.
use Rattle.std.specs.Prelude.{ℕ}
use Rattle.wf_value.specs.Events.{Headers}

pub record HeadData : Type 0 where
  pub code : ℕ
  pub fields : Headers
