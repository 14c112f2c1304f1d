-- What a list and a map keep beside what they hold.
use Rattle.std.specs.Prelude.{◌≡◌, min}
use Rattle.wf_value.specs.Data.{Data, size, depth}
use Rattle.wf_value.specs.declared.measure.Measure.{Measure}

-- the size and the depth of a value, each cut at the greatest number of its type
pub record IsMeasure (m : Measure) (d : Data) : Type 0 where
  pub size_kept : m.size ≡ min (size d) 18446744073709551615
  pub depth_kept : m.depth ≡ min (depth d) 4294967295
