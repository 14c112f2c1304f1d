use Rattle.std.proofs.Common.{◌∙◌}
use Rattle.wf_wants.proofs.Timed.{list_told, literals_told, map_told}
use Rattle.wf_wants.proofs.clock.+clock.Goals as goal

pub is_clock_in-returns-in-List : goal.is_clock_in-returns-in-List
is_clock_in-returns-in-List t c = c.is_in_shapes.ensures ∙ list_told c.args.codes.now c.args.shape.now c.in-List.shapes c.items-in-List.result.now c.in-List.is c.items-in-List.ensures

pub is_clock_in-returns-in-Literals : goal.is_clock_in-returns-in-Literals
is_clock_in-returns-in-Literals t c = literals_told c.args.codes.now c.args.shape.now c.in-Literals.field-0 c.in-Literals.is

pub is_clock_in-returns-in-Map : goal.is_clock_in-returns-in-Map
is_clock_in-returns-in-Map t c = c.is_in_named.ensures ∙ map_told c.args.codes.now c.args.shape.now c.in-Map.named c.items-in-Map.result.now c.in-Map.is c.items-in-Map.ensures
