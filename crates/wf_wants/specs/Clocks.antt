-- Instructions that read the clock.
use Rattle.std.specs.Prelude.{Bool, false, ◌||◌, List, [], ◌∷◌}
use Rattle.wf_model.specs.Kinds.{is_now}
use Rattle.wf_ast.specs.Machine.{Instr, call}

abbrev pub call_now : Instr → Bool
call_now (call f n) = is_now f
call_now i = false

-- one of some does
abbrev pub any_now : List Instr → Bool
any_now [] = false
any_now (i ∷ is) = call_now i || any_now is
