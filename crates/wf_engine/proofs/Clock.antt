-- A reading of the clock where a session goes on.
use Rattle.std.specs.Prelude.{◌≡◌, List}
use Rattle.std.proofs.Common.{sym, ◌∙◌}
use Rattle.wf_host.specs.Moments.{CountsNow, still_settled}
use Rattle.wf_host.specs.World.{World, Elapses, Only, Same}
use Rattle.wf_host.specs.declared.data.Deed.{Deed}

pub settled_still : (w new : World) (deed : List Deed) → Only w.seen w.may_leave → Elapses Same deed w new → CountsNow new → new.seen ≡ w.seen → Only new.seen new.may_leave
settled_still w new deed only time counts seen = λ i now. still_settled w.seen w new deed only time counts i now ∙ sym seen
