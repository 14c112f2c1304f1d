-- What a task waits for behind a move.
use Rattle.wf_ast.specs.Accept.{Kind}
use Rattle.wf_frames.specs.Owned.{Around}
use Rattle.wf_model.specs.Local.{Breaks, Local, Scene}
use Rattle.wf_moves.specs.Tasks.{IsAwaited, IsDone}
use Rattle.wf_moves.specs.declared.finish.Awaits.{Awaits}
use Rattle.wf_moves.specs.declared.finish.Awaits.TheVariants as awaits
use Rattle.wf_moves.specs.declared.finish.Done.{Done}
use Rattle.wf_moves.specs.declared.finish.Done.TheVariants as done

awaited_breaks : (a : Around) (s : Scene) (kind : Kind) (x : Awaits) (l : Local) → IsAwaited a s (Breaks kind) x l
awaited_breaks a s kind (awaits.Sent x w) l = tt
awaited_breaks a s kind (awaits.Logged x w) l = tt
awaited_breaks a s kind (awaits.Waits w) l = tt
awaited_breaks a s kind (awaits.Forks f j) l = tt

-- what no accepted program does may give anything
pub done_breaks : (a : Around) (s : Scene) (kind : Kind) (d : Done) (l : Local) → IsDone a s (Breaks kind) d l
done_breaks a s kind done.Goes l = tt
done_breaks a s kind done.Ends l = tt
done_breaks a s kind (done.Turned x) l = tt
done_breaks a s kind (done.Awaits x) l = awaited_breaks a s kind x.value l
