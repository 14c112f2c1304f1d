-- Tasks that wait.
use Rattle.std.proofs.Common.{◌≡◌, ℕ, true, false, List, Some, None, refl, sym, ap, subst}
use Rattle.std.specs.Prelude.{Option, slice_get}
use Rattle.wf_frames.specs.Fits.{IsCall}
use Rattle.wf_frames.specs.Frames.{inner}
use Rattle.wf_frames.specs.Owned.{Around, beside, control_of, local_of}
use Rattle.wf_model.specs.Config.{Item}
use Rattle.wf_frames.specs.declared.frames.Frames.{Frames}
use Rattle.wf_moves.proofs.Going.{going}
use Rattle.wf_model.specs.Local.{Breaks, Creates, Does, Ends, Goes, Local, Logs, Moved, Not, Scene, Sends, Takes}
use Rattle.wf_moves.specs.Moved.{GoesNext, IsMove}
use Rattle.wf_moves.specs.Tasks.{HasLogged, IsBehind, IsLogged, MovesTo, StaysBehind, StaysTold, is_told_sent, told_by}
use Rattle.wf_moves.specs.Waits.{CanGoOn, GoesFrom, is_awake_in, is_call_at, is_call_kind, is_call_node, control_in, is_free, is_joining, waiting}
use Rattle.wf_moves.specs.declared.finish.Went.{Went}
use Rattle.wf_moves.specs.declared.logging.Behind.{Behind}
use Rattle.wf_moves.specs.declared.logging.Behind.TheVariants as behind
use Rattle.wf_sys_ask.specs.declared.entry.Logged.{Logged}
use Rattle.wf_moves.specs.declared.task.Task.{Task}
use Rattle.wf_moves.specs.declared.wait.Wait.{Wait}
use Rattle.wf_moves.specs.declared.wait.Wait.TheVariants as wait
use Rattle.wf_scope.specs.declared.scopes.Scopes.{Scopes}
use Rattle.wf_model.specs.declared.node.CallNode.{CallNode}
use Rattle.wf_model.specs.declared.node.Node.{Node}
use Rattle.wf_model.specs.declared.node.NodeKind.{NodeKind}
use Rattle.wf_model.specs.declared.node.NodeKind.TheVariants as kind

-- ## Nodes of calls
pub call_there : (nodes : List Node) (n : ℕ) → is_call_at nodes n ≡ true → (f : CallNode) × IsCall nodes n f
call_there nodes n h = by (slice_get nodes n) refl h
  where
    by_kind : (x : Node) (k : NodeKind) → x.kind ≡ k → slice_get nodes n ≡ Some x → is_call_kind k ≡ true → (f : CallNode) × IsCall nodes n f
    by_kind x (kind.Call f) e at t = (f, record { node = x; at = at; is = e })
    by_kind x kind.Nothing e at t = absurd (cc t)
    by_kind x (kind.Flow f) e at t = absurd (cc t)
    by_kind x (kind.Assign v) e at t = absurd (cc t)
    by_kind x (kind.Switch v) e at t = absurd (cc t)
    by_kind x (kind.For l) e at t = absurd (cc t)
    by_kind x (kind.Parallel p) e at t = absurd (cc t)
    by_kind x (kind.Block b) e at t = absurd (cc t)
    by_kind x (kind.Try y) e at t = absurd (cc t)
    by_kind x (kind.Raise y) e at t = absurd (cc t)
    by_kind x (kind.Return y) e at t = absurd (cc t)
    by_kind x (kind.Arm y) e at t = absurd (cc t)
    by_kind x (kind.Entry y) e at t = absurd (cc t)
    by_kind x (kind.Branch b) e at t = absurd (cc t)

    by : (o : Option Node) → slice_get nodes n ≡ o → is_call_node o ≡ true → (f : CallNode) × IsCall nodes n f
    by None at t = absurd (cc t)
    by (Some x) at t = by_kind x x.kind refl at t

-- ## Waits
pub is_awake : (w : Wait) → is_awake_in w ≡ true → w ≡ wait.Awake
is_awake wait.Awake e = refl
is_awake (wait.Sleep d n) e = absurd (cc e)
is_awake (wait.Delay d) e = absurd (cc e)
is_awake (wait.Calling c n) e = absurd (cc e)
is_awake (wait.Joining j) e = absurd (cc e)

free_awake : (w : Wait) → is_awake_in w ≡ true → is_free w ≡ true
free_awake w e = ap is_free (is_awake w e)

-- ## What is left behind a move
pub went_left : (nodes : List Node) (t : Task) → is_awake_in t.wait ≡ true → GoesNext nodes t.frames → (is_free t.wait ≡ true) × CanGoOn nodes t
went_left nodes t e h = (free_awake t.wait e, subst (λ x. GoesFrom nodes x t.frames) (sym (is_awake t.wait e)) (going nodes (inner t.frames) h.0, h.1))

-- ## By itself
-- a task that waits for nothing
pub awake_local : (a : Around) (w : Wait) (fs : Frames) (x : Scopes) → is_awake_in w ≡ true → waiting a w (local_of a fs x) ≡ local_of a fs x
awake_local a w fs x e = ap (λ v. waiting a v (local_of a fs x)) (is_awake w e)

-- a task that stands in a parallel step, at any control
pub joining_local : (a : Around) (w : Wait) (fs : Frames) (x : Scopes) → is_joining w ≡ true → (c : List Item) → record (waiting a w (local_of a fs x)) { control = c } ≡ beside c a fs x
joining_local a wait.Awake fs x e = absurd (cc e)
joining_local a (wait.Sleep d n) fs x e = absurd (cc e)
joining_local a (wait.Delay d) fs x e = absurd (cc e)
joining_local a (wait.Calling k n) fs x e = absurd (cc e)
joining_local a (wait.Joining j) fs x e = λ c. refl

-- what it has logged, and then a move
pub logged_local : (a : Around) (s : Scene) (w : Wait) (fs : Frames) (x : Scopes) (n : Moved) (e : Logged) (v : Went) → is_awake_in w ≡ true → IsLogged s n e v (local_of a fs x) → IsLogged s n e v (waiting a w (local_of a fs x))
logged_local a s w fs x n e v awake h = subst (IsLogged s n e v) (sym (awake_local a w fs x awake)) h

-- where the move behind a log leads, as it does by itself
pub logged_then : (s : Scene) (n : Moved) (e : Logged) (v : Went) (b : Behind) (l o : Local) → IsLogged s n e v l → ((m : Moved) → IsMove s m v l → IsBehind m b o) → HasLogged n e b o
logged_then s (Breaks kind) e v b l o h f = tt
logged_then s (Does (Logs severity d) m) e v b l o h f = (h.0, h.1, h.2, f m h.3)
logged_then s (Does (Sends q d) m) e v b l o h f = absurd h
logged_then s (Does (Creates x) m) e v b l o h f = absurd h
logged_then s (Does (Takes x) m) e v b l o h f = absurd h
logged_then s (Goes m) e v b l o h f = absurd h
logged_then s (Ends x m) e v b l o h f = absurd h
logged_then s Not e v b l o h f = absurd h

-- ## The move that leads so
pub behind_moves : (m : Moved) (b : Behind) (l : Local) → IsBehind m b l → MovesTo m (told_by b) l
behind_moves m behind.Goes l h = h
behind_moves m (behind.Ended e) l h = h

pub behind_stays : (nodes : List Node) (b : Behind) (t : Task) → StaysBehind nodes b t → StaysTold nodes (told_by b) t
behind_stays nodes behind.Goes t h = h
behind_stays nodes (behind.Ended e) t h = h

pub behind_unsent : (b : Behind) → is_told_sent (told_by b) ≡ false
behind_unsent behind.Goes = refl
behind_unsent (behind.Ended e) = refl
