-- A live task at its place, in the table and beside it.
--     entry_is_here         the first entry of its number, and the task beside it
--     status_here ..        what is found there
--     status_is, moved_is   changed there
--     alike_moved ..        what holds of all then
use Rattle.std.proofs.Common.{◌≡◌, ℕ, zero, suc, Bool, true, List, [], ◌∷◌, Option, Some, None, refl, sym, ap, ◌∙◌, arith}
use Rattle.std.specs.Prelude.{if◌then◌else◌, nat_le, nat_lt, ◌&&◌, slice_get, slice_set}
use Rattle.std.proofs.lemmas.Bool.{and_parts, eq-eqb, eqb-true, ne_eqb}
use Rattle.wf_ast.specs.Tree.{Program}
use Rattle.wf_branches.proofs.Rising.{within_at}
use Rattle.wf_branches.specs.Table.{Status, rise, status_in}
use Rattle.wf_frames.specs.Owned.{own_of}
use Rattle.wf_model.specs.Config.{task_in}
use Rattle.wf_model.specs.Taken.{step_shares}
use Rattle.wf_moves.specs.declared.task.Task.{Task}
use Rattle.wf_scope.specs.declared.scopes.Scopes.{Scopes}
use Rattle.wf_several.specs.Here.{EntryIsHere, IsPlace}
use Rattle.wf_several.specs.Merges.{with_moved, with_status}
use Rattle.wf_several.specs.Several.{AreAlike, IsAlike, control_at, holder_of, holders_of, plain_around, task_view, tasks_view}
use Rattle.wf_stores.specs.Holders.{Holder, holder_in, with_own}
use Rattle.wf_stores.specs.Steps.{parent_number}

same_pair : (e : ℕ × Status) (b : ℕ) (s : Status) → Some e ≡ Some (b, s) → e ≡ (b, s)
same_pair e b s h = cc h

same_task : (t u : Task) → Some t ≡ Some u → t ≡ u
same_task t u h = cc h

-- numbers rise, so what stands at a place is the first
pub place_of : (from below : ℕ) (es : List (ℕ × Status)) (i b : ℕ) (s : Status) → rise from below es ≡ true → slice_get es i ≡ Some (b, s) → IsPlace b i es
place_of from below [] i b s h e = absurd (let no : None ≡ Some (b, s) = e in cc no)
place_of from below (t ∷ ts) zero b s h e = eq-eqb t.0 b (ap (λ (u : ℕ × Status). u.0) (same_pair t b s e))
place_of from below (t ∷ ts) (suc i) b s h e =
    let more = rest_of from below t ts h in
    let later = within_at (suc t.0) below ts i b s more e in
    (ne_eqb t.0 b (λ q. let low = later.0 in omega (arith, low, q)), place_of (suc t.0) below ts i b s more e)
  where
    rest_of : (from below : ℕ) (t : ℕ × Status) (ts : List (ℕ × Status)) → rise from below (t ∷ ts) ≡ true → rise (suc t.0) below ts ≡ true
    rest_of from below t ts h = (and_parts (nat_le from t.0 && nat_lt t.0 below) (rise (suc t.0) below ts) h).1

module _ (p : Program) (b : ℕ) where
  -- ## What is found
  pub status_here : (i : ℕ) (es : List (ℕ × Status)) (s : Status) → IsPlace b i es → slice_get es i ≡ Some (b, s) → status_in es b ≡ Some s
  status_here i [] s at e = absurd at
  status_here zero (e ∷ es) s at f = ap (λ (z : Bool). if z then Some e.1 else status_in es b) at ∙ ap (λ (u : ℕ × Status). Some u.1) (same_pair e b s f)
  status_here (suc i) (e ∷ es) s at f = ap (λ (z : Bool). if z then Some e.1 else status_in es b) at.0 ∙ status_here i es s at.1 f

  beside_here : (i : ℕ) (es : List (ℕ × Status)) (ts : List Task) → AreAlike p es ts → IsPlace b i es → (t : Task) × (slice_get ts i ≡ Some t)
  beside_here i [] ts a at = absurd at
  beside_here i (e ∷ es) [] a at = absurd a
  beside_here zero (e ∷ es) (t ∷ ts) a at = (t, refl)
  beside_here (suc i) (e ∷ es) (t ∷ ts) a at = beside_here i es ts a.1 at.1

  pub task_here : (i : ℕ) (es : List (ℕ × Status)) (ts : List Task) (x : Scopes) (s : Status) (t : Task) → IsPlace b i es → slice_get es i ≡ Some (b, s) → slice_get ts i ≡ Some t
      → task_in (tasks_view p es ts x) b ≡ Some (task_view p (plain_around p) s t x)
  task_here i [] ts x s t at f g = absurd at
  task_here i (e ∷ es) [] x s t at f g = absurd (let no : None ≡ Some t = g in cc no)
  task_here zero (e ∷ es) (u ∷ us) x s t at f g =
      ap (λ (z : Bool). if z then Some (task_view p (plain_around p) e.1 u x) else task_in (tasks_view p es us x) b) at
      ∙ ap (λ (v : ℕ × Status). Some (task_view p (plain_around p) v.1 u x)) (same_pair e b s f)
      ∙ ap (λ v. Some (task_view p (plain_around p) s v x)) (same_task u t g)
  task_here (suc i) (e ∷ es) (u ∷ us) x s t at f g =
      ap (λ (z : Bool). if z then Some (task_view p (plain_around p) e.1 u x) else task_in (tasks_view p es us x) b) at.0 ∙ task_here i es us x s t at.1 f g

  pub holder_here : (i : ℕ) (es : List (ℕ × Status)) (ts : List Task) (s : Status) (t : Task) → IsPlace b i es → slice_get es i ≡ Some (b, s) → slice_get ts i ≡ Some t
      → holder_in (holders_of p es ts) b ≡ Some (holder_of p (b, s) t)
  holder_here i [] ts s t at f g = absurd at
  holder_here i (e ∷ es) [] s t at f g = absurd (let no : None ≡ Some t = g in cc no)
  holder_here zero (e ∷ es) (u ∷ us) s t at f g =
      ap (λ (z : Bool). if z then Some (holder_of p e u) else holder_in (holders_of p es us) b) at
      ∙ ap (λ v. Some (holder_of p v u)) (same_pair e b s f)
      ∙ ap (λ v. Some (holder_of p (b, s) v)) (same_task u t g)
  holder_here (suc i) (e ∷ es) (u ∷ us) s t at f g =
      ap (λ (z : Bool). if z then Some (holder_of p e u) else holder_in (holders_of p es us) b) at.0 ∙ holder_here i es us s t at.1 f g

  -- ## Changed
  pub status_is : (i : ℕ) (es : List (ℕ × Status)) (s : Status) → IsPlace b i es → with_status b s es ≡ slice_set es i (b, s)
  status_is i [] s at = absurd at
  status_is zero (e ∷ es) s at = ap (λ (z : Bool). if z then (e.0, s) ∷ es else e ∷ with_status b s es) at ∙ ap (λ (n : ℕ). (n, s) ∷ es) (eqb-true e.0 b at)
  status_is (suc i) (e ∷ es) s at = ap (λ (z : Bool). if z then (e.0, s) ∷ es else e ∷ with_status b s es) at.0 ∙ ap (λ us. e ∷ us) (status_is i es s at.1)

  pub moved_is : (i : ℕ) (es : List (ℕ × Status)) (ts : List Task) (u : Task) → AreAlike p es ts → IsPlace b i es → with_moved b u es ts ≡ slice_set ts i u
  moved_is i [] ts u a at = absurd at
  moved_is i (e ∷ es) [] u a at = absurd a
  moved_is zero (e ∷ es) (t ∷ ts) u a at = ap (λ (z : Bool). if z then u ∷ ts else t ∷ with_moved b u es ts) at
  moved_is (suc i) (e ∷ es) (t ∷ ts) u a at = ap (λ (z : Bool). if z then u ∷ ts else t ∷ with_moved b u es ts) at.0 ∙ ap (λ us. t ∷ us) (moved_is i es ts u a.1 at.1)

  pub alike_moved : (i : ℕ) (es : List (ℕ × Status)) (ts : List Task) (s : Status) (u : Task) → AreAlike p es ts → IsPlace b i es → IsAlike p s u → AreAlike p (slice_set es i (b, s)) (slice_set ts i u)
  alike_moved i [] ts s u a at h = absurd at
  alike_moved i (e ∷ es) [] s u a at h = absurd a
  alike_moved zero (e ∷ es) (t ∷ ts) s u a at h = (h, a.1)
  alike_moved (suc i) (e ∷ es) (t ∷ ts) s u a at h = (a.0, alike_moved i es ts s u a.1 at.1 h)

  pub holders_moved : (i : ℕ) (es : List (ℕ × Status)) (ts : List Task) (s was : Status) (u : Task) → AreAlike p es ts → IsPlace b i es → slice_get es i ≡ Some (b, was) → s.parent ≡ was.parent
      → holders_of p (slice_set es i (b, s)) (slice_set ts i u) ≡ with_own b (step_shares (control_at p s u)) (own_of u.frames) (holders_of p es ts)
  holders_moved i [] ts s was u a at f q = absurd at
  holders_moved i (e ∷ es) [] s was u a at f q = absurd a
  holders_moved zero (e ∷ es) (t ∷ ts) s was u a at f q =
      ap {B = List Holder} (λ (r : Option (ℕ × ℕ)). record { number = b; parent = parent_number r; shares = step_shares (control_at p s u); own = own_of u.frames } ∷ holders_of p es ts) q
      ∙ ap {B = List Holder} (λ (v : ℕ × Status). record { number = v.0; parent = parent_number v.1.parent; shares = step_shares (control_at p s u); own = own_of u.frames } ∷ holders_of p es ts) (sym (same_pair e b was f))
      ∙ sym (ap (λ (z : Bool). if z then record (holder_of p e t) { own = own_of u.frames; shares = step_shares (control_at p s u) } ∷ holders_of p es ts else holder_of p e t ∷ with_own b (step_shares (control_at p s u)) (own_of u.frames) (holders_of p es ts)) at)
  holders_moved (suc i) (e ∷ es) (t ∷ ts) s was u a at f q =
      ap (λ hs. holder_of p e t ∷ hs) (holders_moved i es ts s was u a.1 at.1 f q)
      ∙ sym (ap (λ (z : Bool). if z then record (holder_of p e t) { own = own_of u.frames; shares = step_shares (control_at p s u) } ∷ holders_of p es ts else holder_of p e t ∷ with_own b (step_shares (control_at p s u)) (own_of u.frames) (holders_of p es ts)) at.0)

pub entry_is_here : EntryIsHere
entry_is_here p es ts below i b s numbers alike there =
    let at = place_of 0 below es i b s numbers there in
    let task = beside_here p b i es ts alike at in
    (task.0, record { place = at; status = there; task = task.1 })
