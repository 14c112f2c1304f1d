-- Lists of live tasks: with another one at a place, and with one more behind them.
--     alike_at ..       what is kept of the one at a place
--     view_put ..       changed in the configuration
--     last_found ..     the one with the next number
--     holder_within     a holder's number
use Rattle.std.proofs.Common.{◌≡◌, ℕ, zero, suc, ◌<◌, ◌≤◌, Bool, true, false, List, [], ◌∷◌, ◌++◌, Option, Some, None, refl, sym, ap, subst, ◌∙◌, arith}
use Rattle.std.specs.Prelude.{if◌then◌else◌, nat_eq, nat_le, nat_lt, ◌&&◌, slice_get, slice_set}
use Rattle.std.specs.List.{remove}
use Rattle.std.proofs.lemmas.Bool.{and_parts, eq-eqb, eqb-true, leb-true, le-ltb, ltb-true, ne_eqb}
use Rattle.wf_ast.specs.Tree.{Program}
use Rattle.wf_branches.proofs.Rising.{within_at}
use Rattle.wf_branches.specs.Table.{Status, rise}
use Rattle.wf_frames.proofs.Stores.{OwnStay, own_same}
use Rattle.wf_frames.specs.Frames.{inner}
use Rattle.wf_frames.specs.Owned.{OwnStand, first_key, own_of}
use Rattle.wf_frames.specs.Standing.{AllStandAt}
use Rattle.wf_frames.specs.Tasks.{Own, own_layers}
use Rattle.wf_model.specs.Config as model
use Rattle.wf_model.specs.Config.{drop_in, put_in, task_in}
use Rattle.wf_model.specs.RunLaws.{RisesFrom}
use Rattle.wf_model.specs.Spots.{spots}
use Rattle.wf_model.specs.declared.node.Node.{Node}
use Rattle.wf_moves.specs.Waits.{CanGoOn, wait_view}
use Rattle.wf_moves.specs.declared.task.Task.{Task}
use Rattle.wf_scope.specs.Layers.{Layer, find}
use Rattle.wf_scope.specs.Store.{layers_of}
use Rattle.wf_scope.specs.declared.scopes.Scopes.{Scopes}
use Rattle.wf_several.proofs.Here.{holder_here, place_of}
use Rattle.wf_several.specs.Here.{IsPlace}
use Rattle.wf_several.specs.Several.{AreAlike, IsAlike, control_at, holder_of, holders_of, plain_around, task_view, tasks_view}
use Rattle.wf_several.specs.Standing.{AllFitAt}
use Rattle.wf_stores.specs.Holders.{AllStand, Holder, holder_in, keys_of, with_own, without}

-- ## At a place
module _ (p : Program) where
  pub alike_at : (i : ℕ) (es : List (ℕ × Status)) (ts : List Task) (b : ℕ) (s : Status) (t : Task) → AreAlike p es ts → slice_get es i ≡ Some (b, s) → slice_get ts i ≡ Some t → IsAlike p s t
  alike_at i [] ts b s t a e f = absurd (let no : None ≡ Some (b, s) = e in cc no)
  alike_at i (e ∷ es) [] b s t a f g = absurd a
  alike_at zero (e ∷ es) (u ∷ ts) b s t a f g = one e u (cc f) (cc g) a.0
    where
      one : (e : ℕ × Status) (u : Task) → e ≡ (b, s) → u ≡ t → IsAlike p e.1 u → IsAlike p s t
      one e u is same h = subst (λ v. IsAlike p s v) same (subst (λ (d : ℕ × Status). IsAlike p d.1 u) is h)
  alike_at (suc i) (e ∷ es) (u ∷ ts) b s t a f g = alike_at i es ts b s t a.1 f g

  pub entry_at : (i : ℕ) (es : List (ℕ × Status)) (ts : List Task) (t : Task) → AreAlike p es ts → slice_get ts i ≡ Some t → (e : ℕ × Status) × (slice_get es i ≡ Some e)
  entry_at i [] [] t a g = absurd (let no : None ≡ Some t = g in cc no)
  entry_at i [] (u ∷ ts) t a g = absurd a
  entry_at i (e ∷ es) [] t a g = absurd a
  entry_at zero (e ∷ es) (u ∷ ts) t a g = (e, refl)
  entry_at (suc i) (e ∷ es) (u ∷ ts) t a g = entry_at i es ts t a.1 g

  -- ## Their view
  -- in another store in which each has the same layers
  pub view_again : (es : List (ℕ × Status)) (ts : List Task) (x new : Scopes)
      → ((i : ℕ) (t : Task) → slice_get ts i ≡ Some t → own_layers (own_of t.frames) (layers_of new) ≡ own_layers (own_of t.frames) (layers_of x))
      → tasks_view p es ts new ≡ tasks_view p es ts x
  view_again [] ts x new same = refl
  view_again (e ∷ es) [] x new same = refl
  view_again (e ∷ es) (t ∷ ts) x new same =
      ap {B = List (ℕ × model.Task)} (λ os. (e.0, record { parent = e.1.parent; control = control_at p e.1 t; layers = os; wait = wait_view (plain_around p) t.wait }) ∷ tasks_view p es ts new) (same 0 t refl)
      ∙ ap (λ us. (e.0, task_view p (plain_around p) e.1 t x) ∷ us) (view_again es ts x new (λ i u h. same (suc i) u h))

  pub view_set : (i b : ℕ) (es : List (ℕ × Status)) (ts : List Task) (x : Scopes) (s : Status) (u : Task)
      → tasks_view p (slice_set es i (b, s)) (slice_set ts i u) x ≡ slice_set (tasks_view p es ts x) i (b, task_view p (plain_around p) s u x)
  view_set i b [] ts x s u = refl
  view_set zero b (e ∷ es) [] x s u = refl
  view_set (suc i) b (e ∷ es) [] x s u = refl
  view_set zero b (e ∷ es) (t ∷ ts) x s u = refl
  view_set (suc i) b (e ∷ es) (t ∷ ts) x s u = ap (λ us. (e.0, task_view p (plain_around p) e.1 t x) ∷ us) (view_set i b es ts x s u)

  pub view_add : (es : List (ℕ × Status)) (ts : List Task) (x : Scopes) (e : ℕ × Status) (t : Task) → AreAlike p es ts
      → tasks_view p (es ++ e ∷ []) (ts ++ t ∷ []) x ≡ tasks_view p es ts x ++ (e.0, task_view p (plain_around p) e.1 t x) ∷ []
  view_add [] [] x e t a = refl
  view_add [] (u ∷ ts) x e t a = absurd a
  view_add (d ∷ es) [] x e t a = absurd a
  view_add (d ∷ es) (u ∷ ts) x e t a = ap (λ us. (d.0, task_view p (plain_around p) d.1 u x) ∷ us) (view_add es ts x e t a.1)

  -- put at its place
  pub view_put : (from below i b : ℕ) (es : List (ℕ × Status)) (ts : List Task) (x : Scopes) (s : Status) (v : model.Task) → rise from below es ≡ true → AreAlike p es ts → slice_get es i ≡ Some (b, s)
      → put_in b v (tasks_view p es ts x) ≡ slice_set (tasks_view p es ts x) i (b, v)
  view_put from below i b [] ts x s v r a h = absurd (let no : None ≡ Some (b, s) = h in cc no)
  view_put from below i b (e ∷ es) [] x s v r a h = absurd a
  view_put from below zero b (e ∷ es) (t ∷ ts) x s v r a h =
      let same : e ≡ (b, s) = cc h in
      let it = task_view p (plain_around p) e.1 t x in
      let more = tasks_view p es ts x in
      ap (λ (y : Bool). if y then (b, v) ∷ more else (if nat_lt b e.0 then (b, v) ∷ (e.0, it) ∷ more else (e.0, it) ∷ put_in b v more)) (eq-eqb e.0 b (ap (λ (d : ℕ × Status). d.0) same))
  view_put from below (suc i) b (e ∷ es) (t ∷ ts) x s v r a h =
      let rest = (and_parts (nat_le from e.0 && nat_lt e.0 below) (rise (suc e.0) below es) r).1 in
      let later = (within_at (suc e.0) below es i b s rest h).0 in
      let it = task_view p (plain_around p) e.1 t x in
      let more = tasks_view p es ts x in
      ap (λ (y : Bool). if y then (b, v) ∷ more else (if nat_lt b e.0 then (b, v) ∷ (e.0, it) ∷ more else (e.0, it) ∷ put_in b v more)) (ne_eqb e.0 b (λ q. omega (arith, later, q)))
      ∙ ap (λ (y : Bool). if y then (b, v) ∷ (e.0, it) ∷ more else (e.0, it) ∷ put_in b v more) (le-ltb b e.0 (omega (arith, later)))
      ∙ ap (λ us. (e.0, it) ∷ us) (view_put (suc e.0) below i b es ts x s v rest a.1 h)

  -- ## One more
  pub alike_add : (es : List (ℕ × Status)) (ts : List Task) (e : ℕ × Status) (t : Task) → AreAlike p es ts → IsAlike p e.1 t → AreAlike p (es ++ e ∷ []) (ts ++ t ∷ [])
  alike_add [] [] e t a h = (h, tt)
  alike_add [] (u ∷ ts) e t a h = absurd a
  alike_add (d ∷ es) [] e t a h = absurd a
  alike_add (d ∷ es) (u ∷ ts) e t a h = (a.0, alike_add es ts e t a.1 h)

  pub holders_add : (es : List (ℕ × Status)) (ts : List Task) (e : ℕ × Status) (t : Task) → AreAlike p es ts → holders_of p (es ++ e ∷ []) (ts ++ t ∷ []) ≡ holders_of p es ts ++ holder_of p e t ∷ []
  holders_add [] [] e t a = refl
  holders_add [] (u ∷ ts) e t a = absurd a
  holders_add (d ∷ es) [] e t a = absurd a
  holders_add (d ∷ es) (u ∷ ts) e t a = ap (λ hs. holder_of p d u ∷ hs) (holders_add es ts e t a.1)

  pub fit_add : (nodes : List Node) (ts : List Task) (t : Task) → AllFitAt p nodes ts → AllStandAt (spots p.flows) nodes (inner t.frames) × CanGoOn nodes t → AllFitAt p nodes (ts ++ t ∷ [])
  fit_add nodes [] t a h = (h, tt)
  fit_add nodes (u ∷ ts) t a h = (a.0, fit_add nodes ts t a.1 h)

  -- a holder's number is that of a task
  pub holder_within : (from below c : ℕ) (es : List (ℕ × Status)) (ts : List Task) (g : Holder) → rise from below es ≡ true → holder_in (holders_of p es ts) c ≡ Some g → (from ≤ c) × (c < below)
  holder_within from below c [] ts g r h = absurd (let no : None ≡ Some g = h in cc no)
  holder_within from below c (e ∷ es) [] g r h = absurd (let no : None ≡ Some g = h in cc no)
  holder_within from below c (e ∷ es) (t ∷ ts) g r h = by (nat_eq e.0 c) refl h (λ f. holder_within (suc e.0) below c es ts g two.1 f)
    where
      two : (nat_le from e.0 && nat_lt e.0 below ≡ true) × (rise (suc e.0) below es ≡ true)
      two = and_parts (nat_le from e.0 && nat_lt e.0 below) (rise (suc e.0) below es) r

      one : (nat_le from e.0 ≡ true) × (nat_lt e.0 below ≡ true)
      one = and_parts (nat_le from e.0) (nat_lt e.0 below) two.0

      by : (y : Bool) → nat_eq e.0 c ≡ y → (if y then Some (holder_of p e t) else holder_in (holders_of p es ts) c) ≡ Some g
          → (holder_in (holders_of p es ts) c ≡ Some g → (suc e.0 ≤ c) × (c < below)) → (from ≤ c) × (c < below)
      by true is f later =
          let same = eqb-true e.0 c is in
          let least = leb-true from e.0 one.0 in
          let less = ltb-true e.0 below one.1 in
          (omega (arith, same, least), omega (arith, same, less))
      by false is f later =
          let more = later f in
          let least = leb-true from e.0 one.0 in
          let low = more.0 in
          (omega (arith, least, low), more.1)

  -- ## One less
  pub view_remove : (i : ℕ) (es : List (ℕ × Status)) (ts : List Task) (x : Scopes) → AreAlike p es ts → tasks_view p (remove es i) (remove ts i) x ≡ remove (tasks_view p es ts x) i
  view_remove zero [] [] x a = refl
  view_remove (suc i) [] [] x a = refl
  view_remove i [] (t ∷ ts) x a = absurd a
  view_remove i (e ∷ es) [] x a = absurd a
  view_remove zero (e ∷ es) (t ∷ ts) x a = refl
  view_remove (suc i) (e ∷ es) (t ∷ ts) x a = ap (λ us. (e.0, task_view p (plain_around p) e.1 t x) ∷ us) (view_remove i es ts x a.1)

  pub alike_remove : (i : ℕ) (es : List (ℕ × Status)) (ts : List Task) → AreAlike p es ts → AreAlike p (remove es i) (remove ts i)
  alike_remove zero [] [] a = tt
  alike_remove (suc i) [] [] a = tt
  alike_remove i [] (t ∷ ts) a = absurd a
  alike_remove i (e ∷ es) [] a = absurd a
  alike_remove zero (e ∷ es) (t ∷ ts) a = a.1
  alike_remove (suc i) (e ∷ es) (t ∷ ts) a = (a.0, alike_remove i es ts a.1)

  pub fit_remove : (nodes : List Node) (i : ℕ) (ts : List Task) → AllFitAt p nodes ts → AllFitAt p nodes (remove ts i)
  fit_remove nodes zero [] a = tt
  fit_remove nodes (suc i) [] a = tt
  fit_remove nodes zero (t ∷ ts) a = a.1
  fit_remove nodes (suc i) (t ∷ ts) a = (a.0, fit_remove nodes i ts a.1)

  pub holders_remove : (i b : ℕ) (es : List (ℕ × Status)) (ts : List Task) → AreAlike p es ts → IsPlace b i es → holders_of p (remove es i) (remove ts i) ≡ without b (holders_of p es ts)
  holders_remove i b [] ts a at = absurd at
  holders_remove i b (e ∷ es) [] a at = absurd a
  holders_remove zero b (e ∷ es) (t ∷ ts) a at = sym (ap (λ (y : Bool). if y then holders_of p es ts else holder_of p e t ∷ without b (holders_of p es ts)) at)
  holders_remove (suc i) b (e ∷ es) (t ∷ ts) a at =
      ap (λ hs. holder_of p e t ∷ hs) (holders_remove i b es ts a.1 at.1)
      ∙ sym (ap (λ (y : Bool). if y then holders_of p es ts else holder_of p e t ∷ without b (holders_of p es ts)) at.0)

  -- dropped by its number
  pub view_drop : (from below i b : ℕ) (es : List (ℕ × Status)) (ts : List Task) (x : Scopes) (s : Status) → rise from below es ≡ true → AreAlike p es ts → slice_get es i ≡ Some (b, s)
      → drop_in b (tasks_view p es ts x) ≡ remove (tasks_view p es ts x) i
  view_drop from below i b [] ts x s r a h = absurd (let no : None ≡ Some (b, s) = h in cc no)
  view_drop from below i b (e ∷ es) [] x s r a h = absurd a
  view_drop from below zero b (e ∷ es) (t ∷ ts) x s r a h =
      let same : e ≡ (b, s) = cc h in
      let more = tasks_view p es ts x in
      ap (λ (y : Bool). if y then more else (e.0, task_view p (plain_around p) e.1 t x) ∷ drop_in b more) (eq-eqb e.0 b (ap (λ (d : ℕ × Status). d.0) same))
  view_drop from below (suc i) b (e ∷ es) (t ∷ ts) x s r a h =
      let rest = (and_parts (nat_le from e.0 && nat_lt e.0 below) (rise (suc e.0) below es) r).1 in
      let later = (within_at (suc e.0) below es i b s rest h).0 in
      let more = tasks_view p es ts x in
      ap (λ (y : Bool). if y then more else (e.0, task_view p (plain_around p) e.1 t x) ∷ drop_in b more) (ne_eqb e.0 b (λ q. omega (arith, later, q)))
      ∙ ap (λ us. (e.0, task_view p (plain_around p) e.1 t x) ∷ us) (view_drop (suc e.0) below i b es ts x s rest a.1 h)

  -- where a holder's task stands
  pub record Place (es : List (ℕ × Status)) (ts : List Task) (b : ℕ) : Type 0 where
    pub at : ℕ
    pub status : Status
    pub task : Task
    pub entry : slice_get es at ≡ Some (b, status)
    pub beside : slice_get ts at ≡ Some task

  pub holder_place : (es : List (ℕ × Status)) (ts : List Task) (b : ℕ) (g : Holder) → holder_in (holders_of p es ts) b ≡ Some g → Place es ts b
  holder_place [] ts b g h = absurd (let no : None ≡ Some g = h in cc no)
  holder_place (e ∷ es) [] b g h = absurd (let no : None ≡ Some g = h in cc no)
  holder_place (e ∷ es) (t ∷ ts) b g h = by (nat_eq e.0 b) refl h (λ f. holder_place es ts b g f)
    where
      by : (y : Bool) → nat_eq e.0 b ≡ y → (if y then Some (holder_of p e t) else holder_in (holders_of p es ts) b) ≡ Some g → (holder_in (holders_of p es ts) b ≡ Some g → Place es ts b) → Place (e ∷ es) (t ∷ ts) b
      by true is f later = record { at = 0; status = e.1; task = t; entry = ap (λ (n : ℕ). Some (n, e.1)) (eqb-true e.0 b is); beside = refl }
      by false is f later = let r = later f in record { at = suc r.at; status = r.status; task = r.task; entry = r.entry; beside = r.beside }

own_stay : (ls new : List Layer) (last : Option ℕ) (os : List Own) → ((n : ℕ) (l : Layer) → find n ls ≡ Some l → find n new ≡ Some l) → OwnStand last os ls → OwnStay ls new os
own_stay ls new last [] stays h = tt
own_stay ls new last (o ∷ os) stays h = (stays o.number h.0.0 h.0.1 ∙ sym h.0.1, own_stay ls new last os stays h.1)

-- each has the same layers in a store that has all of this one
pub views_stay : (p : Program) (made : ℕ) (es : List (ℕ × Status)) (ts : List Task) (x new : Scopes) → rise 0 made es ≡ true → AreAlike p es ts → AllStand (holders_of p es ts) (layers_of x)
    → ((n : ℕ) (l : Layer) → find n (layers_of x) ≡ Some l → find n (layers_of new) ≡ Some l) → tasks_view p es ts new ≡ tasks_view p es ts x
views_stay p made es ts x new rising alike all stays = view_again p es ts x new one
  where
    one : (j : ℕ) (w : Task) → slice_get ts j ≡ Some w → own_layers (own_of w.frames) (layers_of new) ≡ own_layers (own_of w.frames) (layers_of x)
    one j w at =
        let e = entry_at p j es ts w alike at in
        let holds = holder_here p e.0.0 j es ts e.0.1 w (place_of 0 made es j e.0.0 e.0.1 rising e.1) e.1 at in
        own_same (layers_of x) (layers_of new) (own_of w.frames) (own_stay (layers_of x) (layers_of new) (first_key (keys_of (holders_of p es ts) (holder_of p e.0 w))) (own_of w.frames) stays (all.stand e.0.0 (holder_of p e.0 w) holds))

-- a smaller number stands before
pub stands_before : (from below i j b m : ℕ) (es : List (ℕ × Status)) (s r : Status) → rise from below es ≡ true → slice_get es i ≡ Some (b, s) → slice_get es j ≡ Some (m, r) → m < b → j < i
stands_before from below i j b m [] s r rising h g lt = absurd (let no : None ≡ Some (b, s) = h in cc no)
stands_before from below zero zero b m (e ∷ es) s r rising h g lt =
    absurd (apart (first (b, s) (m, r) (sym h ∙ g)) lt)
  where
    first : (x y : ℕ × Status) → Some x ≡ Some y → x.0 ≡ y.0
    first x y h = let same : x ≡ y = cc h in ap (λ (d : ℕ × Status). d.0) same

    apart : b ≡ m → m < b → ⊥
    apart one lt = omega (arith, one, lt)
stands_before from below zero (suc j) b m (e ∷ es) s r rising h g lt =
    let rest = (and_parts (nat_le from e.0 && nat_lt e.0 below) (rise (suc e.0) below es) rising).1 in
    let later = (within_at (suc e.0) below es j m r rest g).0 in
    let same : e ≡ (b, s) = cc h in
    let one : e.0 ≡ b = ap (λ (d : ℕ × Status). d.0) same in
    absurd (omega (arith, later, one, lt))
stands_before from below (suc i) zero b m (e ∷ es) s r rising h g lt = omega arith
stands_before from below (suc i) (suc j) b m (e ∷ es) s r rising h g lt =
    let rest = (and_parts (nat_le from e.0 && nat_lt e.0 below) (rise (suc e.0) below es) rising).1 in
    let before = stands_before (suc e.0) below i j b m es s r rest h g lt in
    omega (arith, before)

-- the holder of a number with what it has
pub same_own : (b : ℕ) (hs : List Holder) (h : Holder) → holder_in hs b ≡ Some h → with_own b h.shares h.own hs ≡ hs
same_own b [] h e = refl
same_own b (g ∷ hs) h e = by (nat_eq g.number b) e (λ f. same_own b hs h f)
  where
    by : (y : Bool) → (if y then Some g else holder_in hs b) ≡ Some h → (holder_in hs b ≡ Some h → with_own b h.shares h.own hs ≡ hs) → (if y then record g { own = h.own; shares = h.shares } ∷ hs else g ∷ with_own b h.shares h.own hs) ≡ g ∷ hs
    by true f later = let same : g ≡ h = cc f in ap (λ (k : Holder). record g { own = k.own; shares = k.shares } ∷ hs) (sym same)
    by false f later = ap (λ ks. g ∷ ks) (later f)

-- ## Any list
module _ {A : Type 0} where
  pub remove_set : (xs : List A) (i : ℕ) (a : A) → remove (slice_set xs i a) i ≡ remove xs i
  remove_set [] i a = refl
  remove_set (x ∷ xs) zero a = refl
  remove_set (x ∷ xs) (suc i) a = ap (λ ys. x ∷ ys) (remove_set xs i a)

  pub set_remove : (xs : List A) (i j : ℕ) (a : A) → j < i → remove (slice_set xs j a) i ≡ slice_set (remove xs i) j a
  set_remove [] zero j a lt = absurd (omega (arith, lt))
  set_remove [] (suc i) j a lt = refl
  set_remove (x ∷ xs) zero j a lt = absurd (omega (arith, lt))
  set_remove (x ∷ xs) (suc i) zero a lt = refl
  set_remove (x ∷ xs) (suc i) (suc j) a lt = ap (λ ys. x ∷ ys) (set_remove xs i j a (omega (arith, lt)))

  pub get_remove : (xs : List A) (i j : ℕ) → j < i → slice_get (remove xs i) j ≡ slice_get xs j
  get_remove [] zero j lt = absurd (omega (arith, lt))
  get_remove [] (suc i) j lt = refl
  get_remove (x ∷ xs) zero j lt = absurd (omega (arith, lt))
  get_remove (x ∷ xs) (suc i) zero lt = refl
  get_remove (x ∷ xs) (suc i) (suc j) lt = get_remove xs i j (omega (arith, lt))

  pub get_set : (xs : List A) (i j : ℕ) (a : A) → j < i → slice_get (slice_set xs j a) i ≡ slice_get xs i
  get_set [] i j a lt = refl
  get_set (x ∷ xs) zero j a lt = absurd (omega (arith, lt))
  get_set (x ∷ xs) (suc i) zero a lt = refl
  get_set (x ∷ xs) (suc i) (suc j) a lt = get_set xs i j a (omega (arith, lt))

  pub get_set_past : (xs : List A) (i j : ℕ) (a : A) → j < i → slice_get (slice_set xs i a) j ≡ slice_get xs j
  get_set_past [] i j a lt = refl
  get_set_past (x ∷ xs) zero j a lt = absurd (omega (arith, lt))
  get_set_past (x ∷ xs) (suc i) zero a lt = refl
  get_set_past (x ∷ xs) (suc i) (suc j) a lt = get_set_past xs i j a (omega (arith, lt))

  pub set_there : (xs : List A) (i : ℕ) (a : A) → slice_get xs i ≡ Some a → slice_set xs i a ≡ xs
  set_there [] i a h = refl
  set_there (x ∷ xs) zero a h = let same : x ≡ a = cc h in ap (λ y. y ∷ xs) (sym same)
  set_there (x ∷ xs) (suc i) a h = ap (λ ys. x ∷ ys) (set_there xs i a h)

  pub get_there : (xs : List A) (i : ℕ) (a b : A) → slice_get xs i ≡ Some b → slice_get (slice_set xs i a) i ≡ Some a
  get_there [] i a b h = absurd (let no : None ≡ Some b = h in cc no)
  get_there (x ∷ xs) zero a b h = refl
  get_there (x ∷ xs) (suc i) a b h = get_there xs i a b h

-- ## The next number
module _ (made : ℕ) (t : model.Task) where
  past : (low : ℕ) (u : ℕ × model.Task) (us : List (ℕ × model.Task)) → RisesFrom low made (u ∷ us) → nat_eq u.0 made ≡ false
  past low u us r = let less = r.1 in ne_eqb u.0 made (λ e. omega (arith, less, e))

  pub last_put : (low : ℕ) (us : List (ℕ × model.Task)) → RisesFrom low made us → put_in made t us ≡ us ++ (made, t) ∷ []
  last_put low [] r = refl
  last_put low (u ∷ us) r =
      let less = r.1 in
      ap (λ (y : Bool). if y then (made, t) ∷ us else (if nat_lt made u.0 then (made, t) ∷ u ∷ us else u ∷ put_in made t us)) (past low u us r)
      ∙ ap (λ (y : Bool). if y then (made, t) ∷ u ∷ us else u ∷ put_in made t us) (le-ltb made u.0 (omega (arith, less)))
      ∙ ap (λ vs. u ∷ vs) (last_put (suc u.0) us r.2)

  pub last_found : (low : ℕ) (us : List (ℕ × model.Task)) → RisesFrom low made us → task_in (us ++ (made, t) ∷ []) made ≡ Some t
  last_found low [] r = ap (λ (y : Bool). if y then Some t else None) (eq-eqb made made refl)
  last_found low (u ∷ us) r = ap (λ (y : Bool). if y then Some u.1 else task_in (us ++ (made, t) ∷ []) made) (past low u us r) ∙ last_found (suc u.0) us r.2

  pub last_again : (v : model.Task) (low : ℕ) (us : List (ℕ × model.Task)) → RisesFrom low made us → put_in made v (us ++ (made, t) ∷ []) ≡ us ++ (made, v) ∷ []
  last_again v low [] r = ap (λ (y : Bool). if y then (made, v) ∷ [] else (if nat_lt made made then (made, v) ∷ (made, t) ∷ [] else (made, t) ∷ (made, v) ∷ [])) (eq-eqb made made refl)
  last_again v low (u ∷ us) r =
      let less = r.1 in
      let more = us ++ (made, t) ∷ [] in
      ap (λ (y : Bool). if y then (made, v) ∷ more else (if nat_lt made u.0 then (made, v) ∷ u ∷ more else u ∷ put_in made v more)) (past low u us r)
      ∙ ap (λ (y : Bool). if y then (made, v) ∷ u ∷ more else u ∷ put_in made v more) (le-ltb made u.0 (omega (arith, less)))
      ∙ ap (λ vs. u ∷ vs) (last_again v (suc u.0) us r.2)
