-- What a change at a place of the entries is by number.
use Rattle.std.proofs.Common.{◌≡◌, ℕ, zero, suc, ◌+◌, ◌-◌, ◌<◌, true, List, [], ◌∷◌, ◌++◌, length, get_or, take, drop, Option, Some, None, refl, sym, ap, subst, ◌∙◌, arith}
use Rattle.std.specs.Prelude.{option_map, slice_get, slice_set}
use Rattle.std.specs.List.{remove}
use Rattle.std.proofs.lemmas.List.{drop-map, get_or_append_left, length-map, length-set, map-append, map-set, set-append_left, set-get_or, take-map, take_at}
use Rattle.std.specs.Prelude.{OnErr, OnOk, Result, Ok, Err}
use Rattle.std.proofs.lemmas.Option.{slice_get-map, slice_get_read}
use Rattle.wf_branches.proofs.Rising.{drop_at, drop_rises, found_at, push_rises, put_at, put_last, set_rises}
use Rattle.wf_branches.specs.Changes.{begun, begun_by, begun_in, changed, ended, ended_by, joined, new_status, next_in, on_join, without}
use Rattle.wf_branches.specs.Table.{IsAt, Status, Table, nesting, parent, parent_in, put_in, rise, status, status_in}
use Rattle.wf_branches.specs.Seen.{table_of}
use Rattle.wf_branches.specs.Views.{entry_view, live_view}
use Rattle.wf_branches.specs.declared.entry.Entry.{Entry}
use Rattle.wf_branches.specs.declared.tasks.Tasks.{Tasks}
use Rattle.wf_value.specs.Data.{Data}
use Rattle.wf_value.specs.declared.out_of_memory.OutOfMemory.{OutOfMemory}

abbrev pub table : List Entry → ℕ → Table
table es made = record { live = live_view es; made = made }

-- the entry at a place
pub entry_at : (es : List Entry) (i : ℕ) (e : Entry) → i < length es → e ≡ get_or es i e → slice_get (live_view es) i ≡ Some (entry_view e)
entry_at es i e w read = slice_get-map entry_view es i ∙ ap (option_map entry_view) (slice_get_read es (length es) i e refl w read)

pub view_at : (es : List Entry) (i b : ℕ) (e : Entry) (h : IsAt b i (live_view es)) → i < length es → e ≡ get_or es i e → entry_view e ≡ (b, h.0)
view_at es i b e h w read = let two : Some (entry_view e) ≡ Some (b, h.0) = sym (entry_at es i e w read) ∙ h.1 in cc two

pub status_at : (es : List Entry) (made i b : ℕ) (e : Entry) → rise 0 made (live_view es) ≡ true → IsAt b i (live_view es) → i < length es → e ≡ get_or es i e → status_in (live_view es) b ≡ Some (entry_view e).1
status_at es made i b e h at w read = found_at 0 made (live_view es) i b at.0 h at.1 ∙ ap (λ (u : ℕ × Status). Some u.1) (sym (view_at es i b e at w read))

-- a changed entry
set_view : (es : List Entry) (i b : ℕ) (e n : Entry) (f : Status → Status) (at : IsAt b i (live_view es)) → i < length es → e ≡ get_or es i e → entry_view n ≡ ((entry_view e).0, f (entry_view e).1) → live_view (slice_set es i n) ≡ slice_set (live_view es) i (b, f at.0)
set_view es i b e n f at w read new = map-set entry_view es i n ∙ ap (slice_set (live_view es) i) (new ∙ ap (λ (u : ℕ × Status). (u.0, f u.1)) (view_at es i b e at w read))

pub changed_at : (es : List Entry) (made i b : ℕ) (e n : Entry) (f : Status → Status) → rise 0 made (live_view es) ≡ true → IsAt b i (live_view es) → i < length es → e ≡ get_or es i e
    → entry_view n ≡ ((entry_view e).0, f (entry_view e).1) → table (slice_set es i n) made ≡ changed b f (table es made)
changed_at es made i b e n f h at w read new =
    let lv = live_view es in
    ap (λ ts. record { live = ts; made = made }) (set_view es i b e n f at w read new ∙ sym (put_at 0 made lv i b at.0 (f at.0) h at.1))
    ∙ ap (λ (o : Option Status). record { live = elim o [ None ↦ lv | Some s ↦ put_in b (f s) lv ]; made = made }) (sym (found_at 0 made lv i b at.0 h at.1))

pub changed_rises : (es : List Entry) (made i b : ℕ) (e n : Entry) (f : Status → Status) → rise 0 made (live_view es) ≡ true → IsAt b i (live_view es) → i < length es → e ≡ get_or es i e
    → entry_view n ≡ ((entry_view e).0, f (entry_view e).1) → rise 0 made (live_view (slice_set es i n)) ≡ true
changed_rises es made i b e n f h at w read new =
    let lv = live_view es in
    ap (rise 0 made) (set_view es i b e n f at w read new) ∙ set_rises 0 made lv i b at.0 (f at.0) at.1 ∙ h

-- an entry that is taken out
pub removed_view : (es : List Entry) (i : ℕ) → live_view (remove es i) ≡ remove (live_view es) i
removed_view es i = map-append entry_view (take i es) (drop (suc i) es) ∙ ap (λ ts. ts ++ live_view (drop (suc i) es)) (sym (take-map entry_view i es)) ∙ ap (λ ts. take i (live_view es) ++ ts) (sym (drop-map entry_view (suc i) es))

pub removed_at : (es : List Entry) (made i b : ℕ) → rise 0 made (live_view es) ≡ true → IsAt b i (live_view es) → table (remove es i) made ≡ without b (table es made)
removed_at es made i b h at = ap (λ ts. record { live = ts; made = made }) (removed_view es i ∙ sym (drop_at 0 made (live_view es) i b at.0 h at.1))

pub removed_rises : (es : List Entry) (made i : ℕ) → rise 0 made (live_view es) ≡ true → rise 0 made (live_view (remove es i)) ≡ true
removed_rises es made i h = ap (rise 0 made) (removed_view es i) ∙ drop_rises 0 made (live_view es) i h

-- ## Of the tasks
-- so many entries
pub within_there : (t : Tasks) (i : ℕ) → i < length (table_of t).live → i < length t.live.items
within_there t i w = let same = length-map t.live.items entry_view in omega (arith, w, same)

pub status_there : (t : Tasks) (i b : ℕ) (e : Entry) → IsAt b i (table_of t).live → i < length (table_of t).live → e ≡ get_or t.live.items i e → status (table_of t) b ≡ Some (entry_view e).1
status_there t i b e at w read = status_at t.live.items t.made i b e t.rising at (within_there t i w) read

module _ (t : Tasks) (i b : ℕ) (e n : Entry) (at : IsAt b i (table_of t).live) (w : i < length (table_of t).live) (read : e ≡ get_or t.live.items i e) where
  pub changed_there : (f : Status → Status) → entry_view n ≡ ((entry_view e).0, f (entry_view e).1) → table (slice_set t.live.items i n) t.made ≡ changed b f (table_of t)
  changed_there f new = changed_at t.live.items t.made i b e n f t.rising at (within_there t i w) read new

  pub rises_there : (f : Status → Status) → entry_view n ≡ ((entry_view e).0, f (entry_view e).1) → rise 0 t.made (live_view (slice_set t.live.items i n)) ≡ true
  rises_there f new = changed_rises t.live.items t.made i b e n f t.rising at (within_there t i w) read new

  -- nothing has changed
  pub same_there : entry_view n ≡ entry_view e → live_view (slice_set t.live.items i n) ≡ live_view t.live.items
  same_there new =
      map-set entry_view t.live.items i n ∙ ap (slice_set (live_view t.live.items) i) new ∙ sym (map-set entry_view t.live.items i e)
      ∙ ap live_view (ap (slice_set t.live.items i) read ∙ set-get_or t.live.items i e)

  -- by an answer
  pub kept_rises : (r : Result (Unit {0}) OutOfMemory) (f : Status → Status) → OnOk r (entry_view n ≡ ((entry_view e).0, f (entry_view e).1)) → OnErr r (entry_view n ≡ entry_view e) → rise 0 t.made (live_view (slice_set t.live.items i n)) ≡ true
  kept_rises (Ok u) f new same = rises_there f new
  kept_rises (Err x) f new same = ap (rise 0 t.made) (same_there same) ∙ t.rising

  pub kept_table : (r : Result (Unit {0}) OutOfMemory) → OnErr r (entry_view n ≡ entry_view e) → OnErr r (table (slice_set t.live.items i n) t.made ≡ table_of t)
  kept_table (Ok u) same = tt
  kept_table (Err x) same = ap (λ ts. record { live = ts; made = t.made }) (same_there same)

  pub done_table : (r : Result (Unit {0}) OutOfMemory) (f : Status → Status) → OnOk r (entry_view n ≡ ((entry_view e).0, f (entry_view e).1)) → OnOk r (table (slice_set t.live.items i n) t.made ≡ changed b f (table_of t))
  done_table (Ok u) f new = changed_there f new
  done_table (Err x) f new = tt

  pub number_kept : (r : Result (Unit {0}) OutOfMemory) (f : Status → Status) → OnOk r (entry_view n ≡ ((entry_view e).0, f (entry_view e).1)) → OnErr r (entry_view n ≡ entry_view e) → (entry_view n).0 ≡ (entry_view e).0
  number_kept (Ok u) f new same = ap (λ (x : ℕ × Status). x.0) new
  number_kept (Err x) f new same = ap (λ (x : ℕ × Status). x.0) same

  -- each place keeps its number
  pub places_stay : (number : (entry_view n).0 ≡ (entry_view e).0) (j m : ℕ) → IsAt m j (table_of t).live → IsAt m j (live_view (slice_set t.live.items i n))
  places_stay number j m there = subst (IsAt m j) (sym (map-set entry_view t.live.items i n)) (set_stays (live_view t.live.items) i j m (entry_view n) number (entry_at t.live.items i e (within_there t i w) read) there)
    where
      set_stays : (ts : List (ℕ × Status)) (i j m : ℕ) (u : ℕ × Status) → u.0 ≡ (entry_view e).0 → slice_get ts i ≡ Some (entry_view e) → IsAt m j ts → IsAt m j (slice_set ts i u)
      set_stays [] i j m u is was there = there
      set_stays (x ∷ ts) zero zero m u is was there =
          let two : Some (entry_view e) ≡ Some (m, there.0) = sym was ∙ there.1 in
          let same : entry_view e ≡ (m, there.0) = cc two in
          (u.1, ap (λ (k : ℕ). Some (k, u.1)) (is ∙ ap (λ (v : ℕ × Status). v.0) same))
      set_stays (x ∷ ts) zero (suc j) m u is was there = there
      set_stays (x ∷ ts) (suc i) zero m u is was there = there
      set_stays (x ∷ ts) (suc i) (suc j) m u is was there = set_stays ts i j m u is was there

-- a branch that ends
pub ended_parent : (t : Table) (b : ℕ) (p : ℕ × ℕ) (e : Option Data) → parent t b ≡ Some p → ended b e t ≡ without b (joined b p e t)
ended_parent t b p e is = by (status t b) is
  where
    by : (o : Option Status) → parent_in o ≡ Some p → elim o [ None ↦ t | Some s ↦ ended_by b s.parent e t ] ≡ without b (joined b p e t)
    by None h = absurd (let no : None ≡ Some p = h in cc no)
    by (Some s) h = ap (λ q. ended_by b q e t) h

-- ## A branch that begins
module _ (t : Tasks) (i a : ℕ) (e n m : Entry) (at : IsAt a i (table_of t).live) (w : i < length (table_of t).live) (read : e ≡ get_or (t.live.items ++ n ∷ []) i e) where
  pub read_old : e ≡ get_or t.live.items i e
  read_old = read ∙ get_or_append_left t.live.items (n ∷ []) e i (within_there t i w)

  module _ (new : entry_view n ≡ (t.made, new_status (Some (a, next_in (entry_view e).1.join)))) where
    set_push : live_view (slice_set (t.live.items ++ n ∷ []) i m) ≡ live_view (slice_set t.live.items i m) ++ entry_view n ∷ []
    set_push = ap live_view (set-append_left t.live.items (n ∷ []) i m (within_there t i w)) ∙ map-append entry_view (slice_set t.live.items i m) (n ∷ [])

    pub begun_rises : entry_view m ≡ ((entry_view e).0, on_join (begun_in t.made) (entry_view e).1) → rise 0 (suc t.made) (live_view (slice_set (t.live.items ++ n ∷ []) i m)) ≡ true
    begun_rises changed =
        ap (rise 0 (suc t.made)) (set_push ∙ ap (λ (u : ℕ × Status). live_view (slice_set t.live.items i m) ++ u ∷ []) new)
        ∙ push_rises 0 t.made (live_view (slice_set t.live.items i m)) (new_status (Some (a, next_in (entry_view e).1.join))) (rises_there t i a e m at w read_old (on_join (begun_in t.made)) changed) (omega arith)

    pub begun_table : entry_view m ≡ ((entry_view e).0, on_join (begun_in t.made) (entry_view e).1) → table (slice_set (t.live.items ++ n ∷ []) i m) (suc t.made) ≡ begun a (table_of t)
    begun_table changed =
        let s = (entry_view e).1 in
        let here = status_there t i a e at w read_old in
        let was = changed_there t i a e m at w read_old (on_join (begun_in t.made)) changed in
        ap (λ ts. record { live = ts; made = suc t.made })
        (set_push ∙ ap (λ (u : ℕ × Status). live_view (slice_set t.live.items i m) ++ u ∷ []) new
        ∙ sym (put_last 0 t.made (live_view (slice_set t.live.items i m)) (new_status (Some (a, next_in s.join))) (rises_there t i a e m at w read_old (on_join (begun_in t.made)) changed))
        ∙ ap (put_in t.made (new_status (Some (a, next_in s.join)))) (ap (λ (x : Table). x.live) was ∙ ap (λ (o : Option Status). elim o [ None ↦ live_view t.live.items | Some s ↦ put_in a (on_join (begun_in t.made) s) (live_view t.live.items) ]) here))
        ∙ sym (ap {B = Table} (λ (o : Option Status). elim o [ None ↦ table_of t | Some s ↦ begun_by a s (table_of t) ]) here)

    -- or doesn't
    pub undone : entry_view m ≡ entry_view e → live_view (take (length t.live.items) (slice_set (t.live.items ++ n ∷ []) i m)) ≡ live_view t.live.items
    undone same =
        ap (λ es. live_view (take (length t.live.items) es)) (set-append_left t.live.items (n ∷ []) i m (within_there t i w))
        ∙ ap live_view (take_at (slice_set t.live.items i m) (n ∷ []) (length t.live.items) (length-set t.live.items i m)) ∙ same_there t i a e m at w read_old same

-- ## How deep
pub nesting_step : (n k : ℕ) (t : Table) (p : ℕ × ℕ) → k < n → nesting (n - k) t (Some p) ≡ suc (nesting (n - (k + 1)) t (parent t p.0))
nesting_step n k t p lt = let e : n - k ≡ suc (n - (k + 1)) = omega (arith, lt) in ap (λ (m : ℕ). nesting m t (Some p)) e

pub deeper : (n k x y z : ℕ) → n ≡ k + x → x ≡ suc y → y ≡ z → n ≡ k + 1 + z
deeper n k x y z a b c = omega (arith, a, b, c)
