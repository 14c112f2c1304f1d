-- What each step changes.
use Rattle.std.proofs.Common.{◌≡◌, ℕ, ◌<◌, ◌≤◌, true, false, ◌||◌, List, [], ◌∷◌, ◌++◌, length, Some, get_or, slice_get, slice_set, refl, sym, ap, ◌∙◌, subst, arith, inl, inr}
use Rattle.std.specs.Prelude.{nat_eq, OnOk, Result, Ok, Err, Box}
use Rattle.std.specs.Global.{Global}
use Rattle.std.proofs.lemmas.Bool.{cases_lt}
use Rattle.std.proofs.lemmas.Bool.Decides.{eqb_tells}
use Rattle.std.proofs.lemmas.Option.{slice_get_read}
use Rattle.wf_connections.specs.declared.connections.Connections.{Connections}
use Rattle.wf_connections.specs.declared.line.Line.{Line}
use Rattle.wf_connections.specs.declared.line.State.TheVariants as state
use Rattle.wf_connections.specs.Calls.{is_started, is_dropped, listens, told, IsFresh, Starts, Drops, Forgets, StandsAsBefore, Hears}
use Rattle.wf_connections.specs.Lines.{used_at, dropped_at, heard_at, told_at, told_by, adds, HasRead, IsReadAs, AreRead, is_used, is_heard, is_dropped as was_dropped, AreSame}
use Rattle.wf_connections.proofs.Changes.{at_past, at_read, at_set, at_other, at_equal, at_yes, at_no, at_none, unused_at}
use Rattle.wf_connections.proofs.Tells.{told_more, tells_other}
use Rattle.wf_deeds.specs.Deeds.{nothing_told, tells}
use Rattle.wf_host.specs.World.{call_of}
use Rattle.wf_host.specs.declared.data.What.{What}
use Rattle.wf_http_in.specs.declared.reading.Reading.{Reading}

-- ## Line i changes
pub used_kept : (ls : List Line) (i k : ℕ) (o l : Line) → slice_get ls i ≡ Some o → is_used l.state ≡ is_used o.state → used_at (slice_set ls i l) k ≡ used_at ls k
used_kept ls i k o l is same = at_equal (λ x. is_used x.state) false ls i k l (same ∙ sym (at_read (λ x. is_used x.state) false ls i o is))

pub dropped_kept : (ls : List Line) (i k : ℕ) (o l : Line) → slice_get ls i ≡ Some o → was_dropped l.state ≡ was_dropped o.state → dropped_at (slice_set ls i l) k ≡ dropped_at ls k
dropped_kept ls i k o l is same = at_equal (λ x. was_dropped x.state) false ls i k l (same ∙ sym (at_read (λ x. was_dropped x.state) false ls i o is))

pub heard_kept : (ls : List Line) (i k : ℕ) (o l : Line) → slice_get ls i ≡ Some o → is_heard l.state ≡ is_heard o.state → heard_at (slice_set ls i l) k ≡ heard_at ls k
heard_kept ls i k o l is same = at_equal (λ x. is_heard x.state) false ls i k l (same ∙ sym (at_read (λ x. is_heard x.state) false ls i o is))

pub told_kept : (ls : List Line) (i k : ℕ) (o l : Line) → slice_get ls i ≡ Some o → l.heard.items ≡ o.heard.items → told_at (slice_set ls i l) k ≡ told_at ls k
told_kept ls i k o l is same = at_equal (λ x. told_by k x.heard.items) nothing_told ls i k l (ap (told_by k) same ∙ sym (at_read (λ x. told_by k x.heard.items) nothing_told ls i o is))

-- ## Which lines there are
pub used_within : (ls : List Line) (k : ℕ) → used_at ls k ≡ true → k < length ls
used_within ls k is = elim (cases_lt k (length ls)) [
  | inl less ↦ less
  | inr past ↦ absurd (let f : true ≡ false = sym is ∙ at_past (λ x. is_used x.state) false ls k past in cc f)
]

pub heard_within : (ls : List Line) (k : ℕ) → heard_at ls k ≡ true → k < length ls
heard_within ls k is = elim (cases_lt k (length ls)) [
  | inl less ↦ less
  | inr past ↦ absurd (let f : true ≡ false = sym is ∙ at_past (λ x. is_heard x.state) false ls k past in cc f)
]

pub started_within : (c : Connections) (call : ℕ) → is_started c call ≡ true → call < c.lines.len
unfolding is_started
started_within c call is = omega (arith, used_within c.lines.items call is, c.lines.ok.0)

pub listening_within : (c : Connections) (call : ℕ) → listens c call ≡ true → call < c.lines.len
unfolding listens
listening_within c call is = omega (arith, heard_within c.lines.items call is, c.lines.ok.0)

-- the line at a number that was read
pub line_at : (c : Connections) (call : ℕ) (l : Line) → call < c.lines.len → l ≡ get_or c.lines.items call l → slice_get c.lines.items call ≡ Some l
line_at c call l within is = slice_get_read c.lines.items c.lines.len call l c.lines.ok.0 within is

-- what a line tells of its call
pub started_line : (c : Connections) (call : ℕ) (l : Line) → slice_get c.lines.items call ≡ Some l → is_started c call ≡ is_used l.state
unfolding is_started
started_line c call l is = at_read (λ x. is_used x.state) false c.lines.items call l is

pub started_past : (c : Connections) (call : ℕ) → length c.lines.items ≤ call → is_started c call ≡ false
unfolding is_started
started_past c call past = at_past (λ x. is_used x.state) false c.lines.items call past

pub dropped_line : (c : Connections) (call : ℕ) (l : Line) → slice_get c.lines.items call ≡ Some l → is_dropped c call ≡ was_dropped l.state
unfolding is_dropped
dropped_line c call l is = at_read (λ x. was_dropped x.state) false c.lines.items call l is

pub dropped_past : (c : Connections) (call : ℕ) → length c.lines.items ≤ call → is_dropped c call ≡ false
unfolding is_dropped
dropped_past c call past = at_past (λ x. was_dropped x.state) false c.lines.items call past

pub listening_line : (c : Connections) (call : ℕ) (l : Line) → slice_get c.lines.items call ≡ Some l → listens c call ≡ true → is_heard l.state ≡ true
unfolding listens
listening_line c call l is listening = sym (at_read (λ x. is_heard x.state) false c.lines.items call l is) ∙ listening

-- what is read of a call is what was told of it
pub reading_told : (c : Connections) (call : ℕ) (l : Line) (r : Box Reading Global) → slice_get c.lines.items call ≡ Some l → l.state ≡ state.Heard r → AreRead c.lines.items → HasRead r.value (told c call)
unfolding told
reading_told c call l r is stands are =
    let here : told_at c.lines.items call ≡ told_by call l.heard.items = at_read (λ x. told_by call x.heard.items) nothing_told c.lines.items call l is in
    subst (HasRead r.value) (sym here) (subst (λ s. IsReadAs s (told_by call l.heard.items)) stands (are call l is))

-- ## Steps
pub fresh : (c : Connections) → c.lines.items ≡ [] → IsFresh c
unfolding is_started is_dropped listens
fresh c none = record {
  started = λ k. ap (λ ls. used_at ls k) none;
  dropped = λ k. ap (λ ls. dropped_at ls k) none;
  listening = λ k. ap (λ ls. heard_at ls k) none;
}

pub starts : (old new : Connections) (reached : List Line) (call : ℕ) (l : Line) → is_started old call ≡ false → AreSame old.lines.items reached → call < length reached
    → new.lines.items ≡ slice_set reached call l → is_used l.state ≡ true → was_dropped l.state ≡ false → is_heard l.state ≡ true → l.heard.items ≡ [] → Starts old new call
unfolding is_started is_dropped listens told
starts old new reached call l free same less put used dropped heard nothing = record {
  started = λ k. ap (λ ls. used_at ls k) put ∙ at_yes (λ x. is_used x.state) reached call k l less used ∙ ap (λ b. nat_eq call k || b) (same.used k);
  dropped = λ k. ap (λ ls. dropped_at ls k) put
      ∙ at_equal (λ x. was_dropped x.state) false reached call k l (dropped ∙ sym (unused_at old.lines.items call free) ∙ sym (same.dropped call)) ∙ same.dropped k;
  listening = λ k. ap (λ ls. heard_at ls k) put ∙ at_yes (λ x. is_heard x.state) reached call k l less heard ∙ ap (λ b. nat_eq call k || b) (same.listening k);
  told_of_it = ap (λ ls. told_at ls call) put ∙ at_set (λ x. told_by call x.heard.items) nothing_told reached call l less ∙ ap (told_by call) nothing;
  told_of_others = λ k other. ap (λ ls. told_at ls k) put ∙ at_other (λ x. told_by k x.heard.items) nothing_told reached call k l other ∙ same.told k;
}

pub drops : (old new : Connections) (call : ℕ) (o l : Line) → is_started old call ≡ true → slice_get old.lines.items call ≡ Some o → new.lines.items ≡ slice_set old.lines.items call l
    → is_used l.state ≡ true → was_dropped l.state ≡ true → is_heard l.state ≡ false → l.heard.items ≡ o.heard.items → Drops old new call
unfolding is_started is_dropped listens told
drops old new call o l was is put used dropped silent same =
    let ls = old.lines.items in
    let less = used_within ls call was in
    record {
      started = λ k. ap (λ xs. used_at xs k) put ∙ at_equal (λ x. is_used x.state) false ls call k l (used ∙ sym was);
      dropped = λ k. ap (λ xs. dropped_at xs k) put ∙ at_yes (λ x. was_dropped x.state) ls call k l less dropped;
      listening = λ k. ap (λ xs. heard_at xs k) put ∙ at_no (λ x. is_heard x.state) ls call k l less silent;
      told_of_each = λ k. ap (λ xs. told_at xs k) put ∙ told_kept ls call k o l is same;
    }

pub forgets : (old new : Connections) (call : ℕ) (o l : Line) → call < length old.lines.items → slice_get old.lines.items call ≡ Some o → new.lines.items ≡ slice_set old.lines.items call l
    → is_used l.state ≡ is_used o.state → was_dropped l.state ≡ was_dropped o.state → is_heard l.state ≡ false → l.heard.items ≡ o.heard.items → Forgets old new call
unfolding is_started is_dropped listens told
forgets old new call o l less is put used dropped silent same =
    let ls = old.lines.items in
    record {
      started = λ k. ap (λ xs. used_at xs k) put ∙ used_kept ls call k o l is used;
      dropped = λ k. ap (λ xs. dropped_at xs k) put ∙ dropped_kept ls call k o l is dropped;
      listening = λ k. ap (λ xs. heard_at xs k) put ∙ at_no (λ x. is_heard x.state) ls call k l less silent;
      told_of_each = λ k. ap (λ xs. told_at xs k) put ∙ told_kept ls call k o l is same;
    }

pub forgets_none : (c : Connections) (call : ℕ) → length c.lines.items ≤ call → Forgets c c call
unfolding is_started is_dropped listens told
forgets_none c call past = record {
  started = λ k. refl;
  dropped = λ k. refl;
  listening = λ k. at_none (λ x. is_heard x.state) c.lines.items call k past;
  told_of_each = λ k. refl;
}

-- ## What is heard
pub stands : (c : Connections) → StandsAsBefore c c
stands c = record { started = λ k. refl; dropped = λ k. refl; listening = λ k. refl }

pub stands_put : (old new : Connections) (i : ℕ) (o l : Line) → slice_get old.lines.items i ≡ Some o → new.lines.items ≡ slice_set old.lines.items i l
    → is_used l.state ≡ is_used o.state → was_dropped l.state ≡ was_dropped o.state → is_heard l.state ≡ is_heard o.state → StandsAsBefore old new
unfolding is_started is_dropped listens
stands_put old new i o l is put used dropped heard =
    let ls = old.lines.items in
    record {
      started = λ k. ap (λ xs. used_at xs k) put ∙ used_kept ls i k o l is used;
      dropped = λ k. ap (λ xs. dropped_at xs k) put ∙ dropped_kept ls i k o l is dropped;
      listening = λ k. ap (λ xs. heard_at xs k) put ∙ heard_kept ls i k o l is heard;
    }

pub hears_past : (c : Connections) (w : What) (call : ℕ) → call_of w ≡ Some call → length c.lines.items ≤ call → Hears c c w
unfolding is_started
hears_past c w call of_it past k was =
    let less = used_within c.lines.items k was in
    sym (tells_other w call k (told c k) of_it (λ same. omega (arith, less, past, same)))

pub hears : (old new : Connections) (w : What) (call : ℕ) (o l : Line) → call_of w ≡ Some call → call < length old.lines.items → slice_get old.lines.items call ≡ Some o
    → new.lines.items ≡ slice_set old.lines.items call l → l.heard.items ≡ o.heard.items ++ (w, tt) ∷ [] → Hears old new w
unfolding told
hears old new w call o l of_it less is put more k was =
    let ls = old.lines.items in
    elim (eqb_tells k call) [
      | inl same ↦ subst (λ n. told_at new.lines.items n ≡ tells n w (told_at ls n)) (sym same.1)
          (ap (λ xs. told_at xs call) put ∙ at_set (λ x. told_by call x.heard.items) nothing_told ls call l less ∙ ap (told_by call) more ∙ told_more call o.heard.items w
          ∙ sym (ap (tells call w) (at_read (λ x. told_by call x.heard.items) nothing_told ls call o is)))
      | inr apart ↦ ap (λ xs. told_at xs k) put ∙ at_other (λ x. told_by k x.heard.items) nothing_told ls call k l apart.1 ∙ sym (tells_other w call k (told_at ls k) of_it apart.1)
    ]

pub hears_on_ok : {E : Type 0} (r : Result (Unit {0}) E) (old new : Connections) (w : What) (call : ℕ) (o l : Line) → call_of w ≡ Some call → call < length old.lines.items → slice_get old.lines.items call ≡ Some o
    → new.lines.items ≡ slice_set old.lines.items call l → l.heard.items ≡ adds r w o.heard.items → OnOk r (Hears old new w)
hears_on_ok (Ok x) old new w call o l of_it less is put more = hears old new w call o l of_it less is put more
hears_on_ok (Err e) old new w call o l of_it less is put more = tt
