-- One line more, and one line that changes.
use Rattle.std.proofs.Common.{◌≡◌, ◌≢◌, ◌⊎◌, ℕ, zero, suc, ◌<◌, ◌≤◌, Bool, true, false, ◌||◌, ◌&&◌, not, List, [], ◌∷◌, ◌++◌, length, Some, None, slice_get, slice_set, refl, sym, ap, ◌∙◌, subst, arith, inl, inr}
use Rattle.std.specs.Prelude.{nat_eq, Box}
use Rattle.std.specs.Global.{Global}
use Rattle.std.proofs.lemmas.Bool.Decides.{eqb_tells}
use Rattle.wf_connections.specs.declared.line.Line.{Line}
use Rattle.wf_connections.specs.declared.line.State.{State}
use Rattle.wf_connections.specs.declared.line.State.TheVariants as state
use Rattle.wf_connections.specs.Lines.{at, used_at, dropped_at, told_by, is_used, is_dropped, is_heard, HasRead, IsReadAs, IsRead, AreRead, AreSame}
use Rattle.wf_deeds.specs.Deeds.{Told, nothing_told}
use Rattle.wf_http_in.specs.declared.reading.Reading.{Reading}

-- ## What lines have
pub at_past : {A : Type 0} (of : Line → A) (none : A) (ls : List Line) (i : ℕ) → length ls ≤ i → at of none ls i ≡ none
at_past of none [] i past = refl
at_past of none (x ∷ ls) zero past = absurd (omega (arith, past))
at_past of none (x ∷ ls) (suc i) past = at_past of none ls i (omega (arith, past))

pub at_read : {A : Type 0} (of : Line → A) (none : A) (ls : List Line) (i : ℕ) (l : Line) → slice_get ls i ≡ Some l → at of none ls i ≡ of l
at_read of none [] i l is = absurd (let f : None ≡ Some l = is in cc f)
at_read of none (x ∷ ls) zero l is = ap of (let same : x ≡ l = cc is in same)
at_read of none (x ∷ ls) (suc i) l is = at_read of none ls i l is

-- one line more
pub at_pushed : {A : Type 0} (of : Line → A) (none : A) (ls : List Line) (l : Line) (k : ℕ) → of l ≡ none → at of none (ls ++ l ∷ []) k ≡ at of none ls k
at_pushed of none [] l zero is = is
at_pushed of none [] l (suc k) is = refl
at_pushed of none (x ∷ ls) l zero is = refl
at_pushed of none (x ∷ ls) l (suc k) is = at_pushed of none ls l k is

-- line i is another one
pub at_set : {A : Type 0} (of : Line → A) (none : A) (ls : List Line) (i : ℕ) (l : Line) → i < length ls → at of none (slice_set ls i l) i ≡ of l
at_set of none [] i l within = absurd (omega (arith, within))
at_set of none (x ∷ ls) zero l within = refl
at_set of none (x ∷ ls) (suc i) l within = at_set of none ls i l (omega (arith, within))

pub at_other : {A : Type 0} (of : Line → A) (none : A) (ls : List Line) (i k : ℕ) (l : Line) → k ≢ i → at of none (slice_set ls i l) k ≡ at of none ls k
at_other of none [] i k l other = refl
at_other of none (x ∷ ls) zero zero l other = absurd (other refl)
at_other of none (x ∷ ls) zero (suc k) l other = refl
at_other of none (x ∷ ls) (suc i) zero l other = refl
at_other of none (x ∷ ls) (suc i) (suc k) l other = at_other of none ls i k l (λ same. other (ap suc same))

-- one that has the same
pub at_equal : {A : Type 0} (of : Line → A) (none : A) (ls : List Line) (i k : ℕ) (l : Line) → of l ≡ at of none ls i → at of none (slice_set ls i l) k ≡ at of none ls k
at_equal of none [] i k l same = refl
at_equal of none (x ∷ ls) zero zero l same = same
at_equal of none (x ∷ ls) zero (suc k) l same = refl
at_equal of none (x ∷ ls) (suc i) zero l same = refl
at_equal of none (x ∷ ls) (suc i) (suc k) l same = at_equal of none ls i k l same

pub at_yes : (of : Line → Bool) (ls : List Line) (i k : ℕ) (l : Line) → i < length ls → of l ≡ true → at of false (slice_set ls i l) k ≡ nat_eq i k || at of false ls k
at_yes of ls i k l within is = elim (eqb_tells i k) [
  | inl same ↦ ap (at of false (slice_set ls i l)) (sym same.1) ∙ at_set of false ls i l within ∙ is ∙ sym (ap (λ b. b || at of false ls k) same.0)
  | inr apart ↦ at_other of false ls i k l (λ equal. apart.1 (sym equal)) ∙ sym (ap (λ b. b || at of false ls k) apart.0)
]

pub at_no : (of : Line → Bool) (ls : List Line) (i k : ℕ) (l : Line) → i < length ls → of l ≡ false → at of false (slice_set ls i l) k ≡ not (nat_eq i k) && at of false ls k
at_no of ls i k l within is = elim (eqb_tells i k) [
  | inl same ↦ ap (at of false (slice_set ls i l)) (sym same.1) ∙ at_set of false ls i l within ∙ is ∙ sym (ap (λ b. not b && at of false ls k) same.0)
  | inr apart ↦ at_other of false ls i k l (λ equal. apart.1 (sym equal)) ∙ sym (ap (λ b. not b && at of false ls k) apart.0)
]

-- there is no line i
pub at_none : (of : Line → Bool) (ls : List Line) (i k : ℕ) → length ls ≤ i → at of false ls k ≡ not (nat_eq i k) && at of false ls k
at_none of ls i k past = elim (eqb_tells i k) [
  | inl same ↦ ap (at of false ls) (sym same.1) ∙ at_past of false ls i past ∙ sym (ap (λ b. not b && at of false ls k) same.0)
  | inr apart ↦ sym (ap (λ b. not b && at of false ls k) apart.0)
]

-- ## What is read
pub unheard_read : (s : State) (t : Told) → is_heard s ≡ false → IsReadAs s t
unheard_read (state.Heard r) t is = absurd (let f : true ≡ false = is in cc f)
unheard_read state.Unused t is = tt
unheard_read state.Forgotten t is = tt
unheard_read state.Dropped t is = tt

not_heard : (s : State) → ((b : Box Reading Global) → s ≡ state.Heard b → ⊥) → is_heard s ≡ false
not_heard (state.Heard r) other = absurd (other r refl)
not_heard state.Unused other = refl
not_heard state.Forgotten other = refl
not_heard state.Dropped other = refl

pub other_read : (s : State) (t : Told) → ((b : Box Reading Global) → s ≡ state.Heard b → ⊥) → IsReadAs s t
other_read s t other = unheard_read s t (not_heard s other)

-- what is read of a line that is heard
pub heard_read : (s : State) (b : Box Reading Global) (r : Reading) (t : Told) → s ≡ state.Heard b → r ≡ b.value → IsReadAs s t → HasRead r t
heard_read s b r t is same was = subst (λ x. HasRead x t) (sym same) (subst (λ x. IsReadAs x t) is was)

got_pushed : (ls : List Line) (l x : Line) (k : ℕ) → slice_get (ls ++ l ∷ []) k ≡ Some x → (x ≡ l) ⊎ (slice_get ls k ≡ Some x)
got_pushed [] l x zero is = inl (let same : x ≡ l = cc is in same)
got_pushed [] l x (suc k) is = inr is
got_pushed (y ∷ ls) l x zero is = inr is
got_pushed (y ∷ ls) l x (suc k) is = got_pushed ls l x k is

pub read_pushed : (ls : List Line) (l : Line) → is_heard l.state ≡ false → AreRead ls → AreRead (ls ++ l ∷ [])
read_pushed ls l silent are k x is = elim (got_pushed ls l x k is) [
  | inl new ↦ subst (IsRead k) (sym new) (unheard_read l.state (told_by k l.heard.items) silent)
  | inr old ↦ are k x old
]

got_set : (ls : List Line) (i k : ℕ) (l x : Line) → slice_get (slice_set ls i l) k ≡ Some x → ((k ≡ i) × (x ≡ l)) ⊎ (slice_get ls k ≡ Some x)
got_set [] i k l x is = inr is
got_set (y ∷ ls) zero zero l x is = inl (refl, let same : x ≡ l = cc is in same)
got_set (y ∷ ls) zero (suc k) l x is = inr is
got_set (y ∷ ls) (suc i) zero l x is = inr is
got_set (y ∷ ls) (suc i) (suc k) l x is = elim (got_set ls i k l x is) [
  | inl new ↦ inl (ap suc new.0, new.1)
  | inr old ↦ inr old
]

pub read_set : (ls : List Line) (i : ℕ) (l : Line) → IsRead i l → AreRead ls → AreRead (slice_set ls i l)
read_set ls i l now are k x is = elim (got_set ls i k l x is) [
  | inl new ↦ subst (IsRead k) (sym new.1) (subst (λ n. IsRead n l) (sym new.0) now)
  | inr old ↦ are k x old
]

-- ## To each call the same

pub same_pushed : (ls ms : List Line) (l : Line) → is_used l.state ≡ false → is_dropped l.state ≡ false → is_heard l.state ≡ false → l.heard.items ≡ [] → AreSame ls ms → AreSame ls (ms ++ l ∷ [])
same_pushed ls ms l used dropped silent nothing same = record {
  used = λ k. at_pushed (λ x. is_used x.state) false ms l k used ∙ same.used k;
  dropped = λ k. at_pushed (λ x. is_dropped x.state) false ms l k dropped ∙ same.dropped k;
  listening = λ k. at_pushed (λ x. is_heard x.state) false ms l k silent ∙ same.listening k;
  told = λ k. at_pushed (λ x. told_by k x.heard.items) nothing_told ms l k (ap (told_by k) nothing) ∙ same.told k;
}

-- what isn't started isn't dropped
unused_stands : (s : State) → is_used s ≡ false → is_dropped s ≡ false
unused_stands state.Unused is = refl
unused_stands (state.Heard r) is = refl
unused_stands state.Forgotten is = refl
unused_stands state.Dropped is = absurd (let f : true ≡ false = is in cc f)

pub unused_at : (ls : List Line) (k : ℕ) → used_at ls k ≡ false → dropped_at ls k ≡ false
unused_at [] k is = refl
unused_at (l ∷ ls) zero is = unused_stands l.state is
unused_at (l ∷ ls) (suc k) is = unused_at ls k is
