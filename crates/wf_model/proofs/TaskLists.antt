-- Lists of live tasks: their numbers rise, and the one that is put in or taken out is told apart from the others.
use Rattle.std.specs.Prelude.{◌≡◌, ℕ, suc, ◌<◌, ◌≤◌, List, [], ◌∷◌, if◌then◌else◌, nat_eq, nat_lt, Some, None}
use Rattle.std.proofs.Common.{refl, sym, ◌∙◌, ap, subst, arith}
use Rattle.std.proofs.lemmas.Bool.{eq-eqb, eqb-true, eqb-false, ltb-true, ltb-false, ne_eqb}
use Rattle.wf_model.proofs.Walk.{bool_case}
use Rattle.wf_model.specs.Config.{Task, task_in, put_in, drop_in}
use Rattle.wf_model.specs.RunLaws.{RisesFrom}

-- ## Rising numbers
pub lower : (low from made : ℕ) (ts : List (ℕ × Task)) → low ≤ from → RisesFrom from made ts → RisesFrom low made ts
lower low from made [] le h = tt
lower low from made (t ∷ ts) le h = (omega (arith, le, h.0), h.1, h.2)

pub higher : (low made more : ℕ) (ts : List (ℕ × Task)) → made ≤ more → RisesFrom low made ts → RisesFrom low more ts
higher low made more [] le h = tt
higher low made more (t ∷ ts) le h = (h.0, omega (arith, le, h.1), higher (suc t.0) made more ts le h.2)

pub put_rises : (low made b : ℕ) (t : Task) (ts : List (ℕ × Task)) → low ≤ b → b < made → RisesFrom low made ts → RisesFrom low made (put_in b t ts)
put_rises low made b t [] le less h = (le, less, tt)
put_rises low made b t (u ∷ us) le less h =
    bool_case (RisesFrom low made) (nat_eq u.0 b) ((b, t) ∷ us) (if nat_lt b u.0 then (b, t) ∷ u ∷ us else u ∷ put_in b t us)
    (λ e. (le, less, subst (λ n. RisesFrom (suc n) made us) (eqb-true u.0 b e) h.2))
    (λ e. bool_case (RisesFrom low made) (nat_lt b u.0) ((b, t) ∷ u ∷ us) (u ∷ put_in b t us)
    (λ i. (le, less, (ltb-true b u.0 i, h.1, h.2)))
    (λ i. (h.0, h.1, put_rises (suc u.0) made b t us (omega (arith, eqb-false u.0 b e, ltb-false b u.0 i)) less h.2)))

pub drop_rises : (low made b : ℕ) (ts : List (ℕ × Task)) → RisesFrom low made ts → RisesFrom low made (drop_in b ts)
drop_rises low made b [] h = tt
drop_rises low made b (u ∷ us) h =
    bool_case (RisesFrom low made) (nat_eq u.0 b) us (u ∷ drop_in b us)
    (λ e. lower low (suc u.0) made us (omega (arith, h.0)) h.2) (λ e. (h.0, h.1, drop_rises (suc u.0) made b us h.2))

pub known : (low made b : ℕ) (ts : List (ℕ × Task)) (t : Task) → RisesFrom low made ts → task_in ts b ≡ Some t → b < made
known low made b [] t h = λ e. cc e
known low made b (u ∷ us) t h =
    bool_case (λ o. o ≡ Some t → b < made) (nat_eq u.0 b) (Some u.1) (task_in us b)
    (λ i e. omega (arith, eqb-true u.0 b i, h.1)) (λ i e. known (suc u.0) made b us t h.2 e)

-- ## Tasks by their numbers
pub put_same : (b : ℕ) (t : Task) (ts : List (ℕ × Task)) → task_in (put_in b t ts) b ≡ Some t
put_same b t [] = ap (λ v. if v then Some t else None) (eq-eqb b b refl)
put_same b t (u ∷ us) =
    bool_case (λ l. task_in l b ≡ Some t) (nat_eq u.0 b) ((b, t) ∷ us) (if nat_lt b u.0 then (b, t) ∷ u ∷ us else u ∷ put_in b t us)
    (λ _. ap (λ v. if v then Some t else task_in us b) (eq-eqb b b refl))
    (λ off. bool_case (λ l. task_in l b ≡ Some t) (nat_lt b u.0) ((b, t) ∷ u ∷ us) (u ∷ put_in b t us)
    (λ _. ap (λ v. if v then Some t else task_in (u ∷ us) b) (eq-eqb b b refl))
    (λ _. ap (λ v. if v then Some u.1 else task_in (put_in b t us) b) off ∙ put_same b t us))

pub put_other : (b i : ℕ) (t : Task) (ts : List (ℕ × Task)) → (i ≡ b → ⊥) → task_in (put_in b t ts) i ≡ task_in ts i
put_other b i t [] differ = ap (λ v. if v then Some t else None) (ne_eqb b i (λ same. differ (sym same)))
put_other b i t (u ∷ us) differ =
    bool_case (λ l. task_in l i ≡ task_in (u ∷ us) i) (nat_eq u.0 b) ((b, t) ∷ us) (if nat_lt b u.0 then (b, t) ∷ u ∷ us else u ∷ put_in b t us)
    (λ on. ap (λ v. if v then Some t else task_in us i) (ne_eqb b i (λ same. differ (sym same)))
    ∙ sym (ap (λ v. if v then Some u.1 else task_in us i) (ne_eqb u.0 i (λ same. differ (sym same ∙ eqb-true u.0 b on)))))
    (λ off. bool_case (λ l. task_in l i ≡ task_in (u ∷ us) i) (nat_lt b u.0) ((b, t) ∷ u ∷ us) (u ∷ put_in b t us)
    (λ _. ap (λ v. if v then Some t else task_in (u ∷ us) i) (ne_eqb b i (λ same. differ (sym same))))
    (λ _. ap (λ o. if nat_eq u.0 i then Some u.1 else o) (put_other b i t us differ)))

pub drop_other : (b i : ℕ) (ts : List (ℕ × Task)) → (i ≡ b → ⊥) → task_in (drop_in b ts) i ≡ task_in ts i
drop_other b i [] differ = refl
drop_other b i (u ∷ us) differ =
    bool_case (λ l. task_in l i ≡ task_in (u ∷ us) i) (nat_eq u.0 b) us (u ∷ drop_in b us)
    (λ on. sym (ap (λ v. if v then Some u.1 else task_in us i) (ne_eqb u.0 i (λ same. differ (sym same ∙ eqb-true u.0 b on)))))
    (λ _. ap (λ o. if nat_eq u.0 i then Some u.1 else o) (drop_other b i us differ))

pub none_below : (low made b : ℕ) (ts : List (ℕ × Task)) → RisesFrom low made ts → b < low → task_in ts b ≡ None
none_below low made b [] h lt = refl
none_below low made b (u ∷ us) h lt =
    ap (λ v. if v then Some u.1 else task_in us b) (ne_eqb u.0 b (λ same. let le = h.0 in omega (arith, le, same, lt)))
    ∙ none_below (suc u.0) made b us h.2 (let le = h.0 in omega (arith, le, lt))

pub drop_same : (low made b : ℕ) (ts : List (ℕ × Task)) → RisesFrom low made ts → task_in (drop_in b ts) b ≡ None
drop_same low made b [] h = refl
drop_same low made b (u ∷ us) h =
    bool_case (λ l. task_in l b ≡ None) (nat_eq u.0 b) us (u ∷ drop_in b us)
    (λ on. none_below (suc u.0) made b us h.2 (let same = eqb-true u.0 b on in omega (arith, same)))
    (λ off. ap (λ v. if v then Some u.1 else task_in (drop_in b us) b) off ∙ drop_same (suc u.0) made b us h.2)
