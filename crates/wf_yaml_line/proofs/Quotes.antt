-- Steps of the loops that read quoted scalars.
use Rattle.std.proofs.Common.{◌≡◌, ℕ, suc, ◌+◌, ◌-◌, ◌<◌, ◌≤◌, List, [], ◌∷◌, ◌++◌, length, get_or, drop, Bool, true, false, cond, ◌&&◌, ◌==◌, Some, None, refl, sym, ap, ◌∙◌, arith, append_assoc, eq-eqb}
use Rattle.std.proofs.lemmas.Bool.{ne_eqb}
use Rattle.wf_lemmas.proofs.Lists.{item_at}
use Rattle.wf_yaml_line.specs.Marks.{single_quote, double_quote, backslash}
use Rattle.wf_yaml_line.specs.Quoted.{Quoted, with_char, with_escape, single, double, closed, escape, escape_tail, escape_width}
use Rattle.wf_yaml_line.specs.Views.{onto}

pushed : (front : List ℕ) (good : Bool) (x : ℕ) (q : Quoted) → onto (front ++ x ∷ []) good q ≡ onto front good (with_char x q)
pushed front good x q = ap (λ (t : List ℕ). record { chars = t; rest = q.rest; good = good && q.good }) (append_assoc front (x ∷ []) q.chars)

no_good : (good : Bool) (front : List ℕ) (q : Quoted) → onto front false q ≡ onto front good (record { chars = q.chars; rest = q.rest; good = false })
no_good true front q = refl
no_good false front q = refl

module _ (s front : List ℕ) (i x : ℕ) (whole : Quoted) (h : i < length s) (r : x ≡ get_or s i x) where
  abbrev rest : List ℕ
  rest = drop (i + 1) s

  -- ---- single quotes

  pub single_doubled : (was now : Bool) (new : List ℕ) → was ≡ true → now ≡ false → x ≡ single_quote → new ≡ front ++ single_quote ∷ [] → onto front true (single was (drop i s)) ≡ whole → onto new true (single now rest) ≡ whole
  single_doubled was now new f g e n old =
      (λ j. onto (n j) true (single (g j) rest))
      ∙ pushed front true single_quote (single false rest)
      ∙ sym (ap (λ b. onto front true (cond b (with_char single_quote (single false rest)) (closed (x ∷ rest)))) (eq-eqb x single_quote e))
      ∙ sym (λ j. onto front true (single (f j) (item_at s i x h r j)))
      ∙ old

  pub single_ends : (was now : Bool) (new : List ℕ) → was ≡ false → now ≡ true → x ≡ single_quote → new ≡ front → onto front true (single was (drop i s)) ≡ whole → onto new true (single now rest) ≡ whole
  single_ends was now new f g e n old =
      (λ j. onto (n j) true (single (g j) rest))
      ∙ sym (ap (λ b. onto front true (cond b (single true rest) (with_char x (single false rest)))) (eq-eqb x single_quote e))
      ∙ sym (λ j. onto front true (single (f j) (item_at s i x h r j)))
      ∙ old

  pub single_kept : (was now : Bool) (new : List ℕ) → was ≡ false → now ≡ false → (x ≡ single_quote → ⊥) → new ≡ front ++ x ∷ [] → onto front true (single was (drop i s)) ≡ whole → onto new true (single now rest) ≡ whole
  single_kept was now new f g e n old =
      (λ j. onto (n j) true (single (g j) rest))
      ∙ pushed front true x (single false rest)
      ∙ sym (ap (λ b. onto front true (cond b (single true rest) (with_char x (single false rest)))) (ne_eqb x single_quote e))
      ∙ sym (λ j. onto front true (single (f j) (item_at s i x h r j)))
      ∙ old

  -- ---- double quotes

  module _ (good : Bool) (n : ℕ) (was : Bool) (now_good : Bool) (m : ℕ) (now : Bool) (new : List ℕ) (good_is : now_good ≡ good) where
    -- the state before x, and the state behind it, as the loop has them
    abbrev Before : Type 0
    Before = onto front good (double was n (drop i s)) ≡ whole

    abbrev After : Type 0
    After = onto new now_good (double now m rest) ≡ whole

    start : (flag : Bool) → was ≡ flag → onto front good (double was n (drop i s)) ≡ onto front good (double flag n (x ∷ rest))
    start flag f = λ j. onto front good (double (f j) n (item_at s i x h r j))

    pub escape_read : (d : ℕ) (t : List ℕ) → was ≡ true → now ≡ false → m ≡ escape_width x → Some d ≡ escape x t → t ≡ rest → new ≡ front ++ d ∷ [] → Before → After
    escape_read d t f g w e et k old =
        let is : escape x rest ≡ Some d = sym (e ∙ ap (escape x) et) in
        (λ j. onto (k j) (good_is j) (double (g j) (w j) rest))
        ∙ pushed front good d (double false (escape_width x) rest)
        ∙ sym (ap (λ o. onto front good (with_escape o (double false (escape_tail x o) rest))) is)
        ∙ sym (start true f)
        ∙ old

    pub skipped : was ≡ false → now ≡ was → 0 < n → m ≡ n - 1 → new ≡ front → Before → After
    skipped f g p e k old =
        let more : n ≡ suc m = omega arith in
        (λ j. onto (k j) (good_is j) (double ((g ∙ f) j) m rest))
        ∙ sym (ap (λ u. onto front good (double false u (x ∷ rest))) more)
        ∙ sym (start false f)
        ∙ old

    none_left : n ≤ 0 → n ≡ 0
    none_left p = omega arith

    plain : n ≤ 0 → was ≡ false → (quote slash : Bool) → (x == double_quote) ≡ quote → (x == backslash) ≡ slash
        → onto front good (double was n (drop i s)) ≡ onto front good (cond quote (closed rest) (cond slash (double true 0 rest) (with_char x (double false 0 rest))))
    plain p f quote slash q e =
        start false f
        ∙ ap (λ u. onto front good (double false u (x ∷ rest))) (none_left p)
        ∙ (λ j. onto front good (cond (q j) (closed rest) (cond (e j) (double true 0 rest) (with_char x (double false 0 rest)))))

    pub backslash_read : was ≡ false → now ≡ true → n ≤ 0 → m ≡ n → (x ≡ double_quote → ⊥) → x ≡ backslash → new ≡ front → Before → After
    backslash_read f g p w q e k old =
        (λ j. onto (k j) (good_is j) (double (g j) ((w ∙ none_left p) j) rest))
        ∙ sym (plain p f false true (ne_eqb x double_quote q) (eq-eqb x backslash e))
        ∙ old

    pub double_kept : was ≡ false → now ≡ was → n ≤ 0 → m ≡ n → (x ≡ double_quote → ⊥) → (x ≡ backslash → ⊥) → new ≡ front ++ x ∷ [] → Before → After
    double_kept f g p w q e k old =
        (λ j. onto (k j) (good_is j) (double ((g ∙ f) j) ((w ∙ none_left p) j) rest))
        ∙ pushed front good x (double false 0 rest)
        ∙ sym (plain p f false false (ne_eqb x double_quote q) (ne_eqb x backslash e))
        ∙ old

  pub escape_bad : (good was now_good now : Bool) (n m : ℕ) (new t : List ℕ) → was ≡ true → now ≡ false → m ≡ 0 → now_good ≡ false → None ≡ escape x t → t ≡ rest → new ≡ front
      → onto front good (double was n (drop i s)) ≡ whole → onto new now_good (double now m rest) ≡ whole
  escape_bad good was now_good now n m new t f g w a e et k old =
      let is : escape x rest ≡ None = sym (e ∙ ap (escape x) et) in
      (λ j. onto (k j) (a j) (double (g j) (w j) rest))
      ∙ no_good good front (double false 0 rest)
      ∙ sym (ap (λ o. onto front good (with_escape o (double false (escape_tail x o) rest))) is)
      ∙ sym (λ j. onto front good (double (f j) n (item_at s i x h r j)))
      ∙ old
