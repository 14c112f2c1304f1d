-- What holds of each character with what stands for it in double quotes.
use Rattle.std.proofs.Common.{◌≡◌, ⊎_elim, ℕ, ◌<◌, List, [], ◌∷◌, ◌++◌, Bool, false, ◌||◌, ◌==◌, nat_lt, codes, ap, sym, subst, ◌∙◌, arith}
use Rattle.std.specs.Prelude.{if◌then◌else◌}
use Rattle.std.proofs.lemmas.Bool.{cases_eq, cases_Bool, or_parts, or_cases, ltb-true, ltb-false, eqb-true, eqb-false, ne_eqb}
use Rattle.wf_yaml_write.specs.Layout.{escaped, hex_digits}
use Rattle.wf_yaml_write.proofs.Escapes.{IsOwn}

-- what stands for a character that has no short escape
abbrev other : ℕ → List ℕ
other b = if nat_lt b 0x20 || b == 0x7F then codes "\\x" ++ hex_digits b else b ∷ []

fifth : {A : Type 0} (p q r s t : Bool) (a b c d e x : A) → p ≡ false → q ≡ false → r ≡ false → s ≡ false → t ≡ false → (if p then a else if q then b else if r then c else if s then d else if t then e else x) ≡ x
fifth p q r s t a b c d e x hp hq hr hs ht =
    ap (λ u. if u then a else if q then b else if r then c else if s then d else if t then e else x) hp
    ∙ ap (λ u. if u then b else if r then c else if s then d else if t then e else x) hq
    ∙ ap (λ u. if u then c else if s then d else if t then e else x) hr
    ∙ ap (λ u. if u then d else if t then e else x) hs
    ∙ ap (λ u. if u then e else x) ht

module _ (P : ℕ → List ℕ → Type 0) (quote : P 34 (codes "\\\"")) (backslash : P 92 (codes "\\\\")) (newline : P 10 (codes "\\n")) (return_mark : P 13 (codes "\\r")) (tabulator : P 9 (codes "\\t")) (control : (c : ℕ) → c < 128 → P c (codes "\\x" ++ hex_digits c)) (own : (c : ℕ) → IsOwn c → P c (c ∷ [])) where
  by_other : (c : ℕ) → (c ≡ 34 → ⊥) → (c ≡ 92 → ⊥) → P c (other c)
  by_other c q b = ⊎_elim
      (λ t. subst (P c) (sym (ap (λ u. if u then codes "\\x" ++ hex_digits c else c ∷ []) t))
      (control c (⊎_elim (λ l. omega (arith, ltb-true c 0x20 l)) (λ d. omega (arith, eqb-true c 0x7F d)) (or_cases (nat_lt c 0x20) (c == 0x7F) t))))
      (λ f. let parts = or_parts (nat_lt c 0x20) (c == 0x7F) f in
      subst (P c) (sym (ap (λ u. if u then codes "\\x" ++ hex_digits c else c ∷ []) f))
      (own c (record { quote = q; backslash = b; control = ltb-false c 0x20 parts.0; delete = eqb-false c 0x7F parts.1 })))
      (cases_Bool (nat_lt c 0x20 || c == 0x7F))

  by_rest : (c : ℕ) → (c ≡ 34 → ⊥) → (c ≡ 92 → ⊥) → (c ≡ 10 → ⊥) → (c ≡ 13 → ⊥) → (c ≡ 9 → ⊥) → P c (escaped c)
  by_rest c q b n r t =
      subst (P c) (sym (fifth (c == 34) (c == 92) (c == 10) (c == 13) (c == 9) (codes "\\\"") (codes "\\\\") (codes "\\n") (codes "\\r") (codes "\\t") (other c) (ne_eqb c 34 q) (ne_eqb c 92 b) (ne_eqb c 10 n) (ne_eqb c 13 r) (ne_eqb c 9 t)))
      (by_other c q b)

  same : (c x : ℕ) → c ≡ x → P x (escaped x) → P c (escaped c)
  same c x e p = subst (λ y. P y (escaped y)) (sym e) p

  pub by_escape : (c : ℕ) → P c (escaped c)
  by_escape c = ⊎_elim (λ e. same c 34 e quote)
      (λ q. ⊎_elim (λ e. same c 92 e backslash)
      (λ b. ⊎_elim (λ e. same c 10 e newline)
      (λ n. ⊎_elim (λ e. same c 13 e return_mark)
      (λ r. ⊎_elim (λ e. same c 9 e tabulator) (λ t. by_rest c q b n r t) (cases_eq c 9)) (cases_eq c 13)) (cases_eq c 10)) (cases_eq c 92)) (cases_eq c 34)
