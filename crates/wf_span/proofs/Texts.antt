-- Where a text ends.
use Rattle.std.proofs.Common.{◌≡◌, ℕ, suc, ◌+◌, ◌≤◌, List, [], ◌∷◌, ◌++◌, length, drop, Bool, true, false, not, ◌&&◌, cond, ◌==◌, refl, sym, ap, ◌∙◌, arith, Some, None}
use Rattle.std.proofs.lemmas.Bool.{eqb-true, false≢true, and_from}
use Rattle.wf_lemmas.proofs.Bools.{and_right, clash}
use Rattle.wf_span.specs.Tokens.{is_escaped, is_closed, any}
use Rattle.wf_span.specs.Scans.{scan, first_bad, closed_at}
use Rattle.wf_span.specs.declared.piece.TextEnd.{TextEnd}
use Rattle.wf_span.specs.declared.piece.TextEnd.TheVariants.{Closed, BadEscape, Open}
use Rattle.wf_span.proofs.Classes.{first, same_self}

-- how a scan of these bytes ends that begins at place i with no bad escape so far
abbrev pub Ends : ℕ → ℕ → List ℕ → TextEnd → Type 0
Ends q i bs (Closed n) = (text : List ℕ) × (behind : List ℕ) × (bs ≡ text ++ behind) × (is_closed is_escaped q text ≡ true) × (n ≡ i + length text)
Ends q i bs (BadEscape n) = (before : List ℕ) × (escaped : ℕ) × (after : List ℕ) × (behind : List ℕ) × (bs ≡ before ++ 92 ∷ escaped ∷ (after ++ behind)) × (n ≡ i + length before) × (is_closed is_escaped q (before ++ q ∷ []) ≡ true) × (is_escaped escaped ≡ false) × (is_closed any q after ≡ true)
Ends q i bs Open = (text behind : List ℕ) → bs ≡ text ++ behind → is_closed any q text ≡ false

-- the same behind a bad escape
abbrev pub EndsBad : ℕ → ℕ → List ℕ → TextEnd → Type 0
EndsBad q at bs (Closed n) = ⊥
EndsBad q at bs (BadEscape n) = (after : List ℕ) × (behind : List ℕ) × (bs ≡ after ++ behind) × (n ≡ at) × (is_closed any q after ≡ true)
EndsBad q at bs Open = (text behind : List ℕ) → bs ≡ text ++ behind → is_closed any q text ≡ false

pub closed_plain : (passes : ℕ → Bool) (q c : ℕ) (text : List ℕ) → (c == q) ≡ false → (c == 92) ≡ false → is_closed passes q (c ∷ text) ≡ is_closed passes q text
closed_plain passes q c [] h k = h
closed_plain passes q c (d ∷ r) h k = ap (λ t. cond t (passes d && is_closed passes q r) (not (c == q) && is_closed passes q (d ∷ r))) k ∙ ap (λ t. not t && is_closed passes q (d ∷ r)) h

pub closed_escape : (passes : ℕ → Bool) (q c d : ℕ) (text : List ℕ) → (c == 92) ≡ true → is_closed passes q (c ∷ d ∷ text) ≡ (passes d && is_closed passes q text)
closed_escape passes q c d text k = ap (λ t. cond t (passes d && is_closed passes q text) (not (c == q) && is_closed passes q (d ∷ text))) k

abbrev pub Unclosed : ℕ → List ℕ → Type 0
Unclosed q bs = (text behind : List ℕ) → bs ≡ text ++ behind → is_closed any q text ≡ false

unclosed_nil : (q : ℕ) → Unclosed q []
unclosed_nil q [] behind e = refl
unclosed_nil q (x ∷ t) behind e = absurd (omega (arith, ap length e))

unclosed_plain : (q c : ℕ) (bs : List ℕ) → (c == q) ≡ false → (c == 92) ≡ false → Unclosed q bs → Unclosed q (c ∷ bs)
unclosed_plain q c bs h k u [] behind e = refl
unclosed_plain q c bs h k u (x ∷ t) behind e = ap (λ y. is_closed any q (y ∷ t)) (sym (ap first e)) ∙ closed_plain any q c t h k ∙ u t behind (ap (drop 1) e)

unclosed_one : (q c : ℕ) → (c == q) ≡ false → Unclosed q (c ∷ [])
unclosed_one q c h [] behind e = refl
unclosed_one q c h (x ∷ []) behind e = ap (λ y. y == q) (sym (ap first e)) ∙ h
unclosed_one q c h (x ∷ y ∷ t) behind e = absurd (omega (arith, ap length e))

unclosed_escape : (q c d : ℕ) (bs : List ℕ) → (c == q) ≡ false → (c == 92) ≡ true → Unclosed q bs → Unclosed q (c ∷ d ∷ bs)
unclosed_escape q c d bs h k u [] behind e = refl
unclosed_escape q c d bs h k u (x ∷ []) behind e = ap (λ y. y == q) (sym (ap first e)) ∙ h
unclosed_escape q c d bs h k u (x ∷ y ∷ t) behind e = closed_escape any q x y t (ap (λ z. z == 92) (sym (ap first e)) ∙ k) ∙ u t behind (ap (drop 2) e)

plain_bad : (q at c : ℕ) (bs : List ℕ) (end : TextEnd) → (c == q) ≡ false → (c == 92) ≡ false → EndsBad q at bs end → EndsBad q at (c ∷ bs) end
plain_bad q at c bs (Closed n) h k x = x
plain_bad q at c bs (BadEscape n) h k x = (c ∷ x.0, x.1, ap (λ l. c ∷ l) x.2, x.3, closed_plain any q c x.0 h k ∙ x.4)
plain_bad q at c bs Open h k x = unclosed_plain q c bs h k x

escape_bad : (q at c d : ℕ) (bs : List ℕ) (end : TextEnd) → (c == q) ≡ false → (c == 92) ≡ true → EndsBad q at bs end → EndsBad q at (c ∷ d ∷ bs) end
escape_bad q at c d bs (Closed n) h k x = x
escape_bad q at c d bs (BadEscape n) h k x = (c ∷ d ∷ x.0, x.1, ap (λ l. c ∷ d ∷ l) x.2, x.3, closed_escape any q c d x.0 k ∙ x.4)
escape_bad q at c d bs Open h k x = unclosed_escape q c d bs h k x

one_bad : (q at i c : ℕ) (s t : Bool) → (c == q) ≡ s → EndsBad q at (c ∷ []) (cond s (closed_at (Some at) (suc i)) (scan q [] (cond t (Some i) None) (suc i) (Some at)))
one_bad q at i c true t e = (c ∷ [], [], refl, refl, e)
one_bad q at i c false t e = unclosed_one q c e

two_bad : (q at i c d : ℕ) (r : List ℕ) (s t : Bool) → (c == q) ≡ s → (c == 92) ≡ t → EndsBad q at r (scan q r None (suc (suc i)) (Some at)) → EndsBad q at (d ∷ r) (scan q (d ∷ r) None (suc i) (Some at)) → EndsBad q at (c ∷ d ∷ r) (cond s (closed_at (Some at) (suc i)) (scan q (d ∷ r) (cond t (Some i) None) (suc i) (Some at)))
two_bad q at i c d r true t e k x y = (c ∷ [], d ∷ r, refl, refl, e)
two_bad q at i c d r false true e k x y = escape_bad q at c d r (scan q r None (suc (suc i)) (Some at)) e k x
two_bad q at i c d r false false e k x y = plain_bad q at c (d ∷ r) (scan q (d ∷ r) None (suc i) (Some at)) e k y

ends_bad : (q at i : ℕ) (bs : List ℕ) → EndsBad q at bs (scan q bs None i (Some at))
ends_bad q at i [] = unclosed_nil q
ends_bad q at i (c ∷ []) = one_bad q at i c (c == q) (c == 92) refl
ends_bad q at i (c ∷ d ∷ r) = two_bad q at i c d r (c == q) (c == 92) refl refl (ends_bad q at (suc (suc i)) r) (ends_bad q at (suc i) (d ∷ r))

plain : (q i c : ℕ) (bs : List ℕ) (end : TextEnd) → (c == q) ≡ false → (c == 92) ≡ false → Ends q (suc i) bs end → Ends q i (c ∷ bs) end
plain q i c bs (Closed n) h k x = (c ∷ x.0, x.1, ap (λ l. c ∷ l) x.2, closed_plain is_escaped q c x.0 h k ∙ x.3, omega (arith, x.4))
plain q i c bs (BadEscape n) h k x = (c ∷ x.0, x.1, x.2, x.3, ap (λ l. c ∷ l) x.4, omega (arith, x.5), closed_plain is_escaped q c (x.0 ++ q ∷ []) h k ∙ x.6, x.7, x.8)
plain q i c bs Open h k x = unclosed_plain q c bs h k x

escape : (q i c d : ℕ) (bs : List ℕ) (end : TextEnd) → (c == q) ≡ false → (c == 92) ≡ true → is_escaped d ≡ true → Ends q (suc (suc i)) bs end → Ends q i (c ∷ d ∷ bs) end
escape q i c d bs (Closed n) h k p x = (c ∷ d ∷ x.0, x.1, ap (λ l. c ∷ d ∷ l) x.2, closed_escape is_escaped q c d x.0 k ∙ and_from (is_escaped d) (is_closed is_escaped q x.0) p x.3, omega (arith, x.4))
escape q i c d bs (BadEscape n) h k p x = (c ∷ d ∷ x.0, x.1, x.2, x.3, ap (λ l. c ∷ d ∷ l) x.4, omega (arith, x.5), closed_escape is_escaped q c d (x.0 ++ q ∷ []) k ∙ and_from (is_escaped d) (is_closed is_escaped q (x.0 ++ q ∷ [])) p x.6, x.7, x.8)
escape q i c d bs Open h k p x = unclosed_escape q c d bs h k x

bad_here : (q i c d : ℕ) (bs : List ℕ) (end : TextEnd) → (c == q) ≡ false → (c == 92) ≡ true → is_escaped d ≡ false → EndsBad q i bs end → Ends q i (c ∷ d ∷ bs) end
bad_here q i c d bs (Closed n) h k p x = absurd x
bad_here q i c d bs (BadEscape n) h k p x = ([], d, x.0, x.1, ap (λ y. y ∷ d ∷ bs) (eqb-true c 92 k) ∙ ap (λ l. 92 ∷ d ∷ l) x.2, omega (arith, x.3), same_self q, p, x.4)
bad_here q i c d bs Open h k p x = unclosed_escape q c d bs h k x

one : (q i c : ℕ) (s t : Bool) → (c == q) ≡ s → Ends q i (c ∷ []) (cond s (closed_at None (suc i)) (scan q [] (cond t (Some i) None) (suc i) None))
one q i c true t e = (c ∷ [], [], refl, e, omega arith)
one q i c false t e = unclosed_one q c e

two_escape : (q i c d : ℕ) (r : List ℕ) (p : Bool) → (c == q) ≡ false → (c == 92) ≡ true → is_escaped d ≡ p → Ends q (suc (suc i)) r (scan q r None (suc (suc i)) None) → Ends q i (c ∷ d ∷ r) (scan q r None (suc (suc i)) (first_bad p None i))
two_escape q i c d r true e k p x = escape q i c d r (scan q r None (suc (suc i)) None) e k p x
two_escape q i c d r false e k p x = bad_here q i c d r (scan q r None (suc (suc i)) (Some i)) e k p (ends_bad q i (suc (suc i)) r)

two : (q i c d : ℕ) (r : List ℕ) (s t : Bool) → (c == q) ≡ s → (c == 92) ≡ t → Ends q (suc (suc i)) r (scan q r None (suc (suc i)) None) → Ends q (suc i) (d ∷ r) (scan q (d ∷ r) None (suc i) None) → Ends q i (c ∷ d ∷ r) (cond s (closed_at None (suc i)) (scan q (d ∷ r) (cond t (Some i) None) (suc i) None))
two q i c d r true t e k x y = (c ∷ [], d ∷ r, refl, e, omega arith)
two q i c d r false true e k x y = two_escape q i c d r (is_escaped d) e k refl x
two q i c d r false false e k x y = plain q i c (d ∷ r) (scan q (d ∷ r) None (suc i) None) e k y

pub ends : (q i : ℕ) (bs : List ℕ) → Ends q i bs (scan q bs None i None)
ends q i [] = unclosed_nil q
ends q i (c ∷ []) = one q i c (c == q) (c == 92) refl
ends q i (c ∷ d ∷ r) = two q i c d r (c == q) (c == 92) refl refl (ends q (suc (suc i)) r) (ends q (suc i) (d ∷ r))

-- two closed texts that begin alike are equally long
closed_first : (passes : ℕ → Bool) (q x y : ℕ) (o : List ℕ) → (q == 92) ≡ false → (x == q) ≡ true → is_closed passes q (x ∷ y ∷ o) ≡ true → ⊥
closed_first passes q x y o h k c =
    clash (is_closed passes q (x ∷ y ∷ o)) (ap (λ t. cond t (passes y && is_closed passes q o) (not (x == q) && is_closed passes q (y ∷ o))) (ap (λ z. z == 92) (eqb-true x q k) ∙ h) ∙ ap (λ t. not t && is_closed passes q (y ∷ o)) k) c

pub closed_rest : (passes : ℕ → Bool) (q c d : ℕ) (r : List ℕ) → (c == 92) ≡ false → is_closed passes q (c ∷ d ∷ r) ≡ true → is_closed passes q (d ∷ r) ≡ true
closed_rest passes q c d r k h = and_right (not (c == q)) (is_closed passes q (d ∷ r)) (sym (ap (λ t. cond t (passes d && is_closed passes q r) (not (c == q) && is_closed passes q (d ∷ r))) k) ∙ h)

pub closed_behind : (passes : ℕ → Bool) (q c d : ℕ) (r : List ℕ) → (c == 92) ≡ true → is_closed passes q (c ∷ d ∷ r) ≡ true → is_closed passes q r ≡ true
closed_behind passes q c d r k h = and_right (passes d) (is_closed passes q r) (sym (closed_escape passes q c d r k) ∙ h)

closed_once_by : (q c d x y : ℕ) (t o behind more : List ℕ) (s : Bool) → (c == 92) ≡ s → c ≡ x
    → is_closed is_escaped q (c ∷ d ∷ t) ≡ true → is_closed is_escaped q (x ∷ y ∷ o) ≡ true
    → (is_closed is_escaped q t ≡ true → is_closed is_escaped q o ≡ true → length o ≤ length t)
    → (is_closed is_escaped q (d ∷ t) ≡ true → is_closed is_escaped q (y ∷ o) ≡ true → length (y ∷ o) ≤ length (d ∷ t))
    → length (x ∷ y ∷ o) ≤ length (c ∷ d ∷ t)
closed_once_by q c d x y t o behind more true k e h j f g = omega (arith, f (closed_behind is_escaped q c d t k h) (closed_behind is_escaped q x y o (ap (λ z. z == 92) (sym e) ∙ k) j))
closed_once_by q c d x y t o behind more false k e h j f g = omega (arith, g (closed_rest is_escaped q c d t k h) (closed_rest is_escaped q x y o (ap (λ z. z == 92) (sym e) ∙ k) j))

pub closed_once : (q : ℕ) (text other behind more : List ℕ) → (q == 92) ≡ false → text ++ behind ≡ other ++ more → is_closed is_escaped q text ≡ true → is_closed is_escaped q other ≡ true → length other ≤ length text
closed_once q [] other behind more h e c o = absurd (false≢true c)
closed_once q (x ∷ t) [] behind more h e c o = omega arith
closed_once q (x ∷ []) (y ∷ []) behind more h e c o = omega arith
closed_once q (x ∷ []) (y ∷ z ∷ r) behind more h e c o = absurd (closed_first is_escaped q y z r h (ap (λ w. w == q) (sym (ap first e)) ∙ c) o)
closed_once q (x ∷ w ∷ t) (y ∷ []) behind more h e c o = omega arith
closed_once q (x ∷ w ∷ t) (y ∷ z ∷ r) behind more h e c o =
    closed_once_by q x w y z t r behind more (x == 92) refl (ap first e) c o (closed_once q t r behind more h (ap (drop 2) e)) (closed_once q (w ∷ t) (z ∷ r) behind more h (ap (drop 1) e))
