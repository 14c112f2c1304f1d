-- The order of faults.
use Rattle.std.proofs.Common.{◌≡◌, ◌⊎◌, inl, inr, ℕ, ◌<◌, ◌≤◌, Bool, true, false, cond, ◌&&◌, ◌||◌, ◌==◌, nat_lt, nat_le, Result, Ok, Err, refl, sym, ap, ◌∙◌, true≢false, arith, eqb-true, eq-eqb, ltb-true, ltb-false, lt-ltb, leb-true, leb-false, le-leb, le_refl}
use Rattle.wf_lemmas.proofs.Bools.{or_true}
use Rattle.wf_yaml_line.specs.declared.fault.Kind.{Kind}
use Rattle.wf_yaml_line.specs.declared.fault.Kind.TheVariants as kinds
use Rattle.wf_yaml_line.specs.Fault.{Fault, rank, speaks_before, first_of_two, both}
use Rattle.wf_yaml_line.specs.FaultLaws.{SpeakingIsAnOrder, SpeaksBefore, TheLeastSpeaks}

-- ---- kinds

abbrev kind_at : ℕ → Kind
kind_at n =
    cond (n == 1) kinds.Tab (cond (n == 2) kinds.Indentation (cond (n == 3) kinds.DoubleKey (cond (n == 4) kinds.Anchor (cond (n == 5) kinds.Tag
    (cond (n == 6) kinds.Flow (cond (n == 7) kinds.Quote (cond (n == 8) kinds.Decimal (cond (n == 9) kinds.Unsupported kinds.TooDeep))))))))

ranked : (k : Kind) → kind_at (rank k) ≡ k
ranked kinds.Tab = refl
ranked kinds.Indentation = refl
ranked kinds.DoubleKey = refl
ranked kinds.Anchor = refl
ranked kinds.Tag = refl
ranked kinds.Flow = refl
ranked kinds.Quote = refl
ranked kinds.Decimal = refl
ranked kinds.Unsupported = refl
ranked kinds.TooDeep = refl

same_kind : (k l : Kind) → rank k ≡ rank l → k ≡ l
same_kind k l h = sym (ranked k) ∙ ap kind_at h ∙ ranked l

-- ---- the order

abbrev IsBefore : Fault → Fault → Type 0
IsBefore f g = (f.line < g.line) ⊎ ((f.line ≡ g.line) × (rank f.kind ≤ rank g.kind))

before_by : (f g : Fault) (less same low : Bool) → nat_lt f.line g.line ≡ less → (f.line == g.line) ≡ same → nat_le (rank f.kind) (rank g.kind) ≡ low → (less || (same && low)) ≡ true → IsBefore f g
before_by f g true same low l s k h = inl (ltb-true f.line g.line l)
before_by f g false true true l s k h = inr (eqb-true f.line g.line s, leb-true (rank f.kind) (rank g.kind) k)
before_by f g false true false l s k h = absurd (true≢false (sym h))
before_by f g false false low l s k h = absurd (true≢false (sym h))

before : (f g : Fault) → speaks_before f g ≡ true → IsBefore f g
before f g h = before_by f g (nat_lt f.line g.line) (f.line == g.line) (nat_le (rank f.kind) (rank g.kind)) refl refl refl h

speaks : (f g : Fault) → IsBefore f g → speaks_before f g ≡ true
speaks f g (inl less) = ap (λ b. b || (f.line == g.line && nat_le (rank f.kind) (rank g.kind))) (lt-ltb f.line g.line less)
speaks f g (inr both) = or_true (nat_lt f.line g.line) _ (λ i. eq-eqb f.line g.line both.0 i && le-leb (rank f.kind) (rank g.kind) both.1 i)

itself : (f : Fault) → speaks_before f f ≡ true
itself f = speaks f f (inr (refl, le_refl (rank f.kind)))

joined : (f g h : Fault) → IsBefore f g → IsBefore g h → IsBefore f h
joined f g h (inl a) (inl b) = inl (omega (arith, a, b))
joined f g h (inl a) (inr b) = inl (omega (arith, a, b.0))
joined f g h (inr a) (inl b) = inl (omega (arith, a.0, b))
joined f g h (inr a) (inr b) = inr (a.0 ∙ b.0, omega (arith, a.1, b.1))

either_by : (f g : Fault) (b c e : Bool) → nat_lt f.line g.line ≡ b → nat_lt g.line f.line ≡ c → nat_le (rank f.kind) (rank g.kind) ≡ e → IsBefore f g ⊎ IsBefore g f
either_by f g true c e p q r = inl (inl (ltb-true f.line g.line p))
either_by f g false true e p q r = inr (inl (ltb-true g.line f.line q))
either_by f g false false true p q r = inl (inr (omega (arith, ltb-false f.line g.line p, ltb-false g.line f.line q), leb-true (rank f.kind) (rank g.kind) r))
either_by f g false false false p q r = inr (inr (omega (arith, ltb-false f.line g.line p, ltb-false g.line f.line q), omega (arith, leb-false (rank f.kind) (rank g.kind) r)))

either : (f g : Fault) → (speaks_before f g ≡ true) ⊎ (speaks_before g f ≡ true)
either f g = by (either_by f g (nat_lt f.line g.line) (nat_lt g.line f.line) (nat_le (rank f.kind) (rank g.kind)) refl refl refl)
  where
    by : IsBefore f g ⊎ IsBefore g f → (speaks_before f g ≡ true) ⊎ (speaks_before g f ≡ true)
    by (inl h) = inl (speaks f g h)
    by (inr h) = inr (speaks g f h)

same : (f g : Fault) → IsBefore f g → IsBefore g f → f ≡ g
same f g (inl a) (inl b) = absurd (omega (arith, a, b))
same f g (inl a) (inr b) = absurd (omega (arith, a, b.0))
same f g (inr a) (inl b) = absurd (omega (arith, a.0, b))
same f g (inr a) (inr b) =
    let kind = same_kind f.kind g.kind (omega (arith, a.1, b.1)) in
    (λ i. record { line = a.0 i; kind = kind i })

pub order : SpeakingIsAnOrder
order =
    record {
      by_line_and_kind = λ f g. (before f g, speaks f g);
      reflexive = itself;
      transitive = λ f g h a b. speaks f h (joined f g h (before f g a) (before g h b));
      total = either;
      same_both_ways = λ f g a b. same f g (before f g a) (before g f b);
    }

-- ---- the least of two

err_same : {X : Type 0} (g h : Fault) (r : Result X Fault) → r ≡ Err g → r ≡ Err h → g ≡ h
err_same g h r a b = cc

alone : {X : Type 0} (g h : Fault) (r : Result X Fault) → g ≡ h → r ≡ Err g → SpeaksBefore h r
alone g h r same own k e =
    let one : h ≡ k = sym same ∙ err_same g k r own e in
    ap (speaks_before h) (sym one) ∙ itself h

module _ {A B C : Type 0} (f : A → B → C) where
  abbrev IsLeast : Result A Fault → Result B Fault → Fault → Type 0
  IsLeast part other h = ((part ≡ Err h) ⊎ (other ≡ Err h)) × SpeaksBefore h part × SpeaksBefore h other

  two_by : (g k h : Fault) (b : Bool) → speaks_before g k ≡ b → cond b g k ≡ h → IsLeast (Err g) (Err k) h
  two_by g k h true first same = (inl (ap Err same), alone g h (Err g) same refl, λ l e. (λ i. speaks_before (sym same i) (sym (err_same k l (Err k) refl e) i)) ∙ first)
  two_by g k h false first same = (inr (ap Err same), λ l e. (λ i. speaks_before (sym same i) (sym (err_same g l (Err g) refl e) i)) ∙ turned (either g k), alone k h (Err k) same refl)
    where
      turned : (speaks_before g k ≡ true) ⊎ (speaks_before k g ≡ true) → speaks_before k g ≡ true
      turned (inl h) = absurd (true≢false (sym h ∙ first))
      turned (inr h) = h

  least : (part : Result A Fault) (other : Result B Fault) (h : Fault) → both f part other ≡ Err h → IsLeast part other h
  least (Ok a) (Ok b) h e = absurd (cc)
  least (Ok a) (Err k) h e = let same = err_same k h (both f (Ok a) (Err k)) refl e in (inr (ap Err same), λ l x. absurd (cc), alone k h (Err k) same refl)
  least (Err g) (Ok b) h e = let same = err_same g h (both f (Err g) (Ok b)) refl e in (inl (ap Err same), alone g h (Err g) same refl, λ l x. absurd (cc))
  least (Err g) (Err k) h e = two_by g k h (speaks_before g k) refl (err_same (first_of_two g k) h (both f (Err g) (Err k)) refl e)

pub least_speaks : (A B C : Type 0) → TheLeastSpeaks A B C
least_speaks A B C f part other h e = least f part other h e
