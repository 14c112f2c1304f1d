use Rattle.std.proofs.Common.{◌≡◌, ℕ, Bool, true, false, Option, None, Some, bytes_eq, if◌then◌else◌, string_bytes, refl, sym, ap, ◌∙◌}
use Rattle.std.proofs.lemmas.Map.Text.{btree_map_updates_text}
use Rattle.std.proofs.lemmas.Slice.Eq.{bytes_eq-Decides}
use Rattle.std.specs.Bool.{one_answer}
use Rattle.wf_assigned.proofs.numbers.Numbers.add.Goals as goal
use Rattle.wf_assigned.specs.Numbers.{number_of, or_named}
use Rattle.wf_value.specs.Pairs.{Text}

either_way : (x y : Text) → bytes_eq x y ≡ bytes_eq y x
either_way x y = one_answer (bytes_eq x y) (bytes_eq y x) (bytes_eq-Decides x y) (λ is. sym ((bytes_eq-Decides y x).0 is), λ same. (bytes_eq-Decides y x).1 (sym same))

-- a name that has a number keeps it
has_one : (o p : Option ℕ) (x name : Text) (n m : ℕ) → (x ≡ name → o ≡ p) → p ≡ Some m → o ≡ or_named o x name n
has_one (Some k) p x name n m h e = refl
has_one None p x name n m h e = by (bytes_eq x name) refl
  where
    by : (b : Bool) → bytes_eq x name ≡ b → None ≡ (if b then Some n else None)
    by true i = absurd (cc (h ((bytes_eq-Decides x name).0 i), e))
    by false i = refl

-- one that has none gets it
gets_one : (o new : Option ℕ) (l x name : Text) (n : ℕ) → l ≡ name → (x ≡ name → o ≡ None) → new ≡ (if bytes_eq l x then Some n else o) → new ≡ or_named o x name n
gets_one None new l x name n is none e = e ∙ ap (λ b. if b then Some n else None) (ap (λ y. bytes_eq y x) is ∙ either_way name x)
gets_one (Some k) new l x name n is none e = e ∙ ap (λ b. if b then Some n else Some k) (ap (λ y. bytes_eq y x) is ∙ either_way name x) ∙ by (bytes_eq x name) refl
  where
    by : (b : Bool) → bytes_eq x name ≡ b → (if b then Some n else Some k) ≡ Some k
    by true i = absurd (cc (none ((bytes_eq-Decides x name).0 i)))
    by false i = refl

pub returns-in-Some : goal.returns-in-Some
returns-in-Some c = λ x. has_one (number_of c.args.self.now x) (number_of c.args.self.now c.args.name.now) x c.args.name.now c.args.number _ (ap (number_of c.args.self.now)) (sym c.find.ensures ∙ c.in-Some.is)

pub returns : goal.returns
returns c = λ x.
    gets_one (number_of c.args.self.now x) (number_of (record { alloc = c.args.self.now.alloc; numbers = c.insert.new.self }) x) (string_bytes c.in_ok-copy.copy) x c.args.name.now c.args.number c.in_ok-copy.ensures.ok
    (λ e. ap (number_of c.args.self.now) e ∙ sym c.find.ensures ∙ c.in-None.is)
    (btree_map_updates_text (string_bytes c.in_ok-copy.copy) c.args.self.now.numbers c.insert.new.self _ c.in_ok-insert.ensures.updates x)
