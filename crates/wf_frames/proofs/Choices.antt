-- The arms of a switch, one after another.
use Rattle.std.proofs.Common.{◌≡◌, ℕ, ◌+◌, ◌<◌, Bool, ◌&&◌, true, false, List, ◌∷◌, length, drop, get_or, Ok, Err, Some, None, refl, sym, ap, subst, ◌∙◌, add-one}
use mathlib.Core.Logic.{inl, inr}
use Rattle.std.specs.Prelude.{◌⊎◌, suc, is_none, slice_get, Result, Option}
use Rattle.std.proofs.Math.Seq.{drop-cons}
use Rattle.std.proofs.lemmas.Bool.{and_parts}
use Rattle.wf_ast.specs.Apply.{View}
use Rattle.wf_ast.specs.Eval.{fill, truth}
use Rattle.wf_ast.specs.Tree.{Body, Template, Scalar}
use Rattle.wf_eval.specs.Answers.{Answers, Gives, GivesBool}
use Rattle.wf_frames.proofs.Evaluated.{gave, failed}
use Rattle.wf_model.specs.Spots.{Spot, part_at, part_body, part_next, part_condition, arms_by}
use Rattle.wf_frames.specs.Steps.{arm_in, Holds, is_idle, is_idle_kind}
use Rattle.wf_model.specs.declared.node.Node.{Node}
use Rattle.wf_model.specs.declared.node.NodeKind.{NodeKind}
use Rattle.wf_model.specs.declared.node.NodeKind.TheVariants as kind
use Rattle.wf_model.specs.Move.{chosen}
use Rattle.wf_value.specs.Data.{null}
use Rattle.wf_value.specs.Errors.{Answer, ◌>>=◌}
use Rattle.wf_value.specs.Plain.{plain}
use Rattle.wf_value.specs.declared.Raise.{Raise}
use Rattle.wf_value.specs.declared.Raise.TheVariants.{Error, OutOfMemory}
use Rattle.wf_value.specs.declared.Tag.TheVariants.{TypeError}
use Rattle.wf_value.specs.declared.Value.{Value}
use Rattle.wf_value.specs.Pairs.{Text}
use Rattle.wf_frames.proofs.Parts.{as_part, part_is}
use Rattle.wf_frames.specs.Built.{IsTableOf}
use Rattle.wf_model.specs.NodeKinds.{kind_by}
use Rattle.wf_model.specs.Shapes.{Compiled, shape_by}
use Rattle.wf_model.specs.Table.{Resolves, part_by}
use Rattle.wf_model.specs.declared.shape.Shape.{Shape}

-- ## Conditions
condition_in : (ns : List Spot) (cs : Compiled) (x : Text) (next : Option Text) (k : NodeKind) → ((t : Shape) → k ≡ kind.Arm t → ⊥) → part_condition (part_by ns x next (kind_by cs k)) ≡ Scalar null
condition_in ns cs x next (kind.Arm t) h = absurd (h t refl)
condition_in ns cs x next kind.Nothing h = refl
condition_in ns cs x next (kind.Flow b) h = refl
condition_in ns cs x next (kind.Assign v) h = refl
condition_in ns cs x next (kind.Call f) h = refl
condition_in ns cs x next (kind.Switch v) h = refl
condition_in ns cs x next (kind.For l) h = refl
condition_in ns cs x next (kind.Parallel p) h = refl
condition_in ns cs x next (kind.Block b) h = refl
condition_in ns cs x next (kind.Try t) h = refl
condition_in ns cs x next (kind.Raise t) h = refl
condition_in ns cs x next (kind.Return t) h = refl
condition_in ns cs x next (kind.Entry e) h = refl
condition_in ns cs x next (kind.Branch b) h = refl

pub no_condition : (ns : List Spot) (nodes : List Node) (n : ℕ) (x : Node) → Resolves ns nodes → slice_get nodes n ≡ Some x → ((t : Shape) → x.kind ≡ kind.Arm t → ⊥) → part_condition (part_at ns n) ≡ Scalar null
no_condition ns nodes n x r e h = ap part_condition (part_is ns nodes n x r e) ∙ condition_in ns x.codes.items.items x.name x.next x.kind h

pub condition_is : (ns : List Spot) (nodes : List Node) (n : ℕ) (x : Node) (t : Shape) → Resolves ns nodes → slice_get nodes n ≡ Some x → x.kind ≡ kind.Arm t → part_condition (part_at ns n) ≡ shape_by x.codes.items.items t
condition_is ns nodes n x t r e h = ap part_condition (as_part ns nodes n x (kind.Arm t) r e h)

-- ## Conditions that hold
pub null_holds : (ns : List Spot) (n : ℕ) (v : View) → part_condition (part_at ns n) ≡ Scalar null → Holds ns n v (Err (Error TypeError))
null_holds ns n v e = subst (λ t. Answers (λ (b : Bool). b) (Err (Error TypeError)) (fill t v >>= truth)) (sym e) refl

pub truth_holds : (ns : List Spot) (n : ℕ) (v : View) (t : Template) (x : Value) (q : Result Bool Raise) → part_condition (part_at ns n) ≡ t → Gives (Ok x) (fill t v) → GivesBool q (truth (plain x)) → Holds ns n v q
truth_holds ns n v t x q e g h =
    let found = gave plain x (fill t v) g in
    subst (λ u. Answers (λ (b : Bool). b) q (fill u v >>= truth)) (sym e) (subst (λ d. Answers (λ (b : Bool). b) q (d >>= truth)) (sym found) h)

pub error_holds : (ns : List Spot) (n : ℕ) (v : View) (t : Template) (r : Raise) → part_condition (part_at ns n) ≡ t → Gives (Err r) (fill t v) → Holds ns n v (Err r)
error_holds ns n v t OutOfMemory e g = tt
error_holds ns n v t (Error a) e g =
    let found = failed plain a (fill t v) g in
    subst (λ u. Answers (λ (b : Bool). b) (Err (Error a)) (fill u v >>= truth)) (sym e) (subst (λ d. Answers (λ (b : Bool). b) (Err (Error a)) (d >>= truth)) (sym found) refl)

-- ## One arm
chained : {A B C : Type 0} (d : Answer A) (f : A → Answer B) (g : B → Answer C) → (d >>= λ x. f x >>= g) ≡ ((d >>= f) >>= g)
chained (Ok x) f g = refl
chained (Err t) f g = refl

module _ (ns : List Spot) (v : View) (xs : List ℕ) (i n : ℕ) (lt : i < length xs) (here : get_or xs i 0 ≡ n) where
  rest : Bool → Answer (Option (Body × Option Text))
  rest b = elim b [ true ↦ Ok (Some (part_body (part_at ns (suc n)), part_next (part_at ns (suc n)))) | false ↦ chosen v (arms_by ns (drop (suc i) xs)) ]

  opens : chosen v (arms_by ns (drop i xs)) ≡ ((fill (part_condition (part_at ns n)) v >>= truth) >>= λ b. elim b [ true ↦ Ok (Some (part_body (part_at ns (suc n)), part_next (part_at ns (suc n)))) | false ↦ chosen v (arms_by ns (drop (suc i) xs)) ])
  opens = ap (λ ys. chosen v (arms_by ns ys)) (drop-cons xs i 0 lt ∙ ap (λ m. m ∷ drop (suc i) xs) here)
      ∙ chained (fill (part_condition (part_at ns n)) v) truth (λ b. elim b [ true ↦ Ok (Some (part_body (part_at ns (suc n)), part_next (part_at ns (suc n)))) | false ↦ chosen v (arms_by ns (drop (suc i) xs)) ])

  pub at_true : Holds ns n v (Ok true) → Answers (arm_in ns) (Ok (Some (n + 1))) (chosen v (arms_by ns (drop i xs)))
  at_true h =
      let found = gave (λ (b : Bool). b) true (fill (part_condition (part_at ns n)) v >>= truth) h in
      subst (λ q. Answers (arm_in ns) (Ok (Some (n + 1))) q) (sym (opens ∙ ap (λ q. q >>= λ b. elim b [ true ↦ Ok (Some (part_body (part_at ns (suc n)), part_next (part_at ns (suc n)))) | false ↦ chosen v (arms_by ns (drop (suc i) xs)) ]) found))
      (ap (λ m. Some (part_body (part_at ns m), part_next (part_at ns m))) (add-one n))

  pub at_false : Holds ns n v (Ok false) → chosen v (arms_by ns (drop i xs)) ≡ chosen v (arms_by ns (drop (i + 1) xs))
  at_false h =
      let found = gave (λ (b : Bool). b) false (fill (part_condition (part_at ns n)) v >>= truth) h in
      opens ∙ ap (λ q. q >>= λ b. elim b [ true ↦ Ok (Some (part_body (part_at ns (suc n)), part_next (part_at ns (suc n)))) | false ↦ chosen v (arms_by ns (drop (suc i) xs)) ]) found
      ∙ ap (λ m. chosen v (arms_by ns (drop m xs))) (sym (add-one i))

  pub at_error : (r : Raise) → Holds ns n v (Err r) → Answers (arm_in ns) (Err r) (chosen v (arms_by ns (drop i xs)))
  at_error OutOfMemory h = tt
  at_error (Error t) h =
      let found = failed (λ (b : Bool). b) t (fill (part_condition (part_at ns n)) v >>= truth) h in
      subst (λ q. Answers (arm_in ns) (Err (Error t)) q) (sym (opens ∙ ap (λ q. q >>= λ b. elim b [ true ↦ Ok (Some (part_body (part_at ns (suc n)), part_next (part_at ns (suc n)))) | false ↦ chosen v (arms_by ns (drop (suc i) xs)) ]) found)) refl

-- ## Nodes
pub idle_body : (ns : List Spot) (cs : Compiled) (x : Text) (next : Option Text) (k : NodeKind) → is_idle_kind k ≡ true → part_body (part_by ns x next (kind_by cs k)) ≡ Body.Nothing
idle_body ns cs x next (kind.Assign v) h = absurd (cc h)
idle_body ns cs x next (kind.Call f) h = absurd (cc h)
idle_body ns cs x next (kind.Switch v) h = absurd (cc h)
idle_body ns cs x next (kind.For l) h = absurd (cc h)
idle_body ns cs x next (kind.Parallel p) h = absurd (cc h)
idle_body ns cs x next (kind.Block b) h = absurd (cc h)
idle_body ns cs x next (kind.Try t) h = absurd (cc h)
idle_body ns cs x next (kind.Raise t) h = absurd (cc h)
idle_body ns cs x next (kind.Return t) h = absurd (cc h)
idle_body ns cs x next kind.Nothing h = refl
idle_body ns cs x next (kind.Flow b) h = refl
idle_body ns cs x next (kind.Arm t) h = refl
idle_body ns cs x next (kind.Entry e) h = refl
idle_body ns cs x next (kind.Branch b) h = refl

pub busy_body : (ns : List Spot) (cs : Compiled) (x : Text) (next : Option Text) (k : NodeKind) → is_idle_kind k ≡ false → part_body (part_by ns x next (kind_by cs k)) ≡ Body.Nothing → ⊥
busy_body ns cs x next (kind.Assign v) h e = absurd (cc e)
busy_body ns cs x next (kind.Call f) h e = absurd (cc e)
busy_body ns cs x next (kind.Switch v) h e = absurd (cc e)
busy_body ns cs x next (kind.For l) h e = absurd (cc e)
busy_body ns cs x next (kind.Parallel p) h e = absurd (cc e)
busy_body ns cs x next (kind.Block b) h e = absurd (cc e)
busy_body ns cs x next (kind.Try t) h e = absurd (cc e)
busy_body ns cs x next (kind.Raise t) h e = absurd (cc e)
busy_body ns cs x next (kind.Return t) h e = absurd (cc e)
busy_body ns cs x next kind.Nothing h e = absurd (cc h)
busy_body ns cs x next (kind.Flow b) h e = absurd (cc h)
busy_body ns cs x next (kind.Arm t) h e = absurd (cc h)
busy_body ns cs x next (kind.Entry y) h e = absurd (cc h)
busy_body ns cs x next (kind.Branch b) h e = absurd (cc h)

pub none_is : {A : Type 0} (o : Option A) → is_none o ≡ true → o ≡ None
none_is None h = refl
none_is (Some a) h = absurd (cc h)

pub idle_is : (ns : List Spot) (nodes : List Node) (n : ℕ) (x : Node) → IsTableOf ns nodes → slice_get nodes n ≡ Some x → is_idle x ≡ true → (part_body (part_at ns n) ≡ Body.Nothing) × (part_next (part_at ns n) ≡ None)
idle_is ns nodes n x r e h =
    let two = and_parts (is_idle_kind x.kind) (is_none x.next) h in
    (ap part_body (part_is ns nodes n x r.resolves e) ∙ idle_body ns x.codes.items.items x.name x.next x.kind two.0, r.nexts n x e ∙ none_is x.next two.1)

either_false : (a b : Bool) → a && b ≡ false → (a ≡ true → b ≡ true → ⊥)
either_false true true h p q = absurd (cc h)
either_false true false h p q = absurd (cc q)
either_false false b h p q = absurd (cc p)

idle_or : (b : Bool) → (b ≡ true) ⊎ (b ≡ false)
idle_or true = inl refl
idle_or false = inr refl

pub busy_is : (ns : List Spot) (nodes : List Node) (n : ℕ) (x : Node) → IsTableOf ns nodes → slice_get nodes n ≡ Some x → is_idle x ≡ false → part_body (part_at ns n) ≡ Body.Nothing → part_next (part_at ns n) ≡ None → ⊥
busy_is ns nodes n x r e h b m =
    let there : part_body (part_by ns x.name x.next (kind_by x.codes.items.items x.kind)) ≡ Body.Nothing = ap part_body (sym (part_is ns nodes n x r.resolves e)) ∙ b in
    let gone : is_none x.next ≡ true = ap is_none (sym (r.nexts n x e) ∙ m) in
    either_false (is_idle_kind x.kind) (is_none x.next) h (elim (idle_or (is_idle_kind x.kind)) [ inl t ↦ t | inr f ↦ absurd (busy_body ns x.codes.items.items x.name x.next x.kind f there) ]) gone
