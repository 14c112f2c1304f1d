-- `Told` says what `Resolves` says.
use Rattle.std.proofs.Common.{◌≡◌, ℕ, zero, suc, true, List, [], ◌∷◌, length, map, Option, Some, None, slice_get, refl, sym, ap, ◌∙◌, inl, inr, ⊎_elim, eqb}
use Rattle.std.proofs.lemmas.Bool.{eq-eqb, eqb-true, false≢true, or_cases, or_left, or_right}
use Rattle.std.proofs.lemmas.Option.{none-some}
use Rattle.std.specs.List.{list_any}
use Rattle.wf_ast.specs.Tree.{Step, Steps, no_steps, more}
use Rattle.wf_model.specs.Unwind.{from_step}
use Rattle.wf_model.specs.NodeKinds.{Listed, View, node_view}
use Rattle.wf_model.specs.Spots.{Spot, owners_at, part_at, part_list}
use Rattle.wf_model.specs.Table.{Leads, LeadsInto, NextLeads, Resolves, list_at}
use Rattle.wf_model.specs.Told.{NextTells, JumpTells, TellsInto, Told, is_more, numbers, steps_at}
use Rattle.wf_model.specs.declared.node.Jump.{Jump}
use Rattle.wf_model.specs.declared.node.Node.{Node}
use Rattle.wf_value.specs.Pairs.{Text}

-- ## What has witnesses
abbrev of_some : ℕ → Option ℕ → ℕ
of_some n None = n
of_some n (Some m) = m

is_there : (n : ℕ) (xs : List ℕ) (i : ℕ) → slice_get xs i ≡ Some n → list_any (λ m. eqb m n) xs ≡ true
is_there n [] i e = absurd (none-some n e)
is_there n (x ∷ xs) zero e = or_left (eqb x n) (list_any (λ m. eqb m n) xs) (eq-eqb x n (ap (of_some n) e))
is_there n (x ∷ xs) (suc i) e = or_right (eqb x n) (list_any (λ m. eqb m n) xs) (is_there n xs i e)

place_of : (n : ℕ) (xs : List ℕ) → list_any (λ m. eqb m n) xs ≡ true → (i : ℕ) × (slice_get xs i ≡ Some n)
place_of n [] e = absurd (false≢true e)
place_of n (x ∷ xs) e =
    ⊎_elim (λ first. (0, ap Some (eqb-true x n first))) (λ later. let p = place_of n xs later in (suc p.0, p.1)) (or_cases (eqb x n) (list_any (λ m. eqb m n) xs) e)

first_of : (ss : Steps) → is_more ss ≡ true → (to : Step) × (rest : Steps) × (ss ≡ more to rest)
first_of no_steps e = absurd (false≢true e)
first_of (more s rest) e = (s, rest, refl)

list_of : (o : Option Listed) (n : ℕ) → list_any (λ m. eqb m n) (numbers o) ≡ true → (b : Listed) × (o ≡ Some b)
list_of None n e = absurd (false≢true e)
list_of (Some b) n e = (b, refl)

-- ## Jumps
module _ (ns : List Spot) (views : List View) (x : Text) (j : Jump) (o depth : ℕ) where
  tells_into : LeadsInto ns views x j o depth → TellsInto ns views x j o depth
  tells_into l =
      let steps : steps_at views o ≡ l.list.steps = ap numbers l.owned in
      record {
        first = ap is_more l.first;
        keeps = l.keeps;
        has = is_there j.to (steps_at views o) l.has.0 (ap (λ xs. slice_get xs l.has.0) steps ∙ l.has.1);
        only = λ i e. l.only i (ap (λ xs. slice_get xs i) (sym steps) ∙ e) ∙ sym l.first;
      }

  leads_into : TellsInto ns views x j o depth → LeadsInto ns views x j o depth
  leads_into t =
      let f = first_of (from_step x (part_list (part_at ns o))) t.first in
      let b = list_of (list_at views o) j.to t.has in
      let steps : steps_at views o ≡ (b.0).steps = ap numbers b.1 in
      let p = place_of j.to (steps_at views o) t.has in
      record {
        to = f.0;
        rest = f.1;
        list = b.0;
        first = f.2;
        owned = b.1;
        keeps = t.keeps;
        has = (p.0, ap (λ xs. slice_get xs p.0) (sym steps) ∙ p.1);
        only = λ i e. t.only i (ap (λ xs. slice_get xs i) steps ∙ e) ∙ f.2;
      }

tells : (ns : List Spot) (views : List View) (x : Text) (j : Option Jump) (os : List ℕ) → Leads ns views x j os → JumpTells ns views x j os
tells ns views x None [] l = l
tells ns views x (Some j) [] l = l
tells ns views x None (o ∷ os) l = (l.0, tells ns views x None os l.1)
tells ns views x (Some j) (o ∷ os) (inl into) = inl (tells_into ns views x j o (suc (length os)) into)
tells ns views x (Some j) (o ∷ os) (inr lacks) = inr (lacks.0, tells ns views x (Some j) os lacks.1)

leads : (ns : List Spot) (views : List View) (x : Text) (j : Option Jump) (os : List ℕ) → JumpTells ns views x j os → Leads ns views x j os
leads ns views x None [] t = t
leads ns views x (Some j) [] t = t
leads ns views x None (o ∷ os) t = (t.0, leads ns views x None os t.1)
leads ns views x (Some j) (o ∷ os) (inl into) = inl (leads_into ns views x j o (suc (length os)) into)
leads ns views x (Some j) (o ∷ os) (inr lacks) = inr (lacks.0, leads ns views x (Some j) os lacks.1)

next_tells : (ns : List Spot) (views : List View) (x : Option Text) (j : Option Jump) (os : List ℕ) → NextLeads ns views x j os → NextTells ns views x j os
next_tells ns views None j os l = l
next_tells ns views (Some x) j os l = tells ns views x j os l

next_leads : (ns : List Spot) (views : List View) (x : Option Text) (j : Option Jump) (os : List ℕ) → NextTells ns views x j os → NextLeads ns views x j os
next_leads ns views None j os t = t
next_leads ns views (Some x) j os t = leads ns views x j os t

-- ## The table
pub told : (ns : List Spot) (nodes : List Node) → Resolves ns nodes → Told ns nodes
told ns nodes r = record {
  as_long = r.as_long;
  each = r.each;
  jumps = λ i x at. next_tells ns (map node_view nodes) x.next x.jump (owners_at ns i) (r.jumps i x at);
}

pub resolves : (ns : List Spot) (nodes : List Node) → Told ns nodes → Resolves ns nodes
resolves ns nodes t = record {
  as_long = t.as_long;
  each = t.each;
  jumps = λ i x at. next_leads ns (map node_view nodes) x.next x.jump (owners_at ns i) (t.jumps i x at);
}
