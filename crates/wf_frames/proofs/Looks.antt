-- A name has the value that a task sees, where the layers that are seen are the task's.
use Rattle.std.proofs.Common.{◌≡◌, ℕ, suc, Bool, true, false, List, [], ◌∷◌, map, Option, Some, None, refl, sym, ap, ◌∙◌}
use Rattle.std.specs.Prelude.{if◌then◌else◌}
use Rattle.wf_model.specs.Config as model
use Rattle.wf_model.specs.Layers.{Own, Outside, Nowhere, held_in, held_outside, value_of}
use Rattle.wf_model.specs.Local.{Outer}
use Rattle.wf_value.specs.Data.{Data, Pairs, pairs_of}
use Rattle.wf_value.specs.Maps.{value_at}
use Rattle.wf_value.specs.Pairs.{Text, get}
use Rattle.wf_scope.specs.Layers.{Layer, look_in}
use Rattle.wf_frames.specs.Tasks.{LooksAsTasksDo, seen, variables}
use Rattle.wf_scope.proofs.Writing.{pairs_listed}

same_value : (x : Text) (l : Layer) (ps : Pairs) → pairs_of l.vars ≡ ps → value_at x l.vars ≡ get x ps
same_value x l ps e = sym (ap (value_at x) (pairs_listed l.vars)) ∙ ap (get x) e

outside : (x : Text) (n : ℕ) (os : List Outer) (ls : List Layer) → variables ls ≡ map (λ o. o.layer.vars) os → look_in x ls ≡ value_of (held_outside x n os)
outside x n [] [] e = refl
outside x n [] (l ∷ ls) e = cc
outside x n (o ∷ os) [] e = cc
outside x n (o ∷ os) (l ∷ ls) e =
    let head : pairs_of l.vars ≡ o.layer.vars = cc in
    let tail : variables ls ≡ map (λ o. o.layer.vars) os = cc in
    by (value_at x l.vars) (outside x (suc n) os ls tail) ∙ ap (λ g. value_of (elim g [ Some v ↦ Outside n o.shared v | None ↦ held_outside x (suc n) os ])) (same_value x l o.layer.vars head)
  where
    by : (g : Option Data) → look_in x ls ≡ value_of (held_outside x (suc n) os) → elim g [ None ↦ look_in x ls | Some v ↦ Some v ] ≡ value_of (elim g [ Some v ↦ Outside n o.shared v | None ↦ held_outside x (suc n) os ])
    by None later = later
    by (Some v) later = refl

own : (x : Text) (n : ℕ) (own_layers : List model.Layer) (os : List Outer) (ls : List Layer) → variables ls ≡ seen own_layers os → look_in x ls ≡ value_of (held_in x n own_layers (held_outside x 0 os))
own x n [] os ls e = outside x 0 os ls e
own x n (m ∷ ms) os [] e = cc
own x n (m ∷ ms) os (l ∷ ls) e =
    let head : pairs_of l.vars ≡ m.vars = cc in
    let tail : variables ls ≡ (if m.by_call then [] else seen ms os) = cc in
    by (value_at x l.vars) (further m.by_call tail (own x (suc n) ms os ls)) ∙ ap (λ g. value_of (elim g [ Some v ↦ Own n v | None ↦ if m.by_call then Nowhere else held_in x (suc n) ms (held_outside x 0 os) ])) (same_value x l m.vars head)
  where
    none_seen : (ys : List Layer) → variables ys ≡ [] → look_in x ys ≡ None
    none_seen [] h = refl
    none_seen (y ∷ ys) h = cc

    further : (b : Bool) → variables ls ≡ (if b then [] else seen ms os) → (variables ls ≡ seen ms os → look_in x ls ≡ value_of (held_in x (suc n) ms (held_outside x 0 os))) → look_in x ls ≡ value_of (if b then Nowhere else held_in x (suc n) ms (held_outside x 0 os))
    further true h later = none_seen ls h
    further false h later = later h

    by : (g : Option Data) → look_in x ls ≡ value_of (if m.by_call then Nowhere else held_in x (suc n) ms (held_outside x 0 os))
        → elim g [ None ↦ look_in x ls | Some v ↦ Some v ] ≡ value_of (elim g [ Some v ↦ Own n v | None ↦ if m.by_call then Nowhere else held_in x (suc n) ms (held_outside x 0 os) ])
    by None later = later
    by (Some v) later = refl

pub looks : LooksAsTasksDo
looks x ls t e = own x 0 t.layers t.outer ls e
