-- The move of the innermost frame.
use Rattle.std.proofs.Common.{◌≡◌, ℕ, ◌+◌, ◌<◌, true, false, List, [], ◌∷◌, length, get_or, Some, None, refl, sym, ap, subst, ◌∙◌, arith, add-one}
use Rattle.std.specs.Prelude.{zero, suc, drop, IfNone, Option}
use Rattle.wf_ast.specs.Apply.{View}
use Rattle.wf_ast.specs.Tree.{more}
use Rattle.wf_frames.specs.Fits.{Fits, entries_at, list_at, outside_at, reach}
use Rattle.wf_frames.specs.Frames.{body_entries, control, popped, topped}
use Rattle.wf_frames.specs.declared.frames.Frame.{Frame}
use Rattle.wf_frames.specs.declared.frames.Frame.TheVariants as frame
use Rattle.wf_model.specs.Config.{Do, Entries}
use Rattle.wf_model.specs.Move.{assigns, moves}
use Rattle.wf_frames.proofs.Parts.{below_get, entries_is, list_is, list_stands, stand_get}
use Rattle.wf_frames.specs.Steps.{CarriesOut, Moves}
use Rattle.wf_frames.specs.declared.step.Step.{Step}
use Rattle.wf_frames.specs.declared.step.Step.TheVariants as step
use Rattle.wf_model.specs.NodeKinds.{Listed}
use Rattle.wf_model.specs.Spots.{Spot, part_at, part_body, part_next, part_step, part_list, part_entry, entries_by, steps_by, from, owners_at}
use Rattle.wf_model.specs.Table.{Resolves}
use Rattle.wf_model.specs.declared.node.Node.{Node}

-- ## The innermost frame is taken
pub taken_first : (fs new : List Frame) (f : Frame) (o : Option Frame) → topped fs ≡ Some f → fs ≡ popped o new → IfNone o (new ≡ []) → fs ≡ f ∷ new
taken_first fs new f None t e none = let there : None ≡ Some f = sym (ap topped (e ∙ none)) ∙ t in absurd (cc there)
taken_first fs new f (Some g) t e none = let same : Some g ≡ Some f = sym (ap topped e) ∙ t in let is : g ≡ f = cc same in e ∙ ap (λ h. h ∷ new) is

-- ## Steps
-- the steps from one that is there
pub from_next : (ns : List Spot) (xs : List ℕ) (i : ℕ) → i < length xs → from i (steps_by ns xs) ≡ more (part_step (part_at ns (get_or xs i 0))) (from (suc i) (steps_by ns xs))
from_next ns [] i h = absurd (omega (arith, h))
from_next ns (x ∷ xs) zero h = refl
from_next ns (x ∷ xs) (suc i) h = from_next ns xs i (omega (arith, h))

pub do_moves : (ns : List Spot) (nodes : List Node) (n at m : ℕ) (b : Listed) (v : View) (rest mid new : List Frame) (st : Step) → Resolves ns nodes → list_at nodes n ≡ Some b → at < length b.steps → get_or b.steps at 0 ≡ m
    → mid ≡ frame.Do n (at + 1) ∷ rest → CarriesOut ns (part_body (part_at ns m)) (part_next (part_at ns m)) v mid new st → Moves ns (frame.Do n at ∷ rest) v new st
do_moves ns nodes n at m b v rest mid new st r h lt e is go s l same =
    let list = list_is ns nodes n b r h in
    let next : from at (part_list (part_at ns n)) ≡ more (part_step (part_at ns m)) (from (at + 1) (part_list (part_at ns n))) =
    ap (from at) list ∙ from_next ns b.steps at lt ∙ ap (λ (i : ℕ). more (part_step (part_at ns i)) (from (suc at) (steps_by ns b.steps))) e
    ∙ ap (λ ss. more (part_step (part_at ns m)) (from (suc at) ss)) (sym list) ∙ ap (λ (i : ℕ). more (part_step (part_at ns m)) (from i (part_list (part_at ns n)))) (sym (add-one at)) in
    ap (λ ss. moves s (Do (part_list (part_at ns n)) ss ∷ control ns rest) l) next
    ∙ subst (λ fs. CarriesOut ns (part_body (part_at ns m)) (part_next (part_at ns m)) v fs new st) is go s l same

pub lone_moves : (ns : List Spot) (n : ℕ) (v : View) (rest mid new : List Frame) (st : Step) → mid ≡ frame.Lone n true ∷ rest → CarriesOut ns (part_body (part_at ns n)) (part_next (part_at ns n)) v mid new st → Moves ns (frame.Lone n false ∷ rest) v new st
lone_moves ns n v rest mid new st is go s l same = subst (λ fs. CarriesOut ns (part_body (part_at ns n)) (part_next (part_at ns n)) v fs new st) is go s l same

-- the next step of a list
pub step_within : (ns : List Spot) (nodes : List Node) (n at : ℕ) (b : Listed) → Resolves ns nodes → list_at nodes n ≡ Some b → at < length b.steps → get_or b.steps at 0 < length nodes
step_within ns nodes n at b r h lt = below_get (length nodes) b.steps at (list_stands ns nodes n b r h).below lt

pub step_inside : (ns : List Spot) (nodes : List Node) (n at : ℕ) (b : Listed) (fs : List Frame) → Resolves ns nodes → list_at nodes n ≡ Some b → at < length b.steps → outside_at ns nodes n ≡ reach fs → owners_at ns (get_or b.steps at 0) ≡ n ∷ reach fs
step_inside ns nodes n at b fs r h lt out = stand_get ns (n ∷ outside_at ns nodes n) b.steps at (list_stands ns nodes n b r h).inside lt ∙ ap (λ (os : List ℕ). n ∷ os) out

pub step_fits : (ns : List Spot) (nodes : List Node) (n at : ℕ) (b : Listed) (fs new : List Frame) → list_at nodes n ≡ Some b → at < length b.steps → new ≡ frame.Do n (at + 1) ∷ fs → Fits ns nodes (frame.Do n at ∷ fs) → Fits ns nodes new
step_fits ns nodes n at b fs new h lt e fits = subst (Fits ns nodes) (sym e) (((b, h, omega (arith, lt)), fits.0.1), fits.1)

-- ## Entries
pub entries_next : (ns : List Spot) (xs : List ℕ) (i : ℕ) → i < length xs → drop i (entries_by ns xs) ≡ part_entry (part_at ns (get_or xs i 0)) ∷ drop (suc i) (entries_by ns xs)
entries_next ns [] i h = absurd (omega (arith, h))
entries_next ns (x ∷ xs) zero h = refl
entries_next ns (x ∷ xs) (suc i) h = entries_next ns xs i (omega (arith, h))

pub entry_moves : (ns : List Spot) (nodes : List Node) (n at m : ℕ) (e : List ℕ) (v : View) (rest mid : List Frame) → Resolves ns nodes → entries_at nodes n ≡ Some e → at < length e → get_or e at 0 ≡ m
    → mid ≡ frame.Entries n (at + 1) ∷ rest → Moves ns (frame.Entries n at ∷ rest) v mid (step.Assigns m)
entry_moves ns nodes n at m e v rest mid r h lt is go s l same =
    let list : body_entries (part_body (part_at ns n)) ≡ entries_by ns e = entries_is ns nodes n e r h in
    let next : drop at (body_entries (part_body (part_at ns n))) ≡ part_entry (part_at ns m) ∷ drop (at + 1) (body_entries (part_body (part_at ns n))) =
    ap (drop at) list ∙ entries_next ns e at lt ∙ ap (λ (i : ℕ). part_entry (part_at ns i) ∷ drop (suc at) (entries_by ns e)) is
    ∙ ap (λ es. part_entry (part_at ns m) ∷ drop (suc at) es) (sym list) ∙ ap (λ (i : ℕ). part_entry (part_at ns m) ∷ drop i (body_entries (part_body (part_at ns n)))) (sym (add-one at)) in
    ap (λ es. moves s (Entries es ∷ control ns rest) l) next ∙ ap (λ fs. assigns s (part_entry (part_at ns m)) (control ns fs) l) (sym go)

pub entry_fits : (ns : List Spot) (nodes : List Node) (n at : ℕ) (b : List ℕ) (fs new : List Frame) → entries_at nodes n ≡ Some b → at < length b → new ≡ frame.Entries n (at + 1) ∷ fs → Fits ns nodes fs → Fits ns nodes new
entry_fits ns nodes n at b fs new h lt e fits = subst (Fits ns nodes) (sym e) (((b, h, omega (arith, lt)), tt), fits)
