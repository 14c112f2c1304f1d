-- What the answer of an evaluation says of its meaning, and what a step does with it.
use Rattle.std.proofs.Common.{◌≡◌, ℕ, ◌<◌, List, [], ◌∷◌, length, get_or, Ok, Err, refl, sym, ap, subst, ◌∙◌, arith}
use Rattle.std.specs.Prelude.{zero, suc}
use Rattle.std.specs.Prelude.{Result}
use Rattle.wf_ast.specs.Apply.{View}
use Rattle.wf_ast.specs.Eval.{fill}
use Rattle.wf_ast.specs.Tree.{Template, InList}
use Rattle.wf_frames.specs.Frames.{left_view}
use Rattle.wf_model.specs.Table.{ArmsStandIn}
use Rattle.wf_frames.specs.declared.frames.Left.TheVariants as left
use Rattle.wf_model.specs.Config.{OfList}
use Rattle.wf_value.specs.declared.Value.TheVariants as value
use Rattle.wf_eval.specs.Answers.{Answers, Gives}
use Rattle.wf_model.specs.Spots.{Spot, owners_at}
use Rattle.wf_model.specs.Move.{over, list_left}
use Rattle.wf_value.specs.Data.{Data, list, items_of}
use Rattle.wf_value.specs.Pairs.{items}
use Rattle.wf_value.specs.Errors.{Answer, ◌>>=◌}
use Rattle.wf_value.specs.Plain.{plain}
use Rattle.wf_value.specs.declared.Raise.{Raise}
use Rattle.wf_value.specs.declared.Raise.TheVariants.{Error}
use Rattle.wf_value.specs.declared.Tag.{Tag}
use Rattle.wf_value.specs.declared.Value.{Value}

pub gave : {A B : Type 0} (f : A → B) (v : A) (d : Answer B) → Answers f (Ok v) d → d ≡ Ok (f v)
gave f v (Ok d) e = ap Ok (sym e)
gave f v (Err t) e = absurd e

pub failed : {A B : Type 0} (f : A → B) (t : Tag) (d : Answer B) → Answers f (Err (Error t)) d → d ≡ Err t
failed f t (Ok d) e = absurd e
failed f t (Err u) e = ap Err (sym e)

-- ## Loops
pub items_same : (vs : List Data) → items (items_of vs) ≡ vs
items_same [] = refl
items_same (v ∷ vs) = ap (λ ws. v ∷ ws) (items_same vs)

pub left_items : (t : Template) (w : View) (r : Result Value Raise) (x : Value) (vs : List Data) → Gives r (fill t w) → r ≡ Ok x → x ≡ value.List vs → Answers left_view (Ok (left.Items vs 0)) (over w (InList t))
left_items t w r x vs g e h =
    let found : fill t w ≡ Ok (list (items_of vs)) = gave plain (value.List vs) (fill t w) (subst (λ q. Gives q (fill t w)) (e ∙ ap Ok h) g) in
    subst (λ q. Answers left_view (Ok (left.Items vs 0)) (q >>= list_left)) (sym found) (ap OfList (sym (items_same vs)))

-- ## Arms
pub arm_stands : (ns : List Spot) (len : ℕ) (os xs : List ℕ) (i d : ℕ) → ArmsStandIn ns len os xs → i < length xs → (owners_at ns (suc (get_or xs i d)) ≡ os) × (suc (get_or xs i d) < len)
arm_stands ns len os [] i d h lt = absurd (omega (arith, lt))
arm_stands ns len os (x ∷ xs) zero d h lt = (h.0, h.1)
arm_stands ns len os (x ∷ xs) (suc i) d h lt = arm_stands ns len os xs i d h.2 (omega (arith, lt))
