-- Assignments.
use Rattle.std.proofs.Common.{◌≡◌, inl, inr, ℕ, Bool, true, false, List, [], Some, None, Ok, Err, refl, sym, ap, subst, ◌∙◌}
use Rattle.std.specs.Prelude.{◌⊎◌, ◌&&◌, if◌then◌else◌, nat_le}
use Rattle.wf_ast.specs.Apply.{View}
use Rattle.wf_ast.specs.Eval.{eval_all, fill}
use Rattle.wf_ast.specs.Tree.{Entry, exprs}
use Rattle.wf_eval.specs.Answers.{Answers, Gives}
use Rattle.wf_frames.specs.Held.{Held, standing}
use Rattle.wf_frames.specs.Turns.{Writes}
use Rattle.wf_model.specs.Config.{Item, limits}
use Rattle.wf_model.specs.Layers as model
use Rattle.wf_model.specs.Layers.{Assigned, Done, Refused, Undeclared, all_share, assign, assign_at, held, made_new, put_layer, put_outer, put_outside, put_own, view, within_limits, written}
use Rattle.wf_model.specs.Leave.{on, on_assigned, raises}
use Rattle.wf_model.specs.Local.{Local, Moved, Scene, goes, total}
use Rattle.wf_model.specs.Move.{assigns}
use Rattle.wf_frames.proofs.Evaluated.{gave, failed}
use Rattle.wf_frames.specs.Assigned.{entry_values, values_of}
use Rattle.wf_moves.specs.Moved.{IsMove}
use Rattle.wf_frames.specs.declared.assigned.Assigned as declared
use Rattle.wf_moves.specs.declared.finish.Went.{Went}
use Rattle.wf_value.specs.Data.{Data, depth}
use Rattle.wf_value.specs.Errors.{Answer, ◌>>=◌, error_map}
use Rattle.wf_value.specs.Pairs.{Text}
use Rattle.wf_value.specs.Plain.{plain}
use Rattle.wf_value.specs.declared.Value.{Value}
use Rattle.wf_value.specs.declared.Raise.TheVariants.{Error}
use Rattle.wf_value.specs.declared.Tag.{Tag}
use Rattle.wf_value.specs.declared.Tag.TheVariants.{ResourceLimitError}

-- ## Whatever the control
abbrev with_control : List Item → Assigned → Assigned
with_control c (Done l) = Done (record l { control = c })
with_control c (Refused t) = Refused t
with_control c Undeclared = Undeclared

module _ (s : Scene) (x : Text) (c : List Item) where
  within_same : (v : Data) (l : Local) → within_limits s v (record l { control = c }) ≡ with_control c (within_limits s v l)
  within_same v l = by (nat_le (total s l) (limits s.facts.rules).variables && nat_le (depth v) 100)
    where
      by : (b : Bool) → (if b then Done (record l { control = c }) else Refused ResourceLimitError) ≡ with_control c (if b then Done l else Refused ResourceLimitError)
      by true = refl
      by false = refl

  own_same : (n : ℕ) (r : Answer Data) (l : Local) → put_own s x n r (record l { control = c }) ≡ with_control c (put_own s x n r l)
  own_same n (Err t) l = refl
  own_same n (Ok v) l = within_same v (record l { layers = put_layer n x v l.layers })

  outside_same : (n : ℕ) (b : Bool) (r : Answer Data) (l : Local) → put_outside s x n b r (record l { control = c }) ≡ with_control c (put_outside s x n b r l)
  outside_same n b (Err t) l = refl
  outside_same n false (Ok v) l = refl
  outside_same n true (Ok v) l = within_same v (record l { outer = put_outer n x v l.outer })

  at_same : (ks : List Data) (v : Data) (h : model.Held) (l : Local) → assign_at s x ks v h (record l { control = c }) ≡ with_control c (assign_at s x ks v h l)
  at_same ks v (model.Own n w) l = own_same n (written ks w v) l
  at_same ks v (model.Outside n shared w) l = outside_same n (all_share x shared) (written ks w v) l
  at_same ks v model.Nowhere l = own_same 0 (made_new ks v) l

  control_same : (ks : List Data) (v : Data) (h : Held) → assign s x ks v (standing c h) ≡ with_control c (assign s x ks v (standing [] h))
  control_same ks v h = at_same ks v (held x (standing [] h)) (standing [] h)

-- ## Behind an assignment
module _ (s : Scene) (x : Text) (ks : List Data) (v : Data) (k c : List Item) (h g : Held) (w : Went) (l : Local) where
  breaks : assign s x ks v (standing [] h) ≡ Undeclared → IsMove s (on_assigned s k (standing c h) (assign s x ks v (standing c h))) w l
  breaks e = subst (λ a. IsMove s (on_assigned s k (standing c h) a) w l) (sym (control_same s x c ks v h ∙ ap (with_control c) e)) tt

  pub stored : Writes s None h x ks v g → IsMove s (goes k (standing c g)) w l → IsMove s (on_assigned s k (standing c h) (assign s x ks v (standing c h))) w l
  stored (inl e) m = breaks e
  stored (inr e) m = subst (λ a. IsMove s (on_assigned s k (standing c h) a) w l) (sym (control_same s x c ks v h ∙ ap (with_control c) e)) m

  pub refused : (t : Tag) → Writes s (Some t) h x ks v g → IsMove s (raises s k (standing c g) (error_map t)) w l → IsMove s (on_assigned s k (standing c h) (assign s x ks v (standing c h))) w l
  refused t r m = by r.1
    where
      by : (assign s x ks v (standing [] h) ≡ Undeclared) ⊎ (assign s x ks v (standing [] h) ≡ Refused t) → IsMove s (on_assigned s k (standing c h) (assign s x ks v (standing c h))) w l
      by (inl u) = breaks u
      by (inr u) =
          subst (λ a. IsMove s (on_assigned s k (standing c h) a) w l) (sym (control_same s x c ks v h ∙ ap (with_control c) u))
          (subst (λ (y : Held). IsMove s (raises s k (standing c y) (error_map t)) w l) r.0 m)

-- ## An entry
both_on : (s : Scene) (k : List Item) (l : Local) (r : Answer Data) (q : Answer (List Data)) (f : Data → List Data → Moved) → on s k l r (λ d. on s k l q (f d)) ≡ on {A = Data × List Data} s k l (r >>= λ d. q >>= λ ds. Ok (d, ds)) (λ p. f p.0 p.1)
both_on s k l (Err t) q f = refl
both_on s k l (Ok d) (Err t) f = refl
both_on s k l (Ok d) (Ok ds) f = refl

module _ (s : Scene) (e : Entry) (k : List Item) (l : Local) (v : View) (same : view s l ≡ v) where
  assigns_by : assigns s e k l ≡ on {A = Data × List Data} s k l (entry_values e v) (λ p. on_assigned s k l (assign s e.target.name p.1 p.0 l))
  assigns_by =
      ap (λ y. on s k l (fill e.value y) (λ d. on s k l (eval_all e.target.places y) (λ ks. on_assigned s k l (assign s e.target.name ks d l)))) same
      ∙ both_on s k l (fill e.value v) (eval_all e.target.places v) (λ d ks. on_assigned s k l (assign s e.target.name ks d l))

  pub entry_given : (a : declared.Assigned) (w : Went) (m : Local) → Answers values_of (Ok a) (entry_values e v) → IsMove s (on_assigned s k l (assign s e.target.name (values_of a).1 (values_of a).0 l)) w m → IsMove s (assigns s e k l) w m
  entry_given a w m g h =
      subst (λ y. IsMove s y w m) (sym (assigns_by ∙ ap (λ r. on {A = Data × List Data} s k l r (λ p. on_assigned s k l (assign s e.target.name p.1 p.0 l))) (gave values_of a (entry_values e v) g))) h

  pub entry_failed : (t : Tag) (w : Went) (m : Local) → Answers values_of (Err (Error t)) (entry_values e v) → IsMove s (raises s k l (error_map t)) w m → IsMove s (assigns s e k l) w m
  entry_failed t w m g h =
      subst (λ y. IsMove s y w m) (sym (assigns_by ∙ ap (λ r. on {A = Data × List Data} s k l r (λ p. on_assigned s k l (assign s e.target.name p.1 p.0 l))) (failed values_of t (entry_values e v) g))) h

  -- without places
  module _ (none : e.target.places ≡ exprs []) where
    named_by : assigns s e k l ≡ on {A = Data} s k l (fill e.value v) (λ d. on_assigned s k l (assign s e.target.name [] d l))
    named_by =
        ap (λ y. on s k l (fill e.value y) (λ d. on s k l (eval_all e.target.places y) (λ ks. on_assigned s k l (assign s e.target.name ks d l)))) same
        ∙ ap (λ ps. on s k l (fill e.value v) (λ d. on s k l (eval_all ps v) (λ ks. on_assigned s k l (assign s e.target.name ks d l)))) none

    pub name_given : (x : Value) (w : Went) (m : Local) → Gives (Ok x) (fill e.value v) → IsMove s (on_assigned s k l (assign s e.target.name [] (plain x) l)) w m → IsMove s (assigns s e k l) w m
    name_given x w m g h =
        subst (λ y. IsMove s y w m) (sym (named_by ∙ ap (λ r. on {A = Data} s k l r (λ d. on_assigned s k l (assign s e.target.name [] d l))) (gave plain x (fill e.value v) g))) h

    pub name_failed : (t : Tag) (w : Went) (m : Local) → Gives (Err (Error t)) (fill e.value v) → IsMove s (raises s k l (error_map t)) w m → IsMove s (assigns s e k l) w m
    name_failed t w m g h =
        subst (λ y. IsMove s y w m) (sym (named_by ∙ ap (λ r. on {A = Data} s k l r (λ d. on_assigned s k l (assign s e.target.name [] d l))) (failed plain t (fill e.value v) g))) h
