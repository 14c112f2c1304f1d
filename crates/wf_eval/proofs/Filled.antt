-- Lists and maps that are filled member by member.
use Rattle.std.proofs.Common.{◌≡◌, ℕ, List, [], ◌∷◌, ◌++◌, refl, sym, ap, ◌∙◌, suc, max}
use Rattle.wf_ast.specs.Tree as t
use Rattle.wf_value.specs.Data.{Data, Items, no_items, item, Pairs, items_of}
use Rattle.wf_value.specs.Pairs.{Text, put}
use Rattle.wf_value.specs.Plain.{plain}
use Rattle.wf_value.specs.declared.value.Value.{Value}
use Rattle.wf_eval.specs.Answers.{put_all}

-- items behind some others
abbrev pub onto : List Data → Items → Items
onto [] vs = vs
onto (d ∷ ds) vs = item d (onto ds vs)

pub onto_last : (ds : List Data) (d : Data) (vs : Items) → onto (ds ++ d ∷ []) vs ≡ onto ds (item d vs)
onto_last [] d vs = refl
onto_last (e ∷ ds) d vs = ap (item e) (onto_last ds d vs)

pub onto_none : (ds : List Data) → onto ds no_items ≡ items_of ds
onto_none [] = refl
onto_none (d ∷ ds) = ap (item d) (onto_none ds)

pub put_last : (ps : List (Text × Value)) (p : Text × Value) (m : Pairs) → put_all (ps ++ p ∷ []) m ≡ put_all ps (put p.0 (plain p.1) m)
put_last [] p m = refl
put_last (q ∷ ps) p m = ap (put q.0 (plain q.1)) (put_last ps p m)

-- ## The map of some pairs
pub popped : (ps qs : List (Text × Value)) (k : Text) (v : Value) (made after all : Pairs) → ps ≡ qs ++ (k, v) ∷ [] → after ≡ put k (plain v) made → put_all ps made ≡ all → put_all qs after ≡ all
popped ps qs k v made after all p a h = ap (put_all qs) a ∙ sym (put_last qs (k, v) made) ∙ ap (λ l. put_all l made) (sym p) ∙ h

-- ## How high a template is, as the measure of the recursion
abbrev mutual
  pub height : t.Template → ℕ
  height (t.Scalar v) = 0
  height (t.Whole e) = 0
  height (t.Joined ps) = 0
  height (t.Listed ts) = suc (heights ts)
  height (t.Mapped fs) = suc (field_heights fs)

  pub heights : t.Templates → ℕ
  heights t.no_templates = 0
  heights (t.template x ts) = max (height x) (heights ts)

  pub field_heights : t.Fields → ℕ
  field_heights t.no_fields = 0
  field_heights (t.field k x fs) = max (height x) (field_heights fs)
