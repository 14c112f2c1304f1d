-- What calls give, by the function's answer.
use Rattle.std.proofs.Common.{◌≡◌, List, [], ◌∷◌, ◌++◌, Bool, Option, Some, None, is_some, option_map, Result, Err, Bor, refl, sym, ap, ◌∙◌, subst}
use Rattle.std.specs.Prelude.{if◌then◌else◌, unwrap_or}
use Rattle.wf_value.specs.LibData.{follow, list_concat, map_delete}
use Rattle.wf_value.specs.Data.{Data, null, text, list, map, items_of, pairs_of}
use Rattle.wf_value.specs.Errors.{Answer, sized}
use Rattle.wf_value.specs.Maps.{value_at, without}
use Rattle.wf_value.specs.Pairs.{Text, drop_key, has_key}
use Rattle.wf_value.specs.Plain.{plain}
use Rattle.wf_value.specs.declared.errors.Raise.{Raise}
use Rattle.wf_value.specs.declared.errors.Tag.TheVariants.{KeyError}
use Rattle.wf_value.specs.declared.value.Value.{Value}
use Rattle.wf_value.specs.declared.value.Value.TheVariants as value
use Rattle.wf_lib_data.specs.Lent.{or_null}
use Rattle.wf_value.specs.Answers.{IsAnswerOf}
use Rattle.wf_lib_data.proofs.Places.{items_listed, pairs_listed}

pub gives_same : (r : Result Value Raise) (a b : Answer Data) → a ≡ b → IsAnswerOf r a → IsAnswerOf r b
gives_same r a b e h = subst (λ (x : Answer Data). IsAnswerOf r x) e h

-- ## Lists
pub concat_gives : (r : Result Value Raise) (v w x y : Value) (ds es : List Data) → w ≡ v → w ≡ value.List ds → y ≡ x → es ≡ ds ++ plain y ∷ [] → IsAnswerOf r (sized (list (items_of es))) → IsAnswerOf r (list_concat (plain v) (plain x))
concat_gives r v w x y ds es copy is same grown h =
    gives_same r (sized (list (items_of es))) (list_concat (plain v) (plain x))
    (ap (λ l. sized (list (items_of l))) (grown ∙ ap (λ z. ds ++ plain z ∷ []) same ∙ ap (λ l. l ++ plain x ∷ []) (sym (items_listed ds)))
    ∙ ap (λ z. list_concat (plain z) (plain x)) (sym is ∙ copy)) h

-- ## Maps
abbrev deleted : Bool → List (Text × Data) → Text → Answer Data
deleted b ps k = if b then sized (map (drop_key k (pairs_of ps))) else Err KeyError

has : (ps : List (Text × Data)) (k : Text) (old o : Option Value) → old ≡ o → option_map plain old ≡ value_at k ps → has_key k (pairs_of ps) ≡ is_some (option_map plain o)
has ps k old o is h = ap (λ l. is_some (value_at k l)) (pairs_listed ps) ∙ ap is_some (sym h) ∙ ap (λ x. is_some (option_map plain x)) is

pub no_key : (v w : Value) (ps : List (Text × Data)) (k : Text) (old : Option Value) → w ≡ v → w ≡ value.Map ps → old ≡ None → option_map plain old ≡ value_at k ps → map_delete (plain v) (text k) ≡ Err KeyError
no_key v w ps k old copy is none h = ap (λ z. map_delete (plain z) (text k)) (sym copy ∙ is) ∙ ap (λ b. deleted b ps k) (has ps k old None none h)

pub delete_gives : (r : Result Value Raise) (v w : Value) (ps qs : List (Text × Data)) (k : Text) (old : Option Value) (x : Value) → w ≡ v → w ≡ value.Map ps → qs ≡ without k ps → old ≡ Some x → option_map plain old ≡ value_at k ps → IsAnswerOf r (sized (map (pairs_of qs))) → IsAnswerOf r (map_delete (plain v) (text k))
delete_gives r v w ps qs k old x copy is rest there was h =
    gives_same r (sized (map (pairs_of qs))) (map_delete (plain v) (text k))
    (ap (λ l. sized (map (pairs_of l))) (rest ∙ ap (without k) (sym (pairs_listed ps)))
    ∙ ap (λ b. deleted b ps k) (sym (has ps k old (Some x) there was))
    ∙ ap (λ z. map_delete (plain z) (text k)) (sym is ∙ copy)) h

lent : (o : Option (Bor Value)) → or_null o ≡ unwrap_or (option_map (λ v. plain v.now) o) null
lent None = refl
lent (Some v) = refl

pub lent_at : (o v : Option (Bor Value)) (b : Bor Value) (ps : List (Text × Data)) (k : Text) → v ≡ Some b → b.now ≡ value.Map ps → option_map (λ w. plain w.now) o ≡ value_at k ps → or_null o ≡ follow (or_null v) k
lent_at o v b ps k there is h =
    lent o ∙ ap (λ x. unwrap_or x null) (h ∙ ap (value_at k) (sym (pairs_listed ps)))
    ∙ ap (λ z. follow (plain z) k) (sym is)
    ∙ ap (λ x. follow (or_null x) k) (sym there)
