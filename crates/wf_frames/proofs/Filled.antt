-- Lists and maps that are filled member by member.
use Rattle.std.proofs.Common.{◌≡◌, ℕ, ◌+◌, ◌<◌, ◌≤◌, List, [], ◌∷◌, ◌++◌, Result, Ok, Err, refl, sym, ap, ◌∙◌, subst, length, get_or, drop, suc, zero, arith}
use Rattle.std.proofs.Common as seq
use Rattle.std.proofs.lemmas.List.{drop_all}
use Rattle.wf_ast.specs.Apply.{View}
use Rattle.std.proofs.lemmas.List.{append_assoc}
use Rattle.wf_lemmas.proofs.Lists.{item_at}
use Rattle.wf_ast.specs.Eval.{fill, fill_all, fill_fields, joined, part_text}
use Rattle.wf_ast.proofs.Literals.{fill_literals}
use Rattle.wf_ast.specs.Tree as t
use Rattle.wf_ast.specs.Tree.{templates, fields}
use Rattle.wf_eval.proofs.Filled.{onto, onto_last, onto_none, put_last, height, heights, field_heights}
use Rattle.wf_eval.specs.Answers.{Answers, Gives, GivesText, kept_list, kept_map, put_all}
use Rattle.wf_model.proofs.Views.{view_list, view_map}
use Rattle.wf_model.specs.Shapes.{Compiled, named_by, named_list, piece_by, shape_by, shape_list}
use Rattle.wf_model.specs.declared.shape.NamedShape.{NamedShape}
use Rattle.wf_model.specs.declared.shape.NamedShapes.{NamedShapes}
use Rattle.wf_model.specs.declared.shape.Piece.{Piece}
use Rattle.wf_model.specs.declared.shape.Shape.{Shape, Literals, Map}
use Rattle.wf_model.specs.declared.shape.Shape.TheViews as shape
use Rattle.wf_model.specs.declared.shape.Shapes.{Shapes}
use Rattle.wf_value.specs.Data.{Data, Items, item, Pairs, items_of, list}
use Rattle.wf_value.specs.Errors.{Answer, ◌>>=◌, kept}
use Rattle.wf_value.specs.Pairs.{Text, put}
use Rattle.wf_value.specs.Plain.{plain}
use Rattle.wf_value.specs.declared.value.Value.{Value}
use Rattle.wf_value.specs.declared.errors.Raise.{Raise}
use Rattle.wf_value.specs.declared.errors.Raise.TheVariants.{Error, OutOfMemory}
use Rattle.wf_frames.proofs.Coded.{answered, raised}

module _ {A B : Type 0} where
  gives : (f : A → B) (v : A) (d : Answer B) → d ≡ Ok (f v) → Answers f (Ok v) d
  gives f v d h = subst (λ (x : Answer B). Answers f (Ok v) x) (sym h) refl

  -- the first error is the answer of what is left, and so of the whole
  stops : {X C D : Type 0} (f : A → B) (g : X → C) (e : Raise) (first : Answer C) (left : C → Answer D) (add : D → B) (all : Answer B) → Answers g (Err e) first → all ≡ ((first >>= left) >>= λ d. Ok (add d)) → Answers f (Err e) all
  stops f g OutOfMemory first left add all h seen = tt {0}
  stops f g (Error t) first left add all h seen = subst (λ (x : Answer B). Answers f (Err (Error t)) x) (sym (seen ∙ ap (λ m. (m >>= left) >>= λ d. Ok (add d)) (raised g t first h))) refl

-- ## A text
-- the text with one more piece
text_put : (m : Answer Text) (t old new : Text) → new ≡ old ++ t → ((m >>= λ u. Ok (t ++ u)) >>= λ u. Ok (old ++ u)) ≡ (m >>= λ u. Ok (new ++ u))
text_put (Ok u) t old new n = ap Ok (sym (append_assoc old t u) ∙ ap (λ (l : Text). l ++ u) (sym n))
text_put (Err e) t old new n = refl

module _ (cs : Compiled) (s : View) (xs : List Piece) where
  -- what the pieces of a text give
  abbrev texts_of : List Piece → Answer Text
  texts_of l = joined s (seq.map (piece_by cs) l)

  module _ (i : ℕ) (x : Piece) (old : Text) (within : i < length xs) (is : x ≡ get_or xs i x) (seen : texts_of xs ≡ (texts_of (drop i xs) >>= λ u. Ok (old ++ u))) where
    text_next : texts_of xs ≡ ((part_text s (piece_by cs x) >>= λ t. texts_of (drop (i + 1) xs) >>= λ u. Ok (t ++ u)) >>= λ u. Ok (old ++ u))
    text_next = seen ∙ ap (λ l. texts_of l >>= λ u. Ok (old ++ u)) (item_at xs i x within is)

    pub text_step : (new t : Text) → GivesText (Ok t) (part_text s (piece_by cs x)) → new ≡ old ++ t → texts_of xs ≡ (texts_of (drop (i + 1) xs) >>= λ u. Ok (new ++ u))
    text_step new t h n =
        text_next ∙ ap (λ m. (m >>= λ v. texts_of (drop (i + 1) xs) >>= λ u. Ok (v ++ u)) >>= λ u. Ok (old ++ u)) (answered (λ (v : Text). v) t (part_text s (piece_by cs x)) h)
        ∙ text_put (texts_of (drop (i + 1) xs)) t old new n

    pub text_stops : (e : Raise) → GivesText (Err e) (part_text s (piece_by cs x)) → GivesText (Err e) (texts_of xs)
    text_stops e h = stops (λ (v : Text). v) (λ (v : Text). v) e (part_text s (piece_by cs x)) (λ t. texts_of (drop (i + 1) xs) >>= λ u. Ok (t ++ u)) (λ (u : Text). old ++ u) (texts_of xs) h text_next

-- ## A list
list_is : (cs : Compiled) (x : Shape) (ss : Shapes) (xs : List Shape) → x ≡ shape.List ss → xs ≡ shape_list ss → shape_by cs x ≡ t.Listed (templates (seq.map (shape_by cs) xs))
list_is cs x ss xs is seen = ap (shape_by cs) is ∙ view_list cs ss ∙ ap (λ l. t.Listed (templates (seq.map (shape_by cs) l))) (sym seen)

pub list_filled : (cs : Compiled) (s : View) (r : Result Value Raise) (made : Result (List Data) Raise) (x : Shape) (ss : Shapes) (xs : List Shape) → x ≡ shape.List ss → xs ≡ shape_list ss → Answers items_of made (fill_all (templates (seq.map (shape_by cs) xs)) s)
    → ((d : Answer Items) → Answers items_of made d → Gives r (kept_list d)) → Gives r (fill (shape_by cs x) s)
list_filled cs s r made x ss xs is seen h keeps = subst (λ (y : t.Template). Gives r (fill y s)) (sym (list_is cs x ss xs is seen)) (keeps _ h)

-- a list of literals is the value that it gives
pub literals_filled : (cs : Compiled) (s : View) (r : Result Value Raise) (x : Shape) (ds vs : List Data) → x ≡ Literals ds → vs ≡ ds → Gives r (kept (list (items_of vs))) → Gives r (fill (shape_by cs x) s)
literals_filled cs s r x ds vs is same h = subst (λ (d : Answer Data). Gives r d) (ap (λ l. kept (list (items_of l))) same ∙ sym (ap (λ y. fill (shape_by cs y) s) is ∙ fill_literals ds s)) h

-- the list with one more item
item_put : (m : Answer Items) (d : Data) (old new : List Data) → new ≡ old ++ d ∷ [] → ((m >>= λ vs. Ok (item d vs)) >>= λ vs. Ok (onto old vs)) ≡ (m >>= λ vs. Ok (onto new vs))
item_put (Ok vs) d old new n = ap Ok (sym (onto_last old d vs) ∙ ap (λ l. onto l vs) (sym n))
item_put (Err t) d old new n = refl

module _ (cs : Compiled) (s : View) (xs : List Shape) where
  -- what the items of a list give
  abbrev all_of : List Shape → Answer Items
  all_of l = fill_all (templates (seq.map (shape_by cs) l)) s

  module _ (i : ℕ) (x : Shape) (old : List Data) (within : i < length xs) (is : x ≡ get_or xs i x) where
    list_next : all_of xs ≡ (all_of (drop i xs) >>= λ vs. Ok (onto old vs)) → all_of xs ≡ ((fill (shape_by cs x) s >>= λ v. all_of (drop (i + 1) xs) >>= λ vs. Ok (item v vs)) >>= λ vs. Ok (onto old vs))
    list_next seen = seen ∙ ap (λ l. all_of l >>= λ vs. Ok (onto old vs)) (item_at xs i x within is)

    pub list_step : (new : List Data) (v : Value) → Gives (Ok v) (fill (shape_by cs x) s) → new ≡ old ++ plain v ∷ [] → all_of xs ≡ (all_of (drop i xs) >>= λ vs. Ok (onto old vs)) → all_of xs ≡ (all_of (drop (i + 1) xs) >>= λ vs. Ok (onto new vs))
    list_step new v h n seen =
        list_next seen ∙ ap (λ m. (m >>= λ d. all_of (drop (i + 1) xs) >>= λ vs. Ok (item d vs)) >>= λ vs. Ok (onto old vs)) (answered plain v (fill (shape_by cs x) s) h)
        ∙ item_put (all_of (drop (i + 1) xs)) (plain v) old new n

    pub list_stops : (e : Raise) → Answers plain (Err e) (fill (shape_by cs x) s) → all_of xs ≡ (all_of (drop i xs) >>= λ vs. Ok (onto old vs)) → Answers items_of (Err e) (all_of xs)
    list_stops e h seen = stops items_of plain e (fill (shape_by cs x) s) (λ v. all_of (drop (i + 1) xs) >>= λ vs. Ok (item v vs)) (λ vs. onto old vs) (all_of xs) h (list_next seen)

  pub list_done : (i : ℕ) (l : List Data) → length xs ≤ i → all_of xs ≡ (all_of (drop i xs) >>= λ vs. Ok (onto l vs)) → Answers items_of (Ok l) (all_of xs)
  list_done i l past seen = gives items_of l (all_of xs) (seen ∙ ap (λ r. all_of r >>= λ vs. Ok (onto l vs)) (drop_all i xs past) ∙ ap Ok (onto_none l))

-- ## A map
map_is : (cs : Compiled) (x : Shape) (ns : NamedShapes) (xs : List NamedShape) → x ≡ Map ns → xs ≡ named_list ns → shape_by cs x ≡ t.Mapped (fields (seq.map (named_by cs) xs))
map_is cs x ns xs is seen = ap (shape_by cs) is ∙ view_map cs ns ∙ ap (λ l. t.Mapped (fields (seq.map (named_by cs) l))) (sym seen)

pub map_filled : {A : Type 0} (cs : Compiled) (s : View) (r : Result Value Raise) (f : A → Pairs) (made : Result A Raise) (x : Shape) (ns : NamedShapes) (xs : List NamedShape) → x ≡ Map ns → xs ≡ named_list ns
    → Answers f made (fill_fields (fields (seq.map (named_by cs) xs)) s) → ((d : Answer Pairs) → Answers f made d → Gives r (kept_map d)) → Gives r (fill (shape_by cs x) s)
map_filled cs s r f made x ns xs is seen h keeps = subst (λ (y : t.Template). Gives r (fill y s)) (sym (map_is cs x ns xs is seen)) (keeps _ h)

-- the pairs with one more pair
pair_put : (m : Answer Pairs) (k : Text) (v : Value) (old new : List (Text × Value)) → new ≡ old ++ (k, v) ∷ [] → ((m >>= λ ps. Ok (put k (plain v) ps)) >>= λ ps. Ok (put_all old ps)) ≡ (m >>= λ ps. Ok (put_all new ps))
pair_put (Ok ps) k v old new n = ap Ok (sym (put_last old (k, v) ps) ∙ ap (λ l. put_all l ps) (sym n))
pair_put (Err t) k v old new n = refl

module _ (cs : Compiled) (s : View) (xs : List NamedShape) where
  -- what the fields of a map give
  abbrev fields_of : List NamedShape → Answer Pairs
  fields_of l = fill_fields (fields (seq.map (named_by cs) l)) s

  module _ (i : ℕ) (x : NamedShape) (old : List (Text × Value)) (within : i < length xs) (is : x ≡ get_or xs i x) where
    map_next : fields_of xs ≡ (fields_of (drop i xs) >>= λ ps. Ok (put_all old ps)) → fields_of xs ≡ ((fill (shape_by cs x.shape) s >>= λ v. fields_of (drop (i + 1) xs) >>= λ ps. Ok (put x.name v ps)) >>= λ ps. Ok (put_all old ps))
    map_next seen = seen ∙ ap (λ l. fields_of l >>= λ ps. Ok (put_all old ps)) (item_at xs i x within is)

    pub map_step : (new : List (Text × Value)) (k : Text) (v : Value) → Gives (Ok v) (fill (shape_by cs x.shape) s) → GivesText (Ok k) (Ok x.name) → new ≡ old ++ (k, v) ∷ [] → fields_of xs ≡ (fields_of (drop i xs) >>= λ ps. Ok (put_all old ps)) → fields_of xs ≡ (fields_of (drop (i + 1) xs) >>= λ ps. Ok (put_all new ps))
    map_step new k v h named n seen =
        map_next seen ∙ ap (λ m. (m >>= λ d. fields_of (drop (i + 1) xs) >>= λ ps. Ok (put x.name d ps)) >>= λ ps. Ok (put_all old ps)) (answered plain v (fill (shape_by cs x.shape) s) h)
        ∙ ap (λ name. (fields_of (drop (i + 1) xs) >>= λ ps. Ok (put name (plain v) ps)) >>= λ ps. Ok (put_all old ps)) (sym named)
        ∙ pair_put (fields_of (drop (i + 1) xs)) k v old new n

-- ## How high a template is, as the measure of the recursion
pub list_falls : (cs : Compiled) (x : Shape) (ss : Shapes) (xs : List Shape) → x ≡ shape.List ss → xs ≡ shape_list ss → suc (heights (templates (seq.map (shape_by cs) xs))) ≡ height (shape_by cs x)
list_falls cs x ss xs is seen = sym (ap height (list_is cs x ss xs is seen))

pub map_falls : (cs : Compiled) (x : Shape) (ns : NamedShapes) (xs : List NamedShape) → x ≡ Map ns → xs ≡ named_list ns → suc (field_heights (fields (seq.map (named_by cs) xs))) ≡ height (shape_by cs x)
map_falls cs x ns xs is seen = sym (ap height (map_is cs x ns xs is seen))

pub item_falls : (cs : Compiled) (xs : List Shape) (i : ℕ) (x : Shape) → i < length xs → x ≡ get_or xs i x → height (shape_by cs x) ≤ heights (templates (seq.map (shape_by cs) xs))
item_falls cs [] i x within is = absurd (omega (arith, within))
item_falls cs (y ∷ ys) zero x within is = let h : height (shape_by cs x) ≡ height (shape_by cs y) = ap (λ z. height (shape_by cs z)) is in omega (arith, h)
item_falls cs (y ∷ ys) (suc i) x within is = omega (arith, item_falls cs ys i x (omega (arith, within)) is)

pub field_falls : (cs : Compiled) (xs : List NamedShape) (i : ℕ) (x : NamedShape) → i < length xs → x ≡ get_or xs i x → height (shape_by cs x.shape) ≤ field_heights (fields (seq.map (named_by cs) xs))
field_falls cs [] i x within is = absurd (omega (arith, within))
field_falls cs (y ∷ ys) zero x within is = let h : height (shape_by cs x.shape) ≡ height (shape_by cs y.shape) = ap (λ (z : NamedShape). height (shape_by cs z.shape)) is in omega (arith, h)
field_falls cs (y ∷ ys) (suc i) x within is = omega (arith, field_falls cs ys i x (omega (arith, within)) is)
