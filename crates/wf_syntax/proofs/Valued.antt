-- Values: what each kind of tree gives, and the loops over lists and maps.
use Rattle.std.proofs.Common.{◌≡◌, ℕ, zero, suc, ◌+◌, ◌≤◌, ◌<◌, ℤ, Bool, List, [], ◌∷◌, ◌++◌, take, length, get_or, map as mapped, refl, ap, sym, ◌∙◌, subst, arith}
use Rattle.std.proofs.lemmas.List.{map-append}
use Rattle.wf_ast.specs.Tree as t
use Rattle.wf_ast.specs.Tree.{fields as fields_of, templates}
use Rattle.wf_ast.specs.View.{template_view, templates_view, fields_view}
use Rattle.wf_ast.specs.declared.template.Template.{Literals, Map}
use Rattle.wf_ast.specs.declared.template.Template.TheViews as template
use Rattle.wf_ast.specs.declared.template.Templates.{Templates}
use Rattle.wf_ast.specs.declared.template.NamedTemplates.{NamedTemplates}
use Rattle.wf_ast.proofs.Views.{view_list, view_map}
use Rattle.wf_syntax_rules.proofs.Sound.{node_is_sound}
use Rattle.wf_syntax_rules.specs.Faults.{AreSound, IsSound}
use Rattle.wf_syntax_rules.specs.Meaning.{AreArguments, AreNamed, IsRange, AreValues, IsValue}
use Rattle.wf_syntax_rules.specs.Rules.{Value, Arguments, Range, each, every}
use Rattle.wf_syntax.specs.Answers.{Fails, FailsAmong, IsSoundAnd, AreSoundAnd}
use Rattle.wf_value.specs.Stops.{IsHere, IsOutside}
use Rattle.wf_syntax_rules.specs.declared.fault.SyntaxKind.TheVariants.{WrongKind}
use Rattle.wf_value.specs.declared.path.PathPart.TheVariants.{Index, Key}
use Rattle.std.proofs.Common.{Result, Ok, Err, MatchResult}
use Rattle.wf_syntax_rules.specs.declared.fault.SyntaxKind.{SyntaxKind}
use Rattle.wf_value.specs.declared.stop.Stop.{Stop}
use Rattle.wf_syntax.proofs.Lists.{fails_below, fails_here, fails_among, each_next, each_fails, every_next, every_fails, take_next}
use Rattle.wf_expr.specs.Texts.{IsTemplateOf, NotBothOf}
use Rattle.wf_tree.specs.Plain.{plain_tree, plain_items, plain_pairs}
use Rattle.wf_tree.specs.Trees as trees
use Rattle.wf_tree.specs.Trees.{list, map, text, depth, items_of, items_depth, pairs_of, pairs_depth}
use Rattle.wf_tree.specs.declared.tree.Tree.{Tree}
use Rattle.wf_tree.specs.declared.tree.Tree.TheVariants as tree
use Rattle.wf_value.specs.Data as values

abbrev pub Entry : Type 0
Entry = List ℕ × Tree

-- ---- depths

pub list_deep : (t : Tree) (ds : List trees.Tree) (ts : List Tree) → t ≡ tree.List ds → plain_items ts ≡ ds → depth (plain_tree t) ≡ items_depth (items_of (plain_items ts)) + 1
list_deep t ds ts is seen = omega (arith, ap (λ l. items_depth (items_of l)) seen, ap (λ u. depth (plain_tree u)) is)

pub map_deep : (t : Tree) (ds : List (List ℕ × trees.Tree)) (ps : List Entry) → t ≡ tree.Map ds → plain_pairs ps ≡ ds → depth (plain_tree t) ≡ pairs_depth (pairs_of (plain_pairs ps)) + 1
map_deep t ds ps is seen = omega (arith, ap (λ l. pairs_depth (pairs_of l)) seen, ap (λ u. depth (plain_tree u)) is)

pub item_deep : (ts : List Tree) (i : ℕ) (t : Tree) → i < length ts → t ≡ get_or ts i t → depth (plain_tree t) ≤ items_depth (items_of (plain_items ts))
item_deep [] i t h e = absurd (omega (arith, h))
item_deep (u ∷ ts) zero t h e = omega (arith, ap (λ r. depth (plain_tree r)) e)
item_deep (u ∷ ts) (suc i) t h e = omega (arith, item_deep ts i t (omega (arith, h)) e)

pub pair_deep : (ps : List Entry) (i : ℕ) (p : Entry) → i < length ps → p ≡ get_or ps i p → depth (plain_tree p.1) ≤ pairs_depth (pairs_of (plain_pairs ps))
pair_deep [] i p h e = absurd (omega (arith, h))
pair_deep (q ∷ ps) zero p h e = omega (arith, ap (λ (r : Entry). depth (plain_tree r.1)) e)
pair_deep (q ∷ ps) (suc i) p h e = omega (arith, pair_deep ps i p (omega (arith, h)) e)

-- ---- places of lists of plain trees

pub item_plain : {A B : Type 0} (f : A → B) (s : List A) (i : ℕ) (x : A) → i < length s → x ≡ get_or s i x → f x ≡ get_or (mapped f s) i (f x)
item_plain f [] i x h e = absurd (omega (arith, h))
item_plain f (y ∷ s) zero x h e = ap f e
item_plain f (y ∷ s) (suc i) x h e = item_plain f s i x (omega (arith, h)) e

pub length_plain : {A B : Type 0} (f : A → B) (s : List A) → length (mapped f s) ≡ length s
length_plain f [] = refl
length_plain f (y ∷ s) = ap (λ n. suc n) (length_plain f s)

-- ---- sound nodes

pub list_sound : (ts : trees.Items) → AreSound (each Value 0 ts) → IsSound Value (list ts)
list_sound ts h = node_is_sound Value (list ts) refl (λ f h. h) h

pub map_sound : (ps : trees.Pairs) → AreSound (every (λ x. Value) ps) → IsSound Value (map ps)
map_sound ps h = node_is_sound Value (map ps) refl (λ f h. h) h

pub text_sound : (s : List ℕ) (v : t.Template) → NotBothOf → IsTemplateOf s v → IsSound Value (text s)
text_sound s v apart h = node_is_sound Value (text s) refl (λ f k. apart s v f h k.1 k.0) tt

pub null_gives : (u : Tree) → u ≡ tree.Null → IsSoundAnd Value (plain_tree u) (IsValue (t.Scalar values.null) (plain_tree u))
null_gives u is = subst (λ (w : Tree). IsSoundAnd Value (plain_tree w) (IsValue (t.Scalar values.null) (plain_tree w))) (sym is) (node_is_sound Value trees.null refl (λ f h. h) tt, refl)

pub bool_gives : (u : Tree) (b : Bool) → u ≡ tree.Bool b → IsSoundAnd Value (plain_tree u) (IsValue (t.Scalar (values.boolean b)) (plain_tree u))
bool_gives u b is = subst (λ (w : Tree). IsSoundAnd Value (plain_tree w) (IsValue (t.Scalar (values.boolean b)) (plain_tree w))) (sym is) (node_is_sound Value (trees.boolean b) refl (λ f h. h) tt, refl)

pub int_gives : (u : Tree) (n m : ℤ) → u ≡ tree.Int n → m ≡ n → IsSoundAnd Value (plain_tree u) (IsValue (t.Scalar (values.integer m)) (plain_tree u))
int_gives u n m is e = subst (λ (w : Tree). IsSoundAnd Value (plain_tree w) (IsValue (t.Scalar (values.integer m)) (plain_tree w))) (sym is) (node_is_sound Value (trees.integer n) refl (λ f h. h) tt, ap values.integer e)

pub list_gives : (u : Tree) (ds : List trees.Tree) (ts : List Tree) (vs : Templates) → u ≡ tree.List ds → plain_items ts ≡ ds → AreSoundAnd (each Value 0 (items_of (plain_items ts))) (AreValues (templates (templates_view vs)) (items_of (plain_items ts))) → IsSoundAnd Value (plain_tree u) (IsValue (template_view (template.List vs)) (plain_tree u))
list_gives u ds ts vs is seen h =
    subst (λ (w : Tree). IsSoundAnd Value (plain_tree w) (IsValue (template_view (template.List vs)) (plain_tree w))) (sym is)
    (subst (λ (l : List trees.Tree). IsSoundAnd Value (list (items_of l)) (IsValue (template_view (template.List vs)) (list (items_of l)))) seen
    (list_sound (items_of (plain_items ts)) h.0, subst (λ (v : t.Template). IsValue v (list (items_of (plain_items ts)))) (sym (view_list vs)) h.1))

pub literals_give : (u : Tree) (ds : List trees.Tree) (ts : List Tree) (l : List values.Data) → u ≡ tree.List ds → plain_items ts ≡ ds → AreSoundAnd (each Value 0 (items_of (plain_items ts))) (AreValues (templates (mapped t.Scalar l)) (items_of (plain_items ts))) → IsSoundAnd Value (plain_tree u) (IsValue (template_view (Literals l)) (plain_tree u))
literals_give u ds ts l is seen h =
    subst (λ (x : trees.Tree). IsSoundAnd Value x (IsValue (template_view (Literals l)) x)) (sym (ap plain_tree is ∙ ap (λ xs. list (items_of xs)) (sym seen)))
    (list_sound (items_of (plain_items ts)) h.0, h.1)

pub map_gives : (u : Tree) (ds : List (List ℕ × trees.Tree)) (ps : List Entry) (vs : NamedTemplates) → u ≡ tree.Map ds → plain_pairs ps ≡ ds → AreSoundAnd (every (λ x. Value) (pairs_of (plain_pairs ps))) (AreNamed (fields_of (fields_view vs)) (pairs_of (plain_pairs ps))) → IsSoundAnd Value (plain_tree u) (IsValue (template_view (Map vs)) (plain_tree u))
map_gives u ds ps vs is seen h =
    subst (λ (w : Tree). IsSoundAnd Value (plain_tree w) (IsValue (template_view (Map vs)) (plain_tree w))) (sym is)
    (subst (λ (l : List (List ℕ × trees.Tree)). IsSoundAnd Value (map (pairs_of l)) (IsValue (template_view (Map vs)) (map (pairs_of l)))) seen
    (map_sound (pairs_of (plain_pairs ps)) h.0, subst (λ (v : t.Template). IsValue v (map (pairs_of (plain_pairs ps)))) (sym (view_map vs)) h.1))

-- ---- the loops

pub values_next : (vs : List t.Template) (ts : List trees.Tree) (v : t.Template) (x : trees.Tree) → AreValues (templates vs) (items_of ts) → IsValue v x → AreValues (templates (vs ++ v ∷ [])) (items_of (ts ++ x ∷ []))
values_next [] [] v x h here = (here, tt)
values_next [] (y ∷ ts) v x h here = absurd h
values_next (w ∷ vs) [] v x h here = absurd h
values_next (w ∷ vs) (y ∷ ts) v x h here = (h.0, values_next vs ts v x h.1 here)

pub named_next : (vs : List (List ℕ × t.Template)) (ts : List (List ℕ × trees.Tree)) (v : List ℕ × t.Template) (x : List ℕ × trees.Tree) → AreNamed (fields_of vs) (pairs_of ts) → v.0 ≡ x.0 → IsValue v.1 x.1 → AreNamed (fields_of (vs ++ v ∷ [])) (pairs_of (ts ++ x ∷ []))
named_next [] [] v x h e here = (e, here, tt)
named_next [] (y ∷ ts) v x h e here = absurd h
named_next (w ∷ vs) [] v x h e here = absurd h
named_next (w ∷ vs) (y ∷ ts) v x h e here = (h.0, h.1, named_next vs ts v x h.2 e here)

pub values_step : (ts : List Tree) (i : ℕ) (x : Tree) (old new : List t.Template) (v : t.Template) → i < length ts → x ≡ get_or ts i x
    → AreSound (each Value 0 (items_of (take i (plain_items ts)))) × AreValues (templates old) (items_of (take i (plain_items ts)))
    → IsSoundAnd Value (plain_tree x) (IsValue v (plain_tree x)) → new ≡ old ++ v ∷ []
    → AreSound (each Value 0 (items_of (take (i + 1) (plain_items ts)))) × AreValues (templates new) (items_of (take (i + 1) (plain_items ts)))
values_step ts i x old new v h e all here made =
    let below : i < length (plain_items ts) = omega (arith, h, length_plain plain_tree ts) in
    let is = item_plain plain_tree ts i x h e in
    let next : suc i ≡ i + 1 = omega arith in
    subst (λ n. AreSound (each Value 0 (items_of (take n (plain_items ts)))) × AreValues (templates new) (items_of (take n (plain_items ts)))) next (
      each_next Value (plain_items ts) i (plain_tree x) below is all.0 here.0,
      subst (λ (l : List trees.Tree). AreValues (templates new) (items_of l)) (sym (take_next (plain_items ts) i (plain_tree x) below is))
          (subst (λ (l : List t.Template). AreValues (templates l) (items_of (take i (plain_items ts) ++ plain_tree x ∷ []))) (sym made)
          (values_next old (take i (plain_items ts)) v (plain_tree x) all.1 here.1)),
    )

pub scalars_next : (old new : List values.Data) (d : values.Data) → new ≡ old ++ d ∷ [] → mapped t.Scalar new ≡ mapped t.Scalar old ++ t.Scalar d ∷ []
scalars_next old new d made = ap (mapped t.Scalar) made ∙ map-append t.Scalar old (d ∷ [])

pub values_fails : (ts : List Tree) (i : ℕ) (x : Tree) (s o : Stop SyntaxKind) → i < length ts → x ≡ get_or ts i x → AreSound (each Value 0 (items_of (take i (plain_items ts)))) → Fails Value (plain_tree x) s → IsOutside (Index i) s o → FailsAmong (each Value 0 (items_of (plain_items ts))) o
values_fails ts i x s o h e all fails out =
    each_fails Value (plain_items ts) i (plain_tree x) s o (omega (arith, h, length_plain plain_tree ts)) (item_plain plain_tree ts i x h e) all fails out

abbrev pub plain_pair : Entry → List ℕ × trees.Tree
plain_pair p = (p.0, plain_tree p.1)

pub named_step : (ps : List Entry) (i : ℕ) (p : Entry) (old new : NamedTemplates) (k : List ℕ) (v : t.Template) → i < length ps → p ≡ get_or ps i p
    → AreSound (every (λ x. Value) (pairs_of (take i (plain_pairs ps)))) × AreNamed (fields_of (fields_view old)) (pairs_of (take i (plain_pairs ps)))
    → k ≡ p.0 → IsSoundAnd Value (plain_tree p.1) (IsValue v (plain_tree p.1)) → fields_view new ≡ fields_view old ++ (k, v) ∷ []
    → AreSound (every (λ x. Value) (pairs_of (take (i + 1) (plain_pairs ps)))) × AreNamed (fields_of (fields_view new)) (pairs_of (take (i + 1) (plain_pairs ps)))
named_step ps i p old new k v h e all key here made =
    let below : i < length (plain_pairs ps) = omega (arith, h, length_plain plain_pair ps) in
    let is = item_plain plain_pair ps i p h e in
    let next : suc i ≡ i + 1 = omega arith in
    subst (λ n. AreSound (every (λ x. Value) (pairs_of (take n (plain_pairs ps)))) × AreNamed (fields_of (fields_view new)) (pairs_of (take n (plain_pairs ps)))) next (
      every_next (λ x. Value) (plain_pairs ps) i (plain_pair p) below is all.0 here.0,
      subst (λ (l : List (List ℕ × trees.Tree)). AreNamed (fields_of (fields_view new)) (pairs_of l)) (sym (take_next (plain_pairs ps) i (plain_pair p) below is))
          (subst (λ (l : List (List ℕ × t.Template)). AreNamed (fields_of l) (pairs_of (take i (plain_pairs ps) ++ plain_pair p ∷ []))) (sym made)
          (named_next (fields_view old) (take i (plain_pairs ps)) (k, v) (plain_pair p) all.1 key here.1)),
    )

pub named_fails : (ps : List Entry) (i : ℕ) (p : Entry) (s o : Stop SyntaxKind) → i < length ps → p ≡ get_or ps i p → AreSound (every (λ x. Value) (pairs_of (take i (plain_pairs ps)))) → Fails Value (plain_tree p.1) s → IsOutside (Key p.0) s o → FailsAmong (every (λ x. Value) (pairs_of (plain_pairs ps))) o
named_fails ps i p s o h e all fails out =
    every_fails (λ x. Value) (plain_pairs ps) i (plain_pair p) s o (omega (arith, h, length_plain plain_pair ps)) (item_plain plain_pair ps i p h e) all fails out

-- ---- arguments and ranges

pub arguments_are : (u : Tree) (ds : List (List ℕ × trees.Tree)) (ps : List Entry) (r : Result NamedTemplates (Stop SyntaxKind)) → u ≡ tree.Map ds → plain_pairs ps ≡ ds
    → MatchResult r (λ vs. AreSoundAnd (every (λ x. Value) (pairs_of (plain_pairs ps))) (AreNamed (fields_of (fields_view vs)) (pairs_of (plain_pairs ps)))) (λ s. FailsAmong (every (λ x. Value) (pairs_of (plain_pairs ps))) s)
    → MatchResult r (λ vs. IsSoundAnd Arguments (plain_tree u) (AreArguments (fields_of (fields_view vs)) (plain_tree u))) (λ s. Fails Arguments (plain_tree u) s)
arguments_are u ds ps (Ok vs) is seen h =
    subst (λ w. IsSoundAnd Arguments w (AreArguments (fields_of (fields_view vs)) w)) (sym (ap plain_tree is ∙ ap (λ l. map (pairs_of l)) (sym seen)))
    (node_is_sound Arguments (map (pairs_of (plain_pairs ps))) refl (λ f h. h) h.0, h.1)
arguments_are u ds ps (Err s) is seen h =
    subst (λ w. Fails Arguments w s) (sym (ap plain_tree is ∙ ap (λ l. map (pairs_of l)) (sym seen)))
    (fails_below Arguments (map (pairs_of (plain_pairs ps))) s refl h)

pub two : {A : Type 0} (s : List A) (x y : A) → 2 ≤ length s → length s < 3 → x ≡ get_or s 0 x → y ≡ get_or s 1 y → s ≡ x ∷ y ∷ []
two [] x y h k e f = absurd (omega (arith, h))
two (a ∷ []) x y h k e f = absurd (omega (arith, h))
two (a ∷ b ∷ []) x y h k e f = ap (λ z. z ∷ b ∷ []) (sym e) ∙ ap (λ z. x ∷ z ∷ []) (sym f)
two (a ∷ b ∷ c ∷ s) x y h k e f = absurd (omega (arith, k))

abbrev pub both : trees.Tree → trees.Tree → trees.Tree
both a b = list (trees.item a (trees.item b trees.no_items))

range_is : (u : Tree) (ds : List trees.Tree) (ts : List Tree) (x y : Tree) → u ≡ tree.List ds → plain_items ts ≡ ds → ts ≡ x ∷ y ∷ [] → both (plain_tree x) (plain_tree y) ≡ plain_tree u
range_is u ds ts x y is seen e = sym (ap plain_tree is ∙ ap (λ l. list (items_of l)) (sym seen ∙ ap plain_items e))

pub range_first : (u : Tree) (ds : List trees.Tree) (ts : List Tree) (x y : Tree) (s o : Stop SyntaxKind) → u ≡ tree.List ds → plain_items ts ≡ ds → ts ≡ x ∷ y ∷ [] → Fails Value (plain_tree x) s → IsOutside (Index 0) s o → Fails Range (plain_tree u) o
range_first u ds ts x y s o is seen e f out =
    let b = both (plain_tree x) (plain_tree y) in
    subst (λ w. Fails Range w o) (range_is u ds ts x y is seen e)
    (fails_below Range b o refl (fails_among [] (each Value 1 (trees.item (plain_tree y) trees.no_items)) (record { part = Index 0; role = Value; tree = plain_tree x }) (each Value 0 (trees.item (plain_tree x) (trees.item (plain_tree y) trees.no_items))) (Index 0) s o refl tt refl f out))

pub range_last : (u : Tree) (ds : List trees.Tree) (ts : List Tree) (x y : Tree) (s o : Stop SyntaxKind) → u ≡ tree.List ds → plain_items ts ≡ ds → ts ≡ x ∷ y ∷ [] → IsSound Value (plain_tree x) → Fails Value (plain_tree y) s → IsOutside (Index 1) s o → Fails Range (plain_tree u) o
range_last u ds ts x y s o is seen e here f out =
    let b = both (plain_tree x) (plain_tree y) in
    subst (λ w. Fails Range w o) (range_is u ds ts x y is seen e)
    (fails_below Range b o refl (fails_among (record { part = Index 0; role = Value; tree = plain_tree x } ∷ []) [] (record { part = Index 1; role = Value; tree = plain_tree y }) (each Value 0 (trees.item (plain_tree x) (trees.item (plain_tree y) trees.no_items))) (Index 1) s o refl (here, tt) refl f out))

pub range_gives : (u : Tree) (ds : List trees.Tree) (ts : List Tree) (x y : Tree) (v w : t.Template) → u ≡ tree.List ds → plain_items ts ≡ ds → ts ≡ x ∷ y ∷ [] → IsSoundAnd Value (plain_tree x) (IsValue v (plain_tree x)) → IsSoundAnd Value (plain_tree y) (IsValue w (plain_tree y)) → IsSoundAnd Range (plain_tree u) (IsRange v w (plain_tree u))
range_gives u ds ts x y v w is seen e f g =
    let b = both (plain_tree x) (plain_tree y) in
    subst (λ z. IsSoundAnd Range z (IsRange v w z)) (range_is u ds ts x y is seen e) (node_is_sound Range b refl (λ f h. h) (f.0, (g.0, tt)), (f.1, g.1))

range_wrong : (ts : List Tree) (s : Stop SyntaxKind) → (length ts ≡ 2 → ⊥) → IsHere WrongKind s → Fails Range (list (items_of (plain_items ts))) s
range_wrong [] s h e = fails_here Range (list trees.no_items) WrongKind s refl e
range_wrong (x ∷ []) s h e = fails_here Range (list (trees.item (plain_tree x) trees.no_items)) WrongKind s refl e
range_wrong (x ∷ y ∷ []) s h e = absurd (h refl)
range_wrong (x ∷ y ∷ z ∷ ts) s h e = fails_here Range (list (items_of (plain_items (x ∷ y ∷ z ∷ ts)))) WrongKind s refl e

pub range_length : (u : Tree) (ds : List trees.Tree) (ts : List Tree) (s : Stop SyntaxKind) → u ≡ tree.List ds → plain_items ts ≡ ds → (length ts ≡ 2 → ⊥) → IsHere WrongKind s → Fails Range (plain_tree u) s
range_length u ds ts s is seen h e = subst (λ w. Fails Range w s) (sym (ap plain_tree is ∙ ap (λ l. list (items_of l)) (sym seen))) (range_wrong ts s h e)
