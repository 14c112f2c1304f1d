-- A tree is one value at most.
use Rattle.std.proofs.Common.{◌≡◌, Bool, ℤ, List, [], ◌∷◌, Option, Some, None, refl, sym, ap, ◌∙◌, subst}
use Rattle.std.proofs.lemmas.Option.{same_Some}
use Rattle.wf_ast.specs.Tree.{Template, Scalar, Listed, Mapped, Templates, no_templates, template, Fields, no_fields, field as named}
use Rattle.wf_syntax_rules.specs.Meaning.{AreNamed, AreValues, At, Each, Else, ElseBy, IsLiteral, AreLiterals, AreNamedLiterals, IsText, IsValue, Maybe, OfList, OfMap, OfSingle}
use Rattle.wf_syntax_words.specs.Fields.{field}
use Rattle.wf_expr.specs.Texts.{OneTemplate}
use Rattle.wf_tree.specs.Trees.{Tree, null, boolean, integer, decimal, text, list, map, Items, no_items, item, Pairs, no_pairs, pair}
use Rattle.wf_value.specs.Data as values
use Rattle.wf_value.specs.Pairs.{Text}

-- ## Fields

-- two parts of one field are of one tree
pub both_at : (k : Text) (fs : Pairs) (Is Was : Tree → Type 0) → At k fs Is → At k fs Was → (x : Tree) × Is x × Was x
both_at k fs Is Was h g = (h.0, h.2, subst Was (same_Some g.0 h.0 (sym g.1 ∙ h.1)) g.2)

pub both_lists : (x : Tree) (Is Was : Items → Type 0) → OfList x Is → OfList x Was → (xs : Items) × Is xs × Was xs
both_lists (list xs) Is Was h g = (xs, h, g)
both_lists x Is Was h g = absurd h

pub both_maps : (x : Tree) (Is Was : Pairs → Type 0) → OfMap x Is → OfMap x Was → (fs : Pairs) × Is fs × Was fs
both_maps (map fs) Is Was h g = (fs, h, g)
both_maps x Is Was h g = absurd h

pub both_singles : (x : Tree) (Is Was : Text → Tree → Type 0) → OfSingle x Is → OfSingle x Was → (k : Text) × (y : Tree) × Is k y × Was k y
both_singles (map (pair k y no_pairs)) Is Was h g = (k, y, h, g)
both_singles x Is Was h g = absurd h

is_there : {A : Type 0} (a : A) (k : Text) (fs : Pairs) (Is : A → Tree → Type 0) → field k fs ≡ None → At k fs (Is a) → ⊥
is_there a k fs Is e h = let p : None ≡ Some h.0 = sym e ∙ h.1 in cc

pub one_maybe : {A : Type 0} (Is : A → Tree → Type 0) → ((a b : A) (x : Tree) → Is a x → Is b x → a ≡ b) → (o p : Option A) (k : Text) (fs : Pairs) → Maybe o k fs Is → Maybe p k fs Is → o ≡ p
one_maybe Is one None None k fs h g = refl
one_maybe Is one None (Some b) k fs h g = absurd (is_there b k fs Is h g)
one_maybe Is one (Some a) None k fs h g = absurd (is_there a k fs Is g h)
one_maybe Is one (Some a) (Some b) k fs h g = let q = both_at k fs (Is a) (Is b) h g in ap Some (one a b q.0 q.1 q.2)

one_by : {A : Type 0} (Is : A → Tree → Type 0) → ((a b : A) (x : Tree) → Is a x → Is b x → a ≡ b) → (o : Option Tree) (a b default : A) → ElseBy o a default Is → ElseBy o b default Is → a ≡ b
one_by Is one None a b default h g = h ∙ sym g
one_by Is one (Some x) a b default h g = one a b x h g

pub one_else : {A : Type 0} (Is : A → Tree → Type 0) → ((a b : A) (x : Tree) → Is a x → Is b x → a ≡ b) → (a b default : A) (k : Text) (fs : Pairs) → Else a default k fs Is → Else b default k fs Is → a ≡ b
one_else Is one a b default k fs h g = one_by Is one (field k fs) a b default h g

pub one_each : {A : Type 0} (Is : A → Tree → Type 0) → ((a b : A) (x : Tree) → Is a x → Is b x → a ≡ b) → (all more : List A) (xs : Items) → Each Is all xs → Each Is more xs → all ≡ more
one_each Is one [] [] no_items h g = refl
one_each Is one (a ∷ all) (b ∷ more) (item x xs) h g = ap (λ c. c ∷ all) (one a b x h.0 g.0) ∙ ap (λ l. b ∷ l) (one_each Is one all more xs h.1 g.1)
one_each Is one [] (b ∷ more) no_items h g = absurd g
one_each Is one (a ∷ all) [] (item x xs) h g = absurd g
one_each Is one all more xs h g = absurd h

text_of : (s r : Text) → text s ≡ text r → s ≡ r
text_of s r h = cc

pub one_text : (s r : Text) (x : Tree) → IsText s x → IsText r x → s ≡ r
one_text s r x h g = text_of s r (sym h ∙ g)

-- ## Values
null_is : (w : Template) → IsValue w null → w ≡ Scalar values.null
null_is (Scalar d) h = ap Scalar h
null_is w h = absurd h

boolean_is : (w : Template) (b : Bool) → IsValue w (boolean b) → w ≡ Scalar (values.boolean b)
boolean_is (Scalar d) b h = ap Scalar h
boolean_is w b h = absurd h

integer_is : (w : Template) (n : ℤ) → IsValue w (integer n) → w ≡ Scalar (values.integer n)
integer_is (Scalar d) n h = ap Scalar h
integer_is w n h = absurd h

list_is : (w : Template) (xs : Items) → IsValue w (list xs) → (ws : Templates) × (w ≡ Listed ws) × AreValues ws xs
list_is (Listed ws) xs h = (ws, refl, h)
list_is w xs h = absurd h

map_is : (w : Template) (ps : Pairs) → IsValue w (map ps) → (gs : Fields) × (w ≡ Mapped gs) × AreNamed gs ps
map_is (Mapped gs) ps h = (gs, refl, h)
map_is w ps h = absurd h

mutual
  pub one_value : OneTemplate → (v w : Template) (x : Tree) → IsValue v x → IsValue w x → v ≡ w
  one_value o v w (text s) h g = o s v w h g
  one_value o v w null h g = null_is v h ∙ sym (null_is w g)
  one_value o v w (boolean b) h g = boolean_is v b h ∙ sym (boolean_is w b g)
  one_value o v w (integer n) h g = integer_is v n h ∙ sym (integer_is w n g)
  one_value o (Listed vs) w (list xs) h g = let i = list_is w xs g in ap Listed (one_values o vs i.0 xs h i.2) ∙ sym i.1
  one_value o (Mapped fs) w (map ps) h g = let i = map_is w ps g in ap Mapped (one_named o fs i.0 ps h i.2) ∙ sym i.1
  one_value o v w x h g = absurd h

  one_values : OneTemplate → (vs ws : Templates) (xs : Items) → AreValues vs xs → AreValues ws xs → vs ≡ ws
  one_values o no_templates no_templates no_items h g = refl
  one_values o no_templates (template w ws) no_items h g = absurd g
  one_values o (template v vs) no_templates (item x xs) h g = absurd g
  one_values o (template v vs) (template w ws) (item x xs) h g = ap (λ u. template u vs) (one_value o v w x h.0 g.0) ∙ ap (template w) (one_values o vs ws xs h.1 g.1)
  one_values o vs ws xs h g = absurd h

  pub one_named : OneTemplate → (fs gs : Fields) (ps : Pairs) → AreNamed fs ps → AreNamed gs ps → fs ≡ gs
  one_named o no_fields no_fields no_pairs h g = refl
  one_named o no_fields (named b w gs) no_pairs h g = absurd g
  one_named o (named a v fs) no_fields (pair j x ps) h g = absurd g
  one_named o (named a v fs) (named b w gs) (pair j x ps) h g =
      ap (λ c. named c v fs) (h.0 ∙ sym g.0) ∙ ap (λ u. named b u fs) (one_value o v w x h.1 g.1) ∙ ap (named b w) (one_named o fs gs ps h.2 g.2)
  one_named o fs gs ps h g = absurd h

-- ## Literals
null_literal : (e : values.Data) → IsLiteral e null → e ≡ values.null
null_literal values.null h = refl
null_literal e h = absurd h

boolean_literal : (e : values.Data) (b : Bool) → IsLiteral e (boolean b) → e ≡ values.boolean b
boolean_literal (values.boolean c) b h = ap values.boolean h
boolean_literal e b h = absurd h

integer_literal : (e : values.Data) (n : ℤ) → IsLiteral e (integer n) → e ≡ values.integer n
integer_literal (values.integer m) n h = ap values.integer h
integer_literal e n h = absurd h

text_literal : (e : values.Data) (s : Text) → IsLiteral e (text s) → e ≡ values.text s
text_literal (values.text r) s h = ap values.text h
text_literal e s h = absurd h

list_literal : (e : values.Data) (xs : Items) → IsLiteral e (list xs) → (ds : values.Items) × (e ≡ values.list ds) × AreLiterals ds xs
list_literal (values.list ds) xs h = (ds, refl, h)
list_literal e xs h = absurd h

map_literal : (e : values.Data) (ps : Pairs) → IsLiteral e (map ps) → (ds : values.Pairs) × (e ≡ values.map ds) × AreNamedLiterals ds ps
map_literal (values.map ds) ps h = (ds, refl, h)
map_literal e ps h = absurd h

no_decimal : (d : values.Data) (s : Text) → IsLiteral d (decimal s) → ⊥
no_decimal values.null s h = h
no_decimal d s h = h

mutual
  pub one_literal : (d e : values.Data) (x : Tree) → IsLiteral d x → IsLiteral e x → d ≡ e
  one_literal d e null h g = null_literal d h ∙ sym (null_literal e g)
  one_literal d e (boolean b) h g = boolean_literal d b h ∙ sym (boolean_literal e b g)
  one_literal d e (decimal s) h g = absurd (no_decimal d s h)
  one_literal d e (integer n) h g = integer_literal d n h ∙ sym (integer_literal e n g)
  one_literal d e (text s) h g = text_literal d s h ∙ sym (text_literal e s g)
  one_literal (values.list ds) e (list xs) h g = let i = list_literal e xs g in ap values.list (one_literals ds i.0 xs h i.2) ∙ sym i.1
  one_literal (values.map ds) e (map ps) h g = let i = map_literal e ps g in ap values.map (one_named_literals ds i.0 ps h i.2) ∙ sym i.1
  one_literal d e x h g = absurd h

  one_literals : (ds es : values.Items) (xs : Items) → AreLiterals ds xs → AreLiterals es xs → ds ≡ es
  one_literals values.no_items values.no_items no_items h g = refl
  one_literals values.no_items (values.item e es) no_items h g = absurd g
  one_literals (values.item d ds) values.no_items (item x xs) h g = absurd g
  one_literals (values.item d ds) (values.item e es) (item x xs) h g = ap (λ u. values.item u ds) (one_literal d e x h.0 g.0) ∙ ap (values.item e) (one_literals ds es xs h.1 g.1)
  one_literals ds es xs h g = absurd h

  one_named_literals : (ds es : values.Pairs) (ps : Pairs) → AreNamedLiterals ds ps → AreNamedLiterals es ps → ds ≡ es
  one_named_literals values.no_pairs values.no_pairs no_pairs h g = refl
  one_named_literals values.no_pairs (values.pair b e es) no_pairs h g = absurd g
  one_named_literals (values.pair a d ds) values.no_pairs (pair j x ps) h g = absurd g
  one_named_literals (values.pair a d ds) (values.pair b e es) (pair j x ps) h g =
      ap (λ c. values.pair c d ds) (h.0 ∙ sym g.0) ∙ ap (λ u. values.pair b u ds) (one_literal d e x h.1 g.1) ∙ ap (values.pair b e) (one_named_literals ds es ps h.2 g.2)
  one_named_literals ds es ps h g = absurd h
