-- Plain texts are read back.
use Rattle.std.proofs.Common.{◌≡◌, ℕ, List, [], ◌∷◌, ◌++◌, Bool, true, false, cond, not, ◌&&◌, ◌||◌, ◌==◌, codes, Some, None, is_some, Ok, refl, ap, sym, ◌∙◌}
use Rattle.std.specs.Str.{encode_utf8_all}
use Rattle.std.proofs.lemmas.Bool.{and_parts, not-true, ne_eqb, true≢false}
use Rattle.wf_tree.specs.Trees.{text}
use Rattle.wf_yaml_line.specs.Marks.{among, colon, bang, starts, ends_word, is_quote, is_bracket, is_guarded, trimmed, before_comment, around_colon}
use Rattle.wf_yaml_line.specs.Fault.{both, kept, refuse_if}
use Rattle.wf_yaml_flow.specs.Flow.{is_property}
use Rattle.wf_yaml_line.specs.Keys.{key_of, plain_fault, plain_key, quoted_key}
use Rattle.wf_yaml_line.specs.Quoted.{quoted}
use Rattle.wf_yaml_flow.specs.Line.{one_line, plain_line}
use Rattle.wf_yaml_line.specs.Scalars.{plain_tree, plain_tree_by, may_start_plain}
use Rattle.wf_yaml_line.specs.Words.{plain_kind}
use Rattle.wf_yaml_line.specs.declared.fault.Kind.TheVariants as kinds
use Rattle.wf_yaml_line.specs.declared.scalars.Plain.{Plain}
use Rattle.wf_yaml_line.specs.declared.scalars.Plain.TheVariants as kind
use Rattle.wf_yaml_write.specs.Layout.{is_plain, is_printable, may_start, has_mark, is_text}
use Rattle.wf_yaml_write.proofs.Calm.{IsCalm, calm, before_calm, trimmed_calm, no_colon_calm, no_key_calm, key_calm}

-- ---- the first character

-- none of these passes
abbrev pub none_passes : (ℕ → Bool) → List ℕ → Bool
none_passes p [] = true
none_passes p (x ∷ xs) = not (p x) && none_passes p xs

pub differs : (p : ℕ → Bool) (b x : ℕ) → p b ≡ true → p x ≡ false → (b == x) ≡ false
differs p b x h k = ne_eqb b x (λ e. true≢false (sym h ∙ ap p e ∙ k))

pub not_among : (p : ℕ → Bool) (xs : List ℕ) (b : ℕ) → p b ≡ true → none_passes p xs ≡ true → among xs b ≡ false
not_among p [] b h k = refl
not_among p (x ∷ xs) b h k =
    let parts = and_parts (not (p x)) (none_passes p xs) k in
    ap (λ t. t || among xs b) (differs p b x h (not-true (p x) parts.0)) ∙ not_among p xs b h parts.1

-- a text that begins as a plain scalar
pub record Opens (s : List ℕ) : Type 0 where
  pub property : starts is_property s ≡ false
  pub quote : starts is_quote s ≡ false
  pub bracket : starts is_bracket s ≡ false
  pub start : may_start_plain s ≡ true

two : (a b : Bool) → (a || (b || false)) ≡ false → (a || b) ≡ false
two true b e = e
two false true e = e
two false false e = refl

three : (a b c : Bool) → (a || (b || (c || false))) ≡ false → (a || b || c) ≡ false
three true b c e = e
three false true c e = e
three false false true e = e
three false false false e = refl

-- where none of the marks passes a test, a text that begins with a character that does
pub opens_by : (p : ℕ → Bool) (b : ℕ) (r : List ℕ) → p b ≡ true → (is_guarded b && ends_word r) ≡ false → none_passes p (38 ∷ 42 ∷ bang ∷ []) ≡ true → none_passes p (39 ∷ 34 ∷ []) ≡ true → none_passes p (91 ∷ 123 ∷ []) ≡ true → none_passes p (codes ",[]{}#&*!|>'\"%@`") ≡ true → Opens (b ∷ r)
opens_by p b r h guarded properties quotes brackets reserved = record {
  property = three (b == 38) (b == 42) (b == bang) (not_among p (38 ∷ 42 ∷ bang ∷ []) b h properties);
  quote = two (b == 39) (b == 34) (not_among p (39 ∷ 34 ∷ []) b h quotes);
  bracket = two (b == 91) (b == 123) (not_among p (91 ∷ 123 ∷ []) b h brackets);
  start = ap (λ t. not t && not (is_guarded b && ends_word r)) (not_among p (codes ",[]{}#&*!|>'\"%@`") b h reserved) ∙ ap not guarded;
}

-- ---- a scalar on a line

pub fourth : {A : Type 0} (p q r t : Bool) (a b c x y : A) → p ≡ false → q ≡ false → r ≡ false → t ≡ true → cond p a (cond q b (cond r c (cond t x y))) ≡ x
fourth p q r t a b c x y hp hq hr ht =
    ap (λ u. cond u a (cond q b (cond r c (cond t x y)))) hp ∙ ap (λ u. cond u b (cond r c (cond t x y))) hq ∙ ap (λ u. cond u c (cond t x y)) hr ∙ ap (λ u. cond u x y) ht

calm_line : (delay : Bool) (n : ℕ) (s : List ℕ) → IsCalm false s → plain_line delay n s ≡ both kept (plain_tree delay n s) (Ok (tt {0}))
calm_line delay n s c =
    let content : trimmed (before_comment false s) ≡ s = ap trimmed (before_calm false s c) ∙ trimmed_calm false s c in
    ap (λ u. both kept (plain_tree delay n u) (refuse_if (is_some (around_colon false u)) n kinds.Unsupported)) content
    ∙ ap (λ o. both kept (plain_tree delay n s) (refuse_if (is_some o) n kinds.Unsupported)) (no_key_calm false s c)

-- a calm text that begins as a plain scalar is read as one
pub scalar_line : (delay : Bool) (n d : ℕ) (s : List ℕ) → Opens s → IsCalm false s → one_line delay n d s ≡ both kept (plain_tree delay n s) (Ok (tt {0}))
scalar_line delay n d s o c =
    fourth (starts is_property s) (starts is_quote s) (starts is_bracket s) (may_start_plain s) _ _ _ (plain_line delay n s) _ o.property o.quote o.bracket o.start
    ∙ calm_line delay n s c

-- ---- plain texts

text_kind : (k : Plain) → is_text k ≡ true → k ≡ kind.Text
text_kind kind.Null e = absurd (true≢false (sym e))
text_kind (kind.Truth b) e = absurd (true≢false (sym e))
text_kind (kind.Whole z) e = absurd (true≢false (sym e))
text_kind kind.Decimal e = absurd (true≢false (sym e))
text_kind kind.Text e = refl

pub record IsPlain (s : List ℕ) : Type 0 where
  pub printable : is_printable s ≡ true
  pub start : starts may_start s ≡ true
  pub no_mark : has_mark s ≡ false
  pub kind : plain_kind s ≡ kind.Text

pub plain_facts : (s : List ℕ) → is_plain s ≡ true → IsPlain s
plain_facts s e =
    let a = and_parts (is_printable s && starts may_start s && not (has_mark s)) (is_text (plain_kind s)) e in
    let b = and_parts (is_printable s && starts may_start s) (not (has_mark s)) a.0 in
    let c = and_parts (is_printable s) (starts may_start s) b.0 in
    record { printable = c.0; start = c.1; no_mark = not-true (has_mark s) b.1; kind = text_kind (plain_kind s) a.1 }

pub plain_calm : (s : List ℕ) → IsPlain s → IsCalm false s
plain_calm s h = calm false s refl h.printable h.no_mark

pub plain_opens : (b : ℕ) (r : List ℕ) → may_start b ≡ true → Opens (b ∷ r)
plain_opens b r h = opens_by may_start b r h (ap (λ t. t && ends_word r) (not_among may_start (codes "-?:") b h refl)) refl refl refl refl

-- a plain text is read as that text
pub plain_back : (delay : Bool) (n d : ℕ) (s : List ℕ) → is_plain s ≡ true → one_line delay n d s ≡ Ok (text (encode_utf8_all s))
plain_back delay n d [] e = absurd (true≢false (sym (plain_facts [] e).start))
plain_back delay n d (b ∷ r) e =
    let h = plain_facts (b ∷ r) e in
    scalar_line delay n d (b ∷ r) (plain_opens b r h.start) (plain_calm (b ∷ r) h)
    ∙ ap (λ k. both kept (plain_tree_by k delay n (b ∷ r)) (Ok (tt {0}))) h.kind

-- and as a key before the `:` that ends it
pub plain_key_back : (s rest : List ℕ) → is_plain s ≡ true → ends_word rest ≡ true → key_of (s ++ colon ∷ rest) ≡ Some (record { text = encode_utf8_all s; fault = None; rest = rest })
plain_key_back [] rest e w = absurd (true≢false (sym (plain_facts [] e).start))
plain_key_back (b ∷ r) rest e w =
    let h = plain_facts (b ∷ r) e in
    let all = r ++ colon ∷ rest in
    let o = plain_opens b all h.start in
    ap (λ t. cond t (quoted_key (quoted (b ∷ all)) (quoted (b ∷ all)).rest) (cond (may_start_plain (b ∷ all)) (plain_key (around_colon false (b ∷ all))) None)) o.quote
    ∙ ap (λ t. cond t (plain_key (around_colon false (b ∷ all))) None) o.start
    ∙ ap plain_key (key_calm false (b ∷ r) rest w (plain_calm (b ∷ r) h))
    ∙ ap (λ u. Some (record { text = encode_utf8_all u; fault = plain_fault u; rest = rest })) (trimmed_calm false (b ∷ r) (plain_calm (b ∷ r) h))
    ∙ ap (λ t. Some (record { text = encode_utf8_all (b ∷ r); fault = cond t (Some kinds.Unsupported) None; rest = rest })) (no_colon_calm false (b ∷ r) (plain_calm (b ∷ r) h))
