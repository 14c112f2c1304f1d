-- How a reading of blocks goes on.
use Rattle.std.proofs.Common.{◌≡◌, ◌≢◌, ℕ, zero, suc, ◌+◌, ◌-◌, ◌≤◌, ◌<◌, List, [], ◌∷◌, ◌++◌, take, drop, length, get_or, Bool, true, false, cond, not, ◌&&◌, ◌||◌, ◌==◌, Option, Some, None, Result, Ok, refl, sym, ap, ◌∙◌, subst, arith}
use Rattle.std.proofs.lemmas.Bool.{eq-eqb}
use Rattle.std.proofs.lemmas.List.{take_rest}
use Rattle.std.specs.List.{slice_get}
use Rattle.std.specs.Option.{IfSome}
use Rattle.wf_lemmas.proofs.Bools.{cond_false, cond_true}
use Rattle.wf_tree.specs.Trees.{Tree, null}
use Rattle.wf_value.specs.Maps.{with_value}
use Rattle.wf_yaml_line.specs.declared.fault.Fault.{Fault}
use Rattle.wf_yaml_line.specs.declared.fault.Kind.TheVariants as kinds
use Rattle.wf_yaml_line.specs.Marks.{is_one_of, is_same, behind_first, ends_line, skip_blanks}
use Rattle.wf_yaml_line.specs.Fault.{both, kept, refuse, refuse_if}
use Rattle.wf_yaml_line.specs.Scalars.{is_delay_key}
use Rattle.wf_yaml_line.specs.Keys.{Key, key_of, own_fault}
use Rattle.wf_yaml.specs.declared.rows.Row.{Row as Line}
use Rattle.wf_yaml.specs.Rows.{Row, starts_tab, has_tab, misplaced}
use Rattle.wf_yaml.specs.Starts.{is_item, starts_block, has_tab_gap}
use Rattle.wf_yaml.specs.Cuts.{cut, cut_more, entries_of}
use Rattle.wf_yaml.specs.Blocks.{Reading, node, node_at, inside, deep_line, other_line, list_entries, list_entry, map_entries, map_entry, pair_entry, pair_value, with_key}
use Rattle.wf_yaml.specs.Views.{see, see_all}

-- ---- the nesting that is left

inside_is : (m f e : ℕ) (k : Bool) (ls : List Row) → inside (suc m) f e k ls ≡ node_at (inside m) f e k ls
inside_is zero f e k ls = refl
inside_is (suc m) f e k ls = refl

pub node_is : (m f e : ℕ) (k : Bool) (ls : List Row) → node m f e k ls ≡ node_at (inside m) f e k ls
node_is zero f e k ls = refl
node_is (suc m) f e k ls = refl

pub inside_more : (d f e : ℕ) (k : Bool) (ls : List Row) → d ≤ 100 → inside (101 - d) f e k ls ≡ node_at (inside (101 - (d + 1))) f e k ls
inside_more d f e k ls h =
    let step : 101 - d ≡ suc (101 - (d + 1)) = omega arith in
    ap (λ m. inside m f e k ls) step ∙ inside_is (101 - (d + 1)) f e k ls

-- ---- the first line of some lines, and the others

pub first_line : (rs : List Line) (r : Line) (first : Row) → 1 ≤ length rs → r ≡ get_or rs 0 r → first ≡ see r → see_all rs ≡ first ∷ see_all (take (length rs - 1) (drop 1 rs))
first_line [] r first h is same = absurd (omega (arith, h))
first_line (x ∷ rs) r first h is same = (λ i. (ap see (sym is) ∙ sym same) i ∷ see_all (sym (take_rest (x ∷ rs) 1) i))

pub block_none : (m f e : ℕ) (k : Bool) (rs : List Line) (ls : List Row) → see_all rs ≡ ls → length rs < 1 → inside m f e k ls ≡ Ok null
block_none zero f e k [] ls h l = ap (λ x. inside zero f e k x) (sym h)
block_none (suc zero) f e k [] ls h l = ap (λ x. inside (suc zero) f e k x) (sym h)
block_none (suc (suc m)) f e k [] ls h l = ap (λ x. inside (suc (suc m)) f e k x) (sym h)
block_none m f e k (r ∷ rs) ls h l = absurd (omega (arith, l))

pub block_some : (d f : ℕ) (k : Bool) (rs : List Line) (r : Line) (first : Row) (ls : List Row) → d ≤ 100 → see_all rs ≡ ls → 1 ≤ length rs → r ≡ get_or rs 0 r → first ≡ see r
    → node_at (inside (101 - (d + 1))) f (d + 1) k (first ∷ see_all (take (length rs - 1) (drop 1 rs))) ≡ inside (101 - d) f (d + 1) k ls
block_some d f k rs r first ls h e some is same =
    sym (inside_more d f (d + 1) k (first ∷ see_all (take (length rs - 1) (drop 1 rs))) h)
    ∙ ap (inside (101 - d) f (d + 1) k) (sym (first_line rs r first some is same) ∙ e)

-- What holds of the line at k holds of the first of those from k on.
pub holds_first : (Q : Line → Type 0) (rest : List Line) (k : ℕ) (next : List Line) (h : Line) → next ≡ drop k rest → 1 ≤ length next → h ≡ get_or next 0 h → IfSome (slice_get rest k) Q → Q h
holds_first Q [] zero next h e some is q = absurd (omega (arith, some, ap length e))
holds_first Q [] (suc k) next h e some is q = absurd (omega (arith, some, ap length e))
holds_first Q (x ∷ xs) zero next h e some is q = subst Q (sym (is ∙ ap (λ l. get_or l 0 h) e)) q
holds_first Q (x ∷ xs) (suc k) next h e some is q = holds_first Q xs k next h e some is q

-- ---- lists

all_three : (a b c : Bool) → a ≡ false → b ≡ true → c ≡ true → (not a && b && c) ≡ true
all_three a b c p q r = (λ i. not (p i) && q i && r i)

-- the line at a number, a column and a text
abbrev pub at : ℕ → ℕ → List ℕ → Row
at number indent text = record { number = number; indent = indent; text = text }

-- an item whose content stands on its line
pub item_on_line : (inner : Reading) (n d : ℕ) (r : Row) (rest content : List ℕ) (body : List Row) → starts_tab r.text ≡ false → r.indent ≡ n → is_item r.text ≡ true
    → rest ≡ behind_first r.text → ends_line rest ≡ false → content ≡ skip_blanks rest → (has_tab_gap rest && starts_block content) ≡ false
    → list_entry inner n d (r, body) ≡ inner (n + 1) (d + 1) false (at r.number (n + 1 + (length rest - length content)) content ∷ body)
item_on_line inner n d r rest content body tab same item e ends k refused =
    let t = behind_first r.text in
    let c : skip_blanks t ≡ content = ap skip_blanks (sym e) ∙ sym k in
    cond_true (not (starts_tab r.text) && (r.indent == n) && is_item r.text) _ _ (all_three _ _ _ tab (eq-eqb r.indent n same) item)
    ∙ cond_false (ends_line t) _ _ (ap ends_line (sym e) ∙ ends)
    ∙ cond_false (has_tab_gap t && starts_block (skip_blanks t)) _ _ ((λ i. has_tab_gap (sym e i) && starts_block (c i)) ∙ refused)
    ∙ (λ i. inner (n + 1) (d + 1) false (at r.number (n + 1 + (length (sym e i) - length (c i))) (c i) ∷ body))

pub item_goes_on : (n d : ℕ) (r : Row) (rest content : List ℕ) (body : List Row) → d ≤ 100 → starts_tab r.text ≡ false → r.indent ≡ n → is_item r.text ≡ true
    → rest ≡ behind_first r.text → ends_line rest ≡ false → content ≡ skip_blanks rest → (has_tab_gap rest && starts_block content) ≡ false
    → node_at (inside (101 - (d + 1))) (n + 1) (d + 1) false (at r.number (n + 1 + (length rest - length content)) content ∷ body) ≡ list_entry (inside (101 - d)) n d (r, body)
item_goes_on n d r rest content body h tab same item e ends k refused =
    sym (inside_more d (n + 1) (d + 1) false (at r.number (n + 1 + (length rest - length content)) content ∷ body) h) ∙ sym (item_on_line (inside (101 - d)) n d r rest content body tab same item e ends k refused)

-- the entries from the next head on
next_entries : (p : Row → Bool) (rest next more : List Row) (h : Row) → (cut p rest).entries ≡ (cut p next).entries → next ≡ h ∷ more → p h ≡ true → (cut p rest).entries ≡ entries_of p h more
next_entries p rest next more h entries is head = entries ∙ ap (λ l. (cut p l).entries) is ∙ ap (λ t. (cut_more t h (cut p more)).entries) head

-- one entry of a list, and the next
pub list_next : (inner : Reading) (n d : ℕ) (p : Row → Bool) (so_far so_far' : Result (List Tree) Fault) (r h : Row) (rest body next more : List Row) (whole : Result (List Tree) Fault)
    → (cut p rest).lead ≡ body → (cut p rest).entries ≡ (cut p next).entries → next ≡ h ∷ more → p h ≡ true
    → so_far' ≡ both (λ ts t. ts ++ t ∷ []) so_far (list_entry inner n d (r, body))
    → list_entries inner n d so_far (entries_of p r rest) ≡ whole → list_entries inner n d so_far' (entries_of p h more) ≡ whole
list_next inner n d p s s' r h rest body next more whole lead entries is head added old =
    (λ i. list_entries inner n d (added i) (entries_of p h more))
    ∙ (λ i. list_entries inner n d (both (λ ts t. ts ++ t ∷ []) s (list_entry inner n d (r, sym lead i))) (sym (next_entries p rest next more h entries is head) i))
    ∙ old

-- ---- maps

abbrev pub SameKeys : List (List ℕ) → List (List ℕ) → Type 0
SameKeys ks ls = (k : List ℕ) → is_one_of ks k ≡ is_one_of ls k

more_keys : (o : Option Key) (ks ls : List (List ℕ)) → SameKeys ks ls → SameKeys (with_key o ks) (with_key o ls)
more_keys None ks ls h = h
more_keys (Some k) ks ls h = λ x. ap (λ b. is_same k.text x || b) (h x)

same_pair : (inner : Reading) (n d : ℕ) (ks ls : List (List ℕ)) (r : Row) (behind : List Row) (o : Option Key) → SameKeys ks ls → pair_entry inner n d ks r behind o ≡ pair_entry inner n d ls r behind o
same_pair inner n d ks ls r behind None h = refl
same_pair inner n d ks ls r behind (Some k) h =
    ap (λ b. both (λ _ t. (k.text, t)) (both kept (own_fault r.number k.fault) (refuse_if b r.number kinds.DoubleKey)) (pair_value inner n d (is_delay_key k.text) r.number k.rest behind)) (h k.text)

same_entry : (inner : Reading) (n d : ℕ) (ks ls : List (List ℕ)) (e : Row × List Row) → SameKeys ks ls → map_entry inner n d ks e ≡ map_entry inner n d ls e
same_entry inner n d ks ls e h = ap (λ x. cond (not (has_tab e.0) && (e.0.indent == n)) x (misplaced e.0)) (same_pair inner n d ks ls e.0 e.1 (key_of e.0.text) h)

-- Only which keys stand before matters, and not their order.
pub same_entries : (inner : Reading) (n d : ℕ) (so_far : Result (List (List ℕ × Tree)) Fault) (ks ls : List (List ℕ)) (es : List (Row × List Row)) → SameKeys ks ls → map_entries inner n d so_far ks es ≡ map_entries inner n d so_far ls es
same_entries inner n d s ks ls [] h = refl
same_entries inner n d s ks ls (e ∷ es) h =
    ap (λ x. map_entries inner n d (both (λ ps p. with_value p.0 p.1 ps) s x) (with_key (key_of e.0.text) ks) es) (same_entry inner n d ks ls e h)
    ∙ same_entries inner n d (both (λ ps p. with_value p.0 p.1 ps) s (map_entry inner n d ls e)) (with_key (key_of e.0.text) ks) (with_key (key_of e.0.text) ls) es (more_keys (key_of e.0.text) ks ls h)

-- one pair of a map, and the next
pub map_next : (inner : Reading) (n d : ℕ) (p : Row → Bool) (so_far so_far' : Result (List (List ℕ × Tree)) Fault) (keys keys' : List (List ℕ)) (o : Option Key) (r h : Row) (rest body next more : List Row) (whole : Result (List (List ℕ × Tree)) Fault)
    → (cut p rest).lead ≡ body → (cut p rest).entries ≡ (cut p next).entries → next ≡ h ∷ more → p h ≡ true
    → so_far' ≡ both (λ ps e. with_value e.0 e.1 ps) so_far (map_entry inner n d keys (r, body)) → o ≡ key_of r.text → SameKeys keys' (with_key o keys)
    → map_entries inner n d so_far keys (entries_of p r rest) ≡ whole → map_entries inner n d so_far' keys' (entries_of p h more) ≡ whole
map_next inner n d p s s' keys keys' o r h rest body next more whole lead entries is head added own names old =
    same_entries inner n d s' keys' (with_key o keys) (entries_of p h more) names
    ∙ (λ i. map_entries inner n d (added i) (with_key (own i) keys) (entries_of p h more))
    ∙ (λ i. map_entries inner n d (both (λ ps e. with_value e.0 e.1 ps) s (map_entry inner n d keys (r, sym lead i))) (with_key (key_of r.text) keys) (sym (next_entries p rest next more h entries is head) i))
    ∙ old

-- ---- one turn past the deepest nesting

pub deep_other : (m n d : ℕ) (s : List ℕ) → m ≢ 0 → is_item s ≡ false → deep_line m n d s ≡ other_line n d s (key_of s)
deep_other zero n d s h e = absurd (h refl)
deep_other (suc m) n d s h e = cond_false (is_item s) _ _ e

pub deep_end : (m n d : ℕ) (s : List ℕ) → m ≢ 0 → is_item s ≡ true → ends_line (behind_first s) ≡ true → deep_line m n d s ≡ Ok null
deep_end zero n d s h e k = absurd (h refl)
deep_end (suc m) n d s h e k = cond_true (is_item s) _ _ e ∙ cond_true (ends_line (behind_first s)) _ _ k

pub deep_tab : (m n d : ℕ) (s rest content : List ℕ) → m ≢ 0 → is_item s ≡ true → rest ≡ behind_first s → ends_line rest ≡ false → content ≡ skip_blanks rest → (has_tab_gap rest && starts_block content) ≡ true → deep_line m n d s ≡ refuse n kinds.Tab
deep_tab zero n d s rest content h e r k c t = absurd (h refl)
deep_tab (suc m) n d s rest content h e r k c t =
    cond_true (is_item s) _ _ e ∙ cond_false (ends_line (behind_first s)) _ _ (ap ends_line (sym r) ∙ k)
    ∙ cond_true (has_tab_gap (behind_first s) && starts_block (skip_blanks (behind_first s))) _ _ ((λ i. has_tab_gap (sym r i) && starts_block ((ap skip_blanks (sym r) ∙ sym c) i)) ∙ t)

pub deep_inner : (m n d : ℕ) (s rest content : List ℕ) → m ≢ 0 → is_item s ≡ true → rest ≡ behind_first s → ends_line rest ≡ false → content ≡ skip_blanks rest → (has_tab_gap rest && starts_block content) ≡ false → deep_line (m - 1) n d content ≡ deep_line m n d s
deep_inner zero n d s rest content h e r k c t = absurd (h refl)
deep_inner (suc m) n d s rest content h e r k c t =
    let at : suc m - 1 ≡ m = omega arith in
    ap (λ j. deep_line j n d content) at
    ∙ ap (deep_line m n d) (c ∙ ap skip_blanks r)
    ∙ sym (cond_true (is_item s) _ _ e ∙ cond_false (ends_line (behind_first s)) _ _ (ap ends_line (sym r) ∙ k)
    ∙ cond_false (has_tab_gap (behind_first s) && starts_block (skip_blanks (behind_first s))) _ _ ((λ i. has_tab_gap (sym r i) && starts_block ((ap skip_blanks (sym r) ∙ sym c) i)) ∙ t))
