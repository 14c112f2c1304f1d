-- Maps are read back, where their pairs are.
use Rattle.std.proofs.Common.{◌≡◌, ⊎_elim, ℕ, suc, ◌+◌, ◌≤◌, List, [], ◌∷◌, ◌++◌, map as each, append-nil, append_assoc, Bool, true, false, ◌==◌, Less, Equal, Greater, is_some, Ok, refl, ap, sym, ◌∙◌}
use Rattle.std.specs.Ordering.{match_ordering, ordering_reverse}
use Rattle.std.specs.BTreeMap.{insert_entry}
use Rattle.std.proofs.lemmas.Bool.{cases_Bool, and_parts, or_from, eqb-true, le-ltb, true≢false}
use Rattle.std.proofs.lemmas.Cmp.{nat_list_cmp_total, tied_itself}
use Rattle.wf_lemmas.proofs.Bools.{cond_false, cond_true}
use Rattle.wf_value.specs.Maps.{key_cmp, with_value}
use Rattle.wf_tree.specs.Trees.{Tree, map, Pairs, no_pairs, pair, pairs_of}
use Rattle.wf_yaml_line.specs.declared.fault.Kind.TheVariants as kinds
use Rattle.wf_yaml_line.specs.Marks.{is_same, is_one_of}
use Rattle.wf_yaml_line.specs.Fault.{both, given, refuse_if}
use Rattle.wf_yaml_line.specs.Keys.{key_of}
use Rattle.wf_yaml.specs.Rows.{has_tab}
use Rattle.wf_yaml.specs.Starts.{is_item}
use Rattle.wf_yaml.specs.Cuts.{cut, heads}
use Rattle.wf_yaml.specs.Blocks.{Reading, map_entries, map_of_entries, with_key, node_at}
use Rattle.wf_yaml_write.specs.Layout.{layout, as_pair, is_block, pairs_layout}
use Rattle.wf_yaml_write.specs.Whole.{IsBelow}
use Rattle.wf_yaml_write.proofs.RowsBack.{at, rows_at}
use Rattle.wf_yaml_write.proofs.CutBack.{next_number, entry_rows, entry_lead, entry_cut, entries_cut}
use Rattle.wf_yaml_write.proofs.PairBack.{IsPairRead, pair_lines, is_pair_head, pair_read}

abbrev Entry : Type 0
Entry = List ℕ × Tree

-- the pairs are read, and each key is below those behind it
abbrev pub ArePairsRead : Reading → ℕ → ℕ → Pairs → Type 0
ArePairsRead inner n d no_pairs = Unit {0}
ArePairsRead inner n d (pair k t ps) = IsPairRead inner n d k t × IsBelow k ps × ArePairsRead inner n d ps

-- ---- keys in their order

same_text : (s t : List ℕ) → is_same s t ≡ true → s ≡ t
same_text [] [] e = refl
same_text [] (b ∷ t) e = absurd (true≢false (sym e))
same_text (a ∷ s) [] e = absurd (true≢false (sym e))
same_text (a ∷ s) (b ∷ t) e = let k = and_parts (a == b) (is_same s t) e in (λ i. eqb-true a b k.0 i ∷ same_text s t k.1 i)

-- a key isn't below itself
apart : (k l : List ℕ) → key_cmp k l ≡ Less → k ≡ l → ⊥
apart k l less same =
    let itself : Less ≡ Equal = sym less ∙ ap (key_cmp k) (sym same) ∙ tied_itself nat_list_cmp_total k in
    absurd (cc itself)

differs : (k l : List ℕ) → key_cmp k l ≡ Less → is_same k l ≡ false
differs k l e = ⊎_elim (λ same. absurd (apart k l e (same_text k l same))) (λ other. other) (cases_Bool (is_same k l))

-- each of these keys is below those of the pairs
abbrev AreBelow : List (List ℕ) → Pairs → Type 0
AreBelow [] ps = Unit {0}
AreBelow (k ∷ ks) ps = IsBelow k ps × AreBelow ks ps

new_key : (keys : List (List ℕ)) (k : List ℕ) (t : Tree) (ps : Pairs) → AreBelow keys (pair k t ps) → is_one_of keys k ≡ false
new_key [] k t ps h = refl
new_key (l ∷ keys) k t ps h = or_from (is_same l k) (is_one_of keys k) (differs l k h.0.0) (new_key keys k t ps h.1)

below_rest : (keys : List (List ℕ)) (k : List ℕ) (t : Tree) (ps : Pairs) → AreBelow keys (pair k t ps) → AreBelow keys ps
below_rest [] k t ps h = tt
below_rest (l ∷ keys) k t ps h = (h.0.1, below_rest keys k t ps h.1)

abbrev keys_in : List Entry → List (List ℕ)
keys_in es = each (λ e. e.0) es

below_more : (es : List Entry) (k : List ℕ) (t : Tree) (ps : Pairs) → AreBelow (keys_in es) (pair k t ps) → IsBelow k ps → AreBelow (keys_in (es ++ (k, t) ∷ [])) ps
below_more [] k t ps h b = (b, tt)
below_more (e ∷ es) k t ps h b = (h.0.1, below_more es k t ps h.1 b)

-- a pair with a key above those before goes last
goes_last : (es : List Entry) (k : List ℕ) (t : Tree) (ps : Pairs) → AreBelow (keys_in es) (pair k t ps) → with_value k t es ≡ es ++ (k, t) ∷ []
goes_last [] k t ps h = refl
goes_last (e ∷ es) k t ps h =
    let above : key_cmp k e.0 ≡ Greater = nat_list_cmp_total.antisymm k e.0 ∙ ap ordering_reverse h.0.0 in
    ap (λ o. match_ordering o ((k, t) ∷ e ∷ es) ((e.0, t) ∷ es) (e ∷ insert_entry key_cmp es k t)) above ∙ ap (λ r. e ∷ r) (goes_last es k t ps h.1)

-- ---- the pairs

-- the pairs as a list
abbrev entries_in : Pairs → List Entry
entries_in no_pairs = []
entries_in (pair k t ps) = (k, t) ∷ entries_in ps

same_pairs : (ps : Pairs) → pairs_of (entries_in ps) ≡ ps
same_pairs no_pairs = refl
same_pairs (pair k t ps) = ap (pair k t) (same_pairs ps)

abbrev pub pair_text : List ℕ → Tree → List (List ℕ)
pair_text k t = as_pair k (is_block t) (layout t)

pairs_lead : (inner : Reading) (number n d : ℕ) (ps : Pairs) → ArePairsRead inner n d ps → (cut (heads true n) (rows_at number n (pairs_layout ps))).lead ≡ []
pairs_lead inner number n d no_pairs h = refl
pairs_lead inner number n d (pair k t ps) h =
    entry_lead true number n (pair_text k t) (pairs_layout ps) (pair_lines k (pair_text k t) h.0.lines) (is_pair_head k (pair_text k t) number n h.0.lines)

pairs_read : (inner : Reading) (number n d : ℕ) (done : List Entry) (keys : List (List ℕ)) (ps : Pairs) → ArePairsRead inner n d ps → AreBelow keys ps → AreBelow (keys_in done) ps
    → map_entries inner n d (Ok done) keys (cut (heads true n) (rows_at number n (pairs_layout ps))).entries ≡ Ok (done ++ entries_in ps)
pairs_read inner number n d done keys no_pairs h below sorted = ap Ok (sym (append-nil done))
pairs_read inner number n d done keys (pair k t ps) h below sorted =
    let p = h.0.lines in
    let e = pair_lines k (pair_text k t) p in
    let next = next_number number p.inside in
    let others = (cut (heads true n) (rows_at next n (pairs_layout ps))).entries in
    let read = pair_read inner number n d keys k t h.0 (new_key keys k t ps below) in
    ap (map_entries inner n d (Ok done) keys) (entry_cut true number n (pair_text k t) (pairs_layout ps) e (is_pair_head k (pair_text k t) number n p) (pairs_lead inner next n d ps h.2))
    ∙ (λ i. map_entries inner n d (both (λ qs q. with_value q.0 q.1 qs) (Ok done) (read i)) (with_key (p.key i) keys) others)
    ∙ ap (λ qs. map_entries inner n d (Ok qs) (k ∷ keys) others) (goes_last done k t ps sorted)
    ∙ pairs_read inner next n d (done ++ (k, t) ∷ []) (k ∷ keys) ps h.2 (h.1, below_rest keys k t ps below) (below_more done k t ps sorted h.1)
    ∙ ap Ok (append_assoc done ((k, t) ∷ []) (entries_in ps))

-- ---- the map

pub map_read : (inner : Reading) (number n floor d : ℕ) (delay : Bool) (k : List ℕ) (t : Tree) (ps : Pairs) → ArePairsRead inner n d (pair k t ps) → d ≤ 100
    → node_at inner floor d delay (rows_at number n (layout (map (pair k t ps)))) ≡ Ok (map (pair k t ps))
map_read inner number n floor d delay k t ps h le =
    let p = h.0.lines in
    let e = pair_lines k (pair_text k t) p in
    let head = at number n p.text in
    let behind = rows_at (suc number) (n + 2) e.inside ++ rows_at (next_number number e.inside) n (pairs_layout ps) in
    let as_map = λ (r : List Entry). map (pairs_of r) in
    let entries : map_of_entries inner d head behind ≡ Ok (map (pair k t ps)) =
    ap (λ es. given as_map (map_entries inner n d (Ok []) [] es)) (entries_cut true number n (pair_text k t) (pairs_layout ps) e (is_pair_head k (pair_text k t) number n p))
    ∙ ap (given as_map) (pairs_read inner number n d [] [] (pair k t ps) h tt tt) ∙ ap (λ qs. Ok (map qs)) (same_pairs (pair k t ps)) in
    ap (node_at inner floor d delay) (entry_rows number n (pair_text k t) (pairs_layout ps) e)
    ∙ cond_false (has_tab head) _ _ p.head.fresh.no_tab
    ∙ cond_false (is_item p.text) _ _ p.no_item
    ∙ cond_true (is_some (key_of p.text)) _ _ (ap is_some p.key)
    ∙ (λ i. both (λ _ u. u) (refuse_if (le-ltb 100 d le i) number kinds.TooDeep) (entries i))
