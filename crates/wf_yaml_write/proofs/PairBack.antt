-- One pair is read back, where its value is.
use Rattle.std.proofs.Common.{◌≡◌, ℕ, suc, ◌+◌, ◌≤◌, List, [], ◌∷◌, ◌++◌, append_assoc, Bool, true, false, cond, not, ◌&&◌, ◌==◌, nat_le, codes, None, Some, Ok, refl, ap, sym, subst, ◌∙◌, arith}
use Rattle.std.specs.Str.{encode_utf8_all, all_scalars, IsUtf8}
use Rattle.std.proofs.lemmas.Bool.{and_from, and_right, eq-eqb, le-leb, not_from_false}
use Rattle.std.proofs.lemmas.Str.{encodes-append}
use Rattle.wf_lemmas.proofs.Bools.{cond_false, cond_true}
use Rattle.wf_tree.specs.Trees.{Tree, depth}
use Rattle.wf_yaml_line.specs.declared.fault.Kind.TheVariants as kinds
use Rattle.wf_yaml_line.specs.Marks.{is_blank_line, is_one_of, ends_line, ends_word}
use Rattle.wf_yaml_line.specs.Fault.{both, kept, refuse, refuse_if}
use Rattle.wf_yaml_line.specs.Scalars.{is_delay_key}
use Rattle.wf_yaml_line.specs.Keys.{Key, key_of}
use Rattle.wf_yaml_flow.specs.Line.{one_line}
use Rattle.wf_yaml.specs.Rows.{has_tab, no_more}
use Rattle.wf_yaml.specs.Starts.{is_item, starts_scalar}
use Rattle.wf_yaml.specs.Cuts.{heads, is_list_head}
use Rattle.wf_yaml.specs.Blocks.{Reading, scalar, behind_fault, pair_value, pair_faults, pair_entry, map_entry}
use Rattle.wf_yaml_write.specs.Layout.{layout, as_pair, further_in, is_block, written_text}
use Rattle.wf_yaml_write.proofs.TextBack.{key_back, utf8_kept, all_low, low_same}
use Rattle.wf_yaml_write.proofs.LineBack.{IsLine}
use Rattle.wf_yaml_write.proofs.Clean.{IsClean, clean_append, written_clean}
use Rattle.wf_yaml_write.proofs.Fresh.{IsScalarLine, written_start, skip_none}
use Rattle.wf_yaml_write.proofs.RowsBack.{at, rows_at, AllGood, IsHead, head_good, good_further, all_count}
use Rattle.wf_yaml_write.proofs.CutBack.{IsEntry}

-- ---- scalars, behind which nothing stands

pub scalar_read : (floor d : ℕ) (delay : Bool) (n : ℕ) (s : List ℕ) (t : Tree) → starts_scalar s ≡ false → one_line delay n d s ≡ Ok t → scalar floor d delay n s [] ≡ Ok t
scalar_read floor d delay n s t e read =
    let behind : behind_fault floor n s [] ≡ Ok tt = ap (λ u. cond u (refuse n kinds.Unsupported) (no_more [])) (and_right _ false refl) in
    cond_false (starts_scalar s) _ _ e ∙ (λ i. both kept (read i) (behind i))

-- ---- a pair's lines

-- a key as it is read
abbrev pub key_in : List ℕ → List ℕ → Key
key_in k rest = record { text = k; fault = None; rest = rest }

-- the lines of a pair: its head, with the key and what stands behind its `:`, and lines two columns further in
pub record IsPair (k : List ℕ) (lines : List (List ℕ)) : Type 0 where
  pub first : List ℕ
  pub text : List ℕ
  pub rest : List ℕ
  pub inside : List (List ℕ)
  pub is : lines ≡ first ∷ further_in inside
  pub head : IsHead first text
  pub no_item : is_item text ≡ false
  pub key : key_of text ≡ Some (key_in k rest)
  pub good : AllGood inside

-- of which the value is read
pub record IsPairRead (inner : Reading) (n d : ℕ) (k : List ℕ) (t : Tree) : Type 0 where
  pub lines : IsPair k (as_pair k (is_block t) (layout t))
  pub read : (number j : ℕ) → pair_value inner n d (is_delay_key k) number lines.rest (rows_at j (n + 2) lines.inside) ≡ Ok t

-- the head's characters
abbrev head_text : List ℕ → List ℕ → List ℕ
head_text s rest = written_text s ++ (codes ":" ++ rest)

head_key : (s rest : List ℕ) → ends_word rest ≡ true → key_of (head_text s rest) ≡ Some (key_in (encode_utf8_all s) rest)
head_key s rest e = ap key_of (sym (append_assoc (written_text s) (codes ":") rest)) ∙ key_back s rest e

-- the key's bytes and the marks behind it
front_bytes : (s marks : List ℕ) → all_low marks ≡ true → written_text (encode_utf8_all s) ++ marks ≡ encode_utf8_all (written_text s ++ marks)
front_bytes s marks low = (λ i. utf8_kept s i ++ sym (low_same marks low) i) ∙ sym (encodes-append (written_text s) marks)

beside_bytes : (s line : List ℕ) → (written_text (encode_utf8_all s) ++ codes ": ") ++ encode_utf8_all line ≡ encode_utf8_all (written_text s ++ (codes ": " ++ line))
beside_bytes s line =
    ap (λ r. r ++ encode_utf8_all line) (front_bytes s (codes ": ") refl) ∙ sym (encodes-append (written_text s ++ codes ": ") line) ∙ ap encode_utf8_all (append_assoc (written_text s) (codes ": ") line)

-- ---- a value behind its key

abbrev beside_pair : (s line : List ℕ) (t : Tree) → all_scalars s ≡ true → IsClean line → is_block t ≡ false → layout t ≡ encode_utf8_all line ∷ [] → IsPair (encode_utf8_all s) (as_pair (encode_utf8_all s) (is_block t) (layout t))
beside_pair s line t scalars clean block written =
    let k = encode_utf8_all s in
    let begins = written_start s (codes ": " ++ line) in
    record {
      first = (written_text k ++ codes ": ") ++ encode_utf8_all line;
      text = head_text s (codes " " ++ line);
      rest = codes " " ++ line;
      inside = [];
      is = (λ i. as_pair k (block i) (written i));
      head = record {
        is = beside_bytes s line;
        clean = clean_append (written_text s) (codes ": " ++ line) (written_clean s scalars) (clean_append (codes ": ") line (record { scalars = refl; calm = refl }) clean);
        fresh = begins.fresh;
      };
      no_item = begins.no_item;
      key = head_key s (codes " " ++ line) refl;
      good = tt;
    }

pub lines_beside : (k line : List ℕ) (t : Tree) → IsUtf8 k → IsClean line → is_block t ≡ false → layout t ≡ encode_utf8_all line ∷ [] → IsPair k (as_pair k (is_block t) (layout t))
lines_beside k line t u clean block written = subst (λ j. IsPair j (as_pair j (is_block t) (layout t))) u.1.1 (beside_pair u.0 line t u.1.0 clean block written)

value_beside : (inner : Reading) (n d number : ℕ) (delay : Bool) (line : List ℕ) (t : Tree) → IsScalarLine line → one_line delay number (d + 1) line ≡ Ok t → pair_value inner n d delay number (codes " " ++ line) [] ≡ Ok t
value_beside inner n d number delay line t begins read =
    cond_false (ends_line (codes " " ++ line)) _ _ begins.fresh.counts
    ∙ ap (λ u. scalar (n + 1) (d + 1) delay number u []) (skip_none line begins.fresh.no_blank)
    ∙ scalar_read (n + 1) (d + 1) delay number line t begins.no_block read

abbrev pub IsBeside : Tree → ℕ → List ℕ → Type 0
IsBeside t d k = (is_block t ≡ false) × IsLine (is_delay_key k) t × (depth t + (d + 1) ≤ 101)

beside_read : (inner : Reading) (n d : ℕ) (s : List ℕ) (t : Tree) → all_scalars s ≡ true → IsBeside t d (encode_utf8_all s) → IsPairRead inner n d (encode_utf8_all s) t
beside_read inner n d s t scalars h = record {
  lines = beside_pair s h.1.line t scalars h.1.clean h.0 h.1.written;
  read = λ number j. value_beside inner n d number (is_delay_key (encode_utf8_all s)) h.1.line t h.1.begins (h.1.read number (d + 1) h.2);
}

pub pair_beside : (inner : Reading) (n d : ℕ) (k : List ℕ) (t : Tree) → IsUtf8 k → IsBeside t d k → IsPairRead inner n d k t
pair_beside inner n d k t u = subst (λ j. IsBeside t d j → IsPairRead inner n d j t) u.1.1 (beside_read inner n d u.0 t u.1.0)

-- ---- a value below its key

abbrev below_pair : (s : List ℕ) (t : Tree) → all_scalars s ≡ true → is_block t ≡ true → AllGood (layout t) → IsPair (encode_utf8_all s) (as_pair (encode_utf8_all s) (is_block t) (layout t))
below_pair s t scalars block good =
    let k = encode_utf8_all s in
    let begins = written_start s (codes ":") in
    record {
      first = written_text k ++ codes ":";
      text = head_text s [];
      rest = [];
      inside = layout t;
      is = ap (λ b. as_pair k b (layout t)) block;
      head = record {
        is = front_bytes s (codes ":") refl;
        clean = clean_append (written_text s) (codes ":") (written_clean s scalars) (record { scalars = refl; calm = refl });
        fresh = begins.fresh;
      };
      no_item = begins.no_item;
      key = head_key s [] refl;
      good = good;
    }

pub lines_below : (k : List ℕ) (t : Tree) → IsUtf8 k → is_block t ≡ true → AllGood (layout t) → IsPair k (as_pair k (is_block t) (layout t))
lines_below k t u block good = subst (λ j. IsPair j (as_pair j (is_block t) (layout t))) u.1.1 (below_pair u.0 t u.1.0 block good)

-- the value's rows are read
abbrev pub IsBelowKey : Reading → ℕ → ℕ → Tree → List ℕ → Type 0
IsBelowKey inner n d t k = (is_block t ≡ true) × AllGood (layout t) × ((j : ℕ) → inner (n + 1) (d + 1) (is_delay_key k) (rows_at j (n + 2) (layout t)) ≡ Ok t)

below_read : (inner : Reading) (n d : ℕ) (s : List ℕ) (t : Tree) → all_scalars s ≡ true → IsBelowKey inner n d t (encode_utf8_all s) → IsPairRead inner n d (encode_utf8_all s) t
below_read inner n d s t scalars h = record {
  lines = below_pair s t scalars h.0 h.1;
  read = λ number j. ap (inner (n + 1) (d + 1) (is_delay_key (encode_utf8_all s))) (all_count j (n + 2) (layout t) h.1) ∙ h.2 j;
}

pub pair_below : (inner : Reading) (n d : ℕ) (k : List ℕ) (t : Tree) → IsUtf8 k → IsBelowKey inner n d t k → IsPairRead inner n d k t
pair_below inner n d k t u = subst (λ j. IsBelowKey inner n d t j → IsPairRead inner n d j t) u.1.1 (below_read inner n d u.0 t u.1.0)

-- ---- the entry

pub pair_good : (k : List ℕ) (lines : List (List ℕ)) → IsPair k lines → AllGood lines
pair_good k lines p = subst AllGood (sym p.is) (head_good p.first p.text p.head, good_further p.inside p.good)

abbrev pub pair_lines : (k : List ℕ) (lines : List (List ℕ)) → IsPair k lines → IsEntry lines
pair_lines k lines p = record { first = p.first; text = p.text; inside = p.inside; is = p.is; head = p.head }

-- a map's heads
pub is_pair_head : (k : List ℕ) (lines : List (List ℕ)) (number n : ℕ) (p : IsPair k lines) → heads true n (at number n p.text) ≡ true
is_pair_head k lines number n p =
    let counts = and_from (not (is_blank_line p.text)) (nat_le n n) (not_from_false _ p.head.fresh.counts) (le-leb n n (omega arith)) in
    and_from (is_list_head n (at number n p.text)) (not ((n == n) && is_item p.text)) counts (not_from_false _ (and_right (n == n) (is_item p.text) p.no_item))

-- a pair is read, of which the key didn't stand before
pub pair_read : (inner : Reading) (number n d : ℕ) (keys : List (List ℕ)) (k : List ℕ) (t : Tree) (h : IsPairRead inner n d k t) → is_one_of keys k ≡ false
    → map_entry inner n d keys (at number n h.lines.text, rows_at (suc number) (n + 2) h.lines.inside) ≡ Ok (k, t)
pair_read inner number n d keys k t h new =
    let p = h.lines in
    let head = at number n p.text in
    let body = rows_at (suc number) (n + 2) p.inside in
    let faults : pair_faults number keys (key_in k p.rest) ≡ Ok tt = ap (λ u. both kept (Ok (tt {0})) (refuse_if u number kinds.DoubleKey)) new in
    cond_true (not (has_tab head) && (n == n)) _ _ (and_from (not (has_tab head)) (n == n) (not_from_false _ p.head.fresh.no_tab) (eq-eqb n n refl))
    ∙ ap (pair_entry inner n d keys head body) p.key
    ∙ (λ i. both (λ _ u. (k, u)) (faults i) (h.read number (suc number) i))
