-- The rows of a block are cut at the heads of its entries.
use Rattle.std.proofs.Common.{◌≡◌, ℕ, suc, ◌+◌, List, [], ◌∷◌, ◌++◌, length, append-nil, Bool, true, false, not, ◌&&◌, ◌==◌, refl, ap, sym, ◌∙◌, arith}
use Rattle.std.specs.List.{AllByRecursion}
use Rattle.std.proofs.lemmas.Bool.{and_left, and_right, lt-leb}
use Rattle.wf_span.specs.Lines.{spaces}
use Rattle.wf_yaml.specs.Rows.{Row, is_blank_row}
use Rattle.wf_yaml.specs.Starts.{is_item}
use Rattle.wf_yaml.specs.Cuts.{Cut, cut, cut_more, entries_of, heads, is_list_head}
use Rattle.wf_yaml_write.specs.Layout.{further_in}
use Rattle.wf_yaml_write.proofs.RowsBack.{at, line_row, rows_at, rows_append, rows_further, IsHead, head_row}

-- rows of which none is a head
abbrev pub NoHeads : (Row → Bool) → List Row → Type 0
NoHeads p rs = AllByRecursion (λ r. p r ≡ false) rs

-- rows further in than the block are none
pub no_heads : (which : Bool) (k n : ℕ) (ls : List (List ℕ)) → NoHeads (heads which n) (rows_at k (n + 2) ls)
no_heads which k n [] = tt
no_heads which k n (l ∷ ls) = (no_head which (line_row k (n + 2) l) (and_right (not (is_blank_row (line_row k (n + 2) l))) _ (lt-leb (n + 2 + spaces l) n (omega arith))), no_heads which (suc k) n ls)
  where
    no_head : (which : Bool) (r : Row) → is_list_head n r ≡ false → heads which n r ≡ false
    no_head true r e = and_left (is_list_head n r) (not ((r.indent == n) && is_item r.text)) e
    no_head false r e = e

pub cut_over : (p : Row → Bool) (body rest : List Row) → NoHeads p body → cut p (body ++ rest) ≡ record { lead = body ++ (cut p rest).lead; entries = (cut p rest).entries }
cut_over p [] rest h = refl
cut_over p (r ∷ body) rest h = ap (λ t. cut_more t r (cut p (body ++ rest))) h.0 ∙ ap (λ (c : Cut). record { lead = r ∷ c.lead; entries = c.entries }) (cut_over p body rest h.1)

-- ---- the lines of an entry

-- an entry: a head, of these characters, and lines two columns further in
pub record IsEntry (lines : List (List ℕ)) : Type 0 where
  pub first : List ℕ
  pub text : List ℕ
  pub inside : List (List ℕ)
  pub is : lines ≡ first ∷ further_in inside
  pub head : IsHead first text

-- the number of the line behind it
abbrev pub next_number : ℕ → List (List ℕ) → ℕ
next_number k inside = suc k + length (further_in inside)

pub entry_rows : (k n : ℕ) (lines more : List (List ℕ)) (e : IsEntry lines) → rows_at k n (lines ++ more) ≡ at k n e.text ∷ (rows_at (suc k) (n + 2) e.inside ++ rows_at (next_number k e.inside) n more)
entry_rows k n lines more e =
    ap (λ ls. rows_at k n (ls ++ more)) e.is
    ∙ (λ i. head_row k n e.first e.text e.head i ∷ rows_append (suc k) n (further_in e.inside) more i)
    ∙ ap (λ r. at k n e.text ∷ (r ++ rows_at (next_number k e.inside) n more)) (rows_further (suc k) n e.inside)

-- entries at a block's indentation, of which the first begins with a head
pub entry_lead : (which : Bool) (k n : ℕ) (lines more : List (List ℕ)) (e : IsEntry lines) → heads which n (at k n e.text) ≡ true → (cut (heads which n) (rows_at k n (lines ++ more))).lead ≡ []
entry_lead which k n lines more e h =
    ap (λ rs. (cut (heads which n) rs).lead) (entry_rows k n lines more e)
    ∙ ap (λ t. (cut_more t (at k n e.text) (cut (heads which n) (rows_at (suc k) (n + 2) e.inside ++ rows_at (next_number k e.inside) n more))).lead) h

pub entry_cut : (which : Bool) (k n : ℕ) (lines more : List (List ℕ)) (e : IsEntry lines) → heads which n (at k n e.text) ≡ true → (cut (heads which n) (rows_at (next_number k e.inside) n more)).lead ≡ []
    → (cut (heads which n) (rows_at k n (lines ++ more))).entries ≡ (at k n e.text, rows_at (suc k) (n + 2) e.inside) ∷ (cut (heads which n) (rows_at (next_number k e.inside) n more)).entries
entry_cut which k n lines more e h lead =
    let p = heads which n in
    let head = at k n e.text in
    let body = rows_at (suc k) (n + 2) e.inside in
    let rest = rows_at (next_number k e.inside) n more in
    ap (λ rs. (cut p rs).entries) (entry_rows k n lines more e)
    ∙ ap (λ t. (cut_more t head (cut p (body ++ rest))).entries) h
    ∙ ap (λ (c : Cut). (head, c.lead) ∷ c.entries) (cut_over p body rest (no_heads which (suc k) n e.inside))
    ∙ ap (λ l. (head, l) ∷ (cut p rest).entries) (ap (λ l. body ++ l) lead ∙ append-nil body)

-- all the entries
pub entries_cut : (which : Bool) (k n : ℕ) (lines more : List (List ℕ)) (e : IsEntry lines) → heads which n (at k n e.text) ≡ true
    → entries_of (heads which n) (at k n e.text) (rows_at (suc k) (n + 2) e.inside ++ rows_at (next_number k e.inside) n more) ≡ (cut (heads which n) (rows_at k n (lines ++ more))).entries
entries_cut which k n lines more e h =
    let behind = rows_at (suc k) (n + 2) e.inside ++ rows_at (next_number k e.inside) n more in
    sym (ap (λ t. (cut_more t (at k n e.text) (cut (heads which n) behind)).entries) h) ∙ sym (ap (λ rs. (cut (heads which n) rs).entries) (entry_rows k n lines more e))
