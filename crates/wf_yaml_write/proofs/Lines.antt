-- The text of lines that stand at an indentation, part by part.
use Rattle.std.proofs.Common.{◌≡◌, ℕ, zero, suc, ◌+◌, List, [], ◌∷◌, ◌++◌, replicate, append_assoc, refl, ap, sym, ◌∙◌, Bool, true, false, codes, arith}
use Rattle.wf_tree.specs.Trees.{Tree, null, boolean, integer, decimal, text, list, map, no_items, item, no_pairs, pair}
use Rattle.wf_yaml_line.specs.Marks.{space, newline}
use Rattle.wf_yaml_write.specs.Laid.{laid, indented}
use Rattle.wf_yaml_write.specs.Layout.{layout, as_item, as_pair, in_front, further_in, items_layout, pairs_layout, is_block, written_text, text_of_lines}

-- one line at least
pub record HasFirst (lines : List (List ℕ)) : Type 0 where
  pub first : List ℕ
  pub others : List (List ℕ)
  pub is : lines ≡ first ∷ others

pub item_first : (lines more : List (List ℕ)) → HasFirst lines → HasFirst (as_item lines ++ more)
item_first lines more h = record { first = _; others = _; is = ap (λ ls. as_item ls ++ more) h.is }

pub pair_first : (key : List ℕ) (block : Bool) (lines more : List (List ℕ)) → HasFirst (as_pair key block lines ++ more)
pair_first key true lines more = record { first = _; others = _; is = refl }
pair_first key false [] more = record { first = _; others = _; is = refl }
pair_first key false (l ∷ ls) more = record { first = _; others = _; is = refl }

-- each tree has a line
pub has_first : (t : Tree) → HasFirst (layout t)
has_first null = record { first = _; others = _; is = refl }
has_first (boolean b) = record { first = _; others = _; is = refl }
has_first (integer n) = record { first = _; others = _; is = refl }
has_first (decimal s) = record { first = _; others = _; is = refl }
has_first (text s) = record { first = _; others = _; is = refl }
has_first (list no_items) = record { first = _; others = _; is = refl }
has_first (list (item t ts)) = item_first (layout t) (items_layout ts) (has_first t)
has_first (map no_pairs) = record { first = _; others = _; is = refl }
has_first (map (pair k t ps)) = pair_first k (is_block t) (layout t) (pairs_layout ps)

-- ---- columns

further : (n : ℕ) (r : List ℕ) → replicate n space ++ (space ∷ space ∷ r) ≡ replicate (n + 2) space ++ r
further zero r = refl
further (suc n) r = ap (λ s. space ∷ s) (further n r) ∙ ap (λ k. replicate k space ++ r) {x = suc (n + 2)} {y = suc n + 2} (omega arith)

pub indented_further : (n : ℕ) (lines : List (List ℕ)) → indented n (further_in lines) ≡ indented (n + 2) lines
indented_further n [] = refl
indented_further n (l ∷ ls) = further n (l ++ newline ∷ indented n (further_in ls)) ∙ ap (λ r. replicate (n + 2) space ++ (l ++ newline ∷ r)) (indented_further n ls)

pub indented_append : (n : ℕ) (a b : List (List ℕ)) → indented n (a ++ b) ≡ indented n a ++ indented n b
indented_append n [] b = refl
indented_append n (l ∷ a) b =
    ap (λ r. replicate n space ++ (l ++ newline ∷ r)) (indented_append n a b)
    ∙ ap (λ r. replicate n space ++ r) (sym (append_assoc l (newline ∷ indented n a) (indented n b)))
    ∙ sym (append_assoc (replicate n space) (l ++ newline ∷ indented n a) (indented n b))

pub indented_first : (n : ℕ) (lines : List (List ℕ)) → HasFirst lines → indented n lines ≡ replicate n space ++ laid n lines
indented_first n lines h = ap (indented n) h.is ∙ sym (ap (λ ls. replicate n space ++ laid n ls) h.is)

pub laid_append : (n : ℕ) (a b : List (List ℕ)) → HasFirst a → laid n (a ++ b) ≡ laid n a ++ indented n b
laid_append n a b h = ap (λ ls. laid n (ls ++ b)) h.is ∙ by h.first h.others ∙ ap (λ ls. laid n ls ++ indented n b) (sym h.is)
  where
    by : (l : List ℕ) (ls : List (List ℕ)) → laid n ((l ∷ ls) ++ b) ≡ laid n (l ∷ ls) ++ indented n b
    by l ls = ap (λ r. l ++ newline ∷ r) (indented_append n ls b) ∙ sym (append_assoc l (newline ∷ indented n ls) (indented n b))

whole : (ls : List (List ℕ)) → indented 0 ls ≡ text_of_lines ls
whole [] = refl
whole (l ∷ ls) = ap (λ r. l ++ newline ∷ r) (whole ls)

-- lines that stand at no indentation
pub laid_whole : (lines : List (List ℕ)) → laid 0 lines ≡ text_of_lines lines
laid_whole [] = refl
laid_whole (l ∷ ls) = ap (λ r. l ++ newline ∷ r) (whole ls)

-- ---- items and pairs, behind what was written

item_laid : (n : ℕ) (lines : List (List ℕ)) → HasFirst lines → codes "- " ++ laid (n + 2) lines ≡ laid n (as_item lines)
item_laid n lines h =
    ap (λ ls. codes "- " ++ laid (n + 2) ls) h.is
    ∙ ap (λ r. codes "- " ++ (h.first ++ newline ∷ r)) (sym (indented_further n h.others))
    ∙ sym (ap (λ ls. laid n (as_item ls)) h.is)

pub laid_item : (n : ℕ) (t : Tree) (out : List ℕ) → (out ++ codes "- ") ++ laid (n + 2) (layout t) ≡ out ++ laid n (as_item (layout t))
laid_item n t out = append_assoc out (codes "- ") (laid (n + 2) (layout t)) ∙ ap (λ r. out ++ r) (item_laid n (layout t) (has_first t))

front_laid : (n : ℕ) (s : List ℕ) (lines : List (List ℕ)) → HasFirst lines → s ++ laid n lines ≡ laid n (in_front s lines)
front_laid n s lines h =
    ap (λ ls. s ++ laid n ls) h.is ∙ sym (append_assoc s h.first (newline ∷ indented n h.others)) ∙ sym (ap (λ ls. laid n (in_front s ls)) h.is)

-- a pair whose value stands behind its key
pub laid_beside : (n : ℕ) (k : List ℕ) (t : Tree) (out : List ℕ) → is_block t ≡ false → ((out ++ written_text k) ++ codes ": ") ++ laid n (layout t) ≡ out ++ laid n (as_pair k (is_block t) (layout t))
laid_beside n k t out e =
    ap (λ r. r ++ laid n (layout t)) (append_assoc out (written_text k) (codes ": "))
    ∙ append_assoc out (written_text k ++ codes ": ") (laid n (layout t))
    ∙ ap (λ r. out ++ r) (front_laid n (written_text k ++ codes ": ") (layout t) (has_first t))
    ∙ sym (ap (λ block. out ++ laid n (as_pair k block (layout t))) e)

below : (n : ℕ) (s : List ℕ) (t : Tree) → ((s ++ codes ":\n") ++ replicate (n + 2) space) ++ laid (n + 2) (layout t) ≡ laid n ((s ++ codes ":") ∷ further_in (layout t))
below n s t =
    append_assoc (s ++ codes ":\n") (replicate (n + 2) space) (laid (n + 2) (layout t))
    ∙ ap (λ r. (s ++ codes ":\n") ++ r) (sym (indented_first (n + 2) (layout t) (has_first t)) ∙ sym (indented_further n (layout t)))
    ∙ append_assoc s (codes ":\n") (indented n (further_in (layout t)))
    ∙ sym (append_assoc s (codes ":") (newline ∷ indented n (further_in (layout t))))

-- a pair whose value stands below its key
pub laid_below : (n : ℕ) (k : List ℕ) (t : Tree) (out : List ℕ) → is_block t ≡ true → (((out ++ written_text k) ++ codes ":\n") ++ replicate (n + 2) space) ++ laid (n + 2) (layout t) ≡ out ++ laid n (as_pair k (is_block t) (layout t))
laid_below n k t out e =
    ap (λ r. (r ++ replicate (n + 2) space) ++ laid (n + 2) (layout t)) (append_assoc out (written_text k) (codes ":\n"))
    ∙ ap (λ r. r ++ laid (n + 2) (layout t)) (append_assoc out (written_text k ++ codes ":\n") (replicate (n + 2) space))
    ∙ append_assoc out ((written_text k ++ codes ":\n") ++ replicate (n + 2) space) (laid (n + 2) (layout t))
    ∙ ap (λ r. out ++ r) (below n (written_text k) t)
    ∙ sym (ap (λ block. out ++ laid n (as_pair k block (layout t))) e)

-- ---- parts one after another

-- after the first part
pub laid_start : (n : ℕ) (out new : List ℕ) (a b : List (List ℕ)) → HasFirst a → new ≡ out ++ laid n a → new ++ indented n b ≡ out ++ laid n (a ++ b)
laid_start n out new a b h pushed = ap (λ s. s ++ indented n b) pushed ∙ append_assoc out (laid n a) (indented n b) ∙ ap (λ r. out ++ r) (sym (laid_append n a b h))

-- after one more part
pub laid_next : (n : ℕ) (out new all : List ℕ) (a b : List (List ℕ)) → HasFirst a → out ++ indented n (a ++ b) ≡ all → new ≡ (out ++ replicate n space) ++ laid n a → new ++ indented n b ≡ all
laid_next n out new all a b h before pushed =
    ap (λ s. s ++ indented n b) pushed
    ∙ ap (λ s. s ++ indented n b) (append_assoc out (replicate n space) (laid n a) ∙ ap (λ r. out ++ r) (sym (indented_first n a h)))
    ∙ append_assoc out (indented n a) (indented n b)
    ∙ ap (λ r. out ++ r) (sym (indented_append n a b))
    ∙ before
