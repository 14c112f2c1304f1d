-- The text of a block scalar, row by row.
use Rattle.std.proofs.Common.{◌≡◌, ℕ, zero, suc, ◌-◌, ◌<◌, List, [], ◌∷◌, ◌++◌, Bool, true, false, cond, not, ◌&&◌, ◌||◌, refl, sym, ap, ◌∙◌, arith, append_assoc}
use Rattle.std.proofs.lemmas.List.{append-nil}
use Rattle.wf_lemmas.proofs.Bools.{cond_false, cond_true, by_test}
use Rattle.wf_yaml_line.specs.Marks.{is_empty, space, newline}
use Rattle.wf_yaml.specs.Rows.{Row}
use Rattle.wf_yaml.specs.BlockScalars.{scalar_line, scalar_lines, gap, folded_text, literal_text, joined, without_last, are_empty, copies}

-- The text of what is left, where so many line ends are to stand before its first line that isn't empty.
abbrev pub woven : Bool → ℕ → Bool → ℕ → List Row → List ℕ
woven folded m begun n [] = []
woven folded m begun n (r ∷ rs) =
    let skipped = woven folded m begun (suc n) rs in
    let taken = gap (folded && begun) n ++ (scalar_line m begun r ++ woven folded m true (cond folded 0 1) rs) in
    cond (is_empty (scalar_line m begun r)) skipped taken

-- the same of lines
abbrev stitched : Bool → Bool → ℕ → List (List ℕ) → List ℕ
stitched folded begun n [] = []
stitched folded begun n (l ∷ ls) =
    let skipped = stitched folded begun (suc n) ls in
    let taken = gap (folded && begun) n ++ (l ++ stitched folded true (cond folded 0 1) ls) in
    cond (is_empty l) skipped taken

-- ---- the rows' lines

same_both : (t : Bool) → true ≡ cond t true true
same_both true = refl
same_both false = refl

begun_is : (begun : Bool) (k : ℕ) (s : List ℕ) → (begun || not (is_empty s)) ≡ cond (is_empty (cond (begun || not (is_empty s)) (copies k space ++ s) [])) begun true
begun_is true k s = same_both (is_empty (copies k space ++ s))
begun_is false k [] = refl
begun_is false zero (b ∷ s) = refl
begun_is false (suc k) (b ∷ s) = refl

woven_step : (f : Bool) (m n : ℕ) (begun next t : Bool) (l : List ℕ) (rs : List Row) → next ≡ cond t begun true
    → woven f m begun (suc n) rs ≡ stitched f begun (suc n) (scalar_lines m begun rs) → woven f m true (cond f 0 1) rs ≡ stitched f true (cond f 0 1) (scalar_lines m true rs)
    → cond t (woven f m begun (suc n) rs) (gap (f && begun) n ++ (l ++ woven f m true (cond f 0 1) rs)) ≡ cond t (stitched f begun (suc n) (scalar_lines m next rs)) (gap (f && begun) n ++ (l ++ stitched f true (cond f 0 1) (scalar_lines m next rs)))
woven_step f m n begun next true l rs e skipped taken = skipped ∙ ap (λ b. stitched f begun (suc n) (scalar_lines m b rs)) (sym e)
woven_step f m n begun next false l rs e skipped taken = ap (λ x. gap (f && begun) n ++ (l ++ x)) (taken ∙ ap (λ b. stitched f true (cond f 0 1) (scalar_lines m b rs)) (sym e))

woven_is : (f : Bool) (m : ℕ) (begun : Bool) (n : ℕ) (rs : List Row) → woven f m begun n rs ≡ stitched f begun n (scalar_lines m begun rs)
woven_is f m begun n [] = refl
woven_is f m begun n (r ∷ rs) =
    woven_step f m n begun (begun || not (is_empty r.text)) (is_empty (scalar_line m begun r)) (scalar_line m begun r) rs (begun_is begun (r.indent - m) r.text) (woven_is f m begun (suc n) rs) (woven_is f m true (cond f 0 1) rs)

-- ---- empty lines

none_last : (ls : List (List ℕ)) → are_empty ls ≡ true → without_last ls ≡ []
none_last [] e = refl
none_last (l ∷ ls) e = cond_true (are_empty (l ∷ ls)) [] (l ∷ without_last ls) e

-- ---- folded text

folded_is : (begun : Bool) (n : ℕ) (ls : List (List ℕ)) → stitched true begun n ls ≡ folded_text begun n ls
folded_is begun n [] = refl
folded_is begun n ([] ∷ ls) = folded_is begun (suc n) ls
folded_is begun n ((b ∷ l) ∷ ls) = ap (λ x. gap begun n ++ ((b ∷ l) ++ x)) (folded_is true 0 ls)

folded_none : (begun : Bool) (n : ℕ) (ls : List (List ℕ)) → are_empty ls ≡ true → folded_text begun n ls ≡ []
folded_none begun n [] e = refl
folded_none begun n ([] ∷ ls) e = folded_none begun (suc n) ls e
folded_none begun n ((b ∷ l) ∷ ls) e = absurd (cc)

folded_last : (begun : Bool) (n : ℕ) (ls : List (List ℕ)) → folded_text begun n ls ≡ folded_text begun n (without_last ls)
folded_last begun n [] = refl
folded_last begun n ([] ∷ ls) =
    by_test (are_empty ls) (λ e. folded_none begun (suc n) ls e ∙ sym (ap (folded_text begun n) (none_last ([] ∷ ls) e)))
    (λ e. folded_last begun (suc n) ls ∙ sym (ap (folded_text begun n) (cond_false (are_empty ls) [] ([] ∷ without_last ls) e)))
folded_last begun n ((b ∷ l) ∷ ls) = ap (λ x. gap begun n ++ ((b ∷ l) ++ x)) (folded_last true 0 ls)

-- ---- literal text

literal_more : (l : List ℕ) (ls : List (List ℕ)) → are_empty ls ≡ false → literal_text (l ∷ without_last ls) ≡ l ++ newline ∷ literal_text (without_last ls)
literal_more l [] e = absurd (cc)
literal_more l (k ∷ ks) e =
    let some = cond_false (are_empty (k ∷ ks)) [] (k ∷ without_last ks) e in
    ap (λ x. literal_text (l ∷ x)) some ∙ sym (ap (λ x. l ++ newline ∷ literal_text x) some)

copies_more : (n b : ℕ) (s : List ℕ) → b ∷ (copies n b ++ s) ≡ copies n b ++ b ∷ s
copies_more zero b s = refl
copies_more (suc n) b s = ap (λ t. b ∷ t) (copies_more n b s)

literal_is : (begun : Bool) (n : ℕ) (ls : List (List ℕ)) → stitched false begun n ls ≡ cond (are_empty ls) [] (copies n newline ++ literal_text (without_last ls))
literal_is begun n [] = refl
literal_is begun n ([] ∷ ls) =
    literal_is begun (suc n) ls
    ∙ by_test (are_empty ls) (λ e. cond_true (are_empty ls) [] _ e ∙ sym (cond_true (are_empty ls) [] _ e))
    (λ e. cond_false (are_empty ls) [] _ e ∙ copies_more n newline (literal_text (without_last ls))
    ∙ sym (ap (λ x. copies n newline ++ x) (ap literal_text (cond_false (are_empty ls) [] ([] ∷ without_last ls) e) ∙ literal_more [] ls e))
    ∙ sym (cond_false (are_empty ls) [] (copies n newline ++ literal_text (without_last ([] ∷ ls))) e))
literal_is begun n ((b ∷ l) ∷ ls) =
    ap (λ x. copies n newline ++ ((b ∷ l) ++ x)) (literal_is true 1 ls)
    ∙ by_test (are_empty ls)
    (λ e. ap (λ x. copies n newline ++ ((b ∷ l) ++ x)) (cond_true (are_empty ls) [] _ e) ∙ ap (λ x. copies n newline ++ x) (append-nil (b ∷ l) ∙ sym (ap (λ x. literal_text ((b ∷ l) ∷ x)) (none_last ls e))))
    (λ e. ap (λ x. copies n newline ++ ((b ∷ l) ++ x)) (cond_false (are_empty ls) [] _ e) ∙ ap (λ x. copies n newline ++ x) (sym (literal_more (b ∷ l) ls e)))

-- the loop's text is that of the lines
pub woven_all : (f : Bool) (m : ℕ) (rs : List Row) → woven f m false 0 rs ≡ joined f (scalar_lines m false rs)
woven_all true m rs = woven_is true m false 0 rs ∙ folded_is false 0 (scalar_lines m false rs) ∙ folded_last false 0 (scalar_lines m false rs)
woven_all false m rs =
    let ls = scalar_lines m false rs in
    woven_is false m false 0 rs ∙ literal_is false 0 ls
    ∙ by_test (are_empty ls) (λ e. cond_true (are_empty ls) [] (literal_text (without_last ls)) e ∙ sym (ap literal_text (none_last ls e))) (λ e. cond_false (are_empty ls) [] (literal_text (without_last ls)) e)

-- one copy more
pub one_copy : (s : List ℕ) (n b : ℕ) (t : List ℕ) → 0 < n → t ≡ s ++ b ∷ [] → t ++ copies (n - 1) b ≡ s ++ copies n b
one_copy s zero b t h e = absurd (omega (arith, h))
one_copy s (suc n) b t h e =
    let at : suc n - 1 ≡ n = omega arith in
    (λ i. e i ++ copies (at i) b) ∙ append_assoc s (b ∷ []) (copies n b)
