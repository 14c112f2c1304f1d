-- Edges of lists of steps, arms and branches, one item after another.
use Rattle.std.proofs.Common.{◌≡◌, ℕ, zero, suc, ◌+◌, ◌<◌, ◌≤◌, List, [], ◌∷◌, ◌++◌, length, drop, get_or, map, Option, Some, true, false, arith, refl, sym, ap, subst, ◌∙◌}
use Rattle.std.proofs.lemmas.Bool.{eqb-true, true≢false}
use Rattle.std.specs.Prelude.{◌==◌}
use Rattle.wf_assigned.proofs.Laying.{AddsOn, adds_then, of_these, on_ends, on_next}
use Rattle.wf_assigned.specs.Edges as edges
use Rattle.wf_assigned.specs.Edges.{Edge, Exit, Point, Site, At, EndOf, NoLoop}
use Rattle.wf_assigned.specs.Laid.{Adds}
use Rattle.wf_assigned.specs.declared.edges.Walk.{Walk}
use Rattle.wf_ast.specs.Tree as t
use Rattle.wf_ast.specs.View.{entry_view, step_view, steps_in, steps_view}
use Rattle.wf_ast.specs.declared.body.Step.{Step}
use Rattle.wf_ast.specs.declared.body.StepList.{StepList}
use Rattle.wf_ast.specs.declared.entry.Entry.{Entry}
use Rattle.wf_lemmas.proofs.Lists.{drop_end, item_at}
use Rattle.wf_table.proofs.Forms.{steps_are}
use Rattle.wf_value.specs.Pairs.{Text}

-- one entry more
pub entry_goes : (a : Site) (items : List Entry) (i : ℕ) (x : Entry) (initial now mid new : Walk) (m behind n : ℕ) (to : Point) (names : List Text) (all : List Edge) → i < length items → x ≡ get_or items i x → behind ≡ suc m
    → to ≡ edges.next_entry (map entry_view (drop (i + 1) items)) behind n → names ≡ edges.plain_name (entry_view x)
    → AddsOn initial now all (edges.entries_edges (map entry_view (drop i items)) m n a)
    → Adds now mid (edges.writing a (At m) to names ∷ []) → Adds mid new (edges.failing a (At m))
    → AddsOn initial new all (edges.entries_edges (map entry_view (drop (i + 1) items)) behind n a)
entry_goes a items i x initial now mid new m behind n to names all lt is at leads called k h1 h2 =
    let rest = map entry_view (drop (i + 1) items) in
    let f = edges.failing a (At m) in
    let here : AddsOn initial now all ((edges.writing a (At m) (edges.next_entry rest (suc m) n) (edges.plain_name (entry_view x)) ∷ f) ++ edges.entries_edges rest (suc m) n a) =
    subst (λ l. AddsOn initial now all (edges.entries_edges (map entry_view l) m n a)) (item_at items i x lt is) k in
    let laid = of_these now new (edges.writing a (At m) to names ∷ f) (edges.writing a (At m) (edges.next_entry rest (suc m) n) (edges.plain_name (entry_view x)) ∷ f)
    (λ j. edges.writing a (At m) ((leads ∙ ap (λ z. edges.next_entry rest z n) at) j) (called j) ∷ f) (adds_then now mid new (edges.writing a (At m) to names ∷ []) f h1 h2) in
    subst (λ z. AddsOn initial new all (edges.entries_edges rest z n a)) (sym at) (on_next initial now new all (edges.writing a (At m) (edges.next_entry rest (suc m) n) (edges.plain_name (entry_view x)) ∷ f) (edges.entries_edges rest (suc m) n a) here laid)

-- none is left
pub none_goes : {A : Type 0} (row : List A → List Edge) (items : List A) (i : ℕ) (initial now : Walk) (all : List Edge) → length items ≤ i → row [] ≡ [] → AddsOn initial now all (row (drop i items)) → Adds initial now all
none_goes row items i initial now all past e k = on_ends initial now all (subst (AddsOn initial now all) (ap row (drop_end items i past) ∙ e) k)

-- ## Where an item leads
-- an item is there
pub entry_there : (items : List Entry) (i m n : ℕ) → i < length items → At m ≡ edges.next_entry (map entry_view (drop i items)) m n
entry_there [] i m n l = absurd (omega (arith, l))
entry_there (x ∷ xs) zero m n l = refl
entry_there (x ∷ xs) (suc i) m n l = entry_there xs i m n (omega (arith, l))

pub step_there : (a : Site) (items : List Step) (i n : ℕ) (out : Option Exit) → i < length items → Some (record { point = At n; depth = a.depth }) ≡ edges.first_in a (t.steps (map step_view (drop i items))) n out
step_there a [] i n out l = absurd (omega (arith, l))
step_there a (x ∷ xs) zero n out l = refl
step_there a (x ∷ xs) (suc i) n out l = step_there a xs i n out (omega (arith, l))

-- into a list without steps, and into one with steps
pub enters_none : (list : StepList) (items : List Step) → map step_view items ≡ steps_view list → (length items == 0) ≡ true → (depth : ℕ) (p : Point) (n : ℕ) (xs : List Text) (out : Option Exit) → edges.to_some p out ≡ edges.entering depth p (steps_in list) n xs out
enters_none list items same h depth p n xs out = subst (λ z. edges.to_some p out ≡ edges.entering depth p z n xs out) (steps_are list items same) (by items h)
  where
    by : (ys : List Step) → (length ys == 0) ≡ true → edges.to_some p out ≡ edges.entering depth p (t.steps (map step_view ys)) n xs out
    by [] k = refl
    by (y ∷ ys) k = let e = eqb-true (length (y ∷ ys)) 0 k in absurd (omega (arith, e))

abbrev pub edge_in : ℕ → Point → ℕ → List Text → ℕ → List Edge
edge_in depth p n xs inner = record { from = p; to = At n; keeps = depth; depth = inner; writes = xs } ∷ []

pub enters_some : (list : StepList) (items : List Step) → map step_view items ≡ steps_view list → (length items == 0) ≡ false → (depth inner : ℕ) → inner ≡ suc depth → (p : Point) (n : ℕ) (xs : List Text) (out : Option Exit)
    → edge_in depth p n xs inner ≡ edges.entering depth p (steps_in list) n xs out
enters_some list items same h depth inner e p n xs out = ap (edge_in depth p n xs) e ∙ subst (λ z. edge_in depth p n xs (suc depth) ≡ edges.entering depth p z n xs out) (steps_are list items same) (by items h)
  where
    by : (ys : List Step) → (length ys == 0) ≡ false → edge_in depth p n xs (suc depth) ≡ edges.entering depth p (t.steps (map step_view ys)) n xs out
    by [] k = absurd (true≢false k)
    by (y ∷ ys) k = refl
