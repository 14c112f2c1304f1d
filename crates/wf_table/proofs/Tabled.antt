-- A table whose nodes are those of the parts of a program.
use Rattle.std.proofs.Common.{◌≡◌, ℕ, zero, suc, ◌+◌, ◌<◌, ◌≤◌, List, [], ◌∷◌, ◌++◌, length, map, set, slice_get, Option, option_map, Some, ◌⊎◌, inl, inr, refl, sym, ap, ◌∙◌, subst, arith}
use Rattle.std.proofs.lemmas.List.{append-nil, length-map}
use Rattle.std.proofs.lemmas.Option.{slice_get-map, slice_get_within}
use Rattle.wf_ast.specs.Tree.{Flow}
use Rattle.wf_value.specs.HttpUrl.{first_of_two}
use Rattle.wf_table.proofs.Adding.{views_length}
use Rattle.wf_table.proofs.Jumping.{named_at, spot_of}
use Rattle.wf_table.proofs.Lying.{Lies, behind, left, part_is, within}
use Rattle.wf_table.proofs.Sizes.{steps_long}
use Rattle.wf_table.proofs.Sound.{sound}
use Rattle.wf_table.specs.Built.{flow_number}
use Rattle.wf_model.specs.NodeKinds.{View, node_view}
use Rattle.wf_table.specs.Made.{flow_numbers, views_for}
use Rattle.wf_table.specs.Named.{Finds, first_named, number_of, numbers_of, when_named}
use Rattle.wf_model.specs.Spots.{FlowAt, Spot, flow_spots, flows_spots, owners_at, part_name, spots, steps_size}
use Rattle.wf_model.specs.Table.{Describes, EachLeads, NextLeads, Resolves, kind_list, list_at, view_list}
use Rattle.wf_table.specs.declared.names.Names.{Names}
use Rattle.wf_model.specs.declared.node.Jump.{Jump}
use Rattle.wf_model.specs.declared.node.Node.{Node}
use Rattle.wf_value.specs.Pairs.{Text}

pub resolves : (fs : List Flow) (nodes : List Node) → map node_view nodes ≡ views_for 0 (spots fs) → EachLeads (spots fs) nodes → Resolves (spots fs) nodes
resolves fs nodes made leads =
    let long : length nodes ≡ length (spots fs) = sym (length-map nodes node_view) ∙ ap length made ∙ views_length 0 (spots fs) in
    record {
      as_long = long;
      each = λ i x is.
          let s = spot_of nodes (spots fs) i x made is in
          subst (λ (n : ℕ). Describes (spots fs) n i (node_view x)) (sym long)
          (subst (λ (v : View). Describes (spots fs) (length (spots fs)) i v) (sym s.2) (sound fs i s.0 s.1).describes);
      jumps = leads;
    }

flows_from : (views : List View) (ns : List Spot) (x : Text) (fs : List Flow) (n : ℕ) → views ≡ views_for 0 ns → Lies ns n (flows_spots fs n) → first_named views x (flow_numbers fs n) ≡ flow_number x fs n
flows_from views ns x [] n made h = refl
flows_from views ns x (f ∷ fs) n made h =
    let m = n + suc (steps_size f.steps) in
    let own = left ns n (flow_spots f n) (flows_spots fs m) h in
    let named = named_at views ns x n made (within ns n _ _ own) ∙ ap (λ p. when_named x (part_name p) n) (part_is ns n (FlowAt f) [] _ own) in
    let more = flows_from views ns x fs m made (behind ns (flow_spots f n) (flows_spots fs m) n m (ap (λ z. n + suc z) (sym (steps_long f.steps (suc n) (n ∷ [])))) h) in
    λ i. first_of_two (named i) (more i)

pub flows_named : (views : List View) (x : Text) (fs : List Flow) → views ≡ views_for 0 (spots fs) → first_named views x (flow_numbers fs 0) ≡ flow_number x fs 0
flows_named views x fs made = flows_from views (spots fs) x fs 0 made (record { after = []; from = sym (append-nil (spots fs)) })

-- ## One node after another gets its jump
pub same_views : (nodes : List Node) (i : ℕ) (x y : Node) → slice_get nodes i ≡ Some x → node_view y ≡ node_view x → map node_view (set nodes i y) ≡ map node_view nodes
same_views [] i x y is same = refl
same_views (z ∷ nodes) zero x y is same = let e : z ≡ x = cc in ap (λ v. v ∷ map node_view nodes) (same ∙ ap node_view (sym e))
same_views (z ∷ nodes) (suc i) x y is same = ap (λ l. node_view z ∷ l) (same_views nodes i x y is same)

-- what stands at a place behind a write there or at a later place
pub written : (nodes : List Node) (i k : ℕ) (y z : Node) → k < i + 1 → slice_get (set nodes i y) k ≡ Some z → ((k ≡ i) × (y ≡ z)) ⊎ ((k < i) × (slice_get nodes k ≡ Some z))
written [] i k y z h is = absurd (cc)
written (x ∷ nodes) zero zero y z h is = inl (refl, cc)
written (x ∷ nodes) zero (suc k) y z h is = absurd (omega arith)
written (x ∷ nodes) (suc i) zero y z h is = inr (omega arith, is)
written (x ∷ nodes) (suc i) (suc k) y z h is = on (written nodes i k y z (omega arith) is)
  where
    on : ((k ≡ i) × (y ≡ z)) ⊎ ((k < i) × (slice_get nodes k ≡ Some z)) → ((suc k ≡ suc i) × (y ≡ z)) ⊎ ((suc k < suc i) × (slice_get nodes k ≡ Some z))
    on (inl e) = inl (ap suc e.0, e.1)
    on (inr e) = inr (let l : k < i = e.0 in omega arith, e.1)

-- where a node jumps, in any program of these nodes
abbrev pub JumpsTo : List Node → List Names → Node → Option Jump → Type 0
JumpsTo nodes lists node j = (fs : List Flow) (i : ℕ) → map node_view nodes ≡ views_for 0 (spots fs) → length lists ≡ length nodes → Finds (map node_view nodes) lists → slice_get nodes i ≡ Some node
    → NextLeads (spots fs) (map node_view nodes) node.next j (owners_at (spots fs) i)

-- one node's jump more
pub jumps_turn : (fs : List Flow) (first now new : List Node) (n : ℕ) (x y : Node) → slice_get now n ≡ Some x → new ≡ set now n y → y.next ≡ x.next
    → map node_view now ≡ map node_view first → NextLeads (spots fs) (map node_view now) x.next y.jump (owners_at (spots fs) n)
    → ((k : ℕ) (z : Node) → k < n → slice_get now k ≡ Some z → NextLeads (spots fs) (map node_view first) z.next z.jump (owners_at (spots fs) k))
    → (k : ℕ) (z : Node) → k < n + 1 → slice_get new k ≡ Some z → NextLeads (spots fs) (map node_view first) z.next z.jump (owners_at (spots fs) k)
jumps_turn fs first now new n x y is put next same leads before k z below there = by (written now n k y z below (ap (λ l. slice_get l k) (sym put) ∙ there))
  where
    by : ((k ≡ n) × (y ≡ z)) ⊎ ((k < n) × (slice_get now k ≡ Some z)) → NextLeads (spots fs) (map node_view first) z.next z.jump (owners_at (spots fs) k)
    by (inr e) = before k z e.0 e.1
    by (inl e) =
        subst (λ (v : List View). NextLeads (spots fs) v z.next z.jump (owners_at (spots fs) k)) same
        (subst (λ (w : Node). NextLeads (spots fs) (map node_view now) w.next w.jump (owners_at (spots fs) k)) e.1
        (subst (λ (m : ℕ). NextLeads (spots fs) (map node_view now) y.next y.jump (owners_at (spots fs) m)) (sym e.0)
        (subst (λ (o : Option Text). NextLeads (spots fs) (map node_view now) o y.jump (owners_at (spots fs) n)) (sym next) leads)))

-- all of them
pub each_leads : (fs : List Flow) (first now : List Node) (n : ℕ) → length now ≤ n → map node_view now ≡ map node_view first
    → ((k : ℕ) (z : Node) → k < n → slice_get now k ≡ Some z → NextLeads (spots fs) (map node_view first) z.next z.jump (owners_at (spots fs) k)) → EachLeads (spots fs) now
each_leads fs first now n past same h = λ i x is.
    let l : i < length now = slice_get_within now i x is in
    subst (λ (v : List View). NextLeads (spots fs) v x.next x.jump (owners_at (spots fs) i)) (sym same) (h i x (omega arith) is)

-- ## The names of one list after another
at_push : {X : Type 0} (xs : List X) (y z : X) (n : ℕ) → slice_get (xs ++ y ∷ []) n ≡ Some z → (slice_get xs n ≡ Some z) ⊎ ((n ≡ length xs) × (y ≡ z))
at_push [] y z zero is = inr (refl, cc)
at_push [] y z (suc n) is = absurd (cc)
at_push (x ∷ xs) y z zero is = inl is
at_push (x ∷ xs) y z (suc n) is = on (at_push xs y z n is)
  where
    on : (slice_get xs n ≡ Some z) ⊎ ((n ≡ length xs) × (y ≡ z)) → (slice_get xs n ≡ Some z) ⊎ ((suc n ≡ suc (length xs)) × (y ≡ z))
    on (inl e) = inl e
    on (inr e) = inr (ap suc e.0, e.1)

pub finds_turn : (nodes : List Node) (lists more : List Names) (i : ℕ) (node : Node) (names : Names) → length lists ≡ i → slice_get nodes i ≡ Some node → more ≡ lists ++ names ∷ []
    → ((x : Text) → number_of names x ≡ first_named (map node_view nodes) x (numbers_of (kind_list (node_view node).kind)))
    → Finds (map node_view nodes) lists → Finds (map node_view nodes) more
finds_turn nodes lists more i node names long is grown named h = λ n m there x. by n m x (at_push lists names m n (ap (λ l. slice_get l n) (sym grown) ∙ there))
  where
    by : (n : ℕ) (m : Names) (x : Text) → (slice_get lists n ≡ Some m) ⊎ ((n ≡ length lists) × (names ≡ m)) → number_of m x ≡ first_named (map node_view nodes) x (numbers_of (list_at (map node_view nodes) n))
    by n m x (inl e) = h n m e x
    by n m x (inr e) =
        ap (λ s. number_of s x) (sym e.1) ∙ named x
        ∙ ap (λ o. first_named (map node_view nodes) x (numbers_of (view_list o))) (sym (slice_get-map node_view nodes n ∙ ap (λ k. option_map node_view (slice_get nodes k)) (e.0 ∙ long) ∙ ap (option_map node_view) is))
