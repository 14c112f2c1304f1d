-- What nodes want.
use Rattle.std.proofs.Common.{◌≡◌, ℕ, zero, suc, ◌+◌, ◌<◌, List, [], ◌∷◌, ◌++◌, length, Some, refl, sym, ap, ◌∙◌, arith}
use Rattle.std.specs.Prelude.{option_map, slice_get}
use Rattle.wf_ast.specs.Tree.{Program}
use Rattle.wf_frames.specs.Built.{AreTargets}
use Rattle.wf_frames.specs.Kinds.{wanted_at, wants_view}
use Rattle.wf_frames.specs.declared.kinds.Wants.{Wants}
use Rattle.wf_frames.specs.declared.target.Target.{Target}
use Rattle.wf_model.specs.Spots.{Spot}
use Rattle.wf_model.specs.declared.node.Node.{Node}

-- what the first nodes want
abbrev pub Found : List Spot → List Node → List Target → ℕ → List Wants → Type 0
Found ns nodes targets n ws = (p : Program) → AreTargets p.flows ns nodes targets → (i : ℕ) → i < n → option_map wants_view (slice_get ws i) ≡ Some (wanted_at p ns i)

module _ {A B : Type 0} (f : A → B) where
  -- one more
  more : (xs : List A) (x : A) (i : ℕ) (b : B) → (i < length xs → option_map f (slice_get xs i) ≡ Some b) → (i ≡ length xs → f x ≡ b) → i < length xs + 1 → option_map f (slice_get (xs ++ x ∷ []) i) ≡ Some b
  more [] x zero b old new lt = ap Some (new refl)
  more [] x (suc i) b old new lt = absurd (omega arith)
  more (y ∷ xs) x zero b old new lt = old (omega arith)
  more (y ∷ xs) x (suc i) b old new lt = more xs x i b (λ h. old (omega arith)) (λ h. new (ap suc h)) (omega arith)

pub found_next : (ns : List Spot) (nodes : List Node) (targets : List Target) (n : ℕ) (ws vs : List Wants) (w : Wants) → vs ≡ ws ++ w ∷ [] → length ws ≡ n → Found ns nodes targets n ws
    → ((p : Program) → AreTargets p.flows ns nodes targets → wants_view w ≡ wanted_at p ns n) → Found ns nodes targets (n + 1) vs
found_next ns nodes targets n ws vs w is long old new p named i lt =
    ap (λ xs. option_map wants_view (slice_get xs i)) is
    ∙ more wants_view ws w i (wanted_at p ns i) (λ h. old p named i (omega arith)) (λ h. new p named ∙ ap (wanted_at p ns) (sym long ∙ sym h)) (omega arith)
