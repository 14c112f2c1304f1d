-- Targets.
use Rattle.std.proofs.Common.{◌≡◌, [], ◌∷◌, Option, Some, None, refl, sym, ap, subst}
use Rattle.wf_ast.specs.Tree as t
use Rattle.wf_expr.specs.Targets.{IsTarget, NotTargetAndRefused}
use Rattle.wf_syntax_rules.specs.Faults.{IsSound}
use Rattle.wf_syntax_rules.specs.Rules.{Entry, Target, Value, parts}
use Rattle.wf_syntax_words.specs.Fields.{single_of}
use Rattle.wf_syntax_rules.specs.Meaning.{IsEntry, IsValue}
use Rattle.wf_syntax.proofs.Nodes.{fails_part, leaf_sound, map_fails, map_sound}
use Rattle.wf_syntax.specs.Answers.{Fails, IsSoundAnd}
use Rattle.wf_value.specs.Stops.{IsOutside}
use Rattle.wf_syntax_rules.specs.declared.fault.SyntaxKind.{SyntaxKind}
use Rattle.wf_value.specs.declared.stop.Stop.{Stop}
use Rattle.wf_tree.specs.Trees.{Tree, text, map, pair, no_pairs}
use Rattle.wf_value.specs.declared.path.PathPart.TheVariants.{Key}
use Rattle.wf_value.specs.Pairs.{Text}

pub target_sound : NotTargetAndRefused → (key : Text) (x : t.Target) → IsTarget key x → IsSound Target (text key)
target_sound apart key x h = leaf_sound Target (text key) refl (λ f k. apart key x f h k.1 k.0) refl

-- ## Assignments
pub single_is : (x : Tree) (k : Text) (v : Tree) → Some (k, v) ≡ single_of x → x ≡ map (pair k v no_pairs)
single_is (map (pair j y no_pairs)) k v e = ap (λ o. map (pair (the o).0 (the o).1 no_pairs)) (sym e)
  where
    the : Option (Text × Tree) → Text × Tree
    the (Some p) = p
    the None = (j, y)
single_is x k v e = let z : ⊥ = cc in absurd z

pub entry_target_fails : (x : Tree) (k : Text) (v : Tree) (inner out : Stop SyntaxKind) → Some (k, v) ≡ single_of x → Fails Target (text k) inner → IsOutside (Key k) inner out → Fails Entry x out
entry_target_fails x k v inner out e h o =
    map_fails Entry x (pair k v no_pairs) out (single_is x k v e) refl
    (fails_part (parts Entry (map (pair k v no_pairs))) [] (record { part = Key k; role = Target; tree = text k }) (record { part = Key k; role = Value; tree = v } ∷ []) inner out refl tt h o)

pub entry_value_fails : (x : Tree) (k : Text) (v : Tree) (inner out : Stop SyntaxKind) → Some (k, v) ≡ single_of x → IsSound Target (text k) → Fails Value v inner → IsOutside (Key k) inner out → Fails Entry x out
entry_value_fails x k v inner out e sound h o =
    map_fails Entry x (pair k v no_pairs) out (single_is x k v e) refl
    (fails_part (parts Entry (map (pair k v no_pairs))) (record { part = Key k; role = Target; tree = text k } ∷ []) (record { part = Key k; role = Value; tree = v }) [] inner out refl (sound, tt) h o)

pub entry_given : (x : Tree) (k : Text) (v : Tree) (e : t.Entry) → Some (k, v) ≡ single_of x → IsSoundAnd Target (text k) (IsTarget k e.target) → IsSoundAnd Value v (IsValue e.value v) → IsSoundAnd Entry x (IsEntry e x)
entry_given x k v e s g h =
    (map_sound Entry x (pair k v no_pairs) (single_is x k v s) refl (λ f z. z) (g.0, (h.0, tt)), subst (λ y. IsEntry e y) (sym (single_is x k v s)) (g.1, h.1))
