-- The loop over the workflows of a map, as the code has it.
use Rattle.std.proofs.Common.{◌≡◌, ℕ, suc, ◌+◌, ◌<◌, ◌≤◌, ◌++◌, true, false, List, [], ◌∷◌, take, take_all, length, get_or, map as mapped, Option, Some, codes, bytes_eq, refl, ap, subst, arith}
use Rattle.wf_ast.specs.Tree as t
use Rattle.wf_syntax_rules.specs.Faults.{AreSound}
use Rattle.wf_syntax_rules.specs.Meaning.{IsFlow, IsProgram}
use Rattle.wf_syntax_rules.specs.Rules.{Flow, Flows}
use Rattle.wf_syntax_words.specs.Fields.{has}
use Rattle.wf_syntax.proofs.Defaults.{plain_order}
use Rattle.wf_syntax.proofs.Mains as mains
use Rattle.wf_syntax.proofs.Mains.{SoFar, flow_fails, main_next, other_next, program_given}
use Rattle.wf_syntax.proofs.Valued.{Entry, item_plain, length_plain, plain_pair}
use Rattle.wf_syntax.specs.Answers.{Fails, IsSoundAnd}
use Rattle.wf_value.specs.Stops.{IsOutside}
use Rattle.wf_syntax_rules.specs.declared.fault.SyntaxKind.{SyntaxKind}
use Rattle.wf_value.specs.declared.stop.Stop.{Stop}
use Rattle.wf_tree.specs.Plain.{plain_tree, plain_pairs}
use Rattle.wf_tree.specs.Trees.{map, pairs_of}
use Rattle.wf_value.specs.Maps.{IsInOrder}
use Rattle.wf_value.specs.declared.path.PathPart.TheVariants.{Key}

within : (ps : List Entry) (i : ℕ) → i < length ps → i < length (plain_pairs ps)
within ps i lt = omega (arith, lt, length_plain plain_pair ps)

pub main_step : (main : Option t.Flow) (rest : List t.Flow) (f : t.Flow) (ps : List Entry) (i : ℕ) (p : Entry) → i < length ps → p ≡ get_or ps i p → IsInOrder ps → SoFar main rest (take i (plain_pairs ps))
    → bytes_eq p.0 (codes "main") ≡ true → IsSoundAnd (Flow p.0) (plain_tree p.1) (IsFlow f p.0 (plain_tree p.1)) → SoFar (Some f) rest (take (i + 1) (plain_pairs ps))
main_step main rest f ps i p lt e order sofar named here =
    let next : suc i ≡ i + 1 = omega arith in
    subst (λ n. SoFar (Some f) rest (take n (plain_pairs ps))) next
    (main_next main rest f (plain_pairs ps) i (plain_pair p) (within ps i lt) (item_plain plain_pair ps i p lt e) (plain_order ps order) sofar named here)

pub other_step : (main : Option t.Flow) (rest : List t.Flow) (f : t.Flow) (ps : List Entry) (i : ℕ) (p : Entry) → i < length ps → p ≡ get_or ps i p → SoFar main rest (take i (plain_pairs ps))
    → bytes_eq p.0 (codes "main") ≡ false → IsSoundAnd (Flow p.0) (plain_tree p.1) (IsFlow f p.0 (plain_tree p.1)) → SoFar main (rest ++ f ∷ []) (take (i + 1) (plain_pairs ps))
other_step main rest f ps i p lt e sofar named here =
    let next : suc i ≡ i + 1 = omega arith in
    subst (λ n. SoFar main (rest ++ f ∷ []) (take n (plain_pairs ps))) next
    (other_next main rest f (plain_pairs ps) i (plain_pair p) (within ps i lt) (item_plain plain_pair ps i p lt e) sofar named here)

pub flow_stops : (fs : List mains.Entry) (ps : List Entry) (i : ℕ) (p : Entry) (s o : Stop SyntaxKind) → plain_pairs ps ≡ fs → i < length ps → p ≡ get_or ps i p → has (codes "main") (pairs_of fs) ≡ true
    → AreSound (mains.flows_of (take i (plain_pairs ps))) → Fails (Flow p.0) (plain_tree p.1) s → IsOutside (Key p.0) s o → Fails Flows (map (pairs_of fs)) o
flow_stops fs ps i p s o seen lt e main sound h out =
    subst (λ l. has (codes "main") (pairs_of l) ≡ true → Fails Flows (map (pairs_of l)) o) seen
    (λ m. flow_fails (plain_pairs ps) i (plain_pair p) s o (within ps i lt) (item_plain plain_pair ps i p lt e) m sound h out) main

all_pairs : (ps : List Entry) (i : ℕ) → length ps ≤ i → take i (plain_pairs ps) ≡ plain_pairs ps
all_pairs ps i le = take_all i (plain_pairs ps) (omega (arith, le, length_plain plain_pair ps))

pub program_is : (fs : List mains.Entry) (ps : List Entry) (i : ℕ) (main : t.Flow) (rest : List t.Flow) (p : t.Program) → plain_pairs ps ≡ fs → length ps ≤ i → has (codes "main") (pairs_of fs) ≡ true
    → SoFar (Some main) rest (take i (plain_pairs ps)) → p.flows ≡ main ∷ rest → IsSoundAnd Flows (map (pairs_of fs)) (IsProgram p (map (pairs_of fs)))
program_is fs ps i main rest p seen le has_main sofar is =
    program_given (pairs_of fs) (plain_pairs ps) main rest p (ap pairs_of seen) has_main (subst (λ l. SoFar (Some main) rest l) (all_pairs ps i le) sofar) is

pub mapped_end : {A B : Type 0} (f : A → B) (xs : List A) (x : A) → mapped f (xs ++ x ∷ []) ≡ mapped f xs ++ f x ∷ []
mapped_end f [] x = refl
mapped_end f (y ∷ xs) x = ap (λ l. f y ∷ l) (mapped_end f xs x)
