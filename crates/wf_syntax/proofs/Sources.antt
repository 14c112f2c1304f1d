-- Sources: their programs and their faults.
use Rattle.std.proofs.Common.{◌≡◌, [], ◌∷◌, codes, refl, sym, ap, subst}
use Rattle.wf_ast.specs.Tree as t
use Rattle.wf_syntax_rules.specs.Faults.{rooted}
use Rattle.wf_syntax_rules.specs.Meaning.{AreSteps, IsProgram, OfList}
use Rattle.wf_syntax_rules.specs.Rules.{Flow, Flows, Steps, at, every}
use Rattle.wf_syntax.proofs.Nodes.{fails_part, map_fails, map_sound}
use Rattle.wf_syntax.specs.Answers.{Fails, IsSoundAnd}
use Rattle.wf_value.specs.Stops.{IsOutside}
use Rattle.wf_syntax_rules.specs.declared.fault.SyntaxKind.{SyntaxKind}
use Rattle.wf_value.specs.declared.stop.Stop.{Stop}
use Rattle.wf_tree.specs.Trees.{Items, Tree, list, map, no_pairs, pair}
use Rattle.wf_value.specs.declared.path.PathPart.TheVariants.{Key}

-- ## Steps alone
-- the workflow with these steps, and the map of it
abbrev main_block : Items → Tree
main_block xs = map (pair (codes "steps") (list xs) no_pairs)

pub alone_fails : (xs : Items) (inner middle out : Stop SyntaxKind) → Fails Steps (list xs) inner → IsOutside (Key (codes "steps")) inner middle → IsOutside (Key (codes "main")) middle out → Fails Flows (rooted (list xs)) out
alone_fails xs inner middle out h o p =
    let block = main_block xs in
    let fields = pair (codes "steps") (list xs) no_pairs in
    let below : Fails (Flow (codes "main")) block middle =
    map_fails (Flow (codes "main")) block fields middle refl refl
    (fails_part (at (codes "steps") Steps fields) [] (record { part = Key (codes "steps"); role = Steps; tree = list xs }) [] inner middle refl tt h o) in
    map_fails Flows (rooted (list xs)) (pair (codes "main") block no_pairs) out refl refl
    (fails_part (every Flow (pair (codes "main") block no_pairs)) [] (record { part = Key (codes "main"); role = Flow (codes "main"); tree = block }) [] middle out refl tt below p)

pub alone_given : (x : Tree) (ss : t.Steps) (f : t.Flow) (p : t.Program) → IsSoundAnd Steps x (AreSteps ss x) → f ≡ record { name = codes "main"; params = []; steps = ss } → p.flows ≡ f ∷ []
    → OfList x (λ xs. IsSoundAnd Flows (rooted (list xs)) (IsProgram p (rooted (list xs))))
alone_given (list xs) ss f p h e is =
    let block = main_block xs in
    let fields = pair (codes "steps") (list xs) no_pairs in (
      map_sound Flows (rooted (list xs)) (pair (codes "main") block no_pairs) refl refl (λ z k. k) (map_sound (Flow (codes "main")) block fields refl refl (λ z k. k) (h.0, tt), tt),
      (f, [], is, (block, refl, (ap (λ g. g.name) e, ap (λ g. g.params) e, (list xs, refl, subst (λ s. AreSteps s (list xs)) (sym (ap (λ g. g.steps) e)) h.1))), tt),
    )
alone_given x ss f p h e is = absurd h.1
