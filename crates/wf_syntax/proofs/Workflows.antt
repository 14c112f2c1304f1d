-- Workflows and their parameters.
use Rattle.std.proofs.Common.{◌≡◌, ◌&&◌, Bool, true, false, List, [], ◌∷◌, Option, Some, None, codes, bytes_eq, refl, sym, ap, ◌∙◌, subst}
use Rattle.std.specs.List.{list_all}
use Rattle.std.specs.Prelude.{option_map}
use Rattle.wf_lemmas.proofs.Bools.{or_swapped}
use Rattle.wf_ast.proofs.Views.{steps_level}
use Rattle.wf_ast.specs.Tree as t
use Rattle.wf_ast.specs.View.{steps_in, steps_view}
use Rattle.wf_ast.specs.declared.body.StepList.{StepList}
use Rattle.wf_syntax_rules.specs.Faults.{AreSound}
use Rattle.wf_syntax_rules.specs.Meaning.{AreParams, AreSteps, At, Else, IsFlow, IsLiteral, IsParam, Maybe}
use Rattle.wf_syntax_words.specs.Names.{is_name}
use Rattle.wf_syntax_rules.specs.Rules.{Flow, Literal, Parameter, Parameters, Steps, Sub, at, demand, every, map_fault, own, unless}
use Rattle.wf_syntax_words.specs.Fields.{has, has_only, keys, single_of}
use Rattle.wf_syntax_rules.specs.declared.fault.SyntaxKind.{SyntaxKind}
use Rattle.wf_syntax_rules.specs.declared.fault.SyntaxKind.TheVariants.{MissingField, UnknownField, WrongKind}
use Rattle.wf_value.specs.HttpRequest.{is_among}
use Rattle.wf_syntax.proofs.Nodes.{both_sound, fails_first, fails_part, fails_then, leaf_sound, map_fails, map_sound, own_fails}
use Rattle.wf_syntax.proofs.Targets.{single_is}
use Rattle.wf_syntax.specs.Answers.{Fails, FailsAmong, IsSoundAnd, AreSoundAnd}
use Rattle.wf_value.specs.Stops.{IsHere, IsOutside}
use Rattle.wf_value.specs.declared.stop.Stop.{Stop}
use Rattle.wf_tree.specs.Trees.{Pairs, Tree, map, no_pairs, pair, text}
use Rattle.wf_value.specs.Data.{Data}
use Rattle.wf_value.specs.Pairs.{Text}
use Rattle.wf_value.specs.declared.path.PathPart.TheVariants.{Key}

-- ## Parameters
named : (x : Text) → is_name x ≡ true → demand (is_name x) WrongKind ≡ None
named x h = ap (λ b. demand b WrongKind) h

unnamed : (x : Text) → is_name x ≡ false → demand (is_name x) WrongKind ≡ Some WrongKind
unnamed x h = ap (λ b. demand b WrongKind) h

pub bare_given : (x : Text) (p : t.Param) → is_name x ≡ true → p.name ≡ x → p.default ≡ None → IsSoundAnd Parameter (text x) (IsParam p (text x))
bare_given x p is e none = (leaf_sound Parameter (text x) (named x is) (λ f z. z) refl, λ i. record { name = e i; default = none i })

pub default_fails : (u : Tree) (k : Text) (v : Tree) (inner out : Stop SyntaxKind) → Some (k, v) ≡ single_of u → is_name k ≡ true → Fails Literal v inner → IsOutside (Key k) inner out → Fails Parameter u out
default_fails u k v inner out e is h o =
    map_fails Parameter u (pair k v no_pairs) out (single_is u k v e) (named k is)
    (fails_part (every (λ x. Literal) (pair k v no_pairs)) [] (record { part = Key k; role = Literal; tree = v }) [] inner out refl tt h o)

pub param_given : (u : Tree) (k : Text) (v : Tree) (p : t.Param) (d : Data) → Some (k, v) ≡ single_of u → is_name k ≡ true → IsSoundAnd Literal v (IsLiteral d v) → p.name ≡ k → p.default ≡ Some d → IsSoundAnd Parameter u (IsParam p u)
param_given u k v p d e is h name default =
    (map_sound Parameter u (pair k v no_pairs) (single_is u k v e) (named k is) (λ f z. z) (h.0, tt), subst (λ y. IsParam p y) (sym (single_is u k v e)) (name, (d, default, h.1)))

-- ## Workflows

turned : (a b : Text) (ks : List Text) → list_all (λ k. is_among k (a ∷ b ∷ [])) ks ≡ list_all (λ k. is_among k (b ∷ a ∷ [])) ks
turned a b [] = refl
turned a b (k ∷ ks) = ap (λ x. x && list_all (λ j. is_among j (a ∷ b ∷ [])) ks) (or_swapped (bytes_eq k a) (bytes_eq k b) false) ∙ ap (λ x. is_among k (b ∷ a ∷ []) && x) (turned a b ks)

-- the same, as the code sees it: the fields first
abbrev pub fields_fault : Pairs → Option SyntaxKind
fields_fault fs = map_fault (codes "steps" ∷ []) (codes "params" ∷ []) fs

by_fields : (only some good : Bool) → unless only UnknownField (demand (some && true) MissingField) ≡ None → unless only UnknownField (unless some MissingField (demand good WrongKind)) ≡ demand good WrongKind
by_fields true true good h = refl
by_fields true false good h = let x : ⊥ = cc in absurd x
by_fields false some good h = let x : ⊥ = cc in absurd x

by_fault : (only some good : Bool) (k : SyntaxKind) → Some k ≡ unless only UnknownField (demand (some && true) MissingField) → unless only UnknownField (unless some MissingField (demand good WrongKind)) ≡ Some k
by_fault true true good k h = let x : ⊥ = cc in absurd x
by_fault true false good k h = sym h
by_fault false some good k h = sym h

own_turned : (name : Text) (fs : Pairs) → own (Flow name) (map fs) ≡ unless (has_only (codes "steps" ∷ codes "params" ∷ []) fs) UnknownField (unless (has (codes "steps") fs) MissingField (demand (is_name name) WrongKind))
own_turned name fs = ap (λ b. unless b UnknownField (unless (has (codes "steps") fs) MissingField (demand (is_name name) WrongKind))) (turned (codes "params") (codes "steps") (keys fs))

own_name : (name : Text) (fs : Pairs) → fields_fault fs ≡ None → own (Flow name) (map fs) ≡ demand (is_name name) WrongKind
own_name name fs h = own_turned name fs ∙ by_fields (has_only (codes "steps" ∷ codes "params" ∷ []) fs) (has (codes "steps") fs) (is_name name) h

pub flow_wrong : (name : Text) (x : Tree) (fs : Pairs) (k : SyntaxKind) (out : Stop SyntaxKind) → x ≡ map fs → Some k ≡ fields_fault fs → IsHere k out → Fails (Flow name) x out
flow_wrong name x fs k out e h o =
    subst (λ y. Fails (Flow name) y out) (sym e)
    (own_fails (Flow name) (map fs) k out (own_turned name fs ∙ by_fault (has_only (codes "steps" ∷ codes "params" ∷ []) fs) (has (codes "steps") fs) (is_name name) k h) o)

pub flow_unnamed : (name : Text) (x : Tree) (fs : Pairs) (out : Stop SyntaxKind) → x ≡ map fs → fields_fault fs ≡ None → is_name name ≡ false → IsHere WrongKind out → Fails (Flow name) x out
flow_unnamed name x fs out e none is o =
    subst (λ y. Fails (Flow name) y out) (sym e) (own_fails (Flow name) (map fs) WrongKind out (own_name name fs none ∙ unnamed name is) o)

abbrev pub its_params : Pairs → List Sub
its_params fs = at (codes "params") Parameters fs

abbrev pub its_steps : Pairs → List Sub
its_steps fs = at (codes "steps") Steps fs

pub params_fail : (name : Text) (x : Tree) (fs : Pairs) (out : Stop SyntaxKind) → x ≡ map fs → fields_fault fs ≡ None → is_name name ≡ true → FailsAmong (its_params fs) out → Fails (Flow name) x out
params_fail name x fs out e none is h = map_fails (Flow name) x fs out e (own_name name fs none ∙ named name is) (fails_first (its_params fs) (its_steps fs) out h)

pub steps_fail : (name : Text) (x : Tree) (fs : Pairs) (out : Stop SyntaxKind) → x ≡ map fs → fields_fault fs ≡ None → is_name name ≡ true → AreSound (its_params fs) → FailsAmong (its_steps fs) out → Fails (Flow name) x out
steps_fail name x fs out e none is sound h = map_fails (Flow name) x fs out e (own_name name fs none ∙ named name is) (fails_then (its_params fs) (its_steps fs) out sound h)

pub flow_given : (name : Text) (x : Tree) (fs : Pairs) (f : t.Flow) → x ≡ map fs → fields_fault fs ≡ None → is_name name ≡ true → f.name ≡ name
    → AreSoundAnd (its_params fs) (Else f.params [] (codes "params") fs AreParams) → AreSoundAnd (its_steps fs) (At (codes "steps") fs (AreSteps f.steps)) → IsSoundAnd (Flow name) x (IsFlow f name x)
flow_given name x fs f e none is same params steps =
    subst (λ y. IsSoundAnd (Flow name) y (IsFlow f name y)) (sym e)
    (map_sound (Flow name) (map fs) fs refl (own_name name fs none ∙ named name is) (λ z k. k) (both_sound (its_params fs) (its_steps fs) params.0 steps.0), (same, params.1, steps.1))

-- the steps, as the workflow has them
pub steps_there : (fs : Pairs) (o : Option StepList) (ss : StepList) → o ≡ Some ss → AreSoundAnd (its_steps fs) (Maybe (option_map steps_in o) (codes "steps") fs AreSteps) → AreSoundAnd (its_steps fs) (At (codes "steps") fs (AreSteps (t.steps (steps_view ss))))
steps_there fs o ss e h =
    subst (λ s. AreSoundAnd (its_steps fs) (At (codes "steps") fs (AreSteps s))) (steps_level ss) (subst (λ p. AreSoundAnd (its_steps fs) (Maybe (option_map steps_in p) (codes "steps") fs AreSteps)) e h)
