-- What it is that nothing is said of a program.
use Rattle.std.proofs.Common.{◌≡◌, ℕ, suc, ◌&&◌, List, [], ◌∷◌, Option, Some, None, IsTrue, is_none, option_map, refl, sym, subst}
use Rattle.std.specs.List.{list_all}
use Rattle.std.proofs.lemmas.Bool.{and_parts}
use Rattle.wf_ast.specs.Accept.{Accept, Fault, after_part, fault, first_among, first_fault, small_backoff}
use Rattle.wf_ast.specs.Nodes.{Node, nodes}
use Rattle.wf_ast.specs.Tree.{Flow, Program}
use Rattle.wf_diagnostics.proofs.Told.{no_fault}
use Rattle.wf_check_expressions.specs.Forms.{not_yet}
use Rattle.wf_diagnostics.specs.Said.{Said, as_said}
use Rattle.wf_check.specs.Said.{first_said, is_accepted, node_built, program_built, said, said_among, said_of}
use Rattle.wf_diagnostics.specs.declared.kind.CheckKind.TheVariants as kinds
use Rattle.wf_value.specs.HttpUrl.{first_of_two}
use Rattle.wf_value.specs.Pairs.{Text}

none_of_both : (o p : Option Said) → first_of_two o p ≡ None → (o ≡ None) × (p ≡ None)
none_of_both None p h = (refl, h)
none_of_both (Some x) p h = let no : ⊥ = cc in absurd no

no_rule : (o : Option Fault) → option_map said_of o ≡ None → o ≡ None
no_rule None h = refl
no_rule (Some f) h = let no : ⊥ = cc in absurd no

-- no rule speaks at the nodes
rules_silent : (fs : List Flow) (n : ℕ) (e : List Text) (vs : List Node) → said_among fs n e vs ≡ None → first_among fs n e vs ≡ None
rules_silent fs n e [] h = refl
rules_silent fs n e (v ∷ vs) h =
    let both = none_of_both (said fs n e v) (said_among fs (suc n) (after_part v.part e) vs) h in
    let here = none_of_both (option_map said_of (fault fs n e v)) (as_said kinds.NotYet (not_yet fs v.part v.path)) both.0 in
    λ i. first_of_two (no_rule (fault fs n e v) here.0 i) (rules_silent fs (suc n) (after_part v.part e) vs both.1 i)

-- no node uses a form of the table
forms_built : (fs : List Flow) (n : ℕ) (e : List Text) (vs : List Node) → said_among fs n e vs ≡ None → IsTrue (list_all (node_built fs) vs)
forms_built fs n e [] h = refl
forms_built fs n e (v ∷ vs) h =
    let both = none_of_both (said fs n e v) (said_among fs (suc n) (after_part v.part e) vs) h in
    let here = none_of_both (option_map said_of (fault fs n e v)) (as_said kinds.NotYet (not_yet fs v.part v.path)) both.0 in
    subst (λ o. IsTrue (is_none o && list_all (node_built fs) vs)) (sym (no_fault kinds.NotYet (not_yet fs v.part v.path) here.1)) (forms_built fs (suc n) (after_part v.part e) vs both.1)

none_there : (o : Option Said) → IsTrue (is_none o) → o ≡ None
none_there None h = refl
none_there (Some x) h = let no : ⊥ = cc in absurd no

-- nothing is said
pub accepted_when : (p : Program) → first_said p ≡ None → IsTrue (list_all small_backoff (nodes p.flows)) → IsTrue (is_accepted p)
accepted_when p none small = subst (λ o. IsTrue (is_none o && list_all small_backoff (nodes p.flows))) (sym none) small

-- nothing is said of it
pub silent : (p : Program) → IsTrue (is_accepted p) → first_said p ≡ None
silent p h = none_there (first_said p) (and_parts (is_none (first_said p)) (list_all small_backoff (nodes p.flows)) h).0

pub accept_of : (p : Program) → IsTrue (is_accepted p) → Accept p
unfolding first_fault
accept_of p h = (rules_silent p.flows 0 [] (nodes p.flows) (silent p h), (and_parts (is_none (first_said p)) (list_all small_backoff (nodes p.flows)) h).1)

pub built_of : (p : Program) → IsTrue (is_accepted p) → IsTrue (program_built p)
built_of p h = forms_built p.flows 0 [] (nodes p.flows) (silent p h)
