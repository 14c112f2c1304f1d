-- Worked examples: sources, each with its first fault and its place.
use Rattle.std.specs.Prelude.{pos, List, [], ◌∷◌, codes}
use Rattle.wf_syntax_rules.specs.Faults.{IsFirstFault}
use Rattle.wf_syntax_rules.specs.declared.fault.SyntaxKind.TheVariants.{NotAStep, UnknownField, MissingField, WrongKind}
use Rattle.wf_tree.specs.Trees.{Tree, null, integer, decimal, text, list, map, items_of, pairs_of}
use Rattle.wf_value.specs.Pairs.{Text}
use Rattle.wf_value.specs.declared.path.PathPart.{PathPart}
use Rattle.wf_value.specs.declared.path.PathPart.TheVariants.{Key, Index}

-- ## Trees and paths in short
abbrev pub all : List Tree → Tree
all xs = list (items_of xs)

abbrev pub one : Text → Tree → Tree
one k x = map (pairs_of ((k, x) ∷ []))

abbrev pub two : Text → Tree → Text → Tree → Tree
two k x j y = map (pairs_of ((k, x) ∷ (j, y) ∷ []))

-- a source of one step `a` that does this
abbrev pub source : Tree → Tree
source x = all (one (codes "a") x ∷ [])

abbrev pub steps : List PathPart → List PathPart
steps ps = Key (codes "main") ∷ Key (codes "steps") ∷ ps

abbrev pub in_step : List PathPart → List PathPart
in_step ps = steps (Index 0 ∷ Key (codes "a") ∷ ps)

-- ## The examples
pub record WorkedFaults : Type 0 where
  -- no content is null, which is neither a list nor a map
  pub empty : IsFirstFault null WrongKind []
  pub no_main : IsFirstFault (one (codes "f") null) MissingField []
  pub no_steps : IsFirstFault (one (codes "main") (map (pairs_of []))) MissingField (Key (codes "main") ∷ [])
  pub unknown_in_flow : IsFirstFault (one (codes "main") (two (codes "args") null (codes "steps") (all []))) UnknownField (Key (codes "main") ∷ [])
  -- a workflow's name is looked at behind its fields, and the workflows in the order of their names
  pub name_of_flow : IsFirstFault (two (codes "f-g") (one (codes "steps") (all [])) (codes "main") null) WrongKind (Key (codes "f-g") ∷ [])
  pub number_for_a_step : IsFirstFault (all (integer (pos 5) ∷ [])) NotAStep (steps (Index 0 ∷ []))
  pub two_keys : IsFirstFault (all (two (codes "a") null (codes "b") null ∷ [])) NotAStep (steps (Index 0 ∷ []))
  pub end_for_a_name : IsFirstFault (all (one (codes "end") null ∷ [])) NotAStep (steps (Index 0 ∷ []))
  pub null_for_a_body : IsFirstFault (source null) WrongKind (in_step [])
  pub no_body : IsFirstFault (source (map (pairs_of []))) MissingField (in_step [])
  pub next_beside_return : IsFirstFault (source (two (codes "next") (text (codes "a")) (codes "return") null)) UnknownField (in_step [])
  pub two_forms : IsFirstFault (source (two (codes "assign") (all []) (codes "switch") (all []))) UnknownField (in_step [])
  pub args_alone : IsFirstFault (source (one (codes "args") null)) UnknownField (in_step [])
  pub result_of_a_number : IsFirstFault (source (two (codes "call") (integer (pos 5)) (codes "result") (integer (pos 5)))) WrongKind (in_step (Key (codes "call") ∷ []))
  pub decimal_in_a_value : IsFirstFault (source (one (codes "return") (all (decimal (codes "1.5") ∷ [])))) WrongKind (in_step (Key (codes "return") ∷ Index 0 ∷ []))
  pub arm_without_condition : IsFirstFault (source (one (codes "switch") (all (one (codes "next") (text (codes "a")) ∷ [])))) MissingField (in_step (Key (codes "switch") ∷ Index 0 ∷ []))
  pub two_ranges : IsFirstFault (source (one (codes "for") (two (codes "in") null (codes "range") null))) UnknownField (in_step (Key (codes "for") ∷ []))
  pub loop_over_nothing : IsFirstFault (source (one (codes "for") (two (codes "steps") (all []) (codes "value") (text (codes "v"))))) MissingField (in_step (Key (codes "for") ∷ []))
  pub no_branches : IsFirstFault (source (one (codes "parallel") (map (pairs_of [])))) MissingField (in_step (Key (codes "parallel") ∷ []))
  pub limit_of_none : IsFirstFault (source (one (codes "parallel") (two (codes "concurrency_limit") (integer (pos 0)) (codes "for") null))) WrongKind (in_step (Key (codes "parallel") ∷ Key (codes "concurrency_limit") ∷ []))
  pub branch_without_a_name : IsFirstFault (source (one (codes "parallel") (one (codes "branches") (all (null ∷ []))))) NotAStep (in_step (Key (codes "parallel") ∷ Key (codes "branches") ∷ Index 0 ∷ []))
  pub empty_try : IsFirstFault (source (one (codes "try") (map (pairs_of [])))) MissingField (in_step (Key (codes "try") ∷ []))
  pub next_in_a_try : IsFirstFault (source (one (codes "try") (two (codes "next") (text (codes "a")) (codes "steps") (all [])))) UnknownField (in_step (Key (codes "try") ∷ []))
  pub except_before_try : IsFirstFault (source (two (codes "except") null (codes "try") null)) WrongKind (in_step (Key (codes "except") ∷ []))
  pub marked_with_a_blank : IsFirstFault (source (two (codes "retry") (text (codes "${ http.default_retry }")) (codes "try") null)) WrongKind (in_step (Key (codes "retry") ∷ []))
  pub delay_past_a_year : IsFirstFault (source (two (codes "retry") (one (codes "backoff") (one (codes "max_delay") (decimal (codes "31536000.001")))) (codes "try") null)) WrongKind (in_step (Key (codes "retry") ∷ Key (codes "backoff") ∷ Key (codes "max_delay") ∷ []))
