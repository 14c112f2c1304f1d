-- What the calls of a checked program lead to.
--     calls_lead     each names what may be called
use Rattle.std.proofs.Common.{◌≡◌, ℕ, zero, suc, Bool, codes, true, false, not, ◌&&◌, ◌||◌, List, [], ◌∷◌, Option, Some, None, IsTrue, is_none, is_some, map, option_map, slice_get, refl, sym, ap, ◌∙◌, subst}
use Rattle.std.proofs.lemmas.Bool.{and_parts}
use Rattle.std.proofs.lemmas.List.Folds.{list_all-map}
use Rattle.std.proofs.lemmas.Option.{slice_get-map}
use Rattle.std.specs.List.{list_all}
use Rattle.std.specs.Prelude.{if◌then◌else◌}
use Rattle.wf_ast.specs.Accept.{after_part, call_of, no_flow, predicate_of, rule_call}
use Rattle.wf_ast.specs.Blocks.{at_if, first}
use Rattle.wf_ast.specs.Flows.{flow}
use Rattle.wf_ast.specs.Func.{Listing, SpecialListing, func_named, special_named}
use Rattle.wf_ast.specs.Nodes.{Around, Node, NodePart, Path, below, node, nodes, part_body}
use Rattle.wf_ast.specs.Tree as tree
use Rattle.wf_ast.specs.Tree.{Body, Flow, FlowNamed, Program}
use Rattle.wf_ast.specs.View.{policy_option_view, predicate_view}
use Rattle.wf_ast.specs.declared.policy.Policy.{Policy}
use Rattle.wf_ast.specs.declared.policy.Predicate.{Predicate}
use Rattle.wf_ast.specs.declared.policy.Predicate.TheVariants as predicate
use Rattle.wf_check.proofs.Accepted.{silent}
use Rattle.wf_check.proofs.Bodies.{node_body, same_bodies, spot_body}
use Rattle.wf_check.proofs.Chain.{all_said, told}
use Rattle.wf_check.specs.Callable.{CallsLead, is_body_callable, is_call_callable, is_callable}
use Rattle.wf_check.specs.Said.{first_said, is_accepted, said, said_among}
use Rattle.wf_check_expressions.specs.Forms.{form, form_key, is_built, not_yet, uncalled}
use Rattle.wf_diagnostics.specs.Said.{Said, as_said}
use Rattle.wf_diagnostics.specs.declared.kind.CheckKind.{CheckKind}
use Rattle.wf_diagnostics.specs.declared.kind.CheckKind.TheVariants as kinds
use Rattle.wf_model.specs.NodeKinds.{handler_view, kind_by}
use Rattle.wf_model.specs.Spots as spots
use Rattle.wf_model.specs.Spots.{Spot, part_at, spot_part}
use Rattle.wf_model.specs.Table.{Resolves, except_of, part_by}
use Rattle.wf_model.specs.declared.node.CallNode.{CallNode}
use Rattle.wf_model.specs.declared.node.Node as model
use Rattle.wf_model.specs.declared.node.NodeKind.{NodeKind}
use Rattle.wf_model.specs.declared.node.NodeKind.TheVariants as kind
use Rattle.wf_model.specs.declared.node.TryNode.{TryNode}
use Rattle.wf_value.specs.HttpUrl.{first_of_two}
use Rattle.wf_value.specs.Pairs.{Text}

-- ## At a node
-- where none speaks first, none speaks
none_at : (os : List (Option Said)) (i : ℕ) (o : Option Said) → slice_get os i ≡ Some o → first os ≡ None → o ≡ None
none_at [] i o is none = absurd (cc is)
none_at (Some x ∷ os) i o is none = absurd (cc none)
none_at (None ∷ os) zero o is none = sym (ap (λ (p : Option (Option Said)). elim p [ None ↦ None | Some q ↦ q ]) is)
none_at (None ∷ os) (suc i) o is none = none_at os i o is none

none_said : (k : CheckKind) (o : Option Path) → as_said k o ≡ None → o ≡ None
none_said k None is = refl
none_said k (Some p) is = absurd (cc is)

not_at : (b : Bool) (path : Path) → at_if b path ≡ None → b ≡ false
not_at true path is = absurd (cc is)
not_at false path is = refl

second_of : (o p : Option Path) → first (o ∷ p ∷ []) ≡ None → p ≡ None
second_of None None is = refl
second_of None (Some x) is = absurd (cc is)
second_of (Some x) p is = absurd (cc is)

abbrev uncalled_by : Option Flow → Option Listing → Option SpecialListing → Option Text
uncalled_by o e g = elim o [ None ↦ uncalled e g | Some w ↦ None ]

by_name : (o : Option Flow) (e : Option Listing) (g : Option SpecialListing) → uncalled_by o e g ≡ None → IsTrue (is_some o || (is_some e || is_built g))
by_name (Some w) e g is = cc
by_name None (Some l) g is = cc
by_name None None g is = built (is_built g) refl
  where
    built : (b : Bool) → is_built g ≡ b → IsTrue (is_built g)
    built true it = subst IsTrue (sym it) cc
    built false it = absurd (let some = sym (ap (λ b. if b then None else Some (codes "call")) it) ∙ is in cc some)

abbrev placed : Path → Option Text → Option Path
placed path None = None
placed path (Some k) = Some (below path k)

no_key : (path : Path) (o : Option Text) → placed path o ≡ None → o ≡ None
no_key path None it = refl
no_key path (Some k) it = absurd (cc it)

called : (fs : List Flow) (body : Body) (path : Path) (part : NodePart) → part_body part ≡ body → not_yet fs part path ≡ None → IsTrue (is_call_callable fs (call_of body))
called fs (Body.Call f) path part is none = by_name (flow fs f.name) (func_named f.name) (special_named f.name) (no_key path (form_key fs (Body.Call f)) (ap (λ b. form fs b path) (sym is) ∙ none))
called fs Body.Nothing path part is none = cc
called fs (Body.Assign es) path part is none = cc
called fs (Body.Switch arms) path part is none = cc
called fs (Body.For l) path part is none = cc
called fs (Body.Parallel p) path part is none = cc
called fs (Body.Block ss) path part is none = cc
called fs (Body.Try t) path part is none = cc
called fs (Body.Raise t) path part is none = cc
called fs (Body.Return t) path part is none = cc

and_true : (a b : Bool) → a ≡ true → b ≡ false → IsTrue (a && not b)
and_true true false holds fails = refl
and_true true true holds fails = absurd (cc fails)
and_true false b holds fails = absurd (cc holds)

-- nothing is said of it, so it calls what may be called
callable_at : (fs : List Flow) (n : ℕ) (earlier : List Text) (part : NodePart) (a : Around) (path : Path) → said fs n earlier (node part a path) ≡ None → IsTrue (is_body_callable fs (part_body part))
callable_at fs n earlier part a path is =
    let all : first (all_said fs n earlier part a path) ≡ None = told fs n earlier part a path ∙ is in
    let call = none_said kinds.UnknownCall (rule_call fs part path) (none_at (all_said fs n earlier part a path) 9 (as_said kinds.UnknownCall (rule_call fs part path)) refl all) in
    let form = none_said kinds.NotYet (not_yet fs part path) (none_at (all_said fs n earlier part a path) 12 (as_said kinds.NotYet (not_yet fs part path)) refl all) in
    and_true (is_call_callable fs (call_of (part_body part))) (no_flow fs (predicate_of (part_body part)))
    (called fs (part_body part) path part refl form)
    (not_at (no_flow fs (predicate_of (part_body part))) (below (below path (codes "retry")) (codes "predicate")) (second_of _ _ call))

-- ## At all
none_of_both : (o p : Option Said) → first_of_two o p ≡ None → (o ≡ None) × (p ≡ None)
none_of_both None p is = (refl, is)
none_of_both (Some x) p is = absurd (cc is)

all_callable : (fs : List Flow) (n : ℕ) (earlier : List Text) (vs : List Node) → said_among fs n earlier vs ≡ None → list_all (λ v. is_body_callable fs (node_body v)) vs ≡ true
all_callable fs n earlier [] is = refl
all_callable fs n earlier (v ∷ vs) is =
    let both = none_of_both (said fs n earlier v) (said_among fs (suc n) (after_part v.part earlier) vs) is in
    (λ j. callable_at fs n earlier v.part v.around v.path both.0 j && all_callable fs (suc n) (after_part v.part earlier) vs both.1 j)

at_number : (p : Body → Bool) (bodies : List Body) → list_all p bodies ≡ true → (i : ℕ) (b : Body) → slice_get bodies i ≡ Some b → p b ≡ true
at_number p [] all i b is = absurd (cc is)
at_number p (x ∷ xs) all zero b is = ap (λ (o : Option Body). elim o [ None ↦ true | Some y ↦ p y ]) (sym is) ∙ (and_parts (p x) (list_all p xs) all).0
at_number p (x ∷ xs) all (suc i) b is = at_number p xs (and_parts (p x) (list_all p xs) all).1 i b is

-- what a policy asks
abbrev asks_of : tree.Predicate → Option Text
asks_of q = elim q [ FlowNamed f ↦ Some f | other ↦ None ]

abbrev asks_in : Body → tree.Except → Option tree.Policy → Option Text
asks_in body x o = predicate_of (Body.Try (tree.try body o x))

-- ## By number
module _ (p : Program) (accepted : IsTrue (is_accepted p)) where
  every : list_all (is_body_callable p.flows) (map spot_body (spots.spots p.flows)) ≡ true
  every =
      ap (list_all (is_body_callable p.flows)) (same_bodies p.flows)
      ∙ list_all-map (is_body_callable p.flows) node_body (nodes p.flows)
      ∙ all_callable p.flows 0 [] (nodes p.flows) (silent p accepted)

  at_part : (i : ℕ) → is_body_callable p.flows (spots.part_body (part_at (spots.spots p.flows) i)) ≡ true
  at_part i = by (slice_get (spots.spots p.flows) i) refl
    where
      by : (o : Option Spot) → slice_get (spots.spots p.flows) i ≡ o → is_body_callable p.flows (spots.part_body (part_at (spots.spots p.flows) i)) ≡ true
      by None is = ap (λ o. is_body_callable p.flows (spots.part_body (spot_part o))) is
      by (Some s) is =
          ap (λ o. is_body_callable p.flows (spots.part_body (spot_part o))) is
          ∙ at_number (is_body_callable p.flows) (map spot_body (spots.spots p.flows)) every i (spot_body s) (slice_get-map spot_body (spots.spots p.flows) i ∙ ap (option_map spot_body) is)

  module _ (table : List model.Node) (told : Resolves (spots.spots p.flows) table) where
    -- at a node of this kind
    at_node : (i : ℕ) (x : model.Node) (k : NodeKind) → slice_get table i ≡ Some x → x.kind ≡ k
        → is_body_callable p.flows (spots.part_body (part_by (spots.spots p.flows) x.name x.next (kind_by x.codes.items.items k))) ≡ true
    at_node i x k at is =
        ap (λ c. is_body_callable p.flows (spots.part_body (part_by (spots.spots p.flows) x.name x.next (kind_by x.codes.items.items c)))) (sym is)
        ∙ ap (λ q. is_body_callable p.flows (spots.part_body q)) (sym (told.each i x at).part)
        ∙ at_part i

    asked : (body : Body) (x : tree.Except) (t : TryNode) (q : Policy) (f : Text) → t.policy ≡ Some q → q.predicate ≡ predicate.Flow f → not (no_flow p.flows (asks_in body x (policy_option_view t.policy))) ≡ true → is_some (flow p.flows f) ≡ true
    asked body x t q f has names allowed =
        there (flow p.flows f)
        (ap (λ (w : Predicate). not (no_flow p.flows (asks_of (predicate_view w)))) (sym names) ∙ ap (λ o. not (no_flow p.flows (asks_in body x (policy_option_view o)))) (sym has) ∙ allowed)
      where
        there : (o : Option Flow) → not (is_none o) ≡ true → is_some o ≡ true
        there None none = none
        there (Some w) some = refl

    pub calls_lead : CallsLead p.flows table
    calls_lead = record {
      calls = λ i x f at is. (and_parts (is_callable p.flows f.name) true (at_node i x (kind.Call f) at is)).0;
      asks = λ i x t q f at is has names. asked (spots.part_body (part_at (spots.spots p.flows) t.body)) (except_of (spots.spots p.flows) (handler_view t.except)) t q f has names (and_parts true _ (at_node i x (kind.Try t) at is)).1;
    }
