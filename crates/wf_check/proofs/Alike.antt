-- In surroundings with the same names the rules say the same.
use Rattle.std.proofs.Common.{◌≡◌, ℕ, suc, true, not, ◌&&◌, ◌||◌, List, [], ◌∷◌, Option, Some, None, codes, bytes_eq, if◌then◌else◌, option_map, refl, ap}
use Rattle.wf_ast.specs.Accept.{Kind, as_fault, fault, first_unseen, is_visible, may_cross, may_write, result_of_call, call_of, rule_argument, rule_call, rule_many, rule_write, rules, shared_in, unknown_shared, write_fault}
use Rattle.wf_ast.specs.Blocks.{at_if, first, is_return, is_word, outside_loop, rule_double, rule_empty, rule_next}
use Rattle.wf_ast.specs.Nodes.{Around, Names, NodePart, FlowPart, StepPart, ArmPart, BodyPart, EntryPart, BranchPart, Path, below, node, nth, part_body}
use Rattle.wf_ast.specs.Reads.{part_reads}
use Rattle.wf_ast.specs.Tree.{Flow}
use Rattle.wf_check_expressions.specs.Forms.{not_yet}
use Rattle.wf_diagnostics.specs.Said.{as_said}
use Rattle.wf_check.specs.Said.{said, said_of}
use Rattle.wf_diagnostics.specs.declared.kind.CheckKind.TheVariants as kinds
use Rattle.wf_value.specs.HttpUrl.{first_of_two}
use Rattle.wf_symbols.specs.Around.{Alike, AlikeLayers, SameNames, SameShared}
use Rattle.wf_value.specs.Pairs.{Text}

pub visible_alike : (ls ms : List Names) → AlikeLayers ls ms → (x : Text) → is_visible x ls ≡ is_visible x ms
visible_alike [] [] h x = refl
visible_alike [] (m ∷ ms) h x = absurd h
visible_alike (l ∷ ls) [] h x = absurd h
visible_alike (l ∷ ls) (m ∷ ms) h x = λ i. (h.0.binds x i || h.0.assigns x i) || visible_alike ls ms h.1 x i

cross_alike : (ls ms : List Names) → AlikeLayers ls ms → (x : Text) (o p : Option (List Text)) → SameShared o p → may_cross x o ls ≡ may_cross x p ms
cross_alike ls ms h x None None e = refl
cross_alike ls ms h x (Some xs) None e = absurd e
cross_alike ls ms h x None (Some ys) e = absurd e
cross_alike ls ms h x (Some xs) (Some ys) e = λ i. not (visible_alike ls ms h x i) || e x i

pub writes_alike : (ls ms : List Names) → AlikeLayers ls ms → (x : Text) → may_write x ls ≡ may_write x ms
writes_alike [] [] h x = refl
writes_alike [] (m ∷ ms) h x = absurd h
writes_alike (l ∷ ls) [] h x = absurd h
writes_alike (l ∷ ls) (m ∷ ms) h x = λ i. if h.0.binds x i then true else (cross_alike ls ms h.1 x l.shared m.shared h.0.shared i && writes_alike ls ms h.1 x i)

double_alike : (e f : List Text) → SameNames e f → (part : NodePart) (path : Path) → rule_double e part path ≡ rule_double f part path
double_alike e f h (StepPart x body next) path = λ i. at_if (h x i) path
double_alike e f h (FlowPart g) path = refl
double_alike e f h (ArmPart t next) path = refl
double_alike e f h (BodyPart body) path = refl
double_alike e f h (EntryPart en) path = refl
double_alike e f h (BranchPart before x ss) path = refl

write_fault_alike : (a b : Around) → Alike a b → (o : Option Text) (path : Path) → write_fault a o path ≡ write_fault b o path
write_fault_alike a b h None path = refl
write_fault_alike a b h (Some x) path = λ i. at_if (not (writes_alike a.layers b.layers h.layers x i)) path

write_alike : (a b : Around) → Alike a b → (part : NodePart) (path : Path) → rule_write a part path ≡ rule_write b part path
write_alike a b h (EntryPart e) path = write_fault_alike a b h (Some e.target.name) path
write_alike a b h (FlowPart f) path = refl
write_alike a b h (StepPart x body next) path = write_fault_alike a b h (result_of_call (call_of body)) (below path (codes "result"))
write_alike a b h (ArmPart t next) path = refl
write_alike a b h (BodyPart body) path = write_fault_alike a b h (result_of_call (call_of body)) (below path (codes "result"))
write_alike a b h (BranchPart before x ss) path = refl

shared_alike : (ls ms : List Names) → AlikeLayers ls ms → (xs : List Text) (path : Path) (i : ℕ) → unknown_shared ls xs path i ≡ unknown_shared ms xs path i
shared_alike ls ms h [] path i = refl
shared_alike ls ms h (x ∷ xs) path i = λ j. if visible_alike ls ms h x j then shared_alike ls ms h xs path (suc i) j else Some (nth path i)

pub unseen_alike : (ls ms : List Names) → AlikeLayers ls ms → (rs : List (Path × Text)) → first_unseen ls rs ≡ first_unseen ms rs
unseen_alike ls ms h [] = refl
unseen_alike ls ms h (r ∷ rs) = λ j. if visible_alike ls ms h r.1 j then unseen_alike ls ms h rs j else Some r.0

pub fault_alike : (fs : List Flow) (n : ℕ) (e f : List Text) (part : NodePart) (a b : Around) (path : Path) → SameNames e f → Alike a b → fault fs n e (node part a path) ≡ fault fs n f (node part b path)
unfolding fault rules
fault_alike fs n e f part a b path s h = λ i. first (
    as_fault Kind.EmptySteps (rule_empty part path)
    ∷ as_fault Kind.DoubleStep (double_alike e f s part path i)
    ∷ as_fault Kind.UnknownStep (rule_next (λ x. not (is_word x) && not (h.workflow x i)) part path)
    ∷ as_fault Kind.JumpOutOfScope (rule_next (λ x. not (is_word x) && h.workflow x i && not (h.blocks x i)) part path)
    ∷ as_fault Kind.BreakOutsideLoop (rule_next (outside_loop (h.inside i)) part path)
    ∷ as_fault Kind.ReturnInBranch (first (at_if (h.in_branch i && is_return (part_body part)) (below path (codes "return")) ∷ rule_next (λ x. h.in_branch i && bytes_eq x (codes "end")) part path ∷ []))
    ∷ as_fault Kind.UndeclaredWrite (write_alike a b h part path i)
    ∷ as_fault Kind.UnknownShared (shared_alike a.layers b.layers h.layers (shared_in (part_body part)) (below (below path (codes "parallel")) (codes "shared")) 0 i)
    ∷ as_fault Kind.UnknownName (unseen_alike a.layers b.layers h.layers (part_reads part path) i)
    ∷ as_fault Kind.UnknownCall (rule_call fs part path)
    ∷ as_fault Kind.BadArgument (rule_argument fs part path)
    ∷ as_fault Kind.TooMany (rule_many n part path) ∷ [])

pub said_alike : (fs : List Flow) (n : ℕ) (e f : List Text) (part : NodePart) (a b : Around) (path : Path) → SameNames e f → Alike a b → said fs n e (node part a path) ≡ said fs n f (node part b path)
said_alike fs n e f part a b path s h =
    ap (λ o. first_of_two (option_map said_of o) (as_said kinds.NotYet (not_yet fs part path))) (fault_alike fs n e f part a b path s h)
