-- The parts of a program are the nodes of the rules, in the same order.
use Rattle.std.specs.Prelude.{◌≡◌, List, [], map}
use Rattle.wf_ast.specs.Nodes as rules
use Rattle.wf_ast.specs.Nodes.{nodes}
use Rattle.wf_ast.specs.Tree.{Template, Entry, Steps, Body, Flow}
use Rattle.wf_model.specs.Spots.{Part, FlowAt, BodyAt, ArmAt, EntryAt, BranchAt, NoPart, Spot, spots}
use Rattle.wf_value.specs.Pairs.{Text}

-- what a part and a node have in common
pub data Core : Type 0 where
  FlowCore : Flow → Core
  BodyCore : Text → Body → Core
  ArmCore : Template → Core
  EntryCore : Entry → Core
  BranchCore : Text → Steps → Core
  NoCore : Core

abbrev pub part_core : Part → Core
part_core (FlowAt f) = FlowCore f
part_core (BodyAt x body next) = BodyCore x body
part_core (ArmAt t) = ArmCore t
part_core (EntryAt e) = EntryCore e
part_core (BranchAt x ss) = BranchCore x ss
part_core NoPart = NoCore

abbrev pub spot_core : Spot → Core
spot_core s = part_core s.part

abbrev pub rule_core : rules.NodePart → Core
rule_core (rules.FlowPart f) = FlowCore f
rule_core (rules.StepPart x body next) = BodyCore x body
rule_core (rules.ArmPart t next) = ArmCore t
rule_core (rules.BodyPart body) = BodyCore [] body
rule_core (rules.EntryPart e) = EntryCore e
rule_core (rules.BranchPart before x ss) = BranchCore x ss

abbrev pub node_core : rules.Node → Core
node_core v = rule_core v.part

-- the part of a number is the node of that number in the rules' preorder
abbrev pub InPreorder : Type 0
InPreorder = (fs : List Flow) → map node_core (nodes fs) ≡ map spot_core (spots fs)
