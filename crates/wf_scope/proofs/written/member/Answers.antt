use Rattle.std.proofs.Common.{Some, None, FitsSigned, w64, rules}
use Rattle.std.proofs.lemmas.Int.{to_z-of_z}
use Rattle.wf_value.specs.Plain.{plain}
use Rattle.wf_scope.proofs.Writing.{member_indexed, member_named}
use Rattle.wf_scope.proofs.written.member.Goals as goal

pub returns-in-Some : goal.returns-in-Some
returns-in-Some c =
    member_named c.args.key.now c.args.value.now c.as_str.result.now c.in-Name.name c.in-Map.pairs (Some (plain c.in-Some.member.now)) c.in-Name.is c.in-Map.is c.as_str.ensures c.in-Some.ensures.value

pub returns-in-None : goal.returns-in-None
returns-in-None c = member_named c.args.key.now c.args.value.now c.as_str.result.now c.in-Name.name c.in-Map.pairs None c.in-Name.is c.in-Map.is c.as_str.ensures c.in-None.ensures.value

pub returns-in-Some-item_at : goal.returns-in-Some-item_at
returns-in-Some-item_at c =
    let fits : FitsSigned w64 c.in-At.index = search rules in
    member_indexed c.args.key.now c.args.value.now c.in-At.index _ c.in-List.list c.items.result.now (Some (plain c.in-Some-item_at.item.now)) c.in-At.is (to_z-of_z w64 c.in-At.index fits) c.in-List.is c.items.ensures c.in-Some-item_at.ensures

pub returns-in-None-item_at : goal.returns-in-None-item_at
returns-in-None-item_at c =
    let fits : FitsSigned w64 c.in-At.index = search rules in
    member_indexed c.args.key.now c.args.value.now c.in-At.index _ c.in-List.list c.items.result.now None c.in-At.is (to_z-of_z w64 c.in-At.index fits) c.in-List.is c.items.ensures c.in-None-item_at.ensures
