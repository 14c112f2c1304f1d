use Rattle.std.proofs.Common.{Some, None, FitsSigned, w64, rules}
use Rattle.std.proofs.lemmas.Int.{to_z-of_z}
use Rattle.wf_value.specs.Plain.{plain}
use Rattle.wf_frames.proofs.Placing.{at_index, at_name}
use Rattle.wf_frames.proofs.places.member.Goals as goal

pub returns-in-Some : goal.returns-in-Some
returns-in-Some c = at_name c.args.place.now c.args.value.now c.in-Text.name c.as_str.result.now c.in-Map.map (Some (plain c.in-Some.inner.now)) c.in-Text.is c.in-Map.is c.as_str.ensures c.in-Some.ensures.value

pub returns-in-None : goal.returns-in-None
returns-in-None c = at_name c.args.place.now c.args.value.now c.in-Text.name c.as_str.result.now c.in-Map.map None c.in-Text.is c.in-Map.is c.as_str.ensures c.in-None.ensures.value

pub returns-in-Some-item_at : goal.returns-in-Some-item_at
returns-in-Some-item_at c =
    let fits : FitsSigned w64 c.in-Int.index = search rules in
    at_index c.args.place.now c.args.value.now c.in-Int.index _ c.in-List.list c.items.result.now (Some (plain c.in-Some-item_at.inner.now)) c.in-Int.is (to_z-of_z w64 c.in-Int.index fits) c.in-List.is c.items.ensures c.in-Some-item_at.ensures

pub returns-in-None-item_at : goal.returns-in-None-item_at
returns-in-None-item_at c =
    let fits : FitsSigned w64 c.in-Int.index = search rules in
    at_index c.args.place.now c.args.value.now c.in-Int.index _ c.in-List.list c.items.result.now None c.in-Int.is (to_z-of_z w64 c.in-Int.index fits) c.in-List.is c.items.ensures c.in-None-item_at.ensures
