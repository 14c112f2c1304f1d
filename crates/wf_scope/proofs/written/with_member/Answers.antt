use Rattle.std.proofs.Common.{FitsSigned, w64, rules}
use Rattle.std.proofs.lemmas.Int.{to_z-of_z}
use Rattle.wf_value.specs.Plain.{plain}
use Rattle.wf_scope.proofs.Writing.{index_put}
use Rattle.wf_scope.proofs.written.with_member.Goals as goal

pub returns-in-List : goal.returns-in-List
returns-in-List c =
    let fits : FitsSigned w64 c.in-At.index = search rules in
    index_put c.with_item.result c.args.key.now c.args.value.now c.in-At.index _ c.in-List.list c.items.result.now (plain c.args.new) c.in-At.is (to_z-of_z w64 c.in-At.index fits) c.in-List.is c.items.ensures c.with_item.ensures
