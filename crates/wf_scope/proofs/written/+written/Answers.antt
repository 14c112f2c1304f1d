use Rattle.std.proofs.Common.{arith}
use Rattle.wf_value.specs.Plain.{plain}
use Rattle.wf_scope.proofs.Writing.{fault_behind, more_given, shorter}
use Rattle.wf_scope.proofs.written.+written.Goals as goal

pub written-requires : goal.written-requires
written-requires t c = (omega (arith, shorter c.args.path.now c.first-item.result c.in-len1-up.len_at_least c.first-item.is), tt)

pub returns-in-Ok-written : goal.returns-in-Ok-written
returns-in-Ok-written t c =
    more_given c.args.path.now c.first-item.result (plain c.args.old.now) (plain c.args.new) c.in-len1-up.len_at_least c.first-item.is c.with_member-in-Ok-written.result (plain c.in-Ok.inner.now) (plain c.in-Ok-written.inner) c.in-Ok.ensures c.in-Ok-written.ensures c.with_member-in-Ok-written.ensures

pub returns-in-Err-written : goal.returns-in-Err-written
returns-in-Err-written t c =
    fault_behind c.args.path.now c.first-item.result (plain c.args.old.now) (plain c.args.new) c.in-len1-up.len_at_least c.first-item.is c.in-Err-written.fault (plain c.in-Ok.inner.now) c.in-Ok.ensures c.in-Err-written.ensures
