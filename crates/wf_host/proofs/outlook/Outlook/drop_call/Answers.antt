use Rattle.std.proofs.Common.{rules}
use Rattle.std.proofs.lemmas.Fn.{filter_same}
use Rattle.wf_host.proofs.Foreseen.{dropped}
use Rattle.wf_host.proofs.outlook.Outlook.drop_call.Goals as goal

pub returns : goal.returns
returns c =
    let o = c.self.inside in
    dropped c.args.call o.polls o.calls.items c.retain.new.self.items c.args.self.now (filter_same _ _ _ (λ x b f' k. search rules) _ _ c.retain.ensures.filtered) c.self.view_is
