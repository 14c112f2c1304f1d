use Rattle.wf_engine.proofs.Arguments.{argument_comes_back, argument_is_spelled}
use Rattle.wf_engine.proofs.starts.laws_of_starts.Goals as goal

pub returns-clause-comes_back : goal.returns-clause-comes_back
returns-clause-comes_back c = argument_comes_back c.said_values_come_back.ensures.back c.values_come_back.ensures.finds

pub returns-clause-spelled : goal.returns-clause-spelled
returns-clause-spelled c =
    argument_is_spelled c.said_values_come_back.ensures.back c.values_come_back.ensures.says c.said_values_come_back.ensures.just c.texts_are_short.ensures
