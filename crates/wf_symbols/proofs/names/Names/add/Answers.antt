use Rattle.std.proofs.Common.{ap, ◌∙◌, ◌||◌, bytes_eq}
use Rattle.wf_symbols.proofs.Sets.{with_key}
use Rattle.wf_symbols.proofs.names.Names.add.Goals as goal
use Rattle.wf_symbols.specs.Names.{names_of}
use Rattle.wf_value.specs.HttpRequest.{is_among}

pub returns-clause-added : goal.returns-clause-added
returns-clause-added c = λ k.
    with_key k c.in_ok-copy.copy c.args.self.now.names c.insert.new.self c.in_ok-insert.ensures.updates
    ∙ ap (λ l. bytes_eq k l || is_among k (names_of c.args.self.now)) c.in_ok-copy.ensures.ok
