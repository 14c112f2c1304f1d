use Rattle.std.proofs.Common.{is_some, string_bytes, sym, ap, ◌∙◌}
use Rattle.std.proofs.lemmas.Map.Text.{btree_map_updates_text}
use Rattle.wf_table.proofs.Naming.{keeps_number, takes_number}
use Rattle.wf_table.proofs.names.Names.add.Goals as goal

pub returns-in-Some : goal.returns-in-Some
returns-in-Some c = λ x. keeps_number c.args.self.now x c.args.name.now c.args.number (ap is_some (sym c.find.ensures ∙ c.in-Some.is))

pub returns : goal.returns
returns c = λ x.
    takes_number c.args.self.now (record { alloc = c.args.self.now.alloc; numbers = c.insert.new.self }) (string_bytes c.in_ok-copy.copy) x c.args.name.now c.args.number c.in_ok-copy.ensures.ok (sym c.find.ensures ∙ c.in-None.is)
    (btree_map_updates_text (string_bytes c.in_ok-copy.copy) c.args.self.now.numbers c.insert.new.self _ c.in_ok-insert.ensures.updates x)
