use Rattle.std.proofs.Common.{◌≡◌, ◌++◌, ◌∷◌, [], rules, subst, sym}
use Rattle.wf_connections.specs.Lines.{AreRead, AreSame}
use Rattle.wf_connections.proofs.Changes.{read_pushed, same_pushed}
use Rattle.wf_connections.proofs.lines.reach.Goals as goal

pub loop-lines-preserved : goal.loop-lines-preserved
loop-lines-preserved c =
    let new = c.unused.ensures in
    let more : c.push.new.self.items ≡ c.loop-lines.lines.items ++ c.unused.result ∷ [] = search rules in (
      subst (AreSame c.args.lines.now.items) (sym more) (same_pushed c.args.lines.now.items c.loop-lines.lines.items c.unused.result new.used new.dropped new.listens new.heard c.loop-lines.invariant.0),
      λ are. subst AreRead (sym more) (read_pushed c.loop-lines.lines.items c.unused.result new.listens (c.loop-lines.invariant.1 are)),
    )
