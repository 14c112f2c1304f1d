use Rattle.std.proofs.Common.{refl, sym}
use Rattle.wf_frames.specs.Frames.{inner}
use Rattle.wf_frames.proofs.Owning.{mark_closes, mark_left, mark_linked, other_left, other_linked}
use Rattle.wf_frames.proofs.leaving.leave.Goals as goal

pub close-requires-clause-innermost : goal.close-requires-clause-innermost
close-requires-clause-innermost g c =
    (mark_closes g.around c.args.frames.now.first c.pop.new.self.first c.args.frames.now.first c.in-Some.frame c.in-Some-mark.number (inner c.args.frames.now) (inner c.pop.new.self) c.args.scopes.now c.in-Some.ensures.first refl (sym c.in-Some-mark.ensures)
    c.in-Some.ensures.popped c.args.scopes.now.rising c.requires).innermost

pub returns-in-Some-mark-clause-left : goal.returns-in-Some-mark-clause-left
returns-in-Some-mark-clause-left g c =
    mark_left g.around c.args.frames.now.first c.pop.new.self.first c.args.frames.now.first c.in-Some.frame c.in-Some-mark.number (inner c.args.frames.now) (inner c.pop.new.self) c.args.scopes.now c.in-Some.ensures.first refl (sym c.in-Some-mark.ensures)
    c.in-Some.ensures.popped c.args.scopes.now.rising c.requires c.close.new.self c.close.ensures.closed

pub returns-in-Some-mark-clause-linked : goal.returns-in-Some-mark-clause-linked
returns-in-Some-mark-clause-linked g c =
    mark_linked g.around c.args.frames.now.first c.pop.new.self.first c.args.frames.now.first c.in-Some.frame c.in-Some-mark.number (inner c.args.frames.now) (inner c.pop.new.self) c.args.scopes.now c.in-Some.ensures.first refl (sym c.in-Some-mark.ensures)
    c.in-Some.ensures.popped c.args.scopes.now.rising c.requires c.close.new.self c.close.ensures.closed c.close.ensures.limit

pub returns-clause-left : goal.returns-clause-left
returns-clause-left g c =
    other_left g.around c.args.frames.now.first c.pop.new.self.first c.in-Some.frame (inner c.args.frames.now) (inner c.pop.new.self) c.args.scopes.now c.in-Some.ensures.first (sym c.in-None.ensures) c.in-Some.ensures.popped

pub returns-clause-linked : goal.returns-clause-linked
returns-clause-linked g c =
    other_linked g.around c.args.frames.now.first c.pop.new.self.first c.in-Some.frame (inner c.args.frames.now) (inner c.pop.new.self) c.args.scopes.now c.in-Some.ensures.first (sym c.in-None.ensures) c.in-Some.ensures.popped c.requires
