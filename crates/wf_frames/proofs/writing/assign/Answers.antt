use Rattle.std.proofs.Common.{[], refl, inr, ap, sym, ◌∙◌}
use Rattle.wf_frames.specs.Frames.{inner}
use Rattle.wf_frames.specs.Held.{standing}
use Rattle.wf_frames.specs.Owned.{held_by}
use Rattle.wf_frames.proofs.Seeing.{innermost_live, looks_so}
use Rattle.wf_frames.proofs.Storing.{refused_walk}
use Rattle.wf_scope.specs.Changes.{changed}
use Rattle.wf_value.specs.Plain.{plain, plain_items}
use Rattle.wf_frames.proofs.writing.assign.Goals as goal

pub look-requires : goal.look-requires
look-requires g c = innermost_live g.around c.args.frames.now.first (inner c.args.frames.now) c.args.scopes.now c.layer.result.number c.requires c.layer.ensures

pub returns-in-None-clause-written : goal.returns-in-None-clause-written
returns-in-None-clause-written g c s agrees =
    let x = c.args.scopes.now in
    let name = c.args.name.now in (
      refl,
      inr (refused_walk s name (plain_items c.args.places.now) (plain c.args.value) c.fault_of.result (standing [] (held_by g.around c.args.frames.now x))
          (ap (λ o. changed o (plain_items c.args.places.now) (plain c.args.value)) (sym (c.look.ensures ∙ looks_so g.around c.args.frames.now.first (inner c.args.frames.now) x c.layer.result.number c.requires c.layer.ensures x.standing name))
          ∙ c.fault_of.ensures (plain c.args.value))),
    )
