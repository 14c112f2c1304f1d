use Rattle.std.proofs.Common.{◌≡◌, ◌∷◌, ℕ, true, Some, refl, sym, subst, ◌∙◌, Ok, Err}
use Rattle.wf_frames.specs.Bound.{bindings_of}
use Rattle.wf_frames.specs.Frames.{inner, own}
use Rattle.wf_frames.specs.Innermost.{innermost}
use Rattle.wf_frames.specs.Owned.{IsLinked, held_of, own_of}
use Rattle.wf_frames.specs.Turns.{Enters, bound_all}
use Rattle.wf_scope.specs.Changes.{Answers}
use Rattle.wf_scope.specs.declared.fault.AssignFault.TheVariants as faults
use Rattle.wf_frames.proofs.Names.{again_so, entered_linked, entered_so, refused_so, told_so}
use Rattle.wf_frames.proofs.Storing.{same_linked}
use Rattle.wf_scope.specs.Store.{layers_of}
use Rattle.wf_frames.proofs.entering.enter_call.Goals as goal

pub returns-in-Ok-clause-entered : goal.returns-in-Ok-clause-entered
returns-in-Ok-clause-entered g c s agrees =
    let x = c.args.scopes.now in
    let p = c.args.frames.now.first in
    let fs = inner c.args.frames.now in
    let o = innermost p fs in
    let d : ℕ = 0 in
    let xs = bindings_of c.args.bindings in
    let told = told_so g.around p fs x o d true xs x.standing c.requires refl c.root.new.self.limit c.in_ok-layer.layer.number (layers_of c.root.new.self) (Ok (layers_of c.bind_all.new.scopes)) c.in_ok-layer.ensures.limit c.in_ok-layer.ensures.number c.in_ok-layer.ensures.opened c.in-Ok.ensures.outcome in
    subst (λ (n : ℕ). Enters true s (Some n) (held_of g.around.keys (own_of c.args.frames.now) (layers_of x)) xs (held_of g.around.keys (own n true ∷ own_of c.args.frames.now) (layers_of c.bind_all.new.scopes))) (sym c.in_ok-layer.ensures.number)
    (entered_so g.around p fs x o d true xs x.standing c.requires refl c.bind_all.new.scopes told (c.in-Ok.ensures.limit ∙ c.in_ok-layer.ensures.limit) s agrees.0 agrees.1)

pub returns-in-Ok-clause-linked : goal.returns-in-Ok-clause-linked
returns-in-Ok-clause-linked g c =
    let x = c.args.scopes.now in
    let p = c.args.frames.now.first in
    let fs = inner c.args.frames.now in
    let o = innermost p fs in
    let d : ℕ = 0 in
    let xs = bindings_of c.args.bindings in
    let told = told_so g.around p fs x o d true xs x.standing c.requires refl c.root.new.self.limit c.in_ok-layer.layer.number (layers_of c.root.new.self) (Ok (layers_of c.bind_all.new.scopes)) c.in_ok-layer.ensures.limit c.in_ok-layer.ensures.number c.in_ok-layer.ensures.opened c.in-Ok.ensures.outcome in
    subst (λ (n : ℕ). IsLinked g.around (own n true ∷ own_of c.args.frames.now) c.bind_all.new.scopes) (sym c.in_ok-layer.ensures.number)
    (entered_linked g.around p fs x o d true xs x.standing c.requires refl c.bind_all.new.scopes told (c.in-Ok.ensures.limit ∙ c.in_ok-layer.ensures.limit))

pub returns-in_ok-refuse-in-Err-clause-entered : goal.returns-in_ok-refuse-in-Err-clause-entered
returns-in_ok-refuse-in-Err-clause-entered g c s agrees =
    let x = c.args.scopes.now in
    let p = c.args.frames.now.first in
    let fs = inner c.args.frames.now in
    let o = innermost p fs in
    let d : ℕ = 0 in
    let xs = bindings_of c.args.bindings in
    let r = bound_all c.root.new.self.limit c.in_ok-layer.layer.number xs (layers_of c.root.new.self) in
    let large : r ≡ Err faults.TooLarge = subst (λ f. Answers (Err f) (layers_of c.bind_all.new.scopes) r) c.in_ok-refuse-in-Err.ensures.fault c.in-Err.ensures.outcome in
    let told = told_so g.around p fs x o d true xs x.standing c.requires refl c.root.new.self.limit c.in_ok-layer.layer.number (layers_of c.root.new.self) (Err faults.TooLarge) c.in_ok-layer.ensures.limit c.in_ok-layer.ensures.number c.in_ok-layer.ensures.opened large in
    let same = again_so g.around p fs x o d true xs x.standing c.requires refl c.in_ok-layer.layer.number (layers_of c.root.new.self) (layers_of c.bind_all.new.scopes) (layers_of c.refuse.new.scopes) c.in_ok-layer.ensures.number c.in_ok-layer.ensures.opened c.in_ok-refuse-in-Err.ensures.closed c.in-Err.ensures.rest in
    refused_so g.around p fs x o d true xs x.standing c.requires refl c.refuse.new.scopes told same s agrees.0 agrees.1

pub returns-in_ok-refuse-in-Err-clause-linked : goal.returns-in_ok-refuse-in-Err-clause-linked
returns-in_ok-refuse-in-Err-clause-linked g c =
    let x = c.args.scopes.now in
    let p = c.args.frames.now.first in
    let fs = inner c.args.frames.now in
    let o = innermost p fs in
    let d : ℕ = 0 in
    let xs = bindings_of c.args.bindings in
    let same = again_so g.around p fs x o d true xs x.standing c.requires refl c.in_ok-layer.layer.number (layers_of c.root.new.self) (layers_of c.bind_all.new.scopes) (layers_of c.refuse.new.scopes) c.in_ok-layer.ensures.number c.in_ok-layer.ensures.opened c.in_ok-refuse-in-Err.ensures.closed c.in-Err.ensures.rest in
    same_linked g.around (own_of c.args.frames.now) x c.refuse.new.scopes c.requires same (c.in_ok-refuse-in-Err.ensures.limit ∙ c.in-Err.ensures.limit ∙ c.in_ok-layer.ensures.limit)
