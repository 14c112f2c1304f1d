use Rattle.std.proofs.Common.{◌∷◌, refl, sym, ap, ◌∙◌}
use Rattle.std.specs.Prelude.{drop, vec_len}
use Rattle.wf_lemmas.proofs.Results.{with_ok}
use Rattle.wf_frames.proofs.LoopTurns.{loop_mark}
use Rattle.wf_frames.proofs.Owning.{innermost_other, owned_other}
use Rattle.wf_frames.proofs.Reversed.{last_put, last_was}
use Rattle.wf_frames.specs.Frames.{inner, owned}
use Rattle.wf_frames.specs.Innermost.{innermost}
use Rattle.wf_frames.proofs.frames.Frames.turn.Goals as goal

pub invariant_of-self : goal.invariant_of-self
invariant_of-self c =
    let self = c.args.self.now in
    let is = c.in-Some.ensures in
    let x = c.in-Some.frame.now in
    let y = c.turn.new.self in
    let rest = drop 1 (inner self) in
    let was = last_was self.items.items (vec_len self.items) x self.items.ok.0 (is.variant.0 refl) is.value in
    let put = last_put self.items.items (vec_len self.items) x self.items.ok.0 (is.variant.0 refl) is.value y in
    record {
      layered = self.layered ∙ ap (innermost self.first) was ∙ innermost_other self.first x rest (loop_mark x (inner self) rest was c.requires.at) ∙ sym (innermost_other self.first y rest c.turn.ensures.mark) ∙ ap (innermost self.first) (sym put);
    }

pub returns-clause-turned : goal.returns-clause-turned
returns-clause-turned c =
    let self = c.args.self.now in
    let is = c.in-Some.ensures in
    let x = c.in-Some.frame.now in
    let y = c.turn.new.self in
    let rest = drop 1 (inner self) in
    with_ok _ _ c.turn.result
    (λ o h. record {
      before = h.before;
      behind = h.behind;
      outside = rest;
      was = last_was self.items.items (vec_len self.items) x self.items.ok.0 (is.variant.0 refl) is.value ∙ ap (λ f. f ∷ rest) h.was;
      is = last_put self.items.items (vec_len self.items) x self.items.ok.0 (is.variant.0 refl) is.value y ∙ ap (λ f. f ∷ rest) h.is;
      turns = h.turns;
    })
    c.turn.ensures.turned

pub returns-clause-own : goal.returns-clause-own
returns-clause-own c =
    let self = c.args.self.now in
    let is = c.in-Some.ensures in
    let x = c.in-Some.frame.now in
    let y = c.turn.new.self in
    let rest = drop 1 (inner self) in
    let was = last_was self.items.items (vec_len self.items) x self.items.ok.0 (is.variant.0 refl) is.value in
    let put = last_put self.items.items (vec_len self.items) x self.items.ok.0 (is.variant.0 refl) is.value y in
    ap (owned self.first) put ∙ owned_other self.first y rest c.turn.ensures.mark ∙ sym (owned_other self.first x rest (loop_mark x (inner self) rest was c.requires.at)) ∙ ap (owned self.first) (sym was)
