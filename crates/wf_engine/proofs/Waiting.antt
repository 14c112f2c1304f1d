-- Sessions that wait.
use Rattle.std.specs.Prelude.{◌≡◌, ◌≢◌, ◌≤◌, ◌+◌, ℕ, true, false, List, [], ◌++◌, Option, Some, None}
use Rattle.std.proofs.Common.{inr, ⊎_elim, refl, arith}
use Rattle.wf_deeds.proofs.Lists.{polls-append}
use Rattle.wf_deeds.specs.Clauses.{KeptWithin, Sessions, Went, ended, paused}
use Rattle.wf_deeds.specs.Deeds.{polls}
use Rattle.wf_deeds.specs.Memory.{IsSettled, Memory}
use Rattle.wf_deeds.specs.Outside.{Outside}
use Rattle.wf_engine.proofs.Parts.{Far, far_on, far_went}
use Rattle.wf_engine.specs.Engine.{Holds, is_closed, memory}
use Rattle.wf_engine.specs.Taken.{taken_event}
use Rattle.wf_engine.specs.TheOutside.{InTheOutside}
use Rattle.wf_engine.specs.declared.engine.Engine.{Engine}
use Rattle.wf_engine.specs.declared.taken.Taken.{Taken}
use Rattle.wf_host.specs.Moments.{CountsNow}
use Rattle.wf_host.specs.World.{World, Told, Faults, NoneFell}
use Rattle.wf_host.specs.declared.data.Deed.{Deed}
use Rattle.wf_model.specs.Config.{Active}
use Rattle.wf_replay.specs.TheLanguage.{the_language}

-- it polled as often as it has used up of what it may
pub record Polled (O : Outside) (m n : Memory) (first now : World) (bound left : ℕ) : Type 0 where
  pub done : List Deed
  pub far : Far the_language O bound m n first now done
  pub count : polls done + left ≡ bound

pub polled_first : (O : Outside) (m n : Memory) (first now : World) (bound : ℕ) → Far the_language O bound m n first now [] → Polled O m n first now bound bound
polled_first O m n first now bound far = record { done = []; far = far; count = omega arith }

-- and then a part more, which polls no more often than is left
pub polled_more : (O : Outside) (e d c : Engine) (first mid new : World) (bound left less part : ℕ) (done : List Deed) → Polled O (memory e) (memory d) first mid bound left → (memory d).session ≡ (memory e).session → part ≤ left → KeptWithin the_language O part (memory d) mid new
    → Went the_language O (memory d) (memory c) mid new done → polls done + less ≡ left → CountsNow new → new.may_leave new.seen → is_closed c ≡ false → Holds c new → Polled O (memory e) (memory c) first new bound less
polled_more O e d c first mid new bound left less part done p number room moments went count counts reads opened holds = record {
  done = p.done ++ done;
  far = far_on the_language O bound part (memory e) (memory d) (memory c) first mid new p.done done p.far number (omega (arith, room, p.count)) moments went c.history counts reads holds.0 (c.ready opened).begun;
  count = omega (arith, p.count, count, polls-append p.done done);
}

-- an engine with an outcome is settled
pub settled_over : (e : Engine) → is_closed e ≡ false → (memory e).config.outcome ≢ Active → IsSettled (memory e)
settled_over e opened over = record { taken = by e.taken refl; owed = refl; still = inr over }
  where
    by : (o : Option Taken) → e.taken ≡ o → taken_event e.reading o ≡ None
    by None is = refl
    by (Some t) is = absurd (over ((e.ready opened).takable t is).active)

-- ## The loop
pub record Waiting (first now : World) (f g : Faults) (e d : Engine) (bound left : ℕ) (Rest : Type 0) : Type 0 where
  pub not_closed : is_closed d ≡ false
  pub settled : IsSettled (memory d)
  pub holds : Told first (Holds d now)
  pub number : (memory d).session ≡ (memory e).session
  pub waits : (memory d).waits + left ≡ (memory e).waits + bound
  pub so_far : InTheOutside (λ O. Told first (Polled O (memory e) (memory d) first now bound left))
  pub tells : now.tells ≡ first.tells
  pub counts : NoneFell f g
  pub rest : Rest

-- ## What a session comes to
-- with an outcome
pub has_ended : (O : Outside) (m n : Memory) (first now : World) (bound left : ℕ) → Polled O m n first now bound left → IsSettled n → n.config.outcome ≢ Active → Sessions the_language O false bound m n first now
has_ended O m n first now bound left p settled over = record { done = p.done; went = far_went the_language O bound m n first now p.done p.far; ends = ended over (omega (arith, p.count)); settled = settled }

-- without one
pub is_suspended : (O : Outside) (m n : Memory) (first now : World) (bound left : ℕ) → Polled O m n first now bound left → left ≡ 0 → IsSettled n → n.config.outcome ≡ Active → Sessions the_language O true bound m n first now
is_suspended O m n first now bound left p none settled active = record {
  done = p.done;
  went = far_went the_language O bound m n first now p.done p.far;
  ends = paused active (omega (arith, p.count, none)) (⊎_elim (λ still. still) (λ over. absurd (over active)) settled.still);
  settled = settled;
}
