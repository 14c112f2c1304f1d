-- The events of a journal's turns up to a point.
use Rattle.std.specs.Prelude.{◌≡◌, ℕ, Bool, true, false, List, [], ◌∷◌, ◌++◌, if◌then◌else◌}
use Rattle.std.specs.List.{list_all, flat_map}
use Rattle.std.proofs.Common.{append_assoc}
use Rattle.std.proofs.lemmas.Bool.{and_parts}
use mathlib.Core.Path.{refl, sym, ap, ◌∙◌}
use Rattle.wf_model.proofs.Runs.{runs_join}
use Rattle.wf_model.specs.Run.{run, initial, is_before, events_to}
use Rattle.wf_model.specs.TurnLaws.{NextTurnGoesOn, LaterTurnDoesNotCount, AllTurnsAreTheRun}
use Rattle.wf_value.specs.Events.{Event, Turn}

append_none : (es : List Event) → es ++ [] ≡ es
append_none [] = refl
append_none (e ∷ es) = ap (λ fs. e ∷ fs) (append_none es)

counted_turn : (b : Bool) (es fs : List Event) → b ≡ true → (if b then es ++ fs else fs) ≡ es ++ fs
counted_turn true es fs h = refl
counted_turn false es fs h = cc h

-- the events of one more turn come behind, or not at all
module _ (session waits : ℕ) where
  one_before : (b : Bool) (es : List Event) → b ≡ true → (if b then es ++ [] else []) ≡ es
  one_before true es h = append_none es
  one_before false es h = cc h

  one_behind : (b : Bool) (es : List Event) → b ≡ false → (if b then es ++ [] else []) ≡ []
  one_behind true es h = cc h
  one_behind false es h = refl

  behind : (b : Bool) (es fs gs : List Event) → (if b then es ++ (fs ++ gs) else fs ++ gs) ≡ (if b then es ++ fs else fs) ++ gs
  behind true es fs gs = sym (append_assoc es fs gs)
  behind false es fs gs = refl

  parts : (ts us : List Turn) → events_to session waits (ts ++ us) ≡ events_to session waits ts ++ events_to session waits us
  parts [] us = refl
  parts (t ∷ ts) us =
      ap (λ fs. if is_before session waits t then t.events ++ fs else fs) (parts ts us)
      ∙ behind (is_before session waits t) t.events (events_to session waits ts) (events_to session waits us)

  all_before : (ts : List Turn) → list_all (is_before session waits) ts ≡ true → events_to session waits ts ≡ flat_map (λ t. t.events) ts
  all_before [] h = refl
  all_before (t ∷ ts) h =
      let k = and_parts (is_before session waits t) (list_all (is_before session waits) ts) h in
      counted_turn (is_before session waits t) t.events (events_to session waits ts) k.0 ∙ ap (λ fs. t.events ++ fs) (all_before ts k.1)

pub next_turn_goes_on : NextTurnGoesOn
next_turn_goes_on p s ts t session waits h =
    ap (run p s) (parts session waits ts (t ∷ []) ∙ ap (λ fs. events_to session waits ts ++ fs) (one_before session waits (is_before session waits t) t.events h))
    ∙ runs_join p (initial p s) (events_to session waits ts) t.events

pub later_turn_does_not_count : LaterTurnDoesNotCount
later_turn_does_not_count p s ts t session waits h =
    ap (run p s) (parts session waits ts (t ∷ []) ∙ ap (λ fs. events_to session waits ts ++ fs) (one_behind session waits (is_before session waits t) t.events h) ∙ append_none (events_to session waits ts))

pub all_turns_are_the_run : AllTurnsAreTheRun
all_turns_are_the_run p s ts session waits h = ap (run p s) (all_before session waits ts h)
