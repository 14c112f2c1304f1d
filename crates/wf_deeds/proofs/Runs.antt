-- Where events lead to a configuration, and what a record that goes on is.
use Rattle.std.specs.Prelude.{◌≡◌, ◌⊎◌, ◌&&◌, ℕ, suc, Bool, true, false, not, IsTrue, List, [], ◌∷◌, if◌then◌else◌, Option, Some, None, option_and_then}
use Rattle.std.proofs.Common.{inl, inr, refl, sym, ◌∙◌, ap}
use Rattle.wf_ast.specs.Tree.{Program}
use Rattle.wf_events.specs.Records.{Record, Started, Turned, Kept, Upgrade, Packed, StartedTwo}
use Rattle.wf_history.specs.Kinds.{start_of_record, turn_in}
use Rattle.wf_model.specs.Config.{Config, After, To, Wrong, NotNow}
use Rattle.wf_model.specs.Run.{initial, run_on}
use Rattle.wf_deeds.specs.History.{Standing, first_standing, goes_on, goes_on_at, is_kept, is_numbered, led, may_stand, only, started, turned}
use Rattle.wf_deeds.specs.Language.{Language}
use Rattle.wf_value.specs.Events.{Event, Start, Turn}

from_nowhere : (p : Program) (es : List Event) → run_on p NotNow es ≡ NotNow
from_nowhere p [] = refl
from_nowhere p (e ∷ es) = refl

-- where events lead to a configuration, they come from one
pub from_config : (p : Program) (a : After) (es : List Event) (c : Config) → run_on p a es ≡ To c → (b : Config) × (a ≡ To b) × (run_on p (To b) es ≡ To c)
from_config p (To b) es c is = (b, refl, is)
from_config p (Wrong k) [] c is = absurd cc
from_config p (Wrong k) (e ∷ es) c is = absurd cc
from_config p NotNow es c is = absurd (let no : NotNow ≡ To c = sym (from_nowhere p es) ∙ is in cc no)

-- ## The first record
-- where a start stands, and why
pub record Begins (L : Language) (r : Record) (s : Standing) : Type 0 where
  pub start : Start
  pub two : Bool
  pub program : Program
  pub config : Config
  pub starts : start_of_record r ≡ Some (start, two)
  pub rules : IsTrue (may_stand L (start, two))
  pub accepted : L.source start.source ≡ Some program
  pub leads : initial program start ≡ To config
  pub is : record { program = program; config = config; number = 1; session = 0; waits = 0; two = two; marks = false } ≡ s

begun_at : (L : Language) (r : Record) (t : Start) (two : Bool) (p : Program) (a : After) (s : Standing) → start_of_record r ≡ Some (t, two) → IsTrue (may_stand L (t, two)) → L.source t.source ≡ Some p → initial p t ≡ a → started p two a ≡ Some s → Begins L r s
begun_at L r t two p (To c) s starts rules source leads is = record { start = t; two = two; program = p; config = c; starts = starts; rules = rules; accepted = source; leads = leads; is = cc is }
begun_at L r t two p (Wrong k) s starts rules source leads is = absurd cc
begun_at L r t two p NotNow s starts rules source leads is = absurd cc

begun : (L : Language) (r : Record) (t : Start) (two : Bool) (o : Option Program) (s : Standing) → start_of_record r ≡ Some (t, two) → IsTrue (may_stand L (t, two)) → L.source t.source ≡ o → option_and_then (λ p. started p two (initial p t)) o ≡ Some s → Begins L r s
begun L r t two None s starts rules source is = absurd cc
begun L r t two (Some p) s starts rules source is = begun_at L r t two p (initial p t) s starts rules source refl is

ruled : (L : Language) (r : Record) (t : Start) (two b : Bool) (s : Standing) → start_of_record r ≡ Some (t, two) → may_stand L (t, two) ≡ b → (if b then option_and_then (λ p. started p two (initial p t)) (L.source t.source) else None) ≡ Some s → Begins L r s
ruled L r t two true s starts rules is = begun L r t two (L.source t.source) s starts rules refl is
ruled L r t two false s starts rules is = absurd cc

pub begins_by : (L : Language) (r : Record) (s : Standing) → first_standing L (Some r) ≡ Some s → Begins L r s
begins_by L (Started t) s is = ruled L (Started t) t false true s refl refl is
begins_by L (StartedTwo t) s is = ruled L (StartedTwo t) t true (may_stand L (t, true)) s refl refl is
begins_by L (Turned t) s is = absurd cc
begins_by L (Kept k) s is = absurd cc
begins_by L Upgrade s is = absurd cc
begins_by L (Packed t) s is = absurd cc

-- ## A later record
pub only_if : (b : Bool) (x : Option Standing) (t : Standing) → only b x ≡ Some t → (b ≡ true) × (x ≡ Some t)
only_if true x t is = (refl, is)
only_if false x t is = absurd cc

-- where a turn leads, and why
pub record Turns (s : Standing) (u : Turn) (t : Standing) : Type 0 where
  pub config : Config
  pub numbered : IsTrue (is_numbered s.number u)
  pub order : IsTrue (goes_on_at s.session s.waits u)
  pub leads : run_on s.program (To s.config) u.events ≡ To config
  pub is : record s { config = config; number = suc s.number; session = u.session; waits = u.waits; marks = true } ≡ t

of_parts : (s t : Standing) (u : Turn) (a b : Bool) (r : After) → is_numbered s.number u ≡ a → goes_on_at s.session s.waits u ≡ b → run_on s.program (To s.config) u.events ≡ r
    → (if a && b then led s u r else None) ≡ Some t → Turns s u t
of_parts s t u true true (To c) numbered order leads is = record { config = c; numbered = numbered; order = order; leads = leads; is = cc is }
of_parts s t u true true (Wrong k) numbered order leads is = absurd cc
of_parts s t u true true NotNow numbered order leads is = absurd cc
of_parts s t u true false r numbered order leads is = absurd cc
of_parts s t u false b r numbered order leads is = absurd cc

pub turns_by : (s : Standing) (u : Turn) (t : Standing) → turned s u ≡ Some t → Turns s u t
turns_by s u t is = of_parts s t u (is_numbered s.number u) (goes_on_at s.session s.waits u) (run_on s.program (To s.config) u.events) refl refl refl is

-- and the other way round
pub turned_on : (s : Standing) (u : Turn) (c : Config) → IsTrue (is_numbered s.number u) → IsTrue (goes_on_at s.session s.waits u) → run_on s.program (To s.config) u.events ≡ To c
    → turned s u ≡ Some (record s { config = c; number = suc s.number; session = u.session; waits = u.waits; marks = true })
turned_on s u c numbered order leads =
    ap (λ a. if a && goes_on_at s.session s.waits u then led s u (run_on s.program (To s.config) u.events) else None) numbered
    ∙ ap (λ b. if true && b then led s u (run_on s.program (To s.config) u.events) else None) order
    ∙ ap (λ r. led s u r) leads

-- where a record that goes on is a turn
pub record TurnsBy (s : Standing) (m : Option Record) (t : Standing) : Type 0 where
  pub turn : Turn
  pub meant : turn_in m ≡ Some turn
  pub turns : Turns s turn t

-- and where it is none
pub record Rests (s : Standing) (m : Option Record) (t : Standing) : Type 0 where
  pub meant : turn_in m ≡ None
  pub number : t.number ≡ suc s.number
  pub session : t.session ≡ s.session
  pub waits : t.waits ≡ s.waits

abbrev pub GoesOn : Standing → Option Record → Standing → Type 0
GoesOn s m t = TurnsBy s m t ⊎ Rests s m t

pub goes_on_by : (L : Language) (s : Standing) (m : Option Record) (t : Standing) → goes_on L s m ≡ Some t → GoesOn s m t
goes_on_by L s None t is = absurd cc
goes_on_by L s (Some (Started x)) t is = absurd cc
goes_on_by L s (Some (StartedTwo x)) t is = absurd cc
goes_on_by L s (Some (Turned u)) t is = inl (record { turn = u; meant = refl; turns = turns_by s u t (only_if (not s.two) (turned s u) t is).1 })
goes_on_by L s (Some (Packed u)) t is = inl (record { turn = u; meant = refl; turns = turns_by s u t (only_if s.two (turned s u) t is).1 })
goes_on_by L s (Some (Kept k)) t is =
    let same : record s { number = suc s.number } ≡ t = cc (only_if (is_kept L s k) (Some (record s { number = suc s.number })) t is).1 in
    inr (record { meant = refl; number = ap (λ (x : Standing). x.number) (sym same); session = ap (λ (x : Standing). x.session) (sym same); waits = ap (λ (x : Standing). x.waits) (sym same) })
goes_on_by L s (Some Upgrade) t is =
    let same : record s { number = suc s.number; two = true; marks = false } ≡ t = cc (only_if (not s.two) (Some (record s { number = suc s.number; two = true; marks = false })) t is).1 in
    inr (record { meant = refl; number = ap (λ (x : Standing). x.number) (sym same); session = ap (λ (x : Standing). x.session) (sym same); waits = ap (λ (x : Standing). x.waits) (sym same) })

-- each record counts
pub one_more : (s : Standing) (m : Option Record) (t : Standing) → GoesOn s m t → t.number ≡ suc s.number
one_more s m t (inl g) = ap (λ (x : Standing). x.number) (sym g.turns.is)
one_more s m t (inr g) = g.number
