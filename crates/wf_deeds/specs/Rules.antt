-- What may come next under the rules, and that they are kept then: one deed more, one turn more, an end.
--     MayDo        a deed may come next
--     MayTurn      a turn may come next
--     MayEnd       the command may end so
use Rattle.std.specs.Prelude.{◌≡◌, ◌≢◌, ◌⊎◌, ◌<◌, ℕ, suc, true, IsTrue, List, [], ◌∷◌, ◌++◌, length, All, Some, None}
use Rattle.std.specs.List.{AllByRecursion}
use Rattle.wf_deeds.specs.Deeds.{polls, nows, was_replied, before_poll, Decision}
use Rattle.wf_deeds.specs.Kept.{Session, Kept, StandsFirst, IsOpen, reading_of, own, config, reading, Comes, MayStart, MayPoll, MayReply, Answers, AnsweredAt, Decides, DecidedAt}
use Rattle.wf_deeds.specs.Outside.{Outside, Verdict, Arrives}
use Rattle.wf_events.specs.Reading.{meaning}
use Rattle.wf_history.specs.Kinds.{turn_in}
use Rattle.wf_host.specs.declared.data.Deed.{Deed}
use Rattle.wf_host.specs.declared.data.Deed.TheVariants.{Start, Poll, Now, Reply, Drop, Print}
use Rattle.wf_host.specs.declared.data.Heard.{Heard}
use Rattle.wf_model.specs.Config.{Config}
use Rattle.wf_model.specs.Ready.{quiet}
use Rattle.wf_deeds.specs.At.{Journal, journal}
use Rattle.wf_deeds.specs.Language.{Language}
use Rattle.wf_value.specs.Events as plain
use Rattle.wf_value.specs.Events.{Event, Turn}

-- a session with a deed more
abbrev pub with_deed : Session → Deed → Session
with_deed x d = record x { deeds = x.deeds ++ d ∷ [] }

-- with a record more
abbrev pub with_record : Session → List ℕ → Session
with_record x payload = record x { payloads = x.payloads ++ payload ∷ [] }

-- and ended
abbrev pub with_end : Session → ℕ → Session
with_end x status = record x { end = Some status }

-- to which what it heard was handed
abbrev pub with_handed : Session → Session
with_handed x = record x { handed = true }

module _ (L : Language) (O : Outside) (x : Session) where
  -- ## What is to be done before the session goes on
  -- each answer that came to an open call stands
  abbrev pub AnswersStand : Type 0
  AnswersStand = (before behind : List Deed) (until : ℕ) (h : Heard) (k : ℕ) (a : plain.Reply) (c : Config) → Comes L O x before (Poll until h) behind → Answers L O x before (Poll until h) h.what k a
      → config L O x (polls before) ≡ Some c → IsOpen c k → (r : ℕ) × StandsFirst (own L O x) (suc (polls before)) (plain.Answer k r a)

  -- each visit that a poll decided had its reply before the next one
  abbrev pub RepliesAreMade : Type 0
  RepliesAreMade = (before behind : List Deed) (until : ℕ) (h : Heard) (d : Decision) (v : Verdict) → Comes L O x before (Poll until h) behind → Decides L O x before h.what d v
      → was_replied d.visit (before_poll behind) ≡ true

  -- ## One deed more
  abbrev pub MayDo : Deed → Type 0
  MayDo (Start k to bytes) = MayStart L O x x.deeds k to bytes × AnswersStand × (length (nows x.deeds) ≡ 1)
  MayDo (Poll until h) = MayPoll L O x x.deeds until × AnswersStand × RepliesAreMade × (length (nows x.deeds) ≡ 1)
  MayDo (Now t) = ⊥
  MayDo (Reply n bytes) = MayReply L O x x.deeds n bytes
  MayDo (Drop k) = (c : Config) → config L O x (polls x.deeds) ≡ Some c → ¬ IsOpen c k
  MayDo (Print b) = Unit {0}

  -- ## One turn more
  -- since the last poll nothing was sent
  abbrev pub IsSent : Deed → Type 0
  IsSent (Start k to bytes) = Unit {0}
  IsSent (Drop k) = Unit {0}
  IsSent d = ⊥

  abbrev pub NothingSent : Type 0
  NothingSent = (before behind : List Deed) (d : Deed) → Comes L O x before d behind → IsSent d → polls before < polls x.deeds

  -- no turn of the session stands behind the last poll
  abbrev pub NoTurnYet : Type 0
  NoTurnYet = All (λ (t : Turn). t.waits ≢ polls x.deeds) (own L O x)

  -- what the last poll brought: the answer to a call, or the request of a visit that is accepted
  abbrev pub IsBrought : Event → Type 0
  IsBrought (plain.Answer k r a) = AnsweredAt L O x (polls x.deeds) k a × NoTurnYet
  IsBrought (plain.Arrive n r v) = ((d : Decision) × DecidedAt L O x (polls x.deeds) d (Arrives n v)) × NoTurnYet
  IsBrought e = Unit {0}

  -- an event that nothing has to bring
  abbrev pub IsOwn : Event → Type 0
  IsOwn (plain.Answer k r a) = ⊥
  IsOwn (plain.Arrive n r v) = ⊥
  IsOwn e = Unit {0}

  -- the first event may be what was brought
  abbrev pub AreBrought : List Event → Type 0
  AreBrought [] = Unit {0}
  AreBrought (e ∷ es) = IsBrought e × AllByRecursion IsOwn es

  pub record MayTurn (t : Turn) : Type 0 where
    pub session : t.session ≡ x.number
    pub waits : t.waits ≡ polls x.deeds
    pub brought : AreBrought t.events
    pub nothing_sent : NothingSent
    pub readings : (e : Event) (r : ℕ) (front back : List Event) → t.events ≡ front ++ e ∷ back → reading_of e ≡ Some r → r ≡ reading L O x (polls x.deeds)
    pub clock : length (nows x.deeds) ≡ 1

  -- ## An end
  abbrev pub MayEnd : ℕ → Type 0
  MayEnd status = ((status ≡ 0) ⊎ (status ≡ 1) ⊎ (status ≡ 13) → AnswersStand × RepliesAreMade)
      × (status ≡ 13 → (c : Config) × (config L O x (polls x.deeds) ≡ Some c) × IsTrue (quiet c (reading L O x (polls x.deeds))))

-- ## The laws
abbrev pub DeedKeepsRules : Type 0
DeedKeepsRules = (L : Language) (O : Outside) (x : Session) (d : Deed) → Kept L O x → x.end ≡ None → MayDo L O x d → Kept L O (with_deed x d)

abbrev pub TurnKeepsRules : Type 0
TurnKeepsRules = (L : Language) (O : Outside) (x : Session) (payload : List ℕ) (j : Journal) (t : Turn) → Kept L O x → x.end ≡ None → journal L x.payloads ≡ Some j → turn_in (meaning payload) ≡ Some t → MayTurn L O x t
    → Kept L O (with_record x payload)

abbrev pub EndKeepsRules : Type 0
EndKeepsRules = (L : Language) (O : Outside) (x : Session) (status : ℕ) → Kept L O x → x.end ≡ None → MayEnd L O x status → Kept L O (with_end x status)

-- and what keeps the rules keeps those for what was handed over
abbrev pub HandedKeepsRules : Type 0
HandedKeepsRules = (L : Language) (O : Outside) (x : Session) → Kept L O x → Kept L O (with_handed x)
