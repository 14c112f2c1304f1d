-- What the services of a plan have still to tell, by the deeds so far.
use Rattle.std.specs.Prelude.{◌==◌, ◌&&◌, not, if◌then◌else◌, ℕ, ◌+◌, ◌-◌, leb, Bool, List, [], ◌∷◌, ◌++◌, length, take, drop, filter, slice_get, min, Option, None, Some}
use Rattle.std.specs.Str.{bytes_eq}
use Rattle.std.specs.Prelude.{Vec}
use Rattle.std.specs.Global.{Global}
use Rattle.wf_host.specs.declared.data.Address.{Address}
use Rattle.wf_host.specs.declared.data.Deed.{Deed}
use Rattle.wf_host.specs.declared.data.Deed.TheVariants.{Start, Poll, Now, Reply, Drop, Print}
use Rattle.wf_host.specs.declared.data.What.{What}
use Rattle.wf_host.specs.declared.data.What.TheVariants.{Nothing, Bytes, End, Broken, Visit, VisitEnd}
use Rattle.wf_host.specs.declared.plan.Service.{Service}
use Rattle.wf_host.specs.declared.plan.Reply.{Reply as Answer}
use Rattle.wf_host.specs.declared.plan.Close.{Close}
use Rattle.wf_host.specs.declared.plan.Close.TheVariants.{End as Whole, Broken as Cut, Silent}
use Rattle.wf_host.specs.World.{next_count}

-- a call that was started, and tells something
pub record Line : Type 0 where
  pub of : ℕ  -- the number of the call
  pub since : ℕ  -- the polls before it was started
  pub after : ℕ  -- how many more pass before it tells something
  pub left : List What  -- what it tells

pub record Ahead : Type 0 where
  pub polls : ℕ  -- the polls so far
  pub calls : List Line  -- in the order in which they were started

-- what one poll hears of a thing, of which it hears so many bytes at most
abbrev pub front : ℕ → What → What
front limit (Bytes k bytes) = Bytes k (take limit bytes)
front limit (Visit n bytes) = Visit n (take limit bytes)
front limit Nothing = Nothing
front limit (End k) = End k
front limit (Broken k) = Broken k
front limit (VisitEnd n) = VisitEnd n

-- what is left of it then
abbrev pub back : ℕ → What → List What
back limit (Bytes k bytes) = if leb (length bytes) limit then [] else Bytes k (drop limit bytes) ∷ []
back limit (Visit n bytes) = if leb (length bytes) limit then [] else Visit n (drop limit bytes) ∷ []
back limit Nothing = []
back limit (End k) = []
back limit (Broken k) = []
back limit (VisitEnd n) = []

abbrev pub first_of : ℕ → List What → What
first_of limit [] = Nothing
first_of limit (w ∷ rest) = front limit w

abbrev pub without_first : ℕ → List What → List What
without_first limit [] = []
without_first limit (w ∷ rest) = back limit w ++ rest

-- it tells something in the poll that comes after so many
abbrev pub speaks : ℕ → Line → Bool
speaks polls l = leb l.after (polls - l.since) && leb 1 (length l.left)

abbrev pub spoken : ℕ → Line → Line
spoken limit l = record { of = l.of; since = l.since; after = l.after; left = without_first limit l.left }

-- what the first of these that tells something tells
abbrev pub next_of : ℕ → ℕ → List Line → What
next_of limit polls [] = Nothing
next_of limit polls (l ∷ rest) = if speaks polls l then first_of limit l.left else next_of limit polls rest

-- the lines once it was told
abbrev pub told : ℕ → ℕ → List Line → List Line
told limit polls [] = []
told limit polls (l ∷ rest) = if speaks polls l then spoken limit l ∷ rest else l ∷ told limit polls rest

-- what the next poll hears: of the calls in the order of their starts
abbrev pub next_thing : ℕ → Ahead → What
next_thing limit a = next_of limit a.polls a.calls

abbrev pub after_poll : ℕ → Ahead → Ahead
after_poll limit a = record { polls = next_count a.polls; calls = told limit a.polls a.calls }

-- the lines of the other calls
abbrev pub without : ℕ → List Line → List Line
without n lines = filter (λ l. not (l.of == n)) lines

abbrev pub is_same : Address → Address → Bool
is_same a b = bytes_eq a.name b.name && a.port == b.port

-- how many calls were started to an address
abbrev pub starts_to : Address → List Deed → ℕ
starts_to to [] = 0
starts_to to (Start k at bytes ∷ rest) = if is_same at to then 1 + starts_to to rest else starts_to to rest
starts_to to (Poll until heard ∷ rest) = starts_to to rest
starts_to to (Now t ∷ rest) = starts_to to rest
starts_to to (Reply n bytes ∷ rest) = starts_to to rest
starts_to to (Drop k ∷ rest) = starts_to to rest
starts_to to (Print bytes ∷ rest) = starts_to to rest

-- the answer of this number among these, from 0: of those behind the last one the last, where it is told again
abbrev pub answer_at : List Answer → Bool → ℕ → Option Answer
answer_at answers again n = slice_get answers (if again then min n (length answers - 1) else n)

-- what answers a call to this address to which so many were started before: the first service there
abbrev pub answer_to : List Service → Address → ℕ → Option Answer
answer_to [] to n = None
answer_to (s ∷ rest) to n = if is_same s.to to then answer_at s.replies.items s.again n else answer_to rest to n

-- what a reply tells behind its pieces
abbrev pub ending : ℕ → Close → List What
ending k Whole = End k ∷ []
ending k Cut = Broken k ∷ []
ending k Silent = []

-- the pieces of a call
abbrev pub pieces : ℕ → List (Vec ℕ Global) → List What
pieces k [] = []
pieces k (p ∷ rest) = Bytes k p.items ∷ pieces k rest

-- the line of a call that is started after so many polls
abbrev pub line_of : ℕ → ℕ → Option Answer → List Line
line_of k polls None = []
line_of k polls (Some r) = record { of = k; since = polls; after = r.after; left = pieces k r.pieces.items ++ ending k r.close } ∷ []

-- before the first deed
abbrev pub at_first : Ahead
at_first = record { polls = 0; calls = [] }

abbrev pub after_start : List Service → ℕ → Address → ℕ → Ahead → Ahead
after_start services k to n a = record { polls = a.polls; calls = a.calls ++ line_of k a.polls (answer_to services to n) }

abbrev pub after_drop : ℕ → Ahead → Ahead
after_drop k a = record { polls = a.polls; calls = without k a.calls }

-- no poll hears more bytes at once
unfoldable pub piece_limit : ℕ
piece_limit = 65536

-- one deed more, behind these
abbrev pub after_deed : List Service → List Deed → Deed → Ahead → Ahead
after_deed services before (Start k to bytes) a = after_start services k to (starts_to to before) a
after_deed services before (Poll until heard) a = after_poll piece_limit a
after_deed services before (Drop k) a = after_drop k a
after_deed services before (Reply n bytes) a = a
after_deed services before (Now t) a = a
after_deed services before (Print bytes) a = a

abbrev pub ahead_from : List Service → List Deed → Ahead → List Deed → Ahead
ahead_from services before a [] = a
ahead_from services before a (d ∷ rest) = ahead_from services (before ++ d ∷ []) (after_deed services before d a) rest

-- what is ahead after these deeds
abbrev pub ahead : List Service → List Deed → Ahead
ahead services deeds = ahead_from services [] at_first deeds
