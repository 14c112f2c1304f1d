-- The ends of a command: their codes, the lines that they print, and the order of their causes.
use Rattle.std.specs.Prelude.{ℕ, List, [], ◌∷◌, ◌++◌, Option, Some, None, codes, decimal}
use Rattle.wf_status.specs.Refusals.{refusal_text}
use Rattle.wf_status.specs.declared.status.Status.{Status}
use Rattle.wf_status.specs.declared.status.Status.TheVariants.{Done, Raised, BadLine, Refused, BadArgument, AlreadyStarted, NotStarted, ReadFault, PrintFault, DiskFault, PollFault, NotAJournal, NotAHistory, Suspended, OutOfMemory}

-- the exit status of the program
abbrev pub status_code : Status → ℕ
status_code Done = 0
status_code Raised = 1
status_code (BadLine n) = 2
status_code (Refused r) = 3
status_code BadArgument = 4
status_code AlreadyStarted = 5
status_code NotStarted = 6
status_code ReadFault = 7
status_code PrintFault = 8
status_code DiskFault = 9
status_code PollFault = 10
status_code NotAJournal = 11
status_code (NotAHistory n) = 12
status_code Suspended = 13
status_code OutOfMemory = 14

-- a line with its end
abbrev pub line_end : List ℕ → List ℕ
line_end b = b ++ 10 ∷ []

-- the line that a status prints by itself; an outcome prints its value, and a failure of the outside or of memory nothing
abbrev pub status_text : Status → Option (List ℕ)
status_text Done = None
status_text Raised = None
status_text (BadLine n) = Some (line_end (codes "bad line at word " ++ decimal n))
status_text (Refused r) = Some (line_end (refusal_text r))
status_text BadArgument = Some (line_end (codes "bad argument"))
status_text AlreadyStarted = Some (line_end (codes "already started"))
status_text NotStarted = Some (line_end (codes "not started"))
status_text ReadFault = None
status_text PrintFault = None
status_text DiskFault = None
status_text PollFault = None
status_text NotAJournal = Some (line_end (codes "not a journal"))
status_text (NotAHistory n) = Some (line_end (codes "not a history at record " ++ decimal n))
status_text Suspended = Some (line_end (codes "suspended"))
status_text OutOfMemory = None

-- the place in the order in which the causes are looked at: of two causes that hold, the one with the lower rank is told
abbrev pub rank : Status → ℕ
rank (BadLine n) = 0
rank BadArgument = 1
rank ReadFault = 2
rank (Refused r) = 3
rank DiskFault = 4
rank NotAJournal = 5
rank AlreadyStarted = 6
rank NotStarted = 7
rank (NotAHistory n) = 8
rank PollFault = 9
rank Suspended = 10
rank Done = 11
rank Raised = 11
rank PrintFault = 12
rank OutOfMemory = 13
