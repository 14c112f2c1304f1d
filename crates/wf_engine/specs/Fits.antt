-- Which replies can stand in a record, of at most so many bytes.
use Rattle.std.specs.Coded.{×_prop, Unit-prop, le_prop}
use Rattle.std.specs.List.{AllByRecursion-prop}
use Rattle.std.specs.Prelude.{◌≤◌, ◌<◌, ◌^◌, ℕ, length}
use Rattle.wf_record_parts.specs.Spelling.{Bytes, IsField, IsHeaders, IsReply, reply}
use Rattle.wf_value.specs.Events.{Broken, Headers, Reply, Response, TooLong}

-- the most bytes that the spelling of a reply takes, and of its event
abbrev pub longest_reply : ℕ
longest_reply = 2200000

abbrev pub longest_taken : ℕ
longest_taken = 2200017

pub record FitsRecords (a : Reply) : Type 0 where
  pub spelled : IsReply a
  pub short : length (reply a) ≤ longest_reply

-- ## There is at most one proof of it
below-prop : (n most : ℕ) → IsProp (n < most)
below-prop n most = le_prop

IsField-prop : (f : Bytes × Bytes) → IsProp (IsField f)
IsField-prop f = ×_prop (below-prop (length f.0) (2 ^ 32)) (below-prop (length f.1) (2 ^ 32))

IsHeaders-prop : (fs : Headers) → IsProp (IsHeaders fs)
IsHeaders-prop fs = ×_prop (below-prop (length fs) (2 ^ 32)) (AllByRecursion-prop IsField IsField-prop fs)

IsReply-prop : (a : Reply) → IsProp (IsReply a)
IsReply-prop (Response code fs body) = λ x y i. (below-prop code (2 ^ 16) x.0 y.0 i, IsHeaders-prop fs x.1 y.1 i, below-prop (length body) (2 ^ 32) x.2 y.2 i)
IsReply-prop Broken = Unit-prop
IsReply-prop TooLong = Unit-prop

pub FitsRecords-prop : (a : Reply) → IsProp (FitsRecords a)
FitsRecords-prop a = λ x y i. record { spelled = IsReply-prop a x.spelled y.spelled i; short = le_prop x.short y.short i }
