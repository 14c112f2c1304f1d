-- What a command comes to once it has printed.
use Rattle.std.proofs.Common.{◌≡◌, ◌≤◌, inl, inr, ⊎_elim, IsTrue, ℕ, true, List, [], ◌∷◌, ◌++◌, Contains, Option, None, Some, Result, Ok, Err, refl, sym, ◌∙◌, ap, subst, append_assoc, arith}
use Rattle.std.proofs.lemmas.List.{append_cancel_left}
use Rattle.std.proofs.lemmas.List.Elements.{Contains-append_right}
use Rattle.std.specs.Prelude.{IfOk, IsErrOf}
use Rattle.std.specs.List.{AllByRecursion}
use Rattle.wf_lemmas.proofs.Lists.{all_both}
use Rattle.wf_cli.proofs.Deeds.{all_prints, polls_behind, printed_both, prints_small}
use Rattle.wf_cli.proofs.Causes.{no_bad_line, executing}
use Rattle.wf_cli.proofs.Outsides.{some_outside, in_some}
use Rattle.wf_cli.proofs.Safe.{IsPlainEnd, plain_end, MayEndBy, IsFront, gives_behind, late_behind, safe_behind}
use Rattle.wf_cli.proofs.Together.{where_told, when_told}
use Rattle.wf_cli.specs.Reports.{the_reports}
use Rattle.wf_cli.specs.Said.{IsEnd, MayWrite, Worked, DoneSilently, LateNow, MayEndNow, Unwritten, PrintsSaid, Printing, silent_status, text_of}
use Rattle.wf_cli.specs.Top.{Call, IsLine, IsOfFile, IsRefused, IsBehindSync, MayPrint, HasToSay, bad_line, bad_argument, refused, reported, of_file, Ends, said, cut, unread, failed, unheard, no_memory, Prints, PrintsSome, TookNothing, FinishedStays, OnlyPrints, PollsWithin, RefusedStays, ReportsStay, SilentStays, SafeThroughout, SafeAtEnd, LateAtEnd, WritesNothing}
use Rattle.wf_args.specs.Lines.{PlainLine, waits_of}
use Rattle.wf_cli.specs.declared.end.Said.{Said}
use Rattle.wf_cli.specs.declared.end.Silence.{Silence}
use Rattle.wf_cli.specs.declared.end.Silence.TheVariants as silence
use Rattle.wf_deeds.specs.Deeds.{IsSmall, polls}
use Rattle.wf_deeds.specs.Outside.{Outside}
use Rattle.wf_deeds.specs.Rules.{MayEnd, DeedKeepsRules, EndKeepsRules}
use Rattle.wf_engine.specs.Printed.{Scene, executes}
use Rattle.wf_engine.specs.Safe.{IsFit, IsLate, Safe, SafeAt, LateAt, Since, session}
use Rattle.wf_engine.specs.TheOutside.{InTheOutside}
use Rattle.wf_host.specs.Moments.{CountsNow, joined}
use Rattle.wf_host.specs.World.{World, Faults, LeavesOnly, Told, NoneFell, Rose}
use Rattle.wf_host.specs.declared.data.Deed.{Deed}
use Rattle.wf_host.specs.declared.data.Deed.TheVariants.{Print}
use Rattle.wf_host.specs.Printing as printing
use Rattle.wf_host.specs.Printing.{AllPrints, IsPrint, PrintsFront, PrintedSoFar, printed}
use Rattle.wf_deeds.specs.Language.{Language}
use Rattle.wf_replay.specs.TheLanguage.{the_language}
use Rattle.wf_status.specs.Statuses.{status_code}
use Rattle.wf_status.specs.declared.Refusal.{Refusal}
use Rattle.wf_status.specs.declared.Status.{Status}
use Rattle.wf_status.specs.declared.Status.TheVariants as status

-- a count that rises from a later one rises from an earlier one
pub rose_from : (a b c : ℕ) → a ≤ b → Rose b c → Rose a c
rose_from a b c le rose = omega (arith, le, rose)

pub rose_by : (a b c : ℕ) → Rose a b → b ≤ c → Rose a c
rose_by a b c rose le = omega (arith, le, rose)

pub le_refl : (n : ℕ) → n ≤ n
le_refl n = omega arith

pub none_fell : (a b c : Faults) → NoneFell a b → NoneFell b c → NoneFell a c
none_fell a b c first second = record { disk = omega arith; poll = omega arith; print = omega arith }

-- ## A source that couldn't be read
-- no command has that to say
pub never_unread : (s : Scene) (old new : World) (st : Status) (text : List ℕ) → HasToSay s old new st text → st ≡ status.ReadFault → ⊥
never_unread s old new _ _ (bad_line n bad) is = cc is
never_unread s old new _ _ (bad_argument why) is = cc is
never_unread s old new _ _ (refused r why fine) is = cc is
never_unread s old new _ _ (reported text report back) is = cc is
never_unread s old new _ _ (of_file st text file line taken gives) is = never file is
  where
    never : IsOfFile st → st ≡ status.ReadFault → ⊥
    never (inl other) is = let no : status.NotAJournal ≡ status.ReadFault = sym other ∙ is in cc no
    never (inr (inl other)) is = let no : status.AlreadyStarted ≡ status.ReadFault = sym other ∙ is in cc no
    never (inr (inr (inl other))) is = let no : status.NotStarted ≡ status.ReadFault = sym other ∙ is in cc no
    never (inr (inr (inr (inl (n, other))))) is = let no : status.NotAHistory n ≡ status.ReadFault = sym other ∙ is in cc no
    never (inr (inr (inr (inr (inl other))))) is = let no : status.Suspended ≡ status.ReadFault = sym other ∙ is in cc no
    never (inr (inr (inr (inr (inr (inl other)))))) is = let no : status.Done ≡ status.ReadFault = sym other ∙ is in cc no
    never (inr (inr (inr (inr (inr (inr other)))))) is = let no : status.Raised ≡ status.ReadFault = sym other ∙ is in cc no

-- ## What is printed
-- the deeds since a moment are those of the work and then the prints
deeds_behind : (old mid new : World) (D P : List Deed) → mid.deeds ≡ old.deeds ++ D → new.deeds ≡ mid.deeds ++ P → new.deeds ≡ old.deeds ++ (D ++ P)
deeds_behind old mid new D P is more = more ∙ ap (λ l. l ++ P) is ∙ append_assoc old.deeds D P

printed_behind : (D P : List Deed) → printed D ≡ [] → printed P ≡ printed (D ++ P)
printed_behind D P silent = sym (printed_both D P ∙ ap (λ l. l ++ printed P) silent)

-- the file stays, and nothing but prints is done
pub record OnlyPrinted (mid new : World) : Type 0 where
  pub seen : new.seen ≡ mid.seen
  pub done : List Deed
  pub deeds : new.deeds ≡ mid.deeds ++ done
  pub prints : AllByRecursion IsPrint done

pub only_printed : (mid new : World) (text : List ℕ) → Printing text mid new → OnlyPrinted mid new
only_printed mid new text p = of p.printed
  where
    of : PrintsFront mid new text → OnlyPrinted mid new
    of (P, is, (all, front)) = record { seen = p.seen; done = P; deeds = is; prints = all_prints P all }

-- what was said of the file and of the deeds behind the work is said of those behind the prints
says_later : (s : Scene) (old mid new : World) (st : Status) (text : List ℕ) → Told old (OnlyPrinted mid new) → HasToSay s old mid st text → HasToSay s old new st text
says_later s old mid new _ _ same (bad_line n bad) = bad_line n bad
says_later s old mid new _ _ same (bad_argument why) = bad_argument why
says_later s old mid new _ _ same (refused r why fine) = refused r why fine
says_later s old mid new _ _ same (reported text report back) = reported text report back
says_later s old mid new _ _ same (of_file st text is line accepted gives) =
    of_file st text is line accepted (λ told.
    let g = gives told in
    let more = same told in
    ((g.0.0 ++ more.done, deeds_behind old mid new g.0.0 more.done g.0.1 more.deeds, subst (λ f. MayPrint the_language s f (g.0.0 ++ more.done) st text) (sym more.seen) (gives_behind the_language the_reports s mid.seen g.0.0 more.done st text more.prints g.0.2)), g.1))

-- ## How the call ends
module _ (x : Call) (mid : World) (reads2 : ℕ) (faults2 : Faults) (tells : mid.tells ≡ x.old.tells) where
  still : IsTrue x.old.tells → IsTrue mid.tells
  still told = tells ∙ told

  whole : (did : Told x.old (DoneSilently x.old mid)) (text : List ℕ) → Told mid (printing.PrintsWhole mid x.new text) → Prints x text
  whole did text prints told = of (did told) (prints (still told))
    where
      of : DoneSilently x.old mid → printing.PrintsWhole mid x.new text → (D : List Deed) × (x.new.deeds ≡ x.old.deeds ++ D) × (printed D ≡ text)
      of w (P, is, (all, is_text)) = (w.done ++ P, deeds_behind x.old mid x.new w.done P w.deeds is, sym (printed_behind w.done P w.silent) ∙ is_text)

  some : (did : Told x.old (DoneSilently x.old mid)) (text : List ℕ) → Told mid (printing.LeavesSome mid x.new text) → PrintsSome x text
  some did text prints told = of (did told) (prints (still told))
    where
      of : DoneSilently x.old mid → printing.LeavesSome mid x.new text → (D : List Deed) × (x.new.deeds ≡ x.old.deeds ++ D) × ((b : ℕ) × (rest : List ℕ) × (text ≡ printed D ++ b ∷ rest))
      of w (P, is, (all, (b, rest, is_text))) = (w.done ++ P, deeds_behind x.old mid x.new w.done P w.deeds is, (b, rest, is_text ∙ ap (λ l. l ++ b ∷ rest) (printed_behind w.done P w.silent)))

  took_nothing : (did : Told x.old (DoneSilently x.old mid)) → Told mid (printing.TookNothing mid x.new) → TookNothing x
  took_nothing did took told = of (did told) (took (still told))
    where
      of : DoneSilently x.old mid → printing.TookNothing mid x.new → (D : List Deed) × (x.new.deeds ≡ x.old.deeds ++ D) × Contains D (Print [])
      of w (P, is, among) = (w.done ++ P, deeds_behind x.old mid x.new w.done P w.deeds is, Contains-append_right w.done P (Print []) among)

  nothing : (did : Told x.old (DoneSilently x.old mid)) → Told mid (x.new.deeds ≡ mid.deeds) → Prints x []
  nothing did same told = let w = did told in (w.done, same (still told) ∙ w.deeds, w.silent)

  pub ends : (r : Result Said Silence) → IsEnd x.scene x.old mid x.reads_old reads2 x.faults_old faults2 r → Told x.old (DoneSilently x.old mid) → PrintsSaid r mid x.new faults2 x.faults_new x.status
      → Told x.old (OnlyPrinted mid x.new) → reads2 ≤ x.reads_new → NoneFell x.faults_old faults2 → NoneFell faults2 x.faults_new → Ends x
  ends (Ok it) is did (inl (same, prints)) seen reads before after =
      said it.text.items (subst (λ st. HasToSay x.scene x.old x.new st it.text.items) (sym same) (says_later x.scene x.old mid x.new it.status it.text.items seen is)) (whole did it.text.items prints)
  ends (Ok it) is did (inr (same, why, prints)) seen reads before after =
      cut it.status it.text.items same (says_later x.scene x.old mid x.new it.status it.text.items seen is)
      (⊎_elim (λ rose. inl (rose_from x.faults_old.print faults2.print x.faults_new.print before.print rose)) (λ took. inr (took_nothing did took)) why) (some did it.text.items prints)
  ends (Err silence.Unread) is did (same, none) seen reads before after = unread same is.0 is.1 (rose_by x.reads_old reads2 x.reads_new is.2 reads) (nothing did none)
  ends (Err silence.DiskFault) is did (same, none) seen reads before after =
      failed same is.0 is.1 (rose_by x.faults_old.disk faults2.disk x.faults_new.disk is.2 after.disk) (nothing did none)
  ends (Err silence.PollFault) is did (same, none) seen reads before after =
      unheard same is.0 is.1 is.2 (rose_by x.faults_old.poll faults2.poll x.faults_new.poll is.3 after.poll) (nothing did none)
  ends (Err silence.OutOfMemory) is did (same, none) seen reads before after = no_memory same (nothing did none)

-- ## What a crash may leave
module _ (x : Call) (mid : World) (r : Result Said Silence) (w : InTheOutside (λ O. Worked O x.scene x.old mid r)) (p : Printing (text_of r) mid x.new) (counts_mid : CountsNow mid) (counts_new : CountsNow x.new) (deed : DeedKeepsRules) (end : EndKeepsRules) where
  -- what was printed by then is the front of a text that the command has cause to print
  front : (L : Language) (image : List ℕ) (D P : List Deed) (q : Result Said Silence) → IfOk q (λ it. MayPrint L x.scene image D it.status it.text.items) → (rest : List ℕ) → text_of q ≡ printed P ++ rest → IsFront L the_reports x.scene image D P
  front L image D P (Ok it) gives rest is = inr (it.status, it.text.items, gives, (rest, is))
  front L image D P (Err s) gives rest is = inl (nil (printed P) rest is)
    where
      nil : (a b : List ℕ) → [] ≡ a ++ b → a ≡ []
      nil [] b is = refl
      nil (y ∷ a) b is = absurd (cc is)

  given : (L : Language) (D : List Deed) (q : Result Said Silence) (image : List ℕ) → IfOk q (λ it. (c : List ℕ) → mid.may_leave c → MayPrint L x.scene c D it.status it.text.items) → mid.may_leave image → IfOk q (λ it. MayPrint L x.scene image D it.status it.text.items)
  given L D (Ok it) image gives may = gives image may
  given L D (Err s) image gives may = tt

  module _ (O : Outside) (e : Option Status) (c : List ℕ) (d : List Deed) (now : PrintedSoFar mid (text_of r) c d) where
    -- the deeds of the work
    abbrev did : List Deed
    did = (w O).silently.done

    -- those since the beginning of the call, at the end of the work, are these
    did_is : (D : List Deed) → mid.deeds ≡ x.old.deeds ++ D → did ≡ D
    did_is D was = append_cancel_left x.old.deeds did D (sym (w O).silently.deeds ∙ was)

    safe_print : MayEndBy the_language O (session the_language O the_reports x.scene None c did) e → SafeAt the_language O the_reports x.scene None x.old c mid.deeds → SafeAt the_language O the_reports x.scene e x.old c d
    safe_print may_end (D, was, safe) = by now
      where
        by : PrintedSoFar mid (text_of r) c d → SafeAt the_language O the_reports x.scene e x.old c d
        by (may, (P, is, (all, (rest, parts)))) = (
          did ++ P,
          is ∙ ap (λ l. l ++ P) (w O).silently.deeds ∙ append_assoc x.old.deeds did P,
          safe_behind the_language O the_reports x.scene e deed end x.old.may_leave c did P may_end (w O).silently.silent (all_prints P all)
              (front the_language c did P r (given the_language did r c (w O).gives may) rest parts) (subst (λ E. Safe the_language O the_reports x.scene None x.old.may_leave c E) (sym (did_is D was)) safe),
        )

    late_print : MayEndBy the_language O (session the_language O the_reports x.scene None c did) e → LateAt the_language O the_reports x.scene None x.old c mid.deeds → LateAt the_language O the_reports x.scene e x.old c d
    late_print may_end (D, was, late) = by now
      where
        by : PrintedSoFar mid (text_of r) c d → LateAt the_language O the_reports x.scene e x.old c d
        by (may, (P, is, (all, (rest, parts)))) = (
          did ++ P,
          is ∙ ap (λ l. l ++ P) (w O).silently.deeds ∙ append_assoc x.old.deeds did P,
          late_behind the_language O the_reports x.scene e deed end c did P may_end (w O).silently.silent (all_prints P all)
              (front the_language c did P r (given the_language did r c (w O).gives may) rest parts) (subst (λ E. IsLate the_language O the_reports x.scene None c E) (sym (did_is D was)) late),
        )

  -- an image that a crash may leave behind the work
  at_work : (O : Outside) (c : List ℕ) → IsFit the_language x.scene.found → mid.may_leave c → SafeAt the_language O the_reports x.scene None x.old c mid.deeds
  at_work O c fit may = let so_far = (w O).safe fit in so_far.each c mid.deeds (counts_mid x.old.moment c so_far.later may)

  pub safe_throughout : SafeThroughout the_language x
  safe_throughout fit = λ O.
      joined x.old mid x.new (SafeAt the_language O the_reports x.scene None x.old) (PrintedSoFar mid (text_of r)) ((w O).safe fit) p.moments
      (λ c d now. safe_print O None c d now tt (at_work O c fit now.0))

  -- ## The end
  silent_plain : (e : Silence) → IsPlainEnd (status_code (silent_status e))
  silent_plain silence.Unread = (omega arith, omega arith, omega arith)
  silent_plain silence.DiskFault = (omega arith, omega arith, omega arith)
  silent_plain silence.PollFault = (omega arith, omega arith, omega arith)
  silent_plain silence.OutOfMemory = (omega arith, omega arith, omega arith)

  -- the call may end with its status, as the work may with what it says
  may_end_of : (O : Outside) (q : Result Said Silence) (f g : Faults) (c : List ℕ) → IfOk q (λ it. MayEndNow the_language O x.scene x.old mid it.status) → PrintsSaid q mid x.new f g x.status → mid.may_leave c
      → (D : List Deed) → mid.deeds ≡ x.old.deeds ++ D → MayEnd the_language O (session the_language O the_reports x.scene None c D) (status_code x.status)
  may_end_of O (Ok it) f g c ends (inl (same, prints)) may D is =
      let at = ends c may in
      subst (λ E. MayEnd the_language O (session the_language O the_reports x.scene None c E) (status_code x.status)) (append_cancel_left x.old.deeds at.0 D (sym at.1 ∙ is))
      (subst (λ st. MayEnd the_language O (session the_language O the_reports x.scene None c at.0) (status_code st)) (sym same) at.2)
  may_end_of O (Ok it) f g c ends (inr (same, why, prints)) may D is =
      plain_end the_language O (session the_language O the_reports x.scene None c D) (status_code x.status) (subst (λ st. IsPlainEnd (status_code st)) (sym same) (omega arith, omega arith, omega arith))
  may_end_of O (Err e) f g c ends (same, none) may D is =
      plain_end the_language O (session the_language O the_reports x.scene None c D) (status_code x.status) (subst (λ st. IsPlainEnd (status_code st)) (sym same) (silent_plain e))

  -- what a crash may leave at the end, and that it may be the end
  at_end : (image : List ℕ) → x.new.may_leave image → PrintedSoFar mid (text_of r) image x.new.deeds
  at_end image may = p.moments.each image x.new.deeds (counts_new mid.moment image p.moments.later may)

  ends_so : (O : Outside) (f g : Faults) (image : List ℕ) → PrintsSaid r mid x.new f g x.status → x.new.may_leave image → MayEnd the_language O (session the_language O the_reports x.scene None image (w O).silently.done) (status_code x.status)
  ends_so O f g image tells may = may_end_of O r f g image (w O).ends tells (at_end image may).0 (w O).silently.done (w O).silently.deeds

  pub safe_at_end : (f g : Faults) → PrintsSaid r mid x.new f g x.status → SafeAtEnd the_language x
  safe_at_end f g tells fit = λ O image may.
      safe_print O (Some x.status) image x.new.deeds (at_end image may) (ends_so O f g image tells may) (at_work O image fit (at_end image may).0)

  -- ## Behind the opening's sync
  silent_early : (e : Silence) → ¬ IsBehindSync x.scene (silent_status e)
  silent_early silence.Unread behind = behind
  silent_early silence.DiskFault behind = behind
  silent_early silence.PollFault behind = behind
  silent_early silence.OutOfMemory behind = behind

  late_of : (O : Outside) (q : Result Said Silence) (f g : Faults) → IfOk q (λ it. IsBehindSync x.scene it.status → LateNow the_language O x.scene x.old mid) → PrintsSaid q mid x.new f g x.status → IsBehindSync x.scene x.status
      → LateNow the_language O x.scene x.old mid
  late_of O (Ok it) f g late (inl (same, prints)) behind = late (subst (IsBehindSync x.scene) same behind)
  late_of O (Ok it) f g late (inr (same, why, prints)) behind = absurd (subst (IsBehindSync x.scene) same behind)
  late_of O (Err e) f g late (same, none) behind = absurd (silent_early e (subst (IsBehindSync x.scene) same behind))

  pub late_at_end : (f g : Faults) → PrintsSaid r mid x.new f g x.status → LateAtEnd the_language x
  late_at_end f g tells behind fit = λ O image may.
      late_print O (Some x.status) image x.new.deeds (at_end image may) (ends_so O f g image tells may) (late_of O r f g (w O).late tells behind fit image (at_end image may).0)

  -- ## What isn't written
  work : Worked some_outside x.scene x.old mid r
  work = in_some (λ O. Worked O x.scene x.old mid r) w

  unwritten : Unwritten x.old mid → WritesNothing x
  unwritten (moments, seen) = (
    joined x.old mid x.new (λ c d. x.old.may_leave c) (PrintedSoFar mid (text_of r)) moments p.moments (λ c d now. moments.each c mid.deeds (counts_mid x.old.moment c moments.later now.0)),
    p.seen ∙ seen,
  )

  only_prints : mid.deeds ≡ x.old.deeds → PrintsFront mid x.new (text_of r) → (D : List Deed) × (x.new.deeds ≡ x.old.deeds ++ D) × AllPrints D
  only_prints none (P, is, (all, front)) = (P, is ∙ ap (λ l. l ++ P) none, all)

  -- where the command may not write, nothing but prints is done
  silent : ¬ MayWrite x.scene → OnlyPrints x
  silent never = (⊎_elim unwritten (λ may. absurd (never may)) work.writes, only_prints (work.idle never) p.printed)

  pub finished_stays : FinishedStays the_language x
  finished_stays st line is ended =
      let it = work.finished st line is ended in
      (unwritten it.0, only_prints it.1 p.printed)

  -- readings of the clock, and then prints
  small_prints : AllByRecursion IsSmall work.silently.done → PrintsFront mid x.new (text_of r) → (D : List Deed) × (x.new.deeds ≡ x.old.deeds ++ D) × AllByRecursion IsSmall D
  small_prints small (P, is, (all, front)) =
      (work.silently.done ++ P, deeds_behind x.old mid x.new work.silently.done P work.silently.deeds is, all_both IsSmall work.silently.done P small (prints_small P (all_prints P all)))

  pub refused_stays : RefusedStays the_language x
  refused_stays why = let it = work.refused why in (unwritten it.0, small_prints it.1 p.printed)

  -- a line that may write, and why none may
  pub reports_stay : ReportsStay x
  reports_stay line = silent (λ may. executing x.scene may.0 line)

  -- a source that couldn't be read
  unread_work : (q : Result Said Silence) (a b : ℕ) (f g h : Faults) → IsEnd x.scene x.old mid a b f g q → PrintsSaid q mid x.new g h x.status → x.status ≡ status.ReadFault → IsErrOf q silence.Unread
  unread_work (Ok it) a b f g h is (inl (same, prints)) is_so = absurd (never_unread x.scene x.old mid it.status it.text.items is (sym same ∙ is_so))
  unread_work (Ok it) a b f g h is (inr (same, why, prints)) is_so = let no : status.PrintFault ≡ status.ReadFault = sym same ∙ is_so in absurd (cc no)
  unread_work (Err silence.Unread) a b f g h is (same, none) is_so = refl
  unread_work (Err silence.DiskFault) a b f g h is (same, none) is_so = let no : status.DiskFault ≡ status.ReadFault = sym same ∙ is_so in absurd (cc no)
  unread_work (Err silence.PollFault) a b f g h is (same, none) is_so = let no : status.PollFault ≡ status.ReadFault = sym same ∙ is_so in absurd (cc no)
  unread_work (Err silence.OutOfMemory) a b f g h is (same, none) is_so = let no : status.OutOfMemory ≡ status.ReadFault = sym same ∙ is_so in absurd (cc no)

  pub silent_stays : (a b : ℕ) (f g h : Faults) → IsEnd x.scene x.old mid a b f g r → PrintsSaid r mid x.new g h x.status → SilentStays x
  silent_stays a b f g h is tells = record {
    bad_line = λ n bad. silent (λ may. no_bad_line x.scene (λ c. executes c ≡ true) n may.0 bad);
    bad_argument = λ bad. silent (λ may. may.1.argument bad);
    refused = where_told x.scene.source _ (λ left told q why. silent (λ may. when_told x.scene.source left ((z : Refusal) → ¬ IsRefused x.scene z) told may.1.source q why));
    unread = λ is_so. let it = work.unread (unread_work r a b f g h is tells is_so) in (unwritten it.0, only_prints it.1 p.printed);
  }

  -- ## How often it polls
  polled_behind : (n : ℕ) (c : List ℕ) (d : List Deed) → Since x.old mid.deeds (λ D. polls D ≤ n) → PrintedSoFar mid (text_of r) c d → Since x.old d (λ D. polls D ≤ n)
  polled_behind n c d (D, is, few) (may, (P, more, (all, front))) = (
    D ++ P,
    more ∙ ap (λ l. l ++ P) is ∙ append_assoc x.old.deeds D P,
    let same = polls_behind D P (all_prints P all) in omega (arith, same, few),
  )

  polled_by : (l : PlainLine) → IsLine x.scene l → LeavesOnly x.old x.new (λ image all. Since x.old all (λ D. polls D ≤ waits_of l))
  polled_by l is =
      let so_far = work.polled l is in
      joined x.old mid x.new (λ image all. Since x.old all (λ D. polls D ≤ waits_of l)) (PrintedSoFar mid (text_of r)) so_far p.moments
      (λ c d now. polled_behind (waits_of l) c d (so_far.each c mid.deeds (counts_mid x.old.moment c so_far.later now.0)) now)

  pub polls_within : x.new.may_leave x.new.seen → PollsWithin x
  polls_within reads = record {
    moments = polled_by;
    at_end = λ l is. let all = polled_by l is in all.each x.new.seen x.new.deeds (counts_new x.old.moment x.new.seen all.later reads);
  }
