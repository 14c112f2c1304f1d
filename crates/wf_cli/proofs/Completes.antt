-- Where no cause holds, the command does its work, or there is no memory.
use Rattle.std.proofs.Common.{◌≡◌, ◌⊎◌, ⊎_elim, inl, inr, IsTrue, ℕ, Bool, true, false, List, refl, ap, subst}
use Rattle.wf_cli.proofs.Causes.{not_both, executing, Cause, gives_cause}
use Rattle.wf_cli.proofs.Rows.{suspended_row}
use Rattle.wf_cli.specs.Top.{Call, IsLineOf, IsOfFile, MayPrint, HasToSay, bad_line, bad_argument, refused, reported, of_file, Ends, said, cut, unread, failed, unheard, no_memory, HasNoCause, Completes}
use Rattle.wf_engine.specs.Printed as end
use Rattle.wf_engine.specs.Printed.{Scene, executes}
use Rattle.wf_host.specs.declared.data.Deed.{Deed}
use Rattle.wf_deeds.specs.Language.{Language}
use Rattle.wf_args.specs.Lines.{line_of}
use Rattle.wf_replay.specs.TheLanguage.{the_language}
use Rattle.wf_status.specs.declared.Status.{Status}
use Rattle.wf_status.specs.declared.Status.TheVariants as status

-- a command that executes nothing does its work just with Done
abbrev is_work : Status → Bool
is_work status.Done = true
is_work status.Raised = true
is_work status.Suspended = true
is_work st = false

idle_done : (L : Language) (s : Scene) (image : List ℕ) (D : List Deed) (st : Status) (text : List ℕ) → IsLineOf s (λ c. executes c ≡ false) → MayPrint L s image D st text → is_work st ≡ true → st ≡ status.Done
idle_done L s image D _ _ line (end.bad_line n bad) is = let no : false ≡ true = is in absurd (cc no)
idle_done L s image D _ _ line (end.bad_argument why) is = let no : false ≡ true = is in absurd (cc no)
idle_done L s image D _ _ line (end.refused r why) is = let no : false ≡ true = is in absurd (cc no)
idle_done L s image D _ _ line (end.not_a_journal why) is = let no : false ≡ true = is in absurd (cc no)
idle_done L s image D _ _ line (end.already_started why) is = let no : false ≡ true = is in absurd (cc no)
idle_done L s image D _ _ line (end.not_started why) is = let no : false ≡ true = is in absurd (cc no)
idle_done L s image D _ _ line (end.not_a_history n why) is = let no : false ≡ true = is in absurd (cc no)
idle_done L s image D _ _ line (end.suspended why) is = absurd (executing s why.0.0 line)
idle_done L s image D _ _ line (end.ended o st has which) is = absurd (executing s has.0 line)
idle_done L s image D _ _ line (end.done text report) is = refl
idle_done L s image D _ _ line (end.told text tells) is = refl

module _ (x : Call) (none : HasNoCause the_language x) where
  abbrev IsWork : Status → Type 0
  IsWork st = (st ≡ status.Done) ⊎ (st ≡ status.Raised) ⊎ (st ≡ status.Suspended)

  -- a status of the file that has its cause
  of_the_file : (st : Status) → IsOfFile st → Cause the_language x.scene st → IsWork st
  of_the_file st (inl is) cause = absurd (none.file.magic (subst (Cause the_language x.scene) is cause))
  of_the_file st (inr (inl is)) cause = absurd (none.file.started (subst (Cause the_language x.scene) is cause))
  of_the_file st (inr (inr (inl is))) cause = absurd (none.file.not_started (subst (Cause the_language x.scene) is cause))
  of_the_file st (inr (inr (inr (inl (n, is))))) cause = absurd (none.file.history n (subst (Cause the_language x.scene) is cause))
  of_the_file st (inr (inr (inr (inr (inl is))))) cause = inr (inr is)
  of_the_file st (inr (inr (inr (inr (inr (inl is)))))) cause = inl is
  of_the_file st (inr (inr (inr (inr (inr (inr is)))))) cause = inr (inl is)

  says_work : (st : Status) (text : List ℕ) → IsTrue x.old.tells → HasToSay x.scene x.old x.new st text → IsWork st
  says_work _ _ told (bad_line n bad) = absurd (not_both (line_of x.scene.words) none.line.0 n none.line.1 bad)
  says_work _ _ told (bad_argument why) = absurd (none.argument why)
  says_work _ _ told (refused r why fine) = absurd (none.source r why)
  says_work _ _ told (reported text report back) = inl refl
  says_work _ _ told (of_file st text is line accepted gives) = let g = (gives told).0 in of_the_file st is (gives_cause the_language x.scene x.new.seen g.0 st text g.2)

  says_done : (st : Status) (text : List ℕ) → IsTrue x.old.tells → IsLineOf x.scene (λ c. executes c ≡ false) → HasToSay x.scene x.old x.new st text → st ≡ status.Done
  says_done _ _ told report (bad_line n bad) = absurd (not_both (line_of x.scene.words) none.line.0 n none.line.1 bad)
  says_done _ _ told report (bad_argument why) = absurd (none.argument why)
  says_done _ _ told report (refused r why fine) = absurd (none.source r why)
  says_done _ _ told report (reported text shown back) = refl
  says_done _ _ told report (of_file st text is line accepted gives) =
      let g = (gives told).0 in
      let work : is_work st ≡ true = ⊎_elim (λ done. ap is_work done) (λ other. ⊎_elim (λ raised. ap is_work raised) (λ suspended. ap is_work suspended) other) (of_the_file st is (gives_cause the_language x.scene x.new.seen g.0 st text g.2)) in
      idle_done the_language x.scene x.new.seen g.0 st text report g.2 work

  abbrev IsOrLacks : Type 0 → Type 0
  IsOrLacks P = P ⊎ (x.status ≡ status.OutOfMemory)

  -- every end but these two has a cause
  said_or_lacks : (P : Type 0) → ((text : List ℕ) → HasToSay x.scene x.old x.new x.status text → P) → Ends x → IsOrLacks P
  said_or_lacks P so (said text says prints) = inl (so text says)
  said_or_lacks P so (cut st text is says (inl rose) some) = absurd (none.prints rose)
  said_or_lacks P so (cut st text is says (inr took) some) = absurd (none.took took)
  said_or_lacks P so (unread is line fine rose prints) = absurd (none.reads rose)
  said_or_lacks P so (failed is line accepted rose prints) = absurd (none.disk rose)
  said_or_lacks P so (unheard is line accepted passed rose prints) = absurd (none.polls rose)
  said_or_lacks P so (no_memory is prints) = inr is

four : {A B C D : Type 0} → (A ⊎ B ⊎ C) ⊎ D → A ⊎ B ⊎ C ⊎ D
four (inl (inl a)) = inl a
four (inl (inr (inl b))) = inr (inl b)
four (inl (inr (inr c))) = inr (inr (inl c))
four (inr d) = inr (inr (inr d))

-- where the third can't be
three : {A B C D : Type 0} → ¬ C → A ⊎ B ⊎ C ⊎ D → A ⊎ B ⊎ D
three never (inl a) = inl a
three never (inr (inl b)) = inr (inl b)
three never (inr (inr (inl c))) = absurd (never c)
three never (inr (inr (inr d))) = inr (inr d)

any_of : (x : Call) → IsTrue x.old.tells → Ends x → HasNoCause the_language x → (x.status ≡ status.Done) ⊎ (x.status ≡ status.Raised) ⊎ (x.status ≡ status.Suspended) ⊎ (x.status ≡ status.OutOfMemory)
any_of x told ends none = four (said_or_lacks x none ((x.status ≡ status.Done) ⊎ (x.status ≡ status.Raised) ⊎ (x.status ≡ status.Suspended)) (λ text says. says_work x none x.status text told says) ends)

pub completes : (x : Call) → IsTrue x.old.tells → Ends x → Completes the_language x
completes x told ends = record {
  any = λ none. any_of x told ends none;
  outcome = λ none over. three (λ is. over ((suspended_row x told ends).comes is)) (any_of x told ends none);
  report = λ none line. said_or_lacks x none (x.status ≡ status.Done) (λ text says. says_done x none x.status text told line says) ends;
}
