-- Laws of what was printed, and a loop that prints.
use Rattle.std.proofs.Common.{◌≡◌, ◌==◌, ℕ, IsTrue, true, false, length, List, [], ◌∷◌, ◌++◌, take, drop, ⊎_elim, refl, sym, ◌∙◌, ap, subst, append_assoc, arith}
use Rattle.std.proofs.lemmas.List.{append-nil, take-append-drop}
use Rattle.std.proofs.lemmas.List.Elements.{All-nil, All-push, Contains-append_right}
use Rattle.wf_host.specs.declared.data.Deed.{Deed}
use Rattle.wf_host.specs.declared.data.Deed.TheVariants.{Start, Poll, Now, Reply, Drop, Print}
use Rattle.wf_host.specs.World.{World, Faults, Told, Same, Elapses, LeavesOnly, NoneFell}
use Rattle.wf_host.specs.Moments.{CountsNow, started, goes_on, goes_on_same, same_deeds}
use Rattle.wf_host.specs.Printing.{printed, IsPrint, AllPrints, PrintsFront, LeavesSome, TookNothing, PrintedSoFar}

-- ## What was printed

-- one list of deeds after another prints the bytes of both
pub printed-append : (D E : List Deed) → printed (D ++ E) ≡ printed D ++ printed E
printed-append [] E = refl
printed-append (Print b ∷ ds) E = ap (λ l. b ++ l) (printed-append ds E) ∙ sym (append_assoc b (printed ds) (printed E))
printed-append (Start k a b ∷ ds) E = printed-append ds E
printed-append (Poll u h ∷ ds) E = printed-append ds E
printed-append (Now t ∷ ds) E = printed-append ds E
printed-append (Reply n b ∷ ds) E = printed-append ds E
printed-append (Drop k ∷ ds) E = printed-append ds E

-- ## The loop

-- so far this front of the text was printed, and the rest wasn't
pub record SoFar (first now : World) (text rest : List ℕ) : Type 0 where
  pub D : List Deed
  pub deeds : now.deeds ≡ first.deeds ++ D
  pub prints : AllPrints D
  pub parts : text ≡ printed D ++ rest
  pub within : (c : List ℕ) → now.may_leave c → first.may_leave c
  pub moments : LeavesOnly first now (PrintedSoFar first text)
  pub seen : now.seen ≡ first.seen

-- what the loop keeps
pub record Kept (first now : World) (before after : Faults) (text rest : List ℕ) : Type 0 where
  pub so_far : Told first (SoFar first now text rest)
  pub tells : now.tells ≡ first.tells
  pub counts : NoneFell before after

-- a host that told still tells
pub still_tells : (old new : World) → new.tells ≡ old.tells → IsTrue old.tells → IsTrue new.tells
still_tells old new same told = same ∙ told

-- no count falls by nothing, nor by one call after another
pub NoneFell-refl : (f : Faults) → NoneFell f f
NoneFell-refl f = record { disk = omega arith; poll = omega arith; print = omega arith }

pub NoneFell-trans : (a b c : Faults) → NoneFell a b → NoneFell b c → NoneFell a c
NoneFell-trans a b c first second = record { disk = omega arith; poll = omega arith; print = omega arith }

-- before the first print
pub starts : (w : World) (text : List ℕ) → ((c : List ℕ) (d : List Deed) → w.left_since w.moment c d → w.may_leave c × (d ≡ w.deeds)) → SoFar w w text text
starts w text only = record {
  D = [];
  deeds = sym (append-nil w.deeds);
  prints = All-nil IsPrint;
  parts = refl;
  within = λ c may. may;
  moments = started w (PrintedSoFar w text) only (λ c may. (may, ([], sym (append-nil w.deeds), (All-nil IsPrint, (text, refl)))));
  seen = refl;
}

-- the front so far, in the words of the contract
pub front_so_far : (first now : World) (text rest : List ℕ) → SoFar first now text rest → PrintsFront first now text
front_so_far first now text rest s = (s.D, s.deeds, (s.prints, (rest, s.parts)))

-- where the rest isn't empty
pub some_so_far : (first now : World) (text rest : List ℕ) → false ≡ (length rest == 0) → SoFar first now text rest → LeavesSome first now text
some_so_far first now text [] more s = let no : false ≡ true = more in cc no
some_so_far first now text (b ∷ rest) more s = (s.D, s.deeds, (s.prints, (b, rest, s.parts)))

-- a call that writes nothing leaves no other file
still_within : (first mid new : World) (deed : List Deed) → ((c : List ℕ) → mid.may_leave c → first.may_leave c) → CountsNow new → Elapses Same deed mid new → (c : List ℕ) → new.may_leave c → first.may_leave c
still_within first mid new deed within counts time c may =
    let left = time.during c new.deeds (counts mid.moment c time.later may) in subst first.may_leave (sym left.0.2) (within left.0.0 left.0.1)

-- a print that failed changes nothing of it
pub stays : (first mid new : World) (text rest : List ℕ) → SoFar first mid text rest → CountsNow mid → CountsNow new → new.seen ≡ mid.seen → Elapses Same [] mid new → SoFar first new text rest
stays first mid new text rest s counts counts2 seen time = record {
  D = s.D;
  deeds = same_deeds mid new Same time ∙ s.deeds;
  prints = s.prints;
  parts = s.parts;
  within = λ c may. still_within first mid new [] s.within counts2 time c may;
  moments = goes_on_same first mid new (PrintedSoFar first text) s.moments counts time;
  seen = seen ∙ s.seen;
}

-- one print more
pub one_more : (first mid new : World) (text rest : List ℕ) (n : ℕ) → SoFar first mid text rest → CountsNow new → new.seen ≡ mid.seen → Elapses Same (Print (take n rest) ∷ []) mid new → SoFar first new text (drop n rest)
one_more first mid new text rest n s counts seen time = record {
  D = s.D ++ Print (take n rest) ∷ [];
  deeds = more;
  prints = prints;
  parts = parts;
  within = λ c may. still_within first mid new (Print (take n rest) ∷ []) s.within counts time c may;
  moments = goes_on first mid new (PrintedSoFar first text) Same (Print (take n rest) ∷ []) s.moments time (λ c d left deeds. (
    subst first.may_leave (sym left.2) (s.within left.0 left.1),
    ⊎_elim (λ is. (s.D, is ∙ s.deeds, (s.prints, (rest, s.parts)))) (λ is. (s.D ++ Print (take n rest) ∷ [], is ∙ more, (prints, (drop n rest, parts)))) deeds,
  ));
  seen = seen ∙ s.seen;
}
  where
    more : new.deeds ≡ first.deeds ++ (s.D ++ Print (take n rest) ∷ [])
    more = time.deeds ∙ ap (λ l. l ++ Print (take n rest) ∷ []) s.deeds ∙ append_assoc first.deeds s.D (Print (take n rest) ∷ [])

    prints : AllPrints (s.D ++ Print (take n rest) ∷ [])
    prints = All-push IsPrint s.D (Print (take n rest)) s.prints (take n rest, refl)

    parts : text ≡ printed (s.D ++ Print (take n rest) ∷ []) ++ drop n rest
    parts =
        s.parts ∙ ap (λ l. printed s.D ++ l) (sym (take-append-drop n rest)) ∙ sym (append_assoc (printed s.D) (take n rest) (drop n rest))
        ∙ ap (λ l. l ++ drop n rest) (ap (λ l. printed s.D ++ l) (sym (append-nil (take n rest))) ∙ sym (printed-append s.D (Print (take n rest) ∷ [])))

-- a print that took nothing leaves the same rest
pub none_more : (first mid new : World) (text rest : List ℕ) (n : ℕ) → n ≡ 0 → SoFar first mid text rest → CountsNow new → new.seen ≡ mid.seen → Elapses Same (Print (take n rest) ∷ []) mid new → SoFar first new text rest
none_more first mid new text rest n none s counts seen time =
    subst (λ k. SoFar first new text (drop k rest)) none (one_more first mid new text rest n s counts seen time)

-- and it is among the deeds
pub took_nothing : (first mid new : World) (text rest : List ℕ) (n : ℕ) → n ≡ 0 → SoFar first mid text rest → Elapses Same (Print (take n rest) ∷ []) mid new → TookNothing first new
took_nothing first mid new text rest n none s time =
    let nothing : Print (take n rest) ≡ Print [] = ap (λ k. Print (take k rest)) none in (
      s.D ++ Print (take n rest) ∷ [],
      time.deeds ∙ ap (λ l. l ++ Print (take n rest) ∷ []) s.deeds ∙ append_assoc first.deeds s.D (Print (take n rest) ∷ []),
      Contains-append_right s.D (Print (take n rest) ∷ []) (Print []) (0, omega arith, nothing),
    )
