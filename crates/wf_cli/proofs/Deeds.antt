-- Lists of deeds, one behind another.
use Rattle.std.proofs.Common.{◌≡◌, ◌+◌, ℕ, suc, true, false, nat_eq, List, [], ◌∷◌, ◌++◌, refl, sym, ◌∙◌, ap, subst, append_assoc, arith}
use Rattle.std.specs.List.{AllByRecursion}
use Rattle.std.proofs.lemmas.List.Elements.{All-head, All-tail}
use Rattle.wf_lemmas.proofs.Bools.{or_more}
use Rattle.wf_lemmas.proofs.Lists.{all_at}
use Rattle.wf_deeds.specs.Deeds.{polls, nows, poll_readings, before_poll, was_replied, IsSmall}
use Rattle.wf_host.specs.Printing.{AllPrints, IsPrint, printed}
use Rattle.wf_host.specs.declared.data.Deed.{Deed}
use Rattle.wf_host.specs.declared.data.Deed.TheVariants.{Start, Poll, Now, Reply, Drop, Print}
use Rattle.wf_host.specs.declared.data.Heard.{Heard}

-- ## Prints behind
pub nows_behind : (D P : List Deed) → AllByRecursion IsPrint P → nows (D ++ P) ≡ nows D
nows_behind [] [] prints = refl
nows_behind [] (d ∷ P) prints = ap (λ e. nows (e ∷ P)) prints.0.1 ∙ nows_behind [] P prints.1
nows_behind (Start k a b ∷ D) P prints = nows_behind D P prints
nows_behind (Poll u h ∷ D) P prints = nows_behind D P prints
nows_behind (Now t ∷ D) P prints = ap (λ l. t ∷ l) (nows_behind D P prints)
nows_behind (Reply n b ∷ D) P prints = nows_behind D P prints
nows_behind (Drop k ∷ D) P prints = nows_behind D P prints
nows_behind (Print b ∷ D) P prints = nows_behind D P prints

pub polls_behind : (D P : List Deed) → AllByRecursion IsPrint P → polls (D ++ P) ≡ polls D
polls_behind [] [] prints = refl
polls_behind [] (d ∷ P) prints = ap (λ e. polls (e ∷ P)) prints.0.1 ∙ polls_behind [] P prints.1
polls_behind (Start k a b ∷ D) P prints = polls_behind D P prints
polls_behind (Poll u h ∷ D) P prints = ap suc (polls_behind D P prints)
polls_behind (Now t ∷ D) P prints = polls_behind D P prints
polls_behind (Reply n b ∷ D) P prints = polls_behind D P prints
polls_behind (Drop k ∷ D) P prints = polls_behind D P prints
polls_behind (Print b ∷ D) P prints = polls_behind D P prints

pub poll_readings_behind : (D P : List Deed) → AllByRecursion IsPrint P → poll_readings (D ++ P) ≡ poll_readings D
poll_readings_behind [] [] prints = refl
poll_readings_behind [] (d ∷ P) prints = ap (λ e. poll_readings (e ∷ P)) prints.0.1 ∙ poll_readings_behind [] P prints.1
poll_readings_behind (Start k a b ∷ D) P prints = poll_readings_behind D P prints
poll_readings_behind (Poll u h ∷ D) P prints = ap (λ l. h.reading ∷ l) (poll_readings_behind D P prints)
poll_readings_behind (Now t ∷ D) P prints = poll_readings_behind D P prints
poll_readings_behind (Reply n b ∷ D) P prints = poll_readings_behind D P prints
poll_readings_behind (Drop k ∷ D) P prints = poll_readings_behind D P prints
poll_readings_behind (Print b ∷ D) P prints = poll_readings_behind D P prints

-- ## What was read and printed
pub nows_both : (D E : List Deed) → nows (D ++ E) ≡ nows D ++ nows E
nows_both [] E = refl
nows_both (Start k a b ∷ D) E = nows_both D E
nows_both (Poll u h ∷ D) E = nows_both D E
nows_both (Now t ∷ D) E = ap (λ l. t ∷ l) (nows_both D E)
nows_both (Reply n b ∷ D) E = nows_both D E
nows_both (Drop k ∷ D) E = nows_both D E
nows_both (Print b ∷ D) E = nows_both D E

pub polls_both : (D E : List Deed) → polls (D ++ E) ≡ polls D + polls E
polls_both [] E = omega arith
polls_both (Start k a b ∷ D) E = polls_both D E
polls_both (Poll u h ∷ D) E = let rest = polls_both D E in omega (arith, rest)
polls_both (Now t ∷ D) E = polls_both D E
polls_both (Reply n b ∷ D) E = polls_both D E
polls_both (Drop k ∷ D) E = polls_both D E
polls_both (Print b ∷ D) E = polls_both D E

pub printed_both : (D E : List Deed) → printed (D ++ E) ≡ printed D ++ printed E
printed_both [] E = refl
printed_both (Start k a b ∷ D) E = printed_both D E
printed_both (Poll u h ∷ D) E = printed_both D E
printed_both (Now t ∷ D) E = printed_both D E
printed_both (Reply n b ∷ D) E = printed_both D E
printed_both (Drop k ∷ D) E = printed_both D E
printed_both (Print b ∷ D) E = ap (λ l. b ++ l) (printed_both D E) ∙ sym (append_assoc b (printed D) (printed E))

-- ## All of them
pub all_prints : (D : List Deed) → AllPrints D → AllByRecursion IsPrint D
all_prints [] all = tt
all_prints (d ∷ D) all = (All-head IsPrint d D all, all_prints D (All-tail IsPrint d D all))

print_small : (d : Deed) → IsPrint d → IsSmall d
print_small d (b, is) = subst IsSmall (sym is) tt

pub prints_small : (D : List Deed) → AllByRecursion IsPrint D → AllByRecursion IsSmall D
prints_small [] all = tt
prints_small (d ∷ D) all = (print_small d all.0, prints_small D all.1)

-- small deeds poll nothing
pub small_polls : (D : List Deed) → AllByRecursion IsSmall D → polls D ≡ 0
small_polls [] small = refl
small_polls (Start k a b ∷ D) small = absurd small.0
small_polls (Poll u h ∷ D) small = absurd small.0
small_polls (Now t ∷ D) small = small_polls D small.1
small_polls (Reply n b ∷ D) small = absurd small.0
small_polls (Drop k ∷ D) small = absurd small.0
small_polls (Print b ∷ D) small = small_polls D small.1

-- a poll is no print
pub poll_is_no_print : (until : ℕ) (h : Heard) → ¬ IsPrint (Poll until h)
poll_is_no_print until h (b, is) = cc is

-- ## A deed among deeds with prints behind
abbrev first_of : Deed → List Deed → Deed
first_of e [] = e
first_of e (d ∷ D) = d

abbrev rest_of : List Deed → List Deed
rest_of [] = []
rest_of (d ∷ D) = D

-- one that is no print stands before the prints
pub before_prints : (D P before behind : List Deed) (d : Deed) → AllByRecursion IsPrint P → ¬ IsPrint d → D ++ P ≡ before ++ d ∷ behind → (rest : List Deed) × (D ≡ before ++ d ∷ rest) × (behind ≡ rest ++ P)
before_prints [] P before behind d prints other is = absurd (other (all_at IsPrint before d behind (subst (λ l. AllByRecursion IsPrint l) is prints)))
before_prints (e ∷ D) P [] behind d prints other is = (D, ap (λ f. f ∷ D) (ap (λ l. first_of e l) is), sym (ap rest_of is))
before_prints (e ∷ D) P (b ∷ before) behind d prints other is =
    let more = before_prints D P before behind d prints other (ap rest_of is) in
    (more.0, ap (λ f. f ∷ D) (ap (λ l. first_of e l) is) ∙ ap (λ l. b ∷ l) more.1, more.2)

-- a reply that was made before the next poll
pub replied_behind : (n : ℕ) (D P : List Deed) → was_replied n (before_poll D) ≡ true → was_replied n (before_poll (D ++ P)) ≡ true
replied_behind n [] P is = let no : false ≡ true = is in absurd (cc no)
replied_behind n (Start k a b ∷ D) P is = replied_behind n D P is
replied_behind n (Poll u h ∷ D) P is = is
replied_behind n (Now t ∷ D) P is = replied_behind n D P is
replied_behind n (Reply j b ∷ D) P is = or_more (nat_eq j n) (was_replied n (before_poll D)) (was_replied n (before_poll (D ++ P))) (replied_behind n D P) is
replied_behind n (Drop k ∷ D) P is = replied_behind n D P is
replied_behind n (Print b ∷ D) P is = replied_behind n D P is
