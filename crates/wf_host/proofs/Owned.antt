-- What is ahead of a host in memory is of calls that were started and not dropped since.
use Rattle.std.proofs.Common.{◌≡◌, ℕ, Bool, true, false, cond, if◌then◌else◌, leb, length, List, [], ◌∷◌, ◌++◌, drop, filter, Option, None, Some, not, refl, ap, ◌∙◌, subst}
use Rattle.std.specs.Prelude.{⊤, Vec, ◌==◌}
use Rattle.std.specs.Global.{Global}
use Rattle.std.proofs.lemmas.Bool.{eq-eqb}
use Rattle.wf_lemmas.proofs.Options.{same_some}
use Rattle.wf_host.specs.declared.data.Deed.{Deed}
use Rattle.wf_host.specs.declared.data.Deed.TheVariants.{Start, Poll, Now, Reply, Drop, Print}
use Rattle.wf_host.specs.declared.data.What.{What}
use Rattle.wf_host.specs.declared.data.What.TheVariants.{Nothing, Bytes, End, Broken, Visit, VisitEnd}
use Rattle.wf_host.specs.declared.plan.Service.{Service}
use Rattle.wf_host.specs.declared.plan.Reply.{Reply as Answer}
use Rattle.wf_host.specs.declared.plan.Close.{Close}
use Rattle.wf_host.specs.declared.plan.Close.TheVariants.{End as Whole, Broken as Cut, Silent}
use Rattle.wf_host.specs.World.{call_of, visit_of}
use Rattle.wf_host.specs.Hearing.{open_after, open_from, HeardIsStarted}
use Rattle.wf_host.specs.Ahead.{Line, Ahead, front, back, first_of, without_first, speaks, spoken, next_of, told, next_thing, answer_to, starts_to, ending, pieces, line_of, at_first, piece_limit, after_deed, ahead_from, ahead}

-- these things are of this call
abbrev OfCall : ℕ → List What → Type 0
OfCall k [] = ⊤
OfCall k (w ∷ rest) = (call_of w ≡ Some k) × OfCall k rest

-- a line of one of these calls, which tells of it alone
pub record Owned (were : ℕ → Bool) (l : Line) : Type 0 where
  pub started : were l.of ≡ true
  pub own : OfCall l.of l.left

abbrev AllOwned : (ℕ → Bool) → List Line → Type 0
AllOwned were [] = ⊤
AllOwned were (l ∷ rest) = Owned were l × AllOwned were rest

own_front : (limit k : ℕ) (w : What) → call_of w ≡ Some k → call_of (front limit w) ≡ Some k
own_front limit k Nothing is = is
own_front limit k (Bytes n bytes) is = is
own_front limit k (End n) is = is
own_front limit k (Broken n) is = is
own_front limit k (Visit n bytes) is = is
own_front limit k (VisitEnd n) is = is

own_rest : (k : ℕ) (b : Bool) (w : What) (rest : List What) → call_of w ≡ Some k → OfCall k rest → OfCall k ((if b then [] else w ∷ []) ++ rest)
own_rest k true w rest is more = more
own_rest k false w rest is more = (is, more)

own_back : (limit k : ℕ) (w : What) (rest : List What) → call_of w ≡ Some k → OfCall k rest → OfCall k (back limit w ++ rest)
own_back limit k Nothing rest is more = more
own_back limit k (Bytes n bytes) rest is more = own_rest k (leb (length bytes) limit) (Bytes n (drop limit bytes)) rest is more
own_back limit k (End n) rest is more = more
own_back limit k (Broken n) rest is more = more
own_back limit k (Visit n bytes) rest is more = own_rest k (leb (length bytes) limit) (Visit n (drop limit bytes)) rest is more
own_back limit k (VisitEnd n) rest is more = more

own_spoken : (limit k : ℕ) (left : List What) → OfCall k left → OfCall k (without_first limit left)
own_spoken limit k [] is = is
own_spoken limit k (w ∷ rest) is = own_back limit k w rest is.0 is.1

no_visit : (k : ℕ) (w : What) → call_of w ≡ Some k → visit_of w ≡ None
no_visit k Nothing is = refl
no_visit k (Bytes n bytes) is = refl
no_visit k (End n) is = refl
no_visit k (Broken n) is = refl
no_visit k (Visit n bytes) is = absurd (cc is)
no_visit k (VisitEnd n) is = absurd (cc is)

first_alone : (limit k : ℕ) (left : List What) → OfCall k left → visit_of (first_of limit left) ≡ None
first_alone limit k [] is = refl
first_alone limit k (w ∷ rest) is = no_visit k (front limit w) (own_front limit k w is.0)

first_started : (were : ℕ → Bool) (limit n k : ℕ) (left : List What) → were n ≡ true → OfCall n left → call_of (first_of limit left) ≡ Some k → were k ≡ true
first_started were limit n k [] started is heard = absurd (cc heard)
first_started were limit n k (w ∷ rest) started is heard = subst (λ m. were m ≡ true) (same_some (call_of (front limit w)) n k (own_front limit n w is.0) heard) started

module _ (limit polls : ℕ) (were : ℕ → Bool) where
  all_told : (ls : List Line) → AllOwned were ls → AllOwned were (told limit polls ls)
  all_told [] is = is
  all_told (l ∷ rest) is = by (speaks polls l) (all_told rest is.1)
    where
      by : (b : Bool) → AllOwned were (told limit polls rest) → AllOwned were (if b then spoken limit l ∷ rest else l ∷ told limit polls rest)
      by true ih = (record { started = is.0.started; own = own_spoken limit l.of l.left is.0.own }, is.1)
      by false ih = (is.0, ih)

  next_alone : (ls : List Line) → AllOwned were ls → visit_of (next_of limit polls ls) ≡ None
  next_alone [] is = refl
  next_alone (l ∷ rest) is = by (speaks polls l) (next_alone rest is.1)
    where
      by : (b : Bool) → visit_of (next_of limit polls rest) ≡ None → visit_of (if b then first_of limit l.left else next_of limit polls rest) ≡ None
      by true ih = first_alone limit l.of l.left is.0.own
      by false ih = ih

  next_started : (ls : List Line) (k : ℕ) → AllOwned were ls → call_of (next_of limit polls ls) ≡ Some k → were k ≡ true
  next_started [] k is heard = absurd (cc heard)
  next_started (l ∷ rest) k is heard = by (speaks polls l) (next_started rest k is.1) heard
    where
      by : (b : Bool) → (call_of (next_of limit polls rest) ≡ Some k → were k ≡ true) → call_of (if b then first_of limit l.left else next_of limit polls rest) ≡ Some k → were k ≡ true
      by true ih heard = first_started were limit l.of k l.left is.0.started is.0.own heard
      by false ih heard = ih heard

  all_kept : (k : ℕ) (ls : List Line) → AllOwned were ls → AllOwned (λ n. if n == k then false else were n) (filter (λ l. not (l.of == k)) ls)
  all_kept k [] is = is
  all_kept k (l ∷ rest) is = by (l.of == k) refl (all_kept k rest is.1)
    where
      by : (b : Bool) → (l.of == k) ≡ b → AllOwned (λ n. if n == k then false else were n) (filter (λ l. not (l.of == k)) rest)
          → AllOwned (λ n. if n == k then false else were n) (cond (not b) (l ∷ filter (λ l. not (l.of == k)) rest) (filter (λ l. not (l.of == k)) rest))
      by true is_it ih = ih
      by false is_it ih = (record { started = ap (λ (b : Bool). if b then false else were l.of) is_it ∙ is.0.started; own = is.0.own }, ih)

either_way : (b c : Bool) → c ≡ true → (if b then true else c) ≡ true
either_way true c is = refl
either_way false c is = is

all_more : (were : ℕ → Bool) (k : ℕ) (ls more : List Line) → AllOwned were ls → AllOwned (λ n. if n == k then true else were n) more → AllOwned (λ n. if n == k then true else were n) (ls ++ more)
all_more were k [] more is too = too
all_more were k (l ∷ rest) more is too = (record { started = either_way (l.of == k) (were l.of) is.0.started; own = is.0.own }, all_more were k rest more is.1 too)

own_ending : (k : ℕ) (close : Close) → OfCall k (ending k close)
own_ending k Whole = (refl, tt)
own_ending k Cut = (refl, tt)
own_ending k Silent = tt

own_pieces : (k : ℕ) (found : List (Vec ℕ Global)) (rest : List What) → OfCall k rest → OfCall k (pieces k found ++ rest)
own_pieces k [] rest is = is
own_pieces k (p ∷ more) rest is = (refl, own_pieces k more rest is)

all_of_line : (were : ℕ → Bool) (k polls : ℕ) (answer : Option Answer) → AllOwned (λ n. if n == k then true else were n) (line_of k polls answer)
all_of_line were k polls None = tt
all_of_line were k polls (Some r) =
    (record { started = ap (λ (b : Bool). if b then true else were k) (eq-eqb k k refl); own = own_pieces k r.pieces.items (ending k r.close) (own_ending k r.close) }, tt)

all_after : (services : List Service) (before : List Deed) (d : Deed) (a : Ahead) (were : ℕ → Bool) → AllOwned were a.calls → AllOwned (open_after d were) (after_deed services before d a).calls
all_after services before (Start k to bytes) a were is = all_more were k a.calls _ is (all_of_line were k a.polls (answer_to services to (starts_to to before)))
all_after services before (Poll until heard) a were is = all_told piece_limit a.polls were a.calls is
all_after services before (Drop k) a were is = all_kept piece_limit a.polls were k a.calls is
all_after services before (Reply n bytes) a were is = is
all_after services before (Now t) a were is = is
all_after services before (Print bytes) a were is = is

all_from : (services : List Service) (before : List Deed) (a : Ahead) (ds : List Deed) (were : ℕ → Bool) → AllOwned were a.calls → AllOwned (open_from were ds) (ahead_from services before a ds).calls
all_from services before a [] were is = is
all_from services before a (d ∷ rest) were is = all_from services (before ++ d ∷ []) (after_deed services before d a) rest (open_after d were) (all_after services before d a were is)

-- no visit is heard
pub heard_alone : (services : List Service) (deeds : List Deed) → visit_of (next_thing piece_limit (ahead services deeds)) ≡ None
heard_alone services deeds = let a = ahead services deeds in next_alone piece_limit a.polls (open_from (λ k. false) deeds) a.calls (all_from services [] at_first deeds (λ k. false) tt)

pub heard_is_started : HeardIsStarted
heard_is_started services deeds k heard = let a = ahead services deeds in next_started piece_limit a.polls (open_from (λ k. false) deeds) a.calls k (all_from services [] at_first deeds (λ k. false) tt) heard
