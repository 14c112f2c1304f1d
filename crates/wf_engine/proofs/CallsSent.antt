-- What is sent, call by call.
use Rattle.std.specs.Prelude.{◌≡◌, ◌≢◌, ◌⊎◌, ◌≤◌, ◌<◌, ◌+◌, ◌&&◌, ◌||◌, ℕ, zero, suc, Bool, true, false, not, IsTrue, is_some, List, [], ◌∷◌, ◌++◌, length, Option, Some, None}
use Rattle.std.proofs.Common.{inl, inr, refl, sym, ◌∙◌, ap, subst, arith}
use Rattle.std.proofs.lemmas.Bool.{cases_lt}
use Rattle.std.proofs.lemmas.List.{append-nil}
use Rattle.std.proofs.lemmas.Option.{slice_get_past}
use Rattle.wf_lemmas.proofs.Bools.{or_none}
use Rattle.wf_host.proofs.Printings.{NoneFell-refl}
use Rattle.wf_deeds.specs.Clauses.{IsSending, KeptThroughout, SendsOpen, StandsIsKept, drop, is_timed_out, none, start, those, to_drop, to_start}
use Rattle.wf_deeds.specs.Memory.{AllIsSent, IsSettled, Memory, StandsFor}
use Rattle.wf_deeds.specs.Outside.{Outside}
use Rattle.wf_engine.proofs.Sent.{Goes, OnlyNow, kept_before, kept_then, went_by, went_on}
use Rattle.wf_engine.proofs.SentLists.{drops_starts, drops_then, just_this, sending_polls, silent_sending, starts_then, those_none, those_on, those_same, this_same}
use Rattle.wf_engine.specs.Engine.{Holds, is_closed, memory}
use Rattle.wf_engine.specs.Sending.{DropsAll, DropsOne, SameButSent, Sends, Sent, StartsAll, StartsOne, is_to_drop, is_to_start}
use Rattle.wf_engine.specs.TheOutside.{InTheOutside}
use Rattle.wf_engine.specs.declared.engine.Engine.{Engine}
use Rattle.wf_history.specs.Stands as history
use Rattle.wf_history.specs.declared.history.History.{History}
use Rattle.wf_host.specs.Moments.{CountsNow}
use Rattle.wf_host.specs.World.{World, Elapses, Faults, NoneFell, Same, Told}
use Rattle.wf_host.specs.declared.data.Address.{Address}
use Rattle.wf_host.specs.declared.data.Deed.{Deed}
use Rattle.wf_host.specs.declared.data.Deed.TheVariants.{Drop, Start}
use Rattle.wf_journal.specs.Records.{records}
use Rattle.wf_journal.specs.Standing.{stands_after}
use Rattle.wf_deeds.specs.Language.{Language}
use Rattle.wf_model.specs.Config.{Active, Answered, Call, Config, Open, TimedOut}
use Rattle.wf_model.specs.Ready.{call, quiet, request_in, request_of}
use Rattle.wf_replay.specs.TheLanguage.{the_language}
use Rattle.wf_value.specs.HttpRequest.{Request}

pub told_then : (w new : World) → new.tells ≡ w.tells → IsTrue w.tells → IsTrue new.tells
told_then w new same told = subst IsTrue (sym same) told

pub falls_then : (f g h : Faults) → NoneFell f g → NoneFell g h → NoneFell f h
falls_then f g h a b = record { disk = omega (arith, a.disk, b.disk); poll = omega (arith, a.poll, b.poll); print = omega (arith, a.print, b.print) }

-- ## Memories
pub all_same : (m : Memory) → SameButSent m m
all_same m = record { program = refl; config = refl; session = refl; reading = refl; waits = refl; taken = refl; started = λ k was. was; told = λ k was. refl }

pub same_then : (m n o : Memory) → SameButSent m n → SameButSent n o → SameButSent m o
same_then m n o a b = record {
  program = b.program ∙ a.program;
  config = b.config ∙ a.config;
  session = b.session ∙ a.session;
  reading = b.reading ∙ a.reading;
  waits = b.waits ∙ a.waits;
  taken = b.taken ∙ a.taken;
  started = λ k was. b.started k (a.started k was);
  told = λ k was. b.told k (a.started k was) ∙ a.told k was;
}

pub settled_on : (m n : Memory) → IsSettled m → SameButSent m n → n.owed ≡ None → IsSettled n
settled_on m n settled same owed = record {
  taken = same.taken ∙ settled.taken;
  owed = owed;
  still = subst (λ (c : Config). IsTrue (quiet c n.reading) ⊎ (c.outcome ≢ Active)) (sym same.config)
      (subst (λ r. IsTrue (quiet m.config r) ⊎ (m.config.outcome ≢ Active)) (sym same.reading) settled.still);
}

-- ## Parts
goes_same : (L : Language) (O : Outside) (m : Memory) → Goes L O m m []
goes_same L O m = record { stands = λ command handed J D s. subst (λ E. StandsFor L O command handed m J E) (sym (append-nil D)) s; leads = λ J l. l }

-- nothing yet
pub part_first : StandsIsKept → (w : World) (f : Faults) (e : Engine) → Told w (OnlyNow w) → is_closed e ≡ false → Told w (Holds e w) → Sent w w f f e e [] []
part_first moment w f e only not_closed holds = record {
  not_closed = not_closed;
  holds = holds;
  same = all_same (memory e);
  sends = λ O told. record {
    done = [];
    went = went_by the_language O (memory e) (memory e) w w [] (goes_same the_language O (memory e)) (sym (append-nil w.deeds)) refl;
    sends = none;
  };
  moments = λ O told. kept_before moment the_language O (memory e) e.history w (only told) (holds told).0 (e.ready not_closed).begun;
  seen = λ told. refl;
  tells = refl;
  counts = NoneFell-refl f;
}

-- where there is nothing to do
pub part_none : StandsIsKept → (w : World) (f : Faults) (e : Engine) (js ks : List ℕ) → Told w (OnlyNow w) → is_closed e ≡ false → Told w (Holds e w) → js ≡ [] → ks ≡ [] → Sent w w f f e e js ks
part_none moment w f e js ks only not_closed holds no_drop no_start =
    subst (λ l. Sent w w f f e e l ks) (sym no_drop) (subst (λ l. Sent w w f f e e [] l) (sym no_start) (part_first moment w f e only not_closed holds))

module _ (first mid : World) (f g : Faults) (e d : Engine) (js ks : List ℕ) (so : Sent first mid f g e d js ks) where
  -- and then more, whether it went well or not
  pub moments_then : (new : World) → InTheOutside (λ O. Told mid (KeptThroughout the_language O (memory d) mid new)) → InTheOutside (λ O. Told first (KeptThroughout the_language O (memory e) first new))
  moments_then new next = λ O told.
      let a = so.sends O told in
      kept_then the_language O (memory e) (memory d) first mid a.done a.went (so.seen told) so.same.session (silent_sending a.sends) (sending_polls a.sends) d.history new
      (so.moments O told) (so.holds told).0 (d.ready so.not_closed).begun (next O (told_then first mid so.tells told))

  pub part_then : (new : World) (h : Faults) (c : Engine) (ls ms is os : List ℕ) → Sent mid new g h d c ls ms → ((ds es : List Deed) → IsSending js ks ds → IsSending ls ms es → IsSending is os (ds ++ es)) → Sent first new f h e c is os
  part_then new h c ls ms is os next join = record {
    not_closed = next.not_closed;
    holds = λ told. next.holds (told_then first mid so.tells told);
    same = same_then (memory e) (memory d) (memory c) so.same next.same;
    sends = λ O told.
        let a = so.sends O told in
        let b = next.sends O (told_then first mid so.tells told) in
        record {
          done = a.done ++ b.done;
          went = went_on the_language O (memory e) (memory d) first mid a.done a.went (memory c) new b.done b.went;
          sends = join a.done b.done a.sends b.sends;
        };
    moments = moments_then new next.moments;
    seen = λ told. next.seen (told_then first mid so.tells told) ∙ so.seen told;
    tells = next.tells ∙ so.tells;
    counts = falls_then f g h so.counts next.counts;
  }

-- ## Tests
pub past_answered : (c : Config) (k : ℕ) → length c.calls < k → call c k ≡ Answered
past_answered c zero past = refl
past_answered c (suc k) past = ap (λ (o : Option Call). elim o [ None ↦ Answered | Some x ↦ x ]) (slice_get_past c.calls k (omega arith))

module _ (m : Memory) (k : ℕ) where
  pub drops_no_other : (x : Call) → call m.config k ≡ x → is_timed_out x ≡ false → is_to_drop m k ≡ false
  drops_no_other x is other = ap (λ (y : Call). is_timed_out y && m.started k && not (m.dropped k)) is ∙ ap (λ b. b && m.started k && not (m.dropped k)) other

  pub drops_no_open : (q : Request) → request_of m.config k ≡ Some q → is_to_drop m k ≡ false
  drops_no_open q asks = by (call m.config k) refl
    where
      by : (x : Call) → call m.config k ≡ x → is_to_drop m k ≡ false
      by (Open b r due) is = drops_no_other (Open b r due) is refl
      by Answered is = drops_no_other Answered is refl
      by TimedOut is = absurd (let f : None ≡ Some q = ap request_in (sym is) ∙ asks in cc f)

  pub starts_no_shut : request_of m.config k ≡ None → is_to_start m k ≡ false
  starts_no_shut shut = ap (λ (o : Option Request). is_some o && not (m.started k)) shut

  pub starts_no_old : m.started k ≡ true → is_to_start m k ≡ false
  starts_no_old was = by (is_some (request_of m.config k)) (m.started k) was
    where
      by : (a b : Bool) → b ≡ true → a && not b ≡ false
      by true true is = refl
      by false true is = refl
      by a false is = absurd (cc is)

-- so nothing is done
pub drops_none : (m : Memory) (k : ℕ) → is_to_drop m k ≡ false → DropsOne m m k
drops_none m k off = record { started = λ j. refl; here = sym (or_none (m.dropped k)) ∙ ap (λ b. m.dropped k || b) (sym off); others = λ j other. refl }

pub starts_none : (m : Memory) (k : ℕ) → is_to_start m k ≡ false → StartsOne m m k
starts_none m k off = record { dropped = λ j. refl; here = sym (or_none (m.started k)) ∙ ap (λ b. m.started k || b) (sym off); others = λ j other. refl }

-- past the last call there is nothing to do
pub no_drop_past : (m : Memory) (k : ℕ) → length m.config.calls < k → is_to_drop m k ≡ false
no_drop_past m k past = drops_no_other m k Answered (past_answered m.config k past) refl

pub no_start_past : (m : Memory) (k : ℕ) → length m.config.calls < k → is_to_start m k ≡ false
no_start_past m k past = starts_no_shut m k (ap request_in (past_answered m.config k past))

-- ## The drops
pub record Dropping (first now : World) (f g : Faults) (e d : Engine) (i : ℕ) : Type 0 where
  pub part : Sent first now f g e d (those (is_to_drop (memory e)) 1 i) []
  pub started : (k : ℕ) → (memory d).started k ≡ (memory e).started k
  pub below : (k : ℕ) → k ≤ i → (memory d).dropped k ≡ (memory e).dropped k || is_to_drop (memory e) k
  pub above : (k : ℕ) → i < k → (memory d).dropped k ≡ (memory e).dropped k

-- up to a number where there is nothing to drop
pub drops_first : (w : World) (f : Faults) (e : Engine) (i : ℕ) → ((k : ℕ) → k ≤ i → is_to_drop (memory e) k ≡ false) → Sent w w f f e e [] [] → Dropping w w f f e e i
drops_first w f e i none_there part = record {
  part = subst (λ l. Sent w w f f e e l []) (sym (those_none (is_to_drop (memory e)) 1 i (λ k lt. none_there k (omega (arith, lt))))) part;
  started = λ k. refl;
  below = λ k le. sym (or_none ((memory e).dropped k)) ∙ ap (λ b. (memory e).dropped k || b) (sym (none_there k le));
  above = λ k lt. refl;
}

module _ (first mid : World) (f g : Faults) (e d : Engine) (i : ℕ) (so : Dropping first mid f g e d i) where
  same_test : is_to_drop (memory d) (i + 1) ≡ is_to_drop (memory e) (i + 1)
  same_test =
      ap (λ (c : Config). is_timed_out (call c (i + 1)) && (memory d).started (i + 1) && not ((memory d).dropped (i + 1))) so.part.same.config
      ∙ ap (λ b. is_timed_out (call (memory e).config (i + 1)) && b && not ((memory d).dropped (i + 1))) (so.started (i + 1))
      ∙ ap (λ b. is_timed_out (call (memory e).config (i + 1)) && (memory e).started (i + 1) && not b) (so.above (i + 1) (omega arith))

  -- this call is dropped, if it is to be
  pub drops_on : (new : World) (h : Faults) (c : Engine) → Sent mid new g h d c (those (is_to_drop (memory d)) (i + 1) 1) [] → DropsOne (memory d) (memory c) (i + 1) → Dropping first new f h e c (i + 1)
  drops_on new h c next one = record {
    part = part_then first mid f g e d (those (is_to_drop (memory e)) 1 i) [] so.part new h c (those (is_to_drop (memory d)) (i + 1) 1) [] (those (is_to_drop (memory e)) 1 (i + 1)) [] next
        (λ ds es was more. subst (λ l. IsSending l [] (ds ++ es))
        (ap (λ l. those (is_to_drop (memory e)) 1 i ++ l) (this_same (is_to_drop (memory d)) (is_to_drop (memory e)) (i + 1) same_test) ∙ sym (those_on (is_to_drop (memory e)) i))
        (drops_then was more));
    started = λ k. one.started k ∙ so.started k;
    below = λ k le. elim (cases_lt k (i + 1)) [ inl lt ↦ one.others k (λ is. absurd (omega (arith, lt, is))) ∙ so.below k (omega arith) | inr ge ↦ here k (omega (arith, ge, le)) ];
    above = λ k lt. one.others k (λ is. absurd (omega (arith, lt, is))) ∙ so.above k (omega arith);
  }
    where
      here : (k : ℕ) → k ≡ i + 1 → (memory c).dropped k ≡ (memory e).dropped k || is_to_drop (memory e) k
      here k is = subst (λ n. (memory c).dropped n ≡ (memory e).dropped n || is_to_drop (memory e) n) (sym is)
          (one.here ∙ ap (λ b. b || is_to_drop (memory d) (i + 1)) (so.above (i + 1) (omega arith)) ∙ ap (λ b. (memory e).dropped (i + 1) || b) same_test)

  -- all are dropped that are to be
  pub drops_all : i ≡ length (memory e).config.calls → DropsAll (memory e) (memory d)
  drops_all all = record {
    started = so.started;
    dropped = λ k. elim (cases_lt i k) [ inl lt ↦ so.above k lt ∙ sym (or_none ((memory e).dropped k)) ∙ ap (λ b. (memory e).dropped k || b) (sym (no_drop_past (memory e) k (omega (arith, all, lt)))) | inr ge ↦ so.below k ge ];
  }

  pub drops_sent : i ≡ length (memory e).config.calls → Sent first mid f g e d (to_drop (memory e)) []
  drops_sent all = subst (λ n. Sent first mid f g e d (those (is_to_drop (memory e)) 1 n) []) all so.part

-- ## The starts
pub record Starting (first now : World) (f g : Faults) (e d : Engine) (i : ℕ) : Type 0 where
  pub part : Sent first now f g e d [] (those (is_to_start (memory e)) 1 i)
  pub dropped : (k : ℕ) → (memory d).dropped k ≡ (memory e).dropped k
  pub below : (k : ℕ) → k ≤ i → (memory d).started k ≡ (memory e).started k || is_to_start (memory e) k
  pub above : (k : ℕ) → i < k → (memory d).started k ≡ (memory e).started k

-- up to a number where there is nothing to start
pub starts_first : (w : World) (f : Faults) (e : Engine) (i : ℕ) → ((k : ℕ) → k ≤ i → is_to_start (memory e) k ≡ false) → Sent w w f f e e [] [] → Starting w w f f e e i
starts_first w f e i none_there part = record {
  part = subst (λ l. Sent w w f f e e [] l) (sym (those_none (is_to_start (memory e)) 1 i (λ k lt. none_there k (omega (arith, lt))))) part;
  dropped = λ k. refl;
  below = λ k le. sym (or_none ((memory e).started k)) ∙ ap (λ b. (memory e).started k || b) (sym (none_there k le));
  above = λ k lt. refl;
}

module _ (first mid : World) (f g : Faults) (e d : Engine) (i : ℕ) (so : Starting first mid f g e d i) where
  same_start : is_to_start (memory d) (i + 1) ≡ is_to_start (memory e) (i + 1)
  same_start =
      ap (λ (c : Config). is_some (request_of c (i + 1)) && not ((memory d).started (i + 1))) so.part.same.config
      ∙ ap (λ b. is_some (request_of (memory e).config (i + 1)) && not b) (so.above (i + 1) (omega arith))

  -- this call is started, if it is to be
  pub starts_on : (new : World) (h : Faults) (c : Engine) → Sent mid new g h d c [] (those (is_to_start (memory d)) (i + 1) 1) → StartsOne (memory d) (memory c) (i + 1) → Starting first new f h e c (i + 1)
  starts_on new h c next one = record {
    part = part_then first mid f g e d [] (those (is_to_start (memory e)) 1 i) so.part new h c [] (those (is_to_start (memory d)) (i + 1) 1) [] (those (is_to_start (memory e)) 1 (i + 1)) next
        (λ ds es was more. subst (λ l. IsSending [] l (ds ++ es))
        (ap (λ l. those (is_to_start (memory e)) 1 i ++ l) (this_same (is_to_start (memory d)) (is_to_start (memory e)) (i + 1) same_start) ∙ sym (those_on (is_to_start (memory e)) i))
        (starts_then was more));
    dropped = λ k. one.dropped k ∙ so.dropped k;
    below = λ k le. elim (cases_lt k (i + 1)) [ inl lt ↦ one.others k (λ is. absurd (omega (arith, lt, is))) ∙ so.below k (omega arith) | inr ge ↦ here k (omega (arith, ge, le)) ];
    above = λ k lt. one.others k (λ is. absurd (omega (arith, lt, is))) ∙ so.above k (omega arith);
  }
    where
      here : (k : ℕ) → k ≡ i + 1 → (memory c).started k ≡ (memory e).started k || is_to_start (memory e) k
      here k is = subst (λ n. (memory c).started n ≡ (memory e).started n || is_to_start (memory e) n) (sym is)
          (one.here ∙ ap (λ b. b || is_to_start (memory d) (i + 1)) (so.above (i + 1) (omega arith)) ∙ ap (λ b. (memory e).started (i + 1) || b) same_start)

  -- all are started that are to be
  pub starts_all : i ≡ length (memory e).config.calls → StartsAll (memory e) (memory d)
  starts_all all = record {
    dropped = so.dropped;
    started = λ k. elim (cases_lt i k) [ inl lt ↦ so.above k lt ∙ sym (or_none ((memory e).started k)) ∙ ap (λ b. (memory e).started k || b) (sym (no_start_past (memory e) k (omega (arith, all, lt)))) | inr ge ↦ so.below k ge ];
  }

  pub starts_sent : i ≡ length (memory e).config.calls → Sent first mid f g e d [] (to_start (memory e))
  starts_sent all = subst (λ n. Sent first mid f g e d [] (those (is_to_start (memory e)) 1 n)) all so.part

-- ## All
either_is : (a : Bool) → a || (true && not a) ≡ true
either_is true = refl
either_is false = refl

module _ (m n o : Memory) (same : SameButSent m n) (next : SameButSent n o) (drops : DropsAll m n) (starts : StartsAll n o) where
  pub all_is_sent : AllIsSent o
  all_is_sent = record {
    started = λ k (q, asks).
        let before : request_of n.config k ≡ Some q = ap (λ (c : Config). request_of c k) (sym next.config) ∙ asks in
        starts.started k ∙ ap (λ (r : Option Request). n.started k || (is_some r && not (n.started k))) before ∙ either_is (n.started k);
    dropped = λ k was timed.
        let behind : call n.config k ≡ TimedOut = ap (λ (c : Config). call c k) (sym next.config) ∙ timed in
        let first : call m.config k ≡ TimedOut = ap (λ (c : Config). call c k) (sym same.config) ∙ behind in
        let no : is_to_start n k ≡ false = starts_no_shut n k (ap request_in behind) in
        let old : m.started k ≡ true = sym (drops.started k) ∙ sym (or_none (n.started k)) ∙ ap (λ b. n.started k || b) (sym no) ∙ sym (starts.started k) ∙ was in
        starts.dropped k ∙ drops.dropped k ∙ ap (λ (x : Call). m.dropped k || (is_timed_out x && m.started k && not (m.dropped k))) first
        ∙ ap (λ b. m.dropped k || (true && b && not (m.dropped k))) old ∙ either_is (m.dropped k);
  }

  -- what is to be started is so behind the drops
  pub to_start_same : to_start n ≡ to_start m
  to_start_same =
      ap (λ k. those (is_to_start n) 1 k) (ap (λ (c : Config). length c.calls) same.config)
      ∙ those_same (is_to_start n) (is_to_start m) 1 (length m.config.calls)
      (λ k. ap (λ (c : Config). is_some (request_of c k) && not (n.started k)) same.config ∙ ap (λ b. is_some (request_of m.config k) && not b) (drops.started k))

-- ## One call
module _ (L : Language) (O : Outside) (m n : Memory) (w new : World) where
  -- nothing is sent
  pub sends_none : (js ks : List ℕ) → Goes L O m n [] → new.deeds ≡ w.deeds → new.seen ≡ w.seen → js ≡ [] → ks ≡ [] → Sends L O m n w new js ks
  sends_none js ks goes deeds seen no_drop no_start = record {
    done = [];
    went = went_by L O m n w new [] goes (deeds ∙ sym (append-nil w.deeds)) seen;
    sends = subst (λ l. IsSending l ks []) (sym no_drop) (subst (λ l. IsSending [] l []) (sym no_start) none);
  }

  pub sends_drop : (k : ℕ) → Goes L O m n (Drop k ∷ []) → new.deeds ≡ w.deeds ++ Drop k ∷ [] → new.seen ≡ w.seen → is_to_drop m k ≡ true → Sends L O m n w new (those (is_to_drop m) k 1) []
  sends_drop k goes deeds seen is = record {
    done = Drop k ∷ [];
    went = went_by L O m n w new (Drop k ∷ []) goes deeds seen;
    sends = subst (λ l. IsSending l [] (Drop k ∷ [])) (sym (just_this (is_to_drop m) k is)) (drop k none);
  }

  pub sends_start : (k : ℕ) (to : Address) (bytes : List ℕ) → Goes L O m n (Start k to bytes ∷ []) → new.deeds ≡ w.deeds ++ Start k to bytes ∷ [] → new.seen ≡ w.seen → is_to_start m k ≡ true → Sends L O m n w new [] (those (is_to_start m) k 1)
  sends_start k to bytes goes deeds seen is = record {
    done = Start k to bytes ∷ [];
    went = went_by L O m n w new (Start k to bytes ∷ []) goes deeds seen;
    sends = subst (λ l. IsSending [] l (Start k to bytes ∷ [])) (sym (just_this (is_to_start m) k is)) (start k to bytes none);
  }

-- the file stays as it was left
pub holds_later : (h : History) (w new : World) (deed : List Deed) → history.Stands h w × (records w.seen ≢ []) → Elapses Same deed w new → new.seen ≡ w.seen → CountsNow new → history.Stands h new × (records new.seen ≢ [])
holds_later h w new deed (s, some) time same counts = (
  record {
    journal = stands_after h.journal w new deed s.journal time same counts;
    passed = s.passed;
    all = ap records same ∙ s.all ∙ ap (λ f. s.passed ++ history.ahead h f) (sym same);
    counted = s.counted;
  },
  λ empty. some (ap records (sym same) ∙ empty),
)

-- ## The whole
-- with an outcome nothing is sent
pub sends_over : (O : Outside) (m : Memory) (w : World) → m.config.outcome ≢ Active → IsSettled m → SendsOpen the_language O m m w w
sends_over O m w over settled = record {
  done = [];
  went = went_by the_language O m m w w [] (goes_same the_language O m) (sym (append-nil w.deeds)) refl;
  sends = λ active. absurd (over active);
  sent = λ active. absurd (over active);
  ended = λ is. refl;
  seen = refl;
  config = refl;
  reading = refl;
  settled = settled;
}

module _ (w mid new : World) (f g h : Faults) (e d c : Engine) (first : Sent w mid f g e d (to_drop (memory e)) []) (next : Sent mid new g h d c [] (to_start (memory d))) (drops : DropsAll (memory e) (memory d)) (starts : StartsAll (memory d) (memory c)) where
  pub whole : Sent w new f h e c (to_drop (memory e)) (to_start (memory e))
  whole = part_then w mid f g e d (to_drop (memory e)) [] first new h c [] (to_start (memory d)) (to_drop (memory e)) (to_start (memory e)) next
      (λ ds es was more. subst (λ l. IsSending (to_drop (memory e)) l (ds ++ es)) (to_start_same (memory e) (memory d) (memory c) first.same next.same drops starts) (drops_starts was more))

  pub sends_whole : IsSettled (memory e) → (memory e).config.outcome ≡ Active → InTheOutside (λ O. Told w (SendsOpen the_language O (memory e) (memory c) w new))
  sends_whole settled active = λ O told.
      let all = whole.sends O told in
      record {
        done = all.done;
        went = all.went;
        sends = λ is. all.sends;
        sent = λ is. all_is_sent (memory e) (memory d) (memory c) first.same next.same drops starts;
        ended = λ over. absurd (over active);
        seen = whole.seen told;
        config = whole.same.config;
        reading = whole.same.reading;
        settled = settled_on (memory e) (memory c) settled whole.same refl;
      }
