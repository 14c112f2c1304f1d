-- Lists of deeds in two parts.
use Rattle.std.specs.Prelude.{◌≡◌, ◌≤◌, ◌+◌, ◌||◌, ℕ, zero, suc, true, false, nat_eq, List, [], ◌∷◌, ◌++◌, length, take, Some, None}
use Rattle.std.proofs.Common.{refl, sym, ◌∙◌, ap, subst, arith, append_assoc}
use Rattle.std.proofs.lemmas.List.{append-nil, take-append-le}
use Rattle.wf_lemmas.proofs.Bools.{or_assoc, or_more}
use Rattle.wf_deeds.specs.Deeds.{polls, nows, poll_readings, greatest, reading_by, starts_or_polls, was_started, was_dropped, was_replied, before_poll, Split, poll_from}
use Rattle.wf_host.specs.declared.data.Deed.{Deed}
use Rattle.wf_host.specs.declared.data.Deed.TheVariants.{Start, Poll, Now, Reply, Drop, Print}
use Rattle.wf_host.specs.declared.data.Heard.{Heard}

-- ## Counts and readings
pub polls-append : (ds es : List Deed) → polls (ds ++ es) ≡ polls ds + polls es
polls-append [] es = omega arith
polls-append (Poll until h ∷ ds) es = omega (arith, polls-append ds es)
polls-append (Start k to b ∷ ds) es = polls-append ds es
polls-append (Now t ∷ ds) es = polls-append ds es
polls-append (Reply n b ∷ ds) es = polls-append ds es
polls-append (Drop k ∷ ds) es = polls-append ds es
polls-append (Print b ∷ ds) es = polls-append ds es

pub nows-append : (ds es : List Deed) → nows (ds ++ es) ≡ nows ds ++ nows es
nows-append [] es = refl
nows-append (Now t ∷ ds) es = ap (λ ts. t ∷ ts) (nows-append ds es)
nows-append (Poll until h ∷ ds) es = nows-append ds es
nows-append (Start k to b ∷ ds) es = nows-append ds es
nows-append (Reply n b ∷ ds) es = nows-append ds es
nows-append (Drop k ∷ ds) es = nows-append ds es
nows-append (Print b ∷ ds) es = nows-append ds es

pub poll_readings-append : (ds es : List Deed) → poll_readings (ds ++ es) ≡ poll_readings ds ++ poll_readings es
poll_readings-append [] es = refl
poll_readings-append (Poll until h ∷ ds) es = ap (λ ts. h.reading ∷ ts) (poll_readings-append ds es)
poll_readings-append (Now t ∷ ds) es = poll_readings-append ds es
poll_readings-append (Start k to b ∷ ds) es = poll_readings-append ds es
poll_readings-append (Reply n b ∷ ds) es = poll_readings-append ds es
poll_readings-append (Drop k ∷ ds) es = poll_readings-append ds es
poll_readings-append (Print b ∷ ds) es = poll_readings-append ds es

pub readings_of_polls : (ds : List Deed) → length (poll_readings ds) ≡ polls ds
readings_of_polls [] = refl
readings_of_polls (Poll until h ∷ ds) = ap suc (readings_of_polls ds)
readings_of_polls (Now t ∷ ds) = readings_of_polls ds
readings_of_polls (Start k to b ∷ ds) = readings_of_polls ds
readings_of_polls (Reply n b ∷ ds) = readings_of_polls ds
readings_of_polls (Drop k ∷ ds) = readings_of_polls ds
readings_of_polls (Print b ∷ ds) = readings_of_polls ds

-- a deed that isn't a reading of the clock changes no reading by the polls so far
pub reading_stays : (last : ℕ) (ds : List Deed) (d : Deed) (w : ℕ) → nows (d ∷ []) ≡ [] → w ≤ polls ds → reading_by last (ds ++ d ∷ []) w ≡ reading_by last ds w
reading_stays last ds d w none le =
    let clocks : nows (ds ++ d ∷ []) ≡ nows ds = nows-append ds (d ∷ []) ∙ ap (λ ts. nows ds ++ ts) none ∙ append-nil (nows ds) in
    let fits : w ≤ length (poll_readings ds) = omega (arith, le, readings_of_polls ds) in
    let polled : take w (poll_readings (ds ++ d ∷ [])) ≡ take w (poll_readings ds) =
    ap (take w) (poll_readings-append ds (d ∷ [])) ∙ take-append-le w (poll_readings ds) (poll_readings (d ∷ [])) fits in
    ap (λ ts. greatest (last ∷ ts ++ take w (poll_readings (ds ++ d ∷ [])))) clocks ∙ ap (λ ts. greatest (last ∷ nows ds ++ ts)) polled

-- ## Whether something was done
pub starts_or_polls-append : (ds es : List Deed) → starts_or_polls (ds ++ es) ≡ starts_or_polls ds || starts_or_polls es
starts_or_polls-append [] es = refl
starts_or_polls-append (Poll until h ∷ ds) es = refl
starts_or_polls-append (Start k to b ∷ ds) es = refl
starts_or_polls-append (Now t ∷ ds) es = starts_or_polls-append ds es
starts_or_polls-append (Reply n b ∷ ds) es = starts_or_polls-append ds es
starts_or_polls-append (Drop k ∷ ds) es = starts_or_polls-append ds es
starts_or_polls-append (Print b ∷ ds) es = starts_or_polls-append ds es

pub was_started-append : (k : ℕ) (ds es : List Deed) → was_started k (ds ++ es) ≡ was_started k ds || was_started k es
was_started-append k [] es = refl
was_started-append k (Start j to b ∷ ds) es = ap (λ v. nat_eq j k || v) (was_started-append k ds es) ∙ or_assoc (nat_eq j k) (was_started k ds) (was_started k es)
was_started-append k (Poll until h ∷ ds) es = was_started-append k ds es
was_started-append k (Now t ∷ ds) es = was_started-append k ds es
was_started-append k (Reply n b ∷ ds) es = was_started-append k ds es
was_started-append k (Drop j ∷ ds) es = was_started-append k ds es
was_started-append k (Print b ∷ ds) es = was_started-append k ds es

pub was_dropped-append : (k : ℕ) (ds es : List Deed) → was_dropped k (ds ++ es) ≡ was_dropped k ds || was_dropped k es
was_dropped-append k [] es = refl
was_dropped-append k (Drop j ∷ ds) es = ap (λ v. nat_eq j k || v) (was_dropped-append k ds es) ∙ or_assoc (nat_eq j k) (was_dropped k ds) (was_dropped k es)
was_dropped-append k (Poll until h ∷ ds) es = was_dropped-append k ds es
was_dropped-append k (Now t ∷ ds) es = was_dropped-append k ds es
was_dropped-append k (Reply n b ∷ ds) es = was_dropped-append k ds es
was_dropped-append k (Start j to b ∷ ds) es = was_dropped-append k ds es
was_dropped-append k (Print b ∷ ds) es = was_dropped-append k ds es

pub was_replied-append : (n : ℕ) (ds es : List Deed) → was_replied n (ds ++ es) ≡ was_replied n ds || was_replied n es
was_replied-append n [] es = refl
was_replied-append n (Reply j b ∷ ds) es = ap (λ v. nat_eq j n || v) (was_replied-append n ds es) ∙ or_assoc (nat_eq j n) (was_replied n ds) (was_replied n es)
was_replied-append n (Poll until h ∷ ds) es = was_replied-append n ds es
was_replied-append n (Now t ∷ ds) es = was_replied-append n ds es
was_replied-append n (Drop k ∷ ds) es = was_replied-append n ds es
was_replied-append n (Start j to b ∷ ds) es = was_replied-append n ds es
was_replied-append n (Print b ∷ ds) es = was_replied-append n ds es

-- ## Poll w
abbrev pub split_at : List Deed → ℕ → Heard → List Deed → Split
split_at before until h behind = record { before = before; deed = Poll until h; what = h.what; behind = behind }

abbrev pub with_more : Split → List Deed → Split
with_more s es = record { before = s.before; deed = s.deed; what = s.what; behind = s.behind ++ es }

-- a poll that is there is there with more deeds
pub poll_stays : (acc : List Deed) (w : ℕ) (ds es : List Deed) (s : Split) → poll_from acc w ds ≡ Some s → poll_from acc w (ds ++ es) ≡ Some (with_more s es)
poll_stays acc w [] es s is = absurd (let no : None ≡ Some s = is in cc no)
poll_stays acc zero (d ∷ ds) es s is = absurd (let no : None ≡ Some s = is in cc no)
poll_stays acc (suc zero) (Poll until h ∷ ds) es s is = let same : split_at acc until h ds ≡ s = cc is in ap (λ t. Some (with_more t es)) same
poll_stays acc (suc (suc w)) (Poll until h ∷ ds) es s is = poll_stays (acc ++ Poll until h ∷ []) (suc w) ds es s is
poll_stays acc (suc zero) (Start k to b ∷ ds) es s is = poll_stays (acc ++ Start k to b ∷ []) 1 ds es s is
poll_stays acc (suc zero) (Now t ∷ ds) es s is = poll_stays (acc ++ Now t ∷ []) 1 ds es s is
poll_stays acc (suc zero) (Reply n b ∷ ds) es s is = poll_stays (acc ++ Reply n b ∷ []) 1 ds es s is
poll_stays acc (suc zero) (Drop k ∷ ds) es s is = poll_stays (acc ++ Drop k ∷ []) 1 ds es s is
poll_stays acc (suc zero) (Print b ∷ ds) es s is = poll_stays (acc ++ Print b ∷ []) 1 ds es s is
poll_stays acc (suc (suc w)) (Start k to b ∷ ds) es s is = poll_stays (acc ++ Start k to b ∷ []) (suc (suc w)) ds es s is
poll_stays acc (suc (suc w)) (Now t ∷ ds) es s is = poll_stays (acc ++ Now t ∷ []) (suc (suc w)) ds es s is
poll_stays acc (suc (suc w)) (Reply n b ∷ ds) es s is = poll_stays (acc ++ Reply n b ∷ []) (suc (suc w)) ds es s is
poll_stays acc (suc (suc w)) (Drop k ∷ ds) es s is = poll_stays (acc ++ Drop k ∷ []) (suc (suc w)) ds es s is
poll_stays acc (suc (suc w)) (Print b ∷ ds) es s is = poll_stays (acc ++ Print b ∷ []) (suc (suc w)) ds es s is

-- what is known of it
pub record Found (acc : List Deed) (w : ℕ) (ds : List Deed) (s : Split) : Type 0 where
  pub until : ℕ
  pub heard : Heard
  pub front : List Deed
  pub is : ds ≡ front ++ Poll until heard ∷ s.behind
  pub split : s ≡ split_at (acc ++ front) until heard s.behind
  pub count : w ≡ suc (polls front)

-- behind one deed more
found_behind : (acc ds : List Deed) (w v : ℕ) (d : Deed) (s : Split) → (n : ℕ) → ((front : List Deed) → polls (d ∷ front) ≡ n + polls front) → v ≡ n + w → Found (acc ++ d ∷ []) w ds s → Found acc v (d ∷ ds) s
found_behind acc ds w v d s n counts more f = record {
  until = f.until;
  heard = f.heard;
  front = d ∷ f.front;
  is = ap (λ l. d ∷ l) f.is;
  split = f.split ∙ ap (λ l. split_at l f.until f.heard s.behind) (append_assoc acc (d ∷ []) f.front);
  count = omega (arith, more, f.count, counts f.front);
}

pub poll_found : (acc : List Deed) (w : ℕ) (ds : List Deed) (s : Split) → poll_from acc w ds ≡ Some s → Found acc w ds s
poll_found acc w [] s is = absurd (let no : None ≡ Some s = is in cc no)
poll_found acc zero (d ∷ ds) s is = absurd (let no : None ≡ Some s = is in cc no)
poll_found acc (suc zero) (Poll until h ∷ ds) s is =
    let same : split_at acc until h ds ≡ s = cc is in
    subst (λ t. Found acc 1 (Poll until h ∷ ds) t) same (record { until = until; heard = h; front = []; is = refl; split = ap (λ l. split_at l until h ds) (sym (append-nil acc)); count = refl })
poll_found acc (suc (suc w)) (Poll until h ∷ ds) s is = found_behind acc ds (suc w) (suc (suc w)) (Poll until h) s 1 (λ front. omega arith) (omega arith) (poll_found (acc ++ Poll until h ∷ []) (suc w) ds s is)
poll_found acc (suc zero) (Start k to b ∷ ds) s is = found_behind acc ds 1 1 (Start k to b) s 0 (λ front. omega arith) (omega arith) (poll_found (acc ++ Start k to b ∷ []) 1 ds s is)
poll_found acc (suc zero) (Now t ∷ ds) s is = found_behind acc ds 1 1 (Now t) s 0 (λ front. omega arith) (omega arith) (poll_found (acc ++ Now t ∷ []) 1 ds s is)
poll_found acc (suc zero) (Reply n b ∷ ds) s is = found_behind acc ds 1 1 (Reply n b) s 0 (λ front. omega arith) (omega arith) (poll_found (acc ++ Reply n b ∷ []) 1 ds s is)
poll_found acc (suc zero) (Drop k ∷ ds) s is = found_behind acc ds 1 1 (Drop k) s 0 (λ front. omega arith) (omega arith) (poll_found (acc ++ Drop k ∷ []) 1 ds s is)
poll_found acc (suc zero) (Print b ∷ ds) s is = found_behind acc ds 1 1 (Print b) s 0 (λ front. omega arith) (omega arith) (poll_found (acc ++ Print b ∷ []) 1 ds s is)
poll_found acc (suc (suc w)) (Start k to b ∷ ds) s is = found_behind acc ds (suc (suc w)) (suc (suc w)) (Start k to b) s 0 (λ front. omega arith) (omega arith) (poll_found (acc ++ Start k to b ∷ []) (suc (suc w)) ds s is)
poll_found acc (suc (suc w)) (Now t ∷ ds) s is = found_behind acc ds (suc (suc w)) (suc (suc w)) (Now t) s 0 (λ front. omega arith) (omega arith) (poll_found (acc ++ Now t ∷ []) (suc (suc w)) ds s is)
poll_found acc (suc (suc w)) (Reply n b ∷ ds) s is = found_behind acc ds (suc (suc w)) (suc (suc w)) (Reply n b) s 0 (λ front. omega arith) (omega arith) (poll_found (acc ++ Reply n b ∷ []) (suc (suc w)) ds s is)
poll_found acc (suc (suc w)) (Drop k ∷ ds) s is = found_behind acc ds (suc (suc w)) (suc (suc w)) (Drop k) s 0 (λ front. omega arith) (omega arith) (poll_found (acc ++ Drop k ∷ []) (suc (suc w)) ds s is)
poll_found acc (suc (suc w)) (Print b ∷ ds) s is = found_behind acc ds (suc (suc w)) (suc (suc w)) (Print b) s 0 (λ front. omega arith) (omega arith) (poll_found (acc ++ Print b ∷ []) (suc (suc w)) ds s is)

-- ## Deeds that are no polls
abbrev pub IsNoPoll : Deed → Type 0
IsNoPoll (Poll until h) = ⊥
IsNoPoll d = Unit {0}

skips : (acc : List Deed) (d : Deed) (w : ℕ) (ds : List Deed) → IsNoPoll d → poll_from acc (suc w) (d ∷ ds) ≡ poll_from (acc ++ d ∷ []) (suc w) ds
skips acc (Poll until h) w ds plain = absurd plain
skips acc (Start k to b) zero ds plain = refl
skips acc (Start k to b) (suc w) ds plain = refl
skips acc (Now t) zero ds plain = refl
skips acc (Now t) (suc w) ds plain = refl
skips acc (Reply n b) zero ds plain = refl
skips acc (Reply n b) (suc w) ds plain = refl
skips acc (Drop k) zero ds plain = refl
skips acc (Drop k) (suc w) ds plain = refl
skips acc (Print b) zero ds plain = refl
skips acc (Print b) (suc w) ds plain = refl

behind_one : (acc front : List Deed) (d : Deed) (until : ℕ) (h : Heard) (behind : List Deed) → IsNoPoll d
    → poll_from (acc ++ d ∷ []) (suc (polls front)) (front ++ Poll until h ∷ behind) ≡ Some (split_at ((acc ++ d ∷ []) ++ front) until h behind)
    → poll_from acc (suc (polls front)) (d ∷ front ++ Poll until h ∷ behind) ≡ Some (split_at (acc ++ d ∷ front) until h behind)
behind_one acc front d until h behind plain there =
    skips acc d (polls front) (front ++ Poll until h ∷ behind) plain ∙ there ∙ ap (λ l. Some (split_at l until h behind)) (append_assoc acc (d ∷ []) front)

-- the poll behind some deeds
pub poll_behind : (acc front : List Deed) (until : ℕ) (h : Heard) (behind : List Deed) → poll_from acc (suc (polls front)) (front ++ Poll until h ∷ behind) ≡ Some (split_at (acc ++ front) until h behind)
poll_behind acc [] until h behind = ap (λ l. Some (split_at l until h behind)) (sym (append-nil acc))
poll_behind acc (Poll u g ∷ front) until h behind = poll_behind (acc ++ Poll u g ∷ []) front until h behind ∙ ap (λ l. Some (split_at l until h behind)) (append_assoc acc (Poll u g ∷ []) front)
poll_behind acc (Start k to b ∷ front) until h behind = behind_one acc front (Start k to b) until h behind tt (poll_behind (acc ++ Start k to b ∷ []) front until h behind)
poll_behind acc (Now t ∷ front) until h behind = behind_one acc front (Now t) until h behind tt (poll_behind (acc ++ Now t ∷ []) front until h behind)
poll_behind acc (Reply n b ∷ front) until h behind = behind_one acc front (Reply n b) until h behind tt (poll_behind (acc ++ Reply n b ∷ []) front until h behind)
poll_behind acc (Drop k ∷ front) until h behind = behind_one acc front (Drop k) until h behind tt (poll_behind (acc ++ Drop k ∷ []) front until h behind)
poll_behind acc (Print b ∷ front) until h behind = behind_one acc front (Print b) until h behind tt (poll_behind (acc ++ Print b ∷ []) front until h behind)

-- ## Replies
-- a visit that had its reply has it with more deeds
pub was_replied_more : (n : ℕ) (ds es : List Deed) → was_replied n (before_poll ds) ≡ true → was_replied n (before_poll (ds ++ es)) ≡ true
was_replied_more n [] es is = absurd (let f : false ≡ true = is in cc f)
was_replied_more n (Poll until h ∷ ds) es is = absurd (let f : false ≡ true = is in cc f)
was_replied_more n (Reply j b ∷ ds) es is = or_more (nat_eq j n) (was_replied n (before_poll ds)) (was_replied n (before_poll (ds ++ es))) (was_replied_more n ds es) is
was_replied_more n (Start k to b ∷ ds) es is = was_replied_more n ds es is
was_replied_more n (Now t ∷ ds) es is = was_replied_more n ds es is
was_replied_more n (Drop k ∷ ds) es is = was_replied_more n ds es is
was_replied_more n (Print b ∷ ds) es is = was_replied_more n ds es is
