-- What each write at a gate leaves.
use Rattle.std.proofs.Common.{◌≡◌, ◌≢◌, ◌⊎◌, inl, inr, ℕ, suc, ◌+◌, ◌<◌, ◌≤◌, ◌^◌, Bool, true, false, List, [], ◌∷◌, ◌++◌, length, take, drop, get_or, refl, sym, ◌∙◌, ap, arith, append_assoc, length-append, length-drop, take-append-drop}
use Rattle.std.proofs.lemmas.Bool.{cases_eq}
use Rattle.std.proofs.lemmas.List.{take_at, drop_at, drop-drop, drop_more, drop_all, take-take, length-take-le, append-nil, get_or-take, length-take}
use Rattle.wf_host.specs.World.{World, Torn, Holds, Only}
use Rattle.wf_journal.specs.Records.{magic, records, records_from, length_of}
use Rattle.wf_journal.specs.Writing.{spelled, block}
use Rattle.wf_journal.specs.Gates.{AtGate, AtEnd}
use Rattle.wf_journal.proofs.Payloads.{none_behind, stays_shut, open_then, few_none, opened, is_open_one, block_then}
use Rattle.wf_journal.proofs.Front.{take_front}

take_past : (xs ys : List ℕ) (n : ℕ) → take (length xs + n) (xs ++ ys) ≡ xs ++ take n ys
take_past [] ys n = ap (λ (m : ℕ). take m ys) (omega arith)
take_past (x ∷ xs) ys n = let more : length (x ∷ xs) + n ≡ suc (length xs + n) = omega arith in ap (λ (m : ℕ). take m (x ∷ xs ++ ys)) more ∙ ap (λ (l : List ℕ). x ∷ l) (take_past xs ys n)

module _ (w : World) (gate : ℕ) where
  -- a file with the same front, by the byte at the gate
  pub records_at : (p : AtGate w gate) (c : List ℕ) → gate < length c → take gate c ≡ take gate w.seen → records c ≡ p.passed ++ records_from (drop gate c)
  records_at p c inside same =
      let some : 0 < length (drop gate c) = omega (arith, length-drop gate c) in
      let whole : c ≡ take gate w.seen ++ drop gate c = sym (take-append-drop gate c) ∙ ap (λ (l : List ℕ). l ++ drop gate c) same in
      ap records whole ∙ p.opens (drop gate c) some

  pub records_end : (p : AtGate w gate) (c : List ℕ) → gate < length c → take gate c ≡ take gate w.seen → records_from (drop gate c) ≡ [] → records c ≡ p.passed
  records_end p c inside same none = records_at p c inside same ∙ ap (λ (l : List (List ℕ)). p.passed ++ l) none ∙ append-nil p.passed

  -- those of the file at its end
  pub records_now : (stale : Bool) (e : AtEnd w gate stale) → records w.seen ≡ e.at.passed
  records_now stale e = records_end e.at w.seen e.at.inside refl e.shut

  pub magic_stays : (p : AtGate w gate) (c : List ℕ) → take gate c ≡ take gate w.seen → take 4 c ≡ magic
  magic_stays p c same = take_front 4 gate c w.seen p.behind same ∙ p.begins

module _ (w : World) (gate : ℕ) where
  -- a file with the same front, the gate's byte too, which isn't 1
  pub front_shut : (e : AtEnd w gate false) (c : List ℕ) → take (gate + 1) c ≡ take (gate + 1) w.seen → records c ≡ records w.seen
  front_shut e c same =
      let long : gate < length c = omega (arith, e.at.inside, ap length same, length-take (gate + 1) c, length-take (gate + 1) w.seen) in
      let byte : get_or c gate 0 ≡ get_or w.seen gate 0 = sym (get_or-take (gate + 1) c gate 0 (omega arith)) ∙ ap (λ (l : List ℕ). get_or l gate 0) same ∙ get_or-take (gate + 1) w.seen gate 0 (omega arith) in
      let shut : get_or c gate 0 ≢ 1 = λ one. e.closed refl (sym byte ∙ one) in
      records_end w gate e.at c long (take_front gate (gate + 1) c w.seen (omega arith) same) (ap records_from (drop_more c gate 0 long) ∙ none_behind (get_or c gate 0) (drop (gate + 1) c) shut)
      ∙ sym (records_now w gate false e)

  -- one byte is written at a gate whose byte is 1 although it isn't open
  pub torn_stale : (e : AtEnd w gate true) → get_or w.seen gate 0 ≡ 1 → (c : List ℕ) → Torn gate 1 w.seen c → records c ≡ records w.seen
  torn_stale e one c torn =
      let long : gate < length c = omega (arith, e.at.inside, torn.no_shorter) in
      let rest : drop gate c ≡ get_or c gate 0 ∷ drop (gate + 1) w.seen = drop_more c gate 0 long ∙ ap (λ (l : List ℕ). get_or c gate 0 ∷ l) torn.after in
      let was : records_from (get_or w.seen gate 0 ∷ drop (gate + 1) w.seen) ≡ [] = ap records_from (sym (drop_more w.seen gate 0 e.at.inside)) ∙ e.shut in
      records_end w gate e.at c long torn.before (ap records_from rest ∙ stays_shut (get_or w.seen gate 0) (get_or c gate 0) (drop (gate + 1) w.seen) one was)
      ∙ sym (records_now w gate true e)

  -- and then it is closed
  pub closed_now : (e : AtEnd w gate true) (new : World) → Holds w.seen gate (0 ∷ []) new.seen → Only new.seen new.may_leave → AtEnd new gate false × (records new.seen ≡ records w.seen)
  closed_now e new holds durable =
      let F = take gate w.seen in
      let T = drop (gate + 1) w.seen in
      let length_front : length F ≡ gate = length-take-le gate w.seen (omega (arith, e.at.inside)) in
      let whole : new.seen ≡ F ++ (0 ∷ T) = holds ∙ append_assoc F (0 ∷ []) T in
      let same : take gate new.seen ≡ F = ap (λ (l : List ℕ). take gate l) whole ∙ take_at F (0 ∷ T) gate length_front in
      let rest : drop gate new.seen ≡ 0 ∷ T = ap (λ (l : List ℕ). drop gate l) whole ∙ drop_at F (0 ∷ T) gate length_front in
      let long : gate < length new.seen = omega (arith, ap length whole, length-append F (0 ∷ T), length_front) in
      let byte : get_or new.seen gate 0 ≡ 0 = let m = drop_more new.seen gate 0 long in cc (m, rest) in
      let end : AtEnd new gate false = record {
        at = record {
          settled = durable;
          begins = magic_stays w gate e.at new.seen same;
          behind = e.at.behind;
          inside = long;
          passed = e.at.passed;
          opens = λ ahead some. ap (λ (l : List ℕ). records (l ++ ahead)) same ∙ e.at.opens ahead some;
        };
        shut = ap records_from rest ∙ none_behind 0 T (omega arith);
        closed = λ _ one. absurd (omega (arith, byte, one));
      } in
      (end, records_now new gate false end ∙ sym (records_now w gate true e))

  module _ (payload s : List ℕ) (short : length payload < 2 ^ 32) (e : AtEnd w gate false) (holds : Holds w.seen (gate + 1) (block payload) s) where
    abbrev F : List ℕ
    F = take gate w.seen

    abbrev T : List ℕ
    T = drop (gate + 1 + length (block payload)) w.seen

    length_front : length (take (gate + 1) w.seen) ≡ gate + 1
    length_front = length-take-le (gate + 1) w.seen (omega (arith, e.at.inside))

    pub staged : s ≡ take (gate + 1) w.seen ++ (block payload ++ T)
    staged = holds ∙ append_assoc (take (gate + 1) w.seen) (block payload) T

    pub front_staged : take gate s ≡ F
    front_staged = take_front gate (gate + 1) s w.seen (omega arith) (ap (λ (l : List ℕ). take (gate + 1) l) staged ∙ take_at (take (gate + 1) w.seen) (block payload ++ T) (gate + 1) length_front)

    pub back_staged : drop (gate + 1) s ≡ spelled payload ++ (0 ∷ T)
    back_staged = ap (λ (l : List ℕ). drop (gate + 1) l) staged ∙ drop_at (take (gate + 1) w.seen) (block payload ++ T) (gate + 1) length_front ∙ append_assoc (spelled payload) (0 ∷ []) T

    pub length_staged : gate + 1 + length (block payload) ≤ length s
    length_staged = omega (arith, ap length staged, length-append (take (gate + 1) w.seen) (block payload ++ T), length_front, length-append (block payload) T)

    -- the gate of a whole block is written
    pub torn_open : (c : List ℕ) → Torn gate 1 s c → (records c ≡ records w.seen) ⊎ (records c ≡ records w.seen ++ payload ∷ [])
    torn_open c torn =
        let long : gate < length c = omega (arith, length_staged, torn.no_shorter) in
        let g = get_or c gate 0 in
        let rest : drop gate c ≡ g ∷ (spelled payload ++ (0 ∷ T)) = drop_more c gate 0 long ∙ ap (λ (l : List ℕ). g ∷ l) (torn.after ∙ back_staged) in
        let same = torn.before ∙ front_staged in
        let was = records_now w gate false e in
        elim (cases_eq g 1) [
          | inl is ↦ inr (records_at w gate e.at c long same
              ∙ ap (λ (l : List (List ℕ)). e.at.passed ++ l) (ap records_from (rest ∙ ap (λ (n : ℕ). n ∷ (spelled payload ++ (0 ∷ T))) is) ∙ open_then payload (0 ∷ T) short (omega arith) ∙ ap (λ (l : List (List ℕ)). payload ∷ l) (none_behind 0 T (omega arith)))
              ∙ ap (λ (l : List (List ℕ)). l ++ payload ∷ []) (sym was))
          | inr isnt ↦ inl (records_end w gate e.at c long same (ap records_from rest ∙ none_behind g (spelled payload ++ (0 ∷ T)) isnt) ∙ sym was)
        ]

    -- and then the payload counts
    pub open_now : (new : World) → Holds s gate (1 ∷ []) new.seen → Only new.seen new.may_leave → AtEnd new (gate + 5 + length payload) false × (records new.seen ≡ records w.seen ++ payload ∷ [])
    open_now new opening durable =
        let n = gate + 5 + length payload in
        let P = 1 ∷ spelled payload in
        let length_F : length F ≡ gate = length-take-le gate w.seen (omega (arith, e.at.inside)) in
        let length_P : length (F ++ P) ≡ n = omega (arith, length-append F P, length_F) in
        let whole : new.seen ≡ F ++ P ++ (0 ∷ T) =
        opening ∙ ap (λ (l : List ℕ). l ++ (1 ∷ []) ++ drop (gate + 1) s) front_staged ∙ ap (λ (l : List ℕ). F ++ (1 ∷ []) ++ l) back_staged
        ∙ append_assoc F (1 ∷ []) (spelled payload ++ (0 ∷ T)) ∙ sym (append_assoc F P (0 ∷ T)) in
        let front : take n new.seen ≡ F ++ P = ap (λ (l : List ℕ). take n l) whole ∙ take_at (F ++ P) (0 ∷ T) n length_P in
        let rest : drop n new.seen ≡ 0 ∷ T = ap (λ (l : List ℕ). drop n l) whole ∙ drop_at (F ++ P) (0 ∷ T) n length_P in
        let same : take gate new.seen ≡ F = sym (take-take gate n new.seen (omega arith)) ∙ ap (λ (l : List ℕ). take gate l) front ∙ take_at F P gate length_F in
        let long : n < length new.seen = omega (arith, ap length whole, length-append (F ++ P) (0 ∷ T), length_P) in
        let byte : get_or new.seen n 0 ≡ 0 = let m = drop_more new.seen n 0 long in cc (m, rest) in
        let end : AtEnd new n false = record {
          at = record {
            settled = durable;
            begins = magic_stays w gate e.at new.seen same;
            behind = omega (arith, e.at.behind);
            inside = long;
            passed = e.at.passed ++ payload ∷ [];
            opens = λ ahead some. ap (λ (l : List ℕ). records (l ++ ahead)) front ∙ ap records (append_assoc F P ahead)
                ∙ e.at.opens (P ++ ahead) (omega arith) ∙ ap (λ (l : List (List ℕ)). e.at.passed ++ l) (open_then payload ahead short some)
                ∙ sym (append_assoc e.at.passed (payload ∷ []) (records_from ahead));
          };
          shut = ap records_from rest ∙ none_behind 0 T (omega arith);
          closed = λ _ one. absurd (omega (arith, byte, one));
        } in
        (end, records_now new n false end ∙ ap (λ (l : List (List ℕ)). l ++ payload ∷ []) (sym (records_now w gate false e)))

-- a file of the magic and at most a byte has none
pub begun_none : (c : List ℕ) → length c ≤ 5 → records c ≡ []
begun_none c short = few_none (drop 4 c) (omega (arith, length-drop 4 c))

pub magic_whole : (s s1 : List ℕ) → length s ≤ 4 → Holds s 0 magic s1 → s1 ≡ magic
magic_whole s s1 short holds = holds ∙ ap (λ (l : List ℕ). magic ++ l) (drop_all 4 s short) ∙ append-nil magic

pub torn_magic : (s c : List ℕ) → length s ≤ 4 → Torn 0 4 s c → length c ≤ 4
torn_magic s c short torn = omega (arith, torn.no_longer)

pub torn_first : (s c : List ℕ) → s ≡ magic → Torn 4 1 s c → (take 4 c ≡ magic) × (records c ≡ [])
torn_first s c is torn = (torn.before ∙ ap (λ (l : List ℕ). take 4 l) is, begun_none c (omega (arith, torn.no_longer, ap length is)))

-- the magic and a closed gate
pub begun_now : (s : List ℕ) (new : World) → s ≡ magic → Holds s 4 (0 ∷ []) new.seen → Only new.seen new.may_leave → AtEnd new 4 false × (records new.seen ≡ [])
begun_now s new is holds durable =
    let whole : new.seen ≡ magic ++ 0 ∷ [] = holds ∙ ap (λ (l : List ℕ). take 4 l ++ (0 ∷ []) ++ drop 5 l) is in (
      record {
        at = record {
          settled = durable;
          begins = ap (λ (l : List ℕ). take 4 l) whole;
          behind = omega arith;
          inside = omega (arith, ap length whole);
          passed = [];
          opens = λ ahead some. ap (λ (l : List ℕ). records (take 4 l ++ ahead)) whole;
        };
        shut = ap (λ (l : List ℕ). records_from (drop 4 l)) whole ∙ none_behind 0 [] (omega arith);
        closed = λ _ one. absurd (let byte : get_or new.seen 4 0 ≡ 0 = ap (λ (l : List ℕ). get_or l 4 0) whole in omega (arith, byte, one));
      },
      ap records whole ∙ none_behind 0 [] (omega arith),
    )

-- past an open gate
module _ (w : World) (gate len : ℕ) (p : AtGate w gate) (one : get_or w.seen gate 0 ≡ 1) (is : len ≡ length_of (drop (gate + 1) w.seen)) (fits : gate + 5 + len < length w.seen) where
  abbrev behind_it : List ℕ
  behind_it = drop (gate + 1) w.seen

  long : 4 + length_of behind_it < length behind_it
  long = omega (arith, is, length-drop (gate + 1) w.seen, fits)

  payload_is : take (length_of behind_it) (drop 4 behind_it) ≡ take len (drop (gate + 5) w.seen)
  payload_is = ap (λ (n : ℕ). take n (drop 4 behind_it)) (sym is) ∙ ap (λ (l : List ℕ). take len l) (drop-drop 4 (gate + 1) w.seen ∙ ap (λ (n : ℕ). drop n w.seen) (omega arith))

  here : drop gate w.seen ≡ 1 ∷ behind_it
  here = drop_more w.seen gate 0 p.inside ∙ ap (λ (n : ℕ). n ∷ behind_it) one

  pub passed_by : records_from (drop gate w.seen) ≡ take len (drop (gate + 5) w.seen) ∷ records_from (drop (gate + 5 + len) w.seen)
  passed_by = ap records_from here ∙ opened 1 behind_it (is_open_one behind_it long) ∙ ap (λ (l : List ℕ). l ∷ records_from (drop (4 + length_of behind_it) behind_it)) payload_is
      ∙ ap (λ (l : List ℕ). take len (drop (gate + 5) w.seen) ∷ records_from l) (drop-drop (4 + length_of behind_it) (gate + 1) w.seen ∙ ap (λ (n : ℕ). drop n w.seen) (omega (arith, is)))

  front_is : take (gate + 5 + len) w.seen ≡ take gate w.seen ++ (1 ∷ take (4 + length_of behind_it) behind_it)
  front_is =
      let n = gate + 5 + len in
      let F = take gate w.seen in
      let length_F : length F ≡ gate = length-take-le gate w.seen (omega (arith, p.inside)) in
      let more : n ≡ length F + (suc (4 + length_of behind_it)) = omega (arith, is, length_F) in
      let whole : w.seen ≡ F ++ (1 ∷ behind_it) = sym (take-append-drop gate w.seen) ∙ ap (λ (l : List ℕ). F ++ l) here in
      ap (λ (l : List ℕ). take n l) whole ∙ ap (λ (m : ℕ). take m (F ++ (1 ∷ behind_it))) more ∙ take_past F (1 ∷ behind_it) (suc (4 + length_of behind_it))

  pub gate_past : AtGate w (gate + 5 + len)
  gate_past = record {
    settled = p.settled;
    begins = p.begins;
    behind = omega (arith, p.behind);
    inside = fits;
    passed = p.passed ++ take len (drop (gate + 5) w.seen) ∷ [];
    opens = λ ahead some. ap (λ (l : List ℕ). records (l ++ ahead)) front_is ∙ ap records (append_assoc (take gate w.seen) (1 ∷ take (4 + length_of behind_it) behind_it) ahead)
        ∙ p.opens (1 ∷ take (4 + length_of behind_it) behind_it ++ ahead) (omega arith) ∙ ap (λ (l : List (List ℕ)). p.passed ++ l) (block_then behind_it ahead long some)
        ∙ ap (λ (l : List ℕ). p.passed ++ (l ∷ records_from ahead)) payload_is ∙ sym (append_assoc p.passed (take len (drop (gate + 5) w.seen) ∷ []) (records_from ahead));
  }
