-- How the record of a host in memory goes on.
use Rattle.std.proofs.Common.{◌≡◌, ◌⊎◌, Bool, true, false, if◌then◌else◌, inl, inr, ⊎_elim, ℕ, ◌+◌, ◌≤◌, List, [], ◌∷◌, ◌++◌, length, take, drop, refl, sym, ◌∙◌, ap, subst, arith, append_assoc, length-append, length-drop, take-append-drop}
use Rattle.std.proofs.lemmas.Bool.{cases_lt}
use Rattle.std.proofs.lemmas.List.{take_all, take-append-le, take_at, drop_at, length-take-le, append-nil}
use Rattle.wf_host.specs.declared.data.Deed.{Deed}
use Rattle.wf_host.specs.declared.memory.Done.{Done}
use Rattle.wf_host.specs.declared.memory.Done.TheVariants.{Wrote, Synced, Did}
use Rattle.wf_host.specs.World.{Torn, Same, After, Elapses, longest, written}
use Rattle.wf_host.specs.Memory.{content, images, marks, left_by, Since, world_by, stable}
use Rattle.wf_host.specs.Recorded.{reads_back, at_last}

pub torn_none : (at n : ℕ) (o : List ℕ) → Torn at n o o
torn_none at n o = record { before = refl; after = refl; no_shorter = omega arith; no_longer = omega arith }

pub torn_whole : (file bytes : List ℕ) (at : ℕ) → at ≤ length file → Torn at (length bytes) file (written file at bytes)
torn_whole file bytes at le =
    let F = take at file in
    let R = drop (at + length bytes) file in
    let length_F : length F ≡ at = length-take-le at file le in
    let long : length (written file at bytes) ≡ at + length bytes + length R = omega (arith, length-append (F ++ bytes) R, length-append F bytes, length_F) in
    record {
      before = ap (λ (l : List ℕ). take at l) (append_assoc F bytes R) ∙ take_at F (bytes ++ R) at length_F;
      after = drop_at (F ++ bytes) R (at + length bytes) (omega (arith, length-append F bytes, length_F));
      no_shorter = omega (arith, long, length-drop (at + length bytes) file);
      no_longer = omega (arith, long, length-drop (at + length bytes) file);
    }

-- one more write
pub content_wrote : (file : List ℕ) (past : List Done) (at : ℕ) (bytes : List ℕ) → content file (past ++ Wrote at bytes ∷ []) ≡ written (content file past) at bytes
content_wrote file [] at bytes = refl
content_wrote file (Wrote a b ∷ rest) at bytes = content_wrote (written file a b) rest at bytes
content_wrote file (Synced ∷ rest) at bytes = content_wrote file rest at bytes
content_wrote file (Did ∷ rest) at bytes = content_wrote file rest at bytes

pub content_synced : (file : List ℕ) (past : List Done) → content file (past ++ Synced ∷ []) ≡ content file past
content_synced file [] = refl
content_synced file (Wrote a b ∷ rest) = content_synced (written file a b) rest
content_synced file (Synced ∷ rest) = content_synced file rest
content_synced file (Did ∷ rest) = content_synced file rest

pub content_did : (file : List ℕ) (past : List Done) → content file (past ++ Did ∷ []) ≡ content file past
content_did file [] = refl
content_did file (Wrote a b ∷ rest) = content_did (written file a b) rest
content_did file (Synced ∷ rest) = content_did file rest
content_did file (Did ∷ rest) = content_did file rest

pub images_wrote : (file : List ℕ) (left : List ℕ → Type 0) (past : List Done) (at : ℕ) (bytes c : List ℕ) → images file left (past ++ Wrote at bytes ∷ []) c
    → After (Torn at (length bytes)) (images file left past) c ⊎ (c ≡ written (content file past) at bytes)
images_wrote file left [] at bytes c is = is
images_wrote file left (Wrote a b ∷ rest) at bytes c is = images_wrote (written file a b) (λ i. After (Torn a (length b)) left i ⊎ (i ≡ written file a b)) rest at bytes c is
images_wrote file left (Synced ∷ rest) at bytes c is = images_wrote file (λ i. i ≡ file) rest at bytes c is
images_wrote file left (Did ∷ rest) at bytes c is = images_wrote file left rest at bytes c is

pub images_synced : (file : List ℕ) (left : List ℕ → Type 0) (past : List Done) (c : List ℕ) → images file left (past ++ Synced ∷ []) c → c ≡ content file past
images_synced file left [] c is = is
images_synced file left (Wrote a b ∷ rest) c is = images_synced (written file a b) (λ i. After (Torn a (length b)) left i ⊎ (i ≡ written file a b)) rest c is
images_synced file left (Synced ∷ rest) c is = images_synced file (λ i. i ≡ file) rest c is
images_synced file left (Did ∷ rest) c is = images_synced file left rest c is

pub images_did : (file : List ℕ) (left : List ℕ → Type 0) (past : List Done) (c : List ℕ) → images file left (past ++ Did ∷ []) c → images file left past c
images_did file left [] c is = is
images_did file left (Wrote a b ∷ rest) c is = images_did (written file a b) (λ i. After (Torn a (length b)) left i ⊎ (i ≡ written file a b)) rest c is
images_did file left (Synced ∷ rest) c is = images_did file (λ i. i ≡ file) rest c is
images_did file left (Did ∷ rest) c is = images_did file left rest c is

marks-append : (past more : List Done) → marks (past ++ more) ≡ marks past + marks more
marks-append [] more = omega arith
marks-append (Wrote a b ∷ rest) more = marks-append rest more
marks-append (Synced ∷ rest) more = marks-append rest more
marks-append (Did ∷ rest) more = omega (arith, marks-append rest more)

marks-take : (k : ℕ) (past : List Done) → marks (take k past) ≤ marks past
marks-take k past = omega (arith, ap marks (take-append-drop k past), marks-append (take k past) (drop k past))

module _ (first : List ℕ) (past : List Done) (deeds : List Deed) (counts : marks past ≡ length deeds) where
  -- a call that isn't recorded
  pub elapses_none : (image image2 : List ℕ) (step : List ℕ → List ℕ → Type 0) → ((o : List ℕ) → step o o) → Elapses step [] (world_by first image past deeds) (world_by first image2 past deeds)
  elapses_none image image2 step stays = record {
    later = omega arith;
    deeds = sym (append-nil deeds);
    joins = λ t c d le left. inl left;
    keeps = λ t c d le left. left;
    during = λ c d left. let now = at_last first past deeds counts c d left in ((c, now.0, stays c), inl now.1);
  }

  -- a call without a deed
  pub elapses_push : (image image2 : List ℕ) (step : List ℕ → List ℕ → Type 0) (x : Done) → ((o : List ℕ) → step o o) → marks (x ∷ []) ≡ 0
      → ((c : List ℕ) → left_by first (past ++ x ∷ []) c → After step (left_by first past) c)
      → Elapses step [] (world_by first image past deeds) (world_by first image2 (past ++ x ∷ []) deeds)
  elapses_push image image2 step x stays none reaches = record {
    later = omega (arith, length-append past (x ∷ []));
    deeds = sym (append-nil deeds);
    joins = joins;
    keeps = keeps;
    during = during;
  }
    where
      front : (k : ℕ) → k ≤ length past → take k (past ++ x ∷ []) ≡ take k past
      front k le = take-append-le k past (x ∷ []) le

      joins : (t : ℕ) (c : List ℕ) (d : List Deed) → t ≤ length past → Since first (past ++ x ∷ []) deeds t c d → Since first past deeds t c d ⊎ Since first (past ++ x ∷ []) deeds (length past) c d
      joins t c d le (k, low, high, left, is) = elim (cases_lt (length past) k) [
        | inl over ↦ inr (k, omega (arith, over), high, left, is)
        | inr under ↦ inl (k, low, under, subst (λ (p : List Done). left_by first p c) (front k under) left, is ∙ ap (λ (p : List Done). take (marks p) deeds) (front k under))
      ]

      keeps : (t : ℕ) (c : List ℕ) (d : List Deed) → t ≤ length past → Since first past deeds t c d → Since first (past ++ x ∷ []) deeds t c d
      keeps t c d le (k, low, high, left, is) =
          (k, low, omega (arith, high, length-append past (x ∷ [])), subst (λ (p : List Done). left_by first p c) (sym (front k high)) left, is ∙ ap (λ (p : List Done). take (marks p) deeds) (sym (front k high)))

      during : (c : List ℕ) (d : List Deed) → Since first (past ++ x ∷ []) deeds (length past) c d → After step (left_by first past) c × ((d ≡ deeds) ⊎ (d ≡ deeds))
      during c d (k, low, high, left, is) = elim (cases_lt (length past) k) [
        | inl over ↦
            let all : take k (past ++ x ∷ []) ≡ past ++ x ∷ [] = take_all k (past ++ x ∷ []) (omega (arith, over, length-append past (x ∷ []))) in (
              reaches c (subst (λ (p : List Done). left_by first p c) all left),
              inl (is ∙ ap (λ (p : List Done). take (marks p) deeds) all ∙ take_all (marks (past ++ x ∷ [])) deeds (omega (arith, counts, none, marks-append past (x ∷ [])))),
            )
        | inr under ↦ let now = at_last first past deeds counts c d (k, low, under, subst (λ (p : List Done). left_by first p c) (front k under) left, is ∙ ap (λ (p : List Done). take (marks p) deeds) (front k under)) in ((c, now.0, stays c), inl now.1)
      ]

  -- a deed
  pub elapses_did : (image image2 : List ℕ) (e : Deed) → Elapses Same (e ∷ []) (world_by first image past deeds) (world_by first image2 (past ++ Did ∷ []) (deeds ++ e ∷ []))
  elapses_did image image2 e = record {
    later = omega (arith, length-append past (Did ∷ []));
    deeds = refl;
    joins = joins;
    keeps = keeps;
    during = during;
  }
    where
      front : (k : ℕ) → k ≤ length past → take k (past ++ Did ∷ []) ≡ take k past
      front k le = take-append-le k past (Did ∷ []) le

      begun : (k : ℕ) → k ≤ length past → take (marks (take k (past ++ Did ∷ []))) (deeds ++ e ∷ []) ≡ take (marks (take k past)) deeds
      begun k le = ap (λ (p : List Done). take (marks p) (deeds ++ e ∷ [])) (front k le) ∙ take-append-le (marks (take k past)) deeds (e ∷ []) (omega (arith, counts, marks-take k past))

      joins : (t : ℕ) (c : List ℕ) (d : List Deed) → t ≤ length past → Since first (past ++ Did ∷ []) (deeds ++ e ∷ []) t c d → Since first past deeds t c d ⊎ Since first (past ++ Did ∷ []) (deeds ++ e ∷ []) (length past) c d
      joins t c d le (k, low, high, left, is) = elim (cases_lt (length past) k) [
        | inl over ↦ inr (k, omega (arith, over), high, left, is)
        | inr under ↦ inl (k, low, under, subst (λ (p : List Done). left_by first p c) (front k under) left, is ∙ begun k under)
      ]

      keeps : (t : ℕ) (c : List ℕ) (d : List Deed) → t ≤ length past → Since first past deeds t c d → Since first (past ++ Did ∷ []) (deeds ++ e ∷ []) t c d
      keeps t c d le (k, low, high, left, is) =
          (k, low, omega (arith, high, length-append past (Did ∷ [])), subst (λ (p : List Done). left_by first p c) (sym (front k high)) left, is ∙ sym (begun k high))

      during : (c : List ℕ) (d : List Deed) → Since first (past ++ Did ∷ []) (deeds ++ e ∷ []) (length past) c d → After Same (left_by first past) c × ((d ≡ deeds) ⊎ (d ≡ deeds ++ e ∷ []))
      during c d (k, low, high, left, is) = elim (cases_lt (length past) k) [
        | inl over ↦
            let all : take k (past ++ Did ∷ []) ≡ past ++ Did ∷ [] = take_all k (past ++ Did ∷ []) (omega (arith, over, length-append past (Did ∷ []))) in (
              (c, images_did first (λ i. i ≡ first) past c (subst (λ (p : List Done). left_by first p c) all left), refl),
              inr (is ∙ ap (λ (p : List Done). take (marks p) (deeds ++ e ∷ [])) all ∙ take_all (marks (past ++ Did ∷ [])) (deeds ++ e ∷ []) (omega (arith, counts, marks-append past (Did ∷ []), length-append deeds (e ∷ [])))),
            )
        | inr under ↦ let now = at_last first past deeds counts c d (k, low, under, subst (λ (p : List Done). left_by first p c) (front k under) left, is ∙ begun k under) in ((c, now.0, refl), inl now.1)
      ]

-- the same, by other names
pub elapses_to : (first image image2 : List ℕ) (past past1 past2 : List Done) (deeds deeds1 deeds2 : List Deed) (step : List ℕ → List ℕ → Type 0) (deed : List Deed) → past2 ≡ past1 → deeds2 ≡ deeds1
    → Elapses step deed (world_by first image past deeds) (world_by first image2 past1 deeds1) → Elapses step deed (world_by first image past deeds) (world_by first image2 past2 deeds2)
elapses_to first image image2 past past1 past2 deeds deeds1 deeds2 step deed same_past same_deeds time =
    subst (λ (p : List Done). Elapses step deed (world_by first image past deeds) (world_by first image2 p deeds2)) (sym same_past)
    (subst (λ (d : List Deed). Elapses step deed (world_by first image past deeds) (world_by first image2 past1 d)) (sym same_deeds) time)

pub if_either : {A : Type 0} (P : A → Type 0) (b : Bool) (x y z : A) → z ≡ (if b then x else y) → P x → P y → P z
if_either P true x y z is px py = subst P (sym is) px
if_either P false x y z is px py = subst P (sym is) py

pub if_true : {A : Type 0} (b : Bool) (x y z : A) → z ≡ (if b then x else y) → b ≡ true → z ≡ x
if_true true x y z is _ = is
if_true false x y z is so = absurd (cc so)

pub marks_wrote : (past : List Done) (at : ℕ) (bytes : List ℕ) → marks (past ++ Wrote at bytes ∷ []) ≡ marks past
marks_wrote past at bytes = omega (arith, marks-append past (Wrote at bytes ∷ []))

pub marks_synced : (past : List Done) → marks (past ++ Synced ∷ []) ≡ marks past
marks_synced past = omega (arith, marks-append past (Synced ∷ []))

pub marks_did : (past : List Done) → marks (past ++ Did ∷ []) ≡ marks past + 1
marks_did past = omega (arith, marks-append past (Did ∷ []))

-- a write of which nothing, a part or all may be there
pub elapses_write : (first image image2 : List ℕ) (past : List Done) (deeds : List Deed) → marks past ≡ length deeds → image ≡ content first past → (at : ℕ) (bytes : List ℕ) → at ≤ length image
    → Elapses (Torn at (length bytes)) [] (world_by first image past deeds) (world_by first image2 (past ++ Wrote at bytes ∷ []) deeds)
elapses_write first image image2 past deeds counts same at bytes le =
    elapses_push first past deeds counts image image2 (Torn at (length bytes)) (Wrote at bytes) (λ o. torn_none at (length bytes) o) refl (λ c left.
    ⊎_elim (λ torn. torn) (λ whole. (content first past, reads_back first (λ i. i ≡ first) past refl, subst (λ i. Torn at (length bytes) (content first past) i) (sym whole) (torn_whole (content first past) bytes at (omega (arith, ap length same, le)))))
    (images_wrote first (λ i. i ≡ first) past at bytes c left))

pub elapses_sync : (first image image2 : List ℕ) (past : List Done) (deeds : List Deed) → marks past ≡ length deeds
    → Elapses Same [] (world_by first image past deeds) (world_by first image2 (past ++ Synced ∷ []) deeds)
elapses_sync first image image2 past deeds counts =
    elapses_push first past deeds counts image image2 Same Synced (λ o. refl) refl (λ c left. (content first past, reads_back first (λ i. i ≡ first) past refl, images_synced first (λ i. i ≡ first) past c left))

pub long_fits : (file next bytes : List ℕ) (at : ℕ) → next ≡ written file at bytes → at ≤ length file → at + length bytes ≤ longest → length file ≤ longest → length next ≤ longest
long_fits file next bytes at is le room fits =
    omega (arith, ap length is, length-append (take at file ++ bytes) (drop (at + length bytes) file), length-append (take at file) bytes, length-take-le at file le, length-drop (at + length bytes) file)

-- what was synced is one of the images
pub stable_left : (still file : List ℕ) (left : List ℕ → Type 0) (past : List Done) → left still → images file left past (stable still file past)
stable_left still file left [] is = is
stable_left still file left (Wrote at bytes ∷ rest) is =
    stable_left still (written file at bytes) (λ c. After (Torn at (length bytes)) left c ⊎ (c ≡ written file at bytes)) rest (inl (still, is, torn_none at (length bytes) still))
stable_left still file left (Synced ∷ rest) is = stable_left file file (λ c. c ≡ file) rest refl
stable_left still file left (Did ∷ rest) is = stable_left still file left rest is

-- what was synced, after one call more
pub stable_wrote : (still file : List ℕ) (past : List Done) (at : ℕ) (bytes : List ℕ) → stable still file (past ++ Wrote at bytes ∷ []) ≡ stable still file past
stable_wrote still file [] at bytes = refl
stable_wrote still file (Wrote a b ∷ rest) at bytes = stable_wrote still (written file a b) rest at bytes
stable_wrote still file (Synced ∷ rest) at bytes = stable_wrote file file rest at bytes
stable_wrote still file (Did ∷ rest) at bytes = stable_wrote still file rest at bytes

pub stable_did : (still file : List ℕ) (past : List Done) → stable still file (past ++ Did ∷ []) ≡ stable still file past
stable_did still file [] = refl
stable_did still file (Wrote a b ∷ rest) = stable_did still (written file a b) rest
stable_did still file (Synced ∷ rest) = stable_did file file rest
stable_did still file (Did ∷ rest) = stable_did still file rest

pub stable_synced : (still file : List ℕ) (past : List Done) → stable still file (past ++ Synced ∷ []) ≡ content file past
stable_synced still file [] = refl
stable_synced still file (Wrote a b ∷ rest) = stable_synced still (written file a b) rest
stable_synced still file (Synced ∷ rest) = stable_synced file file rest
stable_synced still file (Did ∷ rest) = stable_synced still file rest
