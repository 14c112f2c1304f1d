-- A map's entries, which are its pairs in any order.
use Rattle.std.proofs.Common.{◌≡◌, ◌⊎◌, inl, inr, ℕ, ◌+◌, List, [], ◌∷◌, ◌++◌, true, false, Ordering, Less, Equal, Greater, refl, sym, ap, ◌∙◌, subst, true≢false, append_assoc}
use Rattle.std.proofs.lemmas.Map.Lookups.{exact_bytes}
use Rattle.std.specs.Map.{keys_of}
use Rattle.std.specs.Ordering.{match_ordering}
use Rattle.wf_lemmas.proofs.Bools.{or_left, or_right}
use Rattle.wf_lemmas.proofs.Lists.{same_head, same_tail}
use Rattle.wf_tree.specs.Trees.{pairs_of}
use Rattle.wf_value.specs.Maps.{key_cmp, with_value}
use Rattle.wf_yaml_line.specs.Marks.{is_same, is_one_of}
use Rattle.wf_yaml.specs.Relation.{Entry, IsPair, Reads, PairsRead}
use Rattle.wf_yaml.proofs.Ordered.{Named, same_itself}

abbrev pub One : ℕ → ℕ → Entry → Named → Type 0
One n d e p = IsPair n d e p.0 p.1 (λ delay rs. Reads (n + 1) (d + 1) delay rs p.1)

-- these entries are these pairs
abbrev pub Match : ℕ → ℕ → List Entry → List Named → Type 0
Match n d es ps = PairsRead n d es (pairs_of ps)

-- ---- lists

-- where one list is cut in two ways, and the second cut is at an element
record LaterCut {A : Type 0} (a b x : List A) (z : A) (y : List A) : Type 0 where
  pub between : List A
  pub left : x ≡ a ++ between
  pub right : b ≡ between ++ z ∷ y

record EarlierCut {A : Type 0} (a b x : List A) (z : A) (y : List A) : Type 0 where
  pub between : List A
  pub left : a ≡ x ++ z ∷ between
  pub right : y ≡ between ++ b

cuts : {A : Type 0} (a b x : List A) (z : A) (y : List A) → a ++ b ≡ x ++ z ∷ y → EarlierCut a b x z y ⊎ LaterCut a b x z y
cuts [] b x z y h = inr (record { between = x; left = refl; right = h })
cuts (c ∷ a) b [] z y h = inl (record { between = a; left = ap (λ e. e ∷ a) (same_head c z (a ++ b) y h); right = sym (same_tail c z (a ++ b) y h) })
cuts (c ∷ a) b (w ∷ x) z y h = by (cuts a b x z y (same_tail c w (a ++ b) (x ++ z ∷ y) h))
  where
    same : c ≡ w
    same = same_head c w (a ++ b) (x ++ z ∷ y) h

    by : EarlierCut a b x z y ⊎ LaterCut a b x z y → EarlierCut (c ∷ a) b (w ∷ x) z y ⊎ LaterCut (c ∷ a) b (w ∷ x) z y
    by (inl k) = inl (record { between = k.between; left = (λ i. same i ∷ k.left i); right = k.right })
    by (inr k) = inr (record { between = k.between; left = (λ i. sym same i ∷ k.left i); right = k.right })

-- ---- an entry more

module _ (n d : ℕ) (e : Entry) (p : Named) (is : One n d e p) where
  at_front : (a b : List Entry) (ps : List Named) → Match n d (a ++ b) ps → Match n d (a ++ e ∷ b) (p ∷ ps)
  at_front a b ps h = record { before = a; entry = e; after = b; all = refl; one = is; others = h }

  module _ (q : Named) (ps more : List Named) (next : (x y : List Entry) → Match n d (x ++ y) ps → Match n d (x ++ e ∷ y) more) where
    behind : (a b : List Entry) (h : Match n d (a ++ b) (q ∷ ps)) → EarlierCut a b h.before h.entry h.after ⊎ LaterCut a b h.before h.entry h.after → Match n d (a ++ e ∷ b) (q ∷ more)
    behind a b h (inl k) =
        let old : Match n d ((h.before ++ k.between) ++ b) ps = subst (λ l. Match n d l ps) (ap (λ l. h.before ++ l) k.right ∙ sym (append_assoc h.before k.between b)) h.others in
        record {
          before = h.before;
          entry = h.entry;
          after = k.between ++ e ∷ b;
          all = ap (λ l. l ++ e ∷ b) k.left ∙ append_assoc h.before (h.entry ∷ k.between) (e ∷ b);
          one = h.one;
          others = subst (λ l. Match n d l more) (append_assoc h.before k.between (e ∷ b)) (next (h.before ++ k.between) b old);
        }
    behind a b h (inr k) =
        let old : Match n d (a ++ (k.between ++ h.after)) ps = subst (λ l. Match n d l ps) (ap (λ l. l ++ h.after) k.left ∙ append_assoc a k.between h.after) h.others in
        record {
          before = a ++ e ∷ k.between;
          entry = h.entry;
          after = h.after;
          all = ap (λ l. a ++ e ∷ l) k.right ∙ sym (append_assoc a (e ∷ k.between) (h.entry ∷ h.after));
          one = h.one;
          others = subst (λ l. Match n d l more) (sym (append_assoc a (e ∷ k.between) h.after)) (next a (k.between ++ h.after) old);
        }

    placed : (o : Ordering) → key_cmp p.0 q.0 ≡ o → is_same q.0 p.0 ≡ false → (a b : List Entry) → Match n d (a ++ b) (q ∷ ps) → Match n d (a ++ e ∷ b) (match_ordering o ((p.0, p.1) ∷ q ∷ ps) ((q.0, p.1) ∷ ps) (q ∷ more))
    placed Less c new a b h = at_front a b (q ∷ ps) h
    placed Equal c new a b h = absurd (true≢false (sym (same_itself q.0) ∙ ap (λ k. is_same q.0 k) (sym (exact_bytes p.0 q.0 c)) ∙ new))
    placed Greater c new a b h = behind a b h (cuts a b h.before h.entry h.after h.all)

  -- a pair with a new key, for an entry more
  pub put : (ps : List Named) → is_one_of (keys_of ps) p.0 ≡ false → (a b : List Entry) → Match n d (a ++ b) ps → Match n d (a ++ e ∷ b) (with_value p.0 p.1 ps)
  put [] new a b h = at_front a b [] h
  put (q ∷ ps) new a b h =
      placed q ps (with_value p.0 p.1 ps) (λ x y. put ps (or_right (is_same q.0 p.0) (is_one_of (keys_of ps) p.0) new) x y) (key_cmp p.0 q.0) refl (or_left (is_same q.0 p.0) (is_one_of (keys_of ps) p.0) new) a b h

-- ---- the pair of the first entry

pub record Taken (n d : ℕ) (e : Entry) (es : List Entry) (ps : List Named) : Type 0 where
  pub before : List Named
  pub pair : Named
  pub after : List Named
  pub all : ps ≡ before ++ pair ∷ after
  pub one : One n d e pair
  pub others : Match n d es (before ++ after)

module _ (n d : ℕ) (e : Entry) where
  taken_at : (es : List Entry) (p : Named) (ps : List Named) (entry : Entry) (before after : List Entry) → One n d entry p → e ∷ es ≡ before ++ entry ∷ after → Match n d (before ++ after) ps
      → ((xs : List Entry) → Match n d (e ∷ xs) ps → Taken n d e xs ps) → Taken n d e es (p ∷ ps)
  taken_at es p ps entry [] after is all others more =
      record { before = []; pair = p; after = ps; all = refl; one = subst (λ x. One n d x p) (sym (same_head e entry es after all)) is; others = subst (λ l. Match n d l ps) (sym (same_tail e entry es after all)) others }
  taken_at es p ps entry (b ∷ bs) after is all others more =
      let same = same_head e b es (bs ++ entry ∷ after) all in
      let t = more (bs ++ after) (subst (λ x. Match n d (x ∷ (bs ++ after)) ps) (sym same) others) in
      record {
        before = p ∷ t.before;
        pair = t.pair;
        after = t.after;
        all = ap (λ l. p ∷ l) t.all;
        one = t.one;
        others = record { before = bs; entry = entry; after = after; all = same_tail e b es (bs ++ entry ∷ after) all; one = is; others = t.others };
      }

  pub taken : (es : List Entry) (ps : List Named) → Match n d (e ∷ es) ps → Taken n d e es ps
  taken es [] h = absurd (cc)
  taken es (p ∷ ps) h = taken_at es p ps h.entry h.before h.after h.one h.all h.others (λ xs m. taken xs ps m)
