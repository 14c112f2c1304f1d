-- What a crash may leave of what a host in memory has, by the record of its calls.
use Rattle.std.proofs.Common.{◌≡◌, ◌⊎◌, inr, ℕ, ◌≤◌, List, [], ◌∷◌, length, take, refl, sym, ◌∙◌, ap, subst, arith}
use Rattle.std.proofs.lemmas.List.{take_all}
use Rattle.wf_host.specs.declared.data.Deed.{Deed}
use Rattle.wf_host.specs.declared.memory.Done.{Done}
use Rattle.wf_host.specs.declared.memory.Done.TheVariants.{Wrote, Synced, Did}
use Rattle.wf_host.specs.World.{Torn, After, written}
use Rattle.wf_host.specs.Memory.{content, images, marks, left_by, Since}

-- the file reads as one of its images, whatever was done
pub reads_back : (file : List ℕ) (left : List ℕ → Type 0) (past : List Done) → left file → images file left past (content file past)
reads_back file left [] is = is
reads_back file left (Wrote at bytes ∷ rest) is = reads_back (written file at bytes) (λ c. After (Torn at (length bytes)) left c ⊎ (c ≡ written file at bytes)) rest (inr refl)
reads_back file left (Synced ∷ rest) is = reads_back file (λ c. c ≡ file) rest refl
reads_back file left (Did ∷ rest) is = reads_back file left rest is

module _ (first : List ℕ) (past : List Done) (deeds : List Deed) (counts : marks past ≡ length deeds) where
  -- since this moment there is what there is now
  pub at_last : (c : List ℕ) (d : List Deed) → Since first past deeds (length past) c d → left_by first past c × (d ≡ deeds)
  at_last c d (k, low, high, left, is) =
      let same : take k past ≡ past = take_all k past low in
      (subst (λ (p : List Done). left_by first p c) same left, is ∙ ap (λ (p : List Done). take (marks p) deeds) same ∙ take_all (marks past) deeds (omega (arith, counts)))

  pub now_since : (t : ℕ) (c : List ℕ) → t ≤ length past → left_by first past c → Since first past deeds t c deeds
  now_since t c le left =
      let same : past ≡ take (length past) past = sym (take_all (length past) past (omega arith)) in
      (length past, le, omega arith, subst (λ (p : List Done). left_by first p c) same left, sym (ap (λ (p : List Done). take (marks p) deeds) (sym same) ∙ take_all (marks past) deeds (omega (arith, counts))))
