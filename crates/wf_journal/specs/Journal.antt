-- What a crash at a moment of a call may leave: an image of the file, and the deeds by then.
use Rattle.std.specs.Prelude.{◌≡◌, ◌⊎◌, ◌≤◌, ℕ, List, [], ◌∷◌, ◌++◌, length, take}
use Rattle.wf_host.specs.World.{World}
use Rattle.wf_host.specs.declared.data.Deed.{Deed}
use Rattle.wf_journal.specs.Records.{magic, records}

-- a new file, or one with the magic
abbrev pub IsJournal : List ℕ → Type 0
IsJournal c = (length c ≤ 4) ⊎ (take 4 c ≡ magic)

-- the file as it was, and no deed
abbrev pub Stays : World → List ℕ → List Deed → Type 0
Stays old c d = (c ≡ old.seen) × (d ≡ old.deeds)

-- the records as they were, in a file with the magic, and no deed
abbrev pub RecordsStay : World → List ℕ → List Deed → Type 0
RecordsStay old c d = (take 4 c ≡ magic) × (records c ≡ records old.seen) × (d ≡ old.deeds)

-- the records as they were, or these and a new one, in a file with the magic, and no deed
abbrev pub IsBeforeOrAfter : World → List ℕ → List ℕ → List Deed → Type 0
IsBeforeOrAfter old payload c d = (take 4 c ≡ magic) × ((records c ≡ records old.seen) ⊎ (records c ≡ records old.seen ++ payload ∷ [])) × (d ≡ old.deeds)

-- a journal without a record, and no deed
abbrev pub HasNone : World → List ℕ → List Deed → Type 0
HasNone old c d = IsJournal c × (records c ≡ []) × (d ≡ old.deeds)
