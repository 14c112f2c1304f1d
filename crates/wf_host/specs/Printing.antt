-- How much of a text was printed.
use Rattle.std.specs.Prelude.{◌≡◌, ℕ, List, [], ◌∷◌, ◌++◌, All, Contains}
use Rattle.wf_host.specs.declared.data.Deed.{Deed}
use Rattle.wf_host.specs.declared.data.Deed.TheVariants.{Print}
use Rattle.wf_host.specs.World.{World}

-- the bytes that these deeds printed
abbrev pub printed : List Deed → List ℕ
printed [] = []
printed (Print b ∷ ds) = b ++ printed ds
printed (d ∷ ds) = printed ds

-- this deed is a print
abbrev pub IsPrint : Deed → Type 0
IsPrint d = (b : List ℕ) × (d ≡ Print b)

-- each of these deeds is a print
abbrev pub AllPrints : List Deed → Type 0
AllPrints D = All IsPrint D

-- these deeds are prints, and print a front of the text
abbrev pub PrintFront : List ℕ → List Deed → Type 0
PrintFront text D = AllPrints D × ((rest : List ℕ) × (text ≡ printed D ++ rest))

-- this holds of the deeds since an earlier moment, by the deeds until then and until now
abbrev pub Since : List Deed → List Deed → (List Deed → Type 0) → Type 0
Since before now P = (D : List Deed) × (now ≡ before ++ D) × P D

-- a front of the text was printed, and nothing else was done
abbrev pub PrintsFront : World → World → List ℕ → Type 0
PrintsFront old new text = Since old.deeds new.deeds (PrintFront text)

-- the whole text was printed, and nothing else was done
abbrev pub PrintsWhole : World → World → List ℕ → Type 0
PrintsWhole old new text = Since old.deeds new.deeds (λ D. AllPrints D × (printed D ≡ text))

-- a front of the text was printed that leaves at least one byte, and nothing else was done
abbrev pub LeavesSome : World → World → List ℕ → Type 0
LeavesSome old new text = Since old.deeds new.deeds (λ D. AllPrints D × ((b : ℕ) × (rest : List ℕ) × (text ≡ printed D ++ b ∷ rest)))

-- a print took no byte
abbrev pub TookNothing : World → World → Type 0
TookNothing old new = Since old.deeds new.deeds (λ D. Contains D (Print []))

-- a crash at the first moment may leave this file too, and since then a front of the text was printed and nothing else done
abbrev pub PrintedSoFar : World → List ℕ → List ℕ → List Deed → Type 0
PrintedSoFar first text c d = first.may_leave c × Since first.deeds d (PrintFront text)
