-- What a host in memory stands for, by a record of its calls.
use Rattle.std.specs.Prelude.{◌≡◌, ◌⊎◌, ℕ, suc, ◌≤◌, true, List, [], ◌∷◌, ◌++◌, length, take}
use Rattle.wf_host.specs.declared.data.Deed.{Deed}
use Rattle.wf_host.specs.declared.data.Deed.TheVariants.{Start, Poll, Now, Reply, Drop, Print}
use Rattle.wf_host.specs.declared.memory.Done.{Done}
use Rattle.wf_host.specs.declared.memory.Done.TheVariants.{Wrote, Synced, Did}
use Rattle.wf_host.specs.World.{World, Torn, After, written}

-- the file after these calls
abbrev pub content : List ℕ → List Done → List ℕ
content file [] = file
content file (Wrote at bytes ∷ rest) = content (written file at bytes) rest
content file (Synced ∷ rest) = content file rest
content file (Did ∷ rest) = content file rest

-- what a crash may leave after these calls, from a file and what a crash may leave of it
abbrev pub images : List ℕ → (List ℕ → Type 0) → List Done → List ℕ → Type 0
images file left [] = left
images file left (Wrote at bytes ∷ rest) = images (written file at bytes) (λ c. After (Torn at (length bytes)) left c ⊎ (c ≡ written file at bytes)) rest
images file left (Synced ∷ rest) = images file (λ c. c ≡ file) rest
images file left (Did ∷ rest) = images file left rest

-- the deeds among these calls
abbrev pub marks : List Done → ℕ
marks [] = 0
marks (Wrote at bytes ∷ rest) = marks rest
marks (Synced ∷ rest) = marks rest
marks (Did ∷ rest) = suc (marks rest)

-- what a crash may leave of a file that was on the disk at first
abbrev pub left_by : List ℕ → List Done → List ℕ → Type 0
left_by first past = images first (λ c. c ≡ first) past

-- a crash after some of the calls, at least t of them
abbrev pub Since : List ℕ → List Done → List Deed → ℕ → List ℕ → List Deed → Type 0
Since first past deeds t c d = (k : ℕ) × (t ≤ k) × (k ≤ length past) × left_by first (take k past) c × (d ≡ take (marks (take k past)) deeds)

abbrev pub world_by : List ℕ → List ℕ → List Done → List Deed → World
world_by first image past deeds = record {
  tells = true;
  seen = image;
  may_leave = left_by first past;
  deeds = deeds;
  moment = length past;
  left_since = Since first past deeds;
}

-- the file as it was at the last sync, from a file and what was stable before
abbrev pub stable : List ℕ → List ℕ → List Done → List ℕ
stable still file [] = still
stable still file (Wrote at bytes ∷ rest) = stable still (written file at bytes) rest
stable still file (Synced ∷ rest) = stable file file rest
stable still file (Did ∷ rest) = stable still file rest

-- what was printed
abbrev pub prints : List Deed → List ℕ
prints [] = []
prints (Print bytes ∷ rest) = bytes ++ prints rest
prints (Now t ∷ rest) = prints rest
prints (Start k to bytes ∷ rest) = prints rest
prints (Poll until heard ∷ rest) = prints rest
prints (Reply k bytes ∷ rest) = prints rest
prints (Drop k ∷ rest) = prints rest
