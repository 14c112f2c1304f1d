-- What the speakers of a host in memory stand for.
use Rattle.std.specs.Prelude.{ℕ, List, [], ◌∷◌, drop}
use Rattle.wf_host.specs.declared.data.What.{What}
use Rattle.wf_host.specs.declared.data.What.TheVariants.{Nothing, Bytes, End, Broken, Visit, VisitEnd}

-- a thing of which so many bytes were told
abbrev pub beyond : ℕ → What → What
beyond n (Bytes k bytes) = Bytes k (drop n bytes)
beyond n (Visit v bytes) = Visit v (drop n bytes)
beyond n Nothing = Nothing
beyond n (End k) = End k
beyond n (Broken k) = Broken k
beyond n (VisitEnd v) = VisitEnd v

-- these things, of the first of which so many bytes were told
abbrev pub past_first : ℕ → List What → List What
past_first n [] = []
past_first n (w ∷ rest) = beyond n w ∷ rest
