-- What a call answers. Where there is no memory nothing is said.
use Rattle.std.specs.Prelude.{◌≡◌, ℕ, Bool, ℤ, List, [], ◌∷◌, pos, negsuc, slice_get, Result, Ok, Err}
use Rattle.wf_value.specs.Data.{Data, list, map, Items, Pairs}
use Rattle.wf_value.specs.Errors.{Answer, ◌>>=◌, or_error, kept}
use Rattle.wf_value.specs.Pairs.{Text, put}
use Rattle.wf_value.specs.Plain.{plain}
use Rattle.wf_value.specs.declared.errors.Raise.{Raise}
use Rattle.wf_value.specs.declared.errors.Raise.TheVariants.{Error, OutOfMemory}
use Rattle.wf_value.specs.declared.errors.Tag.TheVariants.{IndexError}
use Rattle.wf_value.specs.declared.value.Value.{Value}

-- the answer of a call is this meaning, by this reading of its value
abbrev pub Answers : {A B : Type 0} → (A → B) → Result A Raise → Answer B → Type 0
Answers f (Ok v) (Ok d) = f v ≡ d
Answers f (Ok v) (Err t) = ⊥
Answers f (Err OutOfMemory) d = Unit {0}
Answers f (Err (Error t)) (Ok d) = ⊥
Answers f (Err (Error t)) (Err u) = t ≡ u

-- a value
abbrev pub Gives : Result Value Raise → Answer Data → Type 0
Gives r d = Answers plain r d

-- a truth value
abbrev pub GivesBool : Result Bool Raise → Answer Bool → Type 0
GivesBool r d = Answers (λ b. b) r d

-- a whole number
abbrev pub GivesInt : Result ℤ Raise → Answer ℤ → Type 0
GivesInt r d = Answers (λ n. n) r d

-- a text
abbrev pub GivesText : Result (List ℕ) Raise → Answer Text → Type 0
GivesText r d = Answers (λ t. t) r d

-- the item at an index from 0
abbrev pub item_of : List Data → ℤ → Answer Data
item_of vs (pos i) = or_error IndexError (slice_get vs i)
item_of vs (negsuc i) = Err IndexError

-- a map with these pairs put into it, the last one first
abbrev pub put_all : List (Text × Value) → Pairs → Pairs
put_all [] m = m
put_all (p ∷ ps) m = put p.0 (plain p.1) (put_all ps m)

-- the list of some values, and the map of some pairs, if they keep within the limits
abbrev pub kept_list : Answer Items → Answer Data
kept_list d = d >>= λ vs. kept (list vs)

abbrev pub kept_map : Answer Pairs → Answer Data
kept_map d = d >>= λ ps. kept (map ps)
