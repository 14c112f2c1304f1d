-- Words for clauses of calls on a host, over its meanings `world` and `faults`.
use Rattle.std.specs.Prelude.{◌≡◌, ◌⊎◌, ℕ, IfErr, List, [], ◌∷◌, Result}
use Rattle.wf_host.specs.World.{World, Faults, Told, LeavesOnly, NoneFell, Rose}
use Rattle.wf_host.specs.declared.data.Deed.{Deed}

-- at each moment of the call, where the host tells, a crash leaves only images and deeds that have this
abbrev pub AtAnyMoment : {H : Type 0} → (H → World) → H → H → (List ℕ → List Deed → Type 0) → Type 0
AtAnyMoment world old new P = Told (world old) (LeavesOnly (world old) (world new) P)

-- where the host tells, the file reads as before
abbrev pub ReadsAsBefore : {H : Type 0} → (H → World) → H → H → Type 0
ReadsAsBefore world old new = Told (world old) ((world new).seen ≡ (world old).seen)

-- where the host tells, nothing was done that others can notice
abbrev pub DoesNoDeed : {H : Type 0} → (H → World) → H → H → Type 0
DoesNoDeed world old new = Told (world old) ((world new).deeds ≡ (world old).deeds)

-- whether the host tells stays
abbrev pub TellsAsBefore : {H : Type 0} → (H → World) → H → H → Type 0
TellsAsBefore world old new = (world new).tells ≡ (world old).tells

-- a call of the disk failed
abbrev pub DiskFailed : {H : Type 0} → (H → Faults) → H → H → Type 0
DiskFailed faults old new = Rose (faults old).disk (faults new).disk

-- no count of failed calls falls
abbrev pub NoCountFalls : {H : Type 0} → (H → Faults) → H → H → Type 0
NoCountFalls faults old new = NoneFell (faults old) (faults new)

-- ## Errors
-- it is one of these
abbrev pub OneOf : {E : Type 0} → E → List E → Type 0
OneOf e [] = ⊥
OneOf e (x ∷ []) = e ≡ x
OneOf e (x ∷ y ∷ xs) = (e ≡ x) ⊎ OneOf e (y ∷ xs)

-- it is one of these, or is made of a number
abbrev pub OneOfOr : {E : Type 0} → E → (ℕ → E) → List E → Type 0
OneOfOr e numbered [] = (n : ℕ) × (e ≡ numbered n)
OneOfOr e numbered (x ∷ []) = ((n : ℕ) × (e ≡ numbered n)) ⊎ (e ≡ x)
OneOfOr e numbered (x ∷ y ∷ xs) = (e ≡ x) ⊎ OneOfOr e numbered (y ∷ xs)

-- no other error comes than these
abbrev pub OnlyErrors : {A E : Type 0} → Result A E → List E → Type 0
OnlyErrors result es = IfErr result (λ e. OneOf e es)

-- no other error comes than these, and those that are made of a number
abbrev pub OnlyErrorsOr : {A E : Type 0} → (ℕ → E) → Result A E → List E → Type 0
OnlyErrorsOr numbered result es = IfErr result (λ e. OneOfOr e numbered es)
