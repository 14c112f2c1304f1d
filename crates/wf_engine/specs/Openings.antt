-- The reading with which a session goes on.
--     Clocked      the readings of the clock that are made for it
--     ReadsClock   the greatest reading
use Rattle.std.specs.Prelude.{◌≡◌, ◌≢◌, ◌⊎◌, ℕ, List, [], ◌∷◌, ◌++◌}
use Rattle.wf_deeds.specs.Deeds.{reading_by}
use Rattle.wf_host.specs.World.{World}
use Rattle.wf_host.specs.declared.data.Deed.{Deed}
use Rattle.wf_host.specs.declared.data.Deed.TheVariants.{Now}
use Rattle.wf_model.specs.Config.{Config, Active}

-- with an outcome nothing is done, and else the clock is read once
abbrev pub Clocked : Config → List Deed → Type 0
Clocked c D = ((c.outcome ≢ Active) × (D ≡ [])) ⊎ ((c.outcome ≡ Active) × ((t : ℕ) × (D ≡ Now t ∷ [])))

-- the reading of a session that goes on from a configuration
pub record ReadsClock (c : Config) (r : ℕ) (old new : World) : Type 0 where
  pub done : List Deed
  pub deeds : new.deeds ≡ old.deeds ++ done
  pub greatest : r ≡ reading_by c.last done 0
  pub clock : Clocked c done
