-- What a journal tells that was read for a report.
--     Reaches, StandsAt     the configuration to which its records lead, all of them and a front of them
--     Shows                 the text of that
use Rattle.std.specs.Prelude.{◌≡◌, ℕ, List, Ok}
use Rattle.wf_deeds.specs.History.{Standing, front_of, opens, plays}
use Rattle.wf_deeds.specs.Language.{Language}
use Rattle.wf_model.specs.Config.{Config}
use Rattle.wf_report.specs.Texts.{shown}

-- the records open, and lead to this configuration
abbrev pub Reaches : Language → List (List ℕ) → Config → Type 0
Reaches L J c = (s : Standing) × (opens L J ≡ Ok s) × (s.config ≡ c)

-- the records play, and their start and so many turns, or all where there are fewer, lead to this configuration
pub record StandsAt (L : Language) (J : List (List ℕ)) (turns : ℕ) (c : Config) : Type 0 where
  pub whole : Standing
  pub played : plays L J ≡ Ok whole
  pub front : (s : Standing) × (plays L (front_of turns J) ≡ Ok s) × (s.config ≡ c)

-- the lines of that configuration
abbrev pub Shows : Language → List (List ℕ) → ℕ → List ℕ → Type 0
Shows L J turns text = (c : Config) × StandsAt L J turns c × (text ≡ shown c)
