-- Where an event leads: a configuration, a wrong and nowhere are told apart.
use Rattle.std.specs.Prelude.{◌≡◌}
use mathlib.Core.Path.{refl, subst}
use Rattle.wf_ast.specs.Accept.{Kind}
use Rattle.wf_model.specs.Config.{Config, After, To, Wrong, NotNow}

-- a fact of the configuration, if it is one
abbrev pub Leads : (Config → Type 0) → After → Type 0
Leads P (To c) = P c
Leads P (Wrong k) = Unit {0}
Leads P NotNow = Unit {0}

pub led_to : (P : Config → Type 0) (a : After) (c : Config) → Leads P a → a ≡ To c → P c
led_to P a c h e = subst (Leads P) e h

pub wrong_is_no_config : (k : Kind) (c : Config) → Wrong k ≡ To c → ⊥
wrong_is_no_config k c e = led_to (λ d. ⊥) (Wrong k) c tt e

pub nowhere_is_no_config : (c : Config) → NotNow ≡ To c → ⊥
nowhere_is_no_config c e = led_to (λ d. ⊥) NotNow c tt e

pub same_config : (b c : Config) → To b ≡ To c → b ≡ c
same_config b c e = led_to (λ d. b ≡ d) (To b) c refl e
