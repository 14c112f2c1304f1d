-- Laws of the rules on deeds, as they stand in the contract of `laws_of_rules`.
use Rattle.std.specs.Prelude.{◌≡◌, ◌≢◌, [], Some}
use Rattle.std.specs.List.{AllByRecursion}
use Rattle.wf_deeds.specs.Deeds.{IsSmall}
use Rattle.wf_deeds.specs.Kept.{Session, Kept, ReadingsAreOfTheClock, own}
use Rattle.wf_deeds.specs.Outside.{Outside}
use Rattle.wf_deeds.specs.Language.{Language}

-- where nothing was sent or awaited, and no turn of the session stands yet, only the rule on readings asks something
abbrev pub OnlyReadings : Type 0
OnlyReadings = (L : Language) (O : Outside) (x : Session) → AllByRecursion IsSmall x.deeds → own L O x ≡ [] → x.end ≢ Some 13 → ReadingsAreOfTheClock L O x → Kept L O x
