-- What a walk over nodes answers.
use Rattle.std.specs.Prelude.{◌≡◌, ℕ, ◌+◌, List, [], ◌∷◌, length, Some, None, Result, Ok, Err}
use Rattle.wf_ast.specs.Accept.{after_part}
use Rattle.wf_ast.specs.Nodes.{Node, Path}
use Rattle.wf_ast.specs.Tree.{Flow}
use Rattle.wf_diagnostics.specs.Answers.{along}
use Rattle.wf_symbols.specs.Around.{SameNames, Still}
use Rattle.wf_symbols.specs.Names.{names_of}
use Rattle.wf_check.specs.declared.progress.Progress.{Progress}
use Rattle.wf_diagnostics.specs.declared.kind.CheckKind.{CheckKind}
use Rattle.wf_value.specs.declared.stop.Stop.{Stop}
use Rattle.wf_value.specs.declared.stop.Stop.TheVariants as stop
use Rattle.wf_value.specs.Pairs.{Text}
use Rattle.wf_check.specs.Said.{said_among}

-- the names of the steps before what follows these nodes
abbrev pub after : List Node → List Text → List Text
after [] earlier = earlier
after (v ∷ vs) earlier = after vs (after_part v.part earlier)

-- nothing is said of these nodes, and the progress is that behind them; or this is said first, its way beginning at the path
abbrev pub Walks : List Flow → Path → Progress → Progress → Result (Unit {0}) (Stop CheckKind) → List Text → List Node → Type 0
Walks fs path old new (Ok u) earlier vs = (said_among fs old.number earlier vs ≡ None) × (new.number ≡ old.number + length vs) × SameNames (names_of new.seen) (after vs earlier) × Still old.scopes new.scopes
Walks fs path old new (Err (stop.Refused k way)) earlier vs = said_among fs old.number earlier vs ≡ Some (record { kind = k; place = along path way.items })
Walks fs path old new (Err stop.OutOfMemory) earlier vs = Unit {0}

-- the same of whole workflows, whose names of steps begin anew: nothing is said, and this is the number behind them
abbrev pub Counts : List Flow → ℕ → Result ℕ (Stop CheckKind) → List Node → Type 0
Counts fs number (Ok n) vs = (said_among fs number [] vs ≡ None) × (n ≡ number + length vs)
Counts fs number (Err (stop.Refused k way)) vs = said_among fs number [] vs ≡ Some (record { kind = k; place = along [] way.items })
Counts fs number (Err stop.OutOfMemory) vs = Unit {0}
