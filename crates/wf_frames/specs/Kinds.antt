-- Kinds of events, as the definition of steps has them.
--     kind_view      one
--     AreWants       those that nodes want, by their numbers
use Rattle.std.specs.Prelude.{◌≡◌, ◌<◌, ℕ, Bool, true, false, List, Option, Some, length, option_map, slice_get}
use Rattle.std.proofs.Common.{refl}
use Rattle.std.specs.Coded.{Coded-set, code_by, coded×, coded_bool, coded_option, Π_prop, →_prop}
use Rattle.wf_ast.specs.Tree.{Program}
use Rattle.wf_model.specs.Kinds.{NextKind, Plainly, ByClock, ByCall, body_kind, by_clock, entry_now}
use Rattle.wf_model.specs.Spots.{Spot, part_at, part_body, part_entry}
use Rattle.wf_model.specs.declared.node.Node.{Node}
use Rattle.wf_frames.specs.declared.kinds.Kind.{Kind}
use Rattle.wf_frames.specs.declared.kinds.Kind.TheVariants as kind
use Rattle.wf_frames.specs.declared.kinds.Wants.{Wants}

abbrev pub kind_view : Kind → NextKind
kind_view kind.Plain = Plainly
kind_view kind.Clock = ByClock
kind_view kind.Call = ByCall

-- what a node wants: as a step, and as an entry
abbrev pub wants_view : Wants → NextKind × NextKind
wants_view w = (kind_view w.body, kind_view w.entry)

abbrev pub wanted_at : Program → List Spot → ℕ → NextKind × NextKind
wanted_at p ns n = (body_kind p (part_body (part_at ns n)), by_clock (entry_now (part_entry (part_at ns n))))

-- this is what the nodes want, by their numbers
pub record AreWants (p : Program) (ns : List Spot) (nodes : List Node) (ws : List Wants) : Type 0 where
  pub each : (n : ℕ) → n < length nodes → option_map wants_view (slice_get ws n) ≡ Some (wanted_at p ns n)

-- ## It is one fact
abbrev split : NextKind → Bool × Bool
split Plainly = (false, false)
split ByClock = (true, false)
split ByCall = (true, true)

abbrev join : Bool × Bool → NextKind
join (false, b) = Plainly
join (true, false) = ByClock
join (true, true) = ByCall

join-split : (k : NextKind) → join (split k) ≡ k
join-split Plainly = refl
join-split ByClock = refl
join-split ByCall = refl

NextKind-set : IsSet (Option (NextKind × NextKind))
NextKind-set = Coded-set (coded_option (coded× (code_by (Bool × Bool) (coded× coded_bool coded_bool) split join join-split) (code_by (Bool × Bool) (coded× coded_bool coded_bool) split join join-split)))

pub AreWants-prop : (p : Program) (ns : List Spot) (nodes : List Node) (ws : List Wants) → IsProp (AreWants p ns nodes ws)
AreWants-prop p ns nodes ws = λ g h i. record {
  each = Π_prop {B = λ (n : ℕ). n < length nodes → option_map wants_view (slice_get ws n) ≡ Some (wanted_at p ns n)} (λ n. →_prop (NextKind-set (option_map wants_view (slice_get ws n)) (Some (wanted_at p ns n)))) g.each h.each i;
}
