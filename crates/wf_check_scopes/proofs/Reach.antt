-- The blocks that a jump may reach, from an index on.
use Rattle.std.proofs.Common.{◌≡◌, ℕ, ◌+◌, ◌<◌, ◌||◌, List, [], Bool, length, drop, get_or, if◌then◌else◌, sym, ap, ◌∙◌}
use Rattle.wf_lemmas.proofs.Lists.{item_at}
use Rattle.wf_ast.specs.Blocks.{in_blocks}
use Rattle.wf_symbols.proofs.Surrounds.{has_named}
use Rattle.wf_symbols.specs.Around.{reach}
use Rattle.wf_symbols.specs.Names.{names_of}
use Rattle.wf_symbols.specs.declared.around.Block.{Block}
use Rattle.wf_value.specs.HttpRequest.{is_among}
use Rattle.wf_value.specs.Pairs.{Text}

pub reach_next : (x : Text) (bs : List Block) (i : ℕ) (b : Block) (has closed : Bool) → i < length bs → b ≡ get_or bs i b → has ≡ is_among x (names_of b.names) → closed ≡ b.is_closed
    → in_blocks x (reach (drop i bs)) ≡ (has || in_blocks x (if closed then [] else reach (drop (i + 1) bs)))
reach_next x bs i b has closed lt is e f =
    ap (λ l. in_blocks x (reach l)) (item_at bs i b lt is)
    ∙ (λ j. (has_named x (names_of b.names) ∙ sym e) j || in_blocks x (if sym f j then [] else reach (drop (i + 1) bs)))
