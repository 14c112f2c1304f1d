use Rattle.std.proofs.Common.{◌≡◌, ◌++◌, take, map}
use Rattle.std.specs.Prelude.{codes, string_bytes}
use Rattle.std.specs.List.{flat_map}
use Rattle.wf_value.specs.HttpRequest.{query_pair}
use Rattle.wf_http_out.proofs.lines.Lines.more_pairs.Given as goal

abbrev pub invariant-loop-pair : goal.invariant-loop-pair
invariant-loop-pair l =
    string_bytes l.self.text ≡ string_bytes l.fn.self.text ++ flat_map (λ q. codes "&" ++ q) (map query_pair (take l.pair-index l.pairs))
