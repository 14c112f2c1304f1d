-- A value of a map nests no deeper than the map's pairs.
use Rattle.std.proofs.Common.{◌≡◌, ℕ, ◌≤◌, List, Some, Option, Bool, true, false, cond, max, ap, sym, option_map, arith}
use Rattle.std.specs.BTreeMap.{is_at}
use Rattle.wf_value.specs.Data.{Data, depth, pairs_depth, Pairs, no_pairs, pair}
use Rattle.wf_value.specs.Maps.{key_cmp}
use Rattle.wf_value.specs.Pairs.{get}
use Rattle.wf_value.specs.Plain.{plain}
use Rattle.wf_value.specs.declared.value.Value.{Value}

here_or_later : (b : Bool) (d : Data) (later : Option Data) (x : Data) (deep : ℕ) → (later ≡ Some x → depth x ≤ deep) → cond b (Some d) later ≡ Some x → depth x ≤ max (depth d) deep
here_or_later true d later x deep rest h =
    let same : d ≡ x = cc in
    omega (arith, ap depth same)
here_or_later false d later x deep rest h = omega (arith, rest h)

pub got_depth : (k : List ℕ) (ps : Pairs) (x : Data) → get k ps ≡ Some x → depth x ≤ pairs_depth ps
got_depth k no_pairs x h = cc
got_depth k (pair l d ps) x h = here_or_later (is_at (key_cmp k) l) d (get k ps) x (pairs_depth ps) (got_depth k ps x) h

pub value_depth : (k : List ℕ) (ps : Pairs) (v : Value) → option_map plain (Some v) ≡ get k ps → depth (plain v) ≤ pairs_depth ps
value_depth k ps v h = got_depth k ps (plain v) (sym h)
