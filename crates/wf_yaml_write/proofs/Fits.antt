-- What a tree is that is read back: one in memory whose decimals fit.
use Rattle.std.proofs.Common.{Bool, true, false, ◌≡◌}
use Rattle.std.specs.Str.{IsUtf8}
use Rattle.wf_tree.specs.Trees.{Tree, null, boolean, integer, decimal, text, list, map, Items, no_items, item, Pairs, no_pairs, pair}
use Rattle.wf_yaml_line.specs.Scalars.{is_delay_key}
use Rattle.wf_yaml_line.specs.Scalars.{is_delay}
use Rattle.wf_yaml_write.specs.Back.{Is64}
use Rattle.wf_yaml_write.specs.Whole.{IsBelow, KeysRise, IsInMemory, AreInMemory, ArePairsInMemory, DecimalsFit, DecimalsFitItems, DecimalsFitPairs}

-- both at once, so that each tree within a tree has both
abbrev mutual
  pub Fits : Bool → Tree → Type 0
  Fits delay null = Unit {0}
  Fits delay (boolean b) = Unit {0}
  Fits delay (integer z) = Is64 z
  Fits delay (decimal s) = (delay ≡ true) × (is_delay s ≡ true)
  Fits delay (text s) = IsUtf8 s
  Fits delay (list ts) = ItemsFit ts
  Fits delay (map ps) = PairsFit ps

  pub ItemsFit : Items → Type 0
  ItemsFit no_items = Unit {0}
  ItemsFit (item t ts) = Fits false t × ItemsFit ts

  pub PairsFit : Pairs → Type 0
  PairsFit no_pairs = Unit {0}
  PairsFit (pair k t ps) = IsUtf8 k × IsBelow k ps × Fits (is_delay_key k) t × PairsFit ps

mutual
  pub fits : (delay : Bool) (t : Tree) → IsInMemory t → DecimalsFit delay t → Fits delay t
  fits delay null m d = tt
  fits delay (boolean b) m d = tt
  fits delay (integer z) m d = m
  fits delay (decimal s) m d = d
  fits delay (text s) m d = m
  fits delay (list ts) m d = items_fit ts m d
  fits delay (map ps) m d = pairs_fit ps m.0 m.1 d

  items_fit : (ts : Items) → AreInMemory ts → DecimalsFitItems ts → ItemsFit ts
  items_fit no_items m d = tt
  items_fit (item t ts) m d = (fits false t m.0 d.0, items_fit ts m.1 d.1)

  pairs_fit : (ps : Pairs) → KeysRise ps → ArePairsInMemory ps → DecimalsFitPairs ps → PairsFit ps
  pairs_fit no_pairs r m d = tt
  pairs_fit (pair k t ps) r m d = (m.0, r.0, fits (is_delay_key k) t m.1 d.0, pairs_fit ps r.1 m.2 d.1)
