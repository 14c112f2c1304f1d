-- A whole tree that is written is read back.
use Rattle.std.specs.Prelude.{◌≡◌, ◌≤◌, ℕ, List, Bool, true, false, Ok}
use Rattle.std.specs.Str.{IsUtf8}
use Rattle.std.specs.declared.cmp.Ordering.TheVariants.{Less}
use Rattle.wf_tree.specs.Trees.{Tree, null, boolean, integer, decimal, text, list, map, Items, no_items, item, Pairs, no_pairs, pair, depth}
use Rattle.wf_value.specs.Maps.{key_cmp}
use Rattle.wf_yaml.specs.Reading.{reading}
use Rattle.wf_yaml_line.specs.Scalars.{is_delay_key}
use Rattle.wf_yaml_line.specs.Scalars.{is_delay}
use Rattle.wf_yaml_write.specs.Layout.{written}
use Rattle.wf_yaml_write.specs.Back.{Is64}

-- a key is below each of these keys
abbrev pub IsBelow : List ℕ → Pairs → Type 0
IsBelow k no_pairs = Unit {0}
IsBelow k (pair l t ps) = (key_cmp k l ≡ Less) × IsBelow k ps

-- the keys of a map rise
abbrev pub KeysRise : Pairs → Type 0
KeysRise no_pairs = Unit {0}
KeysRise (pair k t ps) = IsBelow k ps × KeysRise ps

-- what a tree in memory keeps: whole numbers of 64 bits, texts and keys in UTF-8, and each map's
-- keys in order and once
abbrev mutual
  pub IsInMemory : Tree → Type 0
  IsInMemory null = Unit {0}
  IsInMemory (boolean b) = Unit {0}
  IsInMemory (integer z) = Is64 z
  IsInMemory (decimal s) = Unit {0}
  IsInMemory (text s) = IsUtf8 s
  IsInMemory (list ts) = AreInMemory ts
  IsInMemory (map ps) = KeysRise ps × ArePairsInMemory ps

  pub AreInMemory : Items → Type 0
  AreInMemory no_items = Unit {0}
  AreInMemory (item t ts) = IsInMemory t × AreInMemory ts

  pub ArePairsInMemory : Pairs → Type 0
  ArePairsInMemory no_pairs = Unit {0}
  ArePairsInMemory (pair k t ps) = IsUtf8 k × IsInMemory t × ArePairsInMemory ps

-- Decimals stand only where a source may have them, as the value of a backoff's key, and in that
-- form. The flag says that the tree is such a value.
abbrev mutual
  pub DecimalsFit : Bool → Tree → Type 0
  DecimalsFit delay null = Unit {0}
  DecimalsFit delay (boolean b) = Unit {0}
  DecimalsFit delay (integer z) = Unit {0}
  DecimalsFit delay (decimal s) = (delay ≡ true) × (is_delay s ≡ true)
  DecimalsFit delay (text s) = Unit {0}
  DecimalsFit delay (list ts) = DecimalsFitItems ts
  DecimalsFit delay (map ps) = DecimalsFitPairs ps

  pub DecimalsFitItems : Items → Type 0
  DecimalsFitItems no_items = Unit {0}
  DecimalsFitItems (item t ts) = DecimalsFit false t × DecimalsFitItems ts

  pub DecimalsFitPairs : Pairs → Type 0
  DecimalsFitPairs no_pairs = Unit {0}
  DecimalsFitPairs (pair k t ps) = DecimalsFit (is_delay_key k) t × DecimalsFitPairs ps

-- a tree in memory whose decimals fit is read from the text that it is written as
abbrev pub TreesComeBack : Type 0
TreesComeBack = (t : Tree) → IsInMemory t → DecimalsFit false t → depth t ≤ 100 → reading (written t) ≡ Ok t
