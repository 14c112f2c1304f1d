-- Lines cut at the heads of a block's entries.
use Rattle.std.specs.Prelude.{ℕ, List, [], ◌∷◌, Bool, true, false, not, ◌&&◌, ◌==◌, nat_le}
use Rattle.wf_yaml.specs.Rows.{Row, is_blank_row}
use Rattle.wf_yaml.specs.Starts.{is_item}

-- Lines cut before each head: those before the first head, and each head with the lines behind it.
pub record Cut : Type 0 where
  pub lead : List Row
  pub entries : List (Row × List Row)

abbrev pub cut_more : Bool → Row → Cut → Cut
cut_more true r c = record { lead = []; entries = (r, c.lead) ∷ c.entries }
cut_more false r c = record { lead = r ∷ c.lead; entries = c.entries }

abbrev pub cut : (Row → Bool) → List Row → Cut
cut is_head [] = record { lead = []; entries = [] }
cut is_head (r ∷ rs) = cut_more (is_head r) r (cut is_head rs)

-- a head, the lines behind it up to the next, and so on
abbrev pub entries_of : (Row → Bool) → Row → List Row → List (Row × List Row)
entries_of is_head r behind = (r, (cut is_head behind).lead) ∷ (cut is_head behind).entries

-- A line that counts, at the block's indentation or before it, begins the next entry.
abbrev pub is_list_head : ℕ → Row → Bool
is_list_head n r = not (is_blank_row r) && nat_le r.indent n

-- In a map a list may stand at the key's own indentation.
abbrev pub is_map_head : ℕ → Row → Bool
is_map_head n r = is_list_head n r && not ((r.indent == n) && is_item r.text)

-- the heads of a map, where the flag is set, or of a list
abbrev pub heads : Bool → ℕ → Row → Bool
heads true n r = is_map_head n r
heads false n r = is_list_head n r
