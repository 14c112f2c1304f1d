-- What is read and placed as an independent program says.
use Rattle.std.specs.Prelude.{◌≡◌, true}
use Rattle.std.specs.List.{list_all}
use Rattle.wf_states_rows.specs.Samples.{is_told, first, second, third, fourth, fifth, sixth, seventh}
use Rattle.wf_states_rows.specs.Spelled.{reads, refuses, spelled, misspelled}

pub record AgreeOnSpelling : Type 0 where
  pub are_read : list_all reads spelled ≡ true
  pub are_refused : list_all refuses misspelled ≡ true

pub record AgreeOnPlaces : Type 0 where
  pub in_first : is_told first ≡ true
  pub in_second : is_told second ≡ true
  pub in_third : is_told third ≡ true
  pub in_fourth : is_told fourth ≡ true
  pub in_fifth : is_told fifth ≡ true
  pub in_sixth : is_told sixth ≡ true
  pub in_seventh : is_told seventh ≡ true
