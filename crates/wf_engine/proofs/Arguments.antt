-- The argument that a start keeps is the one that the line has.
use Rattle.std.proofs.Common.{◌≡◌, ◌≤◌, ◌<◌, ℕ, List, length, Option, None, Some, refl, sym, ap, subst, arith}
use Rattle.std.specs.Prelude.{unwrap_or}
use Rattle.std.specs.Option.{option_map_or}
use Rattle.wf_args.specs.Lines.{word_of}
use Rattle.wf_args.specs.declared.option.OptionName.TheVariants.{Args}
use Rattle.wf_engine.specs.Starts.{ArgumentComesBack, ArgumentIsSpelled, argument_text}
use Rattle.wf_events.specs.Spelling.{IsArgument}
use Rattle.wf_json_laws.specs.Back.{JustTheseAreSaid, ReadIsComeBack, SaidComesBack, TextsAreShort, ValuesComeBack}
use Rattle.wf_value.proofs.JsonCases.{found_value, value_found}
use Rattle.wf_value.specs.Data.{Data, null, size}
use Rattle.wf_value.specs.Decode.{json_value}
use Rattle.wf_value.specs.Json.{IsValue, json_text}

-- the argument of a word, if there is one
abbrev said_by : Option (List ℕ) → Option Data
said_by w = option_map_or json_value w (Some null)

-- what is kept of a value, read again
abbrev again : Option Data → Data
again o = unwrap_or (json_value (json_text (unwrap_or o null))) null

module _ (back : SaidComesBack) (finds : ReadIsComeBack) where
  null_again : again None ≡ null
  null_again = ap (λ o. unwrap_or o null) (finds null tt (omega arith))

  by_value : (b : List ℕ) (o : Option Data) → json_value b ≡ o → again o ≡ unwrap_or o null
  by_value b None is = null_again
  by_value b (Some d) is = ap (λ o. unwrap_or o null) (found_value (json_text d) d (back b d (value_found b d is)))

  by_word : (w : Option (List ℕ)) → again (said_by w) ≡ unwrap_or (said_by w) null
  by_word None = null_again
  by_word (Some b) = by_value b (json_value b) refl

  pub argument_comes_back : ArgumentComesBack
  argument_comes_back l source reading = by_word (word_of Args l)

module _ (back : SaidComesBack) (comes : ValuesComeBack) (just : JustTheseAreSaid) (short : TextsAreShort) where
  -- the text of the value says it
  says : (w : Option (List ℕ)) (v : Data) → said_by w ≡ Some v → IsValue (json_text v) v
  says None v is = let same : null ≡ v = cc is in subst (λ d. IsValue (json_text d) d) same (comes null tt (omega arith))
  says (Some b) v is = back b v (value_found b v is)

  of_value : (v : Data) → size v ≤ 32768 → IsValue (json_text v) v → IsArgument (json_text v) × (length (json_text v) < 196608)
  of_value v small said =
      let length_is = short v ((just v).0 (json_text v, said)).0 in
      (record { value = v; said = found_value (json_text v) v said; written = refl; small = small }, omega (arith, length_is, small))

  pub argument_is_spelled : ArgumentIsSpelled
  argument_is_spelled l (v, is, small) =
      let text : json_text v ≡ argument_text l = ap (λ o. json_text (unwrap_or o null)) (sym is) in
      subst (λ t. IsArgument t × (length t < 196608)) text (of_value v small (says (word_of Args l) v is))
