-- The rows compute.
use Rattle.std.proofs.Common.{refl}
use lib.Utf8.{encode}
use Rattle.std.specs.Str.{chars, is_utf8}
use Rattle.wf_events.specs.Reading.{pair_at, route_at}
use Rattle.wf_record_parts.specs.Reading.{string_at, text_at, items_at, list_at, field_at, method_at, visitor_at}
use Rattle.wf_states.specs.Reading.{state_of, whole_at, state_at, truth_at, value_in, left_at, work_at, item_at, wait_at, call_at, severity_at, outcome_at, rules_at}
use Rattle.wf_states.specs.Rising.{option_at, keyed_at, rising_at}
use Rattle.std.specs.Fmt.{digits}
use Rattle.serde_json.proofs.OnLiterals.{serde_json_on_literals}
use Rattle.json.specs.Json.{value}
use Rattle.json.specs.Lex.{lex, punctuate}
use Rattle.json.specs.Text.{content}
use Rattle.json.specs.Word.{after_number, word}
use Rattle.wf_expr.specs.Parser.{parse, parse_target}
use Rattle.wf_expr.specs.Templates.{template_of}
use Rattle.wf_syntax_rules.specs.Built.{built}
use Rattle.wf_syntax_rules.specs.First.{fault_within}
use Rattle.wf_syntax_rules.specs.Made.{body_within}
use Rattle.wf_source.specs.Sources.{read_tree}
use Rattle.wf_span.specs.Lexer.{lex_within}
use Rattle.wf_yaml.specs.Reading.{reading}
use Rattle.wf_states_rows.specs.Rows.{AgreeOnSpelling, AgreeOnPlaces}

pub agree_on_spelling : AgreeOnSpelling
unfolding state_of whole_at state_at truth_at value_in left_at work_at item_at wait_at call_at severity_at outcome_at rules_at option_at keyed_at rising_at string_at text_at items_at list_at field_at method_at visitor_at pair_at route_at is_utf8 chars encode
agree_on_spelling = record { are_read = refl; are_refused = refl }

pub agree_on_places : AgreeOnPlaces
unfolding state_of whole_at state_at truth_at value_in left_at work_at item_at wait_at call_at severity_at outcome_at rules_at option_at keyed_at rising_at string_at text_at items_at list_at field_at method_at visitor_at pair_at route_at is_utf8 chars encode read_tree reading value lex punctuate content word after_number built fault_within body_within template_of parse parse_target lex_within digits serde_json_on_literals
agree_on_places = record { in_first = refl; in_second = refl; in_third = refl; in_fourth = refl; in_fifth = refl; in_sixth = refl; in_seventh = refl }
