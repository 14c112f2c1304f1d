-- The examples in which the kit's libraries read or write a text; the check carries out the others by itself.
use Rattle.std.specs.Prelude.{refl}
use Rattle.wf_value.proofs.OnLiterals.{on_literals}
use Rattle.wf_value.proofs.worked.worked_texts.Goals as goal

pub returns-clause-substring_counts_characters : goal.returns-clause-substring_counts_characters
unfolding on_literals
returns-clause-substring_counts_characters c = refl

pub returns-clause-substring_past_the_end_raises : goal.returns-clause-substring_past_the_end_raises
unfolding on_literals
returns-clause-substring_past_the_end_raises c = refl

pub returns-clause-finding_counts_characters : goal.returns-clause-finding_counts_characters
unfolding on_literals
returns-clause-finding_counts_characters c = refl

pub returns-clause-url_encoding_escapes_a_blank : goal.returns-clause-url_encoding_escapes_a_blank
unfolding on_literals
returns-clause-url_encoding_escapes_a_blank c = refl

pub returns-clause-url_decoding_keeps_a_lone_percent : goal.returns-clause-url_decoding_keeps_a_lone_percent
unfolding on_literals
returns-clause-url_decoding_keeps_a_lone_percent c = refl

pub returns-clause-decoding_asks_for_utf8 : goal.returns-clause-decoding_asks_for_utf8
unfolding on_literals
returns-clause-decoding_asks_for_utf8 c = refl

pub returns-clause-decimals_are_not_decoded : goal.returns-clause-decimals_are_not_decoded
unfolding on_literals
returns-clause-decimals_are_not_decoded c = refl

pub returns-clause-base64_is_padded : goal.returns-clause-base64_is_padded
unfolding on_literals
returns-clause-base64_is_padded c = refl

pub returns-clause-unpadded_base64_raises : goal.returns-clause-unpadded_base64_raises
unfolding on_literals
returns-clause-unpadded_base64_raises c = refl

pub returns-clause-second_day : goal.returns-clause-second_day
unfolding on_literals
returns-clause-second_day c = refl

pub returns-clause-zone_is_taken_off : goal.returns-clause-zone_is_taken_off
unfolding on_literals
returns-clause-zone_is_taken_off c = refl

pub returns-clause-leap_day : goal.returns-clause-leap_day
unfolding on_literals
returns-clause-leap_day c = (refl, refl)

pub returns-clause-get_request : goal.returns-clause-get_request
unfolding on_literals
returns-clause-get_request c = refl

pub returns-clause-post_request : goal.returns-clause-post_request
unfolding on_literals
returns-clause-post_request c = refl

pub returns-clause-query_follows_the_urls : goal.returns-clause-query_follows_the_urls
unfolding on_literals
returns-clause-query_follows_the_urls c = refl

pub returns-clause-empty_query_is_a_query : goal.returns-clause-empty_query_is_a_query
unfolding on_literals
returns-clause-empty_query_is_a_query c = refl

pub returns-clause-json_under_another_type_raises : goal.returns-clause-json_under_another_type_raises
unfolding on_literals
returns-clause-json_under_another_type_raises c = refl

pub returns-clause-json_answer_is_decoded : goal.returns-clause-json_answer_is_decoded
unfolding on_literals
returns-clause-json_answer_is_decoded c = refl

pub returns-clause-empty_body_is_null : goal.returns-clause-empty_body_is_null
unfolding on_literals
returns-clause-empty_body_is_null c = refl

pub returns-clause-bad_json_raises : goal.returns-clause-bad_json_raises
unfolding on_literals
returns-clause-bad_json_raises c = refl

pub returns-clause-error_code_raises : goal.returns-clause-error_code_raises
unfolding on_literals
returns-clause-error_code_raises c = refl

pub returns-clause-bad_json_of_an_error_is_a_text : goal.returns-clause-bad_json_of_an_error_is_a_text
unfolding on_literals
returns-clause-bad_json_of_an_error_is_a_text c = refl

pub returns-clause-encoded_body_is_bytes : goal.returns-clause-encoded_body_is_bytes
unfolding on_literals
returns-clause-encoded_body_is_bytes c = refl

pub returns-clause-equal_fields_are_joined : goal.returns-clause-equal_fields_are_joined
unfolding on_literals
returns-clause-equal_fields_are_joined c = refl

pub returns-clause-url_of_an_endpoint : goal.returns-clause-url_of_an_endpoint
unfolding on_literals
returns-clause-url_of_an_endpoint c = refl
