-- This crate's types as plain data.
use Rattle.wf_value.specs.Events as plain
use Rattle.wf_value.specs.HttpBody as body
use Rattle.wf_http_in.specs.declared.answer.Answer.{Answer}
use Rattle.wf_http_in.specs.declared.answer.Answer.TheVariants as answer
use Rattle.wf_http_in.specs.declared.reading.Close.{Close}
use Rattle.wf_http_in.specs.declared.reading.Close.TheVariants as close

abbrev pub close_view : Close → body.Close
close_view close.Open = body.Open
close_view close.Ended = body.Ended
close_view close.Broke = body.Broke

abbrev pub answer_view : Answer → plain.Reply
answer_view (answer.Response head bytes) = plain.Response head.now.code head.now.fields bytes.now
answer_view answer.Broken = plain.Broken
answer_view answer.TooLong = plain.TooLong
