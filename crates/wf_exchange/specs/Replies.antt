-- Replies that were heard in part.
--     CodeIsOfTheHead    a response that is heard of the front of a text has the code of the text's head
use Rattle.std.specs.Prelude.{◌≡◌, ℕ, List, ◌++◌, Some, IsFalse}
use Rattle.httparse.specs.Grammar.{ResponseHead, ReadsResponse, status_code}
use Rattle.wf_value.specs.Events.{Headers, Response}
use Rattle.wf_value.specs.HttpBody.{Close}
use Rattle.wf_http_in.specs.AnswerOf.{AnswerOf}
use Rattle.wf_http_in.specs.Heads.{is_interim}

abbrev pub CodeIsOfTheHead : Type 0
CodeIsOfTheHead = (text front rest behind : List ℕ) (h : ResponseHead) (close : Close) (code : ℕ) (fields : Headers) (body : List ℕ) → ReadsResponse text h behind → IsFalse (is_interim h)
    → text ≡ front ++ rest → AnswerOf front close (Some (Response code fields body)) → code ≡ status_code h
