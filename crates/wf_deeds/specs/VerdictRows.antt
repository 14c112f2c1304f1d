-- Worked verdicts: an execution `t1` with two endpoints.
use Rattle.std.specs.Prelude.{◌≡◌, ℕ, suc, zero, true, false, List, [], ◌∷◌, codes}
use Rattle.wf_deeds.specs.Outside.{Arrives, Refuses}
use Rattle.wf_deeds.specs.Verdicts.{verdict_of, visitor}
use Rattle.wf_http_serve.specs.Visits.{Bad, TooLarge, Asks}
use Rattle.wf_model.specs.Config.{Config, Active}
use Rattle.wf_value.specs.Events.{Get, Post, Visitor}
use Rattle.wf_value.specs.HttpText.{BadRequest, NotFound, MethodNotAllowed, ContentTooLarge, TooManyRequests}

abbrev pub simple : Visitor
simple = visitor Post [] (codes "x")

abbrev pub many : ℕ → List Visitor
many zero = []
many (suc n) = simple ∷ many n

-- endpoint 1 takes POST and has so many waiting, endpoint 2 takes GET
abbrev pub with_waiting : ℕ → ℕ → Config
with_waiting n bodies = record {
  facts = record { id = codes "t1"; routes = []; env = []; base = codes "127.0.0.1:8000"; rules = 1 };
  tasks = [];
  made = 1;
  calls = [];
  endpoints = record { method = Post; queue = many n } ∷ record { method = Get; queue = [] } ∷ [];
  log = [];
  moves = 2;
  bodies = bodies;
  last = 0;
  outcome = Active;
}

abbrev pub CrowdedIs429 : Type 0
CrowdedIs429 = verdict_of (with_waiting 0 0) true Bad ≡ Refuses TooManyRequests

abbrev pub BadIs400 : Type 0
BadIs400 = verdict_of (with_waiting 0 0) false Bad ≡ Refuses BadRequest

abbrev pub LargeIs413 : Type 0
LargeIs413 = verdict_of (with_waiting 0 0) false TooLarge ≡ Refuses ContentTooLarge

abbrev pub StrangeIs404 : Type 0
StrangeIs404 = verdict_of (with_waiting 0 0) false (Asks (codes "POST") (codes "/callbacks/t1/3") [] []) ≡ Refuses NotFound

abbrev pub QueryIsCut : Type 0
QueryIsCut = verdict_of (with_waiting 0 0) false (Asks (codes "POST") (codes "/callbacks/t1/1?a=b") [] (codes "x")) ≡ Arrives 1 simple

-- the name of no method that an endpoint may have
abbrev pub NamelessIs405 : Type 0
NamelessIs405 = verdict_of (with_waiting 0 0) false (Asks (codes "HEAD") (codes "/callbacks/t1/1") [] []) ≡ Refuses MethodNotAllowed

abbrev pub OtherIs405 : Type 0
OtherIs405 = verdict_of (with_waiting 0 0) false (Asks (codes "POST") (codes "/callbacks/t1/2") [] []) ≡ Refuses MethodNotAllowed

abbrev pub FullIs429 : Type 0
FullIs429 = verdict_of (with_waiting 100 0) false (Asks (codes "POST") (codes "/callbacks/t1/1") [] []) ≡ Refuses TooManyRequests

-- no body may come any more
abbrev pub BodyIs429 : Type 0
BodyIs429 = verdict_of (with_waiting 0 67108864) false (Asks (codes "POST") (codes "/callbacks/t1/1") [] (codes "x")) ≡ Refuses TooManyRequests

abbrev pub RoomyArrives : Type 0
RoomyArrives = verdict_of (with_waiting 99 0) false (Asks (codes "POST") (codes "/callbacks/t1/1") [] (codes "x")) ≡ Arrives 1 simple
