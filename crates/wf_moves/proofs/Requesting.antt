-- The requests of calls of HTTP.
use Rattle.std.proofs.Common.{◌≡◌, ℕ, List, Ok, Err, Some, refl, sym, ap, subst, ◌∙◌}
use Rattle.std.specs.Prelude.{◌*◌, suc, Option, option_map}
use Rattle.wf_ast.specs.Func.{special_named}
use Rattle.wf_ast.specs.Tree.{Body, CallBody}
use Rattle.wf_callbacks.specs.Plain.{plain_method}
use Rattle.wf_callbacks.specs.declared.method.Method.{Method}
use Rattle.wf_eval.specs.Answers as eval
use Rattle.wf_frames.specs.Frames.{body_result, result_of}
use Rattle.wf_frames.specs.Held.{Held, standing}
use Rattle.wf_frames.specs.Owned.{Around}
use Rattle.wf_frames.specs.Sights.{Sees}
use Rattle.wf_frames.specs.declared.facts.Facts.{Facts}
use Rattle.wf_model.specs.Calls.{http_method}
use Rattle.wf_model.specs.Config.{Calling, Item}
use Rattle.wf_model.specs.Leave.{on, raises}
use Rattle.wf_model.specs.Local.{Does, Local, Moved, Scene, Sends, waits}
use Rattle.wf_moves.specs.Moved.{IsMove}
use Rattle.wf_moves.specs.Requests.{Reaches, request_by, sent_view}
use Rattle.wf_moves.specs.Tasks.{IsRequest}
use Rattle.wf_moves.specs.declared.finish.Went.{Went}
use Rattle.wf_moves.specs.declared.sending.Sending.{Sending}
use Rattle.wf_moves.specs.declared.sending.Sent.{Sent}
use Rattle.wf_model.specs.Spots.{part_at, part_body}
use Rattle.wf_value.specs.Events as plain
use Rattle.wf_value.specs.HttpRequest.{Asked, Request, asked, request}
use Rattle.wf_frames.proofs.Evaluated.{failed, gave}
use Rattle.wf_frames.specs.Steps.{asks_by, asks_with}
use Rattle.wf_value.specs.Data.{Pairs}
use Rattle.wf_value.specs.Errors.{Answer, ◌>>=◌, error_map, later}
use Rattle.wf_value.specs.Pairs.{Text}
use Rattle.wf_value.specs.declared.Raise.TheVariants.{Error}
use Rattle.wf_value.specs.declared.Tag.{Tag}

-- two steps, and then what comes of both
both : (s : Scene) (k : List Item) (l : Local) (r : Answer Asked) (g : Asked → Answer Request) (t : Asked → ℕ) (f : Request → ℕ → Moved) → on s k l r (λ a. on s k l (g a) (λ q. f q (t a))) ≡ on {A = Request × ℕ} s k l (r >>= λ a. g a >>= λ q. Ok (q, t a)) (λ p. f p.0 p.1)
both s k l (Err e) g t f = refl
both s k l (Ok a) g t f = second (g a)
  where
    second : (x : Answer Request) → on s k l x (λ q. f q (t a)) ≡ on {A = Request × ℕ} s k l (x >>= λ q. Ok (q, t a)) (λ p. f p.0 p.1)
    second (Err e) = refl
    second (Ok q) = refl

-- by what it depends on
abbrev made : Option plain.Method → Pairs → plain.Routes → Text → ℕ → ℕ → Answer (Request × ℕ)
made m args routes id n now = asked m args >>= λ a. request routes a id n >>= λ q. Ok (q, later now (a.timeout * 1000))

module _ (a : Around) (s : Scene) (d k : List Item) (h : Held) (n : ℕ) (f : CallBody) (m : Option Method) (args : Pairs) (facts : Facts) (x : Sending) (number : ℕ) (body : part_body (part_at a.spots n) ≡ Body.Call f)
    (named : http_method (special_named f.name) ≡ Some (option_map plain_method m)) (sees : Sees s facts) (reaches : Reaches s x) (count : number ≡ suc x.calls) where
  counted : suc s.calls ≡ number
  counted = ap suc reaches.calls ∙ sym count

  asks_made : asks_with s (part_body (part_at a.spots n)) args k (standing d h) ≡ on s k (standing d h) (request_by m args facts x.routes number) (λ p. Does (Sends p.0 p.1) (waits (Calling number f.result) k (standing d h)))
  asks_made =
      let o = option_map plain_method m in
      ap (λ b. asks_with s b args k (standing d h)) body ∙ ap (λ q. asks_by s f q args k (standing d h)) named
      ∙ both s k (standing d h) (asked o args) (λ b. request s.facts.routes b s.facts.id (suc s.calls)) (λ b. later s.now (b.timeout * 1000)) (λ q t. Does (Sends q t) (waits (Calling (suc s.calls) f.result) k (standing d h)))
      ∙ (λ i. on s k (standing d h) (made o args (reaches.routes i) (sees.id i) (counted i) (sees.now i)) (λ p. Does (Sends p.0 p.1) (waits (Calling (counted i) f.result) k (standing d h))))

  pub request_sent : (sent : Sent) → eval.Answers sent_view (Ok sent) (request_by m args facts x.routes number)
      → IsRequest (asks_with s (part_body (part_at a.spots n)) args k (standing d h)) sent (record (standing k h) { wait = Calling number (result_of a.spots (Some n)) })
  request_sent sent e =
      let so : request_by m args facts x.routes number ≡ Ok (sent_view sent) = gave sent_view sent (request_by m args facts x.routes number) e in
      subst (λ y. IsRequest y sent (record (standing k h) { wait = Calling number (result_of a.spots (Some n)) }))
      (sym (asks_made ∙ ap (λ q. on s k (standing d h) q (λ p. Does (Sends p.0 p.1) (waits (Calling number f.result) k (standing d h)))) so))
      (refl, refl, ap (λ b. waits (Calling number (body_result b)) k (standing d h)) (sym body))

  pub request_failed : (t : Tag) (w : Went) (l : Local) → eval.Answers sent_view (Err (Error t)) (request_by m args facts x.routes number) → IsMove s (raises s k (standing d h) (error_map t)) w l → IsMove s (asks_with s (part_body (part_at a.spots n)) args k (standing d h)) w l
  request_failed t w l e g =
      let so : request_by m args facts x.routes number ≡ Err t = failed sent_view t (request_by m args facts x.routes number) e in
      subst (λ y. IsMove s y w l) (sym (asks_made ∙ ap (λ q. on s k (standing d h) q (λ p. Does (Sends p.0 p.1) (waits (Calling number f.result) k (standing d h)))) so)) g
