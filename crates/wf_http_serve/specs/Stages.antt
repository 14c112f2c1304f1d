-- What a visit is by the bytes heard of it.
--     HasHeard      these bytes were heard, and the connection stands so
use Rattle.std.specs.Prelude.{⊤, ◌≡◌, ◌≢◌, ℕ, List, [], ◌++◌, length, take}
use Rattle.httparse.specs.Grammar.{RequestHead}
use Rattle.wf_value.specs.HttpBody as plain
use Rattle.wf_value.specs.HttpBody.{Close, BodyState, Complete, Malformed, Oversize}
use Rattle.wf_http_body.specs.declared.body.End.{End}
use Rattle.wf_http_body.specs.declared.body.End.TheVariants as end
use Rattle.wf_http_body.specs.declared.body.Chunks.{Chunks}
use Rattle.wf_http_body.specs.Lengths.{IsLengthPart, IsOpenLength}
use Rattle.wf_http_body.specs.Parts.{IsFresh, IsOpenBody, IsSame as IsSameChunks}
use Rattle.wf_http_serve.specs.declared.framing.Framing.{Framing}
use Rattle.wf_http_serve.specs.declared.framing.Framing.TheVariants as framing
use Rattle.wf_http_serve.specs.declared.request.Request.{Request}
use Rattle.wf_http_serve.specs.declared.stage.Stage.{Stage}
use Rattle.wf_http_serve.specs.declared.stage.Stage.TheVariants as stage
use Rattle.wf_http_serve.specs.declared.visit.Visit.{Visit}
use Rattle.wf_http_serve.specs.Found.{IsTaken}
use Rattle.wf_http_serve.specs.Plain.{close_of}
use Rattle.wf_http_serve.specs.Visits.{visit_limit, VisitState, Asks, Bad, TooLarge, VisitOf, HasHead, IsHeadless, IsVisitBody}

-- ## Bodies
-- how far a body was read: all bytes heard of it, and its content so far
abbrev pub IsPartOf : Framing → Chunks → (all content : List ℕ) → Type 0
IsPartOf (framing.OfLength n) c all content = IsLengthPart n all content
IsPartOf framing.InChunks c all content = IsOpenBody visit_limit c all content
IsPartOf f c all content = content ≡ []

-- the same, and it isn't whole
abbrev pub IsOpenPart : Framing → Chunks → (all content : List ℕ) → Type 0
IsOpenPart (framing.OfLength n) c all content = IsOpenLength n all content
IsOpenPart framing.InChunks c all content = IsOpenBody visit_limit c all content
IsOpenPart f c all content = ⊥

-- whatever is heard behind these bytes
abbrev pub StaysBody : plain.Framing → List ℕ → BodyState → Type 0
StaysBody f all s = (more : List ℕ) (close : Close) → IsVisitBody f close (all ++ more) s

abbrev pub IsRead : Framing → plain.Framing → Chunks → (all content : List ℕ) → End → Type 0
IsRead code f c all content end.More = IsOpenPart code c all content
IsRead code f c all content end.Whole = StaysBody f all (Complete content)
IsRead code f c all content end.Bad = StaysBody f all Malformed
IsRead code f c all content end.TooLarge = StaysBody f all Oversize

-- ## Visits
abbrev pub Stays : List ℕ → VisitState → Type 0
Stays heard s = (more : List ℕ) (close : Close) → VisitOf (heard ++ more) close s

-- a head was read, and these bytes stand behind it
pub record IsBehind (heard : List ℕ) (r : Request) (f : Framing) (all : List ℕ) : Type 0 where
  pub head : RequestHead
  pub has : HasHead heard head all
  pub taken : IsTaken head r f

-- a stage, the bytes of a head that isn't whole, how far a body in chunks was read, the content so far, and all bytes heard
abbrev pub IsStage : Stage → (unread : List ℕ) → Chunks → (content heard : List ℕ) → Type 0
IsStage stage.Head unread c content heard = (unread ≡ heard) × (content ≡ []) × IsFresh c × IsHeadless heard
IsStage (stage.Body r f) unread c content heard = (all : List ℕ) × IsBehind heard r f all × IsOpenPart f c all content
IsStage (stage.Asked r) unread c content heard = Stays heard (Asks r.method r.target r.fields content)
IsStage stage.Bad unread c content heard = Stays heard Bad
IsStage stage.TooLarge unread c content heard = Stays heard TooLarge

-- what is kept: no byte of a head that is whole, of chunks only while a body comes in chunks, and no content of a bad request
abbrev pub KeepsLittle : Stage → (unread : List ℕ) → Chunks → (content : List ℕ) → Type 0
KeepsLittle stage.Head unread c content = ⊤
KeepsLittle (stage.Body r f) unread c content = (unread ≡ []) × ((f ≢ framing.InChunks) → IsFresh c)
KeepsLittle (stage.Asked r) unread c content = (unread ≡ []) × IsFresh c
KeepsLittle stage.Bad unread c content = (unread ≡ []) × IsFresh c × (content ≡ [])
KeepsLittle stage.TooLarge unread c content = (unread ≡ []) × IsFresh c × (content ≡ [])

pub record HasHeard (v : Visit) (heard : List ℕ) (close : Close) : Type 0 where
  pub stage : IsStage v.stage v.unread.items v.chunks v.content.items heard
  pub close_is : close ≡ close_of v.is_ended
  pub little : KeepsLittle v.stage v.unread.items v.chunks v.content.items

-- the body is read by this framing
abbrev pub IsBodyBy : Framing → Stage → Type 0
IsBodyBy f s = (r : Request) × (s ≡ stage.Body r f)

-- the same, but for what is kept of memory, and for more bytes behind those of a head
pub record IsSame (old new : Visit) : Type 0 where
  pub stage : new.stage ≡ old.stage
  pub unread : take (length old.unread.items) new.unread.items ≡ old.unread.items
  pub chunks : IsSameChunks old.chunks new.chunks
  pub content : new.content.items ≡ old.content.items

-- a piece was heard
abbrev pub GoesOn : Visit → List ℕ → Visit → Type 0
GoesOn old piece new = (heard : List ℕ) → IsStage old.stage old.unread.items old.chunks old.content.items heard
    → IsStage new.stage new.unread.items new.chunks new.content.items (heard ++ piece)
    × KeepsLittle new.stage new.unread.items new.chunks new.content.items

-- the stage behind an end
abbrev pub settled : End → Stage → Stage
settled end.More s = s
settled end.Whole (stage.Body r f) = stage.Asked r
settled end.Whole s = s
settled end.Bad s = stage.Bad
settled end.TooLarge s = stage.TooLarge

-- what an end leaves of chunks and of the content
abbrev pub Leaves : End → (old new : Chunks) → (content left : List ℕ) → Type 0
Leaves end.More old new content left = (new ≡ old) × (left ≡ content)
Leaves end.Whole old new content left = left ≡ content
Leaves end.Bad old new content left = ⊤
Leaves end.TooLarge old new content left = ⊤
