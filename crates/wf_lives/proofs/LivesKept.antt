-- What holds over all commands of a life.
use Rattle.std.specs.Prelude.{◌≡◌, ◌⊎◌, ◌<◌, ◌≤◌, ℕ, zero, suc, List, [], ◌∷◌, ◌++◌, length, get_or, Contains, Some, None, Ok}
use Rattle.std.specs.List.{AllByRecursion}
use Rattle.std.proofs.Common.{inl, inr, ⊎_elim, sym, ◌∙◌, ap, ap₂, subst, arith, append_assoc, append-nil, drop_of_length-le}
use Rattle.wf_deeds.proofs.HistoryMoments.{with_more}
use Rattle.wf_lives.proofs.LivesRuns.{WasOpen, facts, longer, open_before, same_end, same_request, still_was_open, was_open}
use Rattle.wf_deeds.specs.Deeds.{polls, IsSmall}
use Rattle.wf_lives.specs.Lives.{ClosedIsNotStarted, FilesStayFit, Stay, IsStay, IsLifeFrom, IsOutcomeText, OneLine, OneRequest, RecordsStay}
use Rattle.wf_deeds.specs.Outside.{Outside}
use Rattle.wf_engine.specs.Printed.{Reports, outcome_text}
use Rattle.wf_engine.specs.Safe.{IsFit}
use Rattle.wf_events.specs.View.{address_view}
use Rattle.wf_host.specs.declared.data.Address.{Address}
use Rattle.wf_host.specs.declared.data.Deed.{Deed}
use Rattle.wf_host.specs.declared.data.Deed.TheVariants.{Start}
use Rattle.wf_journal.specs.Records.{payloads, records, records_from}
use Rattle.wf_model.specs.Config.{Config}
use Rattle.wf_model.specs.Ready.{request_of}
use Rattle.wf_model.specs.RunLaws.{FrontIsARun, NothingFollowsAnOutcome, RequestsStay, RunsAgree}
use Rattle.wf_deeds.specs.At.{config_at, journal, next_session, turns_in}
use Rattle.wf_deeds.specs.History.{Standing, history}
use Rattle.wf_deeds.specs.Language.{Language}
use Rattle.wf_deeds.specs.HistoryLaws.{ComputedIsHistory}
use Rattle.wf_value.specs.HttpRequest.{Request}

-- ## Places in a life
module _ (L : Language) (O : Outside) (R : Reports) where
  pub stay_at : (image : List ℕ) (xs : List Stay) (x : Stay) (k : ℕ) → IsLifeFrom L O R image xs → k < length xs → get_or xs k x ≡ x → IsStay L O R x
  stay_at image [] x k chain lt is = absurd (omega (arith, lt))
  stay_at image (z ∷ zs) x zero chain lt is = subst (λ s. IsStay L O R s) is chain.1
  stay_at image (z ∷ zs) x (suc k) chain lt is = stay_at z.left zs x k chain.2 (omega (arith, lt)) is

  -- what a stay leaves keeps the records that it found
  keeps : (x : Stay) → IsStay L O R x → (added : List (List ℕ)) × (records x.left ≡ records x.opened ++ added)
  keeps x (inl early) = ([], ap records early.at_entry ∙ sym (append-nil (records x.opened)))
  keeps x (inr late) = late.keeps

  -- later records go on from the image with which a life begins
  grows : (image : List ℕ) (xs : List Stay) (x : Stay) (k : ℕ) → IsLifeFrom L O R image xs → k < length xs → get_or xs k x ≡ x → (more : List (List ℕ)) × (records x.left ≡ records image ++ more)
  grows image [] x k chain lt is = absurd (omega (arith, lt))
  grows image (z ∷ zs) x zero chain lt is =
      let (more, same) = keeps z chain.1 in
      (more, ap (λ (s : Stay). records s.left) (sym is) ∙ same ∙ ap (λ i. records i ++ more) chain.0)
  grows image (z ∷ zs) x (suc k) chain lt is =
      let (more, same) = keeps z chain.1 in
      let (rest, later) = grows z.left zs x k chain.2 (omega (arith, lt)) is in
      (more ++ rest, later ∙ ap (λ bs. bs ++ rest) (same ∙ ap (λ i. records i ++ more) chain.0) ∙ append_assoc (records image) more rest)

module _ (L : Language) (O : Outside) (R : Reports) where
  -- what a stay leaves is fit, where it opened such a file
  fit_left : (x : Stay) → IsFit L x.opened → IsStay L O R x → IsFit L x.left
  fit_left x fit (inl early) = subst (λ i. IsFit L i) (sym early.at_entry) fit
  fit_left x fit (inr late) = late.history

  fit_at : (image : List ℕ) (xs : List Stay) (x : Stay) (k : ℕ) → IsFit L image → IsLifeFrom L O R image xs → k < length xs → get_or xs k x ≡ x → IsFit L x.left
  fit_at image [] x k fit chain lt is = absurd (omega (arith, lt))
  fit_at image (z ∷ zs) x zero fit chain lt is = subst (λ (s : Stay). IsFit L s.left) is (fit_left z (subst (λ i. IsFit L i) (sym chain.0) fit) chain.1)
  fit_at image (z ∷ zs) x (suc k) fit chain lt is = fit_at z.left zs x k (fit_left z (subst (λ i. IsFit L i) (sym chain.0) fit) chain.1) chain.2 (omega (arith, lt)) is

pub files_stay_fit : FilesStayFit
files_stay_fit L O R first xs x life (k, lt, is) = fit_at L O R first xs x k life.fit life.chain lt is

-- the records of one begin those of the other
abbrev GoesOnTo : Stay → Stay → Type 0
GoesOnTo x y = (more : List (List ℕ)) × (records y.left ≡ records x.left ++ more)

module _ (L : Language) (O : Outside) (R : Reports) where
  either : (image : List ℕ) (xs : List Stay) (x y : Stay) (k j : ℕ) → IsLifeFrom L O R image xs → k < length xs → get_or xs k x ≡ x → j < length xs → get_or xs j y ≡ y → GoesOnTo x y ⊎ GoesOnTo y x
  either image [] x y k j chain lt is lt2 is2 = absurd (omega (arith, lt))
  either image (z ∷ zs) x y zero zero chain lt is lt2 is2 = inl ([], ap (λ (s : Stay). records s.left) (sym is2 ∙ is) ∙ sym (append-nil (records x.left)))
  either image (z ∷ zs) x y zero (suc j) chain lt is lt2 is2 = inl (subst (λ s. GoesOnTo s y) is (grows L O R z.left zs y j chain.2 (omega (arith, lt2)) is2))
  either image (z ∷ zs) x y (suc k) zero chain lt is lt2 is2 = inr (subst (λ s. GoesOnTo s x) is2 (grows L O R z.left zs x k chain.2 (omega (arith, lt)) is))
  either image (z ∷ zs) x y (suc k) (suc j) chain lt is lt2 is2 = either z.left zs x y k j chain.2 (omega (arith, lt)) is (omega (arith, lt2)) is2

pub records_stay : RecordsStay
records_stay L O R first xs x life (k, lt, is) = keeps L O R x (stay_at L O R first xs x k life.chain lt is)

-- ## Outcomes
module _ (front : FrontIsARun) (agree : RunsAgree) (nothing : NothingFollowsAnOutcome) (computed : ComputedIsHistory) (L : Language) (R : Reports) where
  one_text : (x y : Stay) (s t : List ℕ) → GoesOnTo x y → IsOutcomeText L R x s → IsOutcomeText L R y t → s ≡ t
  one_text x y s t (more, on) (o, first, ended, text) (u, second, ended2, text2) =
      let (c, is, outcome) = first.1 in
      let (d, is2, outcome2) = second.1 in
      let same = same_end front agree nothing L (records x.left) (records y.left) more c.config d.config (facts computed L (records x.left) c is) (facts computed L (records y.left) d is2) on (λ active. ended (sym outcome ∙ active)) in
      text ∙ ap outcome_text (sym outcome ∙ ap (λ v. v.outcome) same ∙ outcome2) ∙ sym text2

pub one_line : FrontIsARun → RunsAgree → NothingFollowsAnOutcome → ComputedIsHistory → OneLine
one_line front agree nothing computed L O R first xs x y s t life (k, lt, is) (j, lt2, is2) text text2 =
    ⊎_elim
    (λ on. one_text front agree nothing computed L R x y s t on text text2)
    (λ on. sym (one_text front agree nothing computed L R y x t s on text2 text))
    (either L O R first xs x y k j life.chain lt is lt2 is2)

-- ## Starts
-- a call that was open at a moment of what is left
record Begun (L : Language) (image : List ℕ) (session k : ℕ) (q : Request) : Type 0 where
  pub standing : Standing
  pub history : history L (records image) ≡ Ok standing
  pub waits : ℕ
  pub config : Config
  pub at : config_at (journal L (records image)) session waits ≡ Some config
  pub request : request_of config k ≡ Some q

no_records : (image : List ℕ) → length image ≤ 4 → records image ≡ []
unfolding payloads
no_records image short = ap records_from (drop_of_length-le image short)

standing_of : (L : Language) (image : List ℕ) (session waits : ℕ) (c : Config) → IsFit L image → config_at (journal L (records image)) session waits ≡ Some c → (st : Standing) × (history L (records image) ≡ Ok st)
standing_of L image session waits c (inl short) at = absurd (let no : None ≡ Some c = ap (λ bs. config_at (journal L bs) session waits) (sym (no_records image short)) ∙ at in cc no)
standing_of L image session waits c (inr (inl (m, none))) at = absurd (let no : None ≡ Some c = ap (λ bs. config_at (journal L bs) session waits) (sym none) ∙ at in cc no)
standing_of L image session waits c (inr (inr (m, st))) at = st

small_at : (ds : List Deed) (d : Deed) (i : ℕ) → AllByRecursion IsSmall ds → i < length ds → get_or ds i d ≡ d → IsSmall d
small_at [] d i small lt is = absurd (omega (arith, lt))
small_at (e ∷ ds) d zero small lt is = subst IsSmall is small.0
small_at (e ∷ ds) d (suc i) small lt is = small_at ds d i small.1 (omega (arith, lt)) is

comes : (ds : List Deed) (d : Deed) (i : ℕ) → i < length ds → get_or ds i d ≡ d → (before : List Deed) × (behind : List Deed) × (ds ≡ before ++ d ∷ behind)
comes [] d i lt is = absurd (omega (arith, lt))
comes (e ∷ ds) d zero lt is = ([], ds, ap (λ x. x ∷ ds) is)
comes (e ∷ ds) d (suc i) lt is = let (before, behind, same) = comes ds d i (omega (arith, lt)) is in (e ∷ before, behind, ap (λ es. e ∷ es) same)

abbrev request_at : Address → List ℕ → Request
request_at a p = record { address = address_view a; bytes = p }

begun : (L : Language) (O : Outside) (R : Reports) (x : Stay) (k : ℕ) (a : Address) (p : List ℕ) → IsStay L O R x → Contains x.deeds (Start k a p) → Begun L x.left (next_session (journal L (records x.opened))) k (request_at a p)
begun L O R x k a p (inl early) (i, lt, is) = absurd (small_at x.deeds (Start k a p) i early.small lt is)
begun L O R x k a p (inr late) (i, lt, is) =
    let (before, behind, same) = comes x.deeds (Start k a p) i lt is in
    let m = late.deeds.calls before behind k a p same in
    let (st, whole) = standing_of L x.left (next_session (journal L (records x.opened))) (polls before) m.config late.history m.quiet.reached in record {
      standing = st;
      history = whole;
      waits = polls before;
      config = m.config;
      at = m.quiet.reached;
      request = m.request;
    }

-- ## One request
module _ (stay : RequestsStay) (computed : ComputedIsHistory) (L : Language) where
  agree_on : (x y : Stay) (k m n : ℕ) (q r : Request) → GoesOnTo x y → Begun L x.left m k q → Begun L y.left n k r → q ≡ r
  agree_on x y k m n q r (more, on) b d =
      let f = facts computed L (records x.left) b.standing b.history in
      let g = facts computed L (records y.left) d.standing d.history in
      let first = was_open L (records x.left) b.standing.config f m b.waits b.config k q b.at b.request in
      let second = was_open L (records y.left) d.standing.config g n d.waits d.config k r d.at d.request in
      same_request stay (with_more f.found (turns_in more)) k q r
      (still_was_open f.found (turns_in more) k q first)
      (subst (λ j. WasOpen j k r) (longer L (records x.left) (records y.left) more b.standing.config d.standing.config f g on) second)

address_of : List ℕ → ℕ → Address
address_of name port = record { name = name; port = port }

same_address : (a b : Address) → address_view a ≡ address_view b → a ≡ b
unfolding address_of
same_address a b is = ap₂ address_of (ap (λ v. v.name) is) (ap (λ v. v.port) is)

pub one_request : RequestsStay → ComputedIsHistory → OneRequest
one_request stay computed L O R first xs x y k a b p q life (i, lt, is) (j, lt2, is2) start start2 =
    let v = begun L O R x k a p (stay_at L O R first xs x i life.chain lt is) start in
    let w = begun L O R y k b q (stay_at L O R first xs y j life.chain lt2 is2) start2 in
    let same : request_at a p ≡ request_at b q =
    ⊎_elim
    (λ on. agree_on stay computed L x y k _ _ (request_at a p) (request_at b q) on v w)
    (λ on. sym (agree_on stay computed L y x k _ _ (request_at b q) (request_at a p) on w v))
    (either L O R first xs x y i j life.chain lt is lt2 is2) in
    (same_address a b (ap (λ r. r.address) same), ap (λ r. r.bytes) same)

-- ## Closed calls
pub closed : RequestsStay → ComputedIsHistory → ClosedIsNotStarted
closed stay computed L O R first xs x k a p life (i, lt, is) (st, whole, one, le, shut) start =
    let s = stay_at L O R first xs x i life.chain lt is in
    let v = begun L O R x k a p s start in
    let (more, on) = keeps L O R x s in
    shut (
      request_at a p,
      open_before stay L (records x.opened) (records x.left) more st.config v.standing.config
          (facts computed L (records x.opened) st whole) (facts computed L (records x.left) v.standing v.history) on v.waits v.config k (request_at a p) v.at v.request le,
    )
