-- A session's records with one turn more.
use Rattle.std.specs.Prelude.{◌≡◌, ◌≢◌, ◌≤◌, ◌<◌, ◌^◌, ◌+◌, ◌*◌, ℕ, Bool, List, [], ◌∷◌, ◌++◌, length, Option, Some, None}
use Rattle.std.specs.List.{AllByRecursion, flat_map}
use Rattle.std.proofs.Common.{refl, sym, ◌∙◌, ap, subst, arith, length-append}
use Rattle.std.proofs.lemmas.List.{append-nil}
use Rattle.wf_ast.specs.Tree.{Program}
use Rattle.wf_deeds.specs.Clauses.{IsOfSession, KeptAt, StandsIsKept, turn_records}
use Rattle.wf_deeds.specs.Kept.{Command}
use Rattle.wf_deeds.specs.Memory.{LeadsTo, Memory, StandsFor}
use Rattle.wf_deeds.specs.Outside.{Outside}
use Rattle.wf_deeds.specs.Steps.{TurnGoesOn, TurnIsChosen, turn_of_memory, turned, TurnLeadsOn}
use Rattle.wf_deeds.specs.Turns.{turn_of}
use Rattle.wf_engine.specs.Fits.{longest_taken}
use Rattle.wf_events.specs.Laws.{MeaningOfSpelling}
use Rattle.wf_events.specs.Records.{Turned}
use Rattle.wf_events.specs.Spelling.{record_bytes, event, HasSpelling, IsOld}
use Rattle.wf_host.specs.declared.data.Deed.{Deed}
use Rattle.wf_deeds.specs.History.{history as history_of}
use Rattle.wf_deeds.specs.Language.{Language}
use Rattle.wf_history.specs.Kinds.{turn_in}
use Rattle.wf_model.specs.Config.{Config, To}
use Rattle.wf_model.specs.Run.{run_on}
use Rattle.wf_record_parts.specs.Spelling.{eight, four}
use Rattle.wf_value.specs.Events.{Event, Turn}

-- ## The record
abbrev pub payload_of : Memory → List Event → List ℕ
payload_of m es = record_bytes (Turned (turn_of_memory m es))

pub is_spelled : (m : Memory) (es : List Event) → m.session < 2 ^ 64 → m.waits < 2 ^ 64 → AllByRecursion IsOld es → 1 ≤ length es → length es ≤ 4096 → HasSpelling (Turned (turn_of_memory m es))
is_spelled m es number waits old some few = (record { session = number; waits = waits; events = some }, (omega (arith, few), old))

pub is_short : (m : Memory) (es : List Event) → length (flat_map event es) ≤ longest_taken + 13 * length es → length es ≤ 4096 → length (payload_of m es) ≤ 16777215
unfolding record_bytes
is_short m es bytes few =
    omega (arith, few, bytes, length-append (eight m.session) (eight m.waits ++ four (length es) ++ flat_map event es), length-append (eight m.waits) (four (length es) ++ flat_map event es), length-append (four (length es)) (flat_map event es))

-- there are some
pub not_none : (es : List Event) → 1 ≤ length es → es ≢ []
not_none es some is = omega (arith, some, ap length is)

-- ## What is known of it
pub record Laws : Type 0 where
  pub again : MeaningOfSpelling
  pub chosen : TurnIsChosen
  pub turn : TurnGoesOn
  pub moment : StandsIsKept
  pub turn_leads : TurnLeadsOn

-- the turn that a memory chooses leads there
pub record Choice (m : Memory) (es : List Event) (c : Config) : Type 0 where
  pub turn : es ≡ turn_of m.program m.config m.reading m.taken
  pub leads : run_on m.program (To m.config) es ≡ To c

-- ## What the session is then
-- the memory behind a turn
abbrev pub behind : Memory → Program → Config → Option Event → Memory
behind m p c taken = record m { program = p; config = c; taken = taken }

-- as its program stays, and nothing is taken then
pub as_turned : (L : Language) (O : Outside) (command : Command) (handed : Bool) (m : Memory) (p : Program) (c : Config) (taken : Option Event) (J : List (List ℕ)) (D : List Deed) → p ≡ m.program → taken ≡ None → StandsFor L O command handed (turned m c) J D → StandsFor L O command handed (behind m p c taken) J D
as_turned L O command handed m p c taken J D same none s =
    subst (λ o. StandsFor L O command handed (behind m p c o) J D) (sym none) (subst (λ q. StandsFor L O command handed (behind m q c None) J D) (sym same) s)

pub as_turned_leads : (L : Language) (m : Memory) (p : Program) (c : Config) (taken : Option Event) (J : List (List ℕ)) → p ≡ m.program → taken ≡ None → LeadsTo L J (turned m c) → LeadsTo L J (behind m p c taken)
as_turned_leads L m p c taken J same none l = subst (λ o. LeadsTo L J (behind m p c o)) (sym none) (subst (λ q. LeadsTo L J (behind m q c None)) (sym same) l)

-- a turn without an event has nothing that was taken
pub none_taken : (p : Program) (c : Config) (r : ℕ) (o : Option Event) → turn_of p c r o ≡ [] → o ≡ None
none_taken p c r None is = refl
none_taken p c r (Some e) is = absurd (cc is)

module _ (L : Language) (O : Outside) (command : Command) (handed : Bool) (m : Memory) (J : List (List ℕ)) (D : List Deed) where
  pub one_turn_more : Laws → (es : List Event) (c : Config) → StandsFor L O command handed m J D → Choice m es c → es ≢ [] → HasSpelling (Turned (turn_of_memory m es)) → StandsFor L O command handed (turned m c) (J ++ payload_of m es ∷ []) D
  one_turn_more laws es c s is some spelled =
      laws.turn L O command handed m J D (payload_of m es) es c s (laws.chosen L O command handed m J D es c s is.turn is.leads) some (laws.again (Turned (turn_of_memory m es)) spelled tt)

  -- where nothing was chosen
  pub none_more : (es : List Event) (c : Config) → StandsFor L O command handed m J D → Choice m es c → es ≡ [] → StandsFor L O command handed (turned m c) J D
  none_more es c s is none =
      let same : m.config ≡ c = cc (ap (λ l. run_on m.program (To m.config) l) (sym none) ∙ is.leads) in
      let empty : m.taken ≡ None = none_taken m.program m.config m.reading m.taken (sym is.turn ∙ none) in
      subst (λ d. StandsFor L O command handed (turned m d) J D) same (subst (λ o. StandsFor L O command handed (behind m m.program m.config o) J D) empty s)

-- ## Moments
module _ (moment : StandsIsKept) (L : Language) (O : Outside) (command : Command) (handed : Bool) (m n : Memory) (D : List Deed) where
  -- with these turns of the session
  pub kept_with : (before added : List (List ℕ)) → StandsFor L O command handed n (before ++ added) D → n.session ≡ m.session → AllByRecursion (IsOfSession m.session) added → KeptAt L O command handed m 0 before D (before ++ added) []
  kept_with before added s same own = moment L O command handed m n 0 before added D [] (subst (λ E. StandsFor L O command handed n (before ++ added) E) (sym (append-nil D)) s) same own refl (omega arith)

  -- with none
  pub kept_now : (J : List (List ℕ)) → StandsFor L O command handed n J D → n.session ≡ m.session → KeptAt L O command handed m 0 J D J []
  kept_now J s same =
      subst (λ K. KeptAt L O command handed m 0 J D K []) (append-nil J) (kept_with J [] (subst (λ K. StandsFor L O command handed n K D) (sym (append-nil J)) s) same tt)

-- the record of a turn of the session
pub turn_is_own : MeaningOfSpelling → (m : Memory) (es : List Event) → HasSpelling (Turned (turn_of_memory m es)) → IsOfSession m.session (payload_of m es)
turn_is_own again m es spelled u means =
    let two : Some (turn_of_memory m es) ≡ Some u = ap turn_in (sym (again (Turned (turn_of_memory m es)) spelled tt)) ∙ means in
    let same : turn_of_memory m es ≡ u = cc two in
    ap (λ (t : Turn). t.session) (sym same)

-- ## Records of a turn
pub records_of : (m : Memory) (es : List Event) → es ≢ [] → turn_records m.session m.waits es ≡ payload_of m es ∷ []
records_of m [] some = absurd (some refl)
records_of m (e ∷ es) some = refl
