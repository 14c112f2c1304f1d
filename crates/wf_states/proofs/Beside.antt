-- What stands beside the tasks: what is read was spelled so, and what is spelled so is read.
use Rattle.std.proofs.Common.{◌≡◌, ◌⊎◌, ℕ, ◌<◌, ◌^◌, List, [], ◌∷◌, ◌++◌, Ok, refl, ap, inl, inr}
use Rattle.std.specs.Int.{w16}
use Rattle.wf_events.proofs.Parts.{reads_pair, reads_route}
use Rattle.wf_events.specs.Reading.{pair_at, route_at}
use Rattle.wf_events.specs.Spelling.{route, IsRoute, IsPair}
use Rattle.wf_model.specs.Config.{Call, Open, Answered, TimedOut, Outcome, Active, Returned, Raised, Cancelled}
use Rattle.wf_record_parts.proofs.Heard.{reads_visitor}
use Rattle.wf_record_parts.proofs.Parts.{by_code, bytes-rest, reads_16, reads_32, reads_64, reads_string, reads_text, reads_list}
use Rattle.wf_record_parts.specs.Laws.{AreBytes, TakesAgain, Reads}
use Rattle.wf_record_parts.specs.Reading.{Read, number_at, string_at, text_at, list_at, method_at, visitor_at}
use Rattle.wf_record_parts.specs.Spelling.{Bytes, two, four, eight, string, listed, pair, method, visitor, Fits32, Fits64, Each, IsString, IsText, IsVisitor}
use Rattle.wf_states.proofs.Combined.{Coded, coded_takes, alone_takes, reads_as, reads_same, reads_both}
use Rattle.wf_states.proofs.Controls.{Number, Long}
use Rattle.wf_states.proofs.ValueLaws.{reads_value}
use Rattle.wf_states.specs.Reading.{value_at, open_of, call_at, endpoint_of, endpoint_at, severity_at, log_entry_of, log_entry_at, outcome_at, rules_at, facts_of, facts_at}
use Rattle.wf_states.specs.Rising.{as_made, both_at, both, BothFit}
use Rattle.wf_states.specs.Spelling.{value, call, endpoint, severity_byte, log_entry, outcome, facts, IsValue, IsCall, IsEndpoint, IsLogEntry, IsOutcome, AreFacts}
use Rattle.wf_value.specs.Data.{Data}
use Rattle.wf_value.specs.Events.{Method, Get, Post, Put, Patch, Delete, Options, Routes}
use Rattle.wf_value.specs.declared.Severity.{Severity}
use Rattle.wf_value.specs.Pairs.{Text}
use Rattle.wf_value.specs.declared.Severity.TheVariants as severity

-- ## Calls
abbrev Opening : Type 0
Opening = ℕ × (Text × (ℕ × (List ℕ × ℕ)))

abbrev opening_at : Bytes → Read Opening
opening_at = both_at Number (both_at text_at (both_at (number_at w16) (both_at string_at Long)))

abbrev opening : Opening → Bytes
opening = both four (both string (both two (both string eight)))

abbrev IsPort : ℕ → Type 0
IsPort n = n < 2 ^ 16

abbrev IsOpening : Opening → Type 0
IsOpening = BothFit Fits32 (BothFit IsText (BothFit IsPort (BothFit IsString Fits64)))

reads_opening : Reads opening_at opening IsOpening
reads_opening =
    reads_both Number four Fits32 reads_32 (both_at text_at (both_at (number_at w16) (both_at string_at Long))) (both string (both two (both string eight))) (BothFit IsText (BothFit IsPort (BothFit IsString Fits64)))
    (reads_both text_at string IsText reads_text (both_at (number_at w16) (both_at string_at Long)) (both two (both string eight)) (BothFit IsPort (BothFit IsString Fits64))
    (reads_both (number_at w16) two IsPort reads_16 (both_at string_at Long) (both string eight) (BothFit IsString Fits64) (reads_both string_at string IsString reads_string Long eight Fits64 reads_64)))

call_takes : (bytes : Bytes) (x : Call) (rest : Bytes) → AreBytes bytes → call_at bytes ≡ Ok (x, rest) → (bytes ≡ call x ++ rest) × AreBytes rest × IsCall x
unfolding call_at
call_takes [] x rest are h = absurd cc
call_takes (kind ∷ bytes) x rest are h =
    let P : Type 0 = Coded call IsCall kind bytes x rest in
    let behind = bytes-rest kind bytes are in
    by_code P kind 0 _ _ _ h (alone_takes call IsCall Answered 0 refl tt kind bytes x rest behind) (λ h1.
    by_code P kind 1 _ _ _ h1 (alone_takes call IsCall TimedOut 1 refl tt kind bytes x rest behind) (λ h2.
    by_code P kind 2 _ _ _ h2 (coded_takes call IsCall opening_at opening IsOpening reads_opening open_of 2 (λ b. refl) (λ b f. f) kind bytes x rest behind) (λ h3. absurd cc)))

call_again : TakesAgain call_at call IsCall
unfolding call_at
call_again Answered rest fits = refl
call_again TimedOut rest fits = refl
call_again (Open b q t) rest fits = ap (as_made open_of) (reads_opening.again (b, (q.address.name, (q.address.port, (q.bytes, t)))) rest fits)

pub reads_call : Reads call_at call IsCall
reads_call = record { takes = call_takes; again = call_again }

-- ## Endpoints
abbrev IsMethod : Method → Type 0
IsMethod m = Unit {0}

method_takes : (bytes : Bytes) (x : Method) (rest : Bytes) → AreBytes bytes → method_at bytes ≡ Ok (x, rest) → (bytes ≡ method x ++ rest) × AreBytes rest × IsMethod x
unfolding method_at
method_takes [] x rest are h = absurd cc
method_takes (kind ∷ bytes) x rest are h =
    let P : Type 0 = Coded method IsMethod kind bytes x rest in
    let behind = bytes-rest kind bytes are in
    let one : (m : Method) (code : ℕ) → method m ≡ code ∷ [] → kind ≡ code → ◌≡◌ {A = Read Method} (Ok (m, bytes)) (Ok (x, rest)) → P = λ m code is. alone_takes method IsMethod m code is tt kind bytes x rest behind in
    by_code P kind 0 _ _ _ h (one Get 0 refl) (λ h1.
    by_code P kind 1 _ _ _ h1 (one Post 1 refl) (λ h2.
    by_code P kind 2 _ _ _ h2 (one Put 2 refl) (λ h3.
    by_code P kind 3 _ _ _ h3 (one Patch 3 refl) (λ h4.
    by_code P kind 4 _ _ _ h4 (one Delete 4 refl) (λ h5.
    by_code P kind 5 _ _ _ h5 (one Options 5 refl) (λ h6. absurd cc))))))

method_again : TakesAgain method_at method IsMethod
unfolding method_at
method_again Get rest fits = refl
method_again Post rest fits = refl
method_again Put rest fits = refl
method_again Patch rest fits = refl
method_again Delete rest fits = refl
method_again Options rest fits = refl

reads_method : Reads method_at method IsMethod
reads_method = record { takes = method_takes; again = method_again }

pub reads_endpoint : Reads endpoint_at endpoint IsEndpoint
reads_endpoint =
    reads_same endpoint_at (λ e. both method (listed visitor) (e.method, e.queue)) endpoint (λ e. BothFit IsMethod (Each IsVisitor) (e.method, e.queue)) IsEndpoint
    (reads_as (both_at method_at (list_at visitor_at)) (both method (listed visitor)) (BothFit IsMethod (Each IsVisitor)) (reads_both method_at method IsMethod reads_method (list_at visitor_at) (listed visitor) (Each IsVisitor) (reads_list visitor_at visitor IsVisitor reads_visitor)) endpoint_of (λ e. (e.method, e.queue)) (λ p f. refl) (λ e. refl))
    (λ e. refl) (λ e f. f.1) (λ e f. (tt, f))

-- ## The log
abbrev IsSeverity : Severity → Type 0
IsSeverity s = Unit {0}

severity_takes : (bytes : Bytes) (x : Severity) (rest : Bytes) → AreBytes bytes → severity_at bytes ≡ Ok (x, rest) → (bytes ≡ severity_byte x ++ rest) × AreBytes rest × IsSeverity x
unfolding severity_at
severity_takes [] x rest are h = absurd cc
severity_takes (kind ∷ bytes) x rest are h =
    let P : Type 0 = Coded severity_byte IsSeverity kind bytes x rest in
    let behind = bytes-rest kind bytes are in
    let one : (s : Severity) (code : ℕ) → severity_byte s ≡ code ∷ [] → kind ≡ code → ◌≡◌ {A = Read Severity} (Ok (s, bytes)) (Ok (x, rest)) → P = λ s code is. alone_takes severity_byte IsSeverity s code is tt kind bytes x rest behind in
    by_code P kind 0 _ _ _ h (one severity.Default 0 refl) (λ h1.
    by_code P kind 1 _ _ _ h1 (one severity.Debug 1 refl) (λ h2.
    by_code P kind 2 _ _ _ h2 (one severity.Info 2 refl) (λ h3.
    by_code P kind 3 _ _ _ h3 (one severity.Notice 3 refl) (λ h4.
    by_code P kind 4 _ _ _ h4 (one severity.Warning 4 refl) (λ h5.
    by_code P kind 5 _ _ _ h5 (one severity.Error 5 refl) (λ h6.
    by_code P kind 6 _ _ _ h6 (one severity.Critical 6 refl) (λ h7.
    by_code P kind 7 _ _ _ h7 (one severity.Alert 7 refl) (λ h8.
    by_code P kind 8 _ _ _ h8 (one severity.Emergency 8 refl) (λ h9. absurd cc)))))))))

severity_again : TakesAgain severity_at severity_byte IsSeverity
unfolding severity_at
severity_again severity.Default rest fits = refl
severity_again severity.Debug rest fits = refl
severity_again severity.Info rest fits = refl
severity_again severity.Notice rest fits = refl
severity_again severity.Warning rest fits = refl
severity_again severity.Error rest fits = refl
severity_again severity.Critical rest fits = refl
severity_again severity.Alert rest fits = refl
severity_again severity.Emergency rest fits = refl

reads_severity : Reads severity_at severity_byte IsSeverity
reads_severity = record { takes = severity_takes; again = severity_again }

abbrev Logged : Type 0
Logged = ℕ × (Severity × Data)

abbrev IsLogged : Logged → Type 0
IsLogged = BothFit Fits64 (BothFit IsSeverity IsValue)

reads_logged : Reads (both_at Long (both_at severity_at value_at)) (both eight (both severity_byte value)) IsLogged
reads_logged = reads_both Long eight Fits64 reads_64 (both_at severity_at value_at) (both severity_byte value) (BothFit IsSeverity IsValue) (reads_both severity_at severity_byte IsSeverity reads_severity value_at value IsValue reads_value)

pub reads_log_entry : Reads log_entry_at log_entry IsLogEntry
reads_log_entry =
    reads_same log_entry_at (λ e. both eight (both severity_byte value) (e.reading, (e.severity, e.value))) log_entry (λ e. IsLogged (e.reading, (e.severity, e.value))) IsLogEntry
    (reads_as (both_at Long (both_at severity_at value_at)) (both eight (both severity_byte value)) IsLogged reads_logged log_entry_of (λ e. (e.reading, (e.severity, e.value))) (λ p f. refl) (λ e. refl))
    (λ e. refl) (λ e f. (f.0, f.1.1)) (λ e f. (f.0, (tt, f.1)))

-- ## Outcomes
outcome_takes : (bytes : Bytes) (x : Outcome) (rest : Bytes) → AreBytes bytes → outcome_at bytes ≡ Ok (x, rest) → (bytes ≡ outcome x ++ rest) × AreBytes rest × IsOutcome x
unfolding outcome_at
outcome_takes [] x rest are h = absurd cc
outcome_takes (kind ∷ bytes) x rest are h =
    let P : Type 0 = Coded outcome IsOutcome kind bytes x rest in
    let behind = bytes-rest kind bytes are in
    by_code P kind 0 _ _ _ h (alone_takes outcome IsOutcome Active 0 refl tt kind bytes x rest behind) (λ h1.
    by_code P kind 1 _ _ _ h1 (coded_takes outcome IsOutcome value_at value IsValue reads_value Returned 1 (λ b. refl) (λ b f. f) kind bytes x rest behind) (λ h2.
    by_code P kind 2 _ _ _ h2 (coded_takes outcome IsOutcome value_at value IsValue reads_value Raised 2 (λ b. refl) (λ b f. f) kind bytes x rest behind) (λ h3.
    by_code P kind 3 _ _ _ h3 (alone_takes outcome IsOutcome Cancelled 3 refl tt kind bytes x rest behind) (λ h4. absurd cc))))

outcome_again : TakesAgain outcome_at outcome IsOutcome
unfolding outcome_at
outcome_again Active rest fits = refl
outcome_again (Returned v) rest fits = ap (as_made Returned) (reads_value.again v rest fits)
outcome_again (Raised e) rest fits = ap (as_made Raised) (reads_value.again e rest fits)
outcome_again Cancelled rest fits = refl

pub reads_outcome : Reads outcome_at outcome IsOutcome
reads_outcome = record { takes = outcome_takes; again = outcome_again }

-- ## Facts
abbrev IsRules : ℕ → Type 0
IsRules n = (n ≡ 1) ⊎ (n ≡ 2)

abbrev rules : ℕ → Bytes
rules n = n ∷ []

rules_takes : (bytes : Bytes) (n : ℕ) (rest : Bytes) → AreBytes bytes → rules_at bytes ≡ Ok (n, rest) → (bytes ≡ rules n ++ rest) × AreBytes rest × IsRules n
unfolding rules_at
rules_takes [] n rest are h = absurd cc
rules_takes (kind ∷ bytes) n rest are h =
    let P : Type 0 = Coded rules IsRules kind bytes n rest in
    let behind = bytes-rest kind bytes are in
    by_code P kind 1 _ _ _ h (alone_takes rules IsRules 1 1 refl (inl refl) kind bytes n rest behind) (λ h1.
    by_code P kind 2 _ _ _ h1 (alone_takes rules IsRules 2 2 refl (inr refl) kind bytes n rest behind) (λ h2. absurd cc))

rules_again : TakesAgain rules_at rules IsRules
unfolding rules_at
rules_again n rest (inl is) = rw is refl
rules_again n rest (inr is) = rw is refl

reads_rules : Reads rules_at rules IsRules
reads_rules = record { takes = rules_takes; again = rules_again }

abbrev Named : Type 0
Named = ℕ × (Text × (Routes × (List (Text × Text) × Text)))

abbrev named_at : Bytes → Read Named
named_at = both_at rules_at (both_at text_at (both_at (list_at route_at) (both_at (list_at pair_at) text_at)))

abbrev named : Named → Bytes
named = both rules (both string (both (listed route) (both (listed pair) string)))

abbrev IsNamed : Named → Type 0
IsNamed = BothFit IsRules (BothFit IsText (BothFit (Each IsRoute) (BothFit (Each IsPair) IsText)))

reads_named : Reads named_at named IsNamed
reads_named =
    reads_both rules_at rules IsRules reads_rules (both_at text_at (both_at (list_at route_at) (both_at (list_at pair_at) text_at))) (both string (both (listed route) (both (listed pair) string))) (BothFit IsText (BothFit (Each IsRoute) (BothFit (Each IsPair) IsText)))
    (reads_both text_at string IsText reads_text (both_at (list_at route_at) (both_at (list_at pair_at) text_at)) (both (listed route) (both (listed pair) string)) (BothFit (Each IsRoute) (BothFit (Each IsPair) IsText))
    (reads_both (list_at route_at) (listed route) (Each IsRoute) (reads_list route_at route IsRoute reads_route) (both_at (list_at pair_at) text_at) (both (listed pair) string) (BothFit (Each IsPair) IsText)
    (reads_both (list_at pair_at) (listed pair) (Each IsPair) (reads_list pair_at pair IsPair reads_pair) text_at string IsText reads_text)))

pub reads_facts : Reads facts_at facts AreFacts
reads_facts =
    reads_as named_at named IsNamed reads_named facts_of (λ f. (f.rules, (f.id, (f.routes, (f.env, f.base))))) (λ p f. refl) (λ f. refl)
