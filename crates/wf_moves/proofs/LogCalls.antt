-- What steps log.
use Rattle.std.proofs.Common.{◌≡◌, ◌≤◌, ℕ, List, Bool, true, false, Ok, Err, Some, None, refl, sym, ap, subst, ◌∙◌, arith, if◌then◌else◌}
use Rattle.std.specs.Prelude.{Option, ◌+◌, codes, is_some, nat_le, option_map, unwrap_or}
use Rattle.wf_ast.specs.Accept.{BadArgument}
use Rattle.wf_ast.specs.Flows.{flow}
use Rattle.wf_ast.specs.Func.{Listing, Special, SpecialListing, SysLog, func_named, special_named}
use Rattle.wf_ast.specs.Tree.{Body, CallBody, Flow}
use Rattle.wf_eval.specs.Answers as eval
use Rattle.wf_frames.specs.Frames.{body_result, result_of}
use Rattle.wf_frames.specs.Held.{Held, standing}
use Rattle.wf_frames.specs.Owned.{Around}
use Rattle.wf_http_ask.proofs.Depths.{got_depth}
use Rattle.wf_model.specs.Calls as calls
use Rattle.wf_model.specs.Calls.{calls_listed, calls_named, calls_special, log_entry, logged_any, logged_value, logs, severity_text}
use Rattle.wf_model.specs.Config.{Item, log_limit}
use Rattle.wf_model.specs.Leave.{gives, on, raises}
use Rattle.wf_model.specs.Local.{Breaks, Does, Local, Logs, Moved, Scene}
use Rattle.wf_sys_ask.specs.Logs.{logged_view, within_log}
use Rattle.wf_moves.specs.Moved.{IsMove}
use Rattle.wf_moves.specs.Requests.{Reaches}
use Rattle.wf_moves.specs.Tasks.{IsLogged}
use Rattle.wf_moves.specs.declared.finish.Went.{Went}
use Rattle.wf_sys_ask.specs.declared.entry.Logged.{Logged}
use Rattle.wf_moves.specs.declared.sending.Sending.{Sending}
use Rattle.wf_model.specs.Spots.{part_at, part_body}
use Rattle.wf_value.specs.Events.{severity_named}
use Rattle.wf_value.specs.HttpRequest.{as_text}
use Rattle.wf_value.specs.HttpUrl.{first_of_two}
use Rattle.wf_frames.proofs.Evaluated.{failed, gave}
use Rattle.wf_frames.specs.Built.{IsLog}
use Rattle.wf_frames.specs.Steps.{calls_by}
use Rattle.wf_value.specs.Data.{Data, Pairs, depth, null, pairs_depth, size, text}
use Rattle.wf_value.specs.Errors.{Answer, ◌>>=◌, error_map, or_error}
use Rattle.wf_value.specs.Pairs.{Text, get}
use Rattle.wf_value.specs.declared.Raise.TheVariants.{Error}
use Rattle.wf_value.specs.declared.Severity.{Severity}
use Rattle.wf_value.specs.declared.Tag.{Tag}
use Rattle.wf_value.specs.declared.Tag.TheVariants.{ResourceLimitError, ValueError}

-- ## A call of the log
-- it logs, or is one that no accepted program makes
module _ (s : Scene) (f : CallBody) (args : Pairs) (k : List Item) (l : Local) (P : Moved → Type 0) (breaks : P (Breaks BadArgument)) (logged : P (logs s f.result args k l)) where
  either : (g : SpecialListing) → g.special ≡ SysLog → (b : Bool) → P (if b then calls_special s f.result g.special args k l else Breaks BadArgument)
  either g is true = subst (λ (x : Special). P (calls_special s f.result x args k l)) (sym is) logged
  either g is false = breaks

  by_listing : (g : Option SpecialListing) → option_map (λ (e : SpecialListing). e.special) g ≡ Some SysLog → P (calls_listed s f.result None g args k l)
  by_listing None e = absurd (cc e)
  by_listing (Some g) e = either g (cc e) _

  by_function : (o : Option Listing) (g : Option SpecialListing) → is_some o ≡ false → option_map (λ (e : SpecialListing). e.special) g ≡ Some SysLog → P (calls_listed s f.result o g args k l)
  by_function (Some e) g t h = absurd (cc t)
  by_function None g t h = by_listing g h

  by_flow : (o : Option Flow) → is_some o ≡ false → P (calls_listed s f.result (func_named f.name) (special_named f.name) args k l) → P (calls_named s f.result o f.name args k l)
  by_flow (Some w) t h = absurd (cc t)
  by_flow None t h = h

  pub log_called : IsLog s.program.flows f.name → P (calls_by s (Body.Call f) args k l)
  log_called h = by_flow (flow s.program.flows f.name) h.free (by_function (func_named f.name) (special_named f.name) h.unlisted h.named)

-- ## How deep nests what is logged
abbrev entry_with : Severity → Data → calls.Logged
entry_with severity v = record { severity = severity; value = v }

text_shallow : (v : Data) (w : Data) → (as_text (Some v) >>= λ t. Ok (text t)) ≡ Ok w → depth w ≤ 100
text_shallow v w is = by (as_text (Some v)) is
  where
    by : (r : Answer Text) → (r >>= λ t. Ok (text t)) ≡ Ok w → depth w ≤ 100
    by (Ok t) is = subst (λ (x : Data). depth x ≤ 100) (let same : text t ≡ w = cc is in same) (omega arith)
    by (Err e) is = absurd (cc is)

any_shallow : (args : Pairs) → pairs_depth args ≤ 100 → depth (logged_any args) ≤ 100
any_shallow args small = by (get (codes "data") args) (get (codes "json") args) refl refl
  where
    by : (o p : Option Data) → get (codes "data") args ≡ o → get (codes "json") args ≡ p → depth (logged_any args) ≤ 100
    by (Some v) p is js =
        let least = got_depth (codes "data") args v is in
        let same : logged_any args ≡ v = ap (λ q. unwrap_or (first_of_two q (get (codes "json") args)) null) is in
        subst (λ (x : Data). depth x ≤ 100) (sym same) (omega (arith, least, small))
    by None (Some v) is js =
        let least = got_depth (codes "json") args v js in
        let same : logged_any args ≡ v = (λ i. unwrap_or (first_of_two (is i) (js i)) null) in
        subst (λ (x : Data). depth x ≤ 100) (sym same) (omega (arith, least, small))
    by None None is js =
        let same : logged_any args ≡ null = (λ i. unwrap_or (first_of_two (is i) (js i)) null) in
        subst (λ (x : Data). depth x ≤ 100) (sym same) (omega arith)

value_shallow : (args : Pairs) (w : Data) → pairs_depth args ≤ 100 → logged_value args ≡ Ok w → depth w ≤ 100
value_shallow args w small is = by (get (codes "text") args) is
  where
    by : (o : Option Data) → ◌≡◌ {A = Answer Data} (elim o [ None ↦ Ok (logged_any args) | Some v ↦ as_text (Some v) >>= λ t. Ok (text t) ]) (Ok w) → depth w ≤ 100
    by None is = subst (λ (x : Data). depth x ≤ 100) (let same : logged_any args ≡ w = cc is in same) (any_shallow args small)
    by (Some v) is = text_shallow v w is

-- that of an entry is that of its argument
module _ (logged : ℕ) (e : calls.Logged) where
  limit_same : (x : calls.Logged) → within_log logged x ≡ Ok e → x.value ≡ e.value
  limit_same x is = by (nat_le (logged + size x.value) log_limit) is
    where
      by : (b : Bool) → (if b then Ok x else Err ResourceLimitError) ≡ Ok e → x.value ≡ e.value
      by true is = let same : x ≡ e = cc is in ap (λ (y : calls.Logged). y.value) same
      by false is = absurd (cc is)

  named_same : (v : Data) (r : Answer Severity) → ((r >>= λ severity. Ok (entry_with severity v)) >>= within_log logged) ≡ Ok e → v ≡ e.value
  named_same v (Ok severity) is = limit_same (entry_with severity v) is
  named_same v (Err t) is = absurd (cc is)

  told_same : (v : Data) (r : Answer Text) → ((r >>= λ t. or_error ValueError (severity_named t) >>= λ severity. Ok (entry_with severity v)) >>= within_log logged) ≡ Ok e → v ≡ e.value
  told_same v (Ok t) is = named_same v (or_error ValueError (severity_named t)) is
  told_same v (Err t) is = absurd (cc is)

  value_same : (args : Pairs) (r : Answer Data)
      → ((r >>= λ v. severity_text (get (codes "severity") args) >>= λ t. or_error ValueError (severity_named t) >>= λ severity. Ok (entry_with severity v)) >>= within_log logged) ≡ Ok e → r ≡ Ok e.value
  value_same args (Ok v) is = ap Ok (told_same v (severity_text (get (codes "severity") args)) is)
  value_same args (Err t) is = absurd (cc is)

entry_shallow : (args : Pairs) (logged : ℕ) (e : calls.Logged) → pairs_depth args ≤ 100 → (log_entry args >>= within_log logged) ≡ Ok e → depth e.value ≤ 100
entry_shallow args logged e small is = value_shallow args e.value small (value_same logged e args (logged_value args) is)

-- ## What a log comes to
module _ (a : Around) (s : Scene) (d k : List Item) (h : Held) (n : ℕ) (f : CallBody) (args : Pairs) (x : Sending) (body : part_body (part_at a.spots n) ≡ Body.Call f) (small : pairs_depth args ≤ 100) (named : IsLog s.program.flows f.name) (reaches : Reaches s x) where
  abbrev L : Local
  L = standing d h

  asked : logs s f.result args k L ≡ on s k L (log_entry args >>= within_log x.logged) (λ e. Does (Logs e.severity e.value) (gives s f.result null k L))
  asked = ap (λ m. on s k L (log_entry args >>= within_log m) (λ e. Does (Logs e.severity e.value) (gives s f.result null k L))) reaches.logged

  named_result : result_of a.spots (Some n) ≡ f.result
  named_result = ap body_result body

  pub entry_logged : (entry : Logged) (w : Went) (l : Local) → eval.Answers logged_view (Ok entry) (log_entry args >>= within_log x.logged) → IsMove s (gives s (result_of a.spots (Some n)) null k L) w l
      → IsLogged s (calls_by s (part_body (part_at a.spots n)) args k L) entry w l
  entry_logged entry w l e g =
      let so : (log_entry args >>= within_log x.logged) ≡ Ok (logged_view entry) = gave logged_view entry (log_entry args >>= within_log x.logged) e in
      let moved = subst (λ r. IsMove s (gives s r null k L) w l) named_result g in
      let deep = entry_shallow args x.logged (logged_view entry) small so in
      subst (λ b. IsLogged s (calls_by s b args k L) entry w l) (sym body)
      (log_called s f args k L (λ y. IsLogged s y entry w l) tt
      (subst (λ y. IsLogged s y entry w l) (sym (asked ∙ ap (λ q. on s k L q (λ e. Does (Logs e.severity e.value) (gives s f.result null k L))) so)) (refl, refl, deep, moved))
      named)

  pub log_failed : (t : Tag) (w : Went) (l : Local) → eval.Answers logged_view (Err (Error t)) (log_entry args >>= within_log x.logged) → IsMove s (raises s k L (error_map t)) w l → IsMove s (calls_by s (part_body (part_at a.spots n)) args k L) w l
  log_failed t w l e g =
      let so : (log_entry args >>= within_log x.logged) ≡ Err t = failed logged_view t (log_entry args >>= within_log x.logged) e in
      subst (λ b. IsMove s (calls_by s b args k L) w l) (sym body)
      (log_called s f args k L (λ y. IsMove s y w l) tt (subst (λ y. IsMove s y w l) (sym (asked ∙ ap (λ q. on s k L q (λ e. Does (Logs e.severity e.value) (gives s f.result null k L))) so)) g) named)
