-- Which event a frame's move wants.
use Rattle.std.proofs.Common.{◌≡◌, ℕ, Bool, true, false, List, ◌∷◌, drop, Some, None, refl, ap, ◌∙◌, arith}
use Rattle.std.specs.Prelude.{◌||◌, is_some, option_map, slice_get, Option}
use Rattle.std.proofs.lemmas.Option.{get_or_from_slice_get, slice_get_within}
use Rattle.wf_lemmas.proofs.Lists.{none_past, drop_end}
use Rattle.wf_ast.specs.Flows.{flow}
use Rattle.wf_ast.specs.Func.{HttpCall, Listing, Special, SpecialListing, SysLog, SysSleep, SysSleepUntil, CreateEndpoint, AwaitCallback, func_named, special_named}
use Rattle.wf_ast.specs.Tree.{Flow, Program}
use Rattle.wf_ast.specs.declared.Func.{Func}
use Rattle.wf_frames.specs.Fits.{entries_at, list_at}
use Rattle.wf_frames.specs.Frames.{item}
use Rattle.wf_frames.specs.declared.frames.Frame.TheVariants as frame
use Rattle.wf_callbacks.specs.Plain.{plain_method}
use Rattle.wf_callbacks.specs.declared.method.Method.{Method}
use Rattle.wf_value.specs.Events as plain
use Rattle.wf_model.specs.Calls.{http_method}
use Rattle.wf_model.specs.Config.{Item, Do, Entries}
use Rattle.wf_ast.specs.declared.functions.Function.{Function}
use Rattle.wf_model.specs.Kinds.{ByCall, ByClock, Plainly, body_kind, by_clock, call_kind, entry_now, is_now, listed_kind, next_kind, special_kind}
use Rattle.wf_frames.proofs.Advancing.{entries_next, from_next}
use Rattle.wf_frames.proofs.Lists.{entries_long, from_end}
use Rattle.wf_frames.proofs.Parts.{as_part, entries_is, list_is}
use Rattle.wf_frames.specs.Built.{IsFunction, IsHttp, IsLog, IsNap, IsWorkflow, function_parts, listed, nap_special}
use Rattle.wf_frames.specs.declared.target.Nap.{Nap}
use Rattle.wf_frames.specs.declared.target.Nap.TheVariants as nap
use Rattle.wf_model.specs.NodeKinds.{Listed, entry_by}
use Rattle.wf_model.specs.Spots.{Spot, entries_by, from, part_at, part_body, part_entry, part_list}
use Rattle.wf_model.specs.Table.{Resolves}
use Rattle.wf_model.specs.declared.node.EntryNode.{EntryNode}
use Rattle.wf_model.specs.declared.node.Node.{Node}
use Rattle.wf_model.specs.declared.node.NodeKind.TheVariants as kind
use Rattle.wf_value.specs.Pairs.{Text}

-- ## Frames
module _ (ns : List Spot) (nodes : List Node) (n at : ℕ) (r : Resolves ns nodes) (p : Program) (k : List Item) where
  pub do_kind : (b : Listed) (m : ℕ) → list_at nodes n ≡ Some b → slice_get b.steps at ≡ Some m → next_kind p (item ns (frame.Do n at) ∷ k) ≡ body_kind p (part_body (part_at ns m))
  do_kind b m h e =
      let lt = slice_get_within b.steps at m e in
      let is = get_or_from_slice_get b.steps at m 0 e in
      ap (λ ss. next_kind p (Do (part_list (part_at ns n)) ss ∷ k)) (ap (from at) (list_is ns nodes n b r h) ∙ from_next ns b.steps at lt) ∙ ap (λ (i : ℕ). body_kind p (part_body (part_at ns i))) is

  pub do_plain : (b : Listed) → list_at nodes n ≡ Some b → slice_get b.steps at ≡ None → next_kind p (item ns (frame.Do n at) ∷ k) ≡ Plainly
  do_plain b h none =
      let past = none_past b.steps at none in
      ap (λ ss. next_kind p (Do (part_list (part_at ns n)) ss ∷ k)) (ap (from at) (list_is ns nodes n b r h) ∙ from_end ns b.steps at past)

  pub entry_kind : (b : List ℕ) (m : ℕ) → entries_at nodes n ≡ Some b → slice_get b at ≡ Some m → next_kind p (item ns (frame.Entries n at) ∷ k) ≡ by_clock (entry_now (part_entry (part_at ns m)))
  entry_kind b m h e =
      let lt = slice_get_within b at m e in
      let is = get_or_from_slice_get b at m 0 e in
      ap (λ es. next_kind p (Entries es ∷ k)) (ap (drop at) (entries_is ns nodes n b r h) ∙ entries_next ns b at lt) ∙ ap (λ (i : ℕ). by_clock (entry_now (part_entry (part_at ns i)))) is

  pub entry_plain : (b : List ℕ) → entries_at nodes n ≡ Some b → slice_get b at ≡ None → next_kind p (item ns (frame.Entries n at) ∷ k) ≡ Plainly
  entry_plain b h none = ap (λ es. next_kind p (Entries es ∷ k)) (ap (drop at) (entries_is ns nodes n b r h) ∙ drop_end (entries_by ns b) at (omega (arith, none_past b at none, entries_long ns b)))

-- ## Entries
pub entry_there : (ns : List Spot) (nodes : List Node) (n : ℕ) (x : Node) (e : EntryNode) → Resolves ns nodes → slice_get nodes n ≡ Some x → x.kind ≡ kind.Entry e → part_entry (part_at ns n) ≡ entry_by x.codes.items.items e
entry_there ns nodes n x e r at h = ap part_entry (as_part ns nodes n x (kind.Entry e) r at h)

-- ## Calls
-- a call of a workflow reads the clock where an argument does
pub flow_clock : (fs : List Flow) (ns : List Spot) (n : ℕ) (x : Text) (b : Bool) → IsWorkflow fs ns n x → call_kind (flow fs x) x b ≡ by_clock b
flow_clock fs ns n x b h = by (flow fs x) h.named
  where
    by : (o : Option Flow) → is_some o ≡ true → call_kind o x b ≡ by_clock b
    by (Some w) t = refl
    by None t = absurd (cc t)

-- and one of a function also where the function does
pub function_clock : (fs : List Flow) (g : Function) (x : Text) (b : Bool) → IsFunction fs g x → call_kind (flow fs x) x b ≡ by_clock (is_now g.func || b)
function_clock fs g x b h = by (flow fs x) h.free ∙ in_library (func_named x) h.named
  where
    by : (o : Option Flow) → is_some o ≡ false → call_kind o x b ≡ listed_kind (func_named x) (special_named x) b
    by (Some w) t = absurd (cc t)
    by None t = refl

    in_library : (o : Option Listing) → option_map listed o ≡ Some (function_parts g) → listed_kind o (special_named x) b ≡ by_clock (is_now g.func || b)
    in_library None e = absurd (cc e)
    in_library (Some l) e = let same : listed l ≡ function_parts g = cc e in ap (λ (p : Func × (List Text × List Text)). by_clock (is_now p.0 || b)) same

-- one of HTTP makes a request
pub http_asks : (fs : List Flow) (m : Option Method) (x : Text) (b : Bool) → IsHttp fs m x → call_kind (flow fs x) x b ≡ ByCall
http_asks fs m x b h = by (flow fs x) h.free ∙ in_library (func_named x) h.unlisted ∙ special (special_named x) h.named
  where
    by : (o : Option Flow) → is_some o ≡ false → call_kind o x b ≡ listed_kind (func_named x) (special_named x) b
    by (Some w) t = absurd (cc t)
    by None t = refl

    in_library : (o : Option Listing) → is_some o ≡ false → listed_kind o (special_named x) b ≡ listed_kind None (special_named x) b
    in_library (Some e) t = absurd (cc t)
    in_library None t = refl

    by_special : (y : Special) → ◌≡◌ {A = Option (Option plain.Method)} (elim y [ HttpCall k ↦ Some k | z ↦ None ]) (Some (option_map plain_method m)) → special_kind y b ≡ ByCall
    by_special SysLog e = absurd (cc e)
    by_special SysSleep e = absurd (cc e)
    by_special SysSleepUntil e = absurd (cc e)
    by_special (HttpCall k) e = refl
    by_special CreateEndpoint e = absurd (cc e)
    by_special AwaitCallback e = absurd (cc e)

    special : (g : Option SpecialListing) → http_method g ≡ Some (option_map plain_method m) → listed_kind None g b ≡ ByCall
    special None e = absurd (cc e)
    special (Some g) e = by_special g.special e

-- a sleep takes a reading
pub nap_reads : (fs : List Flow) (n : Nap) (x : Text) (b : Bool) → IsNap fs n x → call_kind (flow fs x) x b ≡ ByClock
nap_reads fs n x b h = by (flow fs x) h.free ∙ in_library (func_named x) h.unlisted ∙ special (special_named x) h.named
  where
    by : (o : Option Flow) → is_some o ≡ false → call_kind o x b ≡ listed_kind (func_named x) (special_named x) b
    by (Some w) t = absurd (cc t)
    by None t = refl

    in_library : (o : Option Listing) → is_some o ≡ false → listed_kind o (special_named x) b ≡ listed_kind None (special_named x) b
    in_library (Some e) t = absurd (cc t)
    in_library None t = refl

    naps : (m : Nap) → special_kind (nap_special m) b ≡ ByClock
    naps nap.For = refl
    naps nap.Until = refl

    special : (g : Option SpecialListing) → option_map (λ e. e.special) g ≡ Some (nap_special n) → listed_kind None g b ≡ ByClock
    special None e = absurd (cc e)
    special (Some g) e = let same : g.special ≡ nap_special n = cc e in ap (λ y. special_kind y b) same ∙ naps n

-- a log reads the clock where an argument does
pub log_clock : (fs : List Flow) (x : Text) (b : Bool) → IsLog fs x → call_kind (flow fs x) x b ≡ by_clock b
log_clock fs x b h = by (flow fs x) h.free ∙ in_library (func_named x) h.unlisted ∙ special (special_named x) h.named
  where
    by : (o : Option Flow) → is_some o ≡ false → call_kind o x b ≡ listed_kind (func_named x) (special_named x) b
    by (Some w) t = absurd (cc t)
    by None t = refl

    in_library : (o : Option Listing) → is_some o ≡ false → listed_kind o (special_named x) b ≡ listed_kind None (special_named x) b
    in_library (Some e) t = absurd (cc t)
    in_library None t = refl

    special : (g : Option SpecialListing) → option_map (λ (e : SpecialListing). e.special) g ≡ Some SysLog → listed_kind None g b ≡ by_clock b
    special None e = absurd (cc e)
    special (Some g) e = let same : g.special ≡ SysLog = cc e in ap (λ (y : Special). special_kind y b) same
