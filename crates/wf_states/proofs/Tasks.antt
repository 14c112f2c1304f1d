-- Waits, layers and tasks: what is read was spelled so, and what is spelled so is read.
use Rattle.std.proofs.Common.{◌≡◌, Bool, List, [], ◌∷◌, ◌++◌, Option, Ok, refl, ap}
use Rattle.wf_model.specs.Config.{Layer, Wait, Awake, Sleep, Delay, Calling, Await}
use Rattle.wf_record_parts.proofs.Parts.{by_code, bytes-rest, reads_32, reads_64, reads_list}
use Rattle.wf_record_parts.specs.Laws.{AreBytes, TakesAgain, Reads}
use Rattle.wf_record_parts.specs.Reading.{Read, list_at}
use Rattle.wf_record_parts.specs.Spelling.{Bytes, four, eight, string, listed, Fits32, Fits64, Each}
use Rattle.wf_states.proofs.Combined.{Coded, coded_takes, alone_takes, reads_as, reads_same, reads_both, reads_option}
use Rattle.wf_states.proofs.Controls.{Number, Long, reads_result, reads_item}
use Rattle.wf_states.proofs.ValueLaws.{reads_truth, IsTruth, reads_variables}
use Rattle.wf_states.specs.Parts.{ItemPart, TaskPart}
use Rattle.wf_states.specs.Reading.{truth_at, variables_at, item_at, result_at, wait_at, layer_of, layer_at, parent_at, task_of, task_at}
use Rattle.wf_states.specs.Rising.{as_made, both_at, both, BothFit, option_at, option, OptionFits}
use Rattle.wf_states.specs.Spelling.{variables, item, wait, truth, layer, parent, AreVariables, IsItem, IsResult, IsWait, IsLayer, IsParent, IsTask}
use Rattle.wf_value.specs.Data.{Pairs}
use Rattle.wf_value.specs.Pairs.{Text}

-- ## Waits
abbrev Result : Bytes → Read (Option Text)
Result = result_at

reads_due : Reads (both_at Long Result) (both eight (option string)) (BothFit Fits64 IsResult)
reads_due = reads_both Long eight Fits64 reads_64 Result (option string) IsResult reads_result

reads_await : Reads (both_at Long (both_at Long Result)) (both eight (both eight (option string))) (BothFit Fits64 (BothFit Fits64 IsResult))
reads_await = reads_both Long eight Fits64 reads_64 (both_at Long Result) (both eight (option string)) (BothFit Fits64 IsResult) reads_due

wait_takes : (bytes : Bytes) (x : Wait) (rest : Bytes) → AreBytes bytes → wait_at bytes ≡ Ok (x, rest) → (bytes ≡ wait x ++ rest) × AreBytes rest × IsWait x
unfolding wait_at
wait_takes [] x rest are h = absurd cc
wait_takes (kind ∷ bytes) x rest are h =
    let P : Type 0 = Coded wait IsWait kind bytes x rest in
    let behind = bytes-rest kind bytes are in
    by_code P kind 0 _ _ _ h (alone_takes wait IsWait Awake 0 refl tt kind bytes x rest behind) (λ h1.
    by_code P kind 1 _ _ _ h1 (coded_takes wait IsWait (both_at Long Result) (both eight (option string)) (BothFit Fits64 IsResult) reads_due (λ p. Sleep p.0 p.1) 1 (λ b. refl) (λ b f. f) kind bytes x rest behind) (λ h2.
    by_code P kind 2 _ _ _ h2 (coded_takes wait IsWait Long eight Fits64 reads_64 Delay 2 (λ b. refl) (λ b f. f) kind bytes x rest behind) (λ h3.
    by_code P kind 3 _ _ _ h3 (coded_takes wait IsWait (both_at Long Result) (both eight (option string)) (BothFit Fits64 IsResult) reads_due (λ p. Calling p.0 p.1) 3 (λ b. refl) (λ b f. f) kind bytes x rest behind) (λ h4.
    by_code P kind 4 _ _ _ h4 (coded_takes wait IsWait (both_at Long (both_at Long Result)) (both eight (both eight (option string))) (BothFit Fits64 (BothFit Fits64 IsResult)) reads_await (λ p. Await p.0 p.1.0 p.1.1) 4 (λ b. refl) (λ b f. f) kind bytes x rest behind)
    (λ h5. absurd cc)))))

wait_again : TakesAgain wait_at wait IsWait
unfolding wait_at
wait_again Awake rest fits = refl
wait_again (Sleep t r) rest fits = ap (as_made (λ p. Sleep p.0 p.1)) (reads_due.again (t, r) rest fits)
wait_again (Delay t) rest fits = ap (as_made Delay) (reads_64.again t rest fits)
wait_again (Calling k r) rest fits = ap (as_made (λ p. Calling p.0 p.1)) (reads_due.again (k, r) rest fits)
wait_again (Await n t r) rest fits = ap (as_made (λ p. Await p.0 p.1.0 p.1.1)) (reads_await.again (n, (t, r)) rest fits)

pub reads_wait : Reads wait_at wait IsWait
reads_wait = record { takes = wait_takes; again = wait_again }

-- ## Layers and tasks
abbrev IsLayerOf : Bool × Pairs → Type 0
IsLayerOf = BothFit IsTruth AreVariables

pub reads_layer : Reads layer_at layer IsLayer
reads_layer =
    reads_same layer_at (λ l. both truth variables (l.by_call, l.vars)) layer (λ l. IsLayerOf (l.by_call, l.vars)) IsLayer
    (reads_as (both_at truth_at variables_at) (both truth variables) IsLayerOf (reads_both truth_at truth IsTruth reads_truth variables_at variables AreVariables reads_variables) layer_of (λ l. (l.by_call, l.vars)) (λ p f. refl) (λ l. refl))
    (λ l. refl) (λ l f. f.1) (λ l f. (tt, f))

pub reads_parent : Reads parent_at parent IsParent
reads_parent = reads_both Number four Fits32 reads_32 Number four Fits32 reads_32

reads_layers_wait : Reads (both_at (list_at layer_at) wait_at) (both (listed layer) wait) (BothFit (Each IsLayer) IsWait)
reads_layers_wait = reads_both (list_at layer_at) (listed layer) (Each IsLayer) (reads_list layer_at layer IsLayer reads_layer) wait_at wait IsWait reads_wait

abbrev Inside : Type 0
Inside = List ItemPart × (List Layer × Wait)

abbrev inside_at : Bytes → Read Inside
inside_at = both_at (list_at item_at) (both_at (list_at layer_at) wait_at)

abbrev inside : Inside → Bytes
inside = both (listed item) (both (listed layer) wait)

abbrev IsInside : Inside → Type 0
IsInside = BothFit (Each IsItem) (BothFit (Each IsLayer) IsWait)

reads_inside : Reads inside_at inside IsInside
reads_inside = reads_both (list_at item_at) (listed item) (Each IsItem) (reads_list item_at item IsItem reads_item) (both_at (list_at layer_at) wait_at) (both (listed layer) wait) (BothFit (Each IsLayer) IsWait) reads_layers_wait

-- a task without its number
abbrev pub task_bytes : TaskPart → Bytes
task_bytes t = both (option parent) inside (t.parent, (t.items, (t.layers, t.wait)))

pub reads_task : Reads task_at task_bytes IsTask
reads_task =
    reads_as (both_at (option_at parent_at) inside_at) (both (option parent) inside) (BothFit (OptionFits IsParent) IsInside)
    (reads_both (option_at parent_at) (option parent) (OptionFits IsParent) (reads_option parent_at parent IsParent reads_parent) inside_at inside IsInside reads_inside)
    task_of (λ t. (t.parent, (t.items, (t.layers, t.wait)))) (λ p f. refl) (λ t. refl)
