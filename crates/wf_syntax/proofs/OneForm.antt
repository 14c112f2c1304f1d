-- The body that is made of the parts: the form that it has.
use Rattle.std.proofs.Common.{◌≡◌, true, false, List, [], ◌∷◌, Option, Some, None, option_map, is_some, codes, refl, sym, ap, ◌∙◌, subst}
use Rattle.std.proofs.Common.{map as mapped}
use Rattle.wf_ast.specs.Tree as t
use Rattle.wf_ast.specs.Tree.{fields as fields_of}
use Rattle.wf_ast.specs.View.{arms_in, body_view, entries_view, except_option_view, fields_view, loop_view, policy_option_view, steps_in, template_view}
use Rattle.wf_syntax_rules.proofs.OneForm.{Form, OneAtMost, after_parallel, after_steps, alone, assign_form, call_form, for_form, form_absent, form_there, parallel_form, raise_form, return_form, steps_form, switch_form, try_form}
use Rattle.wf_syntax_rules.specs.Meaning.{AreEntries, AreSteps, At, IsBody, IsForm, IsText, IsValue, Maybe}
use Rattle.wf_syntax_words.specs.Fields.{forms, forms_in, has}
use Rattle.wf_value.specs.HttpRequest.{is_among}
use Rattle.wf_syntax.specs.Forms.{AreArms, ArePartsOf, IsLoopMap, IsParallelMap, IsTriedMap, block_form, body_of, either, first_of, parallel_view}
use Rattle.wf_syntax.specs.declared.parts.Parts.{Parts}
use Rattle.wf_tree.specs.Trees.{Tree, Pairs}
use Rattle.wf_value.specs.Pairs.{Text}

form_step : {A : Type 0} (o : Option A) (make : A → t.Body) (others : t.Body) (Is : A → Tree → Type 0) (form : Form) (more : List Form) (fs : Pairs) → OneAtMost fs
    → is_among form.0 (codes "condition" ∷ []) ≡ false → Maybe o form.0 fs Is → forms_in forms fs ≡ forms_in (form ∷ more) fs
    → ((a : A) → IsForm form.0 fs → At form.0 fs (Is a) → IsBody (make a) fs) → (forms_in forms fs ≡ forms_in more fs → IsBody others fs) → IsBody (first_of (option_map make o) others) fs
form_step (Some a) make others Is form more fs one apart h e found rest =
    let there : has form.0 fs ≡ true = ap is_some h.1 in
    found a (alone form (forms_in more fs) (forms_in forms fs) (e ∙ form_there form more fs there) (one form.0 apart there)) h
form_step None make others Is form more fs one apart h e found rest = rest (e ∙ form_absent form more fs (ap is_some h))

unmapped : {A B : Type 0} (view : A → B) (o : Option A) (k : Text) (fs : Pairs) (Is : B → Tree → Type 0) → Maybe (option_map view o) k fs Is → Maybe o k fs (λ a. Is (view a))
unmapped view None k fs Is h = h
unmapped view (Some a) k fs Is h = h

-- the forms one behind the other
abbrev last_of : Parts → t.Body
last_of p = block_form p.blocks p.values.retry p.loops.except

abbrev form_of : Parts → t.Body
form_of p =
    first_of (option_map (λ es. t.Body.Assign (entries_view es)) p.calls.assign)
    (first_of (option_map (λ name. t.Body.Call (record { name = name; args = fields_of (fields_view p.calls.args); result = p.values.result })) p.calls.call)
    (first_of (option_map (λ l. t.Body.For (loop_view l)) p.loops.repeated)
    (first_of (option_map (λ b. t.Body.Parallel (parallel_view b)) p.loops.parallel)
    (first_of (option_map (λ v. t.Body.Raise (template_view v)) p.values.raised)
    (first_of (option_map (λ v. t.Body.Return (template_view v)) p.values.returned) (last_of p))))))

either_first : (a b : Option t.Body) (c : t.Body) → first_of (either a b) c ≡ first_of a (first_of b c)
either_first (Some x) b c = refl
either_first None b c = refl

in_a_row : (a b c d e f : Option t.Body) (o : t.Body) → first_of (either a b) (first_of (either c d) (first_of (either e f) o)) ≡ first_of a (first_of b (first_of c (first_of d (first_of e (first_of f o)))))
in_a_row a b c d e f o =
    either_first a b (first_of (either c d) (first_of (either e f) o))
    ∙ ap (λ x. first_of a (first_of b x)) (either_first c d (first_of (either e f) o) ∙ ap (λ x. first_of c (first_of d x)) (either_first e f o))

form_made : (p : Parts) (fs : Pairs) → OneAtMost fs → ArePartsOf p fs → IsBody (form_of p) fs
form_made p fs one is =
    form_step p.calls.assign (λ es. t.Body.Assign (entries_view es)) _ (λ es. AreEntries (entries_view es)) assign_form (call_form ∷ for_form ∷ parallel_form ∷ after_parallel) fs one refl
    (unmapped entries_view p.calls.assign (codes "assign") fs AreEntries is.calls.assign) refl (λ a f h. (f, h)) (λ d.
    form_step p.calls.call (λ name. t.Body.Call (record { name = name; args = fields_of (fields_view p.calls.args); result = p.values.result })) _ IsText call_form (for_form ∷ parallel_form ∷ after_parallel) fs one refl
    is.calls.call d (λ a f h. (f, (h, is.calls.args, is.values.result))) (λ d.
    form_step p.loops.repeated (λ l. t.Body.For (loop_view l)) _ (λ l. IsLoopMap (loop_view l)) for_form (parallel_form ∷ after_parallel) fs one refl
    (unmapped loop_view p.loops.repeated (codes "for") fs IsLoopMap is.loops.repeated) d (λ a f h. (f, h)) (λ d.
    form_step p.loops.parallel (λ b. t.Body.Parallel (parallel_view b)) _ (λ b. IsParallelMap (parallel_view b)) parallel_form after_parallel fs one refl
    (unmapped parallel_view p.loops.parallel (codes "parallel") fs IsParallelMap is.loops.parallel) d (λ a f h. (f, h)) (λ d.
    form_step p.values.raised (λ v. t.Body.Raise (template_view v)) _ (λ v. IsValue (template_view v)) raise_form (return_form ∷ steps_form ∷ after_steps) fs one refl
    (unmapped template_view p.values.raised (codes "raise") fs IsValue is.values.raised) d (λ a f h. (f, h)) (λ d.
    form_step p.values.returned (λ v. t.Body.Return (template_view v)) _ (λ v. IsValue (template_view v)) return_form (steps_form ∷ after_steps) fs one refl
    (unmapped template_view p.values.returned (codes "return") fs IsValue is.values.returned) d (λ a f h. (f, h)) (λ d.
    form_step p.blocks.steps (λ ss. t.Body.Block (steps_in ss)) _ (λ ss. AreSteps (steps_in ss)) steps_form after_steps fs one refl
    (unmapped steps_in p.blocks.steps (codes "steps") fs AreSteps is.blocks.steps) d (λ a f h. (f, h)) (λ d.
    form_step p.blocks.switch (λ arms. t.Body.Switch (arms_in arms)) _ (λ arms. AreArms (arms_in arms)) switch_form (try_form ∷ []) fs one refl
    (unmapped arms_in p.blocks.switch (codes "switch") fs AreArms is.blocks.switch) d (λ a f h. (f, h)) (λ d.
    form_step p.blocks.tried (λ b. t.Body.Try (t.try (body_view b) (policy_option_view p.values.retry) (except_option_view p.loops.except))) t.Body.Nothing (λ b. IsTriedMap (body_view b)) try_form [] fs one refl
    (unmapped body_view p.blocks.tried (codes "try") fs IsTriedMap is.blocks.tried) d (λ a f h. (f, (h, is.values.retry, is.loops.except))) (λ d. ap (mapped (λ f. f.0)) d)))))))))

form_is : (p : Parts) → body_of p ≡ form_of p
form_is p =
    in_a_row (option_map (λ es. t.Body.Assign (entries_view es)) p.calls.assign)
    (option_map (λ name. t.Body.Call (record { name = name; args = fields_of (fields_view p.calls.args); result = p.values.result })) p.calls.call)
    (option_map (λ l. t.Body.For (loop_view l)) p.loops.repeated) (option_map (λ b. t.Body.Parallel (parallel_view b)) p.loops.parallel)
    (option_map (λ v. t.Body.Raise (template_view v)) p.values.raised) (option_map (λ v. t.Body.Return (template_view v)) p.values.returned) (last_of p)

pub body_made : (p : Parts) (fs : Pairs) → OneAtMost fs → ArePartsOf p fs → IsBody (body_of p) fs
body_made p fs one is = subst (λ b. IsBody b fs) (sym (form_is p)) (form_made p fs one is)
