-- A body has one form at most, and its parts are that form.
use Rattle.std.proofs.Common.{◌≡◌, true, false, ◌++◌, if◌then◌else◌, List, [], ◌∷◌, None, codes, sym, ap, ◌∙◌, subst}
use Rattle.std.proofs.Common.{map as mapped}
use Rattle.std.proofs.lemmas.Bool.{true≢false}
use Rattle.wf_syntax_rules.specs.Rules.{arm_fault, step_fault}
use Rattle.wf_syntax_words.specs.Fields.{body_fields, fields_of as fields_of_forms, forms, forms_in, has, has_only}
use Rattle.wf_value.specs.HttpRequest.{is_among}
use Rattle.wf_syntax_rules.proofs.Faultless.{unless_parts, known_key}
use Rattle.wf_tree.specs.Trees.{Pairs}
use Rattle.wf_value.specs.Pairs.{Text}

abbrev pub Form : Type 0
Form = Text × List Text

-- no form is there beside another
abbrev pub OneAtMost : Pairs → Type 0
OneAtMost fs = (k : Text) → is_among k (codes "condition" ∷ []) ≡ false → has k fs ≡ true → (a b : Form) (more : List Form) → forms_in forms fs ≡ a ∷ b ∷ more → ⊥

none_known : (k : Text) → is_among k [] ≡ true → ⊥
none_known k h = let x : ⊥ = cc in x

pub one_in_step : (fs : Pairs) → step_fault fs ≡ None → OneAtMost fs
one_in_step fs e k apart there a b more two =
    none_known k (known_key [] fs k (subst (λ l. has_only (fields_of_forms l) fs ≡ true) two (unless_parts (has_only (body_fields fs) fs) _ _ e).0) there)

pub one_in_arm : (fs : Pairs) → arm_fault fs ≡ None → OneAtMost fs
one_in_arm fs e k apart there a b more two =
    let known = known_key (codes "condition" ∷ []) fs k (subst (λ l. has_only (codes "condition" ∷ fields_of_forms l) fs ≡ true) two (unless_parts (has_only (codes "condition" ∷ body_fields fs) fs) _ _ e).0) there in
    true≢false (sym known ∙ apart)

-- ## The first form that is there
pub form_there : (form : Form) (more : List Form) (fs : Pairs) → has form.0 fs ≡ true → forms_in (form ∷ more) fs ≡ form ∷ forms_in more fs
form_there form more fs h = ap (λ b. (if b then form ∷ [] else []) ++ forms_in more fs) h

pub form_absent : (form : Form) (more : List Form) (fs : Pairs) → has form.0 fs ≡ false → forms_in (form ∷ more) fs ≡ forms_in more fs
form_absent form more fs h = ap (λ b. (if b then form ∷ [] else []) ++ forms_in more fs) h

pub alone : (form : Form) (rest all : List Form) → all ≡ form ∷ rest → ((a b : Form) (more : List Form) → all ≡ a ∷ b ∷ more → ⊥) → mapped (λ f. f.0) all ≡ form.0 ∷ []
alone form [] all e one = ap (mapped (λ f. f.0)) e
alone form (b ∷ more) all e one = absurd (one form b more e)

-- ## The body that is made of the parts
abbrev pub assign_form : Form
assign_form = (codes "assign", codes "assign" ∷ codes "next" ∷ [])

abbrev pub call_form : Form
call_form = (codes "call", codes "args" ∷ codes "call" ∷ codes "next" ∷ codes "result" ∷ [])

abbrev pub for_form : Form
for_form = (codes "for", codes "for" ∷ codes "next" ∷ [])

abbrev pub parallel_form : Form
parallel_form = (codes "parallel", codes "next" ∷ codes "parallel" ∷ [])

abbrev pub raise_form : Form
raise_form = (codes "raise", codes "raise" ∷ [])

abbrev pub return_form : Form
return_form = (codes "return", codes "return" ∷ [])

abbrev pub steps_form : Form
steps_form = (codes "steps", codes "next" ∷ codes "steps" ∷ [])

abbrev pub switch_form : Form
switch_form = (codes "switch", codes "next" ∷ codes "switch" ∷ [])

abbrev pub try_form : Form
try_form = (codes "try", codes "except" ∷ codes "next" ∷ codes "retry" ∷ codes "try" ∷ [])

abbrev pub after_steps : List Form
after_steps = switch_form ∷ try_form ∷ []

abbrev pub after_parallel : List Form
after_parallel = raise_form ∷ return_form ∷ steps_form ∷ after_steps
