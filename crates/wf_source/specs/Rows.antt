-- Worked examples: sources, each with what its bytes are.
use Rattle.std.specs.Prelude.{◌≡◌, ℕ, pos, List, [], ◌∷◌, None, Ok, Err, codes}
use Rattle.wf_ast.specs.Tree.{Program, Bin, Body, Lit, Whole, more, no_steps, step}
use Rattle.wf_ast.specs.declared.expr.Op.TheVariants.{Add}
use Rattle.wf_source.specs.Function.{source_of}
use Rattle.wf_status.specs.declared.Place.{Place}
use Rattle.wf_status.specs.declared.Place.TheVariants.{Line, Path, Source, Within}
use Rattle.wf_status.specs.declared.RefusalKind.{RefusalKind}
use Rattle.wf_status.specs.declared.RefusalKind.TheVariants.{BadUtf8, NotJson, NotYet, Syntax, Tab, UnknownName}
use Rattle.wf_value.specs.Data.{integer}
use Rattle.wf_value.specs.declared.path.PathPart.{PathPart}
use Rattle.wf_value.specs.declared.path.PathPart.TheVariants.{Key, Index}

-- the program whose one step, `a`, returns the sum of 1 and 1
abbrev pub returns_a_sum : Program
returns_a_sum =
    let sum = Body.Return (Whole (Bin Add (Lit (integer (pos 1))) (Lit (integer (pos 1))))) in
    record { flows = record { name = codes "main"; params = []; steps = more (step (codes "a") sum None) no_steps } ∷ [] }

-- the path of a field of the first step, `a`
abbrev pub in_step : List ℕ → List PathPart
in_step field = Key (codes "main") ∷ Key (codes "steps") ∷ Index 0 ∷ Key (codes "a") ∷ Key field ∷ []

-- the bytes are refused so
abbrev pub IsRefused : List ℕ → RefusalKind → Place → Type 0
IsRefused bytes k p = source_of bytes ≡ Err (record { kind = k; place = p })

pub record WorkedSources : Type 0 where
  pub yaml : source_of (codes "- a:\n    return: ${1 + 1}\n") ≡ Ok returns_a_sum
  pub json : source_of (codes "[{\"a\": {\"return\": \"${1 + 1}\"}}]") ≡ Ok returns_a_sum
  pub marked : source_of (0xEF ∷ 0xBB ∷ 0xBF ∷ codes "- a:\n    return: ${1 + 1}\n") ≡ Ok returns_a_sum
  pub no_text : IsRefused (0xFF ∷ []) BadUtf8 Source
  pub indented_by_a_tab : IsRefused (codes "\n\n\ta: 1") Tab (Line 3)
  pub flow_of_yaml : IsRefused (codes "{a: 1}") NotJson Source
  pub operand_is_missing : IsRefused (codes "- a:\n    return: ${1 +}\n") Syntax (Within (in_step (codes "return")) 3)
  pub name_of_no_variable : IsRefused (codes "- a:\n    return: ${x}\n") UnknownName (Path (in_step (codes "return")))
  pub form_to_come : IsRefused (codes "- a:\n    call: events.create_callback_endpoint\n    args:\n      http_callback_method: POST\n") NotYet (Path (in_step (codes "call")))
