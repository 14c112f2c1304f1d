use Rattle.std.proofs.Common.{◌≡◌, drop}
use Rattle.wf_syntax_words.specs.Fields.{forms}
use Rattle.wf_syntax_words.proofs.Pairs.{first_row}
use Rattle.wf_syntax_words.proofs.fields.fields_of_first.Given as goal
use Rattle.wf_syntax_words.specs.Fields.{first_fields}
use Rattle.wf_tree.specs.Trees.{pairs_of}

-- the forms so far aren't there
abbrev pub invariant-loop-form : goal.invariant-loop-form
invariant-loop-form l = first_fields forms (pairs_of l.fields) ≡ first_row (pairs_of l.fields) (drop l.form-index l.form-items)
