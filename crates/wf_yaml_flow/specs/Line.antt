-- A scalar or a flow collection that stands on one line by itself.
use Rattle.std.specs.Prelude.{ℕ, List, Bool, false, cond, not, ◌&&◌, Option, Some, None, is_some, Result, Ok, Err}
use Rattle.std.specs.Str.{encode_utf8_all}
use Rattle.wf_tree.specs.Trees.{Tree, null, text}
use Rattle.wf_yaml_line.specs.Marks.{skip, starts, is_blank, is_quote, is_bracket, skip_blanks, trimmed, ends_line, before_comment, around_colon}
use Rattle.wf_yaml_line.specs.declared.fault.Fault.{Fault}
use Rattle.wf_yaml_line.specs.Fault.{both, kept, refuse, refuse_if}
use Rattle.wf_yaml_line.specs.declared.fault.Kind.TheVariants as kinds
use Rattle.wf_yaml_line.specs.Scalars.{plain_tree, may_start_plain}
use Rattle.wf_yaml_line.specs.Quoted.{Quoted, quoted}
use Rattle.wf_yaml_flow.specs.Flow.{Seen, goes, stops, flow, is_property, property_fault}

-- Behind the closing quote blanks and a comment may stand.
abbrev pub quoted_tree : ℕ → Quoted → Option (List ℕ) → Result Tree Fault
quoted_tree n q (Some r) = cond (q.good && ends_line r) (Ok (text (encode_utf8_all q.chars))) (refuse n kinds.Quote)
quoted_tree n q None = refuse n kinds.Quote

-- Behind the closing bracket blanks and a comment may stand.
abbrev pub flow_tree : ℕ → Seen Tree → Result Tree Fault
flow_tree n (goes r rest) = both kept r (refuse_if (not (ends_line rest)) n kinds.Flow)
flow_tree n (stops g) = Err g

-- A node that starts with an anchor, an alias or a tag. What is lower in its line may stand in a flow
-- collection behind.
abbrev pub marked_tree : ℕ → ℕ → List ℕ → Result Tree Fault
marked_tree n d s =
    let r = skip_blanks (skip (λ b. not (is_blank b)) s) in
    let inner = flow_tree n (flow n d r) in
    both (λ _ t. t) (property_fault n s) (cond (starts is_bracket r) inner (Ok null))

-- A plain scalar goes to the line's end or a comment, and holds no `: `.
abbrev pub plain_line : Bool → ℕ → List ℕ → Result Tree Fault
plain_line delay n s = both kept (plain_tree delay n (trimmed (before_comment false s))) (refuse_if (is_some (around_colon false (trimmed (before_comment false s)))) n kinds.Unsupported)

-- The tree of a text that begins with no blank and is the rest of line n, where a flow collection would
-- have depth d; the flag says that it is the value of a key that may have a decimal.
abbrev pub one_line : Bool → ℕ → ℕ → List ℕ → Result Tree Fault
one_line delay n d s =
    let marked = marked_tree n d s in
    let in_quotes = quoted_tree n (quoted s) (quoted s).rest in
    let in_brackets = flow_tree n (flow n d s) in
    let plain = plain_line delay n s in
    cond (starts is_property s) marked
    (cond (starts is_quote s) in_quotes
    (cond (starts is_bracket s) in_brackets
    (cond (may_start_plain s) plain (refuse n kinds.Unsupported))))
