-- The key at the start of a pair.
use Rattle.std.specs.Prelude.{ℕ, List, Bool, false, cond, ◌&&◌, ◌==◌, Option, Some, None, Result, Ok}
use Rattle.std.specs.Str.{encode_utf8_all}
use Rattle.wf_yaml_line.specs.Marks.{starts, colon, is_quote, behind_first, skip_blanks, trimmed, ends_with_colon, ends_word, around_colon}
use Rattle.wf_yaml_line.specs.Fault.{Fault, refuse}
use Rattle.wf_yaml_line.specs.declared.fault.Kind.{Kind}
use Rattle.wf_yaml_line.specs.declared.fault.Kind.TheVariants as kinds
use Rattle.wf_yaml_line.specs.Scalars.{may_start_plain}
use Rattle.wf_yaml_line.specs.Quoted.{Quoted, quoted}

-- a pair's key, the fault that it has by itself, if any, and what stands behind its `:`
pub record Key : Type 0 where
  pub text : List ℕ
  pub fault : Option Kind
  pub rest : List ℕ

-- the fault of a quoted key: one of its escapes isn't good
abbrev pub quoted_fault : Bool → Option Kind
quoted_fault good = cond good None (Some kinds.Quote)

-- that of a plain key: no plain scalar ends with a `:`
abbrev pub plain_fault : List ℕ → Option Kind
plain_fault s = cond (ends_with_colon s) (Some kinds.Unsupported) None

-- the refusal of a key in line n, for its own fault
abbrev pub own_fault : ℕ → Option Kind → Result (Unit {0}) Fault
own_fault n (Some kind) = refuse n kind
own_fault n None = Ok tt

-- what stands behind a `:` that a blank or the end follows
abbrev pub behind_colon : List ℕ → Option (List ℕ)
behind_colon r = cond (starts (λ b. b == colon) r && ends_word (behind_first r)) (Some (behind_first r)) None

-- the key in quotes, and what stands behind its `:`
abbrev pub key_with : Quoted → Option (List ℕ) → Option Key
key_with q (Some r) = Some (record { text = encode_utf8_all q.chars; fault = quoted_fault q.good; rest = r })
key_with q None = None

-- Behind a closing quote blanks may stand before the `:`.
abbrev pub quoted_key : Quoted → Option (List ℕ) → Option Key
quoted_key q (Some r) = key_with q (behind_colon (skip_blanks r))
quoted_key q None = None

-- Blanks before the `:` are no part of a plain key.
abbrev pub plain_key : Option (List ℕ × List ℕ) → Option Key
plain_key (Some p) = Some (record { text = encode_utf8_all (trimmed p.0); fault = plain_fault (trimmed p.0); rest = p.1 })
plain_key None = None

-- A pair is `key:` at the line's end or `key: value`.
abbrev pub key_of : List ℕ → Option Key
key_of s = cond (starts is_quote s) (quoted_key (quoted s) (quoted s).rest) (cond (may_start_plain s) (plain_key (around_colon false s)) None)
