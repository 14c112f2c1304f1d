-- The worked examples hold: each computes from its bytes.
use Rattle.std.proofs.Common.{refl}
use Rattle.std.specs.Str.{chars, is_utf8}
use Rattle.json.specs.Json.{value}
use Rattle.json.specs.Lex.{lex, punctuate}
use Rattle.json.specs.Text.{content}
use Rattle.json.specs.Word.{after_number, word}
use lib.Utf8.{encode}
use Rattle.wf_ast.specs.Accept.{fault, rules}
use Rattle.wf_ast.specs.Nodes.{nodes}
use Rattle.wf_expr.specs.Parser.{parse, parse_target}
use Rattle.wf_syntax_rules.specs.Built.{built}
use Rattle.wf_syntax_rules.specs.First.{fault_within}
use Rattle.wf_syntax_rules.specs.Made.{body_within}
use Rattle.wf_source.specs.Function.{source_of}
use Rattle.wf_source.specs.Rows.{WorkedSources}
use Rattle.wf_source.specs.Sources.{read_tree}
use Rattle.wf_span.specs.Lexer.{lex_within}
use Rattle.wf_expr.specs.Templates.{template_of}
use Rattle.wf_yaml.specs.Reading.{reading}

pub worked_sources : WorkedSources
unfolding source_of read_tree reading chars is_utf8 encode value lex punctuate content word after_number built fault_within body_within template_of parse parse_target lex_within nodes rules fault
worked_sources = record {
  yaml = refl;
  json = refl;
  marked = refl;
  no_text = refl;
  indented_by_a_tab = refl;
  flow_of_yaml = refl;
  operand_is_missing = refl;
  name_of_no_variable = refl;
  form_to_come = refl;
}
