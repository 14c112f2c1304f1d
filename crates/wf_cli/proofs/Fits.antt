-- A source's tree has decimals only where a layout keeps them.
use Rattle.std.proofs.Common.{◌≡◌, Bool, true, false, if◌then◌else◌, ℕ, List, length, nat_le, Option, None, Some, option_and_then, Result, Ok, Err, refl, ◌∙◌, ap}
use Rattle.std.specs.Str.{is_utf8}
use Rattle.serde_json.specs.Data as json
use Rattle.serde_json.specs.Read.{read}
use Rattle.wf_cli.proofs.Causes.{same_ok}
use Rattle.wf_format_laws.specs.Fit.{YamlTreesFit, JsonTreesFit}
use Rattle.wf_source.specs.Sources.{is_json, json_tree, of_json, of_yaml, text_tree, content_tree, without_mark, refused, read_tree}
use Rattle.wf_status.specs.declared.RefusalKind.TheVariants as kind
use Rattle.wf_tree.specs.Decode as decode
use Rattle.wf_tree.specs.Decode.{shallow}
use Rattle.wf_tree.specs.Json.{tree_of}
use Rattle.wf_tree.specs.JsonLaws.{FindsTheTree}
use Rattle.wf_tree.specs.Trees.{Tree}
use Rattle.wf_value.specs.declared.path.PathPart.{PathPart}
use Rattle.wf_yaml.specs.Reading.{reading}
use Rattle.wf_yaml_line.specs.declared.fault.Fault.{Fault}
use Rattle.wf_yaml_write.specs.Whole.{DecimalsFit}

-- what some JSON is a source's tree of
found : (p : Option (List PathPart)) (o : Option Tree) (t : Tree) → json_tree p o ≡ Ok t → o ≡ Some t
found (Some path) o t is = absurd (cc is)
found None (Some u) t is = ap Some (same_ok (json_tree None (Some u)) u t refl is)
found None None t is = absurd (cc is)

module _ (yaml_fits : YamlTreesFit) (json_fits : JsonTreesFit) (finds : FindsTheTree) where
  of_json_fits : (s : List ℕ) (t : Tree) (o : Option json.Data) → is_utf8 s ≡ true → read s ≡ o → of_json o ≡ Ok t → DecimalsFit false t
  of_json_fits s t None utf8 reads is = absurd (cc is)
  of_json_fits s t (Some j) utf8 reads is =
      let tells : decode.json_tree s ≡ Some t = ap (λ b. elim b [ false ↦ None | true ↦ shallow (option_and_then tree_of (read s)) ]) utf8 ∙ ap (λ o. shallow (option_and_then tree_of o)) reads ∙ found _ (shallow (tree_of j)) t is in
      json_fits s t ((finds s t).0 tells)

  of_yaml_fits : (s : List ℕ) (t : Tree) (r : Result Tree Fault) → reading s ≡ r → of_yaml r ≡ Ok t → DecimalsFit false t
  of_yaml_fits s t (Ok u) reads is = yaml_fits s t (reads ∙ ap Ok (same_ok (of_yaml (Ok u)) u t refl is))
  of_yaml_fits s t (Err f) reads is = absurd (cc is)

  text_fits : (s : List ℕ) (t : Tree) (b : Bool) → is_utf8 s ≡ true → (if b then of_json (read s) else of_yaml (reading s)) ≡ Ok t → DecimalsFit false t
  text_fits s t true utf8 is = of_json_fits s t _ utf8 refl is
  text_fits s t false utf8 is = of_yaml_fits s t _ refl is

  content_fits : (s : List ℕ) (t : Tree) (b : Bool) → is_utf8 s ≡ b → (if b then text_tree s else Err (refused kind.BadUtf8)) ≡ Ok t → DecimalsFit false t
  content_fits s t true utf8 is = text_fits s t (is_json s) utf8 is
  content_fits s t false utf8 is = absurd (cc is)

  source_fits : (bytes : List ℕ) (t : Tree) (b : Bool) → (if b then Err (refused kind.SourceTooLong) else content_tree (without_mark bytes)) ≡ Ok t → DecimalsFit false t
  source_fits bytes t true is = absurd (cc is)
  source_fits bytes t false is = content_fits (without_mark bytes) t _ refl is

  -- the tree of a source fits a layout
  pub read_fits : (bytes : List ℕ) (t : Tree) → read_tree bytes ≡ Ok t → DecimalsFit false t
  unfolding read_tree
  read_fits bytes t is = source_fits bytes t (nat_le 131073 (length bytes)) is
