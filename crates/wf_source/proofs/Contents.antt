-- Bytes that are UTF-8, and bytes that aren't.
use Rattle.std.proofs.Common.{◌≡◌, ℕ, List, Bool, if◌then◌else◌, Result, Err, IsUtf8, sym, ap, ◌∙◌}
use Rattle.std.proofs.lemmas.Str.{is_utf8-from_IsUtf8}
use Rattle.std.specs.Str.{is_utf8}
use Rattle.wf_lemmas.proofs.Texts.{not_utf8}
use Rattle.wf_source.specs.Sources.{content_tree, text_tree, refused}
use Rattle.wf_status.specs.declared.Refusal.{Refusal}
use Rattle.wf_status.specs.declared.RefusalKind.TheVariants as kind
use Rattle.wf_tree.specs.Trees.{Tree}

abbrev if_text : List ℕ → Bool → Result Tree Refusal
if_text s b = if b then text_tree s else Err (refused kind.BadUtf8)

-- of UTF-8 it is the tree of the text
pub of_text : (s text : List ℕ) → text ≡ s → IsUtf8 s → content_tree s ≡ text_tree text
of_text s text same is = ap (if_text s) (is_utf8-from_IsUtf8 s is) ∙ ap text_tree (sym same)

pub bad : (s : List ℕ) → ¬ IsUtf8 s → content_tree s ≡ Err (refused kind.BadUtf8)
bad s never = ap (if_text s) (not_utf8 s never)
