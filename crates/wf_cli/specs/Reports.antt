-- What the program tells of trees, of executions and of itself.
use Rattle.std.specs.Prelude.{ℕ, List, Option, Some, None, Result, Ok, Err}
use Rattle.wf_engine.specs.Printed.{Reports}
use Rattle.wf_args.specs.Help.{help, version}
use Rattle.wf_report.specs.Texts.{logged, shown}
use Rattle.wf_source.specs.Sources.{read_tree}
use Rattle.wf_status.specs.declared.Refusal.{Refusal}
use Rattle.wf_tree.specs.Trees.{Tree}
use Rattle.wf_yaml_write.specs.Layout.{written}

-- the tree in one layout
abbrev pub layout_of : Result Tree Refusal → Option (List ℕ)
layout_of (Ok t) = Some (written t)
layout_of (Err r) = None

unfoldable pub the_reports : Reports
the_reports = record {
  formatted = λ bytes. layout_of (read_tree bytes);
  shown = shown;
  logged = λ grep c. logged grep c.log;
  help = help;
  version = version;
}
