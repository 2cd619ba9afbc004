-- The command line as `clap` has it: a folder alone.
use Rattle.std.specs.Prelude.{true, codes, Some}
use Rattle.clap.specs.Words.{App, Rule, new_app, new_rule, with_rule}
use Rattle.clap.specs.declared.builder.ArgAction.TheVariants.{Set}

abbrev pub folder_rule : Rule
folder_rule = record (new_rule (codes "folder")) { required = true; action = Some Set }

abbrev pub plain_app : App
plain_app = record (new_app (codes "run")) { top = record (new_app (codes "run")).top { disable_help_flag = true; no_binary_name = true } }

abbrev pub app : App
app = with_rule plain_app folder_rule
