-- The command line as `clap` has it.
use Rattle.std.specs.Prelude.{true, codes, Some}
use Rattle.clap.specs.Words.{App, Rule, new_app, new_rule, with_rule}
use Rattle.clap.specs.declared.builder.ArgAction.TheVariants.{Set}

abbrev pub now_rule : Rule
now_rule = record (new_rule (codes "now")) { long = Some (codes "now"); action = Some Set }

abbrev pub clock_rule : Rule
clock_rule = record (new_rule (codes "clock")) { long = Some (codes "clock"); action = Some Set }

abbrev pub plain_app : App
plain_app = record (new_app (codes "mr_reference")) { top = record (new_app (codes "mr_reference")).top { disable_help_flag = true; no_binary_name = true } }

abbrev pub app : App
app = with_rule (with_rule plain_app now_rule) clock_rule
