use Rattle.std.proofs.Common.{ap, ◌∙◌, map, string_bytes, codes}
use Rattle.clap.specs.Words.{App, first_of, found_of, is_simple, matches_of, takes}
use Rattle.clap.proofs.WalkLemmas.{first_value-rows}
use Rattle.mr_moments.proofs.Taken.{found_in, simple_app}
use Rattle.mr_moments.proofs.command.read_option.Goals as goal

pub returns-in-Ok-clause-now : goal.returns-in-Ok-clause-now
returns-in-Ok-clause-now c =
    c.get_str.ensures ∙ first_value-rows (found_of c.in-Ok.matches) (codes "now")
    ∙ ap (first_of (codes "now")) ((c.in-Ok.ensures.matches (ap is_simple c.in_ok-command.ensures ∙ simple_app)).0 ∙ ap (λ (a : App). matches_of a (map string_bytes c.args.words.now)) c.in_ok-command.ensures)
    ∙ (found_in (map string_bytes c.args.words.now) c.requires).now

pub returns-in-Ok-clause-clock : goal.returns-in-Ok-clause-clock
returns-in-Ok-clause-clock c =
    c.get_str-in-Ok.ensures ∙ first_value-rows (found_of c.in-Ok.matches) (codes "clock")
    ∙ ap (first_of (codes "clock")) ((c.in-Ok.ensures.matches (ap is_simple c.in_ok-command.ensures ∙ simple_app)).0 ∙ ap (λ (a : App). matches_of a (map string_bytes c.args.words.now)) c.in_ok-command.ensures)
    ∙ (found_in (map string_bytes c.args.words.now) c.requires).clock

pub returns-in-Err-clause-memory : goal.returns-in-Err-clause-memory
returns-in-Err-clause-memory c =
    c.in-Err.ensures.passes (ap (λ (a : App). takes a (map string_bytes c.args.words.now)) c.in_ok-command.ensures ∙ (found_in (map string_bytes c.args.words.now) c.requires).taken)
