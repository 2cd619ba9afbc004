use Rattle.std.proofs.Common.{rules, ap₂, ◌≡◌, ◌∙◌}
use Rattle.std.proofs.lemmas.Result.{IfOk-weaker}
use Rattle.clap.specs.Words.{app_of, rule_of, with_rule}
use Rattle.mr_moments.specs.Command.{now_rule, clock_rule, plain_app}
use Rattle.mr_moments.proofs.command.command.Goals as goal

pub returns : goal.returns
returns c =
    let now_is : rule_of c.action-now.result ≡ now_rule = search rules in
    let clock_is : rule_of c.action-clock.result ≡ clock_rule = search rules in
    let plain_is : app_of c.no_binary_name.result ≡ plain_app = search rules in
    let first_is : app_of c.in_ok-arg.field-0 ≡ with_rule plain_app now_rule = c.in_ok-arg.ensures.shape (search rules) ∙ ap₂ with_rule plain_is now_is in
    IfOk-weaker c.arg-2.result _ _ (λ r h. h.shape (search rules) ∙ ap₂ with_rule first_is clock_is) c.arg-2.ensures
