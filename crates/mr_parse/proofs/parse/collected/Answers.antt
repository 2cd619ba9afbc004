use Rattle.std.proofs.Common.{sym, ap, ◌∙◌}
use Rattle.mr_parse.proofs.parse.collected.Goals as goal

pub returns-in-Err : goal.returns-in-Err
returns-in-Err c = (c.in-Err.field-0.0, sym (ap (λ l. l.bad) c.loop-found.invariant) ∙ ap (λ l. l.bad) c.in-Err.ensures.0)
