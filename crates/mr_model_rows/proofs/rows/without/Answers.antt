use Rattle.std.proofs.Common.{sym, subst}
use Rattle.mr_model_rows.specs.Searching.{IsAbsent}
use Rattle.mr_model_rows.proofs.Searching.{without_absent}
use Rattle.mr_model_rows.proofs.rows.without.Goals as goal

pub returns-in-Err : goal.returns-in-Err
returns-in-Err c = sym (without_absent c.args.def.now c.args.gone.now c.args.rows c.in-Err.field-0 c.requires.rising (subst (λ rows. IsAbsent c.args.def.now c.args.gone.now rows c.in-Err.field-0) c.as_slice.ensures c.in-Err.ensures))
