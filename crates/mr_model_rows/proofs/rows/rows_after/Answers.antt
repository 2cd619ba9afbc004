use Rattle.mr_model_rows.proofs.Ascent.{ok_then, put_ascends, without_ascends}
use Rattle.mr_model_rows.proofs.rows.rows_after.Goals as goal

pub returns-in-Insert-clause-rising : goal.returns-in-Insert-clause-rising
returns-in-Insert-clause-rising c = ok_then c.put.result _ _ (λ all e. put_ascends c.args.def.now c.in-Insert.new c.args.rows all c.requires.rising e) c.put.ensures

pub returns-in-Update-clause-rising : goal.returns-in-Update-clause-rising
returns-in-Update-clause-rising c = ok_then c.put-in-Update.result _ _ (λ all e. put_ascends c.args.def.now c.in-Update.new c.without.result all (without_ascends c.args.def.now c.in-Update.old c.args.rows c.without.result c.requires.rising c.without.ensures) e) c.put-in-Update.ensures
