use Rattle.std.proofs.Common.{rules, sym, ◌∙◌}
use Rattle.mr_model_changes.proofs.Keys.{beside_there, beside_absent}
use Rattle.mr_model_changes.proofs.steps.is_key_taken_beside.Goals as goal

pub returns-in-Ok : goal.returns-in-Ok
returns-in-Ok c = c.is_other_visible.ensures ∙ sym (beside_there c.args.scene.now.def.now c.args.scene.now.moment c.args.old.now c.args.new.now c.args.rows.now c.in-Ok.at c.index-rows-at.result c.requires.rising c.in-Ok.ensures (search rules))

pub returns-in-Err : goal.returns-in-Err
returns-in-Err c = sym (beside_absent c.args.scene.now.def.now c.args.scene.now.moment c.args.old.now c.args.new.now c.args.rows.now c.in-Err.field-0 c.requires.rising c.in-Err.ensures)
