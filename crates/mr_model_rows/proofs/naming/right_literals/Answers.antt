use Rattle.std.proofs.Common.{ap, ◌∙◌}
use Rattle.mr_types.specs.Refusals.{refuse_where}
use Rattle.mr_model_rows.proofs.Named.{right_by}
use Rattle.mr_model_rows.proofs.naming.right_literals.Goals as goal

pub returns-then-branch : goal.returns-then-branch
returns-then-branch c = rw c.in-Some.is (right_by c.args.def.now _ _ c.in_ok-names_wrong-in-Some.ensures ∙ ap (refuse_where 1366) c.if-branch.true)

pub returns-else-branch : goal.returns-else-branch
returns-else-branch c = rw c.in-Some.is (right_by c.args.def.now _ _ c.in_ok-names_wrong-in-Some.ensures ∙ ap (refuse_where 1366) c.if-branch.false)
