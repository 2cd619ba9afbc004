use Rattle.std.proofs.Common.{ap, ◌∙◌}
use Rattle.mr_types.specs.Refusals.{refuse_where}
use Rattle.mr_model_rows.proofs.Named.{known_by}
use Rattle.mr_model_rows.proofs.naming.known_columns.Goals as goal

pub returns-then-names_unknown : goal.returns-then-names_unknown
returns-then-names_unknown c = rw c.in-Some.is (known_by c.args.def.now _ _ c.names_unknown.ensures ∙ ap (refuse_where 1054) c.if-names_unknown.true)

pub returns-else-names_unknown : goal.returns-else-names_unknown
returns-else-names_unknown c = rw c.in-Some.is (known_by c.args.def.now _ _ c.names_unknown.ensures ∙ ap (refuse_where 1054) c.if-names_unknown.false)
