use Rattle.std.proofs.Common.{◌≡◌, ◌∙◌, ap}
use Rattle.mr_types.specs.FieldValues.{field_value}
use Rattle.mr_types.specs.Values.{is_null}
use Rattle.mr_spec.specs.Rows.{kind_at, value_at}
use Rattle.mr_spec.specs.Truth.{truth_of_test}
use Rattle.mr_expr.proofs.Tests.{if_some}
use Rattle.mr_expr.proofs.truth.is_null_at.Goals as goal

pub returns : goal.returns
returns g c =
    if_some (g.F.Fields.current c.args.fields.now)
    (λ r. field_value (kind_at (g.F.Fields.def c.args.fields.now) c.args.column) c.field.result ≡ value_at r c.args.column)
    (λ r. c.truth_of_test.result ≡ truth_of_test (is_null (value_at r c.args.column)))
    (λ r is. c.truth_of_test.ensures ∙ ap truth_of_test (c.is_null.ensures (kind_at (g.F.Fields.def c.args.fields.now) c.args.column)) ∙ ap (λ v. truth_of_test (is_null v)) is)
    c.field.ensures
