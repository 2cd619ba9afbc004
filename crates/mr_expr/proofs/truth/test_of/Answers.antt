use Rattle.std.proofs.Common.{◌≡◌, ◌∙◌, ap}
use Rattle.mr_types.specs.FieldValues.{field_value}
use Rattle.mr_spec.specs.Rows.{kind_at, value_at}
use Rattle.mr_spec.specs.Truth.{compared}
use Rattle.mr_spec.specs.Binding.{test_at}
use Rattle.mr_expr.proofs.Tests.{if_some}
use Rattle.mr_expr.proofs.truth.test_of.Goals as goal

pub returns : goal.returns
returns g c =
    if_some (g.F.Fields.current c.args.fields.now)
    (λ r. field_value (kind_at (g.F.Fields.def c.args.fields.now) c.args.column) c.field.result ≡ value_at r c.args.column)
    (λ r. c.compared.result ≡ test_at (g.F.Fields.def c.args.fields.now) r c.args.column c.args.cmp c.args.literal.now)
    (λ r is. c.compared.ensures ∙ ap (λ k. compared k (field_value k c.field.result) c.args.cmp c.args.literal.now) c.kind.ensures ∙ ap (λ v. compared (kind_at (g.F.Fields.def c.args.fields.now) c.args.column) v c.args.cmp c.args.literal.now) is)
    c.field.ensures
