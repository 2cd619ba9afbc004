use Rattle.std.proofs.Common.{◌≡◌, ◌∙◌, ap}
use Rattle.mr_types.specs.FieldValues.{field_value}
use Rattle.mr_spec.specs.Rows.{kind_at, value_at}
use Rattle.mr_spec.specs.Binding.{one_at}
use Rattle.mr_expr.specs.Among.{one_among}
use Rattle.mr_expr.proofs.Tests.{if_some, among_at}
use Rattle.mr_expr.proofs.truth.one_of.Goals as goal

pub returns : goal.returns
returns g c =
    if_some (g.F.Fields.current c.args.fields.now)
    (λ r. field_value (kind_at (g.F.Fields.def c.args.fields.now) c.args.column) c.field.result ≡ value_at r c.args.column)
    (λ r. c.among.result ≡ one_at (g.F.Fields.def c.args.fields.now) r c.args.column c.args.literals.now)
    (λ r is. c.among.ensures ∙ ap (λ k. one_among k (field_value k c.field.result) c.args.literals.now) c.kind.ensures ∙ ap (λ v. one_among (kind_at (g.F.Fields.def c.args.fields.now) c.args.column) v c.args.literals.now) is ∙ among_at (g.F.Fields.def c.args.fields.now) r c.args.column c.args.literals.now)
    c.field.ensures
