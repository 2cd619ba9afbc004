use Rattle.std.proofs.Common.{◌≡◌, ◌∙◌, ap, sym, subst, Option, IfSome, unwrap_or}
use Rattle.mr_types.specs.declared.row.Row.{Row}
use Rattle.mr_types.specs.declared.value.Value.{Value}
use Rattle.mr_types.specs.declared.value.Value.TheVariants.{Null}
use Rattle.mr_types.specs.FieldValues.{field_value}
use Rattle.mr_spec.specs.Rows.{kind_at, value_at}
use Rattle.mr_exec.proofs.Standing.{held-at}
use Rattle.mr_exec.proofs.list_rows.ListRowsFields.field.Goals as goal

pub returns-in-Some : goal.returns-in-Some
returns-in-Some c =
    let def = c.args.self.now.def.now in
    let kind = kind_at def c.args.column in
    subst (λ (o : Option Row). IfSome o (λ r. field_value kind c.as_field.result ≡ value_at r c.args.column)) (sym c.current.ensures)
    (c.as_field.ensures.value kind (held-at def c.args.self.now.rows.now c.args.self.now.at c.args.self.now.stands c.current.result.now c.args.column c.in-Some.value.now c.args.self.now.held c.current.ensures (sym c.in-Some.ensures.value))
    ∙ ap (λ (o : Option Value). unwrap_or o Null) c.in-Some.ensures.value)
