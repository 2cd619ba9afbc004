use Rattle.std.proofs.Common.{◌≡◌, ap, sym, ◌∙◌, arith, get_or, List}
use Rattle.mr_types.specs.declared.kind.Kind.{Kind}
use Rattle.mr_types.specs.declared.definition.ColumnDef.{ColumnDef}
use Rattle.mr_types.specs.FieldValues.{field_value}
use Rattle.mr_rowval.specs.Walking.{kind_at}
use Rattle.mr_rowval.proofs.FieldWalk.{its_kind}
use Rattle.mr_entry.proofs.Copying.{copy_step}
use Rattle.mr_entry.proofs.rows.fields_of.Goals as goal

pub loop-place-preserved : goal.loop-place-preserved
loop-place-preserved c =
    let columns = c.args.columns.now in
    let at = c.loop-place.place in
    let column : ColumnDef = get_or columns at c.index-columns-place.result in
    let kind = its_kind columns at column (omega arith) (ap (λ (d : ColumnDef). get_or columns at d) c.index-columns-place.is) in
    let its : kind_at c.args.row.now.def.columns at ≡ column.ty.kind = ap (λ (l : List ColumnDef). kind_at l at) (sym c.requires.same) ∙ kind in
    copy_step c.args.row.now.row.fields c.loop-place.fields c.push.new.self at c.in_ok-value.value (omega (arith, c.requires.size)) c.loop-place.invariant c.in_ok-push.ensures.ok
    (c.in_ok-value.ensures ∙ ap (λ (k : Kind). field_value k c.field_at.result) (sym its) ∙ c.field_at.ensures)
