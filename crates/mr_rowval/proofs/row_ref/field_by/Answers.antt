use Rattle.std.proofs.Common.{◌≡◌, ◌∙◌, sym, ap, get_or, arith}
use Rattle.mr_types.specs.declared.definition.ColumnDef.{ColumnDef}
use Rattle.mr_rowval.proofs.PartsAre.{held_lies, spot_lies}
use Rattle.mr_rowval.proofs.row_ref.field_by.Goals as goal

pub returns-then-is_in : goal.returns-then-is_in
returns-then-is_in c = held_lies c.args.def.now c.args.key.now c.args.value.now c.args.parts.now c.as_slice-columns.result.now c.as_slice-places.result.now c.behind-body.result.now c.behind-unpack.result.now c.args.place c.held_field.result c.requires c.as_slice-columns.ensures c.as_slice-places.ensures c.behind-body.ensures c.behind-unpack.ensures c.held_field.ensures (omega arith) (sym c.is_in.ensures ∙ c.if-is_in.true)

pub returns-else-is_in : goal.returns-else-is_in
returns-else-is_in c =
    let columns = c.as_slice-columns.result.now in
    let column : ColumnDef = get_or columns c.args.place c.index-columns-place.result in
    spot_lies c.args.def.now c.args.key.now c.args.value.now c.args.parts.now columns c.as_slice-places.result.now c.args.place column c.spot_field.result c.requires c.as_slice-columns.ensures c.as_slice-places.ensures (omega arith) (omega arith) (sym c.is_in.ensures ∙ c.if-is_in.false) (ap (λ (d : ColumnDef). get_or columns c.args.place d) c.index-columns-place.is) c.spot_field.ensures
