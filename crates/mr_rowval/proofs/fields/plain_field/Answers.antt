use Rattle.std.proofs.Common.{ap, ◌∙◌, get_or}
use Rattle.mr_types.specs.declared.kind.Kind.{Kind}
use Rattle.mr_types.specs.declared.definition.ColumnDef.{ColumnDef}
use Rattle.mr_types.specs.FieldValues.{field_value}
use Rattle.mr_rowval.specs.KeyParts.{found}
use Rattle.mr_rowval.proofs.FieldWalk.{value_there, its_kind, null_there, plain_there, err_there}
use Rattle.mr_rowval.proofs.fields.plain_field.Goals as goal

pub returns-then-is_null : goal.returns-then-is_null
returns-then-is_null c = λ held flags after fields rest e read.
    let columns = c.args.columns.now in
    let at = c.args.place in
    let column : ColumnDef = get_or columns at c.index-columns-place.result in
    let there = value_there columns c.args.places.now at flags c.args.bytes.now held after c.in-Ok.bits c.column_flag-is_null.result.1 c.in-Ok.rest.now column c.column_flag-is_null.result.0 fields rest c.requires.within (ap (λ (d : ColumnDef). get_or columns at d) c.index-columns-place.is) (c.in-Ok.ensures.reads held flags after e) c.column_flag-is_null.ensures read c.requires.not_in in
    null_there (found held at) column.ty.kind c.in-Ok.rest.now there.0 c.column_flag-is_null.result.0 c.if-is_null.true there.1 ∙ there.2

pub returns-in-Err-plain_at : goal.returns-in-Err-plain_at
returns-in-Err-plain_at c = λ held flags after fields rest e read.
    let columns = c.args.columns.now in
    let at = c.args.place in
    let column : ColumnDef = get_or columns at c.index-columns-place.result in
    let there = value_there columns c.args.places.now at flags c.args.bytes.now held after c.in-Ok.bits c.column_flag-is_null.result.1 c.in-Ok.rest.now column c.column_flag-is_null.result.0 fields rest c.requires.within (ap (λ (d : ColumnDef). get_or columns at d) c.index-columns-place.is) (c.in-Ok.ensures.reads held flags after e) c.column_flag-is_null.ensures read c.requires.not_in in
    absurd (err_there (found held at) column.ty.kind c.in-Ok.rest.now c.in-Err-plain_at.field-0 there.0 c.column_flag-is_null.result.0 c.if-is_null.false there.1 c.in-Err-plain_at.ensures.0)

pub returns-in-Ok-plain_at : goal.returns-in-Ok-plain_at
returns-in-Ok-plain_at c = λ held flags after fields rest e read.
    let columns = c.args.columns.now in
    let at = c.args.place in
    let column : ColumnDef = get_or columns at c.index-columns-place.result in
    let is = ap (λ (d : ColumnDef). get_or columns at d) c.index-columns-place.is in
    let there = value_there columns c.args.places.now at flags c.args.bytes.now held after c.in-Ok.bits c.column_flag-is_null.result.1 c.in-Ok.rest.now column c.column_flag-is_null.result.0 fields rest c.requires.within is (c.in-Ok.ensures.reads held flags after e) c.column_flag-is_null.ensures read c.requires.not_in in
    ap (λ (k : Kind). field_value k c.in-Ok-plain_at.field) (its_kind columns at column c.requires.within is)
    ∙ plain_there (found held at) column.ty.kind c.in-Ok.rest.now (field_value column.ty.kind c.in-Ok-plain_at.field) c.in-Ok-plain_at.field-0-1.now there.0 c.column_flag-is_null.result.0 c.if-is_null.false there.1 c.in-Ok-plain_at.ensures.0 ∙ there.2
