use Rattle.std.proofs.Common.{◌≡◌, [], Bool, refl, sym, ap, subst, ◌∙◌, arith, get_or}
use Rattle.mr_types.specs.declared.value.Value.TheVariants.{Null}
use Rattle.mr_types.specs.declared.definition.ColumnDef.{ColumnDef}
use Rattle.mr_rowval.specs.KeyParts.{behind, found}
use Rattle.mr_rowval.specs.RowValue.{field_read, fields_read}
use Rattle.mr_rowval.proofs.FieldWalk.{UpTo, walk_on, walk_stops, and_none}
use Rattle.mr_rowval.proofs.fields.read_to.Goals as goal

pub loop-at-init : goal.loop-at-init
loop-at-init c = (omega arith, λ held flags after e. ([], flags, refl, e, and_none (fields_read c.args.places.now held 0 c.args.columns.now flags c.args.bytes.now)))

pub returns-in-Err-clause-reads : goal.returns-in-Err-clause-reads
returns-in-Err-clause-reads c = λ held flags after e.
    let columns = c.args.columns.now in
    let at = c.loop-at.at in
    let column : ColumnDef = get_or columns at c.index-columns-at.result in
    let is_null = c.column_flag-is_null.result.0 in
    let fact = c.in-Err.ensures (found held at) in
    walk_stops columns c.args.places.now at flags c.args.bytes.now held after c.loop-at.bits c.column_flag-is_null.result.1 c.loop-at.rest.now c.in-Err.left column is_null (omega arith) (ap (λ (d : ColumnDef). get_or columns at d) c.index-columns-at.is) (c.loop-at.invariant.1 held flags after e) c.column_flag-is_null.ensures
    (ap (λ (b : Bool). behind (field_read b is_null (found held at) column.ty.kind c.loop-at.rest.now)) (sym c.is_in.ensures) ∙ fact.0)

pub returns-in-Err-clause-within : goal.returns-in-Err-clause-within
returns-in-Err-clause-within c = let fact = c.in-Err.ensures Null in omega (arith, fact.1, c.loop-at.invariant.0)

pub loop-at-preserved : goal.loop-at-preserved
loop-at-preserved c =
    let columns = c.args.columns.now in
    let at = c.loop-at.at in
    let column : ColumnDef = get_or columns at c.index-columns-at.result in
    let is_null = c.column_flag-is_null.result.0 in
    let short = c.in-Ok.ensures Null in (
      omega (arith, short.1, c.loop-at.invariant.0),
      λ held flags after e.
          let fact = c.in-Ok.ensures (found held at) in
          walk_on columns c.args.places.now at flags c.args.bytes.now held after c.loop-at.bits c.column_flag-is_null.result.1 c.loop-at.rest.now c.in-Ok.behind.now column is_null (omega arith) (ap (λ (d : ColumnDef). get_or columns at d) c.index-columns-at.is) (c.loop-at.invariant.1 held flags after e) c.column_flag-is_null.ensures
          (ap (λ (b : Bool). behind (field_read b is_null (found held at) column.ty.kind c.loop-at.rest.now)) (sym c.is_in.ensures) ∙ fact.0),
    )

pub returns-clause-reads : goal.returns-clause-reads
returns-clause-reads c = λ held flags after e.
    let last : c.loop-at.at ≡ c.args.end = omega arith in
    subst (λ at. UpTo c.args.columns.now c.args.places.now at flags c.args.bytes.now held after c.loop-at.bits c.loop-at.rest.now) last (c.loop-at.invariant.1 held flags after e)
