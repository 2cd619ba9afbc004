use Rattle.std.proofs.Common.{◌≡◌, ◌+◌, [], ◌∷◌, ◌++◌, ap, sym, ◌∙◌, arith, get_or, List, drop, append_assoc}
use Rattle.mr_types.specs.declared.kind.Kind.{Kind}
use Rattle.mr_types.specs.declared.value.Value.{Value}
use Rattle.mr_types.specs.declared.definition.ColumnDef.{ColumnDef}
use Rattle.mr_types.specs.FieldValues.{field_value}
use Rattle.mr_rowval.specs.KeyParts.{found}
use Rattle.mr_rowval.specs.Decoded.{held_in}
use Rattle.mr_rowval.proofs.FieldWalk.{its_kind}
use Rattle.mr_entry.specs.Entry.{fields_held}
use Rattle.mr_entry.proofs.Copying.{held_step}
use Rattle.mr_entry.proofs.rows.held_fields.Goals as goal

pub loop-place-preserved : goal.loop-place-preserved
loop-place-preserved c =
    let columns = c.args.columns.now in
    let at = c.loop-place.place in
    let held = held_in columns c.args.places.now c.args.key.now c.args.unpack.now in
    let column : ColumnDef = get_or columns at c.index-columns-place.result in
    let kind = its_kind columns at column (omega arith) (ap (λ (d : ColumnDef). get_or columns at d) c.index-columns-place.is) in
    let value : c.in_ok-copied.field-0 ≡ found held at = c.in_ok-copied.ensures ∙ ap (λ (k : Kind). field_value k c.held_field-field.result) (sym kind) ∙ c.held_field-field.ensures held [] c.requires in
    let more = fields_held held (at + 1) (drop (at + 1) columns) in
    ap (λ (l : List Value). l ++ more) c.in_ok-push.ensures.ok ∙ append_assoc c.loop-place.fields (c.in_ok-copied.field-0 ∷ []) more
    ∙ ap (λ (v : Value). c.loop-place.fields ++ v ∷ more) value ∙ ap (λ (l : List Value). c.loop-place.fields ++ l) (sym (held_step held at columns column (omega arith))) ∙ c.loop-place.invariant
