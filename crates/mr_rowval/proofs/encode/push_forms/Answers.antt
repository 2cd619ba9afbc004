use Rattle.std.proofs.Common.{sym, subst, Option}
use Rattle.std.specs.Prelude.{slice_get, slice_index}
use Rattle.std.specs.Option.{option_copied}
use Rattle.mr_types.specs.declared.definition.ColumnDef.{ColumnDef}
use Rattle.mr_types.specs.declared.value.Value.{Value}
use Rattle.mr_rowval.specs.Encoding.{TakesPart}
use Rattle.mr_rowval.proofs.Written.{part_taken}
use Rattle.mr_rowval.proofs.encode.push_forms.Goals as goal

pub push_form-requires : goal.push_form-requires
push_form-requires c =
    let columns = c.args.columns.now in
    let values = c.args.values.now in
    let p = slice_index c.args.places.now c.loop-place.place-index in
    subst (λ (o : Option ColumnDef). TakesPart o (option_copied c.at-in-loop-place.result)) (sym c.at.ensures)
    (subst (λ (o : Option Value). TakesPart (slice_get columns p) o) (sym c.at-in-loop-place.ensures) (part_taken columns values p c.requires))
