use Rattle.std.proofs.Common.{◌∙◌, ap, sym, List, length}
use Rattle.mr_types.specs.declared.definition.ColumnDef.{ColumnDef}
use Rattle.mr_types.specs.declared.value.Value.{Value}
use Rattle.mr_rowval.proofs.Written.{same_sizes}
use Rattle.mr_rowval.proofs.encode.value_of.Goals as goal

pub push_nulls-requires : goal.push_nulls-requires
push_nulls-requires c =
    ap (λ (l : List ColumnDef). length l) c.as_slice-columns.ensures ∙ same_sizes c.args.def.now.columns c.args.row.now.fields c.requires.fields ∙ sym (ap (λ (l : List Value). length l) c.as_slice-values.ensures)
