use Rattle.std.proofs.Common.{append_assoc, refl}
use Rattle.std.proofs.lemmas.List.{take_rest}
use Rattle.std.proofs.lemmas.Result.{IfOk-equal}
use Rattle.mr_types.specs.declared.value.Value.{Value}
use Rattle.mr_print.proofs.Fields.{fields_of}
use Rattle.mr_print.proofs.replies.write_fields.Goals as goal

pub returns-in_ok-write_field-in-len1-up : goal.returns-in_ok-write_field-in-len1-up
returns-in_ok-write_field-in-len1-up c = IfOk-equal c.write_further.result _ _ _ c.write_further.ensures
    (rw (c.in_ok-write_field-in-len1-up.ensures, fields_of c.args.values.now c.first-item.result c.in-len1-up.len_at_least, take_rest {X = Value} c.args.values.now 1, ← c.first-item.is, append_assoc) refl)
