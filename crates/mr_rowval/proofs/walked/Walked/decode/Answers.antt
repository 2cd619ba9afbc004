use Rattle.mr_types.specs.Rows.{is_hidden}
use Rattle.std.proofs.Common.{◌+◌, ◌∙◌, arith, length, Ok, Err}
use Rattle.mr_rowval.specs.RowValue.{value_read}
use Rattle.mr_rowval.proofs.Decoding.{key_args, key_offends, key_is_read, then_stamped, stamp_passes, stamp_offends}
use Rattle.mr_rowval.proofs.PartsAre.{its_key, its_hidden}
use Rattle.mr_rowval.proofs.walked.Walked.decode.Goals as goal

pub returns-in-Err : goal.returns-in-Err
returns-in-Err c =
    let def = c.args.def.now in
    let read = key_args def c.is_hidden.result c.as_slice-columns.result.now c.as_slice-places.result.now c.args.key.now (Err c.in-Err.left) c.is_hidden.ensures c.as_slice-columns.ensures c.as_slice-places.ensures c.in-Err.ensures.0 in
    (c.in-Err.left + length c.args.value.now, key_offends def c.args.key.now c.args.value.now c.in-Err.left read, omega (arith, c.in-Err.ensures.1))

pub returns-in-Err-row_at : goal.returns-in-Err-row_at
returns-in-Err-row_at c =
    let def = c.args.def.now in
    let value = c.args.value.now in
    let read = key_args def c.is_hidden.result c.as_slice-columns.result.now c.as_slice-places.result.now c.args.key.now (Ok (c.in-Ok.body.now, c.in-Ok.hidden)) c.is_hidden.ensures c.as_slice-columns.ensures c.as_slice-places.ensures c.in-Ok.ensures in
    (c.in-Err-row_at.left, key_is_read def c.args.key.now value c.in-Ok.body.now c.in-Ok.hidden read ∙ then_stamped def (length value) (value_read def c.in-Ok.body.now c.in-Ok.hidden value) (Err c.in-Err-row_at.left) c.in-Err-row_at.ensures.0, omega (arith, c.in-Err-row_at.ensures.1))

pub returns-then-has_its_stamp : goal.returns-then-has_its_stamp
returns-then-has_its_stamp c =
    let def = c.args.def.now in
    let value = c.args.value.now in
    let row = c.in-Ok-row_at.row.row in
    let read = key_args def c.is_hidden.result c.as_slice-columns.result.now c.as_slice-places.result.now c.args.key.now (Ok (c.in-Ok.body.now, c.in-Ok.hidden)) c.is_hidden.ensures c.as_slice-columns.ensures c.as_slice-places.ensures c.in-Ok.ensures in (
      key_is_read def c.args.key.now value c.in-Ok.body.now c.in-Ok.hidden read ∙ then_stamped def (length value) (value_read def c.in-Ok.body.now c.in-Ok.hidden value) (Ok row) c.in-Ok-row_at.ensures.0
          ∙ stamp_passes def c.in-Ok-row_at.row.def (length value) row c.has_its_stamp.result c.in-Ok-row_at.ensures.1 c.has_its_stamp.ensures c.if-has_its_stamp.true,
      c.in-Ok-row_at.ensures.1,
      its_key (is_hidden def) def.columns def.primary.columns c.args.key.now c.in-Ok.body.now c.in-Ok-row_at.row.body c.in-Ok.hidden row.hidden read c.in-Ok-row_at.ensures.2 (its_hidden def c.in-Ok.body.now c.in-Ok.hidden value row c.in-Ok-row_at.ensures.0),
      c.in-Ok-row_at.ensures.3,
    )

pub returns-else-has_its_stamp : goal.returns-else-has_its_stamp
returns-else-has_its_stamp c =
    let def = c.args.def.now in
    let value = c.args.value.now in
    let row = c.in-Ok-row_at.row.row in
    let read = key_args def c.is_hidden.result c.as_slice-columns.result.now c.as_slice-places.result.now c.args.key.now (Ok (c.in-Ok.body.now, c.in-Ok.hidden)) c.is_hidden.ensures c.as_slice-columns.ensures c.as_slice-places.ensures c.in-Ok.ensures in (
      length value,
      key_is_read def c.args.key.now value c.in-Ok.body.now c.in-Ok.hidden read ∙ then_stamped def (length value) (value_read def c.in-Ok.body.now c.in-Ok.hidden value) (Ok row) c.in-Ok-row_at.ensures.0
          ∙ stamp_offends def c.in-Ok-row_at.row.def (length value) row c.has_its_stamp.result c.in-Ok-row_at.ensures.1 c.has_its_stamp.ensures c.if-has_its_stamp.false,
      omega arith,
    )
