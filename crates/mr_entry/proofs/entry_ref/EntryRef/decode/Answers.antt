use Rattle.std.proofs.Common.{◌+◌, arith, length, Err}
use Rattle.mr_entry.proofs.Copying.{key_args}
use Rattle.mr_entry.proofs.HeldEntries.{key_offends}
use Rattle.mr_entry.proofs.entry_ref.EntryRef.decode.Goals as goal

pub returns-in-Err : goal.returns-in-Err
returns-in-Err c =
    let def = c.args.def.now in
    let read = key_args def c.is_hidden.result c.as_slice.result.now c.args.places.now c.args.key.now (Err c.in-Err.left) c.is_hidden.ensures c.as_slice.ensures c.in-Err.ensures.0 in
    (c.in-Err.left + length c.args.value.now, key_offends def c.args.places.now c.args.key.now c.args.value.now c.in-Err.left read, omega (arith, c.in-Err.ensures.1))
