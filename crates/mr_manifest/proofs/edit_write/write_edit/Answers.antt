use Rattle.std.proofs.Common.{◌∷◌, [], ap}
use Rattle.mr_manifest.specs.Edits.{edit_bytes}
use Rattle.mr_manifest.proofs.WritingLaws.{one_front, two_fronts}
use Rattle.mr_manifest.proofs.edit_write.write_edit.Goals as goal

pub returns-in_ok-write_u32-in-RunAdded : goal.returns-in_ok-write_u32-in-RunAdded
returns-in_ok-write_u32-in-RunAdded c =
    two_fronts c.write_sizes.result c.args.out.now.items c.write_bytes.new.out.items c.write_u32.new.out.items c.write_sizes.new.out.items (1 ∷ []) _ _ _ c.in_ok-write_bytes-in-RunAdded.ensures c.in_ok-write_u32-in-RunAdded.ensures c.write_sizes.ensures (ap edit_bytes c.in-RunAdded.is)

pub returns-in_ok-write_bytes-in-BinlogPlace : goal.returns-in_ok-write_bytes-in-BinlogPlace
returns-in_ok-write_bytes-in-BinlogPlace c =
    one_front c.write_pair.result c.args.out.now.items c.write_bytes-in-BinlogPlace.new.out.items c.write_pair.new.out.items (4 ∷ []) _ _ c.in_ok-write_bytes-in-BinlogPlace.ensures c.write_pair.ensures (ap edit_bytes c.in-BinlogPlace.is)
