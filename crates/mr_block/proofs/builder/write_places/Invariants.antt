use Rattle.std.proofs.Common.{◌≡◌, ◌++◌, take}
use Rattle.mr_block.specs.Built.{placed}
use Rattle.mr_block.proofs.builder.write_places.Given as goal

abbrev pub invariant-placing : goal.invariant-placing
invariant-placing l = l.out.items ≡ l.fn.out.items ++ placed l.start (take l.offset-index l.offsets)
