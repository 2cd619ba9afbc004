use Rattle.std.proofs.Common.{◌≡◌, ◌-◌, length, map, Ok}
use Rattle.mr_run_get.specs.Get.{between, sizes, all_cut}
use Rattle.mr_run_get.proofs.cut.cut_blocks.Given as goal

abbrev pub invariant-cutting : goal.invariant-cutting
invariant-cutting l = (l.from ≡ sizes (between l.low l.i l.run.index.blocks)) × (all_cut l.bytes 0 (between l.low l.i l.run.index.blocks) ≡ map Ok l.blocks.items) × (length l.blocks.items ≡ l.i - l.low)
