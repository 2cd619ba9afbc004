use Rattle.std.proofs.Common.{◌≡◌, ◌+◌, ◌*◌, ◌-◌, ◌≤◌, length, drop}
use Rattle.mr_block.specs.Block.{entries_in, outcome}
use Rattle.mr_block.proofs.block.check_entries.Given as goal

abbrev pub invariant-checking : goal.invariant-checking
invariant-checking l = record {
  within : length l.rest ≤ length l.block;
  same : outcome (entries_in l.block l.count 4 (drop (4 + 4 * l.count) l.block)) ≡ outcome (entries_in l.block (l.count - l.i) (4 + 4 * l.i) l.rest);
}
