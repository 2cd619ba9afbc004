use Rattle.std.proofs.Common.{◌≡◌, ◌≤◌, ◌-◌, ◌*◌}
use Rattle.mr_compact_bench.proofs.fill.Given as goal

abbrev pub invariant-loop-i : goal.invariant-loop-i
invariant-loop-i l = record {
  entries : l.count - l.i ≤ l.table.entries;
  bytes : 16 * (l.count - l.i) ≤ l.table.bytes;
  direction : l.table.direction ≡ l.fn.table.direction;
}
