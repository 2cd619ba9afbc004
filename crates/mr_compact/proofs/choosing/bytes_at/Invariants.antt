use Rattle.std.proofs.Common.{◌≡◌, ◌+◌, ◌*◌, ◌^◌, ◌≤◌, drop}
use Rattle.mr_compact.specs.Levels.{bytes_at}
use Rattle.mr_compact.proofs.choosing.bytes_at.Given as goal

abbrev pub invariant-adding : goal.invariant-adding
invariant-adding l = record { sum : bytes_at l.level l.spans ≡ l.sum + bytes_at l.level (drop l.span-index l.spans); within : l.sum ≤ 2 ^ 64 * l.span-index }
