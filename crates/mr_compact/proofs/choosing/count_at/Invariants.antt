use Rattle.std.proofs.Common.{◌≡◌, ◌+◌, ◌≤◌, drop}
use Rattle.mr_compact.specs.Levels.{count_at}
use Rattle.mr_compact.proofs.choosing.count_at.Given as goal

abbrev pub invariant-counting : goal.invariant-counting
invariant-counting l = record { sum : count_at l.level l.spans ≡ l.count + count_at l.level (drop l.span-index l.spans); within : l.count ≤ l.span-index }
