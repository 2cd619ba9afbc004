use Rattle.std.proofs.Common.{◌≡◌, ◌+◌, drop}
use Rattle.std.specs.List.{prefix_len}
use Rattle.std.specs.Ordering.{is_gt}
use Rattle.mr_levels.specs.Levels.{newer_first}
use Rattle.mr_levels.proofs.opening.count_newer.Given as goal

abbrev pub invariant-counting : goal.invariant-counting
invariant-counting l = prefix_len (λ r. is_gt (newer_first l.run r)) l.runs ≡ l.i + prefix_len (λ r. is_gt (newer_first l.run r)) (drop l.i l.runs)
