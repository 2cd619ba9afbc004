use Rattle.std.proofs.Common.{◌≡◌, drop}
use Rattle.mr_compact.specs.Passes.{ends_behind}
use Rattle.mr_compact.proofs.choosing.ends_behind.Given as goal

abbrev pub invariant-looking : goal.invariant-looking
invariant-looking l = ends_behind l.level l.key l.runs ≡ ends_behind l.level l.key (drop l.run-index l.runs)
