use Rattle.std.proofs.Common.{◌≡◌, drop}
use Rattle.std.specs.List.{AllByRecursion}
use Rattle.mr_iter.specs.Versions.{version_cmp, IsInOrder, joined}
use Rattle.mr_iter.specs.Newest.{newest}
use Rattle.mr_run_get.proofs.newest.newest_of.Given as goal

abbrev pub invariant-seeking : goal.invariant-seeking
invariant-seeking l = AllByRecursion (IsInOrder (version_cmp l.direction)) l.blocks → newest l.number l.key (joined l.blocks) ≡ newest l.number l.key (joined (drop l.block-index l.blocks))
