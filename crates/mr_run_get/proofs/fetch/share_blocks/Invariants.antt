use Rattle.std.proofs.Common.{◌≡◌, map, Some}
use Rattle.mr_block_cache.specs.Cache.{held}
use Rattle.mr_run_get.specs.Get.{between, spans_of}
use Rattle.mr_run_get.proofs.fetch.share_blocks.Given as goal

abbrev pub invariant-sharing : goal.invariant-sharing
invariant-sharing l = map (λ s. held s l.cache) (spans_of l.run (between l.first l.i l.run.index.blocks)) ≡ map Some l.blocks.items
