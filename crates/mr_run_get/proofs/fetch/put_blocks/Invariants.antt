use Rattle.std.proofs.Common.{◌≡◌, ◌≢◌, ℕ, List}
use Rattle.std.specs.Map.{keys_of}
use Rattle.mr_block_cache.specs.Cache.{with_spans, AgreesWith}
use Rattle.mr_run_get.specs.Get.{between, spans_of, AreRead}
use Rattle.mr_run_get.proofs.fetch.put_blocks.Given as goal

abbrev pub invariant-putting : goal.invariant-putting
invariant-putting l = record {
  order : keys_of l.cache ≡ with_spans (spans_of l.run (between l.first l.i l.run.index.blocks)) (keys_of l.fn.cache);
  agrees : (bytes : List ℕ) → AreRead bytes (between l.first l.behind l.run.index.blocks) l.blocks → AgreesWith l.run.file bytes l.fn.cache → AgreesWith l.run.file bytes l.cache;
  others : (file : ℕ) (bytes : List ℕ) → file ≢ l.run.file → AgreesWith file bytes l.fn.cache → AgreesWith file bytes l.cache;
}
