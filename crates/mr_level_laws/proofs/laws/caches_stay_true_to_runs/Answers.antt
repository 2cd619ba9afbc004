use Rattle.std.proofs.Common.{◌≢◌}
use Rattle.mr_run_open.specs.Runs.{RunState}
use Rattle.mr_block_cache.specs.Cache.{AgreesWith}
use Rattle.mr_level_laws.proofs.Adding.{each_with}
use Rattle.mr_level_laws.proofs.laws.caches_stay_true_to_runs.Goals as goal

pub returns-clause-held : goal.returns-clause-held
returns-clause-held c = λ s image cached level r all here. each_with (λ (t : RunState). AgreesWith t.file (image t.file) cached) r here level s all

pub returns-clause-others : goal.returns-clause-others
returns-clause-others c = λ s file level r all here. each_with (λ (t : RunState). file ≢ t.file) r here level s all
