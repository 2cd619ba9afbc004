use Rattle.mr_engine_log.specs.Logged.{after_verdict}
use Rattle.mr_store_memory.proofs.Holding.{held_versions}
use Rattle.mr_kv.proofs.laws.what_files_say_is_one.Goals as goal

pub returns-clause-versions : goal.returns-clause-versions
returns-clause-versions c = λ kv image f below holds. held_versions (λ d v vs more. c.place_in_first_child.ensures d v vs more) kv.families image kv.manifest.live.runs (after_verdict kv.log.verdict holds.logged).batches holds.held f below
