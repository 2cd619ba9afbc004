use Rattle.std.specs.Prelude.{◌≡◌, true}
use Rattle.mr_run_open.specs.Runs.{RunState, are_in_order}
use Rattle.mr_levels.specs.Levels.{runs}
use Rattle.mr_levels.proofs.Looking.{live_gapless}
use Rattle.mr_levels.proofs.Filing.{live_sorted, live_sound}
use Rattle.mr_levels.proofs.Skipping.{each_looked}
use Rattle.mr_levels.proofs.laws.whole_levels_are_sorted.Goals as goal

pub returns-clause-sorted : goal.returns-clause-sorted
returns-clause-sorted c = λ s image is. live_sorted (runs s) image is.live

pub returns-clause-looked : goal.returns-clause-looked
returns-clause-looked c = λ s image key is. each_looked (λ (r : RunState). are_in_order r.direction r.index.blocks ≡ true) s.direction key s.newest s.deeper (live_sorted (runs s) image is.live)

pub returns-clause-gapless : goal.returns-clause-gapless
returns-clause-gapless c = λ s image is. live_gapless image (runs s) is.live

pub returns-clause-sound : goal.returns-clause-sound
returns-clause-sound c = λ s image file at is any. live_sound (runs s) image file at is.live any
