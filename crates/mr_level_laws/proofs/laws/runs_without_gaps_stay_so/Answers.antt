use Rattle.mr_run_get.specs.Get.{IsGapless}
use Rattle.mr_level_laws.proofs.Adding.{each_with}
use Rattle.mr_level_laws.proofs.laws.runs_without_gaps_stay_so.Goals as goal

pub returns : goal.returns
returns c = λ s level r all here. each_with IsGapless r here level s all
