use Rattle.mr_iter.specs.Versions.{joined}
use Rattle.mr_iter.specs.MergeFiles.{each_split}
use Rattle.mr_levels.specs.Levels.{IsLive}
use Rattle.mr_level_laws.proofs.Adding.{each_with}
use Rattle.mr_level_laws.proofs.Apart.{stays_apart}
use Rattle.mr_level_laws.proofs.laws.whole_levels_stay_whole.Goals as goal

pub returns-clause-live : goal.returns-clause-live
returns-clause-live c = λ s image level r live here. each_with (IsLive image) r here level s live

pub returns-clause-whole : goal.returns-clause-whole
returns-clause-whole c = λ s image level r kept whole same here beside. record {
  live = each_with (IsLive image) r here level s whole.live;
  apart = stays_apart level r s image kept (each_split (IsLive image) s.newest (joined s.deeper) whole.live).1 whole.apart same here beside;
}
