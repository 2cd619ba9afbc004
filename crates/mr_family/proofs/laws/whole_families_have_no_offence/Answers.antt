use Rattle.mr_levels.specs.Levels.{IsLive}
use Rattle.mr_levels.specs.Looks.{looked}
use Rattle.mr_levels.proofs.Skipping.{each_looked}
use Rattle.mr_family.proofs.Sound.{all_sound}
use Rattle.mr_family.proofs.laws.whole_families_have_no_offence.Goals as goal

pub returns : goal.returns
returns c = λ f image key file at whole any. all_sound key (looked key f.levels) image file at (each_looked (IsLive image) f.levels.direction key f.levels.newest f.levels.deeper whole.live) any
