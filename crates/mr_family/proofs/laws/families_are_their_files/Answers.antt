use Rattle.mr_levels.specs.Levels.{runs}
use Rattle.mr_family.proofs.Wholes.{versions_by, whole_by, held_by}
use Rattle.mr_family.proofs.laws.families_are_their_files.Goals as goal

pub returns-clause-versions : goal.returns-clause-versions
returns-clause-versions c = λ f i j same. versions_by f i j same

pub returns-clause-whole : goal.returns-clause-whole
returns-clause-whole c = λ f i j same is. whole_by f i j same is

pub returns-clause-held : goal.returns-clause-held
returns-clause-held c = λ f i j same is. held_by f.cached (runs f.levels) i j same is
