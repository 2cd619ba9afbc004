use Rattle.mr_levels.specs.Levels.{runs}
use Rattle.mr_levels.proofs.Filing.{lists_by, live_by, offends_by}
use Rattle.mr_levels.proofs.laws.levels_are_their_files.Goals as goal

pub returns-clause-lists : goal.returns-clause-lists
returns-clause-lists c = λ s i j same. lists_by (runs s) i j same

pub returns-clause-whole : goal.returns-clause-whole
returns-clause-whole c = λ s i j same is. record { live = live_by (runs s) i j same is.live; apart = is.apart }

pub returns-clause-offences : goal.returns-clause-offences
returns-clause-offences c = λ s i j file at same any. offends_by (runs s) i j file at same any
