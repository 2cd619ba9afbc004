use Rattle.mr_sound.proofs.Containing.{in-contains}
use Rattle.mr_sound.proofs.lists.elements_are_contained.Goals as goal

pub returns-clause-changes : goal.returns-clause-changes
returns-clause-changes c = in-contains

pub returns-clause-commits : goal.returns-clause-commits
returns-clause-commits c = in-contains

pub returns-clause-sessions : goal.returns-clause-sessions
returns-clause-sessions c = in-contains

pub returns-clause-statements : goal.returns-clause-statements
returns-clause-statements c = in-contains
