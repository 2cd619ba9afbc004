use Rattle.std.specs.Prelude.{length}
use Rattle.mr_spec.specs.World.{seen_by}
use Rattle.mr_steps.proofs.LastDefined.{defined-later, defined-more, defined-most}
use Rattle.mr_steps.proofs.defining.stale_is_defined_later.Goals as goal

pub returns-clause-later : goal.returns-clause-later
returns-clause-later c = defined-later

pub returns-clause-stale : goal.returns-clause-stale
returns-clause-stale c = λ name w. defined-later name (seen_by w.here.txn (length w.commits)) w.commits

pub returns-clause-more : goal.returns-clause-more
returns-clause-more c = defined-more

pub returns-clause-most : goal.returns-clause-most
returns-clause-most c = defined-most
