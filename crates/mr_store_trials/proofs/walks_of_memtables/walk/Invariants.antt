use Rattle.mr_store_trials.proofs.walks_of_memtables.walk.Given as goal

abbrev pub invariant-walking : goal.invariant-walking
invariant-walking g l = Unit {0}

abbrev pub decreases-walking : goal.decreases-walking
decreases-walking g l = (g.C.Listed.cursor l.cursor).steps
