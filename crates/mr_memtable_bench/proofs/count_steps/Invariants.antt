use Rattle.mr_memtable_bench.proofs.count_steps.Given as goal

abbrev pub invariant-walking : goal.invariant-walking
invariant-walking g l = Unit {0}

abbrev pub decreases-walking : goal.decreases-walking
decreases-walking g l = (g.C.Listed.cursor l.cursor).steps
