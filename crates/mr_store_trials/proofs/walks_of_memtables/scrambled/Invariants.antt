use Rattle.mr_store_trials.proofs.walks_of_memtables.scrambled.Given as goal

abbrev pub invariant-adding : goal.invariant-adding
invariant-adding l = Unit {0}
