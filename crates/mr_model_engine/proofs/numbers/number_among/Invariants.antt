use Rattle.std.proofs.Common.{◌≡◌, drop}
use Rattle.mr_model_engine.specs.Worlds.{numbers_in}
use Rattle.mr_model_engine.proofs.numbers.number_among.Given as goal

abbrev pub invariant-loop-entry : goal.invariant-loop-entry
invariant-loop-entry l = numbers_in (drop l.entry-index l.numbers) l.table ≡ numbers_in l.numbers l.table
