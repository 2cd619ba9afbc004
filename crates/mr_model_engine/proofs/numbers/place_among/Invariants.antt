use Rattle.std.proofs.Common.{◌≡◌, ◌+◌, drop}
use Rattle.mr_model_engine.specs.Worlds.{place_among}
use Rattle.mr_model_engine.proofs.numbers.place_among.Given as goal

abbrev pub invariant-loop-i : goal.invariant-loop-i
invariant-loop-i l = place_among l.table l.numbers ≡ l.i + place_among l.table (drop l.i l.numbers)
